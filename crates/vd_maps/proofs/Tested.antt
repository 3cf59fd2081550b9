-- What the tests for joins one to one and for whole maps show.
use Rattle.std.proofs.Common.{◌≡◌, ◌<◌, ◌⊎◌, inl, inr, ℕ, zero, suc, Bool, true, false, not, List, [], ◌∷◌, length, Option, Some, refl, sym, ap, ◌∙◌, arith}
use Rattle.std.proofs.lemmas.Bool.{or_cases, or_left, or_right, and_parts, not-true}
use Rattle.std.proofs.lemmas.Slice.Eq.{bytes_eq-Decides}
use Rattle.std.specs.Prelude.{Contains, slice_get, slice_index_or, bytes_eq, ◌&&◌, if◌then◌else◌}
use Rattle.std.specs.List.{list_any, list_all}
use Rattle.vd_trees.specs.declared.rows.Row.{Row}
use Rattle.vd_resolved.specs.Trees.{ResolvedTree}
use Rattle.vd_meaning.specs.Building.{ScalarObject, Made}
use Rattle.vd_joins.specs.Joins.{Joining, map_of, object_names, gives_objects, joins}
use Rattle.vd_maps.specs.Marks.{marks_of, taken_by}
use Rattle.vd_maps.specs.SameRuns.{Joins}
use Rattle.vd_maps.specs.WholeMaps.{mode_text, is_kind_of, has_mark, has_kept_mark, IsTrueRow, HasOne}
use Rattle.vd_maps.specs.Tests.{is_one, join_one_to_one, is_true_row, is_true_where_it_joins, rows_are_true}
use Rattle.vd_maps.specs.Laws.{TestShowsOneToOne, TestShowsWhole}
use Rattle.vd_maps.proofs.Inputs.{signal_there}

-- ---- lists

all_get : {A : Type 0} (p : A → Bool) (xs : List A) (i : ℕ) (x : A) → list_all p xs ≡ true → slice_get xs i ≡ Some x → p x ≡ true
all_get p [] i x h e = cc
all_get p (y ∷ ys) zero x h e = let same : y ≡ x = cc in ap p (sym same) ∙ (and_parts (p y) (list_all p ys) h).0
all_get p (y ∷ ys) (suc i) x h e = all_get p ys i x (and_parts (p y) (list_all p ys) h).1 e

all_at : {A : Type 0} (p : A → Bool) (xs : List A) (k : ℕ) (x : A) → list_all p xs ≡ true → k < length xs → slice_index_or xs k x ≡ x → p x ≡ true
all_at p [] k x h b e = absurd (omega arith)
all_at p (y ∷ ys) zero x h b e = ap p (sym e) ∙ (and_parts (p y) (list_all p ys) h).0
all_at p (y ∷ ys) (suc k) x h b e = all_at p ys k x (and_parts (p y) (list_all p ys) h).1 (omega arith) e

any_get : {A : Type 0} (p : A → Bool) (xs : List A) (k : ℕ) (x : A) → slice_get xs k ≡ Some x → p x ≡ true → list_any p xs ≡ true
any_get p [] k x e h = cc
any_get p (y ∷ ys) zero x e h = let same : y ≡ x = cc in or_left (p y) (list_any p ys) (ap p same ∙ h)
any_get p (y ∷ ys) (suc k) x e h = or_right (p y) (list_any p ys) (any_get p ys k x e h)

-- ---- one that passes

record One {A : Type 0} (p : A → Bool) (xs : List A) : Type 0 where
  number : ℕ
  item : A
  at : slice_get xs number ≡ Some item
  passes : p item ≡ true
  only : (k : ℕ) (x : A) → slice_get xs k ≡ Some x → p x ≡ true → k ≡ number

only_first : {A : Type 0} (p : A → Bool) (y : A) (ys : List A) → list_any p ys ≡ false → (k : ℕ) (x : A) → slice_get (y ∷ ys) k ≡ Some x → p x ≡ true → k ≡ 0
only_first p y ys none zero x e h = refl
only_first p y ys none (suc k) x e h = let some = any_get p ys k x e h in cc

only_behind : {A : Type 0} (p : A → Bool) (y : A) (ys : List A) → p y ≡ false → (o : One p ys) (k : ℕ) (x : A) → slice_get (y ∷ ys) k ≡ Some x → p x ≡ true → k ≡ suc o.number
only_behind p y ys fails o zero x e h = let same : y ≡ x = cc in let holds : p y ≡ true = ap p same ∙ h in cc
only_behind p y ys fails o (suc k) x e h = ap suc (o.only k x e h)

one_by : {A : Type 0} (p : A → Bool) (y : A) (ys : List A) (b : Bool) → p y ≡ b → (if b then not (list_any p ys) else is_one p ys) ≡ true → (is_one p ys ≡ true → One p ys) → One p (y ∷ ys)
one_by p y ys true e h go = record { number = 0; item = y; at = refl; passes = e; only = only_first p y ys (not-true (list_any p ys) h) }
one_by p y ys false e h go =
    let o = go h in record { number = suc o.number; item = o.item; at = o.at; passes = o.passes; only = only_behind p y ys e o }

one_passes : {A : Type 0} (p : A → Bool) (xs : List A) → is_one p xs ≡ true → One p xs
one_passes p [] h = cc
one_passes p (y ∷ ys) h = one_by p y ys (p y) refl h (one_passes p ys)

-- ---- joins

one_object : (x y : ScalarObject) (o : Option ScalarObject) → o ≡ Some x → o ≡ Some y → x ≡ y
one_object x y o e f = cc

module _ (by : Joining) (m n : Made) where
  abbrev join_of : ScalarObject → ScalarObject → Bool
  join_of x y = joins by x.path y.path

  left_one : (i : ℕ) → i < length m.signals → list_all (λ (x : ScalarObject). is_one (λ (y : ScalarObject). joins by x.path y.path) n.signals) m.signals ≡ true → HasOne (λ j. Joins by m n i j)
  left_one i h t =
      let x = signal_there m.signals i h in
      let o = one_passes (join_of x.0) n.signals (all_get (λ (x : ScalarObject). is_one (λ (y : ScalarObject). joins by x.path y.path) n.signals) m.signals i x.0 t x.1) in
      record {
        number = o.number;
        is_related = record { left = x.0; right = o.item; left_is = x.1; right_is = o.at; join = o.passes };
        only = λ k r. o.only k r.right r.right_is (ap (λ z. join_of z r.right) (one_object x.0 r.left (slice_get m.signals i) x.1 r.left_is) ∙ r.join);
      }

  right_one : (j : ℕ) → j < length n.signals → list_all (λ (y : ScalarObject). is_one (λ (x : ScalarObject). joins by x.path y.path) m.signals) n.signals ≡ true → HasOne (λ i. Joins by m n i j)
  right_one j h t =
      let y = signal_there n.signals j h in
      let o = one_passes (λ x. join_of x y.0) m.signals (all_get (λ (y : ScalarObject). is_one (λ (x : ScalarObject). joins by x.path y.path) m.signals) n.signals j y.0 t y.1) in
      record {
        number = o.number;
        is_related = record { left = o.item; right = y.0; left_is = o.at; right_is = y.1; join = o.passes };
        only = λ k r. o.only k r.left r.left_is (ap (λ z. join_of r.left z) (one_object y.0 r.right (slice_get n.signals j) y.1 r.right_is) ∙ r.join);
      }

pub one_to_one : TestShowsOneToOne
one_to_one by m n h =
    let t = and_parts (list_all (λ (x : ScalarObject). is_one (λ (y : ScalarObject). joins by x.path y.path) n.signals) m.signals)
    (list_all (λ (y : ScalarObject). is_one (λ (x : ScalarObject). joins by x.path y.path) m.signals) n.signals) h in
    record { each_left = λ i b. left_one by m n i b t.0; each_right = λ j b. right_one by m n j b t.1 }

-- ---- rows

module _ (rs : List Row) (tree19 tree93 : ResolvedTree) where
  row_is_true : (x y : ScalarObject) (row : Row) → is_true_row rs tree19 tree93 x y row ≡ true → IsTrueRow rs tree19 tree93 row x y
  row_is_true x y row h =
      let marks19 = has_mark row.mark (marks_of tree19 x (taken_by row.name19 (object_names x.path) x.path.rest)) in
      let marks93 = has_kept_mark rs row.mark (marks_of tree93 y (taken_by row.name93 (object_names y.path) y.path.rest)) in
      let modes = bytes_eq row.mode (mode_text x.mode) && bytes_eq row.mode (mode_text y.mode) in
      let a = and_parts (is_kind_of row.kind x.mode x.path.object) (marks19 && (marks93 && modes)) h in
      let b = and_parts marks19 (marks93 && modes) a.1 in
      let c = and_parts marks93 modes b.1 in
      let d = and_parts (bytes_eq row.mode (mode_text x.mode)) (bytes_eq row.mode (mode_text y.mode)) c.1 in
      record { kind = a.0; mark = b.0; mark93 = c.0; mode = (bytes_eq-Decides _ _).0 d.0; mode93 = (bytes_eq-Decides _ _).0 d.1 }

  where_it_joins : (x y : ScalarObject) (row : Row) → gives_objects x.path y.path row ≡ true → (not (gives_objects x.path y.path row) ≡ true) ⊎ (is_true_row rs tree19 tree93 x y row ≡ true) → is_true_row rs tree19 tree93 x y row ≡ true
  where_it_joins x y row g (inl e) = let f = not-true (gives_objects x.path y.path row) e in cc
  where_it_joins x y row g (inr e) = e

  all_true : (m n : Made) → rows_are_true rs tree19 tree93 m.signals n.signals ≡ true → (i j : ℕ) → (z : Joins (map_of rs) m n i j) → (row : Row) → Contains rs row
      → gives_objects z.left.path z.right.path row ≡ true → IsTrueRow rs tree19 tree93 row z.left z.right
  all_true m n h i j z row c g =
      let of_left = all_get (λ (x : ScalarObject). list_all (λ (y : ScalarObject). list_all (is_true_where_it_joins rs tree19 tree93 x y) rs) n.signals) m.signals i z.left h z.left_is in
      let of_both = all_get (λ (y : ScalarObject). list_all (is_true_where_it_joins rs tree19 tree93 z.left y) rs) n.signals j z.right of_left z.right_is in
      let of_row = all_at (is_true_where_it_joins rs tree19 tree93 z.left z.right) rs c.0 row of_both c.1 c.2 in
      row_is_true z.left z.right row
      (where_it_joins z.left z.right row g (or_cases (not (gives_objects z.left.path z.right.path row)) (is_true_row rs tree19 tree93 z.left z.right row) of_row))

pub whole : TestShowsWhole
whole rs tree19 tree93 m n h =
    let t = and_parts (join_one_to_one (map_of rs) m.signals n.signals) (rows_are_true rs tree19 tree93 m.signals n.signals) h in
    record { one_to_one = one_to_one (map_of rs) m n t.0; rows_are_true = all_true rs tree19 tree93 m n t.1 }
