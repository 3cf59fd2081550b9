-- What the tests for indexes, labels, levels and rows say.
use Rattle.std.proofs.Common.{◌≡◌, ◌<◌, ◌⊎◌, inl, inr, ℕ, zero, suc, Bool, true, false, List, [], ◌∷◌, length, Option, Some, None, refl, sym, ap, ◌∙◌, arith}
use Rattle.std.proofs.lemmas.Bool.{or_cases, or_left, or_right, and_parts, and_from}
use Rattle.std.proofs.lemmas.Bool.Decides.{Decides-and, Decides-like, Decides-int_eq}
use Rattle.std.proofs.lemmas.Slice.Eq.{bytes_eq-Decides}
use Rattle.std.specs.Bool.{Decides}
use Rattle.std.specs.Prelude.{Contains, slice_index_or, bytes_eq, ◌&&◌, ◌||◌}
use Rattle.std.specs.List.{list_any}
use Rattle.std.specs.Ordering.{int_eq}
use Rattle.vd_trees.specs.declared.paths.PathIndex.{PathIndex}
use Rattle.vd_trees.specs.declared.paths.PathStep.{PathStep}
use Rattle.vd_trees.specs.declared.paths.PathStep.TheVariants.{Field, Index}
use Rattle.vd_trees.specs.declared.paths.Label.{Label}
use Rattle.vd_trees.specs.declared.paths.Level.{Level}
use Rattle.vd_trees.specs.declared.rows.Row.{Row}
use Rattle.vd_trees.specs.declared.rows.RowKind.{RowKind}
use Rattle.vd_trees.specs.declared.rows.RowKind.TheVariants.{Port, Signal, Implicit, TypeName}
use Rattle.vd_trees.specs.declared.rows.RowKind.TheVariants.{Label as LabelRow}
use Rattle.vd_trees.specs.Paths.{dotted}
use Rattle.vd_first_names.specs.Joins.{label_names, architecture_unit, object_unit, SameIndexes, HasRow, LabelsJoin, LevelJoins, LevelsJoin, IsLast, IsObject}
use Rattle.vd_joins.specs.Joins.{map_of, same_index, same_label_index, same_indexes, same_step, same_steps, is_label, is_row_of_labels, gives_labels, are_none, labels_join, level_joins, levels_join, last_level, is_object, stands_at}

-- ---- rows among others

pub record Found {X : Type 0} (p : X → Bool) (xs : List X) : Type 0 where
  pub item : X
  pub stands : Contains xs item
  pub passes : p item ≡ true

found_behind : {X : Type 0} (p : X → Bool) (x : X) (xs : List X) → Found p xs → Found p (x ∷ xs)
found_behind p x xs f =
    record { item = f.item; stands = (suc f.stands.0, let h = f.stands.1 in omega arith, f.stands.2); passes = f.passes }

found_by : {X : Type 0} (p : X → Bool) (x : X) (xs : List X) → (p x ≡ true) ⊎ (list_any p xs ≡ true) → (list_any p xs ≡ true → Found p xs) → Found p (x ∷ xs)
found_by p x xs (inl h) go = record { item = x; stands = (0, omega arith, refl); passes = h }
found_by p x xs (inr h) go = found_behind p x xs (go h)

pub found : {X : Type 0} (p : X → Bool) (xs : List X) → list_any p xs ≡ true → Found p xs
found p [] h = cc
found p (x ∷ xs) h = found_by p x xs (or_cases (p x) (list_any p xs) h) (found p xs)

any_at : {X : Type 0} (p : X → Bool) (xs : List X) (k : ℕ) (x : X) → k < length xs → slice_index_or xs k x ≡ x → p x ≡ true → list_any p xs ≡ true
any_at p [] k x b e h = absurd (omega arith)
any_at p (y ∷ ys) zero x b e h = or_left (p y) (list_any p ys) (ap p e ∙ h)
any_at p (y ∷ ys) (suc k) x b e h = or_right (p y) (list_any p ys) (any_at p ys k x (omega arith) e h)

pub any_there : {X : Type 0} (p : X → Bool) (xs : List X) (x : X) → Contains xs x → p x ≡ true → list_any p xs ≡ true
any_there p xs x c h = any_at p xs c.0 x c.1 c.2 h

-- ---- indexes

nothing_true : {P : Type 0} → (P → ⊥) → Decides false P
nothing_true f = (λ e. cc, λ x. absurd (f x))

index_decides : (i j : PathIndex) → Decides (same_index i j) (i ≡ j)
index_decides i j =
    Decides-like (same_index i j) (λ e. record_same e.0 e.1) (λ e. (ap (λ x. x.position) e, ap (λ x. x.text) e))
    (Decides-and (int_eq i.position j.position) (bytes_eq i.text j.text) (Decides-int_eq i.position j.position) (bytes_eq-Decides i.text j.text))
  where
    record_same : i.position ≡ j.position → i.text ≡ j.text → i ≡ j
    record_same p t = λ k. record { position = p k; text = t k }

pub label_index_decides : (a b : Option PathIndex) → Decides (same_label_index a b) (a ≡ b)
label_index_decides None None = (λ e. refl, λ e. refl)
label_index_decides None (Some j) = nothing_true (λ e. cc)
label_index_decides (Some i) None = nothing_true (λ e. cc)
label_index_decides (Some i) (Some j) = Decides-like (same_index i j) (λ e. ap Some e) (λ e. cc) (index_decides i j)

pub indexes_decide : (ls ms : List Label) → Decides (same_indexes ls ms) (SameIndexes ls ms)
indexes_decide [] [] = (λ e. tt, λ e. refl)
indexes_decide [] (m ∷ ms) = nothing_true (λ e. e)
indexes_decide (l ∷ ls) [] = nothing_true (λ e. e)
indexes_decide (l ∷ ls) (m ∷ ms) = Decides-and (same_label_index l.index m.index) (same_indexes ls ms) (label_index_decides l.index m.index) (indexes_decide ls ms)

step_decides : (x y : PathStep) → Decides (same_step x y) (x ≡ y)
step_decides (Field f) (Field g) = Decides-like (bytes_eq f g) (λ e. ap Field e) (λ e. cc) (bytes_eq-Decides f g)
step_decides (Field f) (Index j) = nothing_true (λ e. cc)
step_decides (Index i) (Field g) = nothing_true (λ e. cc)
step_decides (Index i) (Index j) = Decides-like (same_index i j) (λ e. ap Index e) (λ e. cc) (index_decides i j)

pub steps_decide : (xs ys : List PathStep) → Decides (same_steps xs ys) (xs ≡ ys)
steps_decide [] [] = (λ e. refl, λ e. refl)
steps_decide [] (y ∷ ys) = nothing_true (λ e. cc)
steps_decide (x ∷ xs) [] = nothing_true (λ e. cc)
steps_decide (x ∷ xs) (y ∷ ys) =
    Decides-like (same_step x y && same_steps xs ys) (λ e. let a = e.0 in let b = e.1 in cc) (λ e. (heads e, tails e))
    (Decides-and (same_step x y) (same_steps xs ys) (step_decides x y) (steps_decide xs ys))
  where
    heads : (x ∷ xs) ≡ (y ∷ ys) → x ≡ y
    heads e = cc

    tails : (x ∷ xs) ≡ (y ∷ ys) → xs ≡ ys
    tails e = cc

-- ---- labels

label_kind : (k : RowKind) → is_label k ≡ true → k ≡ LabelRow
label_kind Port e = cc
label_kind Signal e = cc
label_kind Implicit e = cc
label_kind LabelRow e = refl
label_kind TypeName e = cc

module _ (rs : List Row) where
  -- a row that passes the test is one that the relation wants
  row_of_labels : (unit : List ℕ) (ls ms : List Label) → Found (gives_labels unit ls ms) rs → HasRow rs LabelRow unit (dotted (label_names ls)) (dotted (label_names ms))
  row_of_labels unit ls ms f =
      let row = f.item in
      let a = and_parts (is_row_of_labels unit ls row) (bytes_eq row.name93 (dotted (label_names ms))) f.passes in
      let b = and_parts (is_label row.kind) (bytes_eq row.unit unit && bytes_eq row.name19 (dotted (label_names ls))) a.0 in
      let c = and_parts (bytes_eq row.unit unit) (bytes_eq row.name19 (dotted (label_names ls))) b.1 in
      record {
        row = row;
        stands = f.stands;
        kind_is = label_kind row.kind b.0;
        unit_is = (bytes_eq-Decides _ _).0 c.0;
        name19_is = (bytes_eq-Decides _ _).0 c.1;
        name93_is = (bytes_eq-Decides _ _).0 a.1;
      }

  labels_of_row : (unit : List ℕ) (ls ms : List Label) → HasRow rs LabelRow unit (dotted (label_names ls)) (dotted (label_names ms)) → list_any (gives_labels unit ls ms) rs ≡ true
  labels_of_row unit ls ms h =
      any_there (gives_labels unit ls ms) rs h.row h.stands
      (and_from _ _ (and_from _ _ (ap is_label h.kind_is) (and_from _ _ ((bytes_eq-Decides _ _).1 h.unit_is) ((bytes_eq-Decides _ _).1 h.name19_is))) ((bytes_eq-Decides _ _).1 h.name93_is))

  row_decides : (unit : List ℕ) (ls ms : List Label) → Decides (list_any (gives_labels unit ls ms) rs) (HasRow rs LabelRow unit (dotted (label_names ls)) (dotted (label_names ms)))
  row_decides unit ls ms = (λ e. row_of_labels unit ls ms (found (gives_labels unit ls ms) rs e), labels_of_row unit ls ms)

  none_decides : (ls ms : List Label) → Decides (are_none ls ms) ((ls ≡ []) × (ms ≡ []))
  none_decides [] [] = (λ e. (refl, refl), λ e. refl)
  none_decides [] (m ∷ ms) = nothing_true (λ e. let x = e.1 in cc)
  none_decides (l ∷ ls) ms = nothing_true (λ e. let x = e.0 in cc)

  -- in the join of a map no label stays as it is
  or_stays : (x y : Bool) {P Q : Type 0} → Decides x P → Decides y Q → Decides (x || (y || false)) (P ⊎ Q)
  or_stays true y p q = (λ e. inl (p.0 refl), λ e. refl)
  or_stays false true p q = (λ e. inr (q.0 refl), λ e. refl)
  or_stays false false p q = (λ e. cc, λ e. elim e [ inl a ↦ p.1 a | inr b ↦ q.1 b ])

  pub labels_decide : (unit : List ℕ) (ls ms : List Label) → Decides (labels_join (map_of rs) unit ls ms) (LabelsJoin rs unit ls ms)
  labels_decide unit ls ms =
      Decides-and (same_indexes ls ms) _ (indexes_decide ls ms)
      (or_stays (are_none ls ms) (list_any (gives_labels unit ls ms) rs) (none_decides ls ms) (row_decides unit ls ms))

  -- ---- levels

  level_decides : (above : List ℕ) (l m : Level) → Decides (level_joins (map_of rs) above l m) (LevelJoins rs above l m)
  level_decides above l m =
      Decides-like (level_joins (map_of rs) above l m) (λ e. record { entity = e.0; architecture = e.1.0; labels = e.1.1 }) (λ e. (e.entity, (e.architecture, e.labels)))
      (Decides-and (bytes_eq l.entity m.entity) _ (bytes_eq-Decides l.entity m.entity)
      (Decides-and (bytes_eq l.architecture m.architecture) _ (bytes_eq-Decides l.architecture m.architecture) (labels_decide above l.labels m.labels)))

  pub levels_decide : (above : List ℕ) (ls ms : List Level) → Decides (levels_join (map_of rs) above ls ms) (LevelsJoin rs above ls ms)
  levels_decide above [] [] = (λ e. tt, λ e. refl)
  levels_decide above [] (m ∷ ms) = nothing_true (λ e. e)
  levels_decide above (l ∷ ls) [] = nothing_true (λ e. e)
  levels_decide above (l ∷ ls) (m ∷ ms) =
      Decides-and (level_joins (map_of rs) above l m) (levels_join (map_of rs) (architecture_unit l) ls ms) (level_decides above l m) (levels_decide (architecture_unit l) ls ms)

-- ---- the last level

pub last_is : (levels : List Level) (level : Level) → IsLast level levels → last_level levels ≡ Some level
last_is [] level h = absurd h
last_is (l ∷ []) level h = ap Some (sym h)
last_is (l ∷ m ∷ ms) level h = last_is (m ∷ ms) level h

pub is_last : (levels : List Level) (level : Level) → last_level levels ≡ Some level → IsLast level levels
is_last [] level e = cc
is_last (l ∷ []) level e = let h : l ≡ level = cc in sym h
is_last (l ∷ m ∷ ms) level e = is_last (m ∷ ms) level e

-- ---- kinds and units of rows for objects

pub object_kind : (k : RowKind) → Decides (is_object k) (IsObject k)
object_kind Port = (λ e. tt, λ e. refl)
object_kind Signal = (λ e. tt, λ e. refl)
object_kind Implicit = (λ e. tt, λ e. refl)
object_kind LabelRow = nothing_true (λ e. e)
object_kind TypeName = nothing_true (λ e. e)

pub record StandsAt (row : Row) (levels : List Level) : Type 0 where
  pub level : Level
  pub last : IsLast level levels
  pub unit : row.unit ≡ object_unit row.kind level

pub stands_by : (row : Row) (levels : List Level) (o : Option Level) → last_level levels ≡ o → stands_at row o ≡ true → StandsAt row levels
stands_by row levels None e h = cc
stands_by row levels (Some level) e h = record { level = level; last = is_last levels level e; unit = (bytes_eq-Decides _ _).0 h }

pub stands_there : (row : Row) (levels : List Level) (level : Level) → IsLast level levels → row.unit ≡ object_unit row.kind level → stands_at row (last_level levels) ≡ true
stands_there row levels level h e = ap (stands_at row) (last_is levels level h) ∙ (bytes_eq-Decides _ _).1 e
