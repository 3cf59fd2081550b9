-- Without rows equal paths and places join, and no others.
use Rattle.std.proofs.Common.{◌≡◌, ◌⊎◌, inl, inr, ℕ, true, false, List, [], ◌∷◌, Option, Some, None, refl, ap}
use Rattle.std.proofs.lemmas.Bool.{or_cases, or_right, and_parts, and_from}
use Rattle.std.proofs.lemmas.Bool.Decides.{Decides-and, Decides-like}
use Rattle.std.proofs.lemmas.Slice.Eq.{bytes_eq-Decides}
use Rattle.std.specs.Bool.{Decides}
use Rattle.std.specs.Prelude.{bytes_eq, ◌&&◌, ◌||◌}
use Rattle.vd_trees.specs.declared.paths.Label.{Label}
use Rattle.vd_trees.specs.declared.paths.Level.{Level}
use Rattle.vd_trees.specs.declared.paths.Path.{Path}
use Rattle.vd_first_names.specs.Joins.{architecture_unit}
use Rattle.vd_joins.specs.Joins.{pass_with, same_label_index, same_indexes, same_names, same_steps, are_none, labels_join, level_joins, levels_join, last_level, generates_join, joins, scopes_join}
use Rattle.vd_maps.specs.Laws.{EqualPathsJoin, EqualScopesJoin}
use Rattle.vd_maps.proofs.Tests.{label_index_decides, steps_decide}

always : Decides true (Unit {0})
always = (λ e. tt, λ e. refl)

never : {P : Type 0} → (P → ⊥) → Decides false P
never f = (λ e. cc, λ x. absurd (f x))

-- ---- labels

abbrev EqualLabels : List Label → List Label → Type 0
EqualLabels ls ms = Decides (same_indexes ls ms && same_names ls ms) (ls ≡ ms)

module _ (l m : Label) (ls ms : List Label) where
  one_label : l.index ≡ m.index → l.name ≡ m.name → l ≡ m
  one_label i n = λ k. record { index = i k; name = n k }

  more_equal : EqualLabels ls ms → ((same_label_index l.index m.index && same_indexes ls ms) && (bytes_eq l.name m.name && same_names ls ms)) ≡ true → (l ∷ ls) ≡ (m ∷ ms)
  more_equal d h =
      let a = and_parts (same_label_index l.index m.index && same_indexes ls ms) (bytes_eq l.name m.name && same_names ls ms) h in
      let b = and_parts (same_label_index l.index m.index) (same_indexes ls ms) a.0 in
      let c = and_parts (bytes_eq l.name m.name) (same_names ls ms) a.1 in
      let first : l ≡ m = one_label ((label_index_decides l.index m.index).0 b.0) ((bytes_eq-Decides l.name m.name).0 c.0) in
      let rest : ls ≡ ms = d.0 (and_from _ _ b.1 c.1) in
      cc

  more_same : EqualLabels ls ms → l ≡ m → ls ≡ ms → ((same_label_index l.index m.index && same_indexes ls ms) && (bytes_eq l.name m.name && same_names ls ms)) ≡ true
  more_same d first rest =
      let r = and_parts (same_indexes ls ms) (same_names ls ms) (d.1 rest) in
      and_from _ _ (and_from _ _ ((label_index_decides l.index m.index).1 (ap (λ x. x.index) first)) r.0)
      (and_from _ _ ((bytes_eq-Decides l.name m.name).1 (ap (λ x. x.name) first)) r.1)

  first_label : (l ∷ ls) ≡ (m ∷ ms) → l ≡ m
  first_label e = cc

  further_labels : (l ∷ ls) ≡ (m ∷ ms) → ls ≡ ms
  further_labels e = cc

-- they are equal where their indexes and names are
labels_decide : (ls ms : List Label) → EqualLabels ls ms
labels_decide [] [] = (λ e. refl, λ e. refl)
labels_decide [] (m ∷ ms) = never (λ e. cc)
labels_decide (l ∷ ls) [] = never (λ e. cc)
labels_decide (l ∷ ls) (m ∷ ms) =
    let d = labels_decide ls ms in (more_equal l m ls ms d, λ e. more_same l m ls ms d (first_label l m ls ms e) (further_labels l m ls ms e))

none_are_equal : (ls ms : List Label) → are_none ls ms ≡ true → ls ≡ ms
none_are_equal [] [] e = refl
none_are_equal [] (m ∷ ms) e = cc
none_are_equal (l ∷ ls) ms e = cc

stay_equal : (ls ms : List Label) → same_indexes ls ms ≡ true → (are_none ls ms ≡ true) ⊎ ((same_names ls ms && true) ≡ true) → ls ≡ ms
stay_equal ls ms i (inl e) = none_are_equal ls ms e
stay_equal ls ms i (inr e) = (labels_decide ls ms).0 (and_from _ _ i (and_parts (same_names ls ms) true e).0)

labels_stay_equal : (unit : List ℕ) (ls ms : List Label) → Decides (labels_join (pass_with []) unit ls ms) (ls ≡ ms)
labels_stay_equal unit ls ms = (
  λ h. let a = and_parts (same_indexes ls ms) (are_none ls ms || (same_names ls ms && true)) h in stay_equal ls ms a.0 (or_cases (are_none ls ms) (same_names ls ms && true) a.1),
  λ e. let a = and_parts (same_indexes ls ms) (same_names ls ms) ((labels_decide ls ms).1 e) in and_from _ _ a.0 (or_right (are_none ls ms) (same_names ls ms && true) (and_from _ _ a.1 refl)),
)

-- ---- levels

level_decides : (above : List ℕ) (l m : Level) → Decides (level_joins (pass_with []) above l m) (l ≡ m)
level_decides above l m =
    Decides-like (level_joins (pass_with []) above l m) (λ e. λ k. record { entity = e.0 k; architecture = e.1.0 k; labels = e.1.1 k })
    (λ e. (ap (λ x. x.entity) e, (ap (λ x. x.architecture) e, ap (λ x. x.labels) e)))
    (Decides-and (bytes_eq l.entity m.entity) _ (bytes_eq-Decides l.entity m.entity)
    (Decides-and (bytes_eq l.architecture m.architecture) _ (bytes_eq-Decides l.architecture m.architecture) (labels_stay_equal above l.labels m.labels)))

levels_decide : (above : List ℕ) (ls ms : List Level) → Decides (levels_join (pass_with []) above ls ms) (ls ≡ ms)
levels_decide above [] [] = (λ e. refl, λ e. refl)
levels_decide above [] (m ∷ ms) = never (λ e. cc)
levels_decide above (l ∷ ls) [] = never (λ e. cc)
levels_decide above (l ∷ ls) (m ∷ ms) =
    Decides-like (level_joins (pass_with []) above l m && levels_join (pass_with []) (architecture_unit l) ls ms) (λ e. let a = e.0 in let b = e.1 in cc) (λ e. (heads e, tails e))
    (Decides-and (level_joins (pass_with []) above l m) (levels_join (pass_with []) (architecture_unit l) ls ms) (level_decides above l m) (levels_decide (architecture_unit l) ls ms))
  where
    heads : (l ∷ ls) ≡ (m ∷ ms) → l ≡ m
    heads e = cc

    tails : (l ∷ ls) ≡ (m ∷ ms) → ls ≡ ms
    tails e = cc

-- ---- paths

object_decides : (p q : Path) → Decides (same_names p.generates q.generates && (bytes_eq p.object q.object && (same_steps p.rest q.rest && true))) ((same_names p.generates q.generates ≡ true) × ((p.object ≡ q.object) × ((p.rest ≡ q.rest) × Unit {0})))
object_decides p q =
    Decides-and (same_names p.generates q.generates) _ (λ e. e, λ e. e)
    (Decides-and (bytes_eq p.object q.object) _ (bytes_eq-Decides p.object q.object) (Decides-and (same_steps p.rest q.rest) true (steps_decide p.rest q.rest) always))

module _ (p q : Path) where
  path_from : joins (pass_with []) p q ≡ true → p ≡ q
  path_from h =
      let a = and_parts (levels_join (pass_with []) [] p.levels q.levels) _ h in
      let b = and_parts (same_indexes p.generates q.generates) _ a.1 in
      let c = (object_decides p q).0 b.1 in
      let levels : p.levels ≡ q.levels = (levels_decide [] p.levels q.levels).0 a.0 in
      let generates : p.generates ≡ q.generates = (labels_decide p.generates q.generates).0 (and_from _ _ b.0 c.0) in
      λ k. record { levels = levels k; generates = generates k; object = c.1.0 k; rest = c.1.1.0 k }

  path_to : p ≡ q → joins (pass_with []) p q ≡ true
  path_to e =
      let a = and_parts (same_indexes p.generates q.generates) (same_names p.generates q.generates) ((labels_decide p.generates q.generates).1 (ap (λ x. x.generates) e)) in
      and_from _ _ ((levels_decide [] p.levels q.levels).1 (ap (λ x. x.levels) e))
      (and_from _ _ a.0 ((object_decides p q).1 (a.1, (ap (λ x. x.object) e, (ap (λ x. x.rest) e, tt)))))

pub equal_paths : EqualPathsJoin
equal_paths p q = (path_from p q, path_to p q)

-- ---- scopes

around_decides : (o : Option Level) (ls ms : List Label) → Decides (generates_join (pass_with []) o ls ms) (ls ≡ ms)
around_decides None ls ms = labels_decide ls ms
around_decides (Some level) ls ms = labels_stay_equal (architecture_unit level) ls ms

pub equal_scopes : EqualScopesJoin
equal_scopes s t =
    Decides-like (scopes_join (pass_with []) s t) (λ e. λ k. record { levels = e.0 k; generates = e.1.0 k; unit = e.1.1 k })
    (λ e. (ap (λ x. x.levels) e, (ap (λ x. x.generates) e, ap (λ x. x.unit) e)))
    (Decides-and (levels_join (pass_with []) [] s.levels t.levels) _ (levels_decide [] s.levels t.levels)
    (Decides-and (generates_join (pass_with []) (last_level s.levels) s.generates t.generates) _ (around_decides (last_level s.levels) s.generates t.generates)
    (bytes_eq-Decides s.unit t.unit)))
