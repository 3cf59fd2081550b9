-- What is needed, by the generics that are left out, is what the definitions say.
use Rattle.std.proofs.Common.{◌≡◌, ◌+◌, ◌++◌, ◌&&◌, ◌||◌, ℕ, zero, suc, Bool, true, false, cond, not, List, [], ◌∷◌, Option, Some, None, is_some, map, drop, length, refl, sym, ap, ap₂, ◌∙◌, arith}
use Rattle.std.proofs.lemmas.List.{drop-drop}
use Rattle.vd_meaning.specs.NodeFacets.{Actual, Ports}
use Rattle.vd_meaning.specs.Hierarchies.{EntityText, entity_in, needed, takes_default}
use Rattle.vd_meaning.specs.Instances.{actual_for, named_actual, names_formal, nth_actual, or_placed, unless_open}
use Rattle.vd_meaning.specs.Facets.{Objects}
use Rattle.vd_port_facts.specs.Needed.{all_lefts, any_named, is_no_placed, left_out, lefts, needed_by, open_for, with_names}
use Rattle.vd_port_facts.specs.Reading.{generics_or_none, numbers_of, part_first, read_actual, read_or_none}
use Rattle.vd_port_facts.specs.Tables.{AreFacts, generics_found, ports_found}
use Rattle.vd_port_facts.specs.declared.actuals.ListedActual.{ListedActual}
use Rattle.vd_port_facts.specs.declared.entities.ListedEntity.{ListedEntity}
use Rattle.vd_port_facts.specs.declared.ports.ListedPorts.{ListedPorts}
use Rattle.vd_port_lists.proofs.PartLemmas.{part_skipped}
use Rattle.vd_port_modes.specs.Source.{Source, design_in}
use Rattle.vd_forest.specs.Forest.{Forest, skipped}
use Rattle.vd_meaning.specs.Tables.{Table}
use Rattle.vd_resolved.specs.Trees.{ResolvedTree}
use Rattle.vd_resolved.specs.declared.node.Resolved.{Resolved}
use Rattle.vd_trees.specs.declared.revision.Revision.{Revision}
use Rattle.vd_value_rules.specs.Actuals.{generic_actuals_of, has_default, has_default_of, named_in_ports, named_with_defaults}
use Rattle.vd_value_rules.specs.Designs.{design_of, is_listed, port_of}

and_true : (c : Bool) → (c && true) ≡ c
and_true true = refl
and_true false = refl

and_false : (c : Bool) → (c && false) ≡ false
and_false true = refl
and_false false = refl

-- ---- whether a generic is left out

module _ (as' : List Actual) where
  abbrev read : List Actual → List ListedActual
  read xs = map read_actual xs

  -- whether there is no actual, if it isn't open
  abbrev is_none_open : Option Actual → Bool
  is_none_open o = not (is_some (unless_open o))

  opened : (b : Bool) (a : Actual) → not (is_some (cond b None (Some a))) ≡ b
  opened true a = refl
  opened false a = refl

  placed_by : (f : Bool) (a : Actual) → is_none_open (cond f None (Some a)) ≡ (f || a.meaning.is_open)
  placed_by true a = refl
  placed_by false a = opened a.meaning.is_open a

  placed_out : (k : ℕ) (xs : List Actual) → is_none_open (nth_actual k xs) ≡ is_no_placed (drop k (read xs))
  placed_out zero [] = refl
  placed_out (suc k) [] = refl
  placed_out zero (a ∷ xs) = placed_by (is_some a.formal) a
  placed_out (suc k) (a ∷ xs) = placed_out k xs

  either_by : (b : Bool) (a : Actual) (found placed : Option Actual) (rest : Option Bool) (out : Bool)
      → is_none_open (or_placed found placed) ≡ left_out rest out
      → is_none_open (or_placed (cond b (Some a) found) placed) ≡ left_out (cond b (Some a.meaning.is_open) rest) out
  either_by true a found placed rest out is = opened a.meaning.is_open a
  either_by false a found placed rest out is = is

  named_out : (d : ℕ) (placed : Option Actual) (out : Bool) → is_none_open placed ≡ out → (xs : List Actual)
      → is_none_open (or_placed (named_actual d xs) placed) ≡ left_out (open_for (read xs) d) out
  named_out d placed out is [] = is
  named_out d placed out is (a ∷ xs) =
      either_by (names_formal d a) a (named_actual d xs) placed (open_for (read xs) d) out (named_out d placed out is xs)

  pub is_left_out : (k d : ℕ) → not (is_some (actual_for k d as')) ≡ left_out (open_for (read as') d) (is_no_placed (drop k (read as')))
  is_left_out k d = named_out d (nth_actual k as') (is_no_placed (drop k (read as'))) (placed_out k as') as'

  -- ---- which of the generics that are declared together are left out and named

  behind_one : {A : Type 0} (k : ℕ) (xs : List A) → drop 1 (drop k xs) ≡ drop (suc k) xs
  behind_one zero [] = refl
  behind_one zero (x ∷ xs) = refl
  behind_one (suc k) [] = refl
  behind_one (suc k) (x ∷ xs) = behind_one k xs

  any_by : (b : Bool) (named : List ℕ) (d : ℕ) (ds : List ℕ) → ((is_listed d named && b) || any_named named ds) ≡ any_named named (cond b (d ∷ ds) ds)
  any_by true named d ds = ap (λ c. c || any_named named ds) (and_true (is_listed d named))
  any_by false named d ds = ap (λ c. c || any_named named ds) (and_false (is_listed d named))

  takes : (named : List ℕ) (k : ℕ) (rest : List ListedActual) (ds : List ℕ) → rest ≡ drop k (read as')
      → takes_default named (λ k d. actual_for k d as') k ds ≡ any_named named (lefts (read as') rest ds)
  takes named k rest [] is = refl
  takes named k rest (d ∷ ds) is =
      ap₂ (λ b r. (is_listed d named && b) || r)
      (is_left_out k d ∙ ap (λ xs. left_out (open_for (read as') d) (is_no_placed xs)) (sym is))
      (takes named (suc k) (drop 1 rest) ds (ap (drop 1) is ∙ behind_one k (read as')))
      ∙ any_by (left_out (open_for (read as') d) (is_no_placed rest)) named d (lefts (read as') (drop 1 rest) ds)

  needs : (k : ℕ) (rest : List ListedActual) (os : List Objects) (defaults : List (List ℕ)) (named : List ℕ) → rest ≡ drop k (read as')
      → needed (λ k d. actual_for k d as') k os defaults named ≡ needed_by (all_lefts (read as') rest (map numbers_of os)) defaults named
  needs k rest [] defaults named is = refl
  needs k rest (o ∷ os) [] named is = refl
  needs k rest (o ∷ os) (names ∷ defaults) named is =
      let inner = needed_by (all_lefts (read as') (drop (length o.numbers) rest) (map numbers_of os)) defaults named in
      ap (λ ns. with_names (takes_default ns (λ k d. actual_for k d as') k o.numbers) names ns)
      (needs (k + length o.numbers) (drop (length o.numbers) rest) os defaults named
      (ap (drop (length o.numbers)) is ∙ drop-drop (length o.numbers) k (read as')))
      ∙ ap (λ b. with_names b names inner) (takes inner k rest o.numbers is)

-- ---- of an entity and a port, where there are such

with_defaults : (e : Option EntityText) (as' : List Actual) (named : List ℕ)
    → needed_by (all_lefts (map read_actual as') (map read_actual as') (generics_or_none e).objects) (generics_or_none e).defaults named
    ≡ named_with_defaults e as' named
with_defaults None as' named = refl
with_defaults (Some e) as' named = sym (needs as' 0 (map read_actual as') e.generics.objects e.generics.defaults named refl)

names_of_port : (p : Option Ports) → (read_or_none p).named ≡ named_in_ports p
names_of_port None = refl
names_of_port (Some p) = refl

default_of_port : (p : Option Ports) → (read_or_none p).has_default ≡ has_default_of p
default_of_port None = refl
default_of_port (Some p) = refl

pub default_answered : {r : Revision} {tree : ResolvedTree} {places : ℕ → Option ℕ} {ps : List ListedPorts} {names : List ℕ → Option ℕ} {xs : List ListedEntity}
    → AreFacts r tree places ps names xs → (s : Source) (port : ℕ) (ps' : List ListedPorts) (place : Option ℕ) (x : Bool)
    → record { revision = r; tree = tree } ≡ s → ps' ≡ ps → place ≡ places port → x ≡ (ports_found ps' place).has_default
    → x ≡ has_default (design_in s) port
default_answered {r} {tree} {places} {ps} are s port ps' place x is_source is_ps is_place is =
    is ∙ ap₂ (λ qs o. (ports_found qs o).has_default) is_ps is_place
    ∙ ap (λ p. p.has_default) (are.ports_are port) ∙ default_of_port (port_of (design_of r tree) port)
    ∙ ap (λ z. has_default (design_in z) port) is_source

-- what is answered of a port and an entity by the tables
pub needs_answered : {r : Revision} {tree : ResolvedTree} {places : ℕ → Option ℕ} {ps : List ListedPorts} {names : List ℕ → Option ℕ} {xs : List ListedEntity}
    → AreFacts r tree places ps names xs → (s : Source) (entity port : ℕ) (trees : Forest Resolved)
    → (name : List ℕ) (place found : Option ℕ) (ps' : List ListedPorts) (xs' ys : List ListedEntity) (named : List ℕ) (objects defaults : List (List ℕ))
    → (as' : List ListedActual) (dss dss' : List (List ℕ)) (answer : List ℕ)
    → record { revision = r; tree = tree } ≡ s
    → name ≡ ((design_of r tree).table.declared entity).name
    → place ≡ places port → found ≡ names name
    → ps' ≡ ps → named ≡ (ports_found ps' place).named
    → xs' ≡ xs → objects ≡ (generics_found xs' found).objects
    → ys ≡ xs → defaults ≡ (generics_found ys found).defaults
    → ((t : Table) → as' ≡ map read_actual (part_first t (skipped 2 trees)).actuals)
    → dss ≡ all_lefts as' as' objects → dss' ≡ dss → answer ≡ needed_by dss' defaults named
    → answer ≡ named_with_defaults (entity_in None (design_in s).units.units ((design_in s).table.declared entity).name)
    (generic_actuals_of (design_in s) trees) (named_in_ports (port_of (design_in s) port))
needs_answered {r} {tree} {places} {ps} {names} {xs} are s entity port trees name place found ps' xs' ys named objects defaults as' dss dss' answer
    is_source is_name is_place is_found is_ps is_named is_xs is_objects is_ys is_defaults is_actuals is_dss is_same is =
    let d = design_of r tree in
    let acts = generic_actuals_of d trees in
    let e = entity_in None d.units.units (d.table.declared entity).name in
    let found_is : names name ≡ names (d.table.declared entity).name = ap names is_name in
    is ∙ ap (λ zs. needed_by zs defaults named) (is_same ∙ is_dss)
    ∙ ap₂ (λ zs gs. needed_by (all_lefts zs zs gs) defaults named) (is_actuals d.table ∙ ap (λ p. map read_actual p.actuals) (sym (part_skipped d.table 2 trees)))
    (is_objects ∙ ap₂ (λ zs o. (generics_found zs o).objects) is_xs (is_found ∙ found_is) ∙ ap (λ g. g.objects) (are.generics_are (d.table.declared entity).name))
    ∙ ap₂ (λ zs ns. needed_by (all_lefts (map read_actual acts) (map read_actual acts) (generics_or_none e).objects) zs ns)
    (is_defaults ∙ ap₂ (λ zs o. (generics_found zs o).defaults) is_ys (is_found ∙ found_is) ∙ ap (λ g. g.defaults) (are.generics_are (d.table.declared entity).name))
    (is_named ∙ ap₂ (λ qs o. (ports_found qs o).named) is_ps is_place ∙ ap (λ p. p.named) (are.ports_are port) ∙ names_of_port (port_of d port))
    ∙ with_defaults e acts (named_in_ports (port_of d port))
    ∙ ap (λ z. named_with_defaults (entity_in None (design_in z).units.units ((design_in z).table.declared entity).name) (generic_actuals_of (design_in z) trees) (named_in_ports (port_of (design_in z) port))) is_source
