-- A tree that has a top elaborates it, or ends with a stop or a limit.
use Rattle.std.proofs.Common.{◌≡◌, ◌⊎◌, inl, inr, ℕ, Bool, true, false, List, [], ◌∷◌, ◌++◌, map, Option, Some, None, Ok, Err, refl, sym, ap, ◌∙◌, subst}
use Rattle.std.proofs.lemmas.Bool.{or_cases, or_left, or_right}
use Rattle.std.proofs.lemmas.List.Folds.{list_any-append}
use Rattle.std.specs.Prelude.{bytes_eq, ◌&&◌, ◌||◌, if◌then◌else◌}
use Rattle.std.specs.List.{list_any, AllByRecursion}
use Rattle.vd_bytes.specs.declared.places.Place.{Place}
use Rattle.vd_forest.specs.Forest.{Forest, nothing, more, text_of, next_of}
use Rattle.vd_forms.specs.declared.form.Form.{Form}
use Rattle.vd_forms.specs.declared.form.Form.TheVariants as form
use Rattle.vd_resolved.specs.declared.node.Resolved.{Resolved}
use Rattle.vd_meaning.specs.Tables.{Table, table}
use Rattle.vd_meaning.specs.Facets.{Meaning}
use Rattle.vd_meaning.specs.Meanings.{node_meaning}
use Rattle.vd_meaning.specs.Building.{Built, State}
use Rattle.vd_meaning.specs.NodeFacets.{Part, Unit', nth, gathered}
use Rattle.vd_meaning.specs.NodeFacets as units
use Rattle.vd_meaning.specs.Parts.{Kind, kind, part_of, node_part, parts}
use Rattle.vd_meaning.specs.Parts as kinds
use Rattle.vd_meaning.specs.Hierarchies.{EntityText, ArchitectureText, entity_in, architecture_in, is_wanted}
use Rattle.vd_meaning.specs.Elaborations.{Top, NoTop, Units, units_of, of_built, elaborated_with}
use Rattle.vd_maps.specs.Units.{Sort, EntityUnit, ArchitectureUnit, PackageUnit, BodyUnit, InstanceUnit, ContextUnit, sort, is_unit, Node, units_in}
use Rattle.vd_maps.specs.Marks.{is_entity}
use Rattle.vd_maps.specs.Tops.{NamedTop, top_in, is_architecture_of}
use Rattle.vd_maps.specs.Laws.{IsIdentifier, HasName, UnitsHaveNames, TopsAreElaborated}

-- ---- forms of units

abbrev IsOther : Sort → Type 0
IsOther PackageUnit = Unit {0}
IsOther BodyUnit = Unit {0}
IsOther InstanceUnit = Unit {0}
IsOther ContextUnit = Unit {0}
IsOther _ = ⊥

-- a node of the kind has the units of its parts
abbrev Gathers : Kind → Type 0
Gathers k = (n : Resolved) (m : Meaning) (qs : List Part) → (part_of k n m qs).units ≡ gathered (λ p. p.units) qs

data UnitCase (f : Form) : Type 0 where
  an_entity : (kind_is : kind f ≡ kinds.Entity) (sort_is : sort f ≡ EntityUnit) → UnitCase f
  an_architecture : (kind_is : kind f ≡ kinds.Architecture) (sort_is : sort f ≡ ArchitectureUnit) → UnitCase f
  another : (is : is_unit (sort f) ≡ true) (other : IsOther (sort f)) → UnitCase f
  no_unit : (is : is_unit (sort f) ≡ false) (gathers : Gathers (kind f)) → UnitCase f

case_of : (f : Form) → UnitCase f
case_of form.EntityDeclaration = an_entity refl refl
case_of form.ArchitectureBody = an_architecture refl refl
case_of form.PackageDeclaration = another refl tt
case_of form.PackageBody = another refl tt
case_of form.PackageInstantiation = another refl tt
case_of form.ContextDeclaration = another refl tt
case_of _ = no_unit refl (λ n m qs. refl)

-- ---- names

-- the text of an identifier is that of its node
identifier_text : (t : Table) (n : Resolved) (text : List ℕ) (place : Place) (qs : List Part) (f : Form) → f ≡ form.Identifier
    → (part_of (kind f) n (node_meaning t (record n { form = f }) text place (map (λ p. p.meaning) qs)) qs).meaning.text ≡ text
identifier_text t n text place qs f e =
    subst (λ g. (part_of (kind g) n (node_meaning t (record n { form = g }) text place (map (λ p. p.meaning) qs)) qs).meaning.text ≡ text) (sym e) refl

first_text : (t : Table) (ps : Forest Resolved) → IsIdentifier ps → (nth 0 (parts t ps)).meaning.text ≡ text_of ps
first_text t nothing h = absurd h
first_text t (more n text place ps next) h = identifier_text t n text place (parts t ps) n.form h

second_text : (t : Table) (ps : Forest Resolved) → IsIdentifier (next_of ps) → (nth 1 (parts t ps)).meaning.text ≡ text_of (next_of ps)
second_text t nothing h = absurd h
second_text t (more n text place ps next) h = first_text t next h

-- ---- units by their tests

abbrev Named : List Node → Type 0
Named xs = AllByRecursion (λ (x : Node). HasName x.sort x.parts) xs

named_front : (xs ys : List Node) → Named (xs ++ ys) → Named xs
named_front [] ys h = tt
named_front (x ∷ xs) ys h = (h.0, named_front xs ys h.1)

named_behind : (xs ys : List Node) → Named (xs ++ ys) → Named ys
named_behind [] ys h = h
named_behind (x ∷ xs) ys h = named_behind xs ys h.1

module _
    (t : Table)
    (tested : Sort → Forest Resolved → Bool)
    (wanted : Unit' → Bool)
    (entities : (n : Resolved) (m : Meaning) (ps : Forest Resolved) → HasName EntityUnit ps → tested EntityUnit ps ≡ true → list_any wanted (part_of kinds.Entity n m (parts t ps)).units ≡ true)
    (architectures : (n : Resolved) (m : Meaning) (ps : Forest Resolved) → HasName ArchitectureUnit ps → tested ArchitectureUnit ps ≡ true → list_any wanted (part_of kinds.Architecture n m (parts t ps)).units ≡ true)
    (others : (s : Sort) → IsOther s → (ps : Forest Resolved) → tested s ps ≡ false)
  where
    abbrev test : Node → Bool
    test x = tested x.sort x.parts

    -- a node of this sort, or what is inside it
    abbrev at_node : Bool → Sort → Resolved → Forest Resolved → List Node
    at_node b s n ps = if b then record { sort = s; declaration = n.declaration; parts = ps } ∷ [] else units_in ps

    one_passes : (b : Bool) → (b || false) ≡ true → b ≡ true
    one_passes true h = refl
    one_passes false h = cc

    node_there : (n : Resolved) (m : Meaning) (ps : Forest Resolved) → UnitCase n.form → Named (at_node (is_unit (sort n.form)) (sort n.form) n ps) → list_any test (at_node (is_unit (sort n.form)) (sort n.form) n ps) ≡ true
        → (Named (units_in ps) → list_any test (units_in ps) ≡ true → list_any wanted (gathered (λ p. p.units) (parts t ps)) ≡ true)
        → list_any wanted (part_of (kind n.form) n m (parts t ps)).units ≡ true
    node_there n m ps (an_entity k s) names h go =
        let name = subst (λ z. Named (at_node (is_unit z) z n ps)) s names in
        let passes = subst (λ z. list_any test (at_node (is_unit z) z n ps) ≡ true) s h in
        subst (λ z. list_any wanted (part_of z n m (parts t ps)).units ≡ true) (sym k) (entities n m ps name.0 (one_passes (tested EntityUnit ps) passes))
    node_there n m ps (an_architecture k s) names h go =
        let name = subst (λ z. Named (at_node (is_unit z) z n ps)) s names in
        let passes = subst (λ z. list_any test (at_node (is_unit z) z n ps) ≡ true) s h in
        subst (λ z. list_any wanted (part_of z n m (parts t ps)).units ≡ true) (sym k) (architectures n m ps name.0 (one_passes (tested ArchitectureUnit ps) passes))
    node_there n m ps (another is other) names h go =
        let passes = subst (λ b. list_any test (at_node b (sort n.form) n ps) ≡ true) is h in
        let fails = others (sort n.form) other ps in
        let holds = one_passes (tested (sort n.form) ps) passes in
        cc
    node_there n m ps (no_unit is gathers) names h go =
        let inner = subst (λ b. Named (at_node b (sort n.form) n ps)) is names in
        let passes = subst (λ b. list_any test (at_node b (sort n.form) n ps) ≡ true) is h in
        subst (λ us. list_any wanted us ≡ true) (sym (gathers n m (parts t ps))) (go inner passes)

    either_there : (first rest : List Unit') → (list_any wanted first ≡ true) ⊎ (list_any wanted rest ≡ true) → list_any wanted (first ++ rest) ≡ true
    either_there first rest (inl h) = list_any-append wanted first rest ∙ or_left (list_any wanted first) (list_any wanted rest) h
    either_there first rest (inr h) = list_any-append wanted first rest ∙ or_right (list_any wanted first) (list_any wanted rest) h

    forest_by : (xs ys : List Node) (first rest : List Unit') → Named (xs ++ ys) → (list_any test xs ≡ true) ⊎ (list_any test ys ≡ true)
        → (Named xs → list_any test xs ≡ true → list_any wanted first ≡ true) → (Named ys → list_any test ys ≡ true → list_any wanted rest ≡ true)
        → list_any wanted (first ++ rest) ≡ true
    forest_by xs ys first rest names (inl h) in_first in_rest = either_there first rest (inl (in_first (named_front xs ys names) h))
    forest_by xs ys first rest names (inr h) in_first in_rest = either_there first rest (inr (in_rest (named_behind xs ys names) h))

    forest_there : (f : Forest Resolved) → Named (units_in f) → list_any test (units_in f) ≡ true → list_any wanted (gathered (λ p. p.units) (parts t f)) ≡ true
    forest_there nothing names h = cc
    forest_there (more n text place ps next) names h =
        let xs = at_node (is_unit (sort n.form)) (sort n.form) n ps in
        let m = node_meaning t n text place (map (λ p. p.meaning) (parts t ps)) in
        forest_by xs (units_in next) (part_of (kind n.form) n m (parts t ps)).units (gathered (λ p. p.units) (parts t next)) names
        (or_cases (list_any test xs) (list_any test (units_in next)) (sym (list_any-append test xs (units_in next)) ∙ h))
        (λ a b. node_there n m ps (case_of n.form) a b (forest_there ps)) (forest_there next)

-- ---- entities

abbrev is_entity_unit : List ℕ → Unit' → Bool
is_entity_unit name (units.EntityUnit own generics ports) = bytes_eq own name
is_entity_unit name _ = false

entity_passes : (name : List ℕ) (t : Table) (n : Resolved) (m : Meaning) (ps : Forest Resolved) → HasName EntityUnit ps → is_entity name EntityUnit (text_of ps) ≡ true
    → list_any (is_entity_unit name) (part_of kinds.Entity n m (parts t ps)).units ≡ true
entity_passes name t n m ps h e = or_left (bytes_eq (nth 0 (parts t ps)).meaning.text name) false (ap (λ x. bytes_eq x name) (first_text t ps h) ∙ e)

other_entity : (name : List ℕ) (s : Sort) → IsOther s → (ps : Forest Resolved) → is_entity name s (text_of ps) ≡ false
other_entity name EntityUnit h ps = absurd h
other_entity name _ h ps = refl

architecture_is_none : (name : List ℕ) (t : Table) (n : Resolved) (m : Meaning) (ps : Forest Resolved) → HasName ArchitectureUnit ps → is_entity name ArchitectureUnit (text_of ps) ≡ true
    → list_any (is_entity_unit name) (part_of kinds.Architecture n m (parts t ps)).units ≡ true
architecture_is_none name t n m ps h e = cc

entity_there : (name : List ℕ) (t : Table) (f : Forest Resolved) → UnitsHaveNames f → list_any (λ (x : Node). is_entity name x.sort (text_of x.parts)) (units_in f) ≡ true
    → list_any (is_entity_unit name) (gathered (λ p. p.units) (parts t f)) ≡ true
entity_there name t f names h =
    forest_there t (λ s ps. is_entity name s (text_of ps)) (is_entity_unit name) (entity_passes name t) (architecture_is_none name t) (other_entity name) f names h

abbrev Found : {A : Type 0} → Option A → Type 0
Found {A} o = (x : A) × (o ≡ Some x)

entity_if : (b : Bool) (e f : EntityText) (us : List Unit') (name : List ℕ) → ((g : EntityText) → Found (entity_in (Some g) us name)) → Found (entity_in (if b then Some f else Some e) us name)
entity_if true e f us name go = go f
entity_if false e f us name go = go e

entity_kept : (us : List Unit') (name : List ℕ) (e : EntityText) → Found (entity_in (Some e) us name)
entity_kept [] name e = (e, refl)
entity_kept (units.EntityUnit own generics ports ∷ us) name e = entity_if (bytes_eq own name) e (record { generics = generics; ports = ports }) us name (entity_kept us name)
entity_kept (_ ∷ us) name e = entity_kept us name e

entity_or : (b : Bool) (f : EntityText) (us : List Unit') (name : List ℕ) → (b || list_any (is_entity_unit name) us) ≡ true → (list_any (is_entity_unit name) us ≡ true → Found (entity_in None us name))
    → Found (entity_in (if b then Some f else None) us name)
entity_or true f us name h go = entity_kept us name f
entity_or false f us name h go = go h

entity_found : (us : List Unit') (name : List ℕ) → list_any (is_entity_unit name) us ≡ true → Found (entity_in None us name)
entity_found [] name h = cc
entity_found (units.EntityUnit own generics ports ∷ us) name h = entity_or (bytes_eq own name) (record { generics = generics; ports = ports }) us name h (entity_found us name)
entity_found (_ ∷ us) name h = entity_found us name h

-- ---- architectures

abbrev is_architecture_unit : NamedTop → Unit' → Bool
is_architecture_unit top (units.ArchitectureUnit own entity region) = bytes_eq entity top.entity && is_wanted top.architecture own
is_architecture_unit top _ = false

architecture_passes : (top : NamedTop) (t : Table) (n : Resolved) (m : Meaning) (ps : Forest Resolved) → HasName ArchitectureUnit ps → is_architecture_of top ArchitectureUnit ps ≡ true
    → list_any (is_architecture_unit top) (part_of kinds.Architecture n m (parts t ps)).units ≡ true
architecture_passes top t n m ps h e =
    or_left (bytes_eq (nth 1 (parts t ps)).meaning.text top.entity && is_wanted top.architecture (nth 0 (parts t ps)).meaning.text) false
    (ap (λ x. bytes_eq x top.entity && is_wanted top.architecture (nth 0 (parts t ps)).meaning.text) (second_text t ps h.1)
    ∙ ap (λ x. bytes_eq (text_of (next_of ps)) top.entity && is_wanted top.architecture x) (first_text t ps h.0) ∙ e)

other_architecture : (top : NamedTop) (s : Sort) → IsOther s → (ps : Forest Resolved) → is_architecture_of top s ps ≡ false
other_architecture top ArchitectureUnit h ps = absurd h
other_architecture top _ h ps = refl

entity_is_none : (top : NamedTop) (t : Table) (n : Resolved) (m : Meaning) (ps : Forest Resolved) → HasName EntityUnit ps → is_architecture_of top EntityUnit ps ≡ true
    → list_any (is_architecture_unit top) (part_of kinds.Entity n m (parts t ps)).units ≡ true
entity_is_none top t n m ps h e = cc

architecture_there : (top : NamedTop) (t : Table) (f : Forest Resolved) → UnitsHaveNames f → list_any (λ (x : Node). is_architecture_of top x.sort x.parts) (units_in f) ≡ true
    → list_any (is_architecture_unit top) (gathered (λ p. p.units) (parts t f)) ≡ true
architecture_there top t f names h =
    forest_there t (is_architecture_of top) (is_architecture_unit top) (entity_is_none top t) (architecture_passes top t) (other_architecture top) f names h

architecture_if : (b : Bool) (e f : ArchitectureText) (us : List Unit') (top : NamedTop) → ((g : ArchitectureText) → Found (architecture_in (Some g) us top.entity top.architecture))
    → Found (architecture_in (if b then Some f else Some e) us top.entity top.architecture)
architecture_if true e f us top go = go f
architecture_if false e f us top go = go e

architecture_kept : (us : List Unit') (top : NamedTop) (e : ArchitectureText) → Found (architecture_in (Some e) us top.entity top.architecture)
architecture_kept [] top e = (e, refl)
architecture_kept (units.ArchitectureUnit own entity region ∷ us) top e =
    architecture_if (bytes_eq entity top.entity && is_wanted top.architecture own) e (record { name = own; region = region }) us top (architecture_kept us top)
architecture_kept (_ ∷ us) top e = architecture_kept us top e

architecture_or : (b : Bool) (f : ArchitectureText) (us : List Unit') (top : NamedTop) → (b || list_any (is_architecture_unit top) us) ≡ true
    → (list_any (is_architecture_unit top) us ≡ true → Found (architecture_in None us top.entity top.architecture)) → Found (architecture_in (if b then Some f else None) us top.entity top.architecture)
architecture_or true f us top h go = architecture_kept us top f
architecture_or false f us top h go = go h

architecture_found : (us : List Unit') (top : NamedTop) → list_any (is_architecture_unit top) us ≡ true → Found (architecture_in None us top.entity top.architecture)
architecture_found [] top h = cc
architecture_found (units.ArchitectureUnit own entity region ∷ us) top h =
    architecture_or (bytes_eq entity top.entity && is_wanted top.architecture own) (record { name = own; region = region }) us top h (architecture_found us top)
architecture_found (_ ∷ us) top h = architecture_found us top h

-- ---- elaborations

built_is_there : (b : Built State) → of_built b ≡ NoTop → ⊥
built_is_there (Ok s) e = cc
built_is_there (Err f) e = cc

both_there : (u : Units) (top : Top) (o : Option EntityText) (a : Option ArchitectureText) → Found o → Found a → elaborated_with u top o a ≡ NoTop → ⊥
both_there u top None a e f none = let x = e.1 in cc
both_there u top (Some entity) None e f none = let x = f.1 in cc
both_there u top (Some entity) (Some architecture) e f none = built_is_there _ none

pub tops_are_there : TopsAreElaborated
tops_are_there r tree names top there none =
    let us = units_of r tree in
    both_there us (top_in tree top) (entity_in None us.units top.entity) (architecture_in None us.units top.entity top.architecture)
    (entity_found us.units top.entity (entity_there top.entity (table r tree.declarations) tree.units names there.0))
    (architecture_found us.units top (architecture_there top (table r tree.declarations) tree.units names there.1)) none
