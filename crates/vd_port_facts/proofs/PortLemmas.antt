-- The ports that are found are those of the units.
use Rattle.std.proofs.Common.{◌≡◌, ◌++◌, ℕ, Bool, true, false, List, [], ◌∷◌, Option, Some, None, map, is_some, cond, refl, sym, ap, ap₂, ◌∙◌}
use Rattle.std.proofs.lemmas.List.{append-nil, append_assoc, map-append}
use Rattle.vd_bytes.specs.declared.places.Place.{Place}
use Rattle.vd_declarations.specs.declared.declarations.Declaration.{Declaration}
use Rattle.vd_meaning.specs.Elaborations.{units_of}
use Rattle.vd_meaning.specs.NodeFacets.{Part, Ports, Unit', gathered, nth}
use Rattle.vd_meaning.specs.Parts as elaborated
use Rattle.vd_meaning.specs.Parts.{node_part, part_of, parts}
use Rattle.vd_forest.specs.Forest.{Forest, more, nothing, skipped}
use Rattle.vd_forms.specs.declared.form.Form.{Form}
use Rattle.vd_walks.specs.Gathering.{all_found, with_answer}
use Rattle.vd_meaning.specs.Facets.{Meaning}
use Rattle.vd_meaning.specs.Meanings.{node_meaning}
use Rattle.vd_meaning.specs.Tables.{Table, table}
use Rattle.vd_port_facts.proofs.FacetLemmas.{part_numbers}
use Rattle.vd_port_facts.proofs.NameLemmas.{part_named}
use Rattle.vd_port_facts.proofs.SeekLemmas.{node_alone, node_then}
use Rattle.vd_port_facts.specs.Reading.{named_first, numbers_first, read_ports}
use Rattle.vd_port_facts.specs.Seeking.{lists_in_list, lists_in_unit, port_seeker, ports_by}
use Rattle.vd_port_facts.specs.declared.ports.ListedPorts.{ListedPorts}
use Rattle.vd_port_facts.specs.declared.ports.PortTrees.{PortTrees}
use Rattle.vd_port_facts.specs.declared.ports.PortTrees.TheVariants.{FirstList, Lists, NoLists, SecondList, ThirdList, Units}
use Rattle.vd_port_lists.proofs.PartLemmas.{meant, part_present}
use Rattle.vd_port_lists.proofs.SeekLemmas.{gathered_through}
use Rattle.vd_port_lists.specs.FirstTrees.{present_first}
use Rattle.vd_resolved.specs.Trees.{ResolvedTree}
use Rattle.vd_resolved.specs.declared.node.Resolved.{Resolved}
use Rattle.vd_trees.specs.declared.revision.Revision.{Revision}
use Rattle.vd_value_rules.specs.Designs.{ports_in, ports_of_unit}
use Rattle.vd_forms.specs.declared.form.Form.TheVariants as form

abbrev pub units_value : Part → List ListedPorts
units_value p = map read_ports (ports_in p.units)

abbrev pub lists_value : Part → List ListedPorts
lists_value p = map read_ports p.ports

ports_in_joined : (us vs : List Unit') → ports_in (us ++ vs) ≡ ports_in us ++ ports_in vs
ports_in_joined [] vs = refl
ports_in_joined (u ∷ us) vs = ap (λ ys. ports_of_unit u ++ ys) (ports_in_joined us vs) ∙ sym (append_assoc (ports_of_unit u) (ports_in us) (ports_in vs))

units_joined : (us vs : List Unit') → map read_ports (ports_in (us ++ vs)) ≡ map read_ports (ports_in us) ++ map read_ports (ports_in vs)
units_joined us vs = ap (map read_ports) (ports_in_joined us vs) ∙ map-append read_ports (ports_in us) (ports_in vs)

default_is_there : {A : Type 0} (b : Bool) (x : A) → is_some (cond b (Some x) None) ≡ b
default_is_there true x = refl
default_is_there false x = refl

module _ (t : Table) where
  -- of the trees that are looked at, their ports
  abbrev seen : PortTrees → Forest Resolved → List ListedPorts
  seen Units f = gathered units_value (parts t f)
  seen ThirdList f = lists_value (nth 2 (parts t f))
  seen SecondList f = lists_value (nth 1 (parts t f))
  seen FirstList f = lists_value (nth 0 (parts t f))
  seen Lists f = gathered lists_value (parts t f)
  seen NoLists f = []

  abbrev found : PortTrees → Forest Resolved → List ListedPorts
  found s f = all_found (port_seeker t) s f

  unit_step : (f : Form) (n : Resolved) (m : Meaning) (inside : Forest Resolved)
      → map read_ports (ports_in (part_of (elaborated.kind f) n m (parts t inside)).units) ≡ seen (lists_in_unit f) inside
  unit_step form.EntityDeclaration n m inside = ap (map read_ports) (append-nil (nth 2 (parts t inside)).ports)
  unit_step form.ArchitectureBody n m inside = refl
  unit_step form.PackageDeclaration n m inside = refl
  unit_step form.PackageBody n m inside = refl
  unit_step form.PackageInstantiation n m inside = refl
  unit_step _ n m inside = gathered_through (λ us. map read_ports (ports_in us)) (λ p. p.units) refl units_joined (parts t inside)

  abbrev one_of : List ℕ → Bool → List ℕ → List ListedPorts
  one_of numbers has_default names = record { numbers = numbers; has_default = has_default; named = names } ∷ []

  one_by : (numbers ns : List ℕ) (a b : Bool) (names ms : List ℕ) → numbers ≡ ns → a ≡ b → names ≡ ms → one_of numbers a names ≡ one_of ns b ms
  one_by numbers ns a b names ms is_numbers is_default is_names =
      ap₂ (λ xs y. one_of xs y names) is_numbers is_default ∙ ap (one_of ns b) is_names

  list_step : (f : Form) (n : Resolved) (m : Meaning) (inside : Forest Resolved)
      → map read_ports (part_of (elaborated.kind f) n m (parts t inside)).ports ≡ with_answer (ports_by f t inside) (seen (lists_in_list f) inside)
  list_step form.PortDeclaration n m inside =
      let d = (nth 4 (parts t inside)).meaning in
      one_by (nth 1 (parts t inside)).meaning.numbers (numbers_first t (skipped 1 inside)) (is_some (cond d.is_present (Some d.value) None)) (present_first t (skipped 4 inside))
      (nth 3 (parts t inside)).named (named_first t (skipped 3 inside))
      (part_numbers t 1 inside) (default_is_there d.is_present d.value ∙ part_present t 4 inside) (part_named t 3 inside)
  list_step form.ViewPort n m inside =
      one_by (nth 1 (parts t inside)).meaning.numbers (numbers_first t (skipped 1 inside)) false false (nth 4 (parts t inside)).named (named_first t (skipped 4 inside))
      (part_numbers t 1 inside) refl (part_named t 4 inside)
  list_step _ n m inside = gathered_through (map read_ports) (λ p. p.ports) refl (map-append read_ports) (parts t inside)

  in_unit : (n : Resolved) (text : List ℕ) (place : Place) (inside : Forest Resolved)
      → units_value (node_part t n text place (parts t inside)) ≡ with_answer None (seen (lists_in_unit n.form) inside)
  in_unit n text place inside = unit_step n.form n (node_meaning t n text place (meant (parts t inside))) inside

  in_list : (n : Resolved) (text : List ℕ) (place : Place) (inside : Forest Resolved)
      → lists_value (node_part t n text place (parts t inside)) ≡ with_answer (ports_by n.form t inside) (seen (lists_in_list n.form) inside)
  in_list n text place inside = list_step n.form n (node_meaning t n text place (meant (parts t inside))) inside

  found_seen : (s : PortTrees) (f : Forest Resolved) → found s f ≡ seen s f
  found_seen Units nothing = refl
  found_seen ThirdList nothing = refl
  found_seen SecondList nothing = refl
  found_seen FirstList nothing = refl
  found_seen Lists nothing = refl
  found_seen NoLists nothing = refl
  found_seen Units (more n text place inside next) =
      node_then None (found (lists_in_unit n.form) inside) (found Units next) (seen (lists_in_unit n.form) inside) (seen Units next)
      (units_value (node_part t n text place (parts t inside)))
      (found_seen (lists_in_unit n.form) inside) (found_seen Units next) (in_unit n text place inside)
  found_seen FirstList (more n text place inside next) =
      node_alone (ports_by n.form t inside) (found (lists_in_list n.form) inside) (found NoLists next) (seen (lists_in_list n.form) inside)
      (lists_value (node_part t n text place (parts t inside)))
      (found_seen (lists_in_list n.form) inside) (found_seen NoLists next) (in_list n text place inside)
  found_seen Lists (more n text place inside next) =
      node_then (ports_by n.form t inside) (found (lists_in_list n.form) inside) (found Lists next) (seen (lists_in_list n.form) inside) (seen Lists next)
      (lists_value (node_part t n text place (parts t inside)))
      (found_seen (lists_in_list n.form) inside) (found_seen Lists next) (in_list n text place inside)
  found_seen ThirdList (more n text place inside next) = ap₂ ◌++◌ (found_seen NoLists inside) (found_seen SecondList next)
  found_seen SecondList (more n text place inside next) = ap₂ ◌++◌ (found_seen NoLists inside) (found_seen FirstList next)
  found_seen NoLists (more n text place inside next) = ap₂ ◌++◌ (found_seen NoLists inside) (found_seen NoLists next)

  pub ports_are_found : (f : Forest Resolved) → found Units f ≡ map read_ports (ports_in (gathered (λ p. p.units) (parts t f)))
  ports_are_found f =
      found_seen Units f ∙ sym (gathered_through (λ us. map read_ports (ports_in us)) (λ p. p.units) refl units_joined (parts t f))

pub ports_are_listed : (r : Revision) (tree : ResolvedTree) (ds : List Declaration) (f : Forest Resolved) (found : List ListedPorts)
    → ds ≡ tree.declarations → f ≡ tree.units → found ≡ all_found (port_seeker (table r ds)) Units f
    → found ≡ map read_ports (ports_in (units_of r tree).units)
ports_are_listed r tree ds f found are is_units is =
    is ∙ ap₂ (λ ds f. all_found (port_seeker (table r ds)) Units f) are is_units ∙ ports_are_found (table r tree.declarations) tree.units
