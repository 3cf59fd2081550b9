-- The ports of a design's entities are those that are found where lists of ports stand.
use Rattle.std.proofs.Common.{◌≡◌, ◌++◌, ℕ, List, [], ◌∷◌, Option, Some, None, map, option_to_list, refl, sym, ap, ap₂, ◌∙◌}
use Rattle.std.proofs.lemmas.List.{append-nil, append_assoc}
use Rattle.vd_bytes.specs.declared.places.Place.{Place}
use Rattle.vd_meaning.specs.Elaborations.{units_of}
use Rattle.vd_meaning.specs.NodeFacets.{ElementMode, Part, Ports, Unit', gathered, nth, of_meaning}
use Rattle.vd_meaning.specs.Parts as elaborated
use Rattle.vd_meaning.specs.Parts.{node_part, part_of, parts}
use Rattle.vd_forest.specs.Forest.{Forest}
use Rattle.vd_forms.specs.declared.form.Form.{Form}
use Rattle.vd_walks.specs.Gathering.{all_found}
use Rattle.vd_meaning.specs.Facets.{Meaning, flattened, no_meaning}
use Rattle.vd_meaning.specs.Kinds.{kind}
use Rattle.vd_meaning.specs.Meanings.{meaning_of}
use Rattle.vd_meaning.specs.Tables.{Table, table}
use Rattle.vd_port_lists.proofs.PartLemmas.{meant, nth_meant, part_declared, part_mode, part_present}
use Rattle.vd_port_lists.proofs.SeekLemmas.{found_seen, gathered_through, read_single, read_some, seen_by}
use Rattle.vd_port_lists.specs.Listed.{one_by_one, read_port, with_mode}
use Rattle.vd_port_lists.specs.Modes.{read_mode}
use Rattle.vd_port_lists.specs.Seeking.{all_trees, inside_for_ports, inside_names, inside_port, inside_unit, named_port, port_at, port_seeker}
use Rattle.vd_port_lists.specs.declared.entries.ListedPort.{ListedPort}
use Rattle.vd_port_lists.specs.declared.modes.PortMode.{PortMode}
use Rattle.vd_declarations.specs.declared.declarations.Declaration.{Declaration}
use Rattle.vd_port_lists.specs.declared.seeking.Seeking.{Seeking}
use Rattle.vd_port_lists.specs.declared.seeking.Sought.{Sought}
use Rattle.vd_port_lists.specs.declared.seeking.Sought.TheVariants.{ElementLists, Names, PackageInstances, PortLists, Units, Views}
use Rattle.vd_resolved.specs.Trees.{ResolvedTree}
use Rattle.vd_resolved.specs.declared.node.Resolved.{Resolved}
use Rattle.vd_trees.specs.declared.revision.Revision.{Revision}
use Rattle.vd_value_rules.specs.Designs.{ports_in, ports_of_unit}
use Rattle.vd_forms.specs.declared.form.Form.TheVariants as form

-- ---- joined lists

with_mode_joined : (mode : ElementMode) (ns ms : List ℕ) → with_mode mode (ns ++ ms) ≡ with_mode mode ns ++ with_mode mode ms
with_mode_joined mode [] ms = refl
with_mode_joined mode (n ∷ ns) ms = ap (λ ys. (n, mode) ∷ ys) (with_mode_joined mode ns ms)

one_by_one_joined : (ps qs : List Ports) → one_by_one (ps ++ qs) ≡ one_by_one ps ++ one_by_one qs
one_by_one_joined [] qs = refl
one_by_one_joined (p ∷ ps) qs =
    ap (λ ys. with_mode p.mode p.objects.numbers ++ ys) (one_by_one_joined ps qs)
    ∙ sym (append_assoc (with_mode p.mode p.objects.numbers) (one_by_one ps) (one_by_one qs))

ports_in_joined : (us vs : List Unit') → ports_in (us ++ vs) ≡ ports_in us ++ ports_in vs
ports_in_joined [] vs = refl
ports_in_joined (u ∷ us) vs = ap (λ ys. ports_of_unit u ++ ys) (ports_in_joined us vs) ∙ sym (append_assoc (ports_of_unit u) (ports_in us) (ports_in vs))

units_joined : (us vs : List Unit') → one_by_one (ports_in (us ++ vs)) ≡ one_by_one (ports_in us) ++ one_by_one (ports_in vs)
units_joined us vs = ap one_by_one (ports_in_joined us vs) ∙ one_by_one_joined (ports_in us) (ports_in vs)

-- ---- node by node

abbrev pub read : ListedPort → List (ℕ × ElementMode)
read p = read_port p ∷ []

abbrev pub value : Sought → Part → List (ℕ × ElementMode)
value Units p = one_by_one (ports_in p.units)
value PortLists p = one_by_one p.ports
value (Names mode) p = with_mode (read_mode mode) p.meaning.numbers
value _ p = []

empty : (x : Sought) → value x (of_meaning no_meaning) ≡ []
empty Units = refl
empty PortLists = refl
empty (Names mode) = refl
empty ElementLists = refl
empty Views = refl
empty PackageInstances = refl

module _ (t : Table) where
  abbrev seen_in_parts : Seeking → Forest Resolved → List (ℕ × ElementMode)
  seen_in_parts s f = seen_by t read port_at (inside_for_ports t) value s f

  unit_step : (f : Form) (n : Resolved) (m : Meaning) (inside : Forest Resolved)
      → one_by_one (ports_in (part_of (elaborated.kind f) n m (parts t inside)).units) ≡ seen_in_parts (inside_unit f) inside
  unit_step form.EntityDeclaration n m inside = ap one_by_one (append-nil (nth 2 (parts t inside)).ports)
  unit_step form.ArchitectureBody n m inside = refl
  unit_step form.PackageDeclaration n m inside = refl
  unit_step form.PackageBody n m inside = refl
  unit_step form.PackageInstantiation n m inside = refl
  unit_step _ n m inside = gathered_through (λ us. one_by_one (ports_in us)) (λ p. p.units) refl units_joined (parts t inside)

  port_step : (f : Form) (n : Resolved) (m : Meaning) (inside : Forest Resolved)
      → one_by_one (part_of (elaborated.kind f) n m (parts t inside)).ports ≡ seen_in_parts (inside_port t f inside) inside
  port_step form.PortDeclaration n m inside =
      append-nil (with_mode (nth 2 (parts t inside)).mode (nth 1 (parts t inside)).meaning.numbers)
      ∙ ap (λ mode. with_mode mode (nth 1 (parts t inside)).meaning.numbers) (part_mode t 2 inside)
  port_step form.ViewPort n m inside =
      append-nil (with_mode (Rattle.vd_meaning.specs.NodeFacets.ByView (nth 2 (parts t inside)).meaning.declaration (nth 3 (parts t inside)).meaning.is_present) (nth 1 (parts t inside)).meaning.numbers)
      ∙ ap₂ (λ view is_converse. with_mode (Rattle.vd_meaning.specs.NodeFacets.ByView view is_converse) (nth 1 (parts t inside)).meaning.numbers)
      (part_declared t 2 inside) (part_present t 3 inside)
  port_step _ n m inside = gathered_through one_by_one (λ p. p.ports) refl one_by_one_joined (parts t inside)

  -- the numbers that a list of names means, in the parts of a node
  numbers_kept : (k : elaborated.Kind) (n : Resolved) (m : Meaning) (ps : List Part) → (part_of k n m ps).meaning.numbers ≡ m.numbers
  numbers_kept elaborated.SelectedText n m ps = refl
  numbers_kept elaborated.Alternative n m ps = refl
  numbers_kept _ n m ps = refl

  flattened_meant : (mode : ElementMode) (ps : List Part) → with_mode mode (flattened (λ m. m.numbers) (meant ps)) ≡ gathered (λ p. with_mode mode p.meaning.numbers) ps
  flattened_meant mode [] = refl
  flattened_meant mode (p ∷ ps) =
      with_mode_joined mode p.meaning.numbers (flattened (λ m. m.numbers) (meant ps)) ∙ ap (λ ys. with_mode mode p.meaning.numbers ++ ys) (flattened_meant mode ps)

  one_number : (d : Option ℕ) (mode : PortMode) → with_mode (read_mode mode) (option_to_list d)
      ≡ read_some read (named_port form.Identifier d mode) ++ []
  one_number None mode = refl
  one_number (Some d) mode = refl

  name_step : (f : Form) (n : Resolved) (text : List ℕ) (mode : PortMode) (inside : Forest Resolved)
      → with_mode (read_mode mode) (meaning_of (kind f) t n text (meant (parts t inside))).numbers
      ≡ read_some read (named_port f n.declaration mode) ++ seen_in_parts (inside_names f mode) inside
  name_step form.Identifier n text mode inside = one_number n.declaration mode
  name_step form.IdentifierList n text mode inside = flattened_meant (read_mode mode) (parts t inside)
  name_step form.Association n text mode inside = ap (λ m. with_mode (read_mode mode) m.numbers) (nth_meant 1 (parts t inside))
  name_step form.OthersAssociation n text mode inside = ap (λ m. with_mode (read_mode mode) m.numbers) (nth_meant 0 (parts t inside))
  name_step form.UnconstrainedIndex n text mode inside = ap (λ m. with_mode (read_mode mode) m.numbers) (nth_meant 0 (parts t inside))
  name_step _ n text mode inside = refl

  step : (x : Sought) (n : Resolved) (text : List ℕ) (place : Place) (inside : Forest Resolved)
      → value x (node_part t n text place (parts t inside)) ≡ read_some read (port_at x n text inside) ++ seen_in_parts (inside_for_ports t x n.form inside) inside
  step Units n text place inside = unit_step n.form n (meaning_of (kind n.form) t n text (meant (parts t inside))) inside
  step PortLists n text place inside = port_step n.form n (meaning_of (kind n.form) t n text (meant (parts t inside))) inside
  step (Names mode) n text place inside =
      ap (with_mode (read_mode mode)) (numbers_kept (elaborated.kind n.form) n (meaning_of (kind n.form) t n text (meant (parts t inside))) (parts t inside))
      ∙ name_step n.form n text mode inside
  step ElementLists n text place inside = refl
  step Views n text place inside = refl
  step PackageInstances n text place inside = refl

  pub ports_found : (f : Forest Resolved) → map read_port (all_found (port_seeker t) (all_trees Units) f) ≡ one_by_one (ports_in (gathered (λ p. p.units) (parts t f)))
  ports_found f =
      sym (read_single read_port (all_found (port_seeker t) (all_trees Units) f))
      ∙ found_seen t read port_at (inside_for_ports t) value empty step f Rattle.vd_port_lists.specs.declared.seeking.Trees.TheVariants.AllTrees Units
      ∙ sym (gathered_through (λ us. one_by_one (ports_in us)) (λ p. p.units) refl units_joined (parts t f))

pub ports_are_listed : (r : Revision) (tree : ResolvedTree) (ds : List Declaration) (f : Forest Resolved) (s : Seeking) (found : List ListedPort)
    → ds ≡ tree.declarations → f ≡ tree.units → s ≡ all_trees Units → found ≡ all_found (port_seeker (table r ds)) s f
    → map read_port found ≡ one_by_one (ports_in (units_of r tree).units)
ports_are_listed r tree ds f s found are is_units begins is =
    ap (map read_port)
    (is ∙ ap (λ ds. all_found (port_seeker (table r ds)) s f) are ∙ ap (λ s. all_found (port_seeker (table r tree.declarations)) s f) begins
    ∙ ap (all_found (port_seeker (table r tree.declarations)) (all_trees Units)) is_units)
    ∙ ports_found (table r tree.declarations) tree.units
