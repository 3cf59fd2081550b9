-- The entities that are found are those of the units, with their generics.
use Rattle.std.proofs.Common.{◌≡◌, ◌++◌, ℕ, List, [], ◌∷◌, Option, Some, None, map, refl, sym, ap, ap₂, ◌∙◌}
use Rattle.std.proofs.lemmas.List.{append_assoc, map-append}
use Rattle.vd_declarations.specs.declared.declarations.Declaration.{Declaration}
use Rattle.vd_meaning.specs.Elaborations.{units_of}
use Rattle.vd_meaning.specs.NodeFacets.{Part, Unit', gathered, nth}
use Rattle.vd_meaning.specs.Parts as elaborated
use Rattle.vd_meaning.specs.Parts.{part_of, parts}
use Rattle.vd_forest.specs.Forest.{Forest, skipped}
use Rattle.vd_forms.specs.declared.form.Form.{Form}
use Rattle.vd_walks.specs.Gathering.{all_found, with_answer}
use Rattle.vd_meaning.specs.Facets.{Meaning, flattened}
use Rattle.vd_meaning.specs.Kinds.{kind}
use Rattle.vd_meaning.specs.Meanings.{meaning_of, node_meaning}
use Rattle.vd_meaning.specs.Tables.{Table, table}
use Rattle.vd_port_facts.proofs.FacetLemmas.{part_numbers}
use Rattle.vd_port_facts.proofs.NameLemmas.{part_named}
use Rattle.vd_port_facts.proofs.SeekLemmas.{found_seen, seen}
use Rattle.vd_port_facts.specs.Reading.{entities_in, entities_of_unit, numbers_first, numbers_of}
use Rattle.vd_port_facts.specs.Seeking.{default_by, default_seeker, entity_by, entity_seeker, inside_defaults, inside_objects, inside_unit, names_part, object_seeker, objects_by}
use Rattle.vd_port_facts.specs.declared.entities.ListedEntity.{ListedEntity}
use Rattle.vd_port_lists.proofs.PartLemmas.{meant, nth_meant, part_skipped}
use Rattle.vd_port_lists.proofs.SeekLemmas.{gathered_through}
use Rattle.vd_resolved.specs.Trees.{ResolvedTree}
use Rattle.vd_resolved.specs.declared.node.Resolved.{Resolved}
use Rattle.vd_trees.specs.declared.revision.Revision.{Revision}
use Rattle.vd_forms.specs.declared.form.Form.TheVariants as form
use Rattle.vd_function_names.specs.declared.counting.Counted.TheVariants as trees

abbrev pub objects_value : Part → List (List ℕ)
objects_value p = map numbers_of p.meaning.objects

abbrev pub defaults_value : Part → List (List ℕ)
defaults_value p = p.defaults

abbrev pub entities_value : Part → List ListedEntity
entities_value p = entities_in p.units

entities_joined : (us vs : List Unit') → entities_in (us ++ vs) ≡ entities_in us ++ entities_in vs
entities_joined [] vs = refl
entities_joined (u ∷ us) vs =
    ap (λ xs. entities_of_unit u ++ xs) (entities_joined us vs) ∙ sym (append_assoc (entities_of_unit u) (entities_in us) (entities_in vs))

module _ (t : Table) where
  -- ---- what declares objects

  objects_flattened : (ps : List Part) → map numbers_of (flattened (λ m. m.objects) (meant ps)) ≡ gathered objects_value ps
  objects_flattened [] = refl
  objects_flattened (p ∷ ps) =
      map-append numbers_of p.meaning.objects (flattened (λ m. m.objects) (meant ps)) ∙ ap (λ xs. objects_value p ++ xs) (objects_flattened ps)

  objects_kept : (k : elaborated.Kind) (n : Resolved) (m : Meaning) (ps : List Part) → (part_of k n m ps).meaning.objects ≡ m.objects
  objects_kept elaborated.SelectedText n m ps = refl
  objects_kept elaborated.Alternative n m ps = refl
  objects_kept _ n m ps = refl

  numbers_in : (k : ℕ) (inside : Forest Resolved) → (Rattle.vd_meaning.specs.Facets.nth k (meant (parts t inside))).numbers ≡ numbers_first t (skipped k inside)
  numbers_in k inside = ap (λ m. m.numbers) (nth_meant k (parts t inside)) ∙ part_numbers t k inside

  objects_step : (f : Form) (n : Resolved) (text : List ℕ) (inside : Forest Resolved)
      → map numbers_of (meaning_of (kind f) t n text (meant (parts t inside))).objects
      ≡ with_answer (objects_by (names_part f) t inside) (seen t (λ n parts. objects_by (names_part n.form) t parts) inside_objects objects_value (inside_objects f) inside)
  objects_step form.SignalDeclaration n text inside = ap (λ ns. ns ∷ []) (numbers_in 0 inside)
  objects_step form.PortDeclaration n text inside = ap (λ ns. ns ∷ []) (numbers_in 1 inside)
  objects_step form.GenericConstant n text inside = ap (λ ns. ns ∷ []) (numbers_in 1 inside)
  objects_step form.GenericClause n text inside = objects_flattened (parts t inside)
  objects_step form.PortClause n text inside = objects_flattened (parts t inside)
  objects_step form.ParameterList n text inside = objects_flattened (parts t inside)
  objects_step form.DeclarativePart n text inside = objects_flattened (parts t inside)
  objects_step form.Association n text inside = ap (λ m. map numbers_of m.objects) (nth_meant 1 (parts t inside))
  objects_step form.OthersAssociation n text inside = ap (λ m. map numbers_of m.objects) (nth_meant 0 (parts t inside))
  objects_step form.UnconstrainedIndex n text inside = ap (λ m. map numbers_of m.objects) (nth_meant 0 (parts t inside))
  objects_step _ n text inside = refl

  objects_found : (f : Forest Resolved) → all_found (object_seeker t) trees.FirstAlone f ≡ objects_value (nth 0 (parts t f))
  objects_found =
      found_seen t (λ n parts. objects_by (names_part n.form) t parts) inside_objects objects_value refl
      (λ n text place inside.
      ap (λ os. map numbers_of os) (objects_kept (elaborated.kind n.form) n (node_meaning t n text place (meant (parts t inside))) (parts t inside))
      ∙ objects_step n.form n text inside) trees.FirstAlone

  -- ---- defaults

  defaults_step : (f : Form) (n : Resolved) (m : Meaning) (inside : Forest Resolved)
      → (part_of (elaborated.kind f) n m (parts t inside)).defaults
      ≡ with_answer (default_by f t inside) (seen t (λ n parts. default_by n.form t parts) inside_defaults defaults_value (inside_defaults f) inside)
  defaults_step form.GenericConstant n m inside = ap (λ ns. ns ∷ []) (part_named t 4 inside)
  defaults_step _ n m inside = refl

  defaults_found : (f : Forest Resolved) → all_found (default_seeker t) trees.FirstAlone f ≡ defaults_value (nth 0 (parts t f))
  defaults_found =
      found_seen t (λ n parts. default_by n.form t parts) inside_defaults defaults_value refl
      (λ n text place inside. defaults_step n.form n (node_meaning t n text place (meant (parts t inside))) inside) trees.FirstAlone

  -- ---- entities

  entity_step : (f : Form) (n : Resolved) (m : Meaning) (inside : Forest Resolved)
      → entities_in (part_of (elaborated.kind f) n m (parts t inside)).units
      ≡ with_answer (entity_by f t inside) (seen t (λ n parts. entity_by n.form t parts) inside_unit entities_value (inside_unit f) inside)
  entity_step form.EntityDeclaration n m inside =
      let made : List (List ℕ) → List (List ℕ) → List ListedEntity =
      λ objects defaults. record { name = (nth 0 (parts t inside)).meaning.text; generics = record { objects = objects; defaults = defaults } } ∷ [] in
      ap₂ made
      (ap objects_value (part_skipped t 1 inside) ∙ sym (objects_found (skipped 1 inside)))
      (ap defaults_value (part_skipped t 1 inside) ∙ sym (defaults_found (skipped 1 inside)))
  entity_step form.ArchitectureBody n m inside = refl
  entity_step form.PackageDeclaration n m inside = refl
  entity_step form.PackageBody n m inside = refl
  entity_step form.PackageInstantiation n m inside = refl
  entity_step _ n m inside = gathered_through entities_in (λ p. p.units) refl entities_joined (parts t inside)

  pub entities_found : (f : Forest Resolved) → all_found (entity_seeker t) trees.Each f ≡ entities_in (gathered (λ p. p.units) (parts t f))
  entities_found f =
      found_seen t (λ n parts. entity_by n.form t parts) inside_unit entities_value refl
      (λ n text place inside. entity_step n.form n (node_meaning t n text place (meant (parts t inside))) inside) trees.Each f
      ∙ sym (gathered_through entities_in (λ p. p.units) refl entities_joined (parts t f))

pub entities_are_listed : (r : Revision) (tree : ResolvedTree) (ds : List Declaration) (f : Forest Resolved) (found : List ListedEntity)
    → ds ≡ tree.declarations → f ≡ tree.units → found ≡ all_found (entity_seeker (table r ds)) trees.Each f
    → found ≡ entities_in (units_of r tree).units
entities_are_listed r tree ds f found are is_units is =
    is ∙ ap₂ (λ ds f. all_found (entity_seeker (table r ds)) trees.Each f) are is_units ∙ entities_found (table r tree.declarations) tree.units
