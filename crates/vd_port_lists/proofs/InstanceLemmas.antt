-- The instances of packages are those that are found, and what they declare for views.
use Rattle.std.proofs.Common.{◌≡◌, ◌++◌, ℕ, List, [], ◌∷◌, Option, refl, sym, ap, ap₂, ◌∙◌}
use Rattle.std.proofs.lemmas.List.{append-nil, append_assoc}
use Rattle.vd_bytes.specs.declared.places.Place.{Place}
use Rattle.vd_declarations.specs.declared.declarations.Declaration.{Declaration}
use Rattle.vd_meaning.specs.Elaborations.{units_of, views_as, views_of_instances}
use Rattle.vd_meaning.specs.NodeFacets.{ArchitectureUnit, EntityUnit, PackageUnit, Part, Unit', View, gathered, of_meaning}
use Rattle.vd_meaning.specs.Parts as elaborated
use Rattle.vd_meaning.specs.Parts.{node_part, part_of, parts}
use Rattle.vd_forest.specs.Forest.{Forest}
use Rattle.vd_forms.specs.declared.form.Form.{Form}
use Rattle.vd_walks.specs.Gathering.{all_found}
use Rattle.vd_meaning.specs.Brackets.{or_else}
use Rattle.vd_meaning.specs.Facets.{no_meaning}
use Rattle.vd_meaning.specs.Kinds.{kind}
use Rattle.vd_meaning.specs.Meanings.{meaning_of}
use Rattle.vd_meaning.specs.Names.{number_or}
use Rattle.vd_meaning.specs.Tables.{Table, copies_in, table}
use Rattle.vd_port_lists.proofs.PartLemmas.{meant, nth_meant, part_declared}
use Rattle.vd_port_lists.proofs.SeekLemmas.{found_seen, gathered_through, read_all, read_some, seen_by}
use Rattle.vd_port_lists.specs.Listed.{views_of_listed}
use Rattle.vd_port_lists.specs.Seeking.{all_trees, inside_for_instances, inside_package, instance_at, instance_by, instance_seeker}
use Rattle.vd_port_lists.specs.declared.entries.ListedInstance.{ListedInstance}
use Rattle.vd_port_lists.specs.declared.seeking.Seeking.{Seeking}
use Rattle.vd_port_lists.specs.declared.seeking.Sought.{Sought}
use Rattle.vd_port_lists.specs.declared.seeking.Sought.TheVariants.{ElementLists, Names, PackageInstances, PortLists, Units, Views}
use Rattle.vd_port_lists.specs.declared.seeking.Trees.TheVariants.{AllTrees}
use Rattle.vd_resolved.specs.Trees.{ResolvedTree}
use Rattle.vd_resolved.specs.declared.node.Resolved.{Resolved}
use Rattle.vd_trees.specs.declared.revision.Revision.{Revision}
use Rattle.vd_forms.specs.declared.form.Form.TheVariants as form

-- nothing is copied of a package that has no copies
none_copied : (vs : List View) → views_as [] vs ≡ []
none_copied [] = refl
none_copied (v ∷ vs) = none_copied vs

joined : (us vs : List Unit') (views : List View) → views_of_instances (us ++ vs) views ≡ views_of_instances us views ++ views_of_instances vs views
joined [] vs views = refl
joined (PackageUnit p ∷ us) vs views =
    ap (λ ys. views_as p.copies views ++ ys) (joined us vs views) ∙ sym (append_assoc (views_as p.copies views) (views_of_instances us views) (views_of_instances vs views))
joined (EntityUnit name generics ports ∷ us) vs views = joined us vs views
joined (ArchitectureUnit name entity region ∷ us) vs views = joined us vs views

module _ (t : Table) (views : List View) where
  abbrev read : ListedInstance → List View
  read x = views_as (copies_in t x.generic x.instance) views

  abbrev value : Sought → Part → List View
  value PackageInstances p = views_of_instances p.units views
  value _ p = []

  empty : (x : Sought) → value x (of_meaning no_meaning) ≡ []
  empty Units = refl
  empty PortLists = refl
  empty (Names mode) = refl
  empty ElementLists = refl
  empty Views = refl
  empty PackageInstances = refl

  abbrev seen_in_parts : Seeking → Forest Resolved → List View
  seen_in_parts s f = seen_by t read (instance_at t) inside_for_instances value s f

  abbrev copied_by : Resolved → Option ℕ → Option ℕ → List View
  copied_by n generic instance = views_as (copies_in t (number_or generic) (number_or (or_else n.declaration instance))) views ++ []

  package_step : (f : Form) (n : Resolved) (text : List ℕ) (inside : Forest Resolved)
      → views_of_instances (part_of (elaborated.kind f) n (meaning_of (kind f) t n text (meant (parts t inside))) (parts t inside)).units views
      ≡ read_some read (instance_by f t n inside) ++ seen_in_parts (inside_package f) inside
  package_step form.EntityDeclaration n text inside = refl
  package_step form.ArchitectureBody n text inside = refl
  package_step form.PackageDeclaration n text inside = append-nil (views_as [] views) ∙ none_copied views
  package_step form.PackageBody n text inside = append-nil (views_as [] views) ∙ none_copied views
  package_step form.PackageInstantiation n text inside =
      ap₂ (λ a b. copied_by n a.declaration b.declaration) (nth_meant 1 (parts t inside)) (nth_meant 0 (parts t inside))
      ∙ ap₂ (copied_by n) (part_declared t 1 inside) (part_declared t 0 inside)
  package_step _ n text inside = gathered_through (λ us. views_of_instances us views) (λ p. p.units) refl (λ us vs. joined us vs views) (parts t inside)

  step : (x : Sought) (n : Resolved) (text : List ℕ) (place : Place) (inside : Forest Resolved)
      → value x (node_part t n text place (parts t inside)) ≡ read_some read (instance_at t x n text inside) ++ seen_in_parts (inside_for_instances x n.form inside) inside
  step Units n text place inside = refl
  step PortLists n text place inside = refl
  step (Names mode) n text place inside = refl
  step ElementLists n text place inside = refl
  step Views n text place inside = refl
  step PackageInstances n text place inside = package_step n.form n text inside

  read_listed : (xs : List ListedInstance) → views_of_listed t views xs ≡ read_all read xs
  read_listed [] = refl
  read_listed (x ∷ xs) = ap (λ ys. read x ++ ys) (read_listed xs)

  instances_found : (f : Forest Resolved)
      → views_of_listed t views (all_found (instance_seeker t) (all_trees PackageInstances) f) ≡ views_of_instances (gathered (λ p. p.units) (parts t f)) views
  instances_found f =
      read_listed (all_found (instance_seeker t) (all_trees PackageInstances) f)
      ∙ found_seen t read (instance_at t) inside_for_instances value empty step f AllTrees PackageInstances
      ∙ sym (gathered_through (λ us. views_of_instances us views) (λ p. p.units) refl (λ us vs. joined us vs views) (parts t f))

pub instances_are_listed : (r : Revision) (tree : ResolvedTree) (ds : List Declaration) (f : Forest Resolved) (s : Seeking) (found : List ListedInstance)
    → ds ≡ tree.declarations → f ≡ tree.units → s ≡ all_trees PackageInstances → found ≡ all_found (instance_seeker (table r ds)) s f
    → (views : List View) → views_of_listed (table r tree.declarations) views found ≡ views_of_instances (units_of r tree).units views
instances_are_listed r tree ds f s found are is_units begins is views =
    ap (views_of_listed (table r tree.declarations) views)
    (is ∙ ap (λ ds. all_found (instance_seeker (table r ds)) s f) are ∙ ap (λ s. all_found (instance_seeker (table r tree.declarations)) s f) begins
    ∙ ap (all_found (instance_seeker (table r tree.declarations)) (all_trees PackageInstances)) is_units)
    ∙ instances_found (table r tree.declarations) views tree.units
