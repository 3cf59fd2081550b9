-- The views that a design declares are those that are found, and their elements too.
use Rattle.std.proofs.Common.{◌≡◌, ◌++◌, ℕ, List, [], ◌∷◌, Option, map, refl, sym, ap, ◌∙◌}
use Rattle.vd_bytes.specs.declared.places.Place.{Place}
use Rattle.vd_declarations.specs.declared.declarations.Declaration.{Declaration}
use Rattle.vd_meaning.specs.NodeFacets.{ElementMode, Part, View, ViewElement, gathered, nth, of_meaning}
use Rattle.vd_meaning.specs.Parts as elaborated
use Rattle.vd_meaning.specs.Parts.{element_parts, node_part, part_of, parts}
use Rattle.vd_forest.specs.Forest.{Forest, skipped}
use Rattle.vd_forms.specs.declared.form.Form.{Form}
use Rattle.vd_walks.specs.Gathering.{all_found}
use Rattle.vd_meaning.specs.Brackets.{or_else}
use Rattle.vd_meaning.specs.Facets.{Meaning, flattened, no_meaning}
use Rattle.vd_meaning.specs.Kinds.{kind}
use Rattle.vd_meaning.specs.Meanings.{meaning_of}
use Rattle.vd_meaning.specs.Names.{number_or}
use Rattle.vd_meaning.specs.Tables.{Table, table}
use Rattle.vd_port_lists.proofs.PartLemmas.{meant, nth_meant, part_declared, part_mode}
use Rattle.vd_port_lists.proofs.SeekLemmas.{found_seen, read_single, read_some, seen_by}
use Rattle.vd_port_lists.specs.FirstTrees.{declared_first}
use Rattle.vd_port_lists.specs.Listed.{own_views, read_element, read_view}
use Rattle.vd_port_lists.specs.Modes.{read_mode}
use Rattle.vd_port_lists.specs.Seeking.{all_trees, element_at, elements_in, inside_element, inside_for_elements, inside_for_views, inside_names, inside_view, named_element, view_at, view_by, view_seeker}
use Rattle.vd_port_lists.specs.declared.entries.ListedElement.{ListedElement}
use Rattle.vd_port_lists.specs.declared.modes.PortMode.{PortMode}
use Rattle.vd_port_lists.specs.declared.seeking.Seeking.{Seeking}
use Rattle.vd_port_lists.specs.declared.seeking.Sought.{Sought}
use Rattle.vd_port_lists.specs.declared.seeking.Sought.TheVariants.{ElementLists, Names, PackageInstances, PortLists, Units, Views}
use Rattle.vd_port_lists.specs.declared.seeking.Trees.TheVariants.{AllTrees, OneTree}
use Rattle.vd_port_lists.specs.declared.views.ListedView.{ListedView}
use Rattle.vd_resolved.specs.Trees.{ResolvedTree}
use Rattle.vd_resolved.specs.declared.node.Resolved.{Resolved}
use Rattle.vd_trees.specs.declared.revision.Revision.{Revision}
use Rattle.vd_forms.specs.declared.form.Form.TheVariants as form

-- ---- elements

elements_joined : (mode : ElementMode) (names others : List (List ℕ)) → element_parts (names ++ others) mode ≡ element_parts names mode ++ element_parts others mode
elements_joined mode [] others = refl
elements_joined mode (name ∷ names) others = ap (λ ys. record { name = name; mode = mode } ∷ ys) (elements_joined mode names others)

abbrev read : ListedElement → List ViewElement
read x = read_element x ∷ []

abbrev value : Sought → Part → List ViewElement
value ElementLists p = p.elements
value (Names mode) p = element_parts p.meaning.texts (read_mode mode)
value _ p = []

empty : (x : Sought) → value x (of_meaning no_meaning) ≡ []
empty Units = refl
empty PortLists = refl
empty (Names mode) = refl
empty ElementLists = refl
empty Views = refl
empty PackageInstances = refl

texts_kept : (k : elaborated.Kind) (n : Resolved) (m : Meaning) (ps : List Part) → (part_of k n m ps).meaning.texts ≡ m.texts
texts_kept elaborated.SelectedText n m ps = refl
texts_kept elaborated.Alternative n m ps = refl
texts_kept _ n m ps = refl

flattened_meant : (mode : ElementMode) (ps : List Part) → element_parts (flattened (λ m. m.texts) (meant ps)) mode ≡ gathered (λ p. element_parts p.meaning.texts mode) ps
flattened_meant mode [] = refl
flattened_meant mode (p ∷ ps) =
    elements_joined mode p.meaning.texts (flattened (λ m. m.texts) (meant ps)) ∙ ap (λ ys. element_parts p.meaning.texts mode ++ ys) (flattened_meant mode ps)

module _ (t : Table) where
  abbrev seen_in_parts : Seeking → Forest Resolved → List ViewElement
  seen_in_parts s f = seen_by t read element_at (inside_for_elements t) value s f

  element_step : (f : Form) (n : Resolved) (m : Meaning) (inside : Forest Resolved)
      → (part_of (elaborated.kind f) n m (parts t inside)).elements ≡ seen_in_parts (inside_element t f inside) inside
  element_step form.ViewElement n m inside = ap (element_parts (nth 0 (parts t inside)).meaning.texts) (part_mode t 1 inside)
  element_step _ n m inside = refl

  name_step : (f : Form) (n : Resolved) (text : List ℕ) (mode : PortMode) (inside : Forest Resolved)
      → element_parts (meaning_of (kind f) t n text (meant (parts t inside))).texts (read_mode mode)
      ≡ read_some read (named_element f text mode) ++ seen_in_parts (inside_names f mode) inside
  name_step form.Identifier n text mode inside = refl
  name_step form.Letter n text mode inside = refl
  name_step form.IdentifierList n text mode inside = flattened_meant (read_mode mode) (parts t inside)
  name_step form.Association n text mode inside = ap (λ m. element_parts m.texts (read_mode mode)) (nth_meant 1 (parts t inside))
  name_step form.OthersAssociation n text mode inside = ap (λ m. element_parts m.texts (read_mode mode)) (nth_meant 0 (parts t inside))
  name_step form.UnconstrainedIndex n text mode inside = ap (λ m. element_parts m.texts (read_mode mode)) (nth_meant 0 (parts t inside))
  name_step _ n text mode inside = refl

  step : (x : Sought) (n : Resolved) (text : List ℕ) (place : Place) (inside : Forest Resolved)
      → value x (node_part t n text place (parts t inside)) ≡ read_some read (element_at x n text inside) ++ seen_in_parts (inside_for_elements t x n.form inside) inside
  step Units n text place inside = refl
  step PortLists n text place inside = refl
  step (Names mode) n text place inside =
      ap (λ texts. element_parts texts (read_mode mode))
      (texts_kept (elaborated.kind n.form) n (meaning_of (kind n.form) t n text (meant (parts t inside))) (parts t inside))
      ∙ name_step n.form n text mode inside
  step ElementLists n text place inside = element_step n.form n (meaning_of (kind n.form) t n text (meant (parts t inside))) inside
  step Views n text place inside = refl
  step PackageInstances n text place inside = refl

  elements_found : (f : Forest Resolved) → map read_element (elements_in t f) ≡ (nth 2 (parts t f)).elements
  elements_found f = sym (read_single read_element (elements_in t f)) ∙ found_seen t read element_at (inside_for_elements t) value empty step f (OneTree 2) ElementLists

  -- ---- views

  abbrev read_found : ListedView → List View
  read_found v = read_view v ∷ []

  abbrev view_value : Sought → Part → List View
  view_value Views p = p.views
  view_value _ p = []

  view_empty : (x : Sought) → view_value x (of_meaning no_meaning) ≡ []
  view_empty Units = refl
  view_empty PortLists = refl
  view_empty (Names mode) = refl
  view_empty ElementLists = refl
  view_empty Views = refl
  view_empty PackageInstances = refl

  abbrev view_from : Resolved → Option ℕ → Option ℕ → List ViewElement → List View
  view_from n number mark elements = record { view = number_or (or_else n.declaration number); mark = mark; elements = elements } ∷ []

  view_form_step : (f : Form) (n : Resolved) (m : Meaning) (inside : Forest Resolved)
      → (part_of (elaborated.kind f) n m (parts t inside)).views
      ≡ read_some read_found (view_by f t n inside) ++ seen_by t read_found (view_at t) inside_for_views view_value (inside_view f) inside
  view_form_step form.ViewDeclaration n m inside =
      ap (λ d. view_from n d (nth 1 (parts t inside)).meaning.declaration (nth 2 (parts t inside)).elements) (part_declared t 0 inside)
      ∙ ap (λ d. view_from n (declared_first t inside) d (nth 2 (parts t inside)).elements) (part_declared t 1 inside)
      ∙ ap (view_from n (declared_first t inside) (declared_first t (skipped 1 inside))) (sym (elements_found inside))
  view_form_step _ n m inside = refl

  view_step : (x : Sought) (n : Resolved) (text : List ℕ) (place : Place) (inside : Forest Resolved)
      → view_value x (node_part t n text place (parts t inside))
      ≡ read_some read_found (view_at t x n text inside) ++ seen_by t read_found (view_at t) inside_for_views view_value (inside_for_views x n.form inside) inside
  view_step Units n text place inside = refl
  view_step PortLists n text place inside = refl
  view_step (Names mode) n text place inside = refl
  view_step ElementLists n text place inside = refl
  view_step Views n text place inside = view_form_step n.form n (meaning_of (kind n.form) t n text (meant (parts t inside))) inside
  view_step PackageInstances n text place inside = refl

  views_found : (f : Forest Resolved) → map read_view (all_found (view_seeker t) (all_trees Views) f) ≡ gathered (λ p. p.views) (parts t f)
  views_found f =
      sym (read_single read_view (all_found (view_seeker t) (all_trees Views) f))
      ∙ found_seen t read_found (view_at t) inside_for_views view_value view_empty view_step f AllTrees Views

pub views_are_listed : (r : Revision) (tree : ResolvedTree) (ds : List Declaration) (f : Forest Resolved) (s : Seeking) (found : List ListedView)
    → ds ≡ tree.declarations → f ≡ tree.units → s ≡ all_trees Views → found ≡ all_found (view_seeker (table r ds)) s f
    → map read_view found ≡ own_views r tree
views_are_listed r tree ds f s found are is_units begins is =
    ap (map read_view)
    (is ∙ ap (λ ds. all_found (view_seeker (table r ds)) s f) are ∙ ap (λ s. all_found (view_seeker (table r tree.declarations)) s f) begins
    ∙ ap (all_found (view_seeker (table r tree.declarations)) (all_trees Views)) is_units)
    ∙ views_found (table r tree.declarations) tree.units
