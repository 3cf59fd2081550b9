-- What stands in the tables for each number: the mode of the first port of the number, and where the first view of the number is found.
use Rattle.std.specs.Prelude.{◌==◌, ◌≡◌, List, None, Option, Some, [], if◌then◌else◌, length, map, slice_index_or, suc, ℕ, ◌∷◌}
use Rattle.vd_meaning.specs.Building.{Input}
use Rattle.vd_meaning.specs.Elaborations.{copied, element_as, number_as}
use Rattle.vd_meaning.specs.NodeFacets.{ByMode, ElementMode, View, ViewElement}
use Rattle.vd_meaning.specs.Instances.{view_in}
use Rattle.vd_meaning.specs.Tables.{same_type}
use Rattle.vd_port_lists.specs.Listed.{read_view}
use Rattle.vd_port_lists.specs.Modes.{read_mode}
use Rattle.vd_port_lists.specs.declared.entries.ListedElement.{ListedElement}
use Rattle.vd_port_lists.specs.declared.entries.ListedPort.{ListedPort}
use Rattle.vd_port_lists.specs.declared.modes.PortMode.{PortMode}
use Rattle.vd_port_lists.specs.declared.views.ListedView.{ListedView}
use Rattle.vd_port_modes.specs.declared.found.Found.{Found}
use Rattle.vd_resolved.specs.Trees.{ResolvedTree}
use Rattle.vd_trees.specs.declared.revision.Revision.{Revision}
use Rattle.vd_value_rules.specs.Designs.{design_of, mode_of_port}

-- ---- ports

abbrev pub first_listed : List ListedPort → ℕ → Option PortMode
first_listed [] n = None
first_listed (p ∷ ps) n = if p.number == n then Some p.mode else first_listed ps n

abbrev pub read_or_input : Option PortMode → ElementMode
read_or_input None = ByMode Input
read_or_input (Some mode) = read_mode mode

-- ---- views. Where none of the list has the number, what is found behind it counts

-- of views that a design declares itself, of which the first has this place
abbrev pub own_before : ℕ → List ListedView → ℕ → Option Found → Option Found
own_before k [] n behind = behind
own_before k (v ∷ vs) n behind = if v.view == n then Some (record { view = k; instance = None }) else own_before (suc k) vs n behind

-- of their copies in an instance
abbrev pub copied_before : ℕ → List (ℕ × ℕ) → ℕ → List ListedView → ℕ → Option Found → Option Found
copied_before instance copies k [] n behind = behind
copied_before instance copies k (v ∷ vs) n behind =
    if same_type (copied copies v.view) (Some n) then Some (record { view = k; instance = Some instance }) else copied_before instance copies (suc k) vs n behind

-- in instances, of which the first has this place
abbrev pub found_before : ℕ → List ListedView → List (List (ℕ × ℕ)) → ℕ → Option Found
found_before instance vs [] n = None
found_before instance vs (copies ∷ others) n = copied_before instance copies 0 vs n (found_before (suc instance) vs others n)

abbrev pub found_in : List ListedView → List (List (ℕ × ℕ)) → ℕ → Option Found
found_in vs all n = own_before 0 vs n (found_before 0 vs all n)

-- ---- the view that is found

abbrev pub no_view : ListedView
no_view = record { view = 0; mark = None; elements = [] }

-- the copy of a view, under its own number
abbrev pub copied_view : List (ℕ × ℕ) → ℕ → View → View
copied_view copies n v = record { view = n; mark = number_as copies v.mark; elements = map (element_as copies) v.elements }

abbrev pub view_by : Option ℕ → List (List (ℕ × ℕ)) → ℕ → ListedView → View
view_by None all n v = read_view v
view_by (Some instance) all n v = copied_view (slice_index_or all instance []) n (read_view v)

abbrev pub view_found : List ListedView → List (List (ℕ × ℕ)) → ℕ → Option Found → Option View
view_found vs all n None = None
view_found vs all n (Some found) = Some (view_by found.instance all n (slice_index_or vs found.view no_view))

-- the names of elements, which a copy keeps
abbrev pub names_listed : List ListedElement → List (List ℕ)
names_listed xs = map (λ x. x.name) xs

abbrev pub names_of : List ViewElement → List (List ℕ)
names_of xs = map (λ x. x.name) xs

-- where a view is found, if one is meant
abbrev pub found_at : (ℕ → Option Found) → Option ℕ → Option Found
found_at found None = None
found_at found (Some n) = found n

-- what the tables have is what the definitions say of a design
pub record AreTables (r : Revision) (tree : ResolvedTree) (modes : ℕ → Option PortMode) (found : ℕ → Option Found) (vs : List ListedView) (all : List (List (ℕ × ℕ))) (count : ℕ) : Type 0 where
  pub modes_are : (n : ℕ) → read_or_input (modes n) ≡ mode_of_port (design_of r tree) n
  pub views_are : (n : ℕ) → view_found vs all n (found n) ≡ view_in (design_of r tree).units.views (Some n)
  pub count_is : count ≡ length (design_of r tree).units.views
