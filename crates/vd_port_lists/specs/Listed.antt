-- What the entries of the lists are read as.
use Rattle.std.specs.Prelude.{◌++◌, ◌∷◌, List, [], map, ℕ}
use Rattle.vd_meaning.specs.Elaborations.{views_as}
use Rattle.vd_meaning.specs.NodeFacets.{ElementMode, Ports, View, ViewElement, gathered}
use Rattle.vd_meaning.specs.Parts.{parts}
use Rattle.vd_meaning.specs.Tables.{Table, copies_in, table}
use Rattle.vd_port_lists.specs.Modes.{read_mode}
use Rattle.vd_port_lists.specs.declared.entries.ListedElement.{ListedElement}
use Rattle.vd_port_lists.specs.declared.entries.ListedInstance.{ListedInstance}
use Rattle.vd_port_lists.specs.declared.entries.ListedPort.{ListedPort}
use Rattle.vd_port_lists.specs.declared.views.ListedView.{ListedView}
use Rattle.vd_resolved.specs.Trees.{ResolvedTree}
use Rattle.vd_trees.specs.declared.revision.Revision.{Revision}

-- ---- ports, one by one

abbrev pub with_mode : ElementMode → List ℕ → List (ℕ × ElementMode)
with_mode mode [] = []
with_mode mode (n ∷ ns) = (n, mode) ∷ with_mode mode ns

abbrev pub one_by_one : List Ports → List (ℕ × ElementMode)
one_by_one [] = []
one_by_one (p ∷ ps) = with_mode p.mode p.objects.numbers ++ one_by_one ps

abbrev pub read_port : ListedPort → ℕ × ElementMode
read_port p = (p.number, read_mode p.mode)

-- ---- views

abbrev pub read_element : ListedElement → ViewElement
read_element x = record { name = x.name; mode = read_mode x.mode }

abbrev pub read_view : ListedView → View
read_view v = record { view = v.view; mark = v.mark; elements = map read_element v.elements }

-- the views that a design declares itself
abbrev pub own_views : Revision → ResolvedTree → List View
own_views r tree = gathered (λ p. p.views) (parts (table r tree.declarations) tree.units)

-- ---- instances of packages: what they declare for views of the packages

abbrev pub views_of_listed : Table → List View → List ListedInstance → List View
views_of_listed t vs [] = []
views_of_listed t vs (x ∷ xs) = views_as (copies_in t x.generic x.instance) vs ++ views_of_listed t vs xs
