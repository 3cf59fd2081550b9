-- How many views there are, one by one.
use Rattle.std.proofs.Common.{◌≡◌, ◌+◌, ◌≤◌, ℕ, zero, suc, List, [], ◌∷◌, ◌++◌, Bool, true, false, cond, is_some, Option, Some, None, length, map, refl, sym, ap, ◌∙◌, arith}
use Rattle.std.proofs.lemmas.List.{length-append, length-map}
use Rattle.vd_meaning.specs.Elaborations.{copied, units_of, view_as, views_as, views_of_instances}
use Rattle.vd_meaning.specs.NodeFacets.{View}
use Rattle.vd_meaning.specs.Tables.{Table, copies_in, table}
use Rattle.vd_port_lists.specs.Listed.{own_views, read_view, views_of_listed}
use Rattle.vd_port_lists.specs.declared.entries.ListedInstance.{ListedInstance}
use Rattle.vd_port_lists.specs.declared.views.ListedView.{ListedView}
use Rattle.vd_port_modes.specs.Counts.{all_copied, copied_count, view_count}
use Rattle.vd_port_modes.specs.Source.{copies_there}
use Rattle.vd_resolved.specs.Trees.{ResolvedTree}
use Rattle.vd_trees.specs.declared.revision.Revision.{Revision}
use Rattle.vd_value_rules.specs.Designs.{design_of}

copied_listed : (t : Table) (whole : List ListedView) (xs : List ListedInstance)
    → all_copied whole (map (λ x. copies_in t x.generic x.instance) xs) ≡ views_of_listed t (map read_view whole) xs
copied_listed t whole [] = refl
copied_listed t whole (x ∷ xs) = ap (λ ys. views_as (copies_in t x.generic x.instance) (map read_view whole) ++ ys) (copied_listed t whole xs)

one_copied : (o : Option ℕ) (cs : List (ℕ × ℕ)) (v : View) (others : List View)
    → length (view_as cs v o ++ others) ≡ cond (is_some o) 1 0 + length others
one_copied None cs v others = omega arith
one_copied (Some n) cs v others = omega arith

pub copied_first : (cs : List (ℕ × ℕ)) (v : ListedView) (vs : List ListedView)
    → copied_count cs (v ∷ vs) ≡ cond (is_some (copied cs v.view)) 1 0 + copied_count cs vs
copied_first cs v vs = one_copied (copied cs v.view) cs (read_view v) (views_as cs (map read_view vs))

pub all_first : (vs : List ListedView) (cs : List (ℕ × ℕ)) (css : List (List (ℕ × ℕ)))
    → length (all_copied vs (cs ∷ css)) ≡ copied_count cs vs + length (all_copied vs css)
all_first vs cs css = length-append (views_as cs (map read_view vs)) (all_copied vs css)

-- all views of a design, where the lists are those of it
pub views_are_counted : (r : Revision) (tree : ResolvedTree) (whole : List ListedView) (xs : List ListedInstance) (all : List (List (ℕ × ℕ))) (count : ℕ)
    → map read_view whole ≡ own_views r tree
    → ((views : List View) → views_of_listed (table r tree.declarations) views xs ≡ views_of_instances (units_of r tree).units views)
    → all ≡ map (copies_there tree.declarations) xs
    → count ≡ view_count whole all
    → count ≡ length (design_of r tree).units.views
views_are_counted r tree whole xs all count own copies are is =
    is
    ∙ ap (λ css. length whole + length (all_copied whole css)) are
    ∙ ap (λ vs. length whole + length vs) (copied_listed (table r tree.declarations) whole xs ∙ copies (map read_view whole))
    ∙ ap (λ n. n + length (views_of_instances (units_of r tree).units (map read_view whole))) (sym (length-map whole read_view))
    ∙ sym (length-append (map read_view whole) (views_of_instances (units_of r tree).units (map read_view whole)))
    ∙ ap (λ vs. length (vs ++ views_of_instances (units_of r tree).units vs)) own
