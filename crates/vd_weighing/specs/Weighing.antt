-- The walk over a design that weighs it: the state is what the level weighs so far, and the table what is known.
use Rattle.std.specs.Prelude.{ℕ, ◌+◌, ◌*◌, Bool, ◌&&◌, ◌||◌, List, if◌then◌else◌}
use Rattle.vd_bytes.specs.declared.places.Place.{Place}
use Rattle.vd_declarations.specs.declared.declarations.Declaration.{Declaration}
use Rattle.vd_forest.specs.Forest.{Forest, parts_of}
use Rattle.vd_forms.specs.declared.form.Form.{Form}
use Rattle.vd_forms.specs.declared.form.Form.TheVariants as form
use Rattle.vd_forms.specs.Forms.{same_form}
use Rattle.vd_resolved.specs.declared.node.Resolved.{Resolved}
use Rattle.vd_walks.specs.Walking.{Walked, Walker, Entry, Done, Inside, no_trees}
use Rattle.vd_weighing.specs.Weights.{Known, declared_at, declares, name_in, has_generics, has_entry_at, times_at, part, own_weight, numbers_of, declared_by, element_count, entity_instance, if_generate, case_generate}
use Rattle.vd_weighing.specs.Limits.{at_most}
use Rattle.vd_weighing.specs.Tables.{sum_found, with_sum, with_elements, with_ports, with_instance}
use Rattle.vd_weighing.specs.declared.weigher.Kept.{Kept}

-- a package or function with generics, and the body of one
abbrev pub counts_aside : Resolved → Forest Resolved → Known → Bool
counts_aside node parts k = has_generics node.form parts || (same_form node.form form.PackageBody && has_entry_at (declares node parts) k.generics)

-- a node and its parts
abbrev pub with_own : Form → ℕ → ℕ
with_own f inner = at_most (inner + own_weight f)

module _ (ds : List Declaration) where
  -- what a tree weighs, given what its node and its parts do
  abbrev pub weight_by : Form → Forest Resolved → ℕ → Known → ℕ
  weight_by form.FunctionInstantiation parts n k = at_most (n + sum_found (declared_at (part 2 parts)) k.generics)
  weight_by form.ViewPort parts n k = at_most (n * times_at (declared_at (part 2 parts)) k.views)
  weight_by form.IfGenerate parts n k = at_most (n + at_most (if_generate ds parts))
  weight_by form.CaseGenerate parts n k = at_most (n + at_most (case_generate ds parts))
  weight_by _ parts n k = n

  -- what is known behind a tree, given what is known behind its parts
  abbrev pub known_by : Form → Resolved → Forest Resolved → Known → Known
  known_by form.PackageInstantiation node parts k =
      with_instance (declared_at (part 1 parts)) (declared_by ds (declared_at (part 1 parts))) (declared_by ds (declares node parts)) k
  known_by form.ViewDeclaration node parts k =
      with_elements (declares node parts) (at_most (element_count ds (parts_of (part 2 parts)) k)) k
  known_by form.ViewPort node parts k =
      with_ports (numbers_of (parts_of (part 1 parts))) (times_at (declared_at (part 2 parts)) k.views) k
  known_by _ node parts k = k

  abbrev pub entered : Resolved → List ℕ → Place → Forest Resolved → ℕ → Known → Entry Form ℕ Known Kept
  entered node text place parts so_far k =
      if same_form node.form form.EntityInstantiation
      then Done (no_trees (at_most (so_far + at_most (entity_instance ds parts k).weight)) k)
      else Inside 0 k (record { before = so_far; is_aside = counts_aside node parts k })

  abbrev pub weight_left : Kept → Resolved → Forest Resolved → ℕ → Known → ℕ
  weight_left kept node parts n k = if kept.is_aside then kept.before else at_most (kept.before + weight_by node.form parts n k)

  abbrev pub known_left : Kept → Resolved → Forest Resolved → ℕ → Known → Known
  known_left kept node parts n k =
      if kept.is_aside then with_sum (declares node (name_in node.form parts)) n k else known_by node.form node parts k

  abbrev pub left : Kept → Resolved → List ℕ → Place → Forest Resolved → Walked Form ℕ Known → Walked Form ℕ Known
  left kept node text place parts inner =
      record inner {
        at = weight_left kept node parts (with_own node.form inner.at) inner.design;
        design = known_left kept node parts (with_own node.form inner.at) inner.design;
      }

  abbrev pub weigher : Walker Resolved Form ℕ Known Kept
  weigher = record { enter = entered; leave = left }
