-- The tokens of a 1993 tree don't depend on the places of the tree.
use Rattle.std.proofs.Common.{◌≡◌, ◌++◌, refl, sym, ap, ◌∙◌}
use Rattle.vd_forest.specs.Forest.{Forest, nothing, more, erased}
use Rattle.vd_first_trees.specs.declared.form.Form.{Form}
use Rattle.vd_first_trees.specs.declared.form.Form.TheVariants as form
use Rattle.vd_first_print.specs.declared.writing.Position.{Position}
use Rattle.vd_first_print.specs.declared.writing.Position.TheVariants.{First}
use Rattle.vd_first_print.specs.Writing.{fixed_tokens, own_tokens, in_front, next_position, behind, has_brackets, in_brackets, between_if_more, parts_tokens, design_tokens}

between_erased : (parent : Form) (i : Position) (f : Forest Form) → between_if_more parent i (erased f) ≡ between_if_more parent i f
between_erased parent i nothing = refl
between_erased parent i (more f t p parts next) = refl

parts_erased : (parent : Form) (i : Position) (f : Forest Form) → parts_tokens parent i (erased f) ≡ parts_tokens parent i f
parts_erased parent i nothing = refl
parts_erased parent i (more f t p parts next) =
    let inner = parts_erased f First parts in
    let gap = between_erased parent i next in
    let rest = parts_erased parent (next_position i) next in
    λ j. in_brackets (has_brackets parent i f) (own_tokens f t ++ (fixed_tokens (in_front f) ++ (inner j ++ fixed_tokens (behind f)))) ++ (gap j ++ rest j)

pub same_tokens : (f g : Forest Form) → erased f ≡ erased g → design_tokens f ≡ design_tokens g
same_tokens f g same = sym (parts_erased form.StatementPart First f) ∙ ap design_tokens same ∙ parts_erased form.StatementPart First g
