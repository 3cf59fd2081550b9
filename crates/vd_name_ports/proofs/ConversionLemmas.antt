-- Conversions of ports: where they are read, and the type of an operand.
use Rattle.std.proofs.Common.{◌≡◌, ℕ, List, Option, sym, ap, subst, ◌∙◌}
use Rattle.vd_bytes.specs.declared.places.Place.{Place}
use Rattle.vd_forest.specs.Forest.{Forest, nothing, more}
use Rattle.vd_forms.specs.declared.form.Form.{Form}
use Rattle.vd_overloads.specs.declared.wanted.Wanted.TheVariants as wanted
use Rattle.vd_resolved.specs.declared.node.Resolved.{Resolved}
use Rattle.vd_name_rows.specs.Designs.{At, Design}
use Rattle.vd_naming.specs.Expressions.{read_as}
use Rattle.vd_naming.specs.Ports.{among_ports, converted, operand_type}
use Rattle.vd_name_expressions.specs.Reads.{IsRead}
use Rattle.vd_name_expressions.specs.declared.reading.Read.{Read}

pub read_among : (store : List (Forest Resolved)) (read : Read) (entity : ℕ) (at among : At) (d : Design) (tree : Forest Form)
    → among ≡ among_ports entity at d → IsRead store read (read_as among d wanted.Free tree) → IsRead store read (converted entity at d tree)
read_among store read entity at among d tree same is =
    let there = subst (λ a. IsRead store read (read_as a d wanted.Free tree)) same is in
    record { holds = there.holds; first = there.first }

-- the last piece tells the type
pub last_tells : (own found : Option ℕ) (pieces : Forest Resolved) (node : Resolved) (text : List ℕ) (place : Place) (parts next : Forest Resolved)
    → pieces ≡ more node text place parts next → next ≡ nothing → found ≡ operand_type own (more node text place parts nothing)
    → found ≡ operand_type own pieces
last_tells own found pieces node text place parts next opened none is =
    is ∙ ap (λ n. operand_type own (more node text place parts n)) (sym none) ∙ ap (operand_type own) (sym opened)
