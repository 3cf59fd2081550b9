use Rattle.std.proofs.Common.{◌≡◌, false, Option, Some, None, ◌∙◌}
use Rattle.std.specs.Prelude.{MatchOption, is_some}
use Rattle.vd_forest.specs.Forest.{Forest, nothing}
use Rattle.vd_resolved.specs.declared.node.Resolved.{Resolved}
use Rattle.vd_name_ports.proofs.ConversionLemmas.{last_tells}
use Rattle.vd_name_ports.proofs.conversions.operand_type.Goals as goal

none_there : {T : Type 0} (o : Option T) (next : Forest Resolved) (Q : T → Type 0) → is_some o ≡ false → MatchOption o (next ≡ nothing) Q → next ≡ nothing
none_there None next Q none h = h
none_there (Some x) next Q none h = cc

pub returns-then-is_none : goal.returns-then-is_none
returns-then-is_none c =
    let piece = c.in-Some.piece in
    last_tells c.args.own.now c.type_behind.result c.loop-piece.left piece.form piece.text.now piece.place piece.parts piece.next c.in-Some.ensures
    (none_there _ piece.next _ c.if-is_none.ensures c.open-in-Some.ensures) (c.type_behind.ensures piece.text.now piece.place) ∙ c.loop-piece.invariant
