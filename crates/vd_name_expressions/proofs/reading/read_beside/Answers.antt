use Rattle.std.proofs.Common.{Some, Err, ap, ◌∙◌}
use Rattle.vd_walks.specs.Least.{lesser}
use Rattle.vd_naming.specs.Edges.{edge_of_no_signal}
use Rattle.vd_name_expressions.proofs.ReadLemmas.{read_one, read_none}
use Rattle.vd_name_expressions.proofs.reading.read_beside.Goals as goal

pub returns-in_ok-edge-in-Ok-clause-is : goal.returns-in_ok-edge-in-Ok-clause-is
returns-in_ok-edge-in-Ok-clause-is c =
    read_one c.args.at.now c.args.names.now c.args.wanted.now c.args.tree.now c.args.pieces c.resolve_expr.new.out
    (record { tree = c.in-Ok.number; first = c.lesser.result }) c.in_ok-surroundings.field-0
    c.in_ok-surroundings.ensures c.in-Ok.ensures.only
    (c.lesser.ensures ∙ ap (lesser c.args.pieces) (c.in_ok-edge-in-Ok.ensures ∙ ap (edge_of_no_signal c.args.names.now.scopes) c.cursor.ensures))

pub returns-in_ok-edge-in-Err-Refused-clause-is : goal.returns-in_ok-edge-in-Err-Refused-clause-is
returns-in_ok-edge-in-Err-Refused-clause-is c =
    read_none c.args.at.now c.args.names.now c.args.wanted.now c.args.tree.now c.args.pieces c.unresolved.new.out
    (record { tree = c.in_ok-number-in-Err-Refused.number; first = c.lesser-in-Err-Refused-2.result }) c.in_ok-surroundings.field-0 c.in-Err-Refused.refused
    c.in_ok-surroundings.ensures c.requires.alone
    (c.in-Err-Refused.ensures.not_one c.in-Err-Refused.refused (ap Err c.in-Err-Refused.field-0-is))
    (c.in-Err-Refused.ensures.refused c.in-Err-Refused.refused (ap Err c.in-Err-Refused.field-0-is))
    c.in_ok-number-in-Err-Refused.ensures.holds
    (c.lesser-in-Err-Refused-2.ensures
    ∙ ap (λ e. lesser e (Some c.in-Err-Refused.refused)) (c.lesser-in-Err-Refused.ensures ∙ ap (lesser c.args.pieces) (c.in_ok-edge-in-Err-Refused.ensures ∙ ap (edge_of_no_signal c.args.names.now.scopes) c.cursor-in-Err-Refused.ensures)))
