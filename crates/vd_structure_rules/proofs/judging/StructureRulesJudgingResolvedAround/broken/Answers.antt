use Rattle.std.proofs.Common.{None, is_some, slice_index_or}
use Rattle.vd_structure_rules.specs.StructureRules.{Design}
use Rattle.vd_structure_rules.proofs.RuleLemmas.{three_steps}
use Rattle.vd_structure_rules.proofs.judging.StructureRulesJudgingResolvedAround.broken.Goals as goal

pub returns : goal.returns
returns c =
    let rules = c.args.self.now in
    let around = c.args.around.now in
    let node = c.args.node.now in
    let design : Design = record { with_body = λ k. is_some (slice_index_or rules.bodies.now k None); loops = λ k. slice_index_or rules.loops.now k None } in
    three_steps rules.revision design around node.form node.text.now node.place c.statement_place-place.result node.parts c.broken_by_statement-statement.result
    c.in_ok-declaration.declaration c.early_in-choices.result c.lesser.result c.lesser-2.result c.statement_place-place.ensures c.broken_by_statement-statement.ensures
    c.in_ok-declaration.ensures c.early_in-choices.ensures c.lesser.ensures c.lesser-2.ensures
