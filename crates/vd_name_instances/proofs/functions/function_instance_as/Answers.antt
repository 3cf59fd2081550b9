use Rattle.std.proofs.Common.{ap, ◌∙◌}
use Rattle.vd_walks.specs.Least.{lesser}
use Rattle.vd_naming.specs.Instances.{function_instance_of, refused_symbol, refused_body}
use Rattle.vd_name_entering.specs.Ended.{seen_ended}
use Rattle.vd_name_instances.proofs.InstanceLemmas.{made_refused}
use Rattle.vd_name_instances.proofs.functions.function_instance_as.Goals as goal

pub returns-clause-is : goal.returns-clause-is
returns-clause-is c =
    let x = seen_ended c.args.out.now c.args.names.now c.args.ended.now in
    made_refused c.function_instance_of.new.out c.function_instance_of.new.names c.in_ok-made.made c.refused_also.result (function_instance_of c.args.id x)
    c.lesser-refused.result (lesser (refused_symbol x c.args.id) (refused_body x c.args.id)) c.in_ok-made.ensures.is c.refused_also.ensures
    (c.lesser-refused.ensures
    ∙ ap (λ r. lesser r c.refused_body.result) (c.refused_symbol.ensures c.args.out.now)
    ∙ ap (lesser (refused_symbol x c.args.id)) (c.refused_body.ensures c.args.out.now))
