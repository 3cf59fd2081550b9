use Rattle.std.proofs.Common.{◌∙◌}
use Rattle.vd_name_entering.specs.Ended.{seen_ended}
use Rattle.vd_name_functions.proofs.BodyLemmas.{body_made}
use Rattle.vd_name_functions.proofs.endings.new_body_ends.Goals as goal

pub returns-clause-is : goal.returns-clause-is
returns-clause-is c =
    body_made (seen_ended c.args.out.now c.args.names.now c.args.ended.now) c.in_ok-tied.tied c.of-id.result c.in_ok-new.new
    c.finished.new.out c.enter_body.new.names c.in_ok-first.first c.in_ok-made.made
    (c.of-id.ensures ∙ c.in_ok-next_number.ensures) (c.in_ok-new.ensures c.args.out.now) c.in_ok-tied.ensures c.in_ok-first.ensures
    c.in_ok-made.ensures.holds c.in_ok-made.ensures.first
