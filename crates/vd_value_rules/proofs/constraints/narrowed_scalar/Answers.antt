use Rattle.std.proofs.Common.{ap, sym, ◌∙◌}
use Rattle.vd_environments.specs.Environments.{both}
use Rattle.vd_value_rules.specs.Indicated.{static_of}
use Rattle.vd_value_rules.specs.Made.{scalar_indicated}
use Rattle.vd_value_rules.proofs.ConstraintLemmas.{scalar_left, scalar_taken}
use Rattle.vd_value_rules.proofs.constraints.narrowed_scalar.Goals as goal

pub returns-in-Some : goal.returns-in-Some
returns-in-Some c = λ texts parts.
    ap (scalar_indicated (record { of_type = c.args.subtype.of_type; range = c.in-Some.range }) texts c.args.is_resolved) c.both.ensures
    ∙ sym (scalar_taken c.args.subtype texts c.args.is_resolved (static_of c.args.own) (static_of c.args.known) c.args.range c.in-Some.range (sym c.in-Some.ensures))

pub returns-in-None : goal.returns-in-None
returns-in-None c = λ texts parts.
    ap (scalar_indicated c.args.subtype texts c.args.is_resolved) (c.both-in-None.ensures ∙ ap (λ s. both s (static_of c.args.own)) c.later.ensures)
    ∙ sym (scalar_left c.args.subtype texts c.args.is_resolved (static_of c.args.own) (static_of c.args.known) c.args.range (sym c.in-None.ensures))
