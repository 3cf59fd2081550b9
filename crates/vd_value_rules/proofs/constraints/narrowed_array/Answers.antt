use Rattle.std.proofs.Common.{Some, ap, sym, ◌∙◌}
use Rattle.vd_environments.specs.Environments.{both}
use Rattle.vd_value_rules.specs.Indicated.{all_but_first, array_indicated, first_indicated, static_of}
use Rattle.vd_value_rules.proofs.ConstraintLemmas.{array_left, array_taken}
use Rattle.vd_value_rules.specs.Knowledge.{later_bounds}
use Rattle.vd_value_rules.proofs.constraints.narrowed_array.Goals as goal

pub returns-in-Some : goal.returns-in-Some
returns-in-Some c = λ texts parts.
    c.array_form.ensures texts parts
    ∙ ap (λ s. array_indicated c.args.index (Some c.in-Some.range) s (all_but_first texts) (first_indicated parts)) c.both.ensures
    ∙ sym (array_taken c.args.index (all_but_first texts) (static_of c.args.own) (static_of c.args.known) (first_indicated parts) c.args.range c.in-Some.range (sym c.in-Some.ensures))

pub returns-in-None : goal.returns-in-None
returns-in-None c = λ texts parts.
    c.array_form-in-None.ensures texts parts
    ∙ ap (λ b. array_indicated c.args.index (Some b) (static_of c.both-in-None.result) (all_but_first texts) (first_indicated parts)) c.later_bounds.ensures
    ∙ ap (λ s. array_indicated c.args.index (Some later_bounds) s (all_but_first texts) (first_indicated parts)) (c.both-in-None.ensures ∙ ap (λ s. both s (static_of c.args.own)) c.later.ensures)
    ∙ sym (array_left c.args.index (all_but_first texts) (static_of c.args.own) (static_of c.args.known) (first_indicated parts) c.args.range (sym c.in-None.ensures))
