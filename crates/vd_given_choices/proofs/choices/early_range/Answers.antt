use Rattle.std.proofs.Common.{◌∙◌}
use Rattle.vd_given_choices.proofs.ChoiceLemmas.{anyway}
use Rattle.vd_meaning.specs.Brackets.{choice_bounds}
use Rattle.vd_static_values.specs.Entries.{IsFound}
use Rattle.vd_given_choices.proofs.choices.early_range.Goals as goal

pub returns-then-known : goal.returns-then-known
returns-then-known c = λ range v kn e ranging same found.
    anyway _ (λ x. IsFound x (choice_bounds range v e)) c.range_of.result
    (c.range_of.ensures range v kn e ranging (same ∙ c.if-known.true) (found c.if-known.true))
