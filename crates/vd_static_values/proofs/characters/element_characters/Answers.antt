use Rattle.std.proofs.Common.{ap, subst, ◌∙◌}
use Rattle.std.specs.Prelude.{IfOk}
use Rattle.vd_environments.specs.Environments.{literals_of}
use Rattle.vd_static_values.proofs.SubtypeLemmas.{element_literals}
use Rattle.vd_static_values.specs.Characters.{HasCharacters}
use Rattle.vd_static_values.proofs.characters.element_characters.Goals as goal

pub returns : goal.returns
returns c =
    subst (λ ls. IfOk c.characters.result (λ table. HasCharacters table.items ls))
    (c.literals.ensures ∙ ap (λ i. literals_of i.make) c.element.ensures ∙ element_literals c.args.subtype.now) c.characters.ensures
