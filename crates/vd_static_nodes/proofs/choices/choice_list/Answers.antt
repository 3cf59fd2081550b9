use Rattle.std.proofs.Common.{refl, sym, ◌∙◌}
use Rattle.vd_environments.specs.Got.{senseless}
use Rattle.vd_meaning.specs.Brackets.{choices_known}
use Rattle.vd_meaning.specs.Statements.{any_covers}
use Rattle.vd_static_nodes.proofs.ChoiceLemmas.{known_of_choices, list_sense, named_by_choices}
use Rattle.vd_static_nodes.proofs.choices.choice_list.Goals as goal

pub returns-clause-node : goal.returns-clause-node
returns-clause-node c = λ g e ms seen are.
    let store = g.subtypes.now in
    let parts = c.args.parts.now in
    let known = c.choices_known-known.ensures ∙ known_of_choices store e parts ms are in
    let node = c.expression-sense.ensures.node store e ms (λ _ _. senseless) (choices_known ms) known (λ local given. refl) in
    record {
      sense =
          list_sense store e c.expression-sense.result.sense c.args.node c.args.text.now ms c.in_ok-choices.choices (any_covers ms) node.sense
          (named_by_choices store e parts ms are ∙ sym c.in_ok-choices.ensures);
      piece = node.piece;
    }
