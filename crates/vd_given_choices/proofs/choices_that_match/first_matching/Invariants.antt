use Rattle.std.proofs.Common.{◌≡◌, List, [], drop}
use Rattle.vd_environments.specs.Environments.{Env}
use Rattle.vd_given_choices.specs.Choices.{AreChoices}
use Rattle.vd_walks.specs.Least.{least_of, lesser}
use Rattle.vd_meaning.specs.Facets.{ByMatching}
use Rattle.vd_static_values.specs.Entries.{IsGround}
use Rattle.vd_value_rules.specs.Choices.{Given, matching}
use Rattle.vd_given_choices.proofs.choices_that_match.first_matching.Given as goal

abbrev pub invariant-loop-choice : goal.invariant-loop-choice
invariant-loop-choice l =
    (e : Env) (gs : List Given) → IsGround l.ground e → AreChoices l.choices gs
    → lesser l.found (least_of (matching (ByMatching l.of) e l.before.items (drop l.choice-index gs))) ≡ least_of (matching (ByMatching l.of) e [] gs)
