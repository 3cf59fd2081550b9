use Rattle.vd_walks.proofs.OrderLaws.{lesser_brackets}
use Rattle.vd_walks.proofs.laws.lesser_is_a_choice.Goals as goal

pub returns-clause-brackets : goal.returns-clause-brackets
returns-clause-brackets c = λ a b d. lesser_brackets a b d
