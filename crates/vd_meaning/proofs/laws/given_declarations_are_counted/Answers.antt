use Rattle.vd_meaning.proofs.Counts.{counted}
use Rattle.vd_meaning.proofs.laws.given_declarations_are_counted.Goals as goal

-- src/laws.rt:6:1
pub returns : goal.returns
returns c = counted
