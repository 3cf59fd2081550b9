use Rattle.vd_derivations93.proofs.Checked.{derived, no_other}
use Rattle.vd_derivations93.proofs.ReadingLemmas.{read_back}
use Rattle.vd_derivations93.proofs.laws.designs_are_read_back.Goals as goal

pub returns-clause-derives : goal.returns-clause-derives
returns-clause-derives c = derived

pub returns-clause-only : goal.returns-clause-only
returns-clause-only c = no_other

pub returns-clause-read : goal.returns-clause-read
returns-clause-read c = read_back
