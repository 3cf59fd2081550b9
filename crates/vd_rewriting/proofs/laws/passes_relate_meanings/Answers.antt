use Rattle.vd_rewriting.proofs.InheritingLaws.{relates_meanings}
use Rattle.vd_rewriting.proofs.laws.passes_relate_meanings.Goals as goal

pub returns : goal.returns
returns g c = λ before after rules none relates state f. relates_meanings before after g.R.Relating.related rules none relates state f
