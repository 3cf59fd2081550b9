use Rattle.vd_rewriting.proofs.RewritingLaws.{keeps_meanings}
use Rattle.vd_rewriting.proofs.FormLaws.{folded_forms}
use Rattle.vd_rewriting.proofs.laws.passes_keep_meanings.Goals as goal

pub returns-clause-keeps : goal.returns-clause-keeps
returns-clause-keeps g c = λ before after pass keeps f. keeps_meanings before after pass keeps f

pub returns-clause-forms : goal.returns-clause-forms
returns-clause-forms g c = λ change meaning f. folded_forms change meaning f
