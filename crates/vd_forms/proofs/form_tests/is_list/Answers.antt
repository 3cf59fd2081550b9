use Rattle.std.proofs.Common.{sym}
use Rattle.vd_forms.specs.Forms.{lists}
use Rattle.vd_forms.proofs.FormLemmas.{among_one_of}
use Rattle.vd_forms.proofs.form_tests.is_list.Goals as goal

pub returns-in-ContextClause : goal.returns-in-ContextClause
returns-in-ContextClause c = sym (among_one_of c.args.form lists c.in-ContextClause.is)
