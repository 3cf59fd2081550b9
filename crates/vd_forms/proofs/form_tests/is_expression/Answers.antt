use Rattle.std.proofs.Common.{sym}
use Rattle.vd_forms.specs.Forms.{expressions}
use Rattle.vd_forms.proofs.FormLemmas.{among_one_of}
use Rattle.vd_forms.proofs.form_tests.is_expression.Goals as goal

pub returns-in-Letter : goal.returns-in-Letter
returns-in-Letter c = sym (among_one_of c.args.form expressions c.in-Letter.is)
