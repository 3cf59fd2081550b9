use Rattle.std.proofs.Common.{sym}
use Rattle.vd_forms.specs.Forms.{all_concurrent_statements}
use Rattle.vd_forms.proofs.FormLemmas.{among_one_of}
use Rattle.vd_forms.proofs.form_tests.is_concurrent_statement.Goals as goal

pub returns-in-LabelledConcurrent : goal.returns-in-LabelledConcurrent
returns-in-LabelledConcurrent c = sym (among_one_of c.args.form all_concurrent_statements c.in-LabelledConcurrent.is)
