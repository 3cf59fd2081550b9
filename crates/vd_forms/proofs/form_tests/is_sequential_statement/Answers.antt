use Rattle.std.proofs.Common.{sym}
use Rattle.vd_forms.specs.Forms.{all_sequential_statements}
use Rattle.vd_forms.proofs.FormLemmas.{among_one_of}
use Rattle.vd_forms.proofs.form_tests.is_sequential_statement.Goals as goal

pub returns-in-SelectedSignalAssignment : goal.returns-in-SelectedSignalAssignment
returns-in-SelectedSignalAssignment c = sym (among_one_of c.args.form all_sequential_statements c.in-SelectedSignalAssignment.is)
