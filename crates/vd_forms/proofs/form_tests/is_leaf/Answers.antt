use Rattle.std.proofs.Common.{sym}
use Rattle.vd_forms.specs.Forms.{leaves}
use Rattle.vd_forms.proofs.FormLemmas.{among_one_of}
use Rattle.vd_forms.proofs.form_tests.is_leaf.Goals as goal

pub returns-in-Identifier : goal.returns-in-Identifier
returns-in-Identifier c = sym (among_one_of c.args.form leaves c.in-Identifier.is)
