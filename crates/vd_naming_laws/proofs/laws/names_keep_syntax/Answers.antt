use Rattle.vd_naming_laws.proofs.Naming.{names_keep, names_of_1993_keep, names_give, settling_keeps}
use Rattle.vd_naming_laws.proofs.laws.names_keep_syntax.Goals as goal

pub returns-clause-kept : goal.returns-clause-kept
returns-clause-kept c = names_keep

pub returns-clause-exactly : goal.returns-clause-exactly
returns-clause-exactly c = names_of_1993_keep

pub returns-clause-settled : goal.returns-clause-settled
returns-clause-settled c = settling_keeps

pub returns-clause-designs : goal.returns-clause-designs
returns-clause-designs c = names_give
