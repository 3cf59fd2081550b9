use Rattle.vd_first_lower.proofs.ConversionLemmas.{converts}
use Rattle.vd_first_lower.proofs.conversion.convert_file.Goals as goal

pub returns-in-Ok : goal.returns-in-Ok
returns-in-Ok c = converts c.args.file.now c.in_ok-design.design c.in-Ok.converted c.in_ok-design.ensures.accepted c.in-Ok.ensures
