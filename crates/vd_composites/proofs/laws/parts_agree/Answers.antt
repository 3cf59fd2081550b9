use Rattle.vd_composites.proofs.PartLaws.{parts_agree}
use Rattle.vd_composites.proofs.laws.parts_agree.Goals as goal

pub returns : goal.returns
returns g c = parts_agree
