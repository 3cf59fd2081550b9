use Rattle.vd_grammar93.proofs.Valid.{shown, designs}
use Rattle.vd_grammar93.proofs.laws.shapes_are_valid.Goals as goal

pub returns-clause-shown : goal.returns-clause-shown
returns-clause-shown c = shown

pub returns-clause-designs : goal.returns-clause-designs
returns-clause-designs c = designs
