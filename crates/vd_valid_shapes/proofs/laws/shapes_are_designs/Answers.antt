use Rattle.vd_valid_shapes.proofs.DesignLemmas.{shapes_are_designs}
use Rattle.vd_valid_shapes.proofs.laws.shapes_are_designs.Goals as goal

pub returns : goal.returns
returns c = shapes_are_designs
