use Rattle.vd_maps.proofs.Relations.{joins_are_those_of_rows}
use Rattle.vd_maps.proofs.laws.joins_are_those_of_rows.Goals as goal

pub returns : goal.returns
returns c = joins_are_those_of_rows
