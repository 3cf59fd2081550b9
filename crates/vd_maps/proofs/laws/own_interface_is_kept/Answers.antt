use Rattle.vd_maps.proofs.OwnInterfaces.{own_interfaces}
use Rattle.vd_maps.proofs.laws.own_interface_is_kept.Goals as goal

pub returns : goal.returns
returns c = own_interfaces
