-- Ways that are computed.
use Rattle.std.proofs.Common.{refl}
use Rattle.vd_predefined.specs.Table.{standard_types, standard_operators, logic_types, logic_operators}
use Rattle.vd_regions.specs.InOrder.{visible_in, selected_in_order}
use Rattle.vd_ways.specs.Worked.{WorkedWays}

pub worked : WorkedWays
unfolding standard_types standard_operators logic_types logic_operators visible_in selected_in_order
worked = record {
  joined_2019 = refl;
  joined_not = refl;
  joined_1993 = refl;
  joined_other = refl;
  indexed = refl;
  converted_2019 = refl;
  converted_1993 = refl;
  converted_bits = refl;
  converted_integer = refl;
  spelled = refl;
  not_spelled = refl;
  spelled_logic = refl;
  called = refl;
}
