-- The facts, computed.
use Rattle.std.proofs.Common.{refl}
use Rattle.std.specs.Fmt.{digits}
use Rattle.vd_predefined.specs.Table.{standard_types, standard_operators, logic_types, logic_operators}
use Rattle.vd_maps.specs.Packages.{Packages}
use Rattle.vd_maps.specs.Paths.{Paths}
use Rattle.vd_maps.specs.Views.{Views}
use Rattle.vd_maps.specs.Expressions.{Expressions}

pub paths : Paths
unfolding digits
paths =
    record {
      view = refl;
      elements = refl;
      other_element = refl;
      other_index = refl;
      inside = refl;
      inside_other = refl;
      implicit = refl;
      alternative = refl;
      first_alternative = refl;
      instance = refl;
      first_instance = refl;
      other_architecture = refl;
      no_row = refl;
      scopes = refl;
      other_scopes = refl;
      packages = refl;
      other_packages = refl;
      text = refl;
    }

pub views : Views
unfolding standard_types standard_operators logic_types logic_operators digits
views =
    record {
      joined = refl;
      modes19 = refl;
      modes93 = refl;
      marks19 = refl;
      mark_of_port = refl;
      whole = refl;
      whole_slave = refl;
      other_mode = refl;
      without_rows = refl;
      order = refl;
      left_out = refl;
      other_order = refl;
      there = refl;
      architecture = refl;
      not_there = refl;
      interface = refl;
      not_without = refl;
    }

pub expressions : Expressions
unfolding standard_types standard_operators logic_types logic_operators digits
expressions = record { joined = refl; marks19 = refl; marks93 = refl; whole = refl; order = refl; without_ports = refl; trace19 = refl; trace93 = refl }

pub packages : Packages
unfolding standard_types standard_operators logic_types logic_operators digits
packages = record { constant = refl; interface = refl; kept = refl; without_function = refl; other_mark = refl; without_rows = refl; order = refl; other_order = refl }
