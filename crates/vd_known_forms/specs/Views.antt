-- The views that a design is asked for.
use Rattle.std.specs.Prelude.{◌≡◌}
use Rattle.vd_port_modes.specs.Source.{Source, design_in}
use Rattle.vd_value_rules.specs.Designs.{Design}

-- a design with the views of these interfaces
abbrev pub HasViews : Design → Source → Type 0
HasViews d s = d.units.views ≡ (design_in s).units.views
