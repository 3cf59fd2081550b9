-- A walk that knows what is known at each place.
use Rattle.std.specs.Prelude.{List, [], map}
use Rattle.vd_bytes.specs.declared.answers.Refused.{Refused}
use Rattle.vd_known_designs.specs.Designs.{Knows}
use Rattle.vd_known_units.specs.Passing.{known_by}
use Rattle.vd_port_modes.specs.Source.{design_in}
use Rattle.vd_resolved.specs.declared.node.Resolved.{Resolved}
use Rattle.vd_value_rules.specs.Designs.{Design}
use Rattle.vd_value_rules.specs.Groups.{Breaking}
use Rattle.vd_value_rules.specs.Knowledge.{Known}
use Rattle.vd_walks.specs.Positions.{Position}
use Rattle.vd_known_notes.specs.declared.walking.Knowing.{Knowing}

-- no rule is asked
abbrev pub nothing_asked : Breaking
nothing_asked d s n text place parts = []

abbrev pub known_here : Design → Position Resolved → Known
known_here = known_by nothing_asked

-- a walk is at the first of these positions, and stands in the further ones
abbrev pub IsKnowing : Knowing → List (Position Resolved) → Type 0
IsKnowing x ps = Knows (design_in x.interfaces.now) x.design (map (known_here (design_in x.interfaces.now)) ps)
