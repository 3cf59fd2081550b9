-- One walk for the rules that hang on what is known of declarations.
use Rattle.std.specs.Prelude.{◌≡◌, ◌∷◌, List, map, reverse}
use Rattle.vd_bytes.specs.declared.answers.Refused.{Refused}
use Rattle.vd_walks.specs.Positions.{Position, Tree, judged}
use Rattle.vd_known_designs.specs.Designs.{Knows}
use Rattle.vd_port_modes.specs.Source.{design_in}
use Rattle.vd_resolved.specs.declared.node.Resolved.{Resolved}
use Rattle.vd_value_rules.specs.Groups.{Breaking, aggregates, bounds, choices, either_group, firsts_of, instances, judge_by, static_expressions, types}
use Rattle.vd_value_rules.specs.Designs.{Design}
use Rattle.vd_value_rules.specs.Knowledge.{Known}
use Rattle.vd_value_rules.specs.Standings.{State, beginning}
use Rattle.vd_known_units.specs.Passing.{known_by, state_by}
use Rattle.vd_accepting.specs.Levels.{AreLevels}
use Rattle.vd_accepting.specs.declared.walking.Walk.{Walk}

-- what a node breaks of six groups
abbrev pub asked : Breaking
asked = either_group choices (either_group aggregates (either_group static_expressions (either_group bounds (either_group instances types))))

-- the state at a position of a design
abbrev pub state_here : Design → Position Resolved → State
state_here = state_by asked

abbrev pub known_here : Design → Position Resolved → Known
known_here = known_by asked

abbrev pub broken_here : Design → Position Resolved → Tree Resolved → List Refused
broken_here d p x = judged (judge_by asked d) beginning p x

-- A walk that has found these refusals is at the first of these positions, and stands in the further ones.
pub record Follows (x : Walk) (rs : List Refused) (ps : List (Position Resolved)) : Type 0 where
  pub same : x.facts.now ≡ x.interfaces.now
  pub found : x.found ≡ firsts_of rs
  pub knows : Knows (design_in x.interfaces.now) x.design (map (known_here (design_in x.interfaces.now)) ps)
  pub levels : AreLevels (design_in x.interfaces.now) (x.here ∷ reverse x.round.items) (map (state_here (design_in x.interfaces.now)) ps)
