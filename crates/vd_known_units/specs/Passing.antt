-- What is known along a walk over a design: at a node, in its parts, at their end, and behind it.
use Rattle.std.specs.Prelude.{◌∷◌, List}
use Rattle.vd_forest.specs.Forest.{Forest}
use Rattle.vd_forms.specs.declared.form.Form.{Form}
use Rattle.vd_forms.specs.declared.form.Form.TheVariants as form
use Rattle.vd_known_designs.specs.Designs.{Knows}
use Rattle.vd_known_designs.specs.declared.design.KnownDesign.{KnownDesign}
use Rattle.vd_resolved.specs.declared.node.Resolved.{Resolved}
use Rattle.vd_value_rules.specs.Declaring.{declaring, unit_declared_by, units_declared}
use Rattle.vd_value_rules.specs.Designs.{Design}
use Rattle.vd_value_rules.specs.Groups.{Breaking, judge_by}
use Rattle.vd_value_rules.specs.Knowledge.{Known}
use Rattle.vd_value_rules.specs.Standings.{State, beginning, known_down}
use Rattle.vd_walks.specs.Positions.{Position, state_at}

-- the state at a position of a design, of which some rules are asked
abbrev pub state_by : Breaking → Design → Position Resolved → State
state_by asked d p = state_at (judge_by asked d) beginning p

abbrev pub known_by : Breaking → Design → Position Resolved → Known
known_by asked d p = (state_by asked d p).known

-- What the parts of a node declare as the text behind it sees it: the body of a function is seen from outside there.
abbrev pub seen_outside : Form → Design → Resolved → Forest Resolved → Known → Known
seen_outside form.FunctionBody d n parts k = units_declared d parts k
seen_outside f d n parts k = units_declared d parts (known_down f d n parts k)

-- what the parts of a node declare where they stand, and what the node declares for the text behind it
abbrev pub declared_inside : Design → Resolved → Forest Resolved → Known → Known
declared_inside d n parts k = units_declared d parts (known_down n.form d n parts k)

abbrev pub declared_behind : Design → Resolved → Forest Resolved → Known → Known
declared_behind d n parts k = unit_declared_by (declaring n.form) d n parts (units_declared d parts k) k

-- what is known at the end of the parts of a node is known, and what was known in front of it is remembered
pub record KnowsEnd (d : Design) (x : KnownDesign) (n : Resolved) (parts : Forest Resolved) : Type 0 where
  pub before : Known
  pub round : List Known
  pub knows : Knows d x (declared_inside d n parts before ∷ before ∷ round)
