-- The rules that need types, values and static names, in groups, each of which one walk can ask. All groups see the same states.
use Rattle.std.specs.Prelude.{ℕ, List, [], ◌++◌, not, Bool, if◌then◌else◌}
use Rattle.std.specs.List.{filter}
use Rattle.vd_bytes.specs.declared.answers.Refused.{Refused}
use Rattle.vd_bytes.specs.declared.places.Place.{Place}
use Rattle.vd_forest.specs.Forest.{Forest}
use Rattle.vd_walks.specs.Least.{Judge, all_broken, least_of, lesser}
use Rattle.vd_resolved.specs.Trees.{ResolvedTree}
use Rattle.vd_resolved.specs.declared.node.Resolved.{Resolved}
use Rattle.vd_value_rules.specs.declared.firsts.Firsts.{Firsts}
use Rattle.vd_trees.specs.declared.revision.Revision.{Revision}
use Rattle.vd_value_rules.specs.Actuals.{broken_instance}
use Rattle.vd_value_rules.specs.Aggregates.{broken_aggregate}
use Rattle.vd_value_rules.specs.Bodies.{broken_body}
use Rattle.vd_value_rules.specs.Bounds.{broken_bounds}
use Rattle.vd_value_rules.specs.Choices.{broken_choices}
use Rattle.vd_value_rules.specs.Designs.{Design, design_of, is_2019}
use Rattle.vd_value_rules.specs.Names.{broken_as, broken_assignment, broken_in_function, broken_view_port}
use Rattle.vd_value_rules.specs.Operators.{broken_operator}
use Rattle.vd_value_rules.specs.Reaching.{reached}
use Rattle.vd_value_rules.specs.Rules.{is_of_names}
use Rattle.vd_value_rules.specs.Standings.{State, beginning, standing, state_along, state_down}
use Rattle.vd_value_rules.specs.StaticNames.{broken_static}
use Rattle.vd_value_rules.specs.Types.{broken_types}
use Rattle.vd_forms.specs.declared.form.Form.{Form}
use Rattle.vd_forms.specs.declared.form.Form.TheVariants as form

-- ---- the first refusals of some

abbrev pub is_of_rules : Refused → Bool
is_of_rules r = not (is_of_names r)

abbrev pub firsts_of : List Refused → Firsts
firsts_of rs = record { of_names = least_of (filter is_of_names rs); of_rules = least_of (filter is_of_rules rs) }

abbrev pub joined_firsts : Firsts → Firsts → Firsts
joined_firsts a b = record { of_names = lesser a.of_names b.of_names; of_rules = lesser a.of_rules b.of_rules }

-- ---- groups

-- what a node breaks of a group, in a state
abbrev pub Breaking : Type 0
Breaking = Design → State → Resolved → List ℕ → Place → Forest Resolved → List Refused

abbrev pub judge_by : Breaking → Design → Judge Resolved State
judge_by broken d = record { broken = broken d; down = state_down d; along = state_along d }

-- what it breaks of one of two groups, or of both
abbrev pub either_group : Breaking → Breaking → Breaking
either_group one other d s n text place parts = one d s n text place parts ++ other d s n text place parts

-- what a design breaks of a group
abbrev pub broken_by : Breaking → Revision → ResolvedTree → List Refused
broken_by broken r tree = all_broken (judge_by broken (design_of r tree)) beginning tree.units

abbrev pub firsts_by : Breaking → Revision → ResolvedTree → Firsts
firsts_by broken r tree = firsts_of (broken_by broken r tree)

-- names where they are read, assigned or associated: 308, 401 and 402
abbrev pub name_used : Form → Design → State → Place → Forest Resolved → List Refused
name_used form.Name d s place parts = broken_as (standing s) d place (reached d parts)
name_used _ d s place parts = []

abbrev pub names_used : Breaking
names_used d s n text place parts = name_used n.form d s place parts

-- names in functions: 409
abbrev pub name_in_function : Form → Design → State → Place → Forest Resolved → List Refused
name_in_function form.Name d s place parts = broken_in_function s.locals d place (reached d parts)
name_in_function _ d s place parts = []

abbrev pub names_in_functions : Breaking
names_in_functions d s n text place parts = name_in_function n.form d s place parts

-- assignments that do nothing: 402
abbrev pub assignments : Breaking
assignments d s n text place parts = broken_assignment n.form parts

-- 403, 404, 405 and 406
abbrev pub choices : Breaking
choices d s n text place parts = broken_choices d s n place parts

abbrev pub aggregates : Breaking
aggregates d s n text place parts = broken_aggregate d s n place parts

abbrev pub static_expressions : Breaking
static_expressions d s n text place parts = broken_static d s n parts

abbrev pub bounds : Breaking
bounds d s n text place parts = broken_bounds d s n place parts

-- bodies that differ from the declarations of their functions: 409
abbrev pub bodies : Breaking
bodies d s n text place parts = broken_body d s n place parts

-- port maps: 308, 310, 401 and 402
abbrev pub instances : Breaking
instances d s n text place parts = broken_instance d s n place parts

-- ports with a view of another record than their subtype: 308
abbrev pub view_ports : Breaking
view_ports d s n text place parts = broken_view_port n.form d parts

-- in revision 2019 alone: ordering operators of matching, 414, and the actuals of types, 415
abbrev pub operators : Breaking
operators d s n text place parts = if is_2019 d.revision then broken_operator d n place parts else []

abbrev pub types : Breaking
types d s n text place parts = if is_2019 d.revision then broken_types d s n parts else []

-- all groups, one after the other
abbrev pub all_firsts : Revision → ResolvedTree → Firsts
all_firsts r tree =
    joined_firsts (firsts_by names_used r tree)
    (joined_firsts (firsts_by names_in_functions r tree)
    (joined_firsts (firsts_by assignments r tree)
    (joined_firsts (firsts_by choices r tree)
    (joined_firsts (firsts_by aggregates r tree)
    (joined_firsts (firsts_by static_expressions r tree)
    (joined_firsts (firsts_by bounds r tree)
    (joined_firsts (firsts_by bodies r tree)
    (joined_firsts (firsts_by instances r tree)
    (joined_firsts (firsts_by view_ports r tree)
    (joined_firsts (firsts_by operators r tree) (firsts_by types r tree)))))))))))
