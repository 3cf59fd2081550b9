-- The rules that need types, values and static names, of one design: what is broken, and the refusal that is answered.
use Rattle.std.specs.Prelude.{Bool, List, Option, [], filter, if◌then◌else◌, nat_lt, ℕ, ◌++◌}
use Rattle.std.specs.List.{list_any}
use Rattle.vd_bytes.specs.declared.answers.Refused.{Refused}
use Rattle.vd_bytes.specs.declared.places.Place.{Place}
use Rattle.vd_forest.specs.Forest.{Forest}
use Rattle.vd_walks.specs.Least.{Judge, all_broken, least_of}
use Rattle.vd_resolved.specs.Trees.{ResolvedTree}
use Rattle.vd_resolved.specs.declared.node.Resolved.{Resolved}
use Rattle.vd_trees.specs.declared.revision.Revision.{Revision}
use Rattle.vd_value_rules.specs.Actuals.{broken_instance}
use Rattle.vd_value_rules.specs.Aggregates.{broken_aggregate}
use Rattle.vd_value_rules.specs.Bodies.{broken_body}
use Rattle.vd_value_rules.specs.Bounds.{broken_bounds}
use Rattle.vd_value_rules.specs.Choices.{broken_choices}
use Rattle.vd_value_rules.specs.Designs.{Design, design_of, is_2019}
use Rattle.vd_value_rules.specs.Names.{broken_assignment, broken_name, broken_view_port}
use Rattle.vd_value_rules.specs.Operators.{broken_operator}
use Rattle.vd_value_rules.specs.Standings.{State, beginning, state_along, state_down}
use Rattle.vd_value_rules.specs.StaticNames.{broken_static}
use Rattle.vd_value_rules.specs.Types.{broken_types}

abbrev pub broken_at : Design → State → Resolved → List ℕ → Place → Forest Resolved → List Refused
broken_at d s n text place parts =
    broken_name d s n place parts ++ broken_assignment n.form parts
    ++ broken_choices d s n place parts ++ broken_aggregate d s n place parts
    ++ broken_static d s n parts ++ broken_bounds d s n place parts ++ broken_body d s n place parts
    ++ broken_instance d s n place parts ++ broken_view_port n.form d parts
    ++ (if is_2019 d.revision then broken_operator d n place parts ++ broken_types d s n parts else [])

abbrev pub value_rules : Design → Judge Resolved State
value_rules d = record { broken = broken_at d; down = state_down d; along = state_along d }

-- what is broken in a design, and in which phase: rules below 400 belong to names, and are answered first
abbrev pub broken_in : Revision → ResolvedTree → List Refused
broken_in r tree = all_broken (value_rules (design_of r tree)) beginning tree.units

abbrev pub is_of_names : Refused → Bool
is_of_names r = nat_lt r.rule 400

abbrev pub answered : List Refused → Option Refused
answered rs = if list_any is_of_names rs then least_of (filter is_of_names rs) else least_of rs

abbrev pub refusal_of : Revision → ResolvedTree → Option Refused
refusal_of r tree = answered (broken_in r tree)
