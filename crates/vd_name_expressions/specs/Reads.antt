-- What an expression comes to, in words of contracts.
use Rattle.std.specs.Prelude.{◌≡◌, List, Option, Some}
use Rattle.vd_bytes.specs.declared.answers.Refused.{Refused}
use Rattle.vd_forest.specs.Forest.{Forest}
use Rattle.vd_forest.specs.Store.{Holds}
use Rattle.vd_forms.specs.declared.form.Form.{Form}
use Rattle.vd_walks.specs.Least.{lesser}
use Rattle.vd_overloads.specs.Environment.{rules_at, scene_at}
use Rattle.vd_overloads.specs.Interpretations.{alone, first_place, interpretations, refusal}
use Rattle.vd_overloads.specs.declared.wanted.Wanted.{Wanted}
use Rattle.vd_predefined.specs.declared.numbers.TheConstants.{BOOLEAN}
use Rattle.vd_refusals.specs.Refusals.{first_refusal}
use Rattle.vd_states.specs.declared.states.Want.TheVariants as want
use Rattle.vd_resolved.specs.declared.node.Resolved.{Resolved}
use Rattle.vd_name_rows.specs.Designs.{At, Design, Outcome, standpoint, sight, gives}
use Rattle.vd_naming.specs.Edges.{edge_of_no_signal}
use Rattle.vd_naming.specs.Expressions.{only_reading, refused_unless_one, mark_readings, no_mark}
use Rattle.vd_name_expressions.specs.declared.reading.Read.{Read}

-- its tree stands at its number, and its refusal is that of the outcome
pub record IsRead (store : List (Forest Resolved)) (read : Read) (o : Outcome) : Type 0 where
  pub holds : Holds store read.tree o.tree
  pub first : read.first ≡ o.first

abbrev pub interpreted : At → Design → Wanted → Forest Form → List (Forest Resolved)
interpreted at d w tree = interpretations (rules_at (standpoint at d)) (scene_at (standpoint at d)) w (alone tree)

abbrev pub refused_whole : At → Design → Wanted → Forest Form → Refused
refused_whole at d w tree =
    refusal ((scene_at (standpoint at d)).refused w tree) ((scene_at (standpoint at d)).unknown tree) (first_place tree) (interpreted at d w tree)

-- an expression of which something is wanted, beside a refusal of its names
abbrev pub read_beside : At → Design → Wanted → Forest Form → Option Refused → Outcome
read_beside at d w tree pieces =
    gives at d (only_reading tree (interpreted at d w tree))
    (lesser (lesser pieces (edge_of_no_signal d.scopes (only_reading tree (interpreted at d w tree))))
    (refused_unless_one (Some (refused_whole at d w tree)) (interpreted at d w tree)))

-- ---- marks

abbrev pub refused_mark : At → Design → Forest Form → Option Refused
refused_mark at d tree = no_mark (first_refusal (sight at d) (want.Mark BOOLEAN) tree) (first_place tree)

-- an expression that has to be a mark, beside a refusal of its names
abbrev pub mark_read_beside : At → Design → Forest Form → Option Refused → Outcome
mark_read_beside at d tree pieces =
    gives at d (only_reading tree (mark_readings at d tree)) (lesser pieces (refused_unless_one (refused_mark at d tree) (mark_readings at d tree)))
