-- What names break where they stand, in the smaller states: rules of names, and the other rules.
use Rattle.std.specs.Prelude.{Bool, List, [], false, not, true}
use Rattle.vd_bytes.specs.declared.answers.Refused.{Refused}
use Rattle.vd_bytes.specs.declared.places.Place.{Place}
use Rattle.vd_forest.specs.Forest.{Forest}
use Rattle.vd_forms.specs.declared.form.Form.{Form}
use Rattle.vd_walks.specs.Least.{Judge}
use Rattle.vd_name_rules.specs.Coming.{behind, coming_by}
use Rattle.vd_name_rules.specs.Rows.{row_of}
use Rattle.vd_name_rules.specs.declared.coming.Coming.{Coming}
use Rattle.vd_name_rules.specs.declared.coming.Sort.{Sort}
use Rattle.vd_name_rules.specs.declared.coming.Sort.TheVariants.{Associated, Formal, SignalTarget, VariableTarget}
use Rattle.vd_resolved.specs.declared.node.Resolved.{Resolved}
use Rattle.vd_value_rules.specs.Designs.{Design}
use Rattle.vd_value_rules.specs.Judging.{refused_if}
use Rattle.vd_value_rules.specs.Names.{broken_view_port, may_be_assigned, names_view_port, reads_out}
use Rattle.vd_value_rules.specs.Reaching.{Reached, reached}
use Rattle.vd_forms.specs.declared.form.Form.TheVariants as form

-- 308
abbrev pub used_as_view : Sort → Design → Place → Reached → List Refused
used_as_view Associated d place r = []
used_as_view Formal d place r = []
used_as_view _ d place r = refused_if (names_view_port d r) place 308

-- 401 and 402
abbrev pub used_as_object : Sort → Design → Place → Reached → List Refused
used_as_object SignalTarget d place r = refused_if (not (may_be_assigned true d r)) place 402
used_as_object VariableTarget d place r = refused_if (not (may_be_assigned false d r)) place 402
used_as_object Associated d place r = []
used_as_object Formal d place r = []
used_as_object _ d place r = refused_if (reads_out d r) place 401

abbrev pub used : (of_names : Bool) → Sort → Design → Place → Reached → List Refused
used true sort d place r = used_as_view sort d place r
used false sort d place r = used_as_object sort d place r

abbrev pub used_at : Form → (of_names : Bool) → Design → Coming → Place → Forest Resolved → List Refused
used_at form.Name of_names d c place parts = used of_names c.first d place (reached d parts)
used_at _ of_names d c place parts = []

abbrev pub name_judge : (of_names : Bool) → Design → Judge Resolved Coming
name_judge of_names d =
    record {
      broken = λ c n text place parts. used_at n.form of_names d c place parts;
      down = λ c n text place parts. coming_by (row_of n.form) d c.first n parts;
      along = λ c n text place parts. behind c;
    }

-- ports with views, in no state
abbrev pub view_judge : Design → Judge Resolved (Unit {0})
view_judge d = record { broken = λ s n text place parts. broken_view_port n.form d parts; down = λ s n text place parts. tt; along = λ s n text place parts. tt }
