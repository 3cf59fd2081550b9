-- The rules that a text breaks by its words alone, without what its names mean.
use Rattle.std.specs.Prelude.{ℕ, Bool, true, false, not, ◌&&◌, List, [], ◌∷◌, Option, Some, None, if◌then◌else◌}
use Rattle.vd_bytes.specs.declared.places.Place.{Place}
use Rattle.vd_bytes.specs.declared.answers.Refused.{Refused}
use Rattle.vd_trees.specs.declared.revision.Revision.{Revision}
use Rattle.vd_forest.specs.Forest.{Forest, nothing, more, parts_of, skipped}
use Rattle.vd_forms.specs.declared.form.Form.{Form}
use Rattle.vd_forms.specs.declared.form.Form.TheVariants as form
use Rattle.vd_walks.specs.Least.{Judge, refusals, least}
use Rattle.vd_text_rules.specs.declared.judging.Around.{Around}
use Rattle.vd_text_rules.specs.declared.regions.Region.{Region}
use Rattle.vd_text_rules.specs.declared.regions.Region.TheVariants as region
use Rattle.vd_text_rules.specs.Regions.{inside, takes, takes_generic}
use Rattle.vd_text_rules.specs.Closings.{is_designator, head_part, closing_part, name_at_head, name_in_closing, label_part, has_label, is_mark}
use Rattle.vd_text_rules.specs.Designators.{is_operator, parameters_part, parameter_count}

abbrev pub refused_unless : Bool → Place → ℕ → Option Refused
refused_unless true place rule = None
refused_unless false place rule = Some (record { place = place; rule = rule })

-- ---- 307: what stands at an end differs from what stands at the head

-- the first tree is another designator than the first tree of the head. Refused there
abbrev pub other_name : Forest Form → Forest Form → Option Refused
other_name head (more form.Identifier text place parts next) = refused_unless (is_designator head form.Identifier text) place 307
other_name head (more form.Quoted text place parts next) = refused_unless (is_designator head form.Quoted text) place 307
other_name head _ = None

abbrev pub other_in_closing : Forest Form → Option ℕ → Forest Form → Option Refused
other_in_closing head None parts = None
other_in_closing head (Some n) parts = other_name head (name_in_closing (skipped n parts))

abbrev pub other_closing_name : Form → Forest Form → Option Refused
other_closing_name f parts = other_in_closing (name_at_head (skipped (head_part f) parts)) (closing_part f) parts

-- a statement with a label has no other one at its end
abbrev pub other_at : Forest Form → Option ℕ → Forest Form → Option Refused
other_at label None parts = None
other_at label (Some n) parts = other_name label (skipped n parts)

abbrev pub other_label : Forest Form → Forest Form → Option Refused
other_label label nothing = None
other_label label (more f text place parts next) = other_at label (label_part f) parts

-- one without a label has none there
abbrev pub any_name : Forest Form → Option Refused
any_name (more form.Identifier text place parts next) = Some (record { place = place; rule = 307 })
any_name _ = None

abbrev pub any_at : Option ℕ → Forest Form → Option Refused
any_at None parts = None
any_at (Some n) parts = any_name (skipped n parts)

abbrev pub wrong_label : Bool → Form → Forest Form → Option Refused
wrong_label labelled f parts =
    if has_label f then other_label parts (skipped 1 parts) else (if labelled then None else any_at (label_part f) parts)

-- the mark of one end that the other end doesn't have
abbrev pub place_or : Place → Forest Form → Place
place_or other nothing = other
place_or other (more f text place parts next) = place

abbrev pub mark_without : Place → Forest Form → Forest Form → Option Refused
mark_without at mark other = if is_mark mark && not (is_mark other) then Some (record { place = place_or at mark; rule = 307 }) else None

-- ---- 307 and 309: declarations that their region doesn't take

abbrev pub not_taken : Region → Form → Place → Option Refused
not_taken r f place = refused_unless (takes r f) place 307

abbrev pub generic_not_taken : Region → Form → Place → Option Refused
generic_not_taken r f place = refused_unless (takes_generic r f) place 309

-- ---- 307: a designator that is no operator. The designator is the first tree, the parameters are those of a list

abbrev pub no_operator : Revision → Forest Form → Forest Form → Option Refused
no_operator r (more form.Quoted text place parts next) list = refused_unless (is_operator r text (parameter_count (parts_of list))) place 307
no_operator r _ list = None

abbrev pub no_operator_of : Revision → Option ℕ → Forest Form → Option Refused
no_operator_of r None parts = None
no_operator_of r (Some n) parts = no_operator r (skipped 1 parts) (skipped n parts)

-- ---- all of them

abbrev pub first_mark : Form → Place → Forest Form → Option Refused
first_mark form.CaseStatement place parts = mark_without place parts (skipped 3 parts)
first_mark _ place parts = None

abbrev pub last_mark : Form → Place → Forest Form → Option Refused
last_mark form.CaseStatement place parts = mark_without place (skipped 3 parts) parts
last_mark _ place parts = None

abbrev pub broken_at : Revision → Around → Form → List ℕ → Place → Forest Form → List Refused
broken_at r around f text place parts =
    refusals (other_closing_name f parts ∷ wrong_label around.labelled f parts ∷ first_mark f place parts ∷ last_mark f place parts
    ∷ not_taken around.region f place ∷ generic_not_taken around.region f place ∷ no_operator_of r (parameters_part f) parts ∷ [])

abbrev pub text_judge : Revision → Judge Form Around
text_judge r = record {
  broken = broken_at r;
  down = λ around f text place parts. record { region = inside f around.region; labelled = has_label f };
  along = λ around f text place parts. around;
}

-- the least refusal of some design units
abbrev pub first_refused : Revision → Forest Form → Option Refused
first_refused r units = least (text_judge r) (record { region = region.Outside; labelled = false }) units
