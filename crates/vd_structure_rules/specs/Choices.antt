-- Choices `others`, which stand alone and last. (IEEE 1076, case statements; selected assignments; case generate statements; aggregates)
use Rattle.std.specs.Prelude.{Bool, true, false, List, [], ◌∷◌, Option, Some, None}
use Rattle.vd_bytes.specs.declared.places.Place.{Place}
use Rattle.vd_bytes.specs.declared.answers.Refused.{Refused}
use Rattle.vd_forest.specs.Forest.{Forest, nothing, more, skipped}
use Rattle.vd_forms.specs.declared.form.Form.{Form}
use Rattle.vd_forms.specs.declared.form.Form.TheVariants as form
use Rattle.vd_resolved.specs.declared.node.Resolved.{Resolved}

-- the place of the first tree, where it is `others`
abbrev pub others_choice : Form → Place → Option Place
others_choice form.Others place = Some place
others_choice _ place = None

abbrev pub others_at : Forest Resolved → Option Place
others_at nothing = None
others_at (more n text place parts next) = others_choice n.form place

-- the place of the `others` of an alternative or element
abbrev pub others_of : Form → Place → Forest Resolved → Option Place
others_of form.CaseAlternative place parts = others_at parts
others_of form.GenerateAlternative place parts = others_at parts
others_of form.SelectedWaveform place parts = others_at (skipped 1 parts)
others_of form.SelectedValue place parts = others_at (skipped 1 parts)
others_of form.OthersAssociation place parts = Some place
others_of _ place parts = None

-- ---- 404: an `others` that isn't the last one of its list

abbrev pub refused_others : Option Place → Forest Resolved → Option Refused
refused_others None next = None
refused_others (Some place) nothing = None
refused_others (Some place) (more n text at parts next) = Some (record { place = place; rule = 404 })

-- of each tree of a list
abbrev pub early_others : Forest Resolved → List (Option Refused)
early_others nothing = []
early_others (more n text place parts next) = refused_others (others_of n.form place parts) next ∷ early_others next

-- the lists in which `others` may stand
abbrev pub has_choices : Form → Bool
has_choices form.CaseAlternatives = true
has_choices form.GenerateAlternatives = true
has_choices form.SelectedSignalAssignment = true
has_choices form.SelectedVariableAssignment = true
has_choices form.Aggregate = true
has_choices form.Qualification = true
has_choices _ = false

abbrev pub early_in : Bool → Forest Resolved → List (Option Refused)
early_in true parts = early_others parts
early_in false parts = []
