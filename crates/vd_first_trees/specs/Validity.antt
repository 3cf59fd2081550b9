-- Which parts a node of a valid tree may have, and which text.
use Rattle.std.specs.Prelude.{ℕ, Bool, true, false, ◌&&◌, not, List, [], ◌∷◌, length, ◌==◌, if◌then◌else◌}
use Rattle.std.specs.List.{list_any, list_all}
use Rattle.vd_forest.specs.Forest.{Forest, nothing, more}
use Rattle.vd_trees.specs.declared.revision.Revision.{Revision}
use Rattle.vd_trees.specs.declared.revision.Revision.TheVariants.{V2019, V1993}
use Rattle.vd_first_trees.specs.declared.form.Form.{Form}
use Rattle.vd_first_trees.specs.declared.form.Form.TheVariants as form
use Rattle.vd_trees.specs.Identifiers.{is_identifier}
use Rattle.vd_first_trees.specs.Forms.{same_form}

-- one place among a node's parts, or the places of a list: its forms, whether a part must stand there, and whether
-- several may
pub record Slot : Type 0 where
  pub forms : List Form
  pub required : Bool
  pub repeats : Bool

abbrev pub one : List Form → Slot
one fs = record { forms = fs; required = true; repeats = false }

abbrev pub optional : List Form → Slot
optional fs = record { forms = fs; required = false; repeats = false }

abbrev pub many : List Form → Slot
many fs = record { forms = fs; required = false; repeats = true }

abbrev pub some : List Form → Slot
some fs = record { forms = fs; required = true; repeats = true }

-- revision 1993 has no sensitivity `all`
abbrev pub sensitivities : Revision → List Form
sensitivities V2019 = form.All ∷ form.SensitivityList ∷ []
sensitivities V1993 = form.SensitivityList ∷ []

abbrev pub expressions : List Form
expressions = form.Name ∷ form.Not ∷ form.And ∷ []

abbrev pub slots_of : Revision → Form → List Slot
slots_of r form.DesignUnit = one (form.ContextClause ∷ []) ∷ one (form.EntityDeclaration ∷ form.ArchitectureBody ∷ []) ∷ []
slots_of r form.ContextClause = many (form.LibraryClause ∷ form.UseClause ∷ []) ∷ []
slots_of r form.LibraryClause = some (form.Identifier ∷ []) ∷ []
slots_of r form.UseClause = some (form.SelectedName ∷ []) ∷ []
slots_of r form.SelectedName = one (form.Identifier ∷ []) ∷ many (form.Identifier ∷ form.All ∷ []) ∷ []
slots_of r form.Identifier = []
slots_of r form.All = []
slots_of r form.EntityDeclaration = one (form.Identifier ∷ []) ∷ one (form.PortClause ∷ []) ∷ one (form.Closing ∷ []) ∷ []
slots_of r form.PortClause = some (form.PortDeclaration ∷ []) ∷ []
slots_of r form.PortDeclaration = one (form.IdentifierList ∷ []) ∷ one (form.In ∷ form.Out ∷ []) ∷ one (form.SubtypeIndication ∷ []) ∷ []
slots_of r form.IdentifierList = some (form.Identifier ∷ []) ∷ []
slots_of r form.In = []
slots_of r form.Out = []
slots_of r form.SubtypeIndication = one (form.SelectedName ∷ []) ∷ []
slots_of r form.ArchitectureBody = one (form.Identifier ∷ []) ∷ one (form.Identifier ∷ []) ∷ one (form.StatementPart ∷ []) ∷ one (form.Closing ∷ []) ∷ []
slots_of r form.StatementPart = many (form.ProcessStatement ∷ []) ∷ []
slots_of r form.ProcessStatement = one (sensitivities r) ∷ one (form.Is ∷ form.Absent ∷ []) ∷ some (form.SignalAssignment ∷ []) ∷ []
slots_of r form.SensitivityList = some (form.Name ∷ []) ∷ []
slots_of r form.SignalAssignment = one (form.Name ∷ []) ∷ one expressions ∷ []
slots_of r form.Name = one (form.Identifier ∷ []) ∷ []
slots_of r form.And = one expressions ∷ one expressions ∷ []
slots_of r form.Not = one expressions ∷ []
slots_of r form.Closing = optional (form.Identifier ∷ []) ∷ []
slots_of r form.Is = []
slots_of r form.Absent = []

-- a file's design units
abbrev pub file_slots : List Slot
file_slots = many (form.DesignUnit ∷ []) ∷ []

-- an identifier's text is one, and every other node has none
abbrev pub has_text : Revision → Form → List ℕ → Bool
has_text r form.Identifier text = is_identifier r text
has_text r _ text = length text == 0

-- the slots that are left once a part stands in the first one
abbrev pub slots_left : Slot → List Slot → List Slot
slots_left s slots = if s.repeats then many s.forms ∷ slots else slots

-- the trees stand in these slots, one by one, and each is valid
abbrev pub is_valid : Revision → List Slot → Forest Form → Bool
is_valid r slots nothing = list_all (λ s. not s.required) slots
is_valid r [] (more f text place parts next) = false
is_valid r (s ∷ slots) (more f text place parts next) =
    list_any (same_form f) s.forms && (has_text r f text && (is_valid r (slots_of r f) parts && is_valid r (slots_left s slots) next))
