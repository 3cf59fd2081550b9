-- Which trees are valid: the parts, the texts and the brackets of their nodes.
use Rattle.std.specs.Prelude.{◌≡◌, Bool, true, false, ◌&&◌, ◌||◌, not, ℕ, List, [], ◌∷◌, Option, Some, None}
use Rattle.vd_trees.specs.declared.revision.Revision.{Revision}
use Rattle.vd_trees.specs.declared.revision.Revision.TheVariants.{V2019, V1993}
use Rattle.vd_tokens.specs.declared.kinds.Kind.{Kind}
use Rattle.vd_tokens.specs.declared.kinds.Kind.TheVariants as kind
use Rattle.vd_tokens.specs.Spellings.{IsTextOf}
use Rattle.vd_forest.specs.Forest.{Forest, nothing, more, joined}
use Rattle.vd_forms.specs.declared.form.Form.{Form}
use Rattle.vd_forms.specs.declared.form.Form.TheVariants as form
use Rattle.vd_forms.specs.Forms.{same_form, is_among, expressions, forms_of_2019_alone}
use Rattle.vd_forms.specs.Slots.{Slot, One, Many, slots_of, file_slots}

-- ---- parts

-- the forms of the trees of a forest, side by side
abbrev pub forms_of : Forest Form → List Form
forms_of nothing = []
forms_of (more f text place parts next) = f ∷ forms_of next

-- no more parts are wanted
abbrev pub all_many : List Slot → Bool
all_many [] = true
all_many (One fs ∷ ss) = false
all_many (Many fs ∷ ss) = all_many ss

-- parts of these forms fit the slots
abbrev pub fits : List Slot → List Form → Bool
fits ss [] = all_many ss
fits [] (f ∷ fs) = false
fits (One gs ∷ ss) (f ∷ fs) = is_among gs f && fits ss fs
fits (Many gs ∷ ss) (f ∷ fs) = is_among gs f && fits (Many gs ∷ ss) fs

-- the form is one of the revision
abbrev pub is_form_of : Revision → Form → Bool
is_form_of V2019 f = true
is_form_of V1993 f = not (is_among forms_of_2019_alone f)

-- ---- texts

-- the kind of token that a leaf stands for
abbrev pub leaf_kind : Form → Option Kind
leaf_kind form.Identifier = Some kind.Name
leaf_kind form.Number = Some kind.Number
leaf_kind form.Letter = Some kind.Letter
leaf_kind form.Quoted = Some kind.Quoted
leaf_kind form.Bits = Some kind.Bits
leaf_kind _ = None

abbrev pub IsTextAt : Revision → Option Kind → List ℕ → Type 0
IsTextAt r None text = text ≡ []
IsTextAt r (Some k) text = IsTextOf r k text

-- a leaf's text is one that a token of its kind can have, and every other node has none
abbrev pub HasText : Revision → Form → List ℕ → Type 0
HasText r f text = IsTextAt r (leaf_kind f) text

-- ---- brackets

abbrev pub is_one_expression : Forest Form → Bool
is_one_expression nothing = false
is_one_expression (more f text place parts nothing) = is_among expressions f
is_one_expression (more f text place parts (more g text' place' parts' next)) = false

-- the node stands for brackets round one expression
abbrev pub is_bracketed : Form → Forest Form → Bool
is_bracketed f parts = same_form f form.Aggregate && is_one_expression parts

-- the lists of actuals: those of calls and maps, what stands behind `=>`
abbrev pub holders_of_actuals : List Form
holders_of_actuals = form.Arguments ∷ form.GenericMap ∷ form.PortMap ∷ form.Association ∷ form.OthersAssociation ∷ []

-- An actual that is wholly in brackets is marked as an expression by a node of its own: an element of a call, of a map or of an
-- aggregate, alone or behind `=>`. Everywhere else brackets round one expression leave no node. So a parent's parts may be
-- such nodes where it holds actuals, or is an aggregate of other than one expression
abbrev pub keeps_brackets : Form → Forest Form → Bool
keeps_brackets f parts =
    is_among holders_of_actuals f || (is_among (form.Aggregate ∷ form.Qualification ∷ []) f && not (is_one_expression parts))

-- ---- trees

-- each tree has parts, a text and brackets as its form and the revision want. `keep` says whether brackets may stand at the
-- trees side by side
abbrev pub AreValid : Revision → Bool → Forest Form → Type 0
AreValid r keep nothing = Unit {0}
AreValid r keep (more f text place parts next) =
    (is_form_of r f ≡ true) × (fits (slots_of r f) (forms_of parts) ≡ true) × HasText r f text × ((keep || not (is_bracketed f parts)) ≡ true)
    × AreValid r (keeps_brackets f parts) parts × AreValid r keep next

-- the design units of a file
pub record IsDesign (r : Revision) (units : Forest Form) : Type 0 where
  pub are_units : fits file_slots (forms_of units) ≡ true
  pub are_valid : AreValid r false units

-- ---- several designs

-- the units of some designs, in order
abbrev pub all_joined : List (Forest Form) → Forest Form
all_joined [] = nothing
all_joined (f ∷ fs) = joined f (all_joined fs)
