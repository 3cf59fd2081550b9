-- Operators of revision 2019 as what revision 1993 has. (IEEE 1076-2019, operators; function calls.)
use Rattle.std.specs.Prelude.{ℕ, Bool, true, false, not, if◌then◌else◌, List, [], ◌∷◌, Option, None, Some, codes, slice_index_or}
use Rattle.vd_bytes.specs.declared.places.Place.{Place}
use Rattle.vd_declarations.specs.declared.declarations.Declaration.{Declaration}
use Rattle.vd_forest.specs.Forest.{Forest, nothing, more, with_next}
use Rattle.vd_forms.specs.declared.form.Form.{Form}
use Rattle.vd_forms.specs.declared.form.Form.TheVariants as form
use Rattle.vd_meaning.specs.Tables.{no_declaration, table}
use Rattle.vd_notes.specs.Makers.{letter, noted, resolved, word}
use Rattle.vd_notes.specs.declared.noted.Noted.{Noted}
use Rattle.vd_predefined.specs.declared.numbers.TheConstants.{BIT, BOOLEAN, INTEGER}
use Rattle.vd_rewriting.specs.Rewriting.{Pass}
use Rattle.vd_lowering.specs.Operators.{operator_at}
use Rattle.vd_lowering.specs.declared.operators.TypeRow.{TypeRow}
use Rattle.vd_trees.specs.declared.revision.Revision.TheVariants.{V2019}
use Rattle.vd_match.specs.Support.{number_of}
use Rattle.vd_match.specs.Writings.{writing_at}
use Rattle.vd_match.specs.declared.operations.Sort.{Sort}
use Rattle.vd_match.specs.declared.operations.Sort.TheVariants as sort
use Rattle.vd_match.specs.declared.operations.TheConstants.{BIT_ONE}
use Rattle.vd_match.specs.declared.support.Function.{Function}
use Rattle.vd_match.specs.declared.writings.Writing.{Writing}
use Rattle.vd_match.specs.declared.writings.Writing.TheVariants as writing

-- ---- where operators are called

-- by nodes of the forms of operators that revision 1993 may lack, and by names with brackets
abbrev pub sort_of : Form → Sort
sort_of form.Condition = sort.Operator
sort_of form.Nand = sort.Operator
sort_of form.Nor = sort.Operator
sort_of form.And = sort.Operator
sort_of form.Or = sort.Operator
sort_of form.Xor = sort.Operator
sort_of form.Xnor = sort.Operator
sort_of form.MatchEqual = sort.Operator
sort_of form.MatchUnequal = sort.Operator
sort_of form.MatchLess = sort.Operator
sort_of form.MatchAtMost = sort.Operator
sort_of form.MatchGreater = sort.Operator
sort_of form.MatchAtLeast = sort.Operator
sort_of form.ShiftLeftLogical = sort.Operator
sort_of form.ShiftRightLogical = sort.Operator
sort_of form.RotateLeft = sort.Operator
sort_of form.RotateRight = sort.Operator
sort_of form.AndReduction = sort.Operator
sort_of form.OrReduction = sort.Operator
sort_of form.XorReduction = sort.Operator
sort_of form.XnorReduction = sort.Operator
sort_of form.NandReduction = sort.Operator
sort_of form.NorReduction = sort.Operator
sort_of form.Name = sort.Name
sort_of form.OperatorName = sort.Name
sort_of form.Bits = sort.Bits
sort_of form.Qualification = sort.Qualification
sort_of _ = sort.Other

abbrev pub is_brackets : Form → Bool
is_brackets form.Arguments = true
is_brackets _ = false

-- there is a piece, and it isn't brackets
abbrev pub is_ahead : Forest Noted → Bool
is_ahead nothing = false
is_ahead (more n text place parts next) = not (is_brackets n.node.form)

-- the pieces of a name from its first brackets on
abbrev pub brackets_in : Forest Noted → Forest Noted
brackets_in nothing = nothing
brackets_in (more n text place parts next) = if is_brackets n.node.form then more n text place parts next else brackets_in next

-- ---- what is written

abbrev pub named : List Declaration → ℕ → Place → Forest Noted → Forest Noted
named ds d place next = word noted (slice_index_or ds d no_declaration).name (Some d) None place next

-- an operator with operands of a type, and the type that it gives
abbrev pub operation : List TypeRow → Form → Option ℕ → Option ℕ → Place → Forest Noted → Forest Noted → Forest Noted
operation rows f of gives place operands next = more (noted (resolved f (operator_at rows f of) gives 0)) [] place operands next

-- Of a call: the type that it gives, the type of the name round it, its place, its operands, and what stands behind its brackets.

abbrev pub called : List Declaration → List ℕ → Function → Option ℕ → Option ℕ → Place → Forest Noted → Forest Noted → Forest Noted → Forest Noted
called ds numbers f gives mark place operands rest next =
    more (noted (resolved form.Name None mark 0)) [] place
    (named ds (number_of numbers f) place (more (noted (resolved form.Arguments (Some (number_of numbers f)) gives 0)) [] place operands rest)) next

abbrev pub negated_pieces : List TypeRow → Option ℕ → Place → Forest Noted → Forest Noted → Forest Noted
negated_pieces rows gives place inner rest =
    more (noted (resolved form.Quoted (operator_at rows form.Not gives) None 0)) (codes "not") place nothing
    (more (noted (resolved form.Arguments (operator_at rows form.Not gives) gives 0)) [] place inner rest)

-- `not` is an operator where nothing stands behind the brackets, and called by its symbol otherwise
abbrev pub negation : List TypeRow → Option ℕ → Option ℕ → Place → Forest Noted → Forest Noted → Forest Noted → Forest Noted
negation rows gives mark place inner nothing next = operation rows form.Not gives gives place inner next
negation rows gives mark place inner (more n text p parts rest) next =
    more (noted (resolved form.OperatorName None mark 0)) [] place (negated_pieces rows gives place inner (more n text p parts rest)) next

abbrev pub negated_call : List Declaration → List ℕ → List TypeRow → Function → Option ℕ → Option ℕ → Place → Forest Noted → Forest Noted → Forest Noted → Forest Noted
negated_call ds numbers rows f gives mark place operands rest next =
    negation rows gives mark place (called ds numbers f gives gives place operands nothing nothing) rest next

abbrev pub negated_xor : List TypeRow → Option ℕ → Option ℕ → Place → Forest Noted → Forest Noted → Forest Noted → Forest Noted
negated_xor rows gives mark place operands rest next = negation rows gives mark place (operation rows form.Xor gives gives place operands nothing) rest next

-- the operand and the literal '1' of BIT are compared
abbrev pub is_one : List TypeRow → Option ℕ → Place → Forest Noted → Forest Noted → Forest Noted
is_one rows gives place operands next =
    operation rows form.Equal (Some BIT) gives place (with_next operands (letter noted (codes "1") BIT_ONE BIT 1 place nothing)) next

-- the attribute of a type
abbrev pub image : List Declaration → ℕ → Option ℕ → Option ℕ → Place → Forest Noted → Forest Noted → Forest Noted → Forest Noted
image ds of gives mark place operands rest next =
    more (noted (resolved form.Name None mark 0)) [] place
    (named ds of place (more (noted (resolved form.Attribute None None 0)) [] place (word noted (codes "image") None None place nothing)
    (more (noted (resolved form.Arguments None gives 0)) [] place operands rest))) next

-- ---- the pass

-- what a node that calls an operator becomes
abbrev pub written : List Declaration → List ℕ → List TypeRow → Writing → Noted → List ℕ → Place → Forest Noted
    → Option ℕ → Option ℕ → Place → Forest Noted → Forest Noted → Forest Noted → Forest Noted
written ds numbers rows writing.Kept n text place new gives mark p operands rest next = more n text place new next
written ds numbers rows (writing.Call f) n text place new gives mark p operands rest next = called ds numbers f gives mark p operands rest next
written ds numbers rows (writing.NegatedCall f) n text place new gives mark p operands rest next = negated_call ds numbers rows f gives mark p operands rest next
written ds numbers rows writing.NegatedXor n text place new gives mark p operands rest next = negated_xor rows gives mark p operands rest next
written ds numbers rows writing.IsOne n text place new gives mark p operands rest next = is_one rows gives p operands next
written ds numbers rows writing.IntegerImage n text place new gives mark p operands rest next = image ds INTEGER gives mark p operands rest next
written ds numbers rows writing.TruthImage n text place new gives mark p operands rest next = image ds BOOLEAN gives mark p operands rest next

-- a name, whose pieces from the first brackets on come behind its pieces
abbrev pub in_name : List Declaration → List ℕ → List TypeRow → Noted → List ℕ → Place → Forest Noted → Forest Noted → Forest Noted → Forest Noted
in_name ds numbers rows n text place new nothing next = more n text place new next
in_name ds numbers rows n text place new (more a t p operands rest) next =
    written ds numbers rows (writing_at (table V2019 ds) a.node.declaration) n text place new a.node.mark n.node.mark place operands rest next

abbrev pub in_operator : List Declaration → List ℕ → List TypeRow → Noted → List ℕ → Place → Forest Noted → Forest Noted → Forest Noted
in_operator ds numbers rows n text place new next =
    written ds numbers rows (writing_at (table V2019 ds) n.node.declaration) n text place new n.node.mark n.node.mark place new nothing next

-- a bit string literal as a string literal: its text is its value
abbrev pub quoted : Noted → Noted
quoted n = record { node = resolved form.Quoted n.node.declaration n.node.mark n.node.position; note = n.note }

abbrev pub is_aggregate : Form → Bool
is_aggregate form.Aggregate = true
is_aggregate _ = false

-- the elements of a qualified expression: those of an aggregate that stands in its brackets alone
abbrev pub unwrapped : Forest Noted → Forest Noted
unwrapped nothing = nothing
unwrapped (more n text place parts nothing) = if is_aggregate n.node.form then parts else more n text place parts nothing
unwrapped (more n text place parts (more m t p ps next)) = more n text place parts (more m t p ps next)

abbrev pub lowered_by : Sort → List Declaration → List ℕ → List TypeRow → Noted → List ℕ → Place → Forest Noted → Forest Noted → Forest Noted
lowered_by sort.Operator ds numbers rows n text place new next = in_operator ds numbers rows n text place new next
lowered_by sort.Name ds numbers rows n text place new next = in_name ds numbers rows n text place new (brackets_in new) next
lowered_by sort.Bits ds numbers rows n text place new next = more (quoted n) text place new next
lowered_by sort.Qualification ds numbers rows n text place new next = more n text place (unwrapped new) next
lowered_by sort.Other ds numbers rows n text place new next = more n text place new next

abbrev pub lowered : List Declaration → List ℕ → List TypeRow → Pass Noted Noted
lowered ds numbers rows n text place parts new next = lowered_by (sort_of n.node.form) ds numbers rows n text place new next
