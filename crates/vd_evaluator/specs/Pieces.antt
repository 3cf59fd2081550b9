-- Names piece by piece, as the code has them.
use Rattle.std.specs.Prelude.{ℤ, Bool, List, [], ◌∷◌, Option, Some, None, Ok}
use Rattle.vd_values.specs.declared.scalar.Scalar.{Scalar}
use Rattle.vd_composites.specs.Stops.{OrStop, ◌>>=◌}
use Rattle.vd_composites.specs.Composites.{Value, scalar_of}
use Rattle.vd_composites.specs.Parts.{part, misshapen}
use Rattle.vd_composites.specs.declared.ranges.Bounds.{Bounds}
use Rattle.vd_composites.specs.Scalars.{position_of}
use Rattle.vd_meaning.specs.Tables.{Role, FunctionRole, MarkRole}
use Rattle.vd_evaluator.specs.declared.names.Caller.{Caller}
use Rattle.vd_evaluator.specs.declared.names.Caller.TheVariants as caller
use Rattle.vd_subtypes.specs.declared.heads.SubtypeHead.{SubtypeHead}
use Rattle.vd_subtypes.specs.Heads.{fit_head}
use Rattle.vd_evaluator.specs.declared.senses.Name.{Name}
use Rattle.vd_evaluator.specs.declared.senses.Name.TheVariants as name
use Rattle.vd_evaluator.specs.declared.senses.Part.{Part}
use Rattle.vd_evaluator.specs.declared.senses.Part.TheVariants as code
use Rattle.vd_evaluator.specs.declared.senses.Piece.{Piece}
use Rattle.vd_evaluator.specs.declared.senses.Piece.TheVariants as piece
use Rattle.vd_evaluator.specs.declared.senses.What.{What}
use Rattle.vd_evaluator.specs.declared.senses.What.TheVariants as what
use Rattle.vd_evaluator.specs.declared.senses.Sense.{Sense}
use Rattle.vd_evaluator.specs.Senses.{step_in}

-- a part of a value
abbrev pub part_found : OrStop (Value Scalar) → OrStop Part → OrStop (Value Scalar)
part_found r s = r >>= λ v. s >>= λ x. part (step_in x) v

abbrev pub own_value : Name → OrStop (Value Scalar) → Name
own_value name.Unnamed r = name.Unnamed
own_value _ r = name.Valued r

abbrev pub part_value : Name → OrStop Part → Name
part_value (name.Valued r) s = name.Valued (part_found r s)
part_value _ s = name.Unnamed

abbrev pub with_piece : Name → Piece → Name
with_piece x (piece.Step s) = part_value x s
with_piece x (piece.Own r) = own_value x r

abbrev pub with_what : Name → What → Name
with_what x (what.Piece p) = with_piece x p
with_what x _ = name.Unnamed

abbrev pub with_pieces : Name → List Sense → Name
with_pieces x [] = x
with_pieces x (s ∷ ss) = with_pieces (with_what x s.what) ss

-- the name that a word begins
abbrev pub first_word : What → Name
first_word (what.Word x) = x
first_word _ = name.Unnamed

-- the position of a scalar value
abbrev pub position_of_some : Option Scalar → OrStop ℤ
position_of_some None = misshapen
position_of_some (Some x) = Ok (position_of x)

abbrev pub position_read : OrStop (Value Scalar) → OrStop ℤ
position_read r = r >>= λ v. position_of_some (scalar_of v)

-- an index, and a slice, as a part
abbrev pub index_read : OrStop (Value Scalar) → OrStop Part
index_read r = position_read r >>= λ i. Ok (code.Index i)

abbrev pub slice_read : OrStop Bounds → OrStop Part
slice_read r = r >>= λ b. Ok (code.Slice b)

abbrev pub limits_read : Bool → OrStop (Value Scalar) → OrStop (Value Scalar) → OrStop Bounds
limits_read down l r = position_read l >>= λ i. position_read r >>= λ j. Ok (record { left = i; right = j; down = down })

-- ---- what pieces and ranges are, from their parts

abbrev pub converted_by : SubtypeHead → OrStop (Value Scalar) → OrStop (Value Scalar)
converted_by h r = r >>= fit_head h

-- an index or a slice
abbrev pub index_of : What → What
index_of (what.Expression r) = what.Piece (piece.Step (index_read r))
index_of (what.Range r) = what.Piece (piece.Step (slice_read r))
index_of _ = what.NotTaken

abbrev pub index_what : List Sense → What
index_what (s ∷ []) = index_of s.what
index_what _ = what.NotTaken

-- a qualified expression
abbrev pub operand_of : SubtypeHead → What → What
operand_of h (what.Expression r) = what.Piece (piece.Own (converted_by h r))
operand_of h _ = what.NotTaken

abbrev pub operand_what : SubtypeHead → List Sense → What
operand_what h (s ∷ []) = operand_of h s.what
operand_what h _ = what.NotTaken

-- a range
abbrev pub to_limit : Bool → OrStop (Value Scalar) → What → What
to_limit down l (what.Expression r) = what.Range (limits_read down l r)
to_limit down l _ = what.NotTaken

abbrev pub from_limit : Bool → What → What → What
from_limit down (what.Expression l) r = to_limit down l r
from_limit down _ r = what.NotTaken

abbrev pub limits_what : Bool → List Sense → What
limits_what down (l ∷ r ∷ []) = from_limit down l.what r.what
limits_what down _ = what.NotTaken

-- a declaration that is selected
abbrev pub declared_what : Name → What
declared_what (name.Valued r) = what.Piece (piece.Own r)
declared_what _ = what.NotTaken

-- what a declaration is in front of a list in brackets: a function or a mark makes a call or a conversion of it
abbrev pub caller_of : Role → Caller
caller_of FunctionRole = caller.Called
caller_of MarkRole = caller.Called
caller_of _ = caller.Other
