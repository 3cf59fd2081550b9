-- What the templates say of brackets and lines, in the words of the layout.
use Rattle.std.specs.Prelude.{ℕ, zero, suc, ◌≡◌, Bool, true, false, ◌&&◌, ◌||◌, not, nat_eq, if◌then◌else◌, List, [], ◌∷◌, IsTrue}
use Rattle.vd_forms.specs.declared.form.Form.{Form}
use Rattle.vd_forms.specs.declared.form.Form.TheVariants as form
use Rattle.vd_forms.specs.Forms.{same_form, is_among}
use Rattle.vd_shapes.specs.declared.terminals.TheConstants.{OPEN, CLOSE, SEMICOLON, GIVES, WORD_BEGIN, WORD_ELSE, WORD_END, WORD_GENERATE, WORD_IS, WORD_LOOP, WORD_RECORD, WORD_THEN}
use Rattle.vd_templates.specs.declared.pieces.Piece.{Piece}
use Rattle.vd_templates.specs.declared.pieces.Piece.TheVariants.{Token, Itself, Part, Listed, EndLine, Inward, Outward}
use Rattle.vd_templates.specs.declared.states.TheConstants.{AS_IT_IS, OPERAND, LEFT_OF_AND, LEFT_OF_OR, LEFT_OF_XOR, LEFT_OF_XNOR, LEFT_OF_SUM, LEFT_OF_PRODUCT, GENERATED}
use Rattle.vd_templates.specs.Templates.{row_of}

-- ---- brackets. (IEEE 1076, 9.1: the operators, and what their operands may be)

abbrev pub primaries : List Form
primaries = form.Name ∷ form.Number ∷ form.Letter ∷ form.Quoted ∷ form.Bits ∷ form.Aggregate ∷ form.PhysicalLiteral ∷ form.OperatorName ∷ []

abbrev pub sums : List Form
sums = form.Add ∷ form.Subtract ∷ form.Concatenate ∷ []

abbrev pub products : List Form
products = form.Multiply ∷ form.Divide ∷ form.Modulo ∷ form.Remainder ∷ []

-- operators without a left operand that goes without brackets, and ranges
abbrev pub other_operators : List Form
other_operators =
    form.Nand ∷ form.Nor ∷ form.Equal ∷ form.Unequal ∷ form.Less ∷ form.AtMost ∷ form.Greater ∷ form.AtLeast ∷ form.ShiftLeftLogical ∷ form.ShiftRightLogical
    ∷ form.ShiftLeftArithmetic ∷ form.ShiftRightArithmetic ∷ form.RotateLeft ∷ form.RotateRight ∷ form.Power ∷ form.Ascending ∷ form.Descending ∷ []

abbrev pub signs : List Form
signs = form.Identity ∷ form.Negation ∷ form.Absolute ∷ form.Not ∷ []

-- these forms stand as they are, and others in brackets
abbrev pub in_brackets_but : List Form → Form → List Piece
in_brackets_but bare f = if is_among bare f then Itself ∷ [] else Token OPEN ∷ Itself ∷ Token CLOSE ∷ []

-- the states of operands among those of the parts in a row
abbrev pub is_operand : ℕ → Bool
is_operand state =
    nat_eq state OPERAND || (nat_eq state LEFT_OF_AND || (nat_eq state LEFT_OF_OR || (nat_eq state LEFT_OF_XOR || (nat_eq state LEFT_OF_XNOR || (nat_eq state LEFT_OF_SUM || nat_eq state LEFT_OF_PRODUCT)))))

abbrev pub operand_states : List Piece → List ℕ
operand_states [] = []
operand_states (Part i state ∷ ps) = if is_operand state then state ∷ operand_states ps else operand_states ps
operand_states (p ∷ ps) = operand_states ps

abbrev pub operands_of : Form → List ℕ
operands_of f =
    elim (is_among (form.And ∷ []) f) [
      | true ↦ LEFT_OF_AND ∷ OPERAND ∷ []
      | false ↦
          elim (is_among (form.Or ∷ []) f) [
            | true ↦ LEFT_OF_OR ∷ OPERAND ∷ []
            | false ↦
                elim (is_among (form.Xor ∷ []) f) [
                  | true ↦ LEFT_OF_XOR ∷ OPERAND ∷ []
                  | false ↦
                      elim (is_among (form.Xnor ∷ []) f) [
                        | true ↦ LEFT_OF_XNOR ∷ OPERAND ∷ []
                        | false ↦
                            elim (is_among sums f) [
                              | true ↦ LEFT_OF_SUM ∷ OPERAND ∷ []
                              | false ↦
                                  elim (is_among products f) [
                                    | true ↦ LEFT_OF_PRODUCT ∷ OPERAND ∷ []
                                    | false ↦
                                        elim (is_among other_operators f) [
                                          | true ↦ OPERAND ∷ OPERAND ∷ []
                                          | false ↦
                                              elim (is_among signs f) [ true ↦ OPERAND ∷ [] | false ↦ [] ]
                                        ]
                                  ]
                            ]
                      ]
                ]
          ]
    ]

-- An operand or a bound of a range that isn't a primary has brackets, but not a left operand of the same `and`, `or`, `xor` or
-- `xnor`, of `+`, `-`, `&` under one of these, or of `*`, `/`, `mod`, `rem` under one of these
pub record HaveBrackets : Type 0 where
  pub operands : (f : Form) → operand_states (row_of AS_IT_IS f) ≡ operands_of f
  pub operand : (f : Form) → row_of OPERAND f ≡ in_brackets_but primaries f
  pub left_of_and : (f : Form) → row_of LEFT_OF_AND f ≡ in_brackets_but (form.And ∷ primaries) f
  pub left_of_or : (f : Form) → row_of LEFT_OF_OR f ≡ in_brackets_but (form.Or ∷ primaries) f
  pub left_of_xor : (f : Form) → row_of LEFT_OF_XOR f ≡ in_brackets_but (form.Xor ∷ primaries) f
  pub left_of_xnor : (f : Form) → row_of LEFT_OF_XNOR f ≡ in_brackets_but (form.Xnor ∷ primaries) f
  pub left_of_sum : (f : Form) → row_of LEFT_OF_SUM f ≡ in_brackets_but (form.Add ∷ form.Subtract ∷ form.Concatenate ∷ primaries) f
  pub left_of_product : (f : Form) → row_of LEFT_OF_PRODUCT f ≡ in_brackets_but (form.Multiply ∷ form.Divide ∷ form.Modulo ∷ form.Remainder ∷ primaries) f

-- ---- lines

-- an `is` that opens a unit, a function, a process or a case
abbrev pub openers : List Form
openers = form.EntityDeclaration ∷ form.ArchitectureBody ∷ form.PackageBody ∷ form.PackageDeclaration ∷ form.FunctionBody ∷ form.Is ∷ form.CaseStatement ∷ []

-- A line ends behind a semicolon, behind such an `is`, behind `begin` and `then`, behind `record`, `loop` and `generate` where no `end` stands
-- in front of them, behind the `else` of a statement and the `=>` of its `when`
abbrev pub ends_line : Form → ℕ → ℕ → Bool
ends_line f before symbol =
    nat_eq symbol SEMICOLON
    || (nat_eq symbol WORD_BEGIN || (nat_eq symbol WORD_THEN || ((nat_eq symbol WORD_IS && is_among openers f)
    || (((nat_eq symbol WORD_RECORD || (nat_eq symbol WORD_LOOP || nat_eq symbol WORD_GENERATE)) && not (nat_eq before WORD_END))
    || ((nat_eq symbol WORD_ELSE && same_form f form.ElseBranch) || (nat_eq symbol GIVES && same_form f form.CaseAlternative))))))

abbrev pub agree : Bool → Bool → Bool
agree true b = b
agree false b = not b

abbrev pub begins_with_end : List Piece → Bool
begins_with_end [] = false
begins_with_end (EndLine ∷ ps) = true
begins_with_end (p ∷ ps) = false

-- how many brackets stand open behind a token
abbrev pub brackets_behind : ℕ → ℕ → ℕ
brackets_behind symbol round = if nat_eq symbol OPEN then suc round else (if nat_eq symbol CLOSE then elim round [ zero ↦ zero | suc n ↦ n ] else round)

-- Outside brackets a line ends just behind these tokens, and nowhere else. `before` is the token in front, or 0
abbrev pub lines_end : Form → ℕ → ℕ → List Piece → Bool
lines_end f round before [] = true
lines_end f round before (Token n ∷ ps) =
    agree (begins_with_end ps) (nat_eq (brackets_behind n round) 0 && ends_line f before n) && lines_end f (brackets_behind n round) n ps
lines_end f round before (Listed j n ∷ ps) = (not (begins_with_end ps) && (not (nat_eq round 0) || not (ends_line f before n))) && lines_end f round 0 ps
lines_end f round before (EndLine ∷ ps) = not (nat_eq before 0) && lines_end f round 0 ps
lines_end f round before (p ∷ ps) = not (begins_with_end ps) && lines_end f round 0 ps

-- what begins further in ends in the same row, and nothing begins two levels further in
abbrev pub levels_end : Bool → List Piece → Bool
levels_end inside [] = not inside
levels_end inside (Inward ∷ ps) = not inside && levels_end true ps
levels_end inside (Outward ∷ ps) = inside && levels_end false ps
levels_end inside (p ∷ ps) = levels_end inside ps

pub record HaveLines : Type 0 where
  pub as_they_are : (f : Form) → IsTrue (lines_end f 0 0 (row_of AS_IT_IS f))
  pub generated : (f : Form) → IsTrue (lines_end f 0 0 (row_of GENERATED f))

pub record HaveLevels : Type 0 where
  pub as_they_are : (f : Form) → IsTrue (levels_end false (row_of AS_IT_IS f))
  pub generated : (f : Form) → IsTrue (levels_end false (row_of GENERATED f))
