-- Which expressions are taken: what each node is, by its kind and what its parts are.
use Rattle.std.specs.Prelude.{ℕ, nat_lt, Option, Some, None, slice_get, Bool, true, false, ◌&&◌, List, [], ◌∷◌, if◌then◌else◌}
use Rattle.vd_bytes.specs.declared.places.Place.{Place}
use Rattle.vd_forest.specs.Forest.{Forest, nothing, more}
use Rattle.vd_rewriting.specs.Folding.{folded}
use Rattle.vd_resolved.specs.declared.node.Resolved.{Resolved}
use Rattle.vd_meaning.specs.Tables.{Table, Role, ConstantRole, VariableRole, SignalRole, LiteralRole, FunctionRole, MarkRole, ElementRole, role_of, is_predefined, followed}
use Rattle.vd_meaning.specs.Literals.{number}
use Rattle.vd_meaning.specs.Names.{number_or}
use Rattle.vd_meaning.specs.Kinds

-- what a name stands for
pub data NameOutline : Type 0 where
  -- a value
  Valued : NameOutline
  -- a function or a mark, behind which a piece must give a value of its own
  Called : NameOutline
  Unnamed : NameOutline

-- what a further piece of a name gives
pub data PieceOutline : Type 0 where
  -- a part of what is in front of it
  ToPart : PieceOutline
  -- a value of its own
  ToValue : PieceOutline

-- what a node is
pub data Outline : Type 0 where
  NotTaken : Outline
  -- a word, which may begin a name
  Word : (name : NameOutline) → Outline
  Expression : Outline
  -- what has a text, and no value here: a number that INTEGER doesn't have
  Textual : Outline
  Range : Outline
  Piece : (piece : PieceOutline) → Outline

-- the first piece of a name, which may have a type
abbrev pub first_outline : Role → Option ℕ → NameOutline
first_outline ConstantRole mark = Valued
first_outline VariableRole mark = Valued
first_outline SignalRole mark = Valued
first_outline LiteralRole mark = Valued
first_outline FunctionRole None = Called
first_outline MarkRole mark = Called
first_outline _ mark = Unnamed

-- ---- of several parts

abbrev pub is_expression : Outline → Bool
is_expression Expression = true
is_expression _ = false

abbrev pub are_expressions : List Outline → Bool
are_expressions [] = true
are_expressions (o ∷ os) = is_expression o && are_expressions os

abbrev pub has_text : Outline → Bool
has_text NotTaken = false
has_text _ = true

abbrev pub found_text : Option Outline → Bool
found_text None = false
found_text (Some o) = has_text o

abbrev pub has_text_at : ℕ → List Outline → Bool
has_text_at n os = found_text (slice_get os n)

abbrev pub expression_where : Bool → Outline
expression_where b = if b then Expression else NotTaken

-- ---- names, piece by piece

abbrev pub word_outline : Outline → NameOutline
word_outline (Word name) = name
word_outline _ = Unnamed

abbrev pub piece_after : NameOutline → Outline → NameOutline
piece_after Valued (Piece ToPart) = Valued
piece_after Valued (Piece ToValue) = Valued
piece_after Called (Piece ToValue) = Valued
piece_after _ _ = Unnamed

abbrev pub named_outline : NameOutline → List Outline → NameOutline
named_outline name [] = name
named_outline name (o ∷ os) = named_outline (piece_after name o) os

abbrev pub finished_outline : NameOutline → Outline
finished_outline Valued = Expression
finished_outline _ = NotTaken

abbrev pub whole_outline : List Outline → Outline
whole_outline [] = NotTaken
whole_outline (o ∷ os) = finished_outline (named_outline (word_outline o) os)

abbrev pub piece_where : Bool → PieceOutline → Outline
piece_where b piece = if b then Piece piece else NotTaken

-- a declaration that is selected gives its value
abbrev pub declared_outline : NameOutline → Outline
declared_outline Valued = Piece ToValue
declared_outline _ = NotTaken

abbrev pub is_element : Role → Bool
is_element ElementRole = true
is_element _ = false

abbrev pub selection_outline : Role → Option ℕ → Outline
selection_outline ElementRole mark = Piece ToPart
selection_outline role mark = declared_outline (first_outline role mark)

-- the one operand of a qualified expression
abbrev pub operand_outline : List Outline → Outline
operand_outline (o ∷ []) = piece_where (is_expression o) ToValue
operand_outline _ = NotTaken

-- an index or a slice
abbrev pub index_outline : Outline → Outline
index_outline Expression = Piece ToPart
index_outline Range = Piece ToPart
index_outline _ = NotTaken

abbrev pub indexes_outline : List Outline → Outline
indexes_outline (o ∷ []) = index_outline o
indexes_outline _ = NotTaken

abbrev pub arguments_outline : Role → List Outline → Outline
arguments_outline FunctionRole os = NotTaken
arguments_outline MarkRole os = NotTaken
arguments_outline _ os = indexes_outline os

abbrev pub limits_outline : List Outline → Outline
limits_outline (l ∷ r ∷ []) = if is_expression l && is_expression r then Range else NotTaken
limits_outline _ = NotTaken

-- brackets are taken where they have one expression alone
abbrev pub bracketed_outline : List Outline → Outline
bracketed_outline (o ∷ []) = expression_where (is_expression o)
bracketed_outline _ = NotTaken

abbrev pub operator_outline : Table → ℕ → List Outline → Outline
operator_outline t d os = expression_where (is_predefined t d && are_expressions os)

-- ---- by the kind of a node

abbrev pub outline_of : Kinds.Kind → Table → Resolved → List ℕ → List Outline → Outline
outline_of Kinds.Word t n text os = Word (first_outline (role_of t n.declaration) n.mark)
outline_of Kinds.CharacterLiteral t n text os = Expression
outline_of Kinds.StringLiteral t n text os = Expression
outline_of Kinds.NumberLiteral t n text os = if nat_lt (number text) 2147483648 then Expression else Textual
outline_of Kinds.TimeLiteral t n text os = expression_where (has_text_at 0 os && has_text_at 1 os)
outline_of Kinds.WholeName t n text os = whole_outline os
outline_of Kinds.SelectionPiece t n text os = selection_outline (role_of t n.declaration) n.mark
outline_of Kinds.ArgumentsPiece t n text os = arguments_outline (role_of t n.declaration) os
outline_of Kinds.QualificationPiece t n text os = operand_outline os
outline_of (Kinds.Limits down) t n text os = limits_outline os
outline_of Kinds.Operator t n text os = operator_outline t (followed t (number_or n.declaration)) os
outline_of Kinds.Brackets t n text os = bracketed_outline os
outline_of _ t n text os = NotTaken

abbrev pub node_outline : Table → Resolved → List ℕ → Place → List Outline → Outline
node_outline t n text place os = outline_of (Kinds.kind n.form) t n text os

-- what the trees of a forest are
abbrev pub outlines : Table → Forest Resolved → List Outline
outlines t f = folded (node_outline t) f

-- whether the first tree of a forest is an expression that is taken
abbrev pub is_taken : Table → Forest Resolved → Bool
is_taken t nothing = false
is_taken t (more n text place parts next) = is_expression (node_outline t n text place (outlines t parts))
