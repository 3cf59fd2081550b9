-- What is written of a tree: its tokens, and how they stand in lines. Both are read from the templates of the code.
use Rattle.std.specs.Prelude.{ℕ, ◌-◌, true, false, nat_lt, nat_eq, if◌then◌else◌, List, [], ◌∷◌, ◌++◌, drop, Option, Some, None, slice_index_or}
use Rattle.vd_tokens.specs.declared.kinds.Kind.{Kind}
use Rattle.vd_tokens.specs.declared.kinds.Kind.TheVariants as kind
use Rattle.vd_tokens.specs.Lexemes.{Lexeme}
use Rattle.vd_forest.specs.Forest.{Forest, nothing, more, no_place}
use Rattle.vd_forms.specs.declared.form.Form.{Form}
use Rattle.vd_forms.specs.Forms.{same_form}
use Rattle.vd_forms.specs.Validity.{leaf_kind}
use Rattle.vd_templates.specs.declared.pieces.Piece.{Piece}
use Rattle.vd_templates.specs.declared.pieces.Piece.TheVariants.{Of, AnyOther, Token, Own, Itself, Part, Listed, Parts, Nothing, EndLine, Inward, Outward}
use Rattle.vd_templates.specs.declared.rows.TheConstants.{TEMPLATES}
use Rattle.vd_templates.specs.declared.states.TheConstants.{AS_IT_IS}

-- ---- rows

-- what stands in front of the next head
abbrev pub up_to_head : List Piece → List Piece
up_to_head [] = []
up_to_head (Of state form ∷ ps) = []
up_to_head (AnyOther state ∷ ps) = []
up_to_head (p ∷ ps) = p ∷ up_to_head ps

-- the pieces of a row, behind one of its heads
abbrev pub behind_heads : List Piece → List Piece
behind_heads (Of state form ∷ ps) = behind_heads ps
behind_heads (AnyOther state ∷ ps) = behind_heads ps
behind_heads ps = up_to_head ps

-- the pieces of the first row with a head for trees of a form in a state. Without such a row nothing is written
abbrev pub row_in : ℕ → Form → List Piece → List Piece
row_in s f [] = []
row_in s f (Of state form ∷ ps) =
    elim (nat_eq state s) [ true ↦ elim (same_form form f) [ true ↦ behind_heads ps | false ↦ row_in s f ps ] | false ↦ row_in s f ps ]
row_in s f (AnyOther state ∷ ps) = elim (nat_eq state s) [ true ↦ behind_heads ps | false ↦ row_in s f ps ]
row_in s f (p ∷ ps) = row_in s f ps

abbrev pub row_of : ℕ → Form → List Piece
row_of state form = row_in state form TEMPLATES.now

-- ---- items

-- a token, or how lines go on: the line ends, and lines that begin behind this stand further in, or further out
pub data Item : Type 0 where
  token : (kind : Kind) → (text : List ℕ) → Item
  end_line : Item
  inward : Item
  outward : Item

-- the token of a terminal without a text: the marks stand behind the five kinds with a text, and the words behind the marks
abbrev pub kind_at : ℕ → Kind
kind_at symbol = if nat_lt symbol 36 then kind.Mark (symbol - 5) else kind.Word (symbol - 36)

-- the token of a leaf
abbrev pub own : Option Kind → List ℕ → List Item
own None text = []
own (Some k) text = token k text ∷ []

-- what is written of a tree, in each state
abbrev pub Written : Type 0
Written = ℕ → List Item

abbrev pub unwritten : Written
unwritten state = []

-- the trees as they are
abbrev pub all_written : List Written → List Item
all_written [] = []
all_written (w ∷ ws) = w AS_IT_IS ++ all_written ws

-- the same, with a token in front of each
abbrev pub all_listed : ℕ → List Written → List Item
all_listed separator [] = []
all_listed separator (w ∷ ws) = token (kind_at separator) [] ∷ w AS_IT_IS ++ all_listed separator ws

-- what the pieces of a row give of a tree with this form, this text and these parts. `itself` is the tree as it is
module _ (form : Form) (text : List ℕ) (parts : List Written) (itself : List Item) where
  abbrev pub piece_items : Piece → List Item
  piece_items (Of state _) = []
  piece_items (AnyOther state) = []
  piece_items (Token symbol) = token (kind_at symbol) [] ∷ []
  piece_items Own = own (leaf_kind form) text
  piece_items Itself = itself
  piece_items (Part number state) = slice_index_or parts number unwritten state
  piece_items (Listed number separator) = all_listed separator (drop number parts)
  piece_items (Parts number) = all_written (drop number parts)
  piece_items Nothing = []
  piece_items EndLine = end_line ∷ []
  piece_items Inward = inward ∷ []
  piece_items Outward = outward ∷ []

  abbrev pub row_items : List Piece → List Item
  row_items [] = []
  row_items (p ∷ ps) = piece_items p ++ row_items ps

-- the tree as it is
abbrev pub as_it_is : Form → List ℕ → List Written → List Item
as_it_is form text parts = row_items form text parts [] (row_of AS_IT_IS form)

abbrev pub tree_items : Form → List ℕ → List Written → Written
tree_items form text parts state = row_items form text parts (as_it_is form text parts) (row_of state form)

-- the trees of a forest, side by side
abbrev pub written : Forest Form → List Written
written nothing = []
written (more form text place parts next) = tree_items form text (written parts) ∷ written next

-- all that is written of the units of a file
abbrev pub items_of : Forest Form → List Item
items_of units = all_written (written units)

-- ---- tokens

abbrev pub lexeme : Kind → List ℕ → Lexeme
lexeme k text = record { kind = k; text = text; place = no_place }

-- the tokens among the items
abbrev pub tokens_in : List Item → List Lexeme
tokens_in [] = []
tokens_in (token k text ∷ items) = lexeme k text ∷ tokens_in items
tokens_in (end_line ∷ items) = tokens_in items
tokens_in (inward ∷ items) = tokens_in items
tokens_in (outward ∷ items) = tokens_in items

-- the tokens of the units of a file, and the end
abbrev pub tokens_of : Forest Form → List Lexeme
tokens_of units = tokens_in (items_of units) ++ lexeme kind.End [] ∷ []
