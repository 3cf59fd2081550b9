-- The tokens of a design are possible.
use Rattle.std.specs.Prelude.{◌≡◌, ◌<◌, ℕ, suc, zero, ◌-◌, Bool, true, false, ◌&&◌, if◌then◌else◌, nat_eq, nat_lt, List, [], ◌∷◌, ◌++◌, drop, Option, Some, None, slice_index_or}
use Rattle.std.specs.List.{AllByRecursion}
use Rattle.std.proofs.Common.{refl, sym, ap, ◌∙◌, arith}
use Rattle.std.proofs.lemmas.Bool.{and_parts, false≢true}
use Rattle.vd_trees.specs.declared.revision.Revision.TheVariants.{V1993}
use Rattle.vd_tokens.specs.declared.kinds.Kind.{Kind}
use Rattle.vd_tokens.specs.declared.kinds.Kind.TheVariants as kind
use Rattle.vd_tokens.specs.Lexemes.{Lexeme}
use Rattle.vd_tokens.specs.Spellings.{IsTextOf, IsPossible, EndsOnce}
use Rattle.vd_forest.specs.Forest.{Forest, nothing, more}
use Rattle.vd_forms.specs.declared.form.Form.{Form}
use Rattle.vd_forms.specs.declared.form.Form.TheVariants as form
use Rattle.vd_forms.specs.Forms.{same_form}
use Rattle.vd_forms.specs.Validity.{leaf_kind, IsTextAt, HasText, keeps_brackets, AreValid}
use Rattle.vd_templates.specs.declared.pieces.Piece.{Piece}
use Rattle.vd_templates.specs.declared.pieces.Piece.TheVariants.{Of, AnyOther, Token, Own, Itself, Part, Listed, Parts, Nothing, EndLine, Inward, Outward}
use Rattle.vd_templates.specs.declared.rows.TheConstants.{TEMPLATES}
use Rattle.vd_templates.specs.declared.states.TheConstants.{AS_IT_IS}
use Rattle.vd_templates.specs.Templates.{up_to_head, behind_heads, row_in, row_of, Item, token, end_line, inward, outward, kind_at, own, Written, unwritten, all_written, all_listed, row_items, piece_items, as_it_is, tree_items, written, items_of, lexeme, tokens_in}
use Rattle.vd_templates.specs.Laws.{ArePossible, EndOnce}

-- ---- words and marks of 1993

abbrev is_old : ℕ → Bool
is_old n = elim (nat_lt n 36) [ true ↦ nat_lt (n - 5) 23 | false ↦ nat_lt (n - 36) 97 ]

abbrev old_piece : Piece → Bool
old_piece (Token n) = is_old n
old_piece (Listed j n) = is_old n
old_piece _ = true

abbrev all_old : List Piece → Bool
all_old [] = true
all_old (p ∷ ps) = old_piece p && all_old ps

table_is_old : all_old TEMPLATES.now ≡ true
table_is_old = refl

below : (m n : ℕ) → nat_lt m n ≡ true → m < n
below m n e = grind arith

abbrev is_end : Kind → Bool
is_end kind.End = true
is_end _ = false

-- a token that a text can have, and that isn't the end
record IsGood (k : Kind) (text : List ℕ) : Type 0 where
  pub possible : IsTextOf V1993 k text
  pub no_end : is_end k ≡ false

old_is_good : (n : ℕ) → is_old n ≡ true → IsGood (kind_at n) []
old_is_good n e = go (nat_lt n 36) e
  where
    go : (b : Bool) → elim b [ true ↦ nat_lt (n - 5) 23 | false ↦ nat_lt (n - 36) 97 ] ≡ true → IsGood (if b then kind.Mark (n - 5) else kind.Word (n - 36)) []
    go true h = record { possible = (below (n - 5) 23 h, refl); no_end = refl }
    go false h = record { possible = (below (n - 36) 97 h, refl); no_end = refl }

abbrev is_end_of : Option Kind → Bool
is_end_of None = false
is_end_of (Some k) = is_end k

leaf_is_no_end : (f : Form) → is_end_of (leaf_kind f) ≡ false
leaf_is_no_end form.Absent = refl
leaf_is_no_end _ = refl

-- ---- rows

old_to_head : (ps : List Piece) → all_old ps ≡ true → all_old (up_to_head ps) ≡ true
old_to_head [] h = refl
old_to_head (Of s f ∷ ps) h = refl
old_to_head (AnyOther s ∷ ps) h = refl
old_to_head (Token n ∷ ps) h = let b = and_parts (is_old n) (all_old ps) h in λ i. b.0 i && old_to_head ps b.1 i
old_to_head (Own ∷ ps) h = old_to_head ps h
old_to_head (Itself ∷ ps) h = old_to_head ps h
old_to_head (Part j s ∷ ps) h = old_to_head ps h
old_to_head (Listed j n ∷ ps) h = let b = and_parts (is_old n) (all_old ps) h in λ i. b.0 i && old_to_head ps b.1 i
old_to_head (Parts j ∷ ps) h = old_to_head ps h
old_to_head (Nothing ∷ ps) h = old_to_head ps h
old_to_head (EndLine ∷ ps) h = old_to_head ps h
old_to_head (Inward ∷ ps) h = old_to_head ps h
old_to_head (Outward ∷ ps) h = old_to_head ps h

old_behind : (ps : List Piece) → all_old ps ≡ true → all_old (behind_heads ps) ≡ true
old_behind [] h = refl
old_behind (Of s f ∷ ps) h = old_behind ps h
old_behind (AnyOther s ∷ ps) h = old_behind ps h
old_behind (Token n ∷ ps) h = old_to_head (Token n ∷ ps) h
old_behind (Own ∷ ps) h = old_to_head (Own ∷ ps) h
old_behind (Itself ∷ ps) h = old_to_head (Itself ∷ ps) h
old_behind (Part j s ∷ ps) h = old_to_head (Part j s ∷ ps) h
old_behind (Listed j n ∷ ps) h = old_to_head (Listed j n ∷ ps) h
old_behind (Parts j ∷ ps) h = old_to_head (Parts j ∷ ps) h
old_behind (Nothing ∷ ps) h = old_to_head (Nothing ∷ ps) h
old_behind (EndLine ∷ ps) h = old_to_head (EndLine ∷ ps) h
old_behind (Inward ∷ ps) h = old_to_head (Inward ∷ ps) h
old_behind (Outward ∷ ps) h = old_to_head (Outward ∷ ps) h

module _ (state : ℕ) (f : Form) where
  by_form : (ps : List Piece) → all_old ps ≡ true → all_old (row_in state f ps) ≡ true → (b c : Bool)
      → all_old (elim b [ true ↦ elim c [ true ↦ behind_heads ps | false ↦ row_in state f ps ] | false ↦ row_in state f ps ]) ≡ true
  by_form ps h next true true = old_behind ps h
  by_form ps h next true false = next
  by_form ps h next false c = next

  old_in : (ps : List Piece) → all_old ps ≡ true → all_old (row_in state f ps) ≡ true
  old_in [] h = refl
  old_in (Of s g ∷ ps) h = by_form ps h (old_in ps h) (nat_eq s state) (same_form g f)
  old_in (AnyOther s ∷ ps) h = by_form ps h (old_in ps h) (nat_eq s state) true
  old_in (Token n ∷ ps) h = old_in ps (and_parts (is_old n) (all_old ps) h).1
  old_in (Own ∷ ps) h = old_in ps h
  old_in (Itself ∷ ps) h = old_in ps h
  old_in (Part j s ∷ ps) h = old_in ps h
  old_in (Listed j n ∷ ps) h = old_in ps (and_parts (is_old n) (all_old ps) h).1
  old_in (Parts j ∷ ps) h = old_in ps h
  old_in (Nothing ∷ ps) h = old_in ps h
  old_in (EndLine ∷ ps) h = old_in ps h
  old_in (Inward ∷ ps) h = old_in ps h
  old_in (Outward ∷ ps) h = old_in ps h

row_is_old : (state : ℕ) (f : Form) → all_old (row_of state f) ≡ true
row_is_old state f = old_in state f TEMPLATES.now table_is_old

-- ---- items

abbrev AreGood : List Item → Type 0
AreGood [] = Unit {0}
AreGood (token k text ∷ items) = IsGood k text × AreGood items
AreGood (end_line ∷ items) = AreGood items
AreGood (inward ∷ items) = AreGood items
AreGood (outward ∷ items) = AreGood items

good_append : (a b : List Item) → AreGood a → AreGood b → AreGood (a ++ b)
good_append [] b h k = k
good_append (token kd text ∷ a) b h k = (h.0, good_append a b h.1 k)
good_append (end_line ∷ a) b h k = good_append a b h k
good_append (inward ∷ a) b h k = good_append a b h k
good_append (outward ∷ a) b h k = good_append a b h k

record IsGoodTree (w : Written) : Type 0 where
  pub at : (state : ℕ) → AreGood (w state)

abbrev AreGoodTrees : List Written → Type 0
AreGoodTrees [] = Unit {0}
AreGoodTrees (w ∷ ws) = IsGoodTree w × AreGoodTrees ws

good_at : (ws : List Written) (i : ℕ) → AreGoodTrees ws → IsGoodTree (slice_index_or ws i unwritten)
good_at [] i h = record { at = λ s. tt }
good_at (w ∷ ws) zero h = h.0
good_at (w ∷ ws) (suc i) h = good_at ws i h.1

good_drop : (ws : List Written) (i : ℕ) → AreGoodTrees ws → AreGoodTrees (drop i ws)
good_drop ws zero h = h
good_drop [] (suc i) h = tt
good_drop (w ∷ ws) (suc i) h = good_drop ws i h.1

good_all : (ws : List Written) → AreGoodTrees ws → AreGood (all_written ws)
good_all [] h = tt
good_all (w ∷ ws) h = good_append (w AS_IT_IS) (all_written ws) (h.0.at AS_IT_IS) (good_all ws h.1)

good_listed : (n : ℕ) (ws : List Written) → is_old n ≡ true → AreGoodTrees ws → AreGood (all_listed n ws)
good_listed n [] e h = tt
good_listed n (w ∷ ws) e h = (old_is_good n e, good_append (w AS_IT_IS) (all_listed n ws) (h.0.at AS_IT_IS) (good_listed n ws e h.1))

module _ (f : Form) (text : List ℕ) (parts : List Written) (has_text : HasText V1993 f text) (good : AreGoodTrees parts) where
  good_own : (o : Option Kind) → IsTextAt V1993 o text → is_end_of o ≡ false → AreGood (own o text)
  good_own None h e = tt
  good_own (Some k) h e = (record { possible = h; no_end = e }, tt)

  module _ (itself : List Item) (good_itself : AreGood itself) where
    good_piece : (p : Piece) → old_piece p ≡ true → AreGood (piece_items f text parts itself p)
    good_piece (Of s g) e = tt
    good_piece (AnyOther s) e = tt
    good_piece (Token n) e = (old_is_good n e, tt)
    good_piece Own e = good_own (leaf_kind f) has_text (leaf_is_no_end f)
    good_piece Itself e = good_itself
    good_piece (Part i s) e = (good_at parts i good).at s
    good_piece (Listed j n) e = good_listed n (drop j parts) e (good_drop parts j good)
    good_piece (Parts j) e = good_all (drop j parts) (good_drop parts j good)
    good_piece Nothing e = tt
    good_piece EndLine e = tt
    good_piece Inward e = tt
    good_piece Outward e = tt

    good_row : (ps : List Piece) → all_old ps ≡ true → AreGood (row_items f text parts itself ps)
    good_row [] e = tt
    good_row (p ∷ ps) e =
        let b = and_parts (old_piece p) (all_old ps) e in
        good_append (piece_items f text parts itself p) (row_items f text parts itself ps) (good_piece p b.0) (good_row ps b.1)

  good_as_it_is : AreGood (as_it_is f text parts)
  good_as_it_is = good_row [] tt (row_of AS_IT_IS f) (row_is_old AS_IT_IS f)

  good_tree : IsGoodTree (tree_items f text parts)
  good_tree = record { at = λ state. good_row (as_it_is f text parts) good_as_it_is (row_of state f) (row_is_old state f) }

good_trees : (keep : Bool) (f : Forest Form) → AreValid V1993 keep f → AreGoodTrees (written f)
good_trees keep nothing h = tt
good_trees keep (more f text place parts next) h = (good_tree f text (written parts) h.2 (good_trees (keeps_brackets f parts) parts h.4), good_trees keep next h.5)

-- ---- tokens

last : Lexeme
last = lexeme kind.End []

possible_tokens : (items : List Item) → AreGood items → AllByRecursion (IsPossible V1993) (tokens_in items ++ lexeme kind.End [] ∷ [])
possible_tokens [] h = (refl, tt)
possible_tokens (token k text ∷ items) h = (h.0.possible, possible_tokens items h.1)
possible_tokens (end_line ∷ items) h = possible_tokens items h
possible_tokens (inward ∷ items) h = possible_tokens items h
possible_tokens (outward ∷ items) h = possible_tokens items h

not_end : (k : Kind) → is_end k ≡ false → k ≡ kind.End → ⊥
not_end k e q = false≢true (sym e ∙ ap is_end q)

in_front : (t : Lexeme) (ls : List Lexeme) → (t.kind ≡ kind.End → ⊥) → EndsOnce (ls ++ lexeme kind.End [] ∷ []) → EndsOnce (t ∷ ls ++ lexeme kind.End [] ∷ [])
in_front t [] n h = (n, h)
in_front t (l ∷ ls) n h = (n, h)

ends_once : (items : List Item) → AreGood items → EndsOnce (tokens_in items ++ lexeme kind.End [] ∷ [])
ends_once [] h = refl
ends_once (token k text ∷ items) h = in_front (lexeme k text) (tokens_in items) (not_end k h.0.no_end) (ends_once items h.1)
ends_once (end_line ∷ items) h = ends_once items h
ends_once (inward ∷ items) h = ends_once items h
ends_once (outward ∷ items) h = ends_once items h

pub are_possible : ArePossible
are_possible units d = possible_tokens (items_of units) (good_all (written units) (good_trees false units d.are_valid))

pub end_once : EndOnce
end_once units d = ends_once (items_of units) (good_all (written units) (good_trees false units d.are_valid))
