-- The tokens of a tree, by the bits of its row.
use Rattle.std.proofs.Common.{◌≡◌, ℕ, Bool, true, false, nat_eq, List, [], ◌∷◌, ◌++◌, drop, slice_index_or, refl, sym, ap, ◌∙◌, append_assoc, append-nil, arith}
use Rattle.vd_tokens.specs.Lexemes.{Lexeme}
use Rattle.vd_forms.specs.declared.form.Form.{Form}
use Rattle.vd_forms.specs.Validity.{leaf_kind}
use Rattle.vd_templates.specs.declared.pieces.Piece.{Piece}
use Rattle.vd_templates.specs.declared.pieces.Piece.TheVariants.{Of, AnyOther, Token, Own, Itself, Part, Listed, Parts, Nothing, EndLine, Inward, Outward}
use Rattle.vd_templates.specs.declared.states.TheConstants.{AS_IT_IS}
use Rattle.vd_templates.specs.Templates.{Item, token, end_line, inward, outward, Written, unwritten, own, all_written, all_listed, row_items, piece_items, as_it_is, tree_items, row_of, kind_at, lexeme, tokens_in}
use Rattle.vd_templates.proofs.RowLemmas.{in_its_state}
use Rattle.vd_derivations.specs.Drafts.{Draft, lexemes}
use Rattle.vd_derivations.specs.Checks.{Bit, token_bit, own_bit, part_bit, parts_bit, self_bit, rest_bit, bits_with, bits_of, bits_round, bits_within, bits_opened}

pub tokens_append : (a b : List Item) → tokens_in (a ++ b) ≡ tokens_in a ++ tokens_in b
tokens_append [] b = refl
tokens_append (token k text ∷ a) b = ap (λ ls. lexeme k text ∷ ls) (tokens_append a b)
tokens_append (end_line ∷ a) b = tokens_append a b
tokens_append (inward ∷ a) b = tokens_append a b
tokens_append (outward ∷ a) b = tokens_append a b

abbrev pub words : List ℕ → List Lexeme
words [] = []
words (n ∷ ns) = lexeme (kind_at n) [] ∷ words ns

-- trees as they are, with separators in front of each
abbrev pub each_tokens : List ℕ → List Written → List Lexeme
each_tokens sep [] = []
each_tokens sep (w ∷ ws) = words sep ++ (tokens_in (w AS_IT_IS) ++ each_tokens sep ws)

module _ (f : Form) (text : List ℕ) (parts : List Written) (k : Draft) where
  abbrev pub bit_tokens : Bit → List Lexeme
  bit_tokens (token_bit n) = lexeme (kind_at n) [] ∷ []
  bit_tokens (own_bit o) = tokens_in (own o text)
  bit_tokens (part_bit i s) = tokens_in (slice_index_or parts i unwritten s)
  bit_tokens (parts_bit j sep) = each_tokens sep (drop j parts)
  bit_tokens (self_bit s) = tokens_in (tree_items f text parts s)
  bit_tokens rest_bit = lexemes k

  abbrev pub bits_tokens : List Bit → List Lexeme
  bits_tokens [] = []
  bits_tokens (b ∷ bs) = bit_tokens b ++ bits_tokens bs

  pub bits_append : (a b : List Bit) → bits_tokens (a ++ b) ≡ bits_tokens a ++ bits_tokens b
  bits_append [] b = refl
  bits_append (x ∷ a) b = ap (λ ls. bit_tokens x ++ ls) (bits_append a b) ∙ sym (append_assoc (bit_tokens x) (bits_tokens a) (bits_tokens b))

  pub all_tokens : (ws : List Written) → tokens_in (all_written ws) ≡ each_tokens [] ws
  all_tokens [] = refl
  all_tokens (w ∷ ws) = tokens_append (w AS_IT_IS) (all_written ws) ∙ ap (λ ls. tokens_in (w AS_IT_IS) ++ ls) (all_tokens ws)

  listed_tokens : (n : ℕ) (ws : List Written) → tokens_in (all_listed n ws) ≡ each_tokens (n ∷ []) ws
  listed_tokens n [] = refl
  listed_tokens n (w ∷ ws) =
      ap (λ ls. lexeme (kind_at n) [] ∷ ls) (tokens_append (w AS_IT_IS) (all_listed n ws) ∙ ap (λ ls. tokens_in (w AS_IT_IS) ++ ls) (listed_tokens n ws))

  module _ (itself : List Item) (bits : List Bit) (same : tokens_in itself ≡ bits_tokens bits) where
    -- a piece in front
    first : (p : Piece) (ps : List Piece) (ls : List Lexeme) → tokens_in (piece_items f text parts itself p) ≡ ls → tokens_in (row_items f text parts itself ps) ≡ bits_tokens (bits_with f bits ps)
        → tokens_in (row_items f text parts itself (p ∷ ps)) ≡ ls ++ bits_tokens (bits_with f bits ps)
    first p ps ls e h =
        tokens_append (piece_items f text parts itself p) (row_items f text parts itself ps)
        ∙ ap (λ xs. xs ++ tokens_in (row_items f text parts itself ps)) e ∙ ap (λ xs. ls ++ xs) h

    pub row_tokens : (ps : List Piece) → tokens_in (row_items f text parts itself ps) ≡ bits_tokens (bits_with f bits ps)
    row_tokens [] = refl
    row_tokens (Of s g ∷ ps) = row_tokens ps
    row_tokens (AnyOther s ∷ ps) = row_tokens ps
    row_tokens (Token n ∷ ps) = first (Token n) ps (lexeme (kind_at n) [] ∷ []) refl (row_tokens ps)
    row_tokens (Own ∷ ps) = first Own ps (tokens_in (own (leaf_kind f) text)) refl (row_tokens ps)
    row_tokens (Itself ∷ ps) = first Itself ps (bits_tokens bits) same (row_tokens ps) ∙ sym (bits_append bits (bits_with f bits ps))
    row_tokens (Part i s ∷ ps) = first (Part i s) ps (tokens_in (slice_index_or parts i unwritten s)) refl (row_tokens ps)
    row_tokens (Listed j n ∷ ps) = first (Listed j n) ps (each_tokens (n ∷ []) (drop j parts)) (listed_tokens n (drop j parts)) (row_tokens ps)
    row_tokens (Parts j ∷ ps) = first (Parts j) ps (each_tokens [] (drop j parts)) (all_tokens (drop j parts)) (row_tokens ps)
    row_tokens (Nothing ∷ ps) = row_tokens ps
    row_tokens (EndLine ∷ ps) = row_tokens ps
    row_tokens (Inward ∷ ps) = row_tokens ps
    row_tokens (Outward ∷ ps) = row_tokens ps

  as_bits : tokens_in (as_it_is f text parts) ≡ bits_tokens (bits_with f [] (row_of AS_IT_IS f))
  as_bits = row_tokens [] [] refl (row_of AS_IT_IS f)

  number_is : (m n : ℕ) → nat_eq m n ≡ true → m ≡ n
  number_is m n e = grind arith

  -- what is written of the tree in a state
  pub tree_tokens : (state : ℕ) → tokens_in (tree_items f text parts state) ≡ bits_tokens (bits_of state f)
  tree_tokens state = go (nat_eq state AS_IT_IS) refl
    where
      go : (b : Bool) → nat_eq state AS_IT_IS ≡ b → tokens_in (tree_items f text parts state)
          ≡ bits_tokens (elim b [ true ↦ bits_with f [] (row_of AS_IT_IS f) | false ↦ bits_with f (bits_with f [] (row_of AS_IT_IS f)) (row_of state f) ])
      go true e = ap (λ q. tokens_in (tree_items f text parts q)) (number_is state AS_IT_IS e) ∙ ap tokens_in (in_its_state f text parts) ∙ as_bits
      go false e = row_tokens (as_it_is f text parts) (bits_with f [] (row_of AS_IT_IS f)) as_bits (row_of state f)

  self_bits : tokens_in (as_it_is f text parts) ≡ bits_tokens (self_bit AS_IT_IS ∷ [])
  self_bits = ap tokens_in (sym (in_its_state f text parts)) ∙ sym (append-nil (tokens_in (tree_items f text parts AS_IT_IS)))

  round_tokens : (state : ℕ) → tokens_in (tree_items f text parts state) ≡ bits_tokens (bits_round state f)
  round_tokens state = go (nat_eq state AS_IT_IS) refl
    where
      go : (b : Bool) → nat_eq state AS_IT_IS ≡ b → tokens_in (tree_items f text parts state)
          ≡ bits_tokens (elim b [ true ↦ self_bit AS_IT_IS ∷ [] | false ↦ bits_with f (self_bit AS_IT_IS ∷ []) (row_of state f) ])
      go true e = ap (λ q. tokens_in (tree_items f text parts q)) (number_is state AS_IT_IS e) ∙ sym (append-nil (tokens_in (tree_items f text parts AS_IT_IS)))
      go false e = row_tokens (as_it_is f text parts) (self_bit AS_IT_IS ∷ []) self_bits (row_of state f)

  pub within_tokens : (kept state : ℕ) → tokens_in (tree_items f text parts state) ≡ bits_tokens (bits_within kept state f)
  within_tokens kept state = go (nat_eq state kept)
    where
      go : (b : Bool) → tokens_in (tree_items f text parts state) ≡ bits_tokens (elim b [ true ↦ self_bit state ∷ [] | false ↦ bits_round state f ])
      go true = sym (append-nil (tokens_in (tree_items f text parts state)))
      go false = round_tokens state

  pub opened_tokens : (kept : ℕ) (bs : List Bit) → bits_tokens (bits_opened kept f bs) ≡ bits_tokens bs
  opened_tokens kept [] = refl
  opened_tokens kept (token_bit n ∷ bs) = ap (λ ls. bit_tokens (token_bit n) ++ ls) (opened_tokens kept bs)
  opened_tokens kept (own_bit o ∷ bs) = ap (λ ls. bit_tokens (own_bit o) ++ ls) (opened_tokens kept bs)
  opened_tokens kept (part_bit i q ∷ bs) = ap (λ ls. bit_tokens (part_bit i q) ++ ls) (opened_tokens kept bs)
  opened_tokens kept (parts_bit j sep ∷ bs) = ap (λ ls. bit_tokens (parts_bit j sep) ++ ls) (opened_tokens kept bs)
  opened_tokens kept (self_bit q ∷ bs) =
      bits_append (bits_within kept q f) (bits_opened kept f bs)
      ∙ ap (λ ls. ls ++ bits_tokens (bits_opened kept f bs)) (sym (within_tokens kept q)) ∙ ap (λ ls. tokens_in (tree_items f text parts q) ++ ls) (opened_tokens kept bs)
  opened_tokens kept (rest_bit ∷ bs) = ap (λ ls. bit_tokens rest_bit ++ ls) (opened_tokens kept bs)
