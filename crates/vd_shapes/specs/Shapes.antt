-- The syntax tree of a derivation: its shape. Each production says by its action what its part of the derivation becomes among
-- the trees that stand side by side so far.
use Rattle.std.specs.Prelude.{ℕ, zero, suc, ◌+◌, Bool, true, false, List, [], length, Option, Some, None, slice_get, slice_index_or}
use Rattle.vd_bytes.specs.declared.places.Place.{Place}
use Rattle.vd_tokens.specs.Lexemes.{Lexeme}
use Rattle.vd_gram.specs.Derivations.{Trees, nothing as no_tree, leaf, node, yield}
use Rattle.vd_forest.specs.Forest.{Forest, nothing, more, joined, reversed, with_next, no_place}
use Rattle.vd_forms.specs.declared.form.Form.{Form}
use Rattle.vd_forms.specs.declared.form.Form.TheVariants as form
use Rattle.vd_forms.specs.Validity.{is_bracketed, keeps_brackets}
use Rattle.vd_shapes.specs.declared.actions.Action.{Action}
use Rattle.vd_shapes.specs.declared.actions.Action.TheVariants.{Splice, Make, Wrap, Group}

-- ---- the tokens of a text

abbrev pub text_in : Option Lexeme → List ℕ
text_in None = []
text_in (Some t) = t.text

abbrev pub place_in : Option Lexeme → Place
place_in None = no_place
place_in (Some t) = t.place

-- the text and the place of the token with a number
abbrev pub text_at : List Lexeme → ℕ → List ℕ
text_at tokens i = text_in (slice_get tokens i)

abbrev pub place_at : List Lexeme → ℕ → Place
place_at tokens i = place_in (slice_get tokens i)

-- the first five terminals are the kinds of tokens whose texts change
abbrev pub leaf_form : ℕ → Option Form
leaf_form zero = Some form.Identifier
leaf_form (suc zero) = Some form.Number
leaf_form (suc (suc zero)) = Some form.Letter
leaf_form (suc (suc (suc zero))) = Some form.Quoted
leaf_form (suc (suc (suc (suc zero)))) = Some form.Bits
leaf_form (suc (suc (suc (suc (suc n))))) = None

-- ---- brackets

-- brackets round one expression leave no node
abbrev pub without_brackets : Bool → Form → List ℕ → Place → Forest Form → Forest Form → Forest Form
without_brackets true f text place parts next = with_next parts next
without_brackets false f text place parts next = more f text place parts next

abbrev pub unbracketed : Forest Form → Forest Form
unbracketed nothing = nothing
unbracketed (more f text place parts next) = without_brackets (is_bracketed f parts) f text place parts (unbracketed next)

-- but for parents that keep them
abbrev pub settled : Bool → Forest Form → Forest Form
settled true parts = parts
settled false parts = unbracketed parts

-- ---- shapes

module _ (actions : List Action) (tokens : List Lexeme) where
  abbrev pub action_of : ℕ → Action
  action_of production = slice_index_or actions production Splice

  -- a token that the derivation has as a leaf: its tree where its text changes, in front of those so far
  abbrev pub with_leaf : Option Form → ℕ → Forest Form → Forest Form
  with_leaf None i so_far = so_far
  with_leaf (Some f) i so_far = more f (text_at tokens i) (place_at tokens i) nothing so_far

  -- a node of these parts, the last one first, with the place of a token
  abbrev pub with_node : Form → ℕ → Forest Form → Forest Form → Forest Form
  with_node f i parts so_far =
      more f [] (place_at tokens i) (settled (keeps_brackets f (reversed parts)) (reversed parts)) so_far

  -- A splice leaves its trees among those so far. `Make` makes a node of its own trees, `Wrap` one of all that stand there
  -- since the innermost make or group began, and a group has its own trees for such ones until it ends
  abbrev pub acted : Action → ℕ → (Forest Form → Forest Form) → Forest Form → Forest Form
  acted Splice start inner so_far = inner so_far
  acted (Make f) start inner so_far = with_node f start (inner nothing) so_far
  acted (Wrap f) start inner so_far = with_node f start (inner so_far) nothing
  acted Group start inner so_far = joined (inner nothing) so_far

  -- where the innermost make or group began, given where that round it did, and how many tokens stand before
  abbrev pub start_of : Action → ℕ → ℕ → ℕ
  start_of Splice start i = start
  start_of (Make f) start i = i
  start_of (Wrap f) start i = start
  start_of Group start i = i

  -- the trees so far, the last one first, behind those of a derivation. So many tokens stand before it
  abbrev pub grown : ℕ → ℕ → Trees → Forest Form → Forest Form
  grown start i no_tree so_far = so_far
  grown start i (leaf symbol place next) so_far = grown start (i + 1) next (with_leaf (leaf_form symbol) i so_far)
  grown start i (node production parts next) so_far =
      grown start (i + length (yield parts)) next
      (acted (action_of production) (start_of (action_of production) start i) (grown (start_of (action_of production) start i) i parts) so_far)

  -- A node has the place of its first token. One without tokens has that of the token in front of which it stands, and so has
  -- each word that may stand there and doesn't
  abbrev pub shape : Trees → Forest Form
  shape tree = reversed (grown 0 0 tree nothing)
