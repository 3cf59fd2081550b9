-- Shapes of derivations are designs.
use Rattle.std.proofs.Common.{◌≡◌, ℕ, zero, suc, ◌+◌, Bool, true, false, ◌&&◌, nat_lt, not, ◌==◌, inl, inr, if◌then◌else◌, List, [], ◌∷◌, ◌++◌, length, drop, Option, Some, None, slice_get, slice_index_or, refl, sym, ap, subst, ◌∙◌, arith, append-nil, append_assoc}
use Rattle.std.specs.List.{AllByRecursion}
use Rattle.std.proofs.lemmas.Bool.{and_parts, or_cases, false≢true}
use Rattle.std.proofs.lemmas.List.{drop-drop, drop_at}
use Rattle.vd_trees.specs.declared.revision.Revision.{Revision}
use Rattle.vd_trees.specs.declared.revision.Revision.TheVariants.{V2019, V1993}
use Rattle.vd_tokens.specs.declared.kinds.Kind.{Kind}
use Rattle.vd_tokens.specs.declared.kinds.Kind.TheVariants as kind
use Rattle.vd_tokens.specs.Lexemes.{Lexeme}
use Rattle.vd_tokens.specs.Spellings.{IsTextOf, IsPossible}
use Rattle.vd_gram.specs.declared.tables.Production.{Production}
use Rattle.vd_gram.specs.declared.tables.Table.{Table}
use Rattle.vd_gram.specs.Claims.{is_terminal, end_symbol}
use Rattle.vd_gram.specs.Derivations.{Trees, nothing as no_tree, leaf, node, yield, Derive}
use Rattle.vd_forest.specs.Forest.{Forest, nothing, more, reversed}
use Rattle.vd_forms.specs.declared.form.Form.{Form}
use Rattle.vd_forms.specs.declared.form.Form.TheVariants as form
use Rattle.vd_forms.specs.Forms.{form_number, same_form, is_among}
use Rattle.vd_forms.specs.Slots.{slots_of, file_slots}
use Rattle.vd_forms.specs.Validity.{forms_of, fits, is_form_of, HasText, is_bracketed, is_one_expression, AreValid}
use Rattle.vd_shapes.specs.declared.actions.Action.{Action}
use Rattle.vd_shapes.specs.declared.actions.Action.TheVariants.{Splice}
use Rattle.vd_shapes.specs.Shapes.{text_in, text_at, leaf_form, action_of, with_leaf, acted, start_of, grown}
use Rattle.vd_shapes.specs.Reading.{symbol_of, symbols_in}
use Rattle.vd_valid_shapes.specs.Effects.{are_covered, Effect, Push, leaf_slots, claimed_effect, effect_of, does_as_claimed, all_do_as_claimed, starts_with_units, makes_valid_trees}
use Rattle.vd_valid_shapes.specs.Laws.{ShapesAreDesigns, ShapesOfShownTablesAreDesigns}
use Rattle.vd_valid_shapes.proofs.SlotLemmas.{same_number, covered, one_fits}
use Rattle.vd_valid_shapes.proofs.EffectLemmas.{stack, forms_reversed, valid_turned, Does, Follow, follow_more, acts, Said}

-- ---- the texts of leaves

-- a tree without parts of this form and this text is valid
record IsLeaf (r : Revision) (f : Form) (text : List ℕ) : Type 0 where
  pub of_revision : is_form_of r f ≡ true
  pub bare : fits (slots_of r f) [] ≡ true
  pub has_text : HasText r f text

same_leaf : (r : Revision) (f g : Form) (text : List ℕ) → Some f ≡ Some g → IsLeaf r f text → IsLeaf r g text
same_leaf r f g text e l = let is : f ≡ g = cc in subst (λ h. IsLeaf r h text) is l

no_leaf : {X : Type 0} (f : Form) (o : Option Form) → o ≡ None → o ≡ Some f → X
no_leaf f o e h = absurd cc

no_mark : (f : Form) (n : ℕ) (b : Bool) → leaf_form (if b then n + 5 else end_symbol) ≡ None
no_mark f n true = let e : n + 5 ≡ suc (suc (suc (suc (suc n)))) = omega arith in ap leaf_form e
no_mark f n false = refl

no_word : (f : Form) (n : ℕ) (b : Bool) → leaf_form (if b then n + 36 else end_symbol) ≡ None
no_word f n true = let e : n + 36 ≡ suc (suc (suc (suc (suc (n + 31))))) = omega arith in ap leaf_form e
no_word f n false = refl

of_either : (r : Revision) (f : Form) → is_form_of V1993 f ≡ true → is_form_of r f ≡ true
of_either V2019 f h = refl
of_either V1993 f h = h

leaf_of_kind : (r : Revision) (k : Kind) (f : Form) (text : List ℕ) → IsTextOf r k text → leaf_form (symbol_of k) ≡ Some f → IsLeaf r f text
leaf_of_kind r kind.Name f text h e =
    same_leaf r form.Identifier f text e (record { of_revision = of_either r form.Identifier refl; bare = refl; has_text = h })
leaf_of_kind r kind.Number f text h e =
    same_leaf r form.Number f text e (record { of_revision = of_either r form.Number refl; bare = refl; has_text = h })
leaf_of_kind r kind.Letter f text h e =
    same_leaf r form.Letter f text e (record { of_revision = of_either r form.Letter refl; bare = refl; has_text = h })
leaf_of_kind r kind.Quoted f text h e =
    same_leaf r form.Quoted f text e (record { of_revision = of_either r form.Quoted refl; bare = refl; has_text = h })
leaf_of_kind r kind.Bits f text h e =
    same_leaf r form.Bits f text e (record { of_revision = of_either r form.Bits refl; bare = refl; has_text = h })
leaf_of_kind r (kind.Mark n) f text h e = no_leaf f (leaf_form (symbol_of (kind.Mark n))) (no_mark f n (nat_lt n 31)) e
leaf_of_kind r (kind.Word n) f text h e = no_leaf f (leaf_form (symbol_of (kind.Word n))) (no_word f n (nat_lt n 115)) e
leaf_of_kind r kind.End f text h e = no_leaf f (leaf_form end_symbol) refl e

-- the token that a symbol is of
record Read (tokens : List Lexeme) (i s : ℕ) : Type 0 where
  pub token : Lexeme
  pub at : slice_get tokens i ≡ Some token
  pub symbol : symbol_of token.kind ≡ s

read_at : (tokens : List Lexeme) (i s : ℕ) (rest : List ℕ) → drop i (symbols_in tokens) ≡ s ∷ rest → Read tokens i s
read_at [] zero s rest e = absurd cc
read_at [] (suc i) s rest e = absurd cc
read_at (t ∷ []) zero s rest e = absurd cc
read_at (t ∷ []) (suc i) s rest e = absurd cc
read_at (t ∷ u ∷ ts) zero s rest e = record { token = t; at = refl; symbol = cc }
read_at (t ∷ u ∷ ts) (suc i) s rest e = let q = read_at (u ∷ ts) i s rest e in record { token = q.token; at = q.at; symbol = q.symbol }

possible_at : (r : Revision) (tokens : List Lexeme) (i : ℕ) (t : Lexeme) → AllByRecursion (IsPossible r) tokens → slice_get tokens i ≡ Some t → IsPossible r t
possible_at r [] i t h e = absurd cc
possible_at r (u ∷ ts) zero t h e = let is : u ≡ t = cc in subst (IsPossible r) is h.0
possible_at r (u ∷ ts) (suc i) t h e = possible_at r ts i t h.1 e

leaf_at : (r : Revision) (tokens : List Lexeme) (i s : ℕ) (rest : List ℕ) → AllByRecursion (IsPossible r) tokens → drop i (symbols_in tokens) ≡ s ∷ rest
    → (f : Form) → leaf_form s ≡ Some f → IsLeaf r f (text_at tokens i)
leaf_at r tokens i s rest possible e f is =
    let q = read_at tokens i s rest e in
    let p : IsTextOf r q.token.kind q.token.text = possible_at r tokens i q.token possible q.at in
    let l : IsLeaf r f q.token.text = leaf_of_kind r q.token.kind f q.token.text p (ap leaf_form q.symbol ∙ is) in
    subst (IsLeaf r f) (sym (ap text_in q.at)) l

-- ---- what is left of the symbols

one_read : (xs : List ℕ) (i s : ℕ) (rest : List ℕ) → drop i xs ≡ s ∷ rest → drop (i + 1) xs ≡ rest
one_read xs i s rest e = sym (drop-drop 1 i xs) ∙ ap (drop 1) e

some_read : (xs : List ℕ) (i : ℕ) (ys rest : List ℕ) → drop i xs ≡ ys ++ rest → drop (i + length ys) xs ≡ rest
some_read xs i ys rest e = sym (drop-drop (length ys) i xs) ∙ (ap (drop (length ys)) e ∙ drop_at ys rest (length ys) refl)

-- ---- the productions of a table

module _ (r : Revision) (t : Table) (effects : List (ℕ × Effect)) where
  does_at : (actions : List Action) (ps : List Production) (k : ℕ) (p : Production) → all_do_as_claimed t effects r actions ps ≡ true → slice_get ps k ≡ Some p
      → does_as_claimed t effects r (effect_of t effects p.left) (slice_index_or actions k Splice) p.right.now ≡ true
  does_at actions [] k p h e = absurd cc
  does_at [] (q ∷ ps) zero p h e =
      let is : q ≡ p = cc in
      subst (λ x. does_as_claimed t effects r (effect_of t effects x.left) Splice x.right.now ≡ true) is
      (and_parts (does_as_claimed t effects r (effect_of t effects q.left) Splice q.right.now) (all_do_as_claimed t effects r [] ps) h).0
  does_at [] (q ∷ ps) (suc k) p h e =
      does_at [] ps k p (and_parts (does_as_claimed t effects r (effect_of t effects q.left) Splice q.right.now) (all_do_as_claimed t effects r [] ps) h).1 e
  does_at (a ∷ actions) (q ∷ ps) zero p h e =
      let is : q ≡ p = cc in
      subst (λ x. does_as_claimed t effects r (effect_of t effects x.left) a x.right.now ≡ true) is
      (and_parts (does_as_claimed t effects r (effect_of t effects q.left) a q.right.now) (all_do_as_claimed t effects r actions ps) h).0
  does_at (a ∷ actions) (q ∷ ps) (suc k) p h e =
      does_at actions ps k p (and_parts (does_as_claimed t effects r (effect_of t effects q.left) a q.right.now) (all_do_as_claimed t effects r actions ps) h).1 e

  module _ (actions : List Action) (tokens : List Lexeme) (holds : all_do_as_claimed t effects r actions t.productions.now ≡ true)
      (possible : AllByRecursion (IsPossible r) tokens) where
    leaf_pushes : (i : ℕ) (o : Option Form) → ((f : Form) → o ≡ Some f → IsLeaf r f (text_at tokens i))
        → Does r (Push (leaf_slots o)) (with_leaf actions tokens o i)
    leaf_pushes i None h = λ x v. record { new = []; stands = sym (append-nil (stack x)); fit = refl; valid = v }
    leaf_pushes i (Some f) h = λ x v.
        let l = h f refl in
        record { new = f ∷ []; stands = refl; fit = one_fits f; valid = (l.of_revision, l.bare, l.has_text, refl, tt, v) }

    terminal : (s : ℕ) → is_terminal t s ≡ true → Push (leaf_slots (leaf_form s)) ≡ effect_of t effects s
    terminal s e = go (is_terminal t s) e
      where
        go : (b : Bool) → b ≡ true → Push (leaf_slots (leaf_form s)) ≡ elim b [ true ↦ Push (leaf_slots (leaf_form s)) | false ↦ claimed_effect effects s ]
        go true e = refl
        go false e = absurd (false≢true e)

    follows : (start i : ℕ) (ss : List ℕ) (f : Trees) (rest : List ℕ) → Derive t ss f → drop i (symbols_in tokens) ≡ yield f ++ rest
        → Follow r t effects actions tokens ss (grown actions tokens start i f)
    follows start i [] no_tree rest d e = λ alone old ss said x s h. record { slots = ss; stand = s; so = h }
    follows start i [] (leaf symbol place next) rest d e = absurd d
    follows start i [] (node k parts next) rest d e = absurd d
    follows start i (y ∷ ss) no_tree rest d e = absurd d
    follows start i (y ∷ ss) (leaf symbol place next) rest (is, same, d) e =
        let pushes : Does r (Push (leaf_slots (leaf_form symbol))) (with_leaf actions tokens (leaf_form symbol) i) =
        leaf_pushes i (leaf_form symbol) (leaf_at r tokens i symbol (yield next ++ rest) possible e) in
        let effect : Push (leaf_slots (leaf_form symbol)) ≡ effect_of t effects y = ap (λ s. Push (leaf_slots (leaf_form s))) same ∙ terminal y is in
        follow_more r t effects actions tokens y ss (with_leaf actions tokens (leaf_form symbol) i) (grown actions tokens start (i + 1) next)
        (subst (λ z. Does r z (with_leaf actions tokens (leaf_form symbol) i)) effect pushes)
        (follows start (i + 1) ss next rest d (one_read (symbols_in tokens) i symbol (yield next ++ rest) e))
    follows start i (y ∷ ss) (node k parts next) rest (p, at, left, dp, d) e =
        let a = action_of actions tokens k in
        let begin = start_of actions tokens a start i in
        let split : drop i (symbols_in tokens) ≡ yield parts ++ (yield next ++ rest) = e ∙ append_assoc (yield parts) (yield next) rest in
        let inner = follows begin i p.right.now parts (yield next ++ rest) dp split in
        let does = acts r t effects actions tokens begin p.right.now (grown actions tokens begin i parts) inner (effect_of t effects p.left) a
        (does_at actions t.productions.now k p holds at) in
        let step = acted actions tokens a begin (grown actions tokens begin i parts) in
        follow_more r t effects actions tokens y ss step (grown actions tokens start (i + length (yield parts)) next)
        (subst (λ s. Does r (effect_of t effects s) step) left does)
        (follows start (i + length (yield parts)) ss next rest d (some_read (symbols_in tokens) i (yield parts) (yield next ++ rest) split))

-- ---- design units

-- brackets are no design unit, so no brackets stand among design units
no_brackets : (f : Form) (parts : Forest Form) → is_among (form.DesignUnit ∷ []) f ≡ true → is_bracketed f parts ≡ false
no_brackets f parts h =
    let number : form_number f ≡ 0 = same_number f form.DesignUnit (among_one h) in
    ap (λ n. (n == 174) && is_one_expression parts) number
  where
    among_one : is_among (form.DesignUnit ∷ []) f ≡ true → same_form f form.DesignUnit ≡ true
    among_one h =
        elim (or_cases (same_form f form.DesignUnit) false h) [
          | inl e ↦ e
          | inr e ↦ absurd (false≢true e)
        ]

units_valid : (r : Revision) (f : Forest Form) → AreValid r true f → fits file_slots (forms_of f) ≡ true → AreValid r false f
units_valid r nothing v h = tt
units_valid r (more f t p parts next) v h =
    let a = and_parts (is_among (form.DesignUnit ∷ []) f) (fits file_slots (forms_of next)) h in
    (v.0, v.1, v.2, ap not (no_brackets f parts a.0), v.4, units_valid r next v.5 a.1)

-- ---- the law

design : (r : Revision) (t : Table) (actions : List Action) (effects : List (ℕ × Effect)) → starts_with_units t effects ≡ true
    → all_do_as_claimed t effects r actions t.productions.now ≡ true → ShapesAreDesigns r t actions
design r t actions effects starts does tokens tree possible derived yields =
    let symbols : drop 0 (symbols_in tokens) ≡ yield tree ++ [] = sym yields ∙ sym (append-nil (yield tree)) in
    let f = grown actions tokens 0 0 tree nothing in
    let q : Said r true [] (λ ss. are_covered ss file_slots) f = follows r t effects actions tokens does possible 0 0 (t.start ∷ []) tree [] derived symbols true [] [] (λ ss. are_covered ss file_slots) nothing
    (record { new = []; is = refl; fit = refl; valid = tt; none = λ e. refl }) starts in
    let units : fits file_slots (stack f) ≡ true = covered q.slots file_slots (stack f) q.so (subst (λ l. fits q.slots l ≡ true) (sym q.stand.is) q.stand.fit) in
    let in_order : fits file_slots (forms_of (reversed f)) ≡ true = subst (λ l. fits file_slots l ≡ true) (sym (forms_reversed f)) units in
    record { are_units = in_order; are_valid = units_valid r (reversed f) (valid_turned r true f nothing q.stand.valid tt) in_order }

pub shapes_are_designs : ShapesOfShownTablesAreDesigns
unfolding makes_valid_trees
shapes_are_designs r t actions effects h =
    let a = and_parts (starts_with_units t effects) (all_do_as_claimed t effects r actions t.productions.now) h in
    design r t actions effects a.0 a.1
