-- What is read of an expression is derived so, and its tree is the shape of the derivation.
use Rattle.std.proofs.Common.{◌≡◌, ℕ, zero, suc, Bool, true, false, cond, eqb, List, [], ◌∷◌, ◌++◌, refl, sym, ap, ◌∙◌, append_assoc, inl, inr}
use Rattle.std.specs.Prelude.{not}
use Rattle.std.specs.Str.{bytes_eq}
use Rattle.std.proofs.lemmas.Bool.{eqb-true, and_parts, or_cases, not-true}
use Rattle.vd_forest.specs.Forest.{Forest, nothing, with_next}
use Rattle.vd_first_trees.specs.declared.form.Form.{Form}
use Rattle.vd_first_trees.specs.declared.form.Form.TheVariants as form
use Rattle.vd_trees.specs.declared.revision.Revision.{Revision}
use Rattle.vd_trees.specs.declared.revision.Revision.TheVariants.{V2019, V1993}
use Rattle.vd_first_lex.specs.declared.tokens.Kind.{Kind}
use Rattle.vd_first_lex.specs.declared.tokens.Kind.TheVariants.{Name, Word, Mark, End}
use Rattle.vd_first_lex.specs.declared.tokens.Token.{Token}
use Rattle.vd_first_lex.specs.declared.tokens.TheConstants.{AND, IN, NOT, OUT, OPENING, CLOSING}
use Rattle.vd_first_grammar.specs.Symbols.{Symbol, word, mark, named, ending, IsName, Is, Spell}
use Rattle.vd_first_grammar.specs.Derivations.{Expression, name, brackets, inverted, conjoined, Level, primary, factor, whole, IsExpression, expression_tokens, IsMode, IsOptional, optional_tokens}
use Rattle.vd_first_grammar.specs.Refusals.{place_of_token}
use Rattle.vd_first_grammar.specs.Shapes.{node, expression_place, expression_shape}
use Rattle.vd_first_grammar.specs.Reader.{is_word, is_mark, is_named, is_end, is, is_name, is_mode, among, is_name_outside, is_same_name, Outcome, stuck, deep, token_at, spelled_at, begins, optional_at, begins_expression, brackets_at, name_at, primary_at, inverted_at, factor_at, conjoined_at, chain_at, expression_at}
use Rattle.vd_first_grammar.proofs.Steps.{OnGot, got_bind, got_weaker, token_got, repeated_at_kept}

-- ---- what a test says

pub same_bytes : (xs ys : List ℕ) → bytes_eq xs ys ≡ true → xs ≡ ys
same_bytes [] [] h = refl
same_bytes [] (y ∷ ys) h = absurd cc
same_bytes (x ∷ xs) [] h = absurd cc
same_bytes (x ∷ xs) (y ∷ ys) h =
    let parts = and_parts (eqb x y) (bytes_eq xs ys) h in
    let first : x ≡ y = eqb-true x y parts.0 in
    let rest : xs ≡ ys = same_bytes xs ys parts.1 in
    cc

word_of : (n : ℕ) (k : Kind) → is_word n k ≡ true → k ≡ Word n
word_of n (Word j) h = ap (λ (i : ℕ). Word i) (eqb-true j n h)
word_of n Name h = absurd cc
word_of n _ h = absurd cc

mark_of : (n : ℕ) (k : Kind) → is_mark n k ≡ true → k ≡ Mark n
mark_of n (Mark j) h = ap (λ (i : ℕ). Mark i) (eqb-true j n h)
mark_of n Name h = absurd cc
mark_of n _ h = absurd cc

name_of : (k : Kind) → is_named k ≡ true → k ≡ Name
name_of Name h = refl
name_of End h = absurd cc
name_of _ h = absurd cc

end_of : (k : Kind) → is_end k ≡ true → k ≡ End
end_of End h = refl
end_of Name h = absurd cc
end_of _ h = absurd cc

pub is_so : (s : Symbol) (t : Token) → is s t ≡ true → Is s t
is_so (word n) t h = word_of n t.kind h
is_so (mark n) t h = mark_of n t.kind h
is_so (named text) t h = let parts = and_parts (is_named t.kind) (bytes_eq t.text text) h in (name_of t.kind parts.0, same_bytes t.text text parts.1)
is_so ending t h = end_of t.kind h

pub is_name_so : (t : Token) → is_name t ≡ true → IsName t
is_name_so t h = name_of t.kind h

pub is_outside_so : (texts : List (List ℕ)) (t : Token) → is_name_outside texts t ≡ true → IsName t × (among texts t.text ≡ false)
is_outside_so texts t h = let parts = and_parts (is_name t) (not (among texts t.text)) h in (is_name_so t parts.0, not-true _ parts.1)

pub is_same_name_so : (text : List ℕ) (t : Token) → is_same_name text t ≡ true → IsName t
is_same_name_so text t h = is_name_so t (and_parts (is_name t) (bytes_eq t.text text) h).0

pub is_mode_so : (t : Token) → is_mode t ≡ true → IsMode t
is_mode_so t h = elim (or_cases (is (word IN) t) (is (word OUT) t) h) [ inl is_in ↦ inl (is_so (word IN) t is_in) | inr is_out ↦ inr (is_so (word OUT) t is_out) ]

pub spelled_got : (ss : List Symbol) (ts : List Token) → OnGot (spelled_at ss ts) (λ x. Spell ss x.0 × (x.0 ++ x.1 ≡ ts))
unfolding spelled_at
spelled_got [] ts = (tt, refl)
spelled_got (s ∷ ss) ts =
    got_bind (token_at (is s) ts) _ _ _ (token_got (is s) ts) (λ x first.
    got_bind (spelled_at ss x.1) _ _ _ (spelled_got ss x.1) (λ y others.
    ((is_so s x.0 first.0, others.0), ap (λ (r : List Token). x.0 ∷ r) others.1 ∙ first.1)))

pub got_if : {A : Type 0} (b : Bool) (o p : Outcome A) (P : A × List Token → Type 0) → OnGot o P → OnGot p P → OnGot (cond b o p) P
got_if true o p P first second = first
got_if false o p P first second = second

pub optional_sound : (r : Revision) (fits test : Token → Bool) (P : Token → Type 0) → ((t : Token) → test t ≡ true → P t) → (ts : List Token) → OnGot (optional_at r fits test ts) (λ x. IsOptional r P x.0 × (optional_tokens x.0 ++ x.1 ≡ ts))
unfolding optional_at
optional_sound V2019 fits test P so ts = (tt, refl)
optional_sound V1993 fits test P so ts = got_if (begins fits ts) _ _ _ (got_bind (token_at test ts) _ _ _ (token_got test ts) (λ x held. (so x.0 held.0, held.1))) (tt, refl)

-- ---- expressions

pub record ReadsExpression (l : Level) (ts : List Token) (x : Forest Form × List Token) : Type 0 where
  pub expression : Expression
  pub is_expression : IsExpression l expression
  pub tokens : expression_tokens expression ++ x.1 ≡ ts
  pub tree : x.0 ≡ expression_shape expression nothing

abbrev pub Sound : (List Token → Outcome (Forest Form)) → Level → Type 0
Sound read l = (ts : List Token) → OnGot (read ts) (ReadsExpression l ts)

factor_from_primary : (e : Expression) → IsExpression primary e → IsExpression factor e
factor_from_primary (name t) h = h
factor_from_primary (brackets o e c) h = h
factor_from_primary (inverted w e) h = absurd h
factor_from_primary (conjoined e w f) h = absurd h

whole_from_factor : (e : Expression) → IsExpression factor e → IsExpression whole e
whole_from_factor (name t) h = h
whole_from_factor (brackets o e c) h = h
whole_from_factor (inverted w e) h = h
whole_from_factor (conjoined e w f) h = absurd h

-- the place of an expression is that of its first token
pub expression_place_at : (e : Expression) (rest : List Token) → place_of_token (expression_tokens e ++ rest) 0 ≡ expression_place e
expression_place_at (name t) rest = refl
expression_place_at (brackets o e c) rest = refl
expression_place_at (inverted w e) rest = refl
expression_place_at (conjoined e w f) rest = ap (λ (ts : List Token). place_of_token ts 0) (append_assoc (expression_tokens e) (w ∷ expression_tokens f) rest) ∙ expression_place_at e (w ∷ expression_tokens f ++ rest)

-- a shape before other trees
pub with_next_shape : (e : Expression) (next : Forest Form) → with_next (expression_shape e nothing) next ≡ expression_shape e next
with_next_shape (name t) next = refl
with_next_shape (brackets o e c) next = with_next_shape e next
with_next_shape (inverted w e) next = refl
with_next_shape (conjoined e w f) next = refl

name_sound : (outs : List (List ℕ)) → Sound (name_at outs) primary
unfolding name_at
name_sound outs ts = got_bind (token_at (is_name_outside outs) ts) _ _ _ (token_got (is_name_outside outs) ts) (λ x held.
    record { expression = name x.0; is_expression = (is_outside_so outs x.0 held.0).0; tokens = held.1; tree = refl })

module _ (outs : List (List ℕ)) (inner : List Token → Outcome (Forest Form)) (inner_sound : Sound inner whole) where
  brackets_sound : Sound (brackets_at inner) primary
  unfolding brackets_at
  brackets_sound ts =
      got_bind (token_at (is (mark OPENING)) ts) _ _ _ (token_got (is (mark OPENING)) ts) (λ x opening.
      got_bind (inner x.1) _ _ _ (inner_sound x.1) (λ y value.
      got_bind (token_at (is (mark CLOSING)) y.1) _ _ _ (token_got (is (mark CLOSING)) y.1) (λ z closing.
      record {
        expression = brackets x.0 value.expression z.0;
        is_expression = (is_so (mark OPENING) x.0 opening.0, value.is_expression, is_so (mark CLOSING) z.0 closing.0);
        tokens = ap (λ (r : List Token). x.0 ∷ r) (append_assoc (expression_tokens value.expression) (z.0 ∷ []) z.1 ∙ ap (λ (r : List Token). expression_tokens value.expression ++ r) closing.1 ∙ value.tokens) ∙ opening.1;
        tree = value.tree;
      })))

  pub primary_sound : Sound (primary_at outs inner) primary
  unfolding primary_at
  primary_sound ts = got_if (begins is_name ts) _ _ _ (name_sound outs ts) (brackets_sound ts)

  inverted_sound : Sound (inverted_at outs inner) factor
  unfolding inverted_at
  inverted_sound ts =
      got_bind (token_at (is (word NOT)) ts) _ _ _ (token_got (is (word NOT)) ts) (λ x sign.
      got_bind (primary_at outs inner x.1) _ _ _ (primary_sound x.1) (λ y operand.
      record {
        expression = inverted x.0 operand.expression;
        is_expression = (is_so (word NOT) x.0 sign.0, operand.is_expression);
        tokens = ap (λ (r : List Token). x.0 ∷ r) operand.tokens ∙ sign.1;
        tree = ap (λ (f : Forest Form). node form.Not x.0.place f nothing) operand.tree;
      }))

  pub factor_sound : Sound (factor_at outs inner) factor
  unfolding factor_at
  factor_sound ts =
      got_if (begins (is (word NOT)) ts) _ _ _ (inverted_sound ts)
      (got_weaker (primary_at outs inner ts) _ _ (λ x read. record { expression = read.expression; is_expression = factor_from_primary read.expression read.is_expression; tokens = read.tokens; tree = read.tree }) (primary_sound ts))

  conjoined_sound : (ts : List Token) (left : Forest Form) (rest : List Token) → ReadsExpression whole ts (left, rest) → OnGot (conjoined_at outs inner (place_of_token ts 0) left rest) (ReadsExpression whole ts)
  unfolding conjoined_at
  conjoined_sound ts left rest before =
      let e = before.expression in
      got_bind (token_at (is (word AND)) rest) _ _ _ (token_got (is (word AND)) rest) (λ x sign.
      got_bind (factor_at outs inner x.1) _ _ _ (factor_sound x.1) (λ y right.
      let place : place_of_token ts 0 ≡ expression_place e = ap (λ (ks : List Token). place_of_token ks 0) (sym before.tokens) ∙ expression_place_at e rest in
      let parts : with_next left y.0 ≡ expression_shape e (expression_shape right.expression nothing) = rw (before.tree, right.tree) (with_next_shape e (expression_shape right.expression nothing)) in
      record {
        expression = conjoined e x.0 right.expression;
        is_expression = (before.is_expression, is_so (word AND) x.0 sign.0, right.is_expression);
        tokens = append_assoc (expression_tokens e) (x.0 ∷ expression_tokens right.expression) y.1 ∙ ap (λ (r : List Token). expression_tokens e ++ r) (ap (λ (r : List Token). x.0 ∷ r) right.tokens ∙ sign.1) ∙ before.tokens;
        tree = rw (place, parts) refl;
      }))

  pub chain_sound : Sound (chain_at outs inner) whole
  unfolding chain_at
  chain_sound ts =
      got_bind (factor_at outs inner ts) _ _ _ (factor_sound ts) (λ x first.
      repeated_at_kept (is (word AND)) (conjoined_at outs inner (place_of_token ts 0)) (λ a r. ReadsExpression whole ts (a, r)) (λ a r held. conjoined_sound ts a r held) x.0 x.1
      (record { expression = first.expression; is_expression = whole_from_factor first.expression first.is_expression; tokens = first.tokens; tree = first.tree }))

pub expression_sound : (outs : List (List ℕ)) (n : ℕ) → Sound (expression_at outs n) whole
unfolding expression_at
expression_sound outs zero ts = got_if (begins begins_expression ts) (deep ts) (stuck ts) _ tt tt
expression_sound outs (suc n) ts = chain_sound outs (expression_at outs n) (expression_sound outs n) ts
