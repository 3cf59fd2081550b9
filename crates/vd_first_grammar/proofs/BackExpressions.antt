-- The tokens of an expression's derivation are read back to its shape, wherever reading gets through.
use Rattle.std.proofs.Common.{◌≡◌, ℕ, zero, suc, Bool, true, false, List, [], ◌∷◌, ◌++◌, refl, sym, ◌∙◌, subst, append_assoc}
use Rattle.vd_bytes.specs.declared.places.Place.{Place}
use Rattle.vd_forest.specs.Forest.{Forest, nothing, with_next}
use Rattle.vd_first_trees.specs.declared.form.Form.{Form}
use Rattle.vd_first_trees.specs.declared.form.Form.TheVariants as form
use Rattle.vd_first_lex.specs.declared.tokens.Token.{Token}
use Rattle.vd_first_lex.specs.declared.tokens.TheConstants.{AND, NOT, OPENING, CLOSING}
use Rattle.vd_first_grammar.specs.Symbols.{Symbol, word, mark, IsName, Is, Spell}
use Rattle.vd_first_grammar.specs.Derivations.{Expression, name, brackets, inverted, conjoined, primary, factor, whole, IsExpression, expression_tokens}
use Rattle.vd_first_grammar.specs.Shapes.{node, expression_place, expression_shape}
use Rattle.vd_first_grammar.specs.Reader.{is, is_name, is_name_outside, Outcome, got, stuck, deep, ◌>>=◌, token_at, spelled_at, begins, begins_expression, repeated_at, brackets_at, name_at, primary_at, inverted_at, factor_at, conjoined_at, chain_at, expression_at}
use Rattle.vd_first_grammar.proofs.Steps.{OnGot, repeated_step}
use Rattle.vd_first_grammar.proofs.SoundExpressions.{got_if, expression_place_at, with_next_shape}
use Rattle.vd_first_grammar.proofs.Loops.{conjoined_shortens}

-- what is got is this
abbrev pub Gets : {A : Type 0} → Outcome A → A → List Token → Type 0
Gets o v rest = OnGot o (λ y. (y.0 ≡ v) × (y.1 ≡ rest))

pub token_gets : (test : Token → Bool) (t : Token) (ts : List Token) → Gets (token_at test (t ∷ ts)) t ts
unfolding token_at
token_gets test t ts = got_if (test t) (got (t, ts)) (stuck (t ∷ ts)) _ (refl, refl) tt

-- what follows is read with what was got
pub gets_bind : {A B : Type 0} (o : Outcome A) (f : A × List Token → Outcome B) (v : A) (rest : List Token) (P : B × List Token → Type 0) → Gets o v rest → OnGot (f (v, rest)) P → OnGot (o >>= f) P
gets_bind (got x) f v rest P same next = subst (λ (y : _ × List Token). OnGot (f y) P) (go x same) next
  where
    go : (y : _ × List Token) → (y.0 ≡ v) × (y.1 ≡ rest) → (v, rest) ≡ y
    go y h = rw (← h.0, ← h.1) refl
gets_bind (stuck r) f v rest P same next = tt
gets_bind (deep r) f v rest P same next = tt

pub spelled_gets : (ss : List Symbol) (ts rest : List Token) → Spell ss ts → Gets (spelled_at ss (ts ++ rest)) ts rest
unfolding spelled_at
spelled_gets [] [] rest h = (refl, refl)
spelled_gets [] (t ∷ ts) rest h = absurd h
spelled_gets (s ∷ ss) [] rest h = absurd h
spelled_gets (s ∷ ss) (t ∷ ts) rest h =
    gets_bind (token_at (is s) (t ∷ (ts ++ rest))) _ t (ts ++ rest) _ (token_gets (is s) t (ts ++ rest))
    (gets_bind (spelled_at ss (ts ++ rest)) _ ts rest _ (spelled_gets ss ts rest h.1) (refl, refl))

abbrev Back : (List Token → Outcome (Forest Form)) → Type 0
Back inner = (e : Expression) (rest : List Token) → IsExpression whole e → begins (is (word AND)) rest ≡ false → Gets (inner (expression_tokens e ++ rest)) (expression_shape e nothing) rest

module _ (outs : List (List ℕ)) (n : ℕ) (inner_back : Back (expression_at outs n)) where
  abbrev inner : List Token → Outcome (Forest Form)
  inner = expression_at outs n

  name_back : (t : Token) (rest : List Token) → IsName t → Gets (primary_at outs inner (t ∷ rest)) (expression_shape (name t) nothing) rest
  unfolding primary_at name_at
  name_back t rest h =
      let starts : is_name t ≡ true = rw h refl in
      rw (primary_at, starts) (gets_bind (token_at (is_name_outside outs) (t ∷ rest)) _ t rest _ (token_gets (is_name_outside outs) t rest) (refl, refl))

  brackets_back : (o : Token) (e : Expression) (c : Token) (rest : List Token) → Is (mark OPENING) o → IsExpression whole e → Is (mark CLOSING) c → Gets (primary_at outs inner (o ∷ ((expression_tokens e ++ c ∷ []) ++ rest))) (expression_shape e nothing) rest
  unfolding primary_at brackets_at
  brackets_back o e c rest ho he hc =
      let starts : is_name o ≡ false = rw ho refl in
      let stops : begins (is (word AND)) (c ∷ rest) ≡ false = rw hc refl in
      let ts = (expression_tokens e ++ c ∷ []) ++ rest in
      let value : Gets (inner ts) (expression_shape e nothing) (c ∷ rest) = rw append_assoc (inner_back e (c ∷ rest) he stops) in
      rw (primary_at, starts)
      (gets_bind (token_at (is (mark OPENING)) (o ∷ ts)) _ o ts _ (token_gets (is (mark OPENING)) o ts)
      (gets_bind (inner ts) _ (expression_shape e nothing) (c ∷ rest) _ value
      (gets_bind (token_at (is (mark CLOSING)) (c ∷ rest)) _ c rest _ (token_gets (is (mark CLOSING)) c rest) (refl, refl))))

  primary_back : (e : Expression) (rest : List Token) → IsExpression primary e → Gets (primary_at outs inner (expression_tokens e ++ rest)) (expression_shape e nothing) rest
  primary_back (name t) rest h = name_back t rest h
  primary_back (brackets o e c) rest h = brackets_back o e c rest h.0 h.1 h.2
  primary_back (inverted w e) rest h = absurd h
  primary_back (conjoined e w f) rest h = absurd h

  factor_back : (e : Expression) (rest : List Token) → IsExpression factor e → Gets (factor_at outs inner (expression_tokens e ++ rest)) (expression_shape e nothing) rest
  unfolding factor_at inverted_at
  factor_back (name t) rest h = let starts : is (word NOT) t ≡ false = rw h refl in rw (factor_at, starts) (name_back t rest h)
  factor_back (brackets o e c) rest h = let starts : is (word NOT) o ≡ false = rw h.0 refl in rw (factor_at, starts) (brackets_back o e c rest h.0 h.1 h.2)
  factor_back (inverted w e) rest h =
      let starts : is (word NOT) w ≡ true = rw h.0 refl in
      rw (factor_at, starts)
      (gets_bind (token_at (is (word NOT)) (w ∷ (expression_tokens e ++ rest))) _ w (expression_tokens e ++ rest) _ (token_gets (is (word NOT)) w (expression_tokens e ++ rest))
      (gets_bind (primary_at outs inner (expression_tokens e ++ rest)) _ (expression_shape e nothing) rest _ (primary_back e rest h.1) (refl, refl)))
  factor_back (conjoined e w f) rest h = absurd h

  abbrev Rounds : Place → Forest Form → List Token → Outcome (Forest Form)
  Rounds place left rest = repeated_at (is (word AND)) (conjoined_at outs inner place) left rest

  one_factor : (e : Expression) (rest : List Token) (P : Forest Form × List Token → Type 0) → IsExpression factor e → OnGot (Rounds (expression_place e) (expression_shape e nothing) rest) P → OnGot (chain_at outs inner (expression_tokens e ++ rest)) P
  unfolding chain_at
  one_factor e rest P h next =
      gets_bind (factor_at outs inner (expression_tokens e ++ rest)) _ (expression_shape e nothing) rest P (factor_back e rest h)
      (rw (expression_place_at e rest) next)

  chain_back : (e : Expression) (rest : List Token) (P : Forest Form × List Token → Type 0) → IsExpression whole e → OnGot (Rounds (expression_place e) (expression_shape e nothing) rest) P → OnGot (chain_at outs inner (expression_tokens e ++ rest)) P
  unfolding conjoined_at
  chain_back (name t) rest P h next = one_factor (name t) rest P h next
  chain_back (brackets o e c) rest P h next = one_factor (brackets o e c) rest P h next
  chain_back (inverted w e) rest P h next = one_factor (inverted w e) rest P h next
  chain_back (conjoined e w f) rest P h next =
      let place = expression_place e in
      let ts = w ∷ (expression_tokens f ++ rest) in
      let left = expression_shape e nothing in
      let starts : begins (is (word AND)) ts ≡ true = rw h.1 refl in
      let made : node form.And place (with_next left (expression_shape f nothing)) nothing ≡ expression_shape (conjoined e w f) nothing = rw (with_next_shape e (expression_shape f nothing)) refl in
      let one : Gets (conjoined_at outs inner place left ts) (expression_shape (conjoined e w f) nothing) rest =
      gets_bind (token_at (is (word AND)) ts) _ w (expression_tokens f ++ rest) _ (token_gets (is (word AND)) w (expression_tokens f ++ rest))
      (gets_bind (factor_at outs inner (expression_tokens f ++ rest)) _ (expression_shape f nothing) rest _ (factor_back f rest h.2) (made, refl)) in
      let rounds : OnGot (Rounds place left ts) P =
      subst (λ (o : Outcome (Forest Form)). OnGot o P) (sym (repeated_step (is (word AND)) (conjoined_at outs inner place) (conjoined_shortens outs n place) left ts ∙ rw starts refl))
      (gets_bind (conjoined_at outs inner place left ts) (λ x. Rounds place x.0 x.1) (expression_shape (conjoined e w f) nothing) rest P one next) in
      rw append_assoc (chain_back e ts P h.0 rounds)

  whole_back : (e : Expression) (rest : List Token) → IsExpression whole e → begins (is (word AND)) rest ≡ false → Gets (chain_at outs inner (expression_tokens e ++ rest)) (expression_shape e nothing) rest
  whole_back e rest h stops =
      let place = expression_place e in
      let done : Rounds place (expression_shape e nothing) rest ≡ got (expression_shape e nothing, rest) = repeated_step (is (word AND)) (conjoined_at outs inner place) (conjoined_shortens outs n place) (expression_shape e nothing) rest ∙ rw stops refl in
      chain_back e rest _ h (rw done (refl, refl))

pub expression_back : (outs : List (List ℕ)) (n : ℕ) → Back (expression_at outs n)
unfolding expression_at
expression_back outs zero e rest h stops = got_if (begins begins_expression (expression_tokens e ++ rest)) (deep (expression_tokens e ++ rest)) (stuck (expression_tokens e ++ rest)) _ tt tt
expression_back outs (suc n) e rest h stops = whole_back outs n (expression_back outs n) e rest h stops
