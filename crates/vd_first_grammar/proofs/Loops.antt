-- Loops over tokens.
use Rattle.std.proofs.Common.{◌≡◌, ℕ, ◌+◌, ◌-◌, ◌≤◌, ◌<◌, Bool, true, false, List, [], ◌∷◌, ◌++◌, length, take, drop, get_or, refl, sym, ap, ◌∙◌, append_assoc, arith}
use Rattle.std.specs.Prelude.{map}
use Rattle.std.proofs.Common.{add-one, length-append, drop-cons}
use Rattle.std.proofs.lemmas.List.{take_at, append-nil, drop_all}
use Rattle.vd_first_lex.specs.declared.tokens.Token.{Token}
use Rattle.vd_first_grammar.specs.declared.reader_steps.Expected.{Expected}
use Rattle.vd_first_grammar.specs.declared.reader_steps.Stop.{Stop}
use Rattle.vd_first_grammar.specs.declared.reader_steps.Stop.TheVariants.{Hopeless, Nesting, Memory}
use Rattle.vd_first_grammar.specs.Given.{symbol_of, Fails}
use Rattle.vd_bytes.specs.declared.places.Place.{Place}
use Rattle.vd_forest.specs.Forest.{Forest}
use Rattle.vd_first_trees.specs.declared.form.Form.{Form}
use Rattle.vd_first_grammar.specs.Refusals.{place_of_token}
use Rattle.vd_first_lex.specs.declared.tokens.TheConstants.{AND}
use Rattle.vd_first_grammar.specs.Symbols.{word}
use Rattle.vd_first_grammar.specs.Derivations.{expression_tokens}
use Rattle.vd_first_grammar.proofs.Steps.{token_got, at_got, got_bind, Shortens, token_shorter, repeated_step}
use Rattle.vd_first_grammar.proofs.SoundExpressions.{factor_sound, expression_sound}
use Rattle.vd_first_grammar.proofs.Agreement.{tail_fits}
use Rattle.vd_first_grammar.specs.Reader.{is, Outcome, got, stuck, deep, ◌>>=◌, token_at, spelled_at, begins, repeated_at, factor_at, conjoined_at, chain_at, expression_at}

-- what was read before, and what is still read
abbrev pub with_front : List Token → Outcome (List Token) → Outcome (List Token)
with_front front o = o >>= λ x. got (front ++ x.0, x.1)

pub front_is : (front rest ts : List Token) → front ++ rest ≡ ts → take (length ts - length rest) ts ≡ front
front_is front rest ts parts = rw (← parts) (take_at front rest (length (front ++ rest) - length rest) (omega (arith, length-append front rest)))

-- the front of what was read, and what follows it
abbrev pub front_of : List Token → List Token → List Token
front_of ts rest = take (length ts - length rest) ts

regroup : (front : List Token) (first : Token) (o : Outcome (List Token)) → with_front front (o >>= λ x. got (first ∷ x.0, x.1)) ≡ with_front (front ++ first ∷ []) o
regroup front first (got x) = ap (λ (ts : List Token). got (ts, x.1)) (sym (append_assoc front (first ∷ []) x.0))
regroup front first (stuck rest) = refl
regroup front first (deep rest) = refl

pub token_split : (test : Token → Bool) (ts : List Token) (t : Token) (after : List Token) → token_at test ts ≡ got (t, after) → t ∷ after ≡ ts
token_split test ts t after read = (at_got (token_at test ts) _ (t, after) (token_got test ts) read).1

pub spelled_parts : (ts rest after : List Token) (test : Token → Bool) (t : Token) → front_of ts rest ++ rest ≡ ts → token_at test rest ≡ got (t, after) → front_of ts after ≡ front_of ts rest ++ t ∷ []
spelled_parts ts rest after test t parts read =
    let front = front_of ts rest in
    let split = token_split test rest t after read in
    front_is (front ++ t ∷ []) after ts (append_assoc front (t ∷ []) after ∙ ap (λ (us : List Token). front ++ us) split ∙ parts)

module _ (es : List Expected) (i : ℕ) (d : Expected) (ts rest : List Token) (total : Outcome (List Token)) (within : i < length es)
    (so_far : with_front (front_of ts rest) (spelled_at (map symbol_of (drop i es)) rest) ≡ total) where
  items : drop i es ≡ get_or es i d ∷ drop (i + 1) es
  items = rw add-one (drop-cons es i d within)

  pub spelled_goes : (t : Token) (after : List Token) → front_of ts rest ++ rest ≡ ts → token_at (is (symbol_of (get_or es i d))) rest ≡ got (t, after)
      → with_front (front_of ts after) (spelled_at (map symbol_of (drop (i + 1) es)) after) ≡ total
  unfolding spelled_at
  spelled_goes t after parts read =
      let front = front_of ts rest in
      let others = spelled_at (map symbol_of (drop (i + 1) es)) after in
      let one : with_front front (spelled_at (map symbol_of (drop i es)) rest) ≡ with_front (front ++ t ∷ []) others = rw (items, spelled_at, read) (regroup front t others) in
      ap (λ (f : List Token). with_front f others) (spelled_parts ts rest after (is (symbol_of (get_or es i d))) t parts read) ∙ sym one ∙ so_far

  pub spelled_fails : (e : Stop) → Fails e (token_at (is (symbol_of (get_or es i d))) rest) → Fails e total
  unfolding spelled_at
  spelled_fails (Hopeless r) read = sym so_far ∙ rw (items, spelled_at, read) refl
  spelled_fails (Nesting r) read = sym so_far ∙ rw (items, spelled_at, read) refl
  spelled_fails Memory read = tt

pub spelled_done : (es : List Expected) (i : ℕ) (ts rest : List Token) (total : Outcome (List Token)) → length es ≤ i → with_front (front_of ts rest) (spelled_at (map symbol_of (drop i es)) rest) ≡ total → total ≡ got (front_of ts rest, rest)
unfolding spelled_at
spelled_done es i ts rest total past so_far = sym so_far ∙ rw (drop_all i es past) (ap (λ (f : List Token). got (f, rest)) (append-nil (front_of ts rest)))

pub spelled_kept : (ts rest after : List Token) (test : Token → Bool) (t : Token) → front_of ts rest ++ rest ≡ ts → token_at test rest ≡ got (t, after) → front_of ts after ++ after ≡ ts
spelled_kept ts rest after test t parts read =
    ap (λ (f : List Token). f ++ after) (spelled_parts ts rest after test t parts read)
    ∙ append_assoc (front_of ts rest) (t ∷ []) after ∙ ap (λ (us : List Token). front_of ts rest ++ us) (token_split test rest t after read) ∙ parts

-- ---- rounds of a loop over tokens

module _ {A : Type 0} (test : Token → Bool) (part : A → List Token → Outcome A) (shortens : Shortens part) (a : A) (ts : List Token) where
  pub loop_goes : (x : A × List Token) (total : Outcome A) → begins test ts ≡ true → part a ts ≡ got x → repeated_at test part a ts ≡ total → repeated_at test part x.0 x.1 ≡ total
  loop_goes x total starts read so_far = sym (repeated_step test part shortens a ts ∙ rw (starts, read) refl) ∙ so_far

  pub loop_fails : (e : Stop) (total : Outcome A) → begins test ts ≡ true → Fails e (part a ts) → repeated_at test part a ts ≡ total → Fails e total
  loop_fails (Hopeless r) total starts read so_far = sym so_far ∙ repeated_step test part shortens a ts ∙ rw (starts, read) refl
  loop_fails (Nesting r) total starts read so_far = sym so_far ∙ repeated_step test part shortens a ts ∙ rw (starts, read) refl
  loop_fails Memory total starts read so_far = tt

  pub loop_done : (total : Outcome A) → begins test ts ≡ false → repeated_at test part a ts ≡ total → total ≡ got (a, ts)
  loop_done total stops so_far = sym so_far ∙ repeated_step test part shortens a ts ∙ rw stops refl

  pub loop_shorter : (x : A × List Token) → part a ts ≡ got x → length x.1 < length ts
  loop_shorter x read = at_got (part a ts) _ x (shortens a ts) read

pub conjoined_shortens : (outs : List (List ℕ)) (n : ℕ) (place : Place) → Shortens (conjoined_at outs (expression_at outs n) place)
unfolding conjoined_at
conjoined_shortens outs n place left ts =
    let inner = expression_at outs n in
    got_bind (token_at (is (word AND)) ts) _ _ _ (token_shorter (is (word AND)) ts) (λ x sign.
    got_bind (factor_at outs inner x.1) _ _ _ (factor_sound outs inner (expression_sound outs n) x.1) (λ y right.
    let fits = tail_fits (expression_tokens right.expression) y.1 x.1 right.tokens in omega arith))

-- a chain from its first operand on
pub chain_from : (outs : List (List ℕ)) (inner : List Token → Outcome (Forest Form)) (ts rest : List Token) (place : Place) (left : Forest Form) → place ≡ place_of_token ts 0 → factor_at outs inner ts ≡ got (left, rest) → repeated_at (is (word AND)) (conjoined_at outs inner place) left rest ≡ chain_at outs inner ts
unfolding chain_at
chain_from outs inner ts rest place left place-is read = rw (place-is, read) refl
