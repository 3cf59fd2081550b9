-- Reading on through the tokens of an expression's derivation.
use Rattle.std.proofs.Common.{◌≡◌, ℕ, ◌+◌, Bool, true, false, List, [], ◌∷◌, ◌++◌, Some, refl, ap, ◌∙◌, append_assoc, eq-eqb}
use Rattle.std.specs.Prelude.{◌&&◌, not}
use Rattle.std.specs.Str.{bytes_eq}
use Rattle.vd_first_lex.specs.declared.tokens.Token.{Token}
use Rattle.vd_first_lex.specs.declared.tokens.TheConstants.{CLOSING}
use Rattle.vd_first_grammar.specs.Symbols.{Symbol, word, mark, named, ending, Is}
use Rattle.vd_first_grammar.specs.Derivations.{Expression, name, brackets, inverted, conjoined, Level, primary, factor, whole, IsExpression, expression_tokens}
use Rattle.vd_first_grammar.specs.Conditions.{expression_depths}
use Rattle.vd_first_grammar.specs.Reader.{is, among}
use Rattle.vd_first_grammar.proofs.Machine.{Item, operand, expression_end, opened, depth, Memory, remember, meets, Run, before, run}

-- ---- tests

pub bytes_eq_same : (xs : List ℕ) → bytes_eq xs xs ≡ true
bytes_eq_same [] = refl
bytes_eq_same (x ∷ xs) = rw (eq-eqb x x refl) (bytes_eq_same xs)

pub is_from : (s : Symbol) (t : Token) → Is s t → is s t ≡ true
is_from (word n) t h = rw h (eq-eqb n n refl)
is_from (mark n) t h = rw h (eq-eqb n n refl)
is_from (named text) t h = rw (h.0, h.1) (bytes_eq_same text)
is_from ending t h = rw h refl

-- ---- one token

and_assoc : (a b c : Bool) → (a && b) && c ≡ a && (b && c)
and_assoc true b c = refl
and_assoc false b c = refl

pub before_before : (ds es : List ℕ) (a b : Bool) (r : Run) → before ds a (before es b r) ≡ before (ds ++ es) (a && b) r
before_before ds es a b r = rw (append_assoc, and_assoc) refl

pub run_step : (m : Memory) (i : Item) (is' : List Item) (t : Token) (ts : List Token) (body : List Item) → opened i t ≡ Some body → run m (i ∷ is') (t ∷ ts) ≡ before (depth i t ∷ []) (meets m i t) (run (remember m i t) (body ++ is') ts)
unfolding run
run_step m i is' t ts body h = rw (run, h) refl

-- the same, with what is computed
pub run_token : (m n : Memory) (i : Item) (is' : List Item) (t : Token) (ts : List Token) (body : List Item) (d : ℕ) (b : Bool) → opened i t ≡ Some body → depth i t ≡ d → meets m i t ≡ b → remember m i t ≡ n → run m (i ∷ is') (t ∷ ts) ≡ before (d ∷ []) b (run n (body ++ is') ts)
run_token m n i is' t ts body d b opens deep fair after = rw (run_step m i is' t ts body opens, deep, fair, after) refl

-- ---- expressions

abbrev pub may_be_signed : Level → Bool
may_be_signed primary = false
may_be_signed factor = true
may_be_signed whole = true

-- a whole expression stands before the item that may go on with it
abbrev pub Suits : Level → ℕ → List Item → Type 0
Suits whole d is' = (c : ℕ) × (s : ℕ) × (rest : List Item) × (d ≡ c + 1) × (is' ≡ expression_end c s ∷ rest)
Suits _ d is' = Unit {0}

-- no name of the expression is that of an `out` port
abbrev pub fair_expression : List (List ℕ) → Expression → Bool
fair_expression outs (name t) = not (among outs t.text)
fair_expression outs (brackets o e c) = fair_expression outs e
fair_expression outs (inverted w e) = fair_expression outs e
fair_expression outs (conjoined e w f) = fair_expression outs e && fair_expression outs f

after_brackets : (d : ℕ) (ds : List ℕ) (b : Bool) (r : Run) → before (d ∷ []) true (before ds b (before (d ∷ []) true r)) ≡ before (d ∷ ds ++ d ∷ []) b r
after_brackets d ds b r = rw append_assoc refl

after_sign : (d : ℕ) (ds es : List ℕ) (a b : Bool) (r : Run) → before ds a (before (d ∷ []) true (before es b r)) ≡ before (ds ++ d ∷ es) (a && b) r
after_sign d ds es a b r = rw (append_assoc, and_assoc) refl

pub run_expression : (l : Level) (e : Expression) (m : Memory) (d : ℕ) (is' : List Item) (rest : List Token) → IsExpression l e → Suits l d is'
    → run m (operand d (may_be_signed l) ∷ is') (expression_tokens e ++ rest) ≡ before (expression_depths d e) (fair_expression m.known.outs e) (run m is' rest)
run_expression l (name t) m d is' rest h suits =
    run_token m m (operand d (may_be_signed l)) is' t rest [] d (not (among m.known.outs t.text)) (rw h refl) refl (rw h refl) refl
run_expression l (brackets o e c) m d is' rest h suits =
    let opening = run_token m m (operand d (may_be_signed l)) is' o ((expression_tokens e ++ c ∷ []) ++ rest) (operand (d + 1) true ∷ expression_end d CLOSING ∷ []) d true (rw h.0 refl) refl (rw h.0 refl) refl in
    let inner = run_expression whole e m (d + 1) (expression_end d CLOSING ∷ is') (c ∷ rest) h.1 (d, CLOSING, is', refl, refl) in
    let closing = run_token m m (expression_end d CLOSING) is' c rest [] d true (rw h.2 refl) (rw h.2 refl) refl refl in
    opening
    ∙ ap (before (d ∷ []) true) (ap (run m (operand (d + 1) true ∷ expression_end d CLOSING ∷ is')) (append_assoc (expression_tokens e) (c ∷ []) rest) ∙ inner ∙ ap (before (expression_depths (d + 1) e) (fair_expression m.known.outs e)) closing)
    ∙ after_brackets d (expression_depths (d + 1) e) (fair_expression m.known.outs e) (run m is' rest)
run_expression primary (inverted w e) m d is' rest h suits = absurd h
run_expression primary (conjoined e w f) m d is' rest h suits = absurd h
run_expression factor (conjoined e w f) m d is' rest h suits = absurd h
run_expression factor (inverted w e) m d is' rest h suits =
    let sign = run_token m m (operand d true) is' w (expression_tokens e ++ rest) (operand d false ∷ []) d true (rw h.0 refl) refl (rw h.0 refl) refl in
    let inner = run_expression primary e m d is' rest h.1 tt in
    sign ∙ ap (before (d ∷ []) true) inner
run_expression whole (inverted w e) m d is' rest h suits =
    let sign = run_token m m (operand d true) is' w (expression_tokens e ++ rest) (operand d false ∷ []) d true (rw h.0 refl) refl (rw h.0 refl) refl in
    let inner = run_expression primary e m d is' rest h.1 tt in
    sign ∙ ap (before (d ∷ []) true) inner
run_expression whole (conjoined e w f) m d is' rest h suits =
    let c = suits.0 in let s = suits.1 in let after = suits.2 in
    let left = run_expression whole e m d is' (w ∷ (expression_tokens f ++ rest)) h.0 suits in
    let sign = run_token m m (expression_end c s) after w (expression_tokens f ++ rest) (operand (c + 1) true ∷ expression_end c s ∷ []) (c + 1) true (rw h.1 refl) (rw h.1 refl) refl refl in
    let here : run m is' (w ∷ (expression_tokens f ++ rest)) ≡ before (d ∷ []) true (run m (operand d true ∷ is') (expression_tokens f ++ rest)) = rw (suits.3, suits.4) sign in
    let right = run_expression factor f m d is' rest h.2 tt in
    ap (run m (operand d true ∷ is')) (append_assoc (expression_tokens e) (w ∷ expression_tokens f) rest)
    ∙ left
    ∙ ap (before (expression_depths d e) (fair_expression m.known.outs e)) (here ∙ ap (before (d ∷ []) true) right)
    ∙ after_sign d (expression_depths d e) (expression_depths d f) (fair_expression m.known.outs e) (fair_expression m.known.outs f) (run m is' rest)
