-- What is read of an expression step by step is what reading on does with its items.
use Rattle.std.proofs.Common.{◌≡◌, ℕ, zero, suc, ◌+◌, ◌≤◌, Bool, true, false, ltb, List, [], ◌∷◌, refl, sym, ap, ◌∙◌, arith}
use Rattle.std.specs.Prelude.{◌&&◌}
use Rattle.std.proofs.lemmas.Bool.{le-ltb, lt-ltb}
use Rattle.vd_bytes.specs.declared.places.Place.{Place}
use Rattle.vd_forest.specs.Forest.{Forest}
use Rattle.vd_first_trees.specs.declared.form.Form.{Form}
use Rattle.vd_first_lex.specs.declared.tokens.Token.{Token}
use Rattle.vd_first_lex.specs.declared.tokens.TheConstants.{AND, NOT, OPENING, CLOSING}
use Rattle.vd_first_grammar.specs.Symbols.{word, mark}
use Rattle.vd_first_grammar.specs.Derivations.{whole, expression_tokens}
use Rattle.vd_first_grammar.specs.Refusals.{place_of_token}
use Rattle.vd_first_grammar.specs.Reader.{is, is_name, among, Outcome, got, ◌>>=◌, token_at, begins, brackets_at, name_at, primary_at, inverted_at, factor_at, conjoined_at, chain_at, expression_at}
use Rattle.vd_first_grammar.proofs.Machine.{Item, fixed, operand, expression_end, depth, Memory, scan}
use Rattle.vd_first_grammar.proofs.Steps.{bind_assoc, bind_same, got_bind, Shortens, token_shorter, repeated_agrees}
use Rattle.vd_first_grammar.proofs.SoundExpressions.{is_so, expression_sound, Sound, factor_sound}
use Rattle.vd_first_grammar.proofs.Agreement.{scan_fixed, scan_like, scan_opens, token_passes, tail_fits}

module _ (limit : ℕ) (m : Memory) (d : ℕ) (within : d ≤ limit) (inner : List Token → Outcome (Forest Form)) (inner_sound : Sound inner whole)
    (inner_agrees : (js : List Item) (ts : List Token) → scan limit m (operand (d + 1) true ∷ expression_end d CLOSING ∷ js) ts ≡ (inner ts >>= λ x. scan limit m (fixed d (mark CLOSING) ∷ js) x.1)) where
  shallow : ltb limit d ≡ false
  shallow = le-ltb limit d within

  primary_by : (js : List Item) (signed : Bool) (t : Token) (ts : List Token) (named' taken opening : Bool) → is_name t ≡ named' → among m.known.outs t.text ≡ taken → is (mark OPENING) t ≡ opening → signed && is (word NOT) t ≡ false
      → scan limit m (operand d signed ∷ js) (t ∷ ts) ≡ (primary_at m.known.outs inner (t ∷ ts) >>= λ x. scan limit m js x.1)
  unfolding scan primary_at name_at brackets_at token_at
  primary_by js signed t ts true true opening n a o s = rw (scan, n, shallow, a, n) refl
  primary_by js signed t ts true false opening n a o s = rw (scan, n, shallow, a, n) refl
  primary_by js signed t ts false taken true n a o s =
      let items = operand (d + 1) true ∷ expression_end d CLOSING ∷ [] in
      scan_opens limit m (operand d signed) js t ts items (rw (n, o) refl) shallow (rw n refl) refl
      ∙ inner_agrees js ts
      ∙ bind_same (inner ts) _ _ (λ x. scan_fixed limit m d (mark CLOSING) js x.1 within ∙ sym (bind_assoc (token_at (is (mark CLOSING)) x.1) _ _))
      ∙ sym (bind_assoc (inner ts) (λ v. token_at (is (mark CLOSING)) v.1 >>= λ z. got (v.0, z.1)) (λ x. scan limit m js x.1))
      ∙ rw (n, o) refl
  primary_by js signed t ts false taken false n a o s = rw (scan, n, o, s) refl

  scan_primary : (js : List Item) (signed : Bool) (ts : List Token) → signed && begins (is (word NOT)) ts ≡ false → scan limit m (operand d signed ∷ js) ts ≡ (primary_at m.known.outs inner ts >>= λ x. scan limit m js x.1)
  unfolding scan primary_at name_at brackets_at token_at
  scan_primary js signed [] s = refl
  scan_primary js signed (t ∷ ts) s = primary_by js signed t ts (is_name t) (among m.known.outs t.text) (is (mark OPENING) t) refl refl refl s

  factor_by : (js : List Item) (t : Token) (ts : List Token) (sign : Bool) → is (word NOT) t ≡ sign → scan limit m (operand d true ∷ js) (t ∷ ts) ≡ (factor_at m.known.outs inner (t ∷ ts) >>= λ x. scan limit m js x.1)
  unfolding factor_at inverted_at
  factor_by js t ts true s =
      let kind = is_so (word NOT) t s in
      scan_opens limit m (operand d true) js t ts (operand d false ∷ []) (rw kind refl) shallow (rw kind refl) refl
      ∙ scan_primary js false ts refl
      ∙ rw (s, token_passes (is (word NOT)) t ts s) (sym (bind_assoc (primary_at m.known.outs inner ts) _ _))
  factor_by js t ts false s = scan_primary js true (t ∷ ts) s ∙ rw s refl

  scan_factor : (js : List Item) (ts : List Token) → scan limit m (operand d true ∷ js) ts ≡ (factor_at m.known.outs inner ts >>= λ x. scan limit m js x.1)
  unfolding scan factor_at primary_at brackets_at token_at
  scan_factor js [] = refl
  scan_factor js (t ∷ ts) = factor_by js t ts (is (word NOT) t) refl

  conjoined_shorter : (place : Place) → Shortens (conjoined_at m.known.outs inner place)
  unfolding conjoined_at
  conjoined_shorter place left ts =
      got_bind (token_at (is (word AND)) ts) _ _ _ (token_shorter (is (word AND)) ts) (λ x sign.
      got_bind (factor_at m.known.outs inner x.1) _ _ _ (factor_sound m.known.outs inner inner_sound x.1) (λ y right.
      let fits = tail_fits (expression_tokens right.expression) y.1 x.1 right.tokens in omega arith))

  module _ (c : ℕ) (s : ℕ) (is' : List Item) (one_more : c + 1 ≡ d) where
    chain_stop : (left : Forest Form) (ts : List Token) → begins (is (word AND)) ts ≡ false → scan limit m (expression_end c s ∷ is') ts ≡ scan limit m (fixed c (mark s) ∷ is') ts
    unfolding scan
    chain_stop left [] h = refl
    chain_stop left (t ∷ ts) h = scan_like limit m (expression_end c s) (fixed c (mark s)) is' t ts (rw h refl) (rw h refl) refl refl

    chain_go : (place : Place) (left : Forest Form) (ts : List Token) → begins (is (word AND)) ts ≡ true → scan limit m (expression_end c s ∷ is') ts ≡ (conjoined_at m.known.outs inner place left ts >>= λ x. scan limit m (expression_end c s ∷ is') x.1)
    unfolding conjoined_at
    chain_go place left [] h = absurd cc
    chain_go place left (t ∷ ts) h =
        let deeps : ltb limit (depth (expression_end c s) t) ≡ false = rw (h, one_more) shallow in
        scan_opens limit m (expression_end c s) is' t ts (operand (c + 1) true ∷ expression_end c s ∷ []) (rw h refl) deeps refl refl
        ∙ ap (λ k. scan limit m (operand k true ∷ expression_end c s ∷ is') ts) one_more
        ∙ scan_factor (expression_end c s ∷ is') ts
        ∙ rw (token_passes (is (word AND)) t ts h) (sym (bind_assoc (factor_at m.known.outs inner ts) _ _))

    pub scan_chain : (ts : List Token) → scan limit m (operand d true ∷ expression_end c s ∷ is') ts ≡ (chain_at m.known.outs inner ts >>= λ x. scan limit m (fixed c (mark s) ∷ is') x.1)
    unfolding chain_at
    scan_chain ts =
        let place = place_of_token ts 0 in
        scan_factor (expression_end c s ∷ is') ts
        ∙ bind_same (factor_at m.known.outs inner ts) _ _ (λ x.
        repeated_agrees (is (word AND)) (conjoined_at m.known.outs inner place) (conjoined_shorter place) (λ left ts. scan limit m (expression_end c s ∷ is') ts) (λ x. scan limit m (fixed c (mark s) ∷ is') x.1) chain_stop (chain_go place) x.0 x.1)
        ∙ sym (bind_assoc (factor_at m.known.outs inner ts) _ _)

too_deep_by : (limit : ℕ) (m : Memory) (d : ℕ) (js : List Item) (t : Token) (ts : List Token) (f : List Token → Outcome Memory) (n o s : Bool) → ltb limit d ≡ true → is_name t ≡ n → is (mark OPENING) t ≡ o → is (word NOT) t ≡ s
    → scan limit m (operand d true ∷ js) (t ∷ ts) ≡ (expression_at m.known.outs 0 (t ∷ ts) >>= λ x. f x.1)
unfolding scan expression_at
too_deep_by limit m d js t ts f true o s below n-is o-is s-is = rw (scan, n-is, below) refl
too_deep_by limit m d js t ts f false true s below n-is o-is s-is = rw (scan, n-is, o-is, below) refl
too_deep_by limit m d js t ts f false false true below n-is o-is s-is = rw (scan, n-is, o-is, s-is, below) refl
too_deep_by limit m d js t ts f false false false below n-is o-is s-is = rw (scan, n-is, o-is, s-is) refl

pub scan_expression : (limit : ℕ) (m : Memory) (n c s : ℕ) (is' : List Item) (ts : List Token) → n + (c + 1) ≡ limit + 1
    → scan limit m (operand (c + 1) true ∷ expression_end c s ∷ is') ts ≡ (expression_at m.known.outs n ts >>= λ x. scan limit m (fixed c (mark s) ∷ is') x.1)
unfolding expression_at scan
scan_expression limit m zero c s is' [] depth-is = refl
scan_expression limit m zero c s is' (t ∷ ts) depth-is =
    too_deep_by limit m (c + 1) (expression_end c s ∷ is') t ts (λ r. scan limit m (fixed c (mark s) ∷ is') r) (is_name t) (is (mark OPENING) t) (is (word NOT) t) (lt-ltb limit (c + 1) (omega arith)) refl refl refl
scan_expression limit m (suc n) c s is' ts depth-is =
    let inner = expression_at m.known.outs n in
    scan_chain limit m (c + 1) (omega arith) inner (expression_sound m.known.outs n)
    (λ js us. scan_expression limit m n (c + 1) CLOSING js us (omega arith))
    c s is' refl ts
