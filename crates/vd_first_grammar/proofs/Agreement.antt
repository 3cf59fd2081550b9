-- What is read step by step is what reading on does with the items of the same production.
use Rattle.std.proofs.Common.{◌≡◌, ℕ, ◌≤◌, Bool, true, false, cond, ltb, List, [], ◌∷◌, ◌++◌, length, Option, Some, None, refl, sym, ap, ◌∙◌, arith}
use Rattle.std.specs.Prelude.{if◌then◌else◌, ◌&&◌}
use Rattle.std.proofs.lemmas.Bool.{le-ltb}
use Rattle.std.proofs.Math.Bool.{and-true}
use Rattle.std.proofs.lemmas.List.{length-append}
use Rattle.std.specs.Str.{bytes_eq}
use Rattle.vd_forest.specs.Forest.{Forest, nothing}
use Rattle.vd_first_trees.specs.declared.form.Form.{Form}
use Rattle.vd_trees.specs.declared.revision.Revision.{Revision}
use Rattle.vd_trees.specs.declared.revision.Revision.TheVariants.{V2019, V1993}
use Rattle.vd_first_lex.specs.declared.tokens.Token.{Token}
use Rattle.vd_first_lex.specs.declared.tokens.TheConstants.{ALL, BEGIN, IS, CLOSING, COMMA, COLON, SEMICOLON}
use Rattle.vd_first_grammar.specs.Symbols.{Symbol, word, mark, named}
use Rattle.vd_first_grammar.specs.Derivations.{std_ulogic, port_tokens}
use Rattle.vd_first_grammar.specs.Reader.{is, is_name, is_mode, is_name_outside, is_same_name, Outcome, got, stuck, deep, ◌>>=◌, token_at, spelled_at, begins, optional_at, repeated_at, NamesRead, with_name, further_name_at, names_at, Known, with_port, PortsRead, port_at, further_port_at, ports_at, name_tree, further_listed_at, listed_at, every_at, sensitivity_at}
use Rattle.vd_first_grammar.proofs.Machine.{Item, fixed, fixed_all, port_name, next_port_name, names_end, mode, ports_end, port_items, unit_end, listed_name, listed_end, process_begin, sensitivity_items, begin_item, closing_item, opened, depth, Memory, remember, unit_name, meets, scan}
use Rattle.vd_first_grammar.proofs.Steps.{bind_assoc, bind_same, got_bind, got_weaker, Shortens, token_shorter, repeated_agrees}
use Rattle.vd_first_grammar.proofs.SoundPorts.{port_sound}

-- ---- one token

module _ (limit : ℕ) (m : Memory) (i : Item) (is' : List Item) (fit test : Token → Bool)
    (opens : (t : Token) → opened i t ≡ cond (fit t) (Some []) None)
    (shallow : (t : Token) → ltb limit (depth i t) ≡ false)
    (tests : (t : Token) → fit t && meets m i t ≡ test t) where
  scan_by : (t : Token) (ts : List Token) (b c : Bool) → fit t ≡ b → meets m i t ≡ c → scan limit m (i ∷ is') (t ∷ ts) ≡ (token_at test (t ∷ ts) >>= λ x. scan limit (remember m i x.0) is' x.1)
  unfolding scan token_at
  scan_by t ts true true fits holds = let passes : test t ≡ true = sym (tests t) ∙ rw (fits, holds) refl in rw (scan, opens t, fits, shallow t, holds, passes) refl
  scan_by t ts true false fits holds = let passes : test t ≡ false = sym (tests t) ∙ rw (fits, holds) refl in rw (scan, opens t, fits, shallow t, holds, passes) refl
  scan_by t ts false c fits holds = let passes : test t ≡ false = sym (tests t) ∙ rw fits refl in rw (scan, opens t, fits, passes) refl

  pub scan_one : (ts : List Token) → scan limit m (i ∷ is') ts ≡ (token_at test ts >>= λ x. scan limit (remember m i x.0) is' x.1)
  unfolding scan token_at
  scan_one [] = refl
  scan_one (t ∷ ts) = scan_by t ts (fit t) (meets m i t) refl refl

pub scan_fixed : (limit : ℕ) (m : Memory) (d : ℕ) (s : Symbol) (is' : List Item) (ts : List Token) → d ≤ limit → scan limit m (fixed d s ∷ is') ts ≡ (token_at (is s) ts >>= λ x. scan limit m is' x.1)
scan_fixed limit m d s is' ts within = scan_one limit m (fixed d s) is' (is s) (is s) (λ t. refl) (λ t. le-ltb limit d within) (λ t. and-true (is s t)) ts

pub scan_spelled : (limit : ℕ) (m : Memory) (d : ℕ) (ss : List Symbol) (is' : List Item) (ts : List Token) → d ≤ limit → scan limit m (fixed_all d ss ++ is') ts ≡ (spelled_at ss ts >>= λ x. scan limit m is' x.1)
unfolding spelled_at
scan_spelled limit m d [] is' ts within = refl
scan_spelled limit m d (s ∷ ss) is' ts within =
    scan_fixed limit m d s (fixed_all d ss ++ is') ts within
    ∙ bind_same (token_at (is s) ts) _ _ (λ x. scan_spelled limit m d ss is' x.1 within ∙ sym (bind_assoc (spelled_at ss x.1) (λ others. got (x.0 ∷ others.0, others.1)) (λ x. scan limit m is' x.1)))
    ∙ sym (bind_assoc (token_at (is s) ts) _ _)

next_step : ℕ → Option (List Item) → ℕ → Bool → Memory → List Item → Token → List Token → Outcome Memory
next_step limit None d holds m is' t ts = stuck (t ∷ ts)
next_step limit (Some body) d holds m is' t ts = if ltb limit d then deep (t ∷ ts) else (if holds then scan limit m (body ++ is') ts else stuck (t ∷ ts))

scan_is : (limit : ℕ) (m : Memory) (i : Item) (is' : List Item) (t : Token) (ts : List Token) → scan limit m (i ∷ is') (t ∷ ts) ≡ next_step limit (opened i t) (depth i t) (meets m i t) (remember m i t) is' t ts
unfolding scan next_step
scan_is limit m i is' t ts = go (opened i t) refl
  where
    go : (o : Option (List Item)) → opened i t ≡ o → scan limit m (i ∷ is') (t ∷ ts) ≡ next_step limit o (depth i t) (meets m i t) (remember m i t) is' t ts
    go None opens = rw (scan, opens) refl
    go (Some body) opens = rw (scan, opens) refl

-- an item at a token that it does what another does at
pub scan_like : (limit : ℕ) (m : Memory) (i j : Item) (is' : List Item) (t : Token) (ts : List Token) → opened i t ≡ opened j t → depth i t ≡ depth j t → meets m i t ≡ meets m j t → remember m i t ≡ remember m j t → scan limit m (i ∷ is') (t ∷ ts) ≡ scan limit m (j ∷ is') (t ∷ ts)
scan_like limit m i j is' t ts opens deeps holds after =
    let first = scan_is limit m i is' t ts in
    let second = scan_is limit m j is' t ts in
    cc

-- a token that opens an item, where nothing is asked of it
pub scan_opens : (limit : ℕ) (m : Memory) (i : Item) (is' : List Item) (t : Token) (ts : List Token) (body : List Item) → opened i t ≡ Some body → ltb limit (depth i t) ≡ false → meets m i t ≡ true → remember m i t ≡ m → scan limit m (i ∷ is') (t ∷ ts) ≡ scan limit m (body ++ is') ts
unfolding scan
scan_opens limit m i is' t ts body opens shallow holds after = rw (scan, opens, shallow, holds, after) refl

-- the token that a test lets through
pub token_passes : (test : Token → Bool) (t : Token) (ts : List Token) → test t ≡ true → token_at test (t ∷ ts) ≡ got (t, ts)
unfolding token_at
token_passes test t ts passes = rw (token_at, passes) refl

-- ---- names

-- what is remembered behind some names of a port
abbrev pub names_memory : Memory → NamesRead → Memory
names_memory m s = record m { known = record m.known { taken = s.taken }; texts = s.texts }

pub further_name_shorter : Shortens further_name_at
unfolding further_name_at
further_name_shorter s ts =
    got_bind (token_at (is (mark COMMA)) ts) _ _ _ (token_shorter (is (mark COMMA)) ts) (λ x first.
    got_bind (token_at (is_name_outside s.taken) x.1) _ _ _ (token_shorter (is_name_outside s.taken) x.1) (λ y second. omega arith))

module _ (limit : ℕ) (m : Memory) (is' : List Item) where
  names_stop : (s : NamesRead) (ts : List Token) → begins (is (mark COMMA)) ts ≡ false → scan limit (names_memory m s) (names_end ∷ is') ts ≡ scan limit (names_memory m s) (fixed 0 (mark COLON) ∷ is') ts
  unfolding scan
  names_stop s [] h = refl
  names_stop s (t ∷ ts) h = scan_like limit (names_memory m s) names_end (fixed 0 (mark COLON)) is' t ts (rw h refl) refl refl refl

  names_go : (s : NamesRead) (ts : List Token) → begins (is (mark COMMA)) ts ≡ true → scan limit (names_memory m s) (names_end ∷ is') ts ≡ (further_name_at s ts >>= λ x. scan limit (names_memory m x.0) (names_end ∷ is') x.1)
  unfolding further_name_at
  names_go s [] h = absurd cc
  names_go s (t ∷ ts) h =
      scan_opens limit (names_memory m s) names_end is' t ts (next_port_name ∷ names_end ∷ []) (rw h refl) (le-ltb limit 0 (omega arith)) refl refl
      ∙ scan_one limit (names_memory m s) next_port_name (names_end ∷ is') is_name (is_name_outside s.taken) (λ u. refl) (λ u. le-ltb limit 0 (omega arith)) (λ u. refl) ts
      ∙ rw (token_passes (is (mark COMMA)) t ts h) (sym (bind_assoc (token_at (is_name_outside s.taken) ts) _ _))

  scan_names : (s : NamesRead) (ts : List Token) → scan limit (names_memory m s) (names_end ∷ is') ts ≡ (repeated_at (is (mark COMMA)) further_name_at s ts >>= λ x. scan limit (names_memory m x.0) (fixed 0 (mark COLON) ∷ is') x.1)
  scan_names s ts =
      repeated_agrees (is (mark COMMA)) further_name_at further_name_shorter (λ s ts. scan limit (names_memory m s) (names_end ∷ is') ts) (λ x. scan limit (names_memory m x.0) (fixed 0 (mark COLON) ∷ is') x.1) names_stop names_go s ts

  pub scan_all_names : (ts : List Token) → scan limit m (port_name ∷ names_end ∷ is') ts ≡ (names_at m.known.taken ts >>= λ x. scan limit (names_memory m x.0) (fixed 0 (mark COLON) ∷ is') x.1)
  unfolding names_at
  scan_all_names ts =
      scan_one limit m port_name (names_end ∷ is') is_name (is_name_outside m.known.taken) (λ u. refl) (λ u. le-ltb limit 0 (omega arith)) (λ u. refl) ts
      ∙ bind_same (token_at (is_name_outside m.known.taken) ts) _ _ (λ x. scan_names (with_name (record { made = nothing; taken = m.known.taken; texts = [] }) x.0) x.1)
      ∙ sym (bind_assoc (token_at (is_name_outside m.known.taken) ts) _ _)

-- ---- ports

-- what is remembered behind a port
abbrev pub known_memory : Memory → Known → Memory
known_memory m k = record m { known = k; texts = [] }

pub tail_fits : (front rest ts : List Token) → front ++ rest ≡ ts → length rest ≤ length ts
tail_fits front rest ts same = omega (arith, ap length same, length-append front rest)

pub further_port_shorter : Shortens further_port_at
unfolding further_port_at
further_port_shorter s ts =
    got_bind (token_at (is (mark SEMICOLON)) ts) _ _ _ (token_shorter (is (mark SEMICOLON)) ts) (λ x first.
    got_weaker (port_at s x.1) _ _ (λ y read. let fits = tail_fits (port_tokens read.port) y.1 x.1 read.tokens in omega arith) (port_sound s x.1))

module _ (limit : ℕ) (m : Memory) (is' : List Item) where
  pub scan_port : (s : PortsRead) (ts : List Token) → scan limit (known_memory m s.known) (port_name ∷ names_end ∷ mode ∷ fixed 0 (named std_ulogic) ∷ is') ts ≡ (port_at s ts >>= λ x. scan limit (known_memory m x.0.known) is' x.1)
  unfolding port_at
  scan_port s ts =
      scan_all_names limit (known_memory m s.known) (mode ∷ fixed 0 (named std_ulogic) ∷ is') ts
      ∙ bind_same (names_at s.known.taken ts) _ _ (λ n.
      scan_fixed limit (names_memory (known_memory m s.known) n.0) 0 (mark COLON) (mode ∷ fixed 0 (named std_ulogic) ∷ is') n.1 (omega arith)
      ∙ bind_same (token_at (is (mark COLON)) n.1) _ _ (λ c.
      scan_one limit (names_memory (known_memory m s.known) n.0) mode (fixed 0 (named std_ulogic) ∷ is') is_mode is_mode (λ u. refl) (λ u. le-ltb limit 0 (omega arith)) (λ u. and-true (is_mode u)) c.1
      ∙ bind_same (token_at is_mode c.1) _ _ (λ d.
      scan_fixed limit (known_memory m (with_port s.known n.0 d.0)) 0 (named std_ulogic) is' d.1 (omega arith)
      ∙ sym (bind_assoc (token_at (is (named std_ulogic)) d.1) _ _))
      ∙ sym (bind_assoc (token_at is_mode c.1) _ _))
      ∙ sym (bind_assoc (token_at (is (mark COLON)) n.1) _ _))
      ∙ sym (bind_assoc (names_at s.known.taken ts) _ _)

  ports_stop : (s : PortsRead) (ts : List Token) → begins (is (mark SEMICOLON)) ts ≡ false → scan limit (known_memory m s.known) (ports_end ∷ is') ts ≡ scan limit (known_memory m s.known) (fixed 0 (mark CLOSING) ∷ is') ts
  unfolding scan
  ports_stop s [] h = refl
  ports_stop s (t ∷ ts) h = scan_like limit (known_memory m s.known) ports_end (fixed 0 (mark CLOSING)) is' t ts (rw h refl) refl refl refl

module _ (limit : ℕ) (m : Memory) (is' : List Item) where
  ports_go : (s : PortsRead) (ts : List Token) → begins (is (mark SEMICOLON)) ts ≡ true → scan limit (known_memory m s.known) (ports_end ∷ is') ts ≡ (further_port_at s ts >>= λ x. scan limit (known_memory m x.0.known) (ports_end ∷ is') x.1)
  unfolding further_port_at
  ports_go s [] h = absurd cc
  ports_go s (t ∷ ts) h =
      scan_opens limit (known_memory m s.known) ports_end is' t ts port_items (rw h refl) (le-ltb limit 0 (omega arith)) refl refl
      ∙ scan_port limit m (ports_end ∷ is') s ts
      ∙ rw (token_passes (is (mark SEMICOLON)) t ts h) refl

  pub scan_ports : (ts : List Token) → scan limit (known_memory m m.known) (port_items ++ is') ts ≡ (ports_at m.known ts >>= λ x. scan limit (known_memory m x.0.known) (fixed 0 (mark CLOSING) ∷ is') x.1)
  unfolding ports_at
  scan_ports ts =
      let start : PortsRead = record { made = nothing; known = m.known } in
      scan_port limit m (ports_end ∷ is') start ts
      ∙ bind_same (port_at start ts) _ _ (λ x.
      repeated_agrees (is (mark SEMICOLON)) further_port_at further_port_shorter (λ s ts. scan limit (known_memory m s.known) (ports_end ∷ is') ts) (λ x. scan limit (known_memory m x.0.known) (fixed 0 (mark CLOSING) ∷ is') x.1) (ports_stop limit m is') ports_go x.0 x.1)
      ∙ sym (bind_assoc (port_at start ts) _ _)

-- ---- what only one revision has

pub further_listed_shorter : (outs : List (List ℕ)) → Shortens (further_listed_at outs)
unfolding further_listed_at
further_listed_shorter outs made ts =
    got_bind (token_at (is (mark COMMA)) ts) _ _ _ (token_shorter (is (mark COMMA)) ts) (λ x first.
    got_bind (token_at (is_name_outside outs) x.1) _ _ _ (token_shorter (is_name_outside outs) x.1) (λ y second. omega arith))

module _ (limit : ℕ) (m : Memory) (enough : 1 ≤ limit) (is' : List Item) where
  one_fits : ltb limit 1 ≡ false
  one_fits = le-ltb limit 1 enough

  listed_stop : (made : Forest Form) (ts : List Token) → begins (is (mark COMMA)) ts ≡ false → scan limit m (listed_end ∷ is') ts ≡ scan limit m (fixed 1 (mark CLOSING) ∷ is') ts
  unfolding scan
  listed_stop made [] h = refl
  listed_stop made (t ∷ ts) h = scan_like limit m listed_end (fixed 1 (mark CLOSING)) is' t ts (rw h refl) refl refl refl

  listed_go : (made : Forest Form) (ts : List Token) → begins (is (mark COMMA)) ts ≡ true → scan limit m (listed_end ∷ is') ts ≡ (further_listed_at m.known.outs made ts >>= λ x. scan limit m (listed_end ∷ is') x.1)
  unfolding further_listed_at
  listed_go made [] h = absurd cc
  listed_go made (t ∷ ts) h =
      scan_opens limit m listed_end is' t ts (listed_name ∷ listed_end ∷ []) (rw h refl) one_fits refl refl
      ∙ scan_one limit m listed_name (listed_end ∷ is') is_name (is_name_outside m.known.outs) (λ u. refl) (λ u. one_fits) (λ u. refl) ts
      ∙ rw (token_passes (is (mark COMMA)) t ts h) (sym (bind_assoc (token_at (is_name_outside m.known.outs) ts) _ _))

  scan_listed : (ts : List Token) → scan limit m (listed_name ∷ listed_end ∷ is') ts ≡ (listed_at m.known.outs ts >>= λ x. scan limit m (fixed 1 (mark CLOSING) ∷ is') x.1)
  unfolding listed_at
  scan_listed ts =
      scan_one limit m listed_name (listed_end ∷ is') is_name (is_name_outside m.known.outs) (λ u. refl) (λ u. one_fits) (λ u. refl) ts
      ∙ bind_same (token_at (is_name_outside m.known.outs) ts) _ _ (λ x.
      repeated_agrees (is (mark COMMA)) (further_listed_at m.known.outs) (further_listed_shorter m.known.outs) (λ made ts. scan limit m (listed_end ∷ is') ts) (λ x. scan limit m (fixed 1 (mark CLOSING) ∷ is') x.1) listed_stop listed_go (name_tree x.0) x.1)
      ∙ sym (bind_assoc (token_at (is_name_outside m.known.outs) ts) _ _)

  pub scan_sensitivity : (r : Revision) (ts : List Token) → scan limit m (sensitivity_items r ++ is') ts ≡ (sensitivity_at r m.known.outs ts >>= λ x. scan limit m (fixed 1 (mark CLOSING) ∷ is') x.1)
  unfolding sensitivity_at every_at
  scan_sensitivity V2019 ts = scan_fixed limit m 1 (word ALL) (fixed 1 (mark CLOSING) ∷ is') ts enough ∙ sym (bind_assoc (token_at (is (word ALL)) ts) _ _)
  scan_sensitivity V1993 ts = scan_listed ts

  begin_by : (t : Token) (ts : List Token) (b : Bool) → is (word IS) t ≡ b → scan limit m (process_begin ∷ is') (t ∷ ts) ≡ (optional_at V1993 (is (word IS)) (is (word IS)) (t ∷ ts) >>= λ x. scan limit m (fixed 1 (word BEGIN) ∷ is') x.1)
  unfolding optional_at token_at
  begin_by t ts true h = scan_opens limit m process_begin is' t ts (fixed 1 (word BEGIN) ∷ []) (rw h refl) one_fits refl refl ∙ rw h refl
  begin_by t ts false h = scan_like limit m process_begin (fixed 1 (word BEGIN)) is' t ts (rw h refl) refl refl refl ∙ rw h refl

  pub scan_begin : (r : Revision) (ts : List Token) → scan limit m (begin_item r ∷ is') ts ≡ (optional_at r (is (word IS)) (is (word IS)) ts >>= λ x. scan limit m (fixed 1 (word BEGIN) ∷ is') x.1)
  unfolding optional_at scan
  scan_begin V2019 ts = refl
  scan_begin V1993 [] = refl
  scan_begin V1993 (t ∷ ts) = begin_by t ts (is (word IS) t) refl

module _ (limit : ℕ) (m : Memory) (is' : List Item) (w : Bool) where
  zero_fits : ltb limit 0 ≡ false
  zero_fits = le-ltb limit 0 (omega arith)

  closing_by : (t : Token) (ts : List Token) (n same : Bool) → is_name t ≡ n → bytes_eq t.text (unit_name m w) ≡ same
      → scan limit m (unit_end w ∷ is') (t ∷ ts) ≡ (optional_at V1993 is_name (is_same_name (unit_name m w)) (t ∷ ts) >>= λ x. scan limit m (fixed 0 (mark SEMICOLON) ∷ is') x.1)
  unfolding scan optional_at token_at
  closing_by t ts true true n e = rw (scan, n, zero_fits, n, e) refl
  closing_by t ts true false n e = rw (scan, n, zero_fits, n, e) refl
  closing_by t ts false same n e = scan_like limit m (unit_end w) (fixed 0 (mark SEMICOLON)) is' t ts (rw n refl) refl (rw n refl) refl ∙ rw n refl

  pub scan_closing : (r : Revision) (ts : List Token) → scan limit m (closing_item r w ∷ is') ts ≡ (optional_at r is_name (is_same_name (unit_name m w)) ts >>= λ x. scan limit m (fixed 0 (mark SEMICOLON) ∷ is') x.1)
  unfolding optional_at scan
  scan_closing V2019 ts = refl
  scan_closing V1993 [] = refl
  scan_closing V1993 (t ∷ ts) = closing_by t ts (is_name t) (bytes_eq t.text (unit_name m w)) refl refl
