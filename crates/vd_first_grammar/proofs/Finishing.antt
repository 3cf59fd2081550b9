-- Whatever items are left, some tokens complete them, and the conditions hold.
use Rattle.std.proofs.Common.{◌≡◌, ℕ, ◌+◌, ◌≤◌, Bool, true, false, List, [], ◌∷◌, length, Some, refl, ap, ◌∙◌, arith, eq-eqb}
use Rattle.std.specs.Prelude.{replicate}
use Rattle.std.specs.Str.{bytes_eq}
use Rattle.std.proofs.lemmas.Bool.{or_from, not_from_false}
use Rattle.std.proofs.lemmas.List.{length-replicate}
use Rattle.vd_first_lex.specs.declared.tokens.Kind.{Kind}
use Rattle.vd_first_lex.specs.declared.tokens.Kind.TheVariants.{Name, Word, Mark, End}
use Rattle.vd_first_lex.specs.declared.tokens.Token.{Token}
use Rattle.vd_first_lex.specs.declared.tokens.TheConstants.{BEGIN, END, IN, CLOSING, COLON, SEMICOLON}
use Rattle.vd_first_grammar.specs.Symbols.{Symbol, word, mark, named, ending}
use Rattle.vd_first_grammar.specs.Refusals.{no_token}
use Rattle.vd_first_grammar.specs.Reader.{is, among}
use Rattle.vd_first_grammar.proofs.Machine.{Item, fixed, entity_name, port_name, next_port_name, names_end, mode, ports_end, unit_end, architecture_name, entity_again, processes_end, listed_name, listed_end, process_begin, target, operand, expression_end, opened, Memory, remember, meets, Run, run}
use Rattle.vd_first_grammar.proofs.RunExpressions.{bytes_eq_same, run_step}
use Rattle.vd_first_grammar.proofs.SoundExpressions.{same_bytes}

-- ---- a text that is longer than all others

abbrev longer : List (List ℕ) → ℕ
longer [] = 1
longer (x ∷ xs) = length x + longer xs

abbrev pub fresh : List (List ℕ) → List ℕ
fresh xs = replicate (longer xs) 97

absent_longer : (xs : List (List ℕ)) (t : List ℕ) → longer xs ≤ length t → among xs t ≡ false
absent_longer [] t long = refl
absent_longer (x ∷ xs) t long = or_from (bytes_eq t x) (among xs t) (go (bytes_eq t x) refl) (absent_longer xs t (omega arith))
  where
    positive : (ys : List (List ℕ)) → 1 ≤ longer ys
    positive [] = omega arith
    positive (y ∷ ys) = omega (arith, positive ys)

    go : (b : Bool) → bytes_eq t x ≡ b → b ≡ false
    go true same = absurd (omega (arith, ap length (same_bytes t x same), positive xs))
    go false same = refl

pub fresh_absent : (xs : List (List ℕ)) → among xs (fresh xs) ≡ false
fresh_absent xs = absent_longer xs (fresh xs) (omega (arith, length-replicate {A = ℕ} (longer xs) 97))

-- ---- tokens

abbrev a_token : Kind → List ℕ → Token
a_token kind text = record { kind = kind; text = text; place = no_token.place }

abbrev spelling : Symbol → Token
spelling (word n) = a_token (Word n) []
spelling (mark n) = a_token (Mark n) []
spelling (named text) = a_token Name text
spelling ending = a_token End []

is_spelling : (s : Symbol) → is s (spelling s) ≡ true
is_spelling (word n) = eq-eqb n n refl
is_spelling (mark n) = eq-eqb n n refl
is_spelling (named text) = bytes_eq_same text
is_spelling ending = refl

-- a token that opens an item and leaves nothing in its place
abbrev pub last_token : Memory → Item → Token
last_token m (fixed d s) = spelling s
last_token m entity_name = a_token Name (fresh m.known.taken)
last_token m port_name = a_token Name (fresh m.known.taken)
last_token m next_port_name = a_token Name (fresh m.known.taken)
last_token m names_end = spelling (mark COLON)
last_token m mode = spelling (word IN)
last_token m ports_end = spelling (mark CLOSING)
last_token m (unit_end of_entity) = spelling (mark SEMICOLON)
last_token m architecture_name = a_token Name (fresh m.known.taken)
last_token m entity_again = a_token Name m.entity
last_token m (processes_end r) = spelling (word END)
last_token m listed_name = a_token Name (fresh m.known.outs)
last_token m listed_end = spelling (mark CLOSING)
last_token m process_begin = spelling (word BEGIN)
last_token m target = a_token Name (fresh m.known.ins)
last_token m (operand d signed) = a_token Name (fresh m.known.outs)
last_token m (expression_end d n) = spelling (mark n)

last_opens : (m : Memory) (i : Item) → opened i (last_token m i) ≡ Some []
last_opens m (fixed d s) = rw (is_spelling s) refl
last_opens m entity_name = refl
last_opens m port_name = refl
last_opens m next_port_name = refl
last_opens m names_end = refl
last_opens m mode = refl
last_opens m ports_end = refl
last_opens m (unit_end of_entity) = refl
last_opens m architecture_name = refl
last_opens m entity_again = refl
last_opens m (processes_end r) = refl
last_opens m listed_name = refl
last_opens m listed_end = refl
last_opens m process_begin = refl
last_opens m target = refl
last_opens m (operand d signed) = refl
last_opens m (expression_end d n) = rw (eq-eqb n n refl) refl

last_meets : (m : Memory) (i : Item) → meets m i (last_token m i) ≡ true
last_meets m (fixed d s) = refl
last_meets m entity_name = not_from_false _ (fresh_absent m.known.taken)
last_meets m port_name = not_from_false _ (fresh_absent m.known.taken)
last_meets m next_port_name = not_from_false _ (fresh_absent m.known.taken)
last_meets m names_end = refl
last_meets m mode = refl
last_meets m ports_end = refl
last_meets m (unit_end of_entity) = refl
last_meets m architecture_name = not_from_false _ (fresh_absent m.known.taken)
last_meets m entity_again = bytes_eq_same m.entity
last_meets m (processes_end r) = refl
last_meets m listed_name = not_from_false _ (fresh_absent m.known.outs)
last_meets m listed_end = refl
last_meets m process_begin = refl
last_meets m target = not_from_false _ (fresh_absent m.known.ins)
last_meets m (operand d signed) = not_from_false _ (fresh_absent m.known.outs)
last_meets m (expression_end d n) = refl

abbrev pub finish : Memory → List Item → List Token
finish m [] = []
finish m (i ∷ is') = last_token m i ∷ finish (remember m i (last_token m i)) is'

pub finish_left : (m : Memory) (is' : List Item) → (run m is' (finish m is')).left ≡ Some []
unfolding run
finish_left m [] = refl
finish_left m (i ∷ is') = ap (λ (r : Run). r.left) (run_step m i is' (last_token m i) (finish (remember m i (last_token m i)) is') [] (last_opens m i)) ∙ finish_left (remember m i (last_token m i)) is'

pub finish_fair : (m : Memory) (is' : List Item) → (run m is' (finish m is')).fair ≡ true
unfolding run
finish_fair m [] = refl
finish_fair m (i ∷ is') =
    let t = last_token m i in
    let rest = finish_fair (remember m i t) is' in
    ap (λ (r : Run). r.fair) (run_step m i is' t (finish (remember m i t) is') [] (last_opens m i)) ∙ rw (last_meets m i) rest
