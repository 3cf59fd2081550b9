-- What a process is sensitive to, and a process, have one end.
use Rattle.std.proofs.Common.{◌≡◌, List, [], ◌∷◌, ◌++◌, sym, ap, ◌∙◌, append_assoc, arith}
use Rattle.std.specs.List.{flat_map, AllByRecursion}
use Rattle.vd_trees.specs.declared.revision.Revision.{Revision}
use Rattle.vd_trees.specs.declared.revision.Revision.TheVariants.{V2019, V1993}
use Rattle.vd_first_lex.specs.declared.tokens.Token.{Token}
use Rattle.vd_first_lex.specs.declared.tokens.TheConstants.{AND, BEGIN, END, IS, PROCESS, OPENING, CLOSING, COMMA, SEMICOLON}
use Rattle.vd_first_grammar.specs.Symbols.{Symbol, word, mark, Is}
use Rattle.vd_first_grammar.specs.Derivations.{expression_tokens, Names, every, listed, IsSensitivity, sensitivity_tokens, optional_tokens, Process, IsProcess, process_tokens}
use Rattle.vd_first_unambiguous.proofs.Cuts.{first_same, rest_same, Begins, begins_more, spell_begins, spell_stops, Cuts, CutsBefore, spell_cuts, optional_cuts, list_cuts}
use Rattle.vd_first_unambiguous.proofs.OneKind.{word_or_mark, other_word, other_mark}
use Rattle.vd_first_unambiguous.proofs.CutExpressions.{expression_cuts}
use Rattle.vd_first_unambiguous.proofs.CutPorts.{names_cuts}

sensitivity_cuts : (r : Revision) → CutsBefore (Is (mark COMMA)) sensitivity_tokens (IsSensitivity r)
sensitivity_cuts V2019 (every t) (every u) p q h k ends ends' same = (ap (λ (x : Token). every x) (first_same t u p q same), rest_same t u p q same)
sensitivity_cuts V2019 (every t) (listed ns) p q h k ends ends' same = absurd k
sensitivity_cuts V2019 (listed ns) s p q h k ends ends' same = absurd h
sensitivity_cuts V1993 (every t) s p q h k ends ends' same = absurd h
sensitivity_cuts V1993 (listed ns) (every t) p q h k ends ends' same = absurd k
sensitivity_cuts V1993 (listed ns) (listed ms) p q h k ends ends' same =
    let cut = names_cuts ns ms p q h k ends ends' same in
    (ap (λ (x : Names). listed x) cut.0, cut.1)

-- ---- the parts of a process

abbrev after_head : Process → List Token → List Token
after_head x p = sensitivity_tokens x.sensitivity ++ (x.closing ∷ (optional_tokens x.is_word ++ (x.begin_word ∷ x.target ∷ x.arrow ∷ (expression_tokens x.value ++ (x.foot ++ p)))))

process_split : (x : Process) (p : List Token) → process_tokens x ++ p ≡ x.head ++ after_head x p
process_split x p = simp append_assoc

-- the same parts, and the same rests behind them
record Same (x y : Process) (p q : List Token) : Type 0 where
  pub head : x.head ≡ y.head
  pub sensitivity : x.sensitivity ≡ y.sensitivity
  pub closing : x.closing ≡ y.closing
  pub is_word : x.is_word ≡ y.is_word
  pub begin_word : x.begin_word ≡ y.begin_word
  pub target : x.target ≡ y.target
  pub arrow : x.arrow ≡ y.arrow
  pub value : x.value ≡ y.value
  pub foot : x.foot ≡ y.foot
  pub rest : p ≡ q

-- what a process ends with, behind its expression's semicolon
abbrev foot_rest : List Symbol
foot_rest = word END ∷ word PROCESS ∷ mark SEMICOLON ∷ []

process_parts : (r : Revision) (x y : Process) (p q : List Token) → IsProcess r x → IsProcess r y → process_tokens x ++ p ≡ process_tokens y ++ q → Same x y p q
process_parts r x y p q h k same =
    let no_comma = λ (t : Token) (is_closing : Is (mark CLOSING) t) (is_comma : Is (mark COMMA) t). other_mark CLOSING COMMA (omega arith) t is_closing is_comma in
    let no_is = λ (t : Token) (is_begin : Is (word BEGIN) t) (is_is : Is (word IS) t). other_word BEGIN IS (omega arith) t is_begin is_is in
    let no_and = λ (t : Token) (is_mark : Is (mark SEMICOLON) t) (is_and : Is (word AND) t). word_or_mark AND SEMICOLON t is_and is_mark in
    let head = spell_cuts (word PROCESS ∷ mark OPENING ∷ []) x.head y.head (after_head x p) (after_head y q) h.0 k.0 (sym (process_split x p) ∙ same ∙ process_split y q) in
    let list = sensitivity_cuts r x.sensitivity y.sensitivity _ _ h.1 k.1 (no_comma x.closing h.2) (no_comma y.closing k.2) head.1 in
    let closing = rest_same x.closing y.closing _ _ list.1 in
    let optional = optional_cuts r (Is (word IS)) x.is_word y.is_word _ _ h.3 k.3 (no_is x.begin_word h.4) (no_is y.begin_word k.4) closing in
    let target = rest_same x.begin_word y.begin_word _ _ optional.1 in
    let arrow = rest_same x.target y.target _ _ target in
    let after = rest_same x.arrow y.arrow _ _ arrow in
    let value = expression_cuts x.value y.value (x.foot ++ p) (y.foot ++ q) h.7 k.7 (spell_stops (Is (word AND)) (mark SEMICOLON) foot_rest no_and x.foot p h.8) (spell_stops (Is (word AND)) (mark SEMICOLON) foot_rest no_and y.foot q k.8) after in
    let foot = spell_cuts (mark SEMICOLON ∷ foot_rest) x.foot y.foot p q h.8 k.8 value.1 in
    record {
      head = head.0;
      sensitivity = list.0;
      closing = first_same x.closing y.closing _ _ list.1;
      is_word = optional.0;
      begin_word = first_same x.begin_word y.begin_word _ _ optional.1;
      target = first_same x.target y.target _ _ target;
      arrow = first_same x.arrow y.arrow _ _ arrow;
      value = value.0;
      foot = foot.0;
      rest = foot.1;
    }

process_same : (x y : Process) → x.head ≡ y.head → x.sensitivity ≡ y.sensitivity → x.closing ≡ y.closing → x.is_word ≡ y.is_word → x.begin_word ≡ y.begin_word → x.target ≡ y.target → x.arrow ≡ y.arrow → x.value ≡ y.value → x.foot ≡ y.foot → x ≡ y
process_same x y head sensitivity closing is_word begin_word target arrow value foot = λ i. record { head = head i; sensitivity = sensitivity i; closing = closing i; is_word = is_word i; begin_word = begin_word i; target = target i; arrow = arrow i; value = value i; foot = foot i }

process_cuts : (r : Revision) → Cuts process_tokens (IsProcess r)
process_cuts r x y p q h k same =
    let s = process_parts r x y p q h k same in
    (process_same x y s.head s.sensitivity s.closing s.is_word s.begin_word s.target s.arrow s.value s.foot, s.rest)

process_begins : (r : Revision) (x : Process) (ts : List Token) → IsProcess r x → Begins (Is (word PROCESS)) (process_tokens x ++ ts)
process_begins r x ts h = begins_more _ (process_tokens x) ts (begins_more _ x.head _ (spell_begins (word PROCESS) (mark OPENING ∷ []) x.head h.0))

pub processes_cuts : (r : Revision) → CutsBefore (Is (word PROCESS)) (flat_map process_tokens) (AllByRecursion (IsProcess r))
processes_cuts r = list_cuts (Is (word PROCESS)) process_tokens (IsProcess r) (process_cuts r) (process_begins r)
