-- What a reader's step leaves, in the words of its contract.
use Rattle.std.proofs.Common.{◌≡◌, ℕ, zero, suc, ◌+◌, ◌<◌, ◌≤◌, max, true, false, List, [], ◌∷◌, ◌++◌, inl, inr, length, get_or, take, Some, sym, ap, subst, ◌∙◌, arith, length-append}
use Rattle.std.proofs.lemmas.Bool.{and_parts, both_ways, cases_lt, not-true}
use Rattle.std.proofs.lemmas.List.{take_more, get_or_append_left, get_or_past}
use Rattle.vd_gram.specs.declared.tables.Table.{Table}
use Rattle.vd_gram.specs.declared.stack.Pending.{Pending}
use Rattle.vd_gram.specs.declared.steps.Step.{Step}
use Rattle.vd_gram.specs.declared.steps.Step.TheVariants.{Leaf, Node}
use Rattle.vd_gram.specs.declared.reading.Reading.{Reading}
use Rattle.vd_gram.specs.Claims.{is_terminal, is_checked, end_symbol}
use Rattle.vd_gram.specs.Derivations.{Trees, with_end, IsParse, IsRefused, IsTooDeep, mark_of, mark}
use Rattle.vd_gram.specs.Pending.{at_depth, symbols_of}
use Rattle.vd_gram.specs.Runs.{IsNoChoice, IsReading, IsShallow, AreChoices, steps_of}
use Rattle.vd_gram.specs.Readings.{mark_one, symbol_ahead, IsExpanded, Stands, IsAhead}
use Rattle.vd_gram.specs.Links.{trees_of}
use Rattle.vd_gram.proofs.LinkLemmas.{trees_of-steps_of}
use Rattle.vd_gram.proofs.SignLemmas.{checks}
use Rattle.vd_gram.proofs.StackLemmas.{symbols-at_depth}
use Rattle.vd_gram.proofs.WeightLemmas.{weight, lighter}
use Rattle.vd_gram.proofs.ReadingLemmas.{IsNext, expand, took, looked, started}
use Rattle.vd_gram.proofs.EndingLemmas.{shallow_start, shallow_more, too_deep, too_deep_end, refused_empty, refused_terminal, refused_nonterminal, refused_after, Parsed, parsed}

module _ (t : Table) (checked : is_checked t ≡ true) where
  -- the symbol ahead is the next one of the text with its end
  pub next_ahead : (symbols : List ℕ) (place : ℕ) → place ≤ length symbols → IsNext t checked (with_end symbols) place (symbol_ahead symbols place)
  next_ahead symbols place within =
      take_more (with_end symbols) place end_symbol (omega (arith, within, length-append symbols (end_symbol ∷ [])))
      ∙ ap (λ x. take place (with_end symbols) ++ x ∷ []) (elim (cases_lt place (length symbols)) [ inl inside ↦ get_or_append_left symbols (end_symbol ∷ []) end_symbol place inside | inr past ↦ at_end symbols place (omega (arith, within, past)) ])
    where
      at_end : (symbols : List ℕ) (place : ℕ) → place ≡ length symbols → get_or (with_end symbols) place end_symbol ≡ get_or symbols place end_symbol
      at_end [] place is = ap (λ k. get_or (end_symbol ∷ []) k end_symbol) is ∙ sym (ap (λ k. get_or [] k end_symbol) is)
      at_end (s ∷ ss) zero is = absurd (omega (arith, is))
      at_end (s ∷ ss) (suc place) is = at_end ss place (omega (arith, is))

  pub ahead_from_stands : (symbols : List ℕ) (deep place : ℕ) (steps : List Step) (r : Reading) → Stands t symbols deep place steps r → IsAhead t symbols deep place r.stack steps r
  ahead_from_stands symbols deep place steps r s =
      record {
        within = s.within;
        choices = s.choices;
        reading = looked t checked (with_end symbols) place (symbol_ahead symbols place) (next_ahead symbols place s.within) r.stack steps r.deepest s.reading;
        shallow = s.shallow;
      }

  -- a production was put in the place of its left
  pub ahead_expanded : (symbols : List ℕ) (deep place production parts : ℕ) (q : Pending) (steps : List Step) (before after : Reading) → is_terminal t q.symbol ≡ false
      → IsAhead t symbols deep place (q ∷ before.stack) steps before → IsExpanded t (symbol_ahead symbols place) q production parts before after → AreChoices t after.choices.known
      → IsAhead t symbols deep place after.stack (steps ++ Node production parts ∷ []) after
  ahead_expanded symbols deep place production parts q steps before after nonterminal a e choices =
      let r = expand t checked (with_end symbols) place (symbol_ahead symbols place) (next_ahead symbols place a.within) q before.stack production e.choice nonterminal steps before.deepest a.reading in
      let same_some : Some e.put.of ≡ Some e.choice.chosen = sym e.put.at ∙ e.choice.at in
      let same : e.put.of ≡ e.choice.chosen = cc in
      let marks : mark_one t e.put.of.left ≡ mark_of t production = ap (mark t) (sym e.put.at) in
      let stack : at_depth (q.depth + mark_of t production) e.choice.chosen.right.now ++ before.stack ≡ after.stack =
      sym (e.put.stack ∙ ap (λ m. at_depth (q.depth + m) e.put.of.right.now ++ before.stack) marks ∙ ap (λ p. at_depth (q.depth + mark_of t production) p.right.now ++ before.stack) same) in
      let told = sym (ap (λ n. steps ++ Node production n ∷ []) e.put.parts_are ∙ ap (λ p. steps ++ Node production (length p.right.now) ∷ []) same) in
      let deepest = sym (e.put.deepest ∙ ap (λ m. max before.deepest (q.depth + m)) marks) in
      record {
        within = a.within;
        choices = choices;
        reading =
            subst (λ d. IsReading t (with_end symbols) place (place + 1) after.stack (steps ++ Node production parts ∷ []) d) deepest
            (subst (λ l. IsReading t (with_end symbols) place (place + 1) after.stack l (max before.deepest (q.depth + mark_of t production))) told
            (subst (λ qs. IsReading t (with_end symbols) place (place + 1) qs (steps ++ Node production (length e.choice.chosen.right.now) ∷ []) (max before.deepest (q.depth + mark_of t production))) stack r));
        shallow = a.shallow;
      }

  -- no production comes next
  pub refused_untold : (symbols : List ℕ) (deep place : ℕ) (q : Pending) (steps : List Step) (before : Reading) → is_terminal t q.symbol ≡ false
      → IsAhead t symbols deep place (q ∷ before.stack) steps before → IsNoChoice t q.symbol (symbol_ahead symbols place) → IsRefused t symbols deep place
  refused_untold symbols deep place q steps before nonterminal a n =
      refused_nonterminal t checked symbols place (symbol_ahead symbols place) (next_ahead symbols place a.within) a.within q before.stack steps before.deepest deep a.reading a.shallow nonterminal n.none

  -- another terminal has to come
  pub refused_other : (symbols : List ℕ) (deep place : ℕ) (q : Pending) (steps : List Step) (before : Reading) → is_terminal t q.symbol ≡ true
      → IsAhead t symbols deep place (q ∷ before.stack) steps before → (q.symbol ≡ symbol_ahead symbols place → ⊥) → IsRefused t symbols deep place
  refused_other symbols deep place q steps before terminal a other =
      refused_terminal t checked symbols place (symbol_ahead symbols place) (next_ahead symbols place a.within) a.within q before.stack steps before.deepest deep a.reading a.shallow terminal other

  -- the end is no terminal, so a terminal ahead stands in the text
  pub inside : (symbols : List ℕ) (place s : ℕ) → place ≤ length symbols → is_terminal t s ≡ true → s ≡ symbol_ahead symbols place → place < length symbols
  inside symbols place s within terminal is =
      elim (cases_lt place (length symbols)) [
        | inl lt ↦ lt
        | inr past ↦
            absurd
            (both_ways _ (not-true _ (and_parts _ _ (and_parts _ _ (and_parts _ _ (checks t checked).closed).1).0).0)
            (subst (λ z. is_terminal t z ≡ true) (is ∙ get_or_past symbols place end_symbol past) terminal))
      ]

  took_ahead : (symbols : List ℕ) (deep place : ℕ) (q : Pending) (steps : List Step) (r : Reading) → is_terminal t q.symbol ≡ true
      → IsAhead t symbols deep place (q ∷ r.stack) steps r → q.symbol ≡ symbol_ahead symbols place
      → IsReading t (with_end symbols) (place + 1) (place + 1) r.stack (steps ++ Leaf q.symbol place ∷ []) r.deepest
  took_ahead symbols deep place q steps r terminal a is =
      let next = next_ahead symbols place a.within ∙ ap (λ x. take place (with_end symbols) ++ x ∷ []) (sym is) in
      took t checked (with_end symbols) place q r.stack next terminal steps r.deepest a.reading

  pub stands_after : (symbols : List ℕ) (deep place : ℕ) (q : Pending) (steps : List Step) (r : Reading) → is_terminal t q.symbol ≡ true
      → IsAhead t symbols deep place (q ∷ r.stack) steps r → q.symbol ≡ symbol_ahead symbols place
      → r.deepest ≤ deep → Stands t symbols deep (place + 1) (steps ++ Leaf q.symbol place ∷ []) r
  stands_after symbols deep place q steps r terminal a is low =
      let taken = took_ahead symbols deep place q steps r terminal a is in
      let lt = inside symbols place q.symbol a.within terminal is in
      record {
        within = omega (arith, lt);
        low = low;
        choices = a.choices;
        reading = taken;
        shallow = shallow_more t checked (with_end symbols) place r.stack (steps ++ Leaf q.symbol place ∷ []) r.deepest deep taken low a.shallow;
      }

  pub deep_after : (symbols : List ℕ) (deep place : ℕ) (q : Pending) (steps : List Step) (r : Reading) → is_terminal t q.symbol ≡ true
      → IsAhead t symbols deep place (q ∷ r.stack) steps r → q.symbol ≡ symbol_ahead symbols place
      → deep < r.deepest → IsTooDeep t symbols deep
  deep_after symbols deep place q steps r terminal a is high =
      let taken = took_ahead symbols deep place q steps r terminal a is in
      let lt = inside symbols place q.symbol a.within terminal is in
      too_deep t checked symbols (place + 1) r.stack (steps ++ Leaf q.symbol place ∷ []) r.deepest deep taken (omega (arith, lt)) high

  -- ---- the end

  module _ (symbols : List ℕ) (deep place : ℕ) (steps : List Step) (r : Reading) (a : IsAhead t symbols deep place [] steps r) where
    pub refused_more : (symbol_ahead symbols place ≡ end_symbol → ⊥) → IsRefused t symbols deep place
    refused_more other =
        refused_empty t checked symbols place (symbol_ahead symbols place) (next_ahead symbols place a.within) a.within steps r.deepest deep a.reading a.shallow (λ e. other (sym e))

    at_end : symbol_ahead symbols place ≡ end_symbol → IsNext t checked (with_end symbols) place end_symbol
    at_end is = next_ahead symbols place a.within ∙ ap (λ x. take place (with_end symbols) ++ x ∷ []) is

    pub deep_end : symbol_ahead symbols place ≡ end_symbol → deep < r.deepest → IsTooDeep t symbols deep
    deep_end is high = too_deep_end t checked symbols place steps r.deepest deep a.reading (at_end is) a.within high

    pub refused_behind : symbol_ahead symbols place ≡ end_symbol → r.deepest ≤ deep → place < length symbols → IsRefused t symbols deep (place + 1)
    refused_behind is low lt =
        refused_after t checked symbols place (symbol_ahead symbols (place + 1)) steps r.deepest deep (at_end is)
        (next_ahead symbols (place + 1) (omega (arith, lt))) lt a.reading low a.shallow

    pub read_all : r.deepest ≤ deep → length symbols ≤ place → Parsed t checked symbols deep steps
    read_all low past =
        let is : place ≡ length symbols = omega (arith, past, a.within) in
        parsed t checked symbols steps r.deepest deep
        (subst (λ k. IsReading t (with_end symbols) k (k + 1) [] steps r.deepest) is a.reading) low
        (subst (λ k. IsShallow t (with_end symbols) k deep) is a.shallow)

  -- ---- a symbol was taken off the stack

  pub ahead_popped : (symbols : List ℕ) (deep place : ℕ) (q : Pending) (rest : List Pending) (steps : List Step) (r : Reading) → r.stack ≡ q ∷ rest
      → IsAhead t symbols deep place r.stack steps r → IsAhead t symbols deep place (q ∷ rest) steps (record r { stack = rest })
  ahead_popped symbols deep place q rest steps r is a = record {
    within = a.within;
    choices = a.choices;
    reading = subst (λ qs. IsReading t (with_end symbols) place (place + 1) qs steps r.deepest) is a.reading;
    shallow = a.shallow;
  }

  -- the measure falls
  pub lighter_expanded : (ahead production parts : ℕ) (q : Pending) (before after : Reading) → IsExpanded t ahead q production parts before after
      → weight t (symbols_of after.stack) < weight t (q.symbol ∷ symbols_of before.stack)
  lighter_expanded ahead production parts q before after e =
      let same_some : Some e.put.of ≡ Some e.choice.chosen = sym e.put.at ∙ e.choice.at in
      let same : e.put.of ≡ e.choice.chosen = cc in
      let stack : symbols_of after.stack ≡ e.choice.chosen.right.now ++ symbols_of before.stack =
      ap symbols_of e.put.stack ∙ symbols-at_depth (q.depth + mark_one t e.put.of.left) e.put.of.right.now before.stack
      ∙ ap (λ p. p.right.now ++ symbols_of before.stack) same in
      let p = checks t checked in
      subst (λ ss. weight t ss < weight t (q.symbol ∷ symbols_of before.stack)) (sym stack)
      (lighter t p.closed p.ranks q.symbol ahead production (symbols_of before.stack) e.choice)

  -- ---- the start

  pub stands_start : (symbols : List ℕ) (deep : ℕ) (r : Reading) → r.stack ≡ record { symbol = t.start; depth = 0 } ∷ []
      → r.deepest ≡ 0 → AreChoices t r.choices.known → Stands t symbols deep 0 [] r
  stands_start symbols deep r stack deepest choices = record {
    within = omega arith;
    low = omega (arith, deepest);
    choices = choices;
    reading =
        subst (λ d. IsReading t (with_end symbols) 0 0 r.stack [] d) (sym deepest)
        (subst (λ qs. IsReading t (with_end symbols) 0 0 qs [] 0) (sym stack) (started t checked (with_end symbols)));
    shallow = shallow_start t checked (with_end symbols) deep;
  }

-- what was told is what its steps stand for
pub parse_told : (t : Table) (symbols : List ℕ) (deep : ℕ) (steps : List Step) (tree made : Trees) → IsParse t symbols deep tree → steps ≡ steps_of tree → made ≡ trees_of steps
    → IsParse t symbols deep made
parse_told t symbols deep steps tree made p told is =
    subst (IsParse t symbols deep) (sym (trees_of-steps_of tree) ∙ ap trees_of (sym told) ∙ sym is) p

pub ruleset starting = (stands_start)
