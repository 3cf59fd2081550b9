-- Each list of symbols has an answer: the steps of a reader, as far as they go.
use Rattle.std.proofs.Common.{◌≡◌, ℕ, zero, suc, ◌+◌, ◌-◌, ◌<◌, ◌≤◌, max, Bool, true, false, nat_eq, List, [], ◌∷◌, ◌++◌, ◌⊎◌, inl, inr, length, get_or, take, refl, sym, ap, subst, ◌∙◌, eq-eqb, arith}
use Rattle.std.proofs.lemmas.Bool.{eqb-true, both_ways, cases_lt}
use Rattle.std.proofs.lemmas.List.{get_or_default}
use Rattle.vd_gram.specs.declared.tables.Production.{Production}
use Rattle.vd_gram.specs.declared.tables.Table.{Table}
use Rattle.vd_gram.specs.declared.stack.Pending.{Pending}
use Rattle.vd_gram.specs.declared.steps.Step.{Step}
use Rattle.vd_gram.specs.declared.steps.Step.TheVariants.{Leaf, Node}
use Rattle.vd_gram.specs.Claims.{is_terminal, is_checked, end_symbol}
use Rattle.vd_gram.specs.Derivations.{with_end, mark_of}
use Rattle.vd_gram.specs.Laws.{HasSomeAnswer, some_parse, some_place, too_deep}
use Rattle.vd_gram.specs.Pending.{at_depth, symbols_of}
use Rattle.vd_gram.specs.Readings.{symbol_ahead}
use Rattle.vd_gram.specs.Runs.{IsChoice, IsNoChoice, IsReading, IsShallow, tells}
use Rattle.vd_gram.specs.Same.{listed}
use Rattle.vd_gram.proofs.AdvanceLemmas.{next_ahead, inside}
use Rattle.vd_gram.proofs.ChoiceLemmas.{IsNoneBelow, none_yet, chosen_here, no_sign, none_at_all}
use Rattle.vd_gram.proofs.EndingLemmas.{shallow_start, shallow_more, too_deep as deep_nodes, too_deep_end, refused_empty, refused_terminal, refused_nonterminal, refused_after, parsed}
use Rattle.vd_gram.proofs.ReadingLemmas.{expand, took, looked, started}
use Rattle.vd_gram.proofs.SignLemmas.{checks}
use Rattle.vd_gram.proofs.StackLemmas.{symbols-at_depth}
use Rattle.vd_gram.proofs.WeightLemmas.{weight, lighter}

-- ---- which production comes next

no_production : Production
no_production = record { left = 0; right = listed [] }

module _ (t : Table) (nonterminal sign : ℕ) where
  abbrev Found : ℕ → Type 0
  Found i = ((k : ℕ) × IsChoice t nonterminal sign k) ⊎ IsNoneBelow t nonterminal sign i

  looked_at : (i : ℕ) (b : Bool) → i < length t.productions.now → tells t nonterminal sign (get_or t.productions.now i no_production) ≡ b
      → IsNoneBelow t nonterminal sign i → Found (i + 1)
  looked_at i true within told so_far =
      inl (
        i,
        chosen_here t nonterminal sign i (get_or t.productions.now i no_production) within
            (get_or_default t.productions.now i no_production (get_or t.productions.now i no_production) within) told,
      )
  looked_at i false within untold so_far =
      inr (no_sign t nonterminal sign i (get_or t.productions.now i no_production) within
      (get_or_default t.productions.now i no_production (get_or t.productions.now i no_production) within) untold so_far)

  found : (i : ℕ) → i ≤ length t.productions.now → Found i
  found zero within = inr (none_yet t nonterminal sign)
  found (suc i) within =
      let is : i + 1 ≡ suc i = omega arith in
      subst Found is
      (elim (found i (omega (arith, within))) [
        | inl c ↦ inl c
        | inr so_far ↦ looked_at i (tells t nonterminal sign (get_or t.productions.now i no_production)) (omega (arith, within)) refl so_far
      ])

  choice_or_none : ((k : ℕ) × IsChoice t nonterminal sign k) ⊎ IsNoChoice t nonterminal sign
  choice_or_none =
      elim (found (length t.productions.now) (omega arith)) [
        | inl c ↦ inl c
        | inr so_far ↦ inr (none_at_all t nonterminal sign (length t.productions.now) (omega arith) so_far)
      ]

-- two numbers are the same or not
same_or_not : (a b : ℕ) → (a ≡ b) ⊎ (a ≡ b → ⊥)
same_or_not a b = go (nat_eq a b) refl
  where
    go : (c : Bool) → nat_eq a b ≡ c → (a ≡ b) ⊎ (a ≡ b → ⊥)
    go true e = inl (eqb-true a b e)
    go false e = inr (λ is. both_ways _ e (eq-eqb a b is))

-- ---- a reader's steps

module _ (t : Table) (checked : is_checked t ≡ true) (symbols : List ℕ) (deep : ℕ) where
  -- the symbols in front of a place were taken, and the symbol there was looked at
  record Looks (place : ℕ) (pending : List Pending) (steps : List Step) (above : ℕ) : Type 0 where
    pub within : place ≤ length symbols
    pub reading : IsReading t (with_end symbols) place (place + 1) pending steps above
    pub shallow : IsShallow t (with_end symbols) place deep

  abbrev Answer : Type 0
  Answer = HasSomeAnswer t symbols deep

  -- nothing is to come
  at_end : (place : ℕ) (steps : List Step) (above : ℕ) → Looks place [] steps above → symbol_ahead symbols place ≡ end_symbol → Answer
  at_end place steps above l is =
      let next = next_ahead t checked symbols place l.within ∙ ap (λ x. take place (with_end symbols) ++ x ∷ []) is in
      elim (cases_lt deep above) [
        | inl high ↦ too_deep (too_deep_end t checked symbols place steps above deep l.reading next l.within high)
        | inr low ↦
            elim (cases_lt place (length symbols)) [
              | inl lt ↦
                  some_place (place + 1)
                  (refused_after t checked symbols place (symbol_ahead symbols (place + 1)) steps above deep next
                  (next_ahead t checked symbols (place + 1) (omega (arith, lt))) lt l.reading low l.shallow)
              | inr past ↦
                  let at : place ≡ length symbols = omega (arith, past, l.within) in
                  let p = parsed t checked symbols steps above deep
                  (subst (λ k. IsReading t (with_end symbols) k (k + 1) [] steps above) at l.reading) low
                  (subst (λ k. IsShallow t (with_end symbols) k deep) at l.shallow) in
                  some_parse p.tree p.parse
            ]
      ]

  nothing_to_come : (place : ℕ) (steps : List Step) (above : ℕ) → Looks place [] steps above → Answer
  nothing_to_come place steps above l =
      elim (same_or_not (symbol_ahead symbols place) end_symbol) [
        | inl is ↦ at_end place steps above l is
        | inr other ↦
            some_place place
            (refused_empty t checked symbols place (symbol_ahead symbols place) (next_ahead t checked symbols place l.within) l.within steps above deep l.reading l.shallow (λ e. other (sym e)))
      ]

  abbrev GoesOn : ℕ → Type 0
  GoesOn place = (pending : List Pending) (steps : List Step) (above : ℕ) → Looks place pending steps above → Answer

  -- the terminal to come is the next symbol
  taken : (place : ℕ) (q : Pending) (qs : List Pending) (steps : List Step) (above : ℕ) → (place < length symbols → GoesOn (place + 1)) → Looks place (q ∷ qs) steps above
      → is_terminal t q.symbol ≡ true → q.symbol ≡ symbol_ahead symbols place → Answer
  taken place q qs steps above more l terminal is =
      let next = next_ahead t checked symbols place l.within ∙ ap (λ x. take place (with_end symbols) ++ x ∷ []) (sym is) in
      let r = took t checked (with_end symbols) place q qs next terminal steps above l.reading in
      let lt = inside t checked symbols place q.symbol l.within terminal is in
      elim (cases_lt deep above) [
        | inl high ↦ too_deep (deep_nodes t checked symbols (place + 1) qs (steps ++ Leaf q.symbol place ∷ []) above deep r (omega (arith, lt)) high)
        | inr low ↦
            more lt qs (steps ++ Leaf q.symbol place ∷ []) above
            (record {
              within = omega (arith, lt);
              reading = looked t checked (with_end symbols) (place + 1) (symbol_ahead symbols (place + 1)) (next_ahead t checked symbols (place + 1) (omega (arith, lt))) qs (steps ++ Leaf q.symbol place ∷ []) above r;
              shallow = shallow_more t checked (with_end symbols) place qs (steps ++ Leaf q.symbol place ∷ []) above deep r low l.shallow;
            })
      ]

  terminal_to_come : (place : ℕ) (q : Pending) (qs : List Pending) (steps : List Step) (above : ℕ) → (place < length symbols → GoesOn (place + 1)) → Looks place (q ∷ qs) steps above
      → is_terminal t q.symbol ≡ true → Answer
  terminal_to_come place q qs steps above more l terminal =
      elim (same_or_not q.symbol (symbol_ahead symbols place)) [
        | inl is ↦ taken place q qs steps above more l terminal is
        | inr other ↦
            some_place place
            (refused_terminal t checked symbols place (symbol_ahead symbols place) (next_ahead t checked symbols place l.within) l.within q qs steps above deep l.reading l.shallow terminal other)
      ]

  -- what is to come has a lower weight
  abbrev Lighter : ℕ → ℕ → Type 0
  Lighter n place =
      (pending : List Pending) (steps : List Step) (above : ℕ) → weight t (symbols_of pending) < n → Looks place pending steps above → Answer

  -- a production is put in the place of a nonterminal
  put_in : (n place : ℕ) (q : Pending) (qs : List Pending) (steps : List Step) (above : ℕ) → Lighter n place → Looks place (q ∷ qs) steps above
      → weight t (symbols_of (q ∷ qs)) ≤ n → is_terminal t q.symbol ≡ false → (k : ℕ) → IsChoice t q.symbol (symbol_ahead symbols place) k → Answer
  put_in n place q qs steps above lighter_ones l low nonterminal k c =
      let p = checks t checked in
      let right = c.chosen.right.now in
      let falls = lighter t p.closed p.ranks q.symbol (symbol_ahead symbols place) k (symbols_of qs) c in
      let same = symbols-at_depth (q.depth + mark_of t k) right qs in
      let lower : weight t (symbols_of (at_depth (q.depth + mark_of t k) right ++ qs)) < n =
      subst (λ ss. weight t ss < n) (sym same) (omega (arith, falls, low)) in
      lighter_ones (at_depth (q.depth + mark_of t k) right ++ qs) (steps ++ Node k (length right) ∷ []) (max above (q.depth + mark_of t k)) lower
      (record {
        within = l.within;
        reading = expand t checked (with_end symbols) place (symbol_ahead symbols place) (next_ahead t checked symbols place l.within) q qs k c nonterminal steps above l.reading;
        shallow = l.shallow;
      })

  one_more : (n place : ℕ) → (place < length symbols → GoesOn (place + 1)) → Lighter n place → (pending : List Pending) (steps : List Step) (above : ℕ)
      → weight t (symbols_of pending) ≤ n → Looks place pending steps above → Answer
  one_more n place more lighter_ones [] steps above low l = nothing_to_come place steps above l
  one_more n place more lighter_ones (q ∷ qs) steps above low l = by_kind (is_terminal t q.symbol) refl
    where
      by_kind : (b : Bool) → is_terminal t q.symbol ≡ b → Answer
      by_kind true terminal = terminal_to_come place q qs steps above more l terminal
      by_kind false nonterminal =
          elim (choice_or_none t q.symbol (symbol_ahead symbols place)) [
            | inl c ↦ put_in n place q qs steps above lighter_ones l low nonterminal c.0 c.1
            | inr none ↦
                some_place place
                (refused_nonterminal t checked symbols place (symbol_ahead symbols place) (next_ahead t checked symbols place l.within) l.within q qs steps above deep l.reading l.shallow nonterminal none.none)
          ]

  -- the weight is a bound on the productions that are still put in
  from_place : (n place : ℕ) → (place < length symbols → GoesOn (place + 1)) → (pending : List Pending) (steps : List Step) (above : ℕ)
      → weight t (symbols_of pending) ≤ n → Looks place pending steps above → Answer
  from_place zero place more pending steps above low l = one_more zero place more (λ qs ss b lt k. absurd (omega (arith, lt))) pending steps above low l
  from_place (suc n) place more pending steps above low l =
      one_more (suc n) place more (λ qs ss b lt k. from_place n place more qs ss b (omega (arith, lt)) k) pending steps above low l

  goes_on : (left place : ℕ) → length symbols - place ≤ left → GoesOn place
  goes_on zero place few pending steps above l =
      from_place (weight t (symbols_of pending)) place (λ lt. absurd (omega (arith, lt, few))) pending steps above (omega arith) l
  goes_on (suc left) place few pending steps above l =
      from_place (weight t (symbols_of pending)) place (λ lt. goes_on left (place + 1) (omega (arith, lt, few))) pending steps above (omega arith) l

pub some_answer : (t : Table) → is_checked t ≡ true → (symbols : List ℕ) (deep : ℕ) → HasSomeAnswer t symbols deep
some_answer t checked symbols deep =
    let r = started t checked (with_end symbols) in
    goes_on t checked symbols deep (length symbols) 0 (omega arith) (record { symbol = t.start; depth = 0 } ∷ []) [] 0
    (record {
      within = omega arith;
      reading = looked t checked (with_end symbols) 0 (symbol_ahead symbols 0) (next_ahead t checked symbols 0 (omega arith)) (record { symbol = t.start; depth = 0 } ∷ []) [] 0 r;
      shallow = shallow_start t checked (with_end symbols) deep;
    })
