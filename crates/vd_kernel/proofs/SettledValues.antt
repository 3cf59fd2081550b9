-- One more value computed in an order, from those before it.
use Rattle.std.proofs.Common.{◌≡◌, ℕ, ◌+◌, ◌<◌, ◌≤◌, List, [], ◌∷◌, length, set, Option, Some, None, map, refl, sym, ap, ◌∙◌, subst, ⊎_elim, arith, append-nil, get_or-set_same, get_or-set_other}
use Rattle.std.specs.Prelude.{slice_index, slice_index_or, option_to_list}
use Rattle.std.specs.List.{AllByRecursion}
use Rattle.std.proofs.lemmas.Bool.{cases_lt, cases_eq}
use Rattle.std.proofs.lemmas.List.{get_or_past}
use Rattle.vd_values.specs.declared.scalar.Scalar.{Scalar}
use Rattle.vd_values.specs.declared.scalar.Scalar.TheVariants.{Literal}
use Rattle.vd_kernel.specs.declared.assignments.Source.{Source}
use Rattle.vd_kernel.specs.declared.assignments.Source.TheVariants.{Driver as ByDriver, Port as ByPort}
use Rattle.vd_kernel.specs.declared.orders.Along.{Along}
use Rattle.vd_kernel.specs.declared.orders.Along.TheVariants.{Sources, Actuals}
use Rattle.vd_kernel.specs.Drivers.{Driver}
use Rattle.vd_kernel.specs.Models.{Signal, no_signal}
use Rattle.vd_kernel.specs.Values.{sources_of, source_value, value_from, through}
use Rattle.vd_kernel.specs.SignalValues.{value_at, Hold, made_of, AreDriving, AreEffective}
use Rattle.vd_kernel.specs.Orders.{ports_of, needs, StandsBefore, IsOrder}
use Rattle.vd_kernel.proofs.Placings.{weaker}

same_sources : (ds : List Driver) (f g : ℕ → Scalar) (ss : List Source) → AllByRecursion (λ j. f j ≡ g j) (ports_of ss) → map (source_value ds f) ss ≡ map (source_value ds g) ss
same_sources ds f g [] z = refl
same_sources ds f g (ByDriver d ∷ ss) z = ap (λ vs. source_value ds f (ByDriver d) ∷ vs) (same_sources ds f g ss z)
same_sources ds f g (ByPort j ∷ ss) z = let a = z.0 in let b = same_sources ds f g ss z.1 in cc

same_made : (ds : List Driver) (f g : ℕ → Scalar) (s : Signal) → AllByRecursion (λ j. f j ≡ g j) (ports_of s.sources) → made_of ds f s ≡ made_of ds g s
same_made ds f g s z =
    let e : sources_of s [] ≡ s.sources = append-nil s.sources in
    ap (λ ss. value_from s (map (source_value ds f) ss)) e
    ∙ ap (value_from s) (same_sources ds f g s.sources z)
    ∙ ap (λ ss. value_from s (map (source_value ds g) ss)) (sym e)

same_through : (o : Option ℕ) (f g : ℕ → Scalar) (x y : Scalar) → x ≡ y → AllByRecursion (λ j. f j ≡ g j) (option_to_list o) → through o f x ≡ through o g y
same_through None f g x y e z = e
same_through (Some a) f g x y e z = z.0

-- the values of the first signals of an order are there
abbrev pub AreSettled : List Scalar → (ℕ → Scalar) → List ℕ → ℕ → Type 0
AreSettled values f order k = (l : ℕ) → l < k → value_at values (slice_index order l) ≡ f (slice_index order l)

pub settled_none : (values : List Scalar) (f : ℕ → Scalar) (order : List ℕ) → AreSettled values f order 0
settled_none values f order = λ l h. absurd (omega arith)

module _ (along : Along) (signals : List Signal) (order : List ℕ) (is : IsOrder along signals order) (values : List Scalar) (long : length values ≡ length signals) (f : ℕ → Scalar) (past : (i : ℕ) → length signals ≤ i → f i ≡ Literal 0) where
  -- all that the next signal needs is there
  pub needs_settled : (k : ℕ) → k < length order → AreSettled values f order k → AllByRecursion (λ j. value_at values j ≡ f j) (needs along (slice_index_or signals (slice_index order k) no_signal))
  needs_settled k h s =
      weaker (λ j. j < length signals → StandsBefore order k j) (λ j. value_at values j ≡ f j) (λ j stands.
      ⊎_elim
      (λ lt. let w = stands lt in let P : ℕ → Type 0 = λ n. value_at values n ≡ f n in subst P w.2 (s w.0 w.1))
      (λ le. get_or_past values j (Literal 0) (omega arith) ∙ sym (past j le))
      (cases_lt j (length signals))) (needs along (slice_index_or signals (slice_index order k) no_signal)) (is.sorted.behind k h)

  pub settled_more : (k : ℕ) (x : Scalar) → k < length order → x ≡ f (slice_index order k) → AreSettled values f order k → AreSettled (set values (slice_index order k) x) f order (k + 1)
  settled_more k x h e s = λ l lt.
      let i = slice_index order k in
      let j = slice_index order l in
      let w = is.sorted.within k h in
      ⊎_elim
      (λ same. ap (value_at (set values i x)) same ∙ get_or-set_same values i x (Literal 0) (omega arith) ∙ e ∙ ap f (sym same))
      (λ ne.
      get_or-set_other values i j x (Literal 0) ne
      ∙ s l (⊎_elim (λ le. le) (λ le. let q : l ≡ k = omega arith in absurd (ne (ap (slice_index order) q))) (cases_lt l k)))
      (cases_eq j i)

  -- at the end of the order all are there
  pub all_settled : AreSettled values f order (length order) → Hold values f
  all_settled s = λ i.
      ⊎_elim
      (λ lt. let w = is.whole i lt in let P : ℕ → Type 0 = λ n. value_at values n ≡ f n in subst P w.2 (s w.0 w.1))
      (λ le. get_or_past values i (Literal 0) (omega arith) ∙ sym (past i le))
      (cases_lt i (length signals))

-- past the last signal

pub driving_past : (signals : List Signal) (ds : List Driver) (own : ℕ → Scalar) → AreDriving signals ds own → (i : ℕ) → length signals ≤ i → own i ≡ Literal 0
driving_past signals ds own is i h = is i ∙ ap (made_of ds own) (get_or_past signals i no_signal h)

pub effective_past : (signals : List Signal) (own outer : ℕ → Scalar) (values : List Scalar) → AreEffective signals own outer → Hold values own → length values ≡ length signals → (i : ℕ) → length signals ≤ i → outer i ≡ Literal 0
effective_past signals own outer values is hold long i h =
    is i ∙ ap (λ s. through s.actual outer (own i)) (get_or_past signals i no_signal h) ∙ sym (hold i) ∙ get_or_past values i (Literal 0) (omega arith)

-- the next value

pub next_driving : (signals : List Signal) (order : List ℕ) → IsOrder Sources signals order → (values : List Scalar) → length values ≡ length signals → (ds : List Driver) (own : ℕ → Scalar) → AreDriving signals ds own → (k : ℕ) → k < length order → AreSettled values own order k → made_of ds (value_at values) (slice_index_or signals (slice_index order k) no_signal) ≡ own (slice_index order k)
next_driving signals order is values long ds own eqs k h s =
    let i = slice_index order k in
    same_made ds (value_at values) own (slice_index_or signals i no_signal) (needs_settled Sources signals order is values long own (driving_past signals ds own eqs) k h s)
    ∙ sym (eqs i)

pub next_effective : (signals : List Signal) (order : List ℕ) → IsOrder Actuals signals order → (values : List Scalar) → length values ≡ length signals → (driving : List Scalar) → length driving ≡ length signals → (own outer : ℕ → Scalar) → AreEffective signals own outer → Hold driving own → (k : ℕ) → k < length order → AreSettled values outer order k → through (slice_index_or signals (slice_index order k) no_signal).actual (value_at values) (value_at driving (slice_index order k)) ≡ outer (slice_index order k)
next_effective signals order is values long driving long' own outer eqs hold k h s =
    let i = slice_index order k in
    same_through (slice_index_or signals i no_signal).actual (value_at values) outer (value_at driving i) (own i) (hold i) (needs_settled Actuals signals order is values long outer (effective_past signals own outer driving eqs hold long') k h s)
    ∙ sym (eqs i)
