-- A design whose signals have other numbers has the same run.
use Rattle.std.proofs.Common.{◌≡◌, ℕ, zero, suc, ◌+◌, ◌<◌, Bool, true, false, List, [], ◌∷◌, length, get_or, Option, Some, None, map, refl, sym, ap, ◌∙◌, subst, arith}
use Rattle.std.specs.Prelude.{if◌then◌else◌, not, ◌&&◌, nat_lt}
use Rattle.std.specs.Option.{option_map}
use Rattle.std.specs.List.{AllZip}
use Rattle.std.proofs.lemmas.List.{length-map}
use Rattle.vd_kernel.specs.declared.assignments.Source.{Source}
use Rattle.vd_kernel.specs.declared.assignments.Source.TheVariants.{Driver as ByDriver, Port as ByPort}
use Rattle.vd_kernel.specs.Models.{Signal, Ending, Waits, Stops, Turn, Shape, Model, signal_at, no_signal}
use Rattle.vd_kernel.specs.Traces.{has_two, with_two}
use Rattle.vd_kernel.specs.Correspondence.{BothOrNone, SameSource, SameSignal, SameEnding, SameTurn, SameShape, SameRun}
use Rattle.vd_kernel.specs.Renumbering.{renumbered_source, renumbered_signal, IsRenumbered, seen_through, renumbered_ending, renumbered_turn, renumbered}
use Rattle.vd_kernel.proofs.ListPairs.{AllZip-to_map, AllZip-itself}
use Rattle.vd_kernel.proofs.OneView.{corresponds_over_one_view}
use Rattle.vd_kernel.proofs.SameRuns.{same_run, same_events}

-- What with_two finds: the first of the signals that has two sources

pub record IsFirstTwo (ss : List Signal) (i : ℕ) : Type 0 where
  pub within : i < length ss
  pub two : has_two (get_or ss i no_signal) ≡ true
  pub before : (j : ℕ) → j < i → has_two (get_or ss j no_signal) ≡ false

abbrev Finds : ℕ → List Signal → Option ℕ → Type 0
Finds k ss None = (j : ℕ) → has_two (get_or ss j no_signal) ≡ false
Finds k ss (Some r) = (i : ℕ) × (r ≡ k + i) × IsFirstTwo ss i

finds_more : (k : ℕ) (s : Signal) (ss : List Signal) (b : Bool) → has_two s ≡ b → (r : Option ℕ) → Finds (suc k) ss r → Finds k (s ∷ ss) (if b then Some k else r)
finds_more k s ss true e r h =
    (0, omega arith, record { within = omega arith; two = e; before = λ j l. absurd (omega arith) })
finds_more k s ss false e None h = λ j. elim j as (λ j. has_two (get_or (s ∷ ss) j no_signal) ≡ false) [ zero ↦ e | suc i ↦ h i ]
finds_more k s ss false e (Some r) h = (
  suc h.0,
  omega (arith, h.1),
  record {
    within = let w = h.2.within in omega arith;
    two = h.2.two;
    before = λ j. elim j as (λ j. j < suc h.0 → has_two (get_or (s ∷ ss) j no_signal) ≡ false) [ zero ↦ (λ l. e) | suc i ↦ (λ l. h.2.before i (omega arith)) ];
  },
)

finds : (k : ℕ) (ss : List Signal) → Finds k ss (with_two k ss)
finds k [] = λ j. refl
finds k (s ∷ ss) = finds_more k s ss (has_two s) refl (with_two (suc k) ss) (finds (suc k) ss)

module _ (f : ℕ → ℕ) where
  abbrev Renumbers : ℕ → ℕ → Type 0
  Renumbers i j = f i ≡ j

  -- Signals

  source_same : (s : Source) → SameSource Renumbers s (renumbered_source f s)
  source_same (ByDriver d) = refl
  source_same (ByPort i) = refl

  option_same : (o : Option ℕ) → BothOrNone Renumbers o (option_map f o)
  option_same None = tt
  option_same (Some i) = refl

  signal_same : (s : Signal) → SameSignal Renumbers s (renumbered_signal f s)
  signal_same s =
      record { initial = refl; is_resolved = refl; sources = AllZip-to_map (SameSource Renumbers) (renumbered_source f) source_same s.sources; actual = option_same s.actual; is_out = refl; input = refl }

  list_same : (xs : List ℕ) → AllZip Renumbers xs (map f xs)
  list_same = AllZip-to_map Renumbers f (λ i. refl)

  module _ (m n : Shape) (is : IsRenumbered f m n) where
    two_same : (i : ℕ) → has_two (signal_at n (f i)) ≡ has_two (signal_at m i)
    two_same i = ap has_two (is.signals i) ∙ ap (λ k. not (signal_at m i).is_resolved && nat_lt 1 k) (length-map (signal_at m i).sources (renumbered_source f))

    -- the first with two sources on the one side is that on the other
    first_same : (a b : Option ℕ) → Finds 0 m.signals a → Finds 0 n.signals b → BothOrNone Renumbers a b
    first_same None None x y = tt
    first_same None (Some r) x y =
        let i = is.onto y.0 y.2.within in
        let t : has_two (signal_at n (f i.0)) ≡ true = ap (λ j. has_two (signal_at n j)) i.1 ∙ y.2.two in
        let u = two_same i.0 in
        let v = x i.0 in
        cc
    first_same (Some r) None x y =
        let t = x.2.two in
        let u = two_same x.0 in
        let v = y (f x.0) in
        cc
    first_same (Some r) (Some q) x y =
        let i = is.onto y.0 y.2.within in
        let there : has_two (signal_at n (f i.0)) ≡ true = ap (λ j. has_two (signal_at n j)) i.1 ∙ y.2.two in
        let here : has_two (signal_at m i.0) ≡ true = sym (two_same i.0) ∙ there in
        let moved : has_two (signal_at n (f x.0)) ≡ true = two_same x.0 ∙ x.2.two in
        let before : i.0 < x.0 → ⊥ = λ l. let v = x.2.before i.0 l in cc in
        let behind : x.0 < i.0 → ⊥ =
        λ l. let less = is.errors x.0 i.0 l x.2.two here in let v = y.2.before (f x.0) (omega (arith, less, i.1)) in cc in
        let one : i.0 ≡ x.0 = omega (arith, before, behind) in
        let e : r ≡ i.0 = omega (arith, x.1, one) in
        ap f e ∙ i.1 ∙ sym (omega (arith, y.1))

  pub same_shape : (m n : Shape) → IsRenumbered f m n → SameShape Renumbers m n
  same_shape m n is =
      record {
        number = is.number;
        signals = λ i j e.
            subst (λ k. SameSignal Renumbers (signal_at m i) (signal_at n k)) e
            (subst (SameSignal Renumbers (signal_at m i)) (sym (is.signals i)) (signal_same (signal_at m i)));
        two = first_same m n is _ _ (finds 0 m.signals) (finds 0 n.signals);
        driven = subst (AllZip Renumbers m.driven) (sym is.driven) (list_same m.driven);
        inputs = subst (AllZip Renumbers m.inputs) (sym is.inputs) (list_same m.inputs);
      }

  -- Runs

  ending_same : {P : Type 0} (e : Ending P) → SameEnding Renumbers (λ p q. p ≡ q) e (renumbered_ending f e)
  ending_same (Waits p) = record { state = refl; on = same_events Renumbers p.on (map f p.on) (list_same p.on); timeout = refl }
  ending_same (Stops kind) = refl

  turn_same : {P : Type 0} (t : Turn P) → SameTurn Renumbers (λ p q. p ≡ q) t (renumbered_turn f t)
  turn_same t = record { assignments = refl; reports = refl; ending = ending_same t.ending }

  pub same_renumbered : {P : Type 0} (m : Model P) (n : Shape) → IsRenumbered f m.shape n → SameRun Renumbers m (renumbered f m n)
  same_renumbered m n is =
      same_run Renumbers (λ p q. p ≡ q) m (renumbered f m n) (corresponds_over_one_view f (λ p q. p ≡ q) m (renumbered f m n) (same_shape m.shape n is) (AllZip-itself (λ p q. p ≡ q) (λ p. refl) m.processes) (λ p q r c w.
      subst (λ x. SameTurn Renumbers (λ p q. p ≡ q) (m.step p c (seen_through f w)) (renumbered_turn f (m.step x c (seen_through f w)))) r (turn_same (m.step p c (seen_through f w)))))
