-- The design of two signals has no ring.
use Rattle.std.proofs.Common.{◌≡◌, ℕ, zero, suc, ◌<◌, [], ◌∷◌, Some, None, sym, subst}
use Rattle.std.specs.List.{AllByRecursion}
use Rattle.vd_kernel.specs.declared.assignments.Source.TheVariants.{Driver as ByDriver}
use Rattle.vd_kernel.specs.Models.{Signal, signal_at}
use Rattle.vd_kernel.specs.Equations.{IsInside}
use Rattle.vd_kernel.specs.Orders.{shape_of, IsRingFree}

module _ (s t : Signal) (e : s.sources ≡ ByDriver 0 ∷ []) (f : t.sources ≡ ByDriver 1 ∷ []) (a : s.actual ≡ None) (b : t.actual ≡ None) where
  sources : (i : ℕ) → AllByRecursion (IsInside (λ k. k) i) (signal_at (shape_of (s ∷ t ∷ [])) i).sources
  sources zero = subst (AllByRecursion (IsInside (λ k. k) 0)) (sym e) (tt, tt)
  sources (suc zero) = subst (AllByRecursion (IsInside (λ k. k) 1)) (sym f) (tt, tt)
  sources (suc (suc i)) = tt

  actual : (i j : ℕ) → (signal_at (shape_of (s ∷ t ∷ [])) i).actual ≡ Some j → j < i
  actual zero j h = cc
  actual (suc zero) j h = cc
  actual (suc (suc i)) j h = cc

  pub pair_ring_free : IsRingFree (shape_of (s ∷ t ∷ []))
  pair_ring_free = record { inwards = λ k. k; outwards = λ k. k; ranked = record { sources = sources; actual = actual } }
