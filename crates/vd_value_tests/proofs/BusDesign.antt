-- The design of a bus has no ring.
use Rattle.std.proofs.Common.{◌≡◌, ℕ, zero, suc, ◌<◌, [], ◌∷◌, Some, None, sym, subst, arith}
use Rattle.std.specs.List.{AllByRecursion}
use Rattle.vd_kernel.specs.declared.assignments.Source.TheVariants.{Driver as ByDriver, Port as ByPort}
use Rattle.vd_kernel.specs.Models.{Signal, signal_at}
use Rattle.vd_kernel.specs.Equations.{IsInside}
use Rattle.vd_kernel.specs.Orders.{shape_of, IsRingFree}

module _ (s t u : Signal) (e : s.sources ≡ ByDriver 0 ∷ ByPort 1 ∷ []) (f : t.sources ≡ ByDriver 1 ∷ []) (g : u.sources ≡ []) (a : s.actual ≡ None) (b : t.actual ≡ None) (c : u.actual ≡ Some 0) where
  sources : (i : ℕ) → AllByRecursion (IsInside (λ k. k) i) (signal_at (shape_of (s ∷ t ∷ u ∷ [])) i).sources
  sources zero = subst (AllByRecursion (IsInside (λ k. k) 0)) (sym e) (tt, (omega arith, tt))
  sources (suc zero) = subst (AllByRecursion (IsInside (λ k. k) 1)) (sym f) (tt, tt)
  sources (suc (suc zero)) = subst (AllByRecursion (IsInside (λ k. k) 2)) (sym g) tt
  sources (suc (suc (suc i))) = tt

  actual : (i j : ℕ) → (signal_at (shape_of (s ∷ t ∷ u ∷ [])) i).actual ≡ Some j → j < i
  actual zero j h = cc
  actual (suc zero) j h = cc
  actual (suc (suc zero)) j h = let z : 0 ≡ j = cc in omega arith
  actual (suc (suc (suc i))) j h = cc

  pub bus_ring_free : IsRingFree (shape_of (s ∷ t ∷ u ∷ []))
  bus_ring_free = record { inwards = λ k. k; outwards = λ k. k; ranked = record { sources = sources; actual = actual } }
