-- What the names of some entries mean.
use Rattle.std.proofs.Common.{◌≡◌, inl, inr, ℕ, List, [], ◌∷◌, map, subst}
use Rattle.std.specs.List.{Contains}
use Rattle.vd_regions.specs.Scopes.{Scopes, meant}
use Rattle.vd_regions.specs.Visible.{IsMeant}
use Rattle.vd_regions.proofs.MemberLemmas.{no_member, cons_cases, cons_here, cons_there}

-- members of a mapped list are those of the list, mapped
in_map : {X Y : Type 0} (f : X → Y) (xs : List X) (x : X) → Contains xs x → Contains (map f xs) (f x)
in_map f [] x c = absurd (no_member x c)
in_map f (z ∷ xs) x c = elim (cons_cases z xs x c) [
  | inl e ↦ subst (λ y. Contains (f z ∷ map f xs) (f y)) e (cons_here (f z) (map f xs))
  | inr r ↦ cons_there (f z) (map f xs) (f x) (in_map f xs x r)
]

from_map : {X Y : Type 0} (f : X → Y) (xs : List X) (y : Y) → Contains (map f xs) y → (x : X) × (Contains xs x × (f x ≡ y))
from_map f [] y c = absurd (no_member y c)
from_map f (z ∷ xs) y c = elim (cons_cases (f z) (map f xs) y c) [
  | inl e ↦ (z, (cons_here z xs, e))
  | inr r ↦ let rest = from_map f xs y r in (rest.0, (cons_there z xs rest.0 rest.1.0, rest.1.1))
]

module _ (s : Scopes) where
  pub from_meanings : (ks : List ℕ) (k : ℕ) → Contains (map (meant s) ks) k → IsMeant s (Contains ks) k
  from_meanings ks k c = let found = from_map (meant s) ks k c in record { entry = found.0; found = found.1.0; means = found.1.1 }

  pub in_meanings : (ks : List ℕ) (k : ℕ) → IsMeant s (Contains ks) k → Contains (map (meant s) ks) k
  in_meanings ks k is = subst (Contains (map (meant s) ks)) is.means (in_map (meant s) ks is.entry is.found)

  -- of other entries, which are the same
  pub meant_of : (P Q : ℕ → Type 0) → ((j : ℕ) → P j → Q j) → (k : ℕ) → IsMeant s P k → IsMeant s Q k
  meant_of P Q same k is = record { entry = is.entry; found = same is.entry is.found; means = is.means }
