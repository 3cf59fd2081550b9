-- What a name means of those that pass a test.
use Rattle.std.proofs.Common.{◌≡◌, ℕ, Bool, None, refl}
use Rattle.std.specs.List.{filter}
use Rattle.vd_naming.specs.Generics.{meant_that}
use Rattle.vd_naming.specs.Selected.{Meant, Means, Breaks}
use Rattle.vd_naming.specs.Kept.{declarations_of, broken_by}

-- where no rule is broken
pub meant_those : (test : ℕ → Bool) (m : Meant) → broken_by m ≡ None → meant_that test m ≡ Means (filter test (declarations_of m))
meant_those test (Means ks) whole = refl
meant_those test (Breaks rule) whole = absurd cc
