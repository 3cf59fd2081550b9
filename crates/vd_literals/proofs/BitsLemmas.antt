-- Elements of bits.
use Rattle.std.proofs.Common.{◌≡◌, ℕ, zero, suc, ◌+◌, ◌-◌, ◌*◌, ◌/◌, ◌%◌, ◌^◌, ◌<◌, true, List, [], ◌∷◌, refl, sym, subst, arith}
use Rattle.std.specs.List.{list_all}
use Rattle.vd_trees.specs.declared.revision.Revision.{Revision}
use Rattle.vd_trees.specs.declared.revision.Revision.TheVariants.{V2019, V1993}
use Rattle.vd_literals.specs.Bits.{is_taken, binary}

all_taken : (width : ℕ) (bs : List ℕ) → list_all (is_taken V2019 width) bs ≡ true
all_taken width [] = refl
all_taken width (b ∷ bs) = all_taken width bs

pub takes_all : (r : Revision) (width : ℕ) (bs : List ℕ) → r ≡ V2019 → true ≡ list_all (is_taken r width) bs
takes_all r width bs e = subst (λ q. true ≡ list_all (is_taken q width) bs) (sym e) (sym (all_taken width bs))

pub binary-step : (k n : ℕ) → 0 < k → binary k n ≡ (48 + n / 2 ^ (k - 1) % 2) ∷ binary (k - 1) n
binary-step zero n h = absurd (omega arith)
binary-step (suc k) n h = let e : suc k - 1 ≡ k = omega arith in rw e refl

pub small_power : (k : ℕ) → k < 4 → 1 * 2 ^ k % 2 ^ 32 ≡ 2 ^ k
small_power zero h = refl
small_power (suc zero) h = refl
small_power (suc (suc zero)) h = refl
small_power (suc (suc (suc zero))) h = refl
small_power (suc (suc (suc (suc k)))) h = absurd (omega arith)
