-- Marks and conversions.
use Rattle.std.proofs.Common.{◌≡◌, ◌<◌, ◌-◌, ℕ, zero, suc, ◌==◌, sym, ap, arith}
use Rattle.std.specs.Bool.{if◌then◌else◌}
use Rattle.vd_declarations.specs.declared.classes.Class.TheVariants as class
use Rattle.vd_predefined.specs.declared.numbers.TheConstants.{STD_LOGIC_VECTOR}
use Rattle.vd_visible.specs.Sights.{Sight, class_of}
use Rattle.vd_visible.specs.Types.{followed_from}

-- one mark is followed
pub followed_step : (n : ℕ) (s : Sight) (k : ℕ) → 0 < n
    → followed_from n s k ≡ (if k == STD_LOGIC_VECTOR then k else elim (class_of s k) [ class.Subtype mark ↦ followed_from (n - 1) s mark | _ ↦ k ])
followed_step zero s k some = absurd (omega arith)
followed_step (suc n) s k some =
    let one_less : suc n - 1 ≡ n = omega arith in
    ap (λ m. if k == STD_LOGIC_VECTOR then k else elim (class_of s k) [ class.Subtype mark ↦ followed_from m s mark | _ ↦ k ]) (sym one_less)
