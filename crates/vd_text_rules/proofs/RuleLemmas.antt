-- The rules of a node, one by one.
use Rattle.std.proofs.Common.{◌≡◌, [], ◌∷◌, Option}
use Rattle.vd_bytes.specs.declared.answers.Refused.{Refused}
use Rattle.vd_walks.specs.Least.{lesser, least_of, refusals}
use Rattle.vd_walks.proofs.LeastLaws.{least_of_refusals}
use Rattle.vd_walks.proofs.OrderLaws.{lesser_brackets, lesser_right}

pub seven_rules : (a b c d e f k : Option Refused)
    → lesser (lesser (lesser a b) (lesser c d)) (lesser (lesser e f) k) ≡ least_of (refusals (a ∷ b ∷ c ∷ d ∷ e ∷ f ∷ k ∷ []))
seven_rules a b c d e f k = simp (least_of_refusals, lesser_right, lesser_brackets)
