-- Operators with no operand, or with more than two.
use Rattle.std.proofs.Common.{◌≡◌, ◌≢◌, ◌<◌, ◌≤◌, ℕ, List, [], ◌∷◌, length, map, Option, refl, sym, ap, ◌∙◌, arith}
use Rattle.vd_meaning.specs.Tables.{Table}
use Rattle.vd_meaning.specs.Operators.{Symbol, Operation, NoOperation, of_operands}

other_count : (t : Table) (s : Symbol) (r : Option ℕ) (f : ℕ → Option ℕ) (ps : List ℕ) → length ps ≢ 1 → length ps ≢ 2 → NoOperation ≡ of_operands t s r (map f ps)
other_count t s r f [] one two = refl
other_count t s r f (p ∷ []) one two = absurd (one refl)
other_count t s r f (p ∷ q ∷ []) one two = absurd (two refl)
other_count t s r f (p ∷ q ∷ o ∷ ps) one two = refl

pub other_operands : (t : Table) (s : Symbol) (r : Option ℕ) (f : ℕ → Option ℕ) (qs ps : List ℕ) → qs ≡ ps → length qs ≢ 1 → length qs ≢ 2 → NoOperation ≡ of_operands t s r (map f ps)
other_operands t s r f qs ps is one two = other_count t s r f qs one two ∙ ap (λ xs. of_operands t s r (map f xs)) is
