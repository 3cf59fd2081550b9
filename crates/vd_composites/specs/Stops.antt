-- What an evaluation gives: something, or what stops it.
use Rattle.std.specs.Prelude.{Result, Ok, Err}
use Rattle.vd_values.specs.declared.scalar.StopKind.{StopKind}

abbrev pub OrStop : Type 0 → Type 0
OrStop A = Result A StopKind

-- one evaluation and then another, of which the first stop counts. (Layers above have stops that say more than a kind.)
infixl 20 ◌>>=◌
abbrev pub ◌>>=◌ : {E A B : Type 0} → Result A E → (A → Result B E) → Result B E
◌>>=◌ (Ok x) f = f x
◌>>=◌ (Err e) f = Err e
