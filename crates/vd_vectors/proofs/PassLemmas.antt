-- Evaluations one after another, of which one stops or memory runs out.
use Rattle.std.proofs.Common.{ap}
use Rattle.vd_composites.specs.declared.ends.ValueEnd.{ValueEnd}
use Rattle.vd_composites.specs.declared.ends.ValueEnd.TheVariants.{Stop, Memory}
use Rattle.vd_composites.specs.Stops.{OrStop, ◌>>=◌}
use Rattle.vd_composites.specs.Answers.{Ends}

pub ends_through : {A B : Type 0} (e : ValueEnd) (g : OrStop A) (f : A → OrStop B) → Ends e g → Ends e (g >>= f)
ends_through (Stop k) g f h = ap (λ x. x >>= f) h
ends_through Memory g f h = tt
