-- Evaluations one after the other, and lists.
use Rattle.std.proofs.Common.{Bool, true, false, List, [], ◌∷◌, ◌++◌}
use Rattle.std.specs.Prelude.{Result, Ok, Err, IfOk, map, if◌then◌else◌}
use Rattle.std.specs.List.{AllByRecursion}
use Rattle.vd_composites.specs.Stops.{OrStop, ◌>>=◌}
use Rattle.vd_environments.specs.Got.{got}

-- what comes after something that holds, or after anything
pub after : {A B E : Type 0} (R : A → Type 0) (S : B → Type 0) (g : Result A E) (f : A → Result B E) → IfOk g R → ((x : A) → R x → IfOk (f x) S) → IfOk (g >>= f) S
after R S (Ok x) f h k = k x h
after R S (Err s) f h k = tt

pub after_any : {A B E : Type 0} (S : B → Type 0) (g : Result A E) (f : A → Result B E) → ((x : A) → IfOk (f x) S) → IfOk (g >>= f) S
after_any S (Ok x) f k = k x
after_any S (Err s) f k = tt

pub got_keeps : {A : Type 0} (S : A → Type 0) (g : OrStop A) → IfOk g S → IfOk (got g) S
got_keeps S (Ok x) h = h
got_keeps S (Err s) h = tt

pub either : {A E : Type 0} (S : A → Type 0) (b : Bool) (x y : Result A E) → IfOk x S → IfOk y S → IfOk (if b then x else y) S
either S true x y h k = h
either S false x y h k = k

pub joined : {A : Type 0} (R : A → Type 0) (xs ys : List A) → AllByRecursion R xs → AllByRecursion R ys → AllByRecursion R (xs ++ ys)
joined R [] ys h k = k
joined R (x ∷ xs) ys h k = (h.0, joined R xs ys h.1 k)

pub mapped : {A B : Type 0} (R : A → Type 0) (S : B → Type 0) (f : A → B) → ((x : A) → R x → S (f x)) → (xs : List A) → AllByRecursion R xs → AllByRecursion S (map f xs)
mapped R S f k [] h = tt
mapped R S f k (x ∷ xs) h = (k x h.0, mapped R S f k xs h.1)

pub weaker : {A : Type 0} (R S : A → Type 0) → ((x : A) → R x → S x) → (xs : List A) → AllByRecursion R xs → AllByRecursion S xs
weaker R S k [] h = tt
weaker R S k (x ∷ xs) h = (k x h.0, weaker R S k xs h.1)
