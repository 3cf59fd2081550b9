-- Evaluations of which it counts alone whether they stop.
use Rattle.std.proofs.Common.{Bool, Err, List, None, Ok, Option, Some, [], ap, false, refl, true, ◌∙◌, ◌∷◌, ◌≡◌}
use Rattle.std.specs.Prelude.{if◌then◌else◌, map}
use Rattle.vd_composites.specs.Stops.{◌>>=◌}
use Rattle.vd_environments.specs.Got.{Got, all_got}
use Rattle.vd_value_rules.specs.Found.{found}
use Rattle.vd_static_values.specs.Entries.{IsFound}

pub found_of : {A : Type 0} (x : Option A) (g : Got A) → IsFound x g → found g ≡ x
found_of None (Ok y) is = absurd cc
found_of None (Err halt) is = refl
found_of (Some x) g is = ap found is

pub is_found : {A : Type 0} (x : Option A) (g : Got A) → found g ≡ x → IsFound x g
is_found None (Ok y) same = absurd cc
is_found None (Err halt) same = refl
is_found (Some x) (Ok y) same = let e : y ≡ x = cc in ap Ok e
is_found (Some x) (Err halt) same = absurd cc

pub then_found : {A B : Type 0} (g h : Got A) (f k : A → Got B) → found g ≡ found h → ((x : A) → found (f x) ≡ found (k x))
    → found (g >>= f) ≡ found (h >>= k)
then_found (Ok x) (Ok y) f k same each = let e : x ≡ y = cc in each x ∙ ap (λ z. found (k z)) e
then_found (Ok x) (Err halt) f k same each = absurd cc
then_found (Err halt) (Ok y) f k same each = absurd cc
then_found (Err halt) (Err other) f k same each = refl

pub if_found : {A : Type 0} (b : Bool) (g h k : Got A) → found h ≡ found k → found (if b then g else h) ≡ found (if b then g else k)
if_found true g h k same = refl
if_found false g h k same = same

pub then_again : {A B C : Type 0} (g : Got A) (f : A → Got B) (k : B → Got C) → ((g >>= f) >>= k) ≡ (g >>= λ x. f x >>= k)
then_again (Ok x) f k = refl
then_again (Err halt) f k = refl

-- ---- lists

nothing_then : {A B : Type 0} (g : Got A) (h : Got B) (f : A → B → Got (List A)) → found h ≡ None → found (g >>= λ x. h >>= f x) ≡ None
nothing_then (Ok x) (Ok y) f stops = absurd cc
nothing_then (Ok x) (Err halt) f stops = refl
nothing_then (Err halt) h f stops = refl

one_in_steps : {A B : Type 0} (g : Got A) (k : A → Got B) (all : Got (List B)) (firsts : Got (List A)) → found all ≡ found (firsts >>= λ ys. all_got (map k ys))
    → found ((g >>= k) >>= λ z. all >>= λ zs. Ok (z ∷ zs)) ≡ found ((g >>= λ y. firsts >>= λ ys. Ok (y ∷ ys)) >>= λ ys. all_got (map k ys))
one_in_steps (Ok y) k all (Ok ys) same =
    then_found (k y) (k y) (λ z. all >>= λ zs. Ok (z ∷ zs)) (λ z. all_got (map k ys) >>= λ zs. Ok (z ∷ zs)) refl
    (λ z. then_found all (all_got (map k ys)) (λ zs. Ok (z ∷ zs)) (λ zs. Ok (z ∷ zs)) same (λ zs. refl))
one_in_steps (Ok y) k all (Err halt) same = nothing_then (k y) all (λ z zs. Ok (z ∷ zs)) same
one_in_steps (Err halt) k all firsts same = refl

-- each of some values in two steps, or all in the first step and then all in the second
pub all_in_steps : {A B C : Type 0} (f : A → Got B) (k : B → Got C) (xs : List A)
    → found (all_got (map (λ x. f x >>= k) xs)) ≡ found (all_got (map f xs) >>= λ ys. all_got (map k ys))
all_in_steps f k [] = refl
all_in_steps f k (x ∷ xs) = one_in_steps (f x) k (all_got (map (λ y. f y >>= k) xs)) (all_got (map f xs)) (all_in_steps f k xs)
