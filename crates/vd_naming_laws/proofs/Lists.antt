-- What holds of each element of a list.
use Rattle.std.proofs.Common.{◌≡◌, inl, inr, ℕ, Bool, true, false, List, [], ◌∷◌, ◌++◌, map, drop, zero, suc, Option, Some, None, refl, subst, slice_get, if◌then◌else◌}
use Rattle.std.specs.List.{AllByRecursion, Contains, filter, filter_map, flat_map, cons_option}
use Rattle.std.specs.Option.{option_to_list}
use Rattle.vd_readings.proofs.MemberLemmas.{no_member, cons_cases}

abbrev pub OnOption : {X : Type 0} → (X → Type 0) → Option X → Type 0
OnOption P None = Unit {0}
OnOption P (Some x) = P x

pub some_if : {X : Type 0} (P : X → Type 0) (b : Bool) (x : X) → (b ≡ true → P x) → OnOption P (if b then Some x else None)
some_if P true x f = f refl
some_if P false x f = tt

pub list_if : {X : Type 0} (P : X → Type 0) (b : Bool) (xs ys : List X) → AllByRecursion P xs → AllByRecursion P ys → AllByRecursion P (if b then xs else ys)
list_if P true xs ys p q = p
list_if P false xs ys p q = q

pub all_of : {X : Type 0} (P : X → Type 0) → ((x : X) → P x) → (xs : List X) → AllByRecursion P xs
all_of P f [] = tt
all_of P f (x ∷ xs) = (f x, all_of P f xs)

pub all_weaker : {X : Type 0} (P Q : X → Type 0) → ((x : X) → P x → Q x) → (xs : List X) → AllByRecursion P xs → AllByRecursion Q xs
all_weaker P Q f [] p = tt
all_weaker P Q f (x ∷ xs) p = (f x p.0, all_weaker P Q f xs p.1)

pub all_append : {X : Type 0} (P : X → Type 0) (xs ys : List X) → AllByRecursion P xs → AllByRecursion P ys → AllByRecursion P (xs ++ ys)
all_append P [] ys p q = q
all_append P (x ∷ xs) ys p q = (p.0, all_append P xs ys p.1 q)

pub all_map : {X Y : Type 0} (f : X → Y) (P : X → Type 0) (Q : Y → Type 0) → ((x : X) → P x → Q (f x)) → (xs : List X) → AllByRecursion P xs
    → AllByRecursion Q (map f xs)
all_map f P Q g [] p = tt
all_map f P Q g (x ∷ xs) p = (g x p.0, all_map f P Q g xs p.1)

cons_if : {X : Type 0} (P : X → Type 0) (b : Bool) (x : X) (xs : List X) → P x → AllByRecursion P xs → AllByRecursion P (if b then x ∷ xs else xs)
cons_if P true x xs p ps = (p, ps)
cons_if P false x xs p ps = ps

pub all_filter : {X : Type 0} (P : X → Type 0) (test : X → Bool) (xs : List X) → AllByRecursion P xs → AllByRecursion P (filter test xs)
all_filter P test [] p = tt
all_filter P test (x ∷ xs) p = cons_if P (test x) x (filter test xs) p.0 (all_filter P test xs p.1)

passes_if : {X : Type 0} (test : X → Bool) (b : Bool) (x : X) (xs : List X) → (b ≡ true → test x ≡ true) → AllByRecursion (λ y. test y ≡ true) xs
    → AllByRecursion (λ y. test y ≡ true) (if b then x ∷ xs else xs)
passes_if test true x xs p ps = (p refl, ps)
passes_if test false x xs p ps = ps

pub filter_passes : {X : Type 0} (test : X → Bool) (xs : List X) → AllByRecursion (λ y. test y ≡ true) (filter test xs)
filter_passes test [] = tt
filter_passes test (x ∷ xs) = passes_if test (test x) x (filter test xs) (λ e. e) (filter_passes test xs)

all_cons_option : {X : Type 0} (P : X → Type 0) (x : Option X) (xs : List X) → OnOption P x → AllByRecursion P xs → AllByRecursion P (cons_option x xs)
all_cons_option P None xs p ps = ps
all_cons_option P (Some x) xs p ps = (p, ps)

pub all_filter_map : {X Y : Type 0} (f : X → Option Y) (P : X → Type 0) (Q : Y → Type 0) → ((x : X) → P x → OnOption Q (f x)) → (xs : List X)
    → AllByRecursion P xs → AllByRecursion Q (filter_map f xs)
all_filter_map f P Q g [] p = tt
all_filter_map f P Q g (x ∷ xs) p = all_cons_option Q (f x) (filter_map f xs) (g x p.0) (all_filter_map f P Q g xs p.1)

pub all_flat_map : {X Y : Type 0} (f : X → List Y) (P : X → Type 0) (Q : Y → Type 0) → ((x : X) → P x → AllByRecursion Q (f x)) → (xs : List X)
    → AllByRecursion P xs → AllByRecursion Q (flat_map f xs)
all_flat_map f P Q g [] p = tt
all_flat_map f P Q g (x ∷ xs) p = all_append Q (f x) (flat_map f xs) (g x p.0) (all_flat_map f P Q g xs p.1)

pub all_option : {X : Type 0} (P : X → Type 0) (x : Option X) → OnOption P x → AllByRecursion P (option_to_list x)
all_option P None p = tt
all_option P (Some x) p = (p, tt)

pub all_drop : {X : Type 0} (P : X → Type 0) (n : ℕ) (xs : List X) → AllByRecursion P xs → AllByRecursion P (drop n xs)
all_drop P zero xs p = p
all_drop P (suc n) [] p = tt
all_drop P (suc n) (x ∷ xs) p = all_drop P n xs p.1

pub all_get : {X : Type 0} (P : X → Type 0) (xs : List X) (n : ℕ) → AllByRecursion P xs → OnOption P (slice_get xs n)
all_get P [] n p = tt
all_get P (x ∷ xs) zero p = p.0
all_get P (x ∷ xs) (suc n) p = all_get P xs n p.1

pub all_contained : {X : Type 0} (P : X → Type 0) (xs : List X) (x : X) → AllByRecursion P xs → Contains xs x → P x
all_contained P [] x p c = absurd (no_member x c)
all_contained P (y ∷ ys) x p c = elim (cons_cases y ys x c) [ inl e ↦ subst P e p.0 | inr r ↦ all_contained P ys x p.1 r ]
