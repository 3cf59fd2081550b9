-- Lists whose items go together, place by place.
use Rattle.std.proofs.Common.{◌≡◌, Bool, List, [], ◌∷◌, ◌++◌, map, refl}
use Rattle.std.specs.List.{AllZip, list_any, flat_map}

-- items that give the same make lists that give the same
pub same_map : {A B C : Type 0} (R : A → B → Type 0) (f : A → C) (g : B → C) → ((x : A) (y : B) → R x y → f x ≡ g y) → (xs : List A) (ys : List B) → AllZip R xs ys → map f xs ≡ map g ys
same_map R f g h [] [] z = refl
same_map R f g h [] (y ∷ ys) z = absurd z
same_map R f g h (x ∷ xs) [] z = absurd z
same_map R f g h (x ∷ xs) (y ∷ ys) z = let a = h x y z.0 in let b = same_map R f g h xs ys z.1 in cc

pub same_flat_map : {A B C : Type 0} (R : A → B → Type 0) (f : A → List C) (g : B → List C) → ((x : A) (y : B) → R x y → f x ≡ g y) → (xs : List A) (ys : List B) → AllZip R xs ys → flat_map f xs ≡ flat_map g ys
same_flat_map R f g h [] [] z = refl
same_flat_map R f g h [] (y ∷ ys) z = absurd z
same_flat_map R f g h (x ∷ xs) [] z = absurd z
same_flat_map R f g h (x ∷ xs) (y ∷ ys) z = let a = h x y z.0 in let b = same_flat_map R f g h xs ys z.1 in cc

pub same_list_any : {A B : Type 0} (R : A → B → Type 0) (f : A → Bool) (g : B → Bool) → ((x : A) (y : B) → R x y → f x ≡ g y) → (xs : List A) (ys : List B) → AllZip R xs ys → list_any f xs ≡ list_any g ys
same_list_any R f g h [] [] z = refl
same_list_any R f g h [] (y ∷ ys) z = absurd z
same_list_any R f g h (x ∷ xs) [] z = absurd z
same_list_any R f g h (x ∷ xs) (y ∷ ys) z = let a = h x y z.0 in let b = same_list_any R f g h xs ys z.1 in cc

-- and lists that go together again
pub AllZip-maps : {A B C D : Type 0} (R : A → B → Type 0) (S : C → D → Type 0) (f : A → C) (g : B → D) → ((x : A) (y : B) → R x y → S (f x) (g y)) → (xs : List A) (ys : List B) → AllZip R xs ys → AllZip S (map f xs) (map g ys)
AllZip-maps R S f g h [] [] z = tt
AllZip-maps R S f g h [] (y ∷ ys) z = absurd z
AllZip-maps R S f g h (x ∷ xs) [] z = absurd z
AllZip-maps R S f g h (x ∷ xs) (y ∷ ys) z = (h x y z.0, AllZip-maps R S f g h xs ys z.1)

-- a list and what is made of it, and a list and itself
pub AllZip-to_map : {A B : Type 0} (R : A → B → Type 0) (f : A → B) → ((x : A) → R x (f x)) → (xs : List A) → AllZip R xs (map f xs)
AllZip-to_map R f h [] = tt
AllZip-to_map R f h (x ∷ xs) = (h x, AllZip-to_map R f h xs)

pub AllZip-itself : {A : Type 0} (R : A → A → Type 0) → ((x : A) → R x x) → (xs : List A) → AllZip R xs xs
AllZip-itself R h [] = tt
AllZip-itself R h (x ∷ xs) = (h x, AllZip-itself R h xs)

pub AllZip-append : {A B : Type 0} (R : A → B → Type 0) (xs xs' : List A) (ys ys' : List B) → AllZip R xs ys → AllZip R xs' ys' → AllZip R (xs ++ xs') (ys ++ ys')
AllZip-append R [] xs' [] ys' z w = w
AllZip-append R [] xs' (y ∷ ys) ys' z w = absurd z
AllZip-append R (x ∷ xs) xs' [] ys' z w = absurd z
AllZip-append R (x ∷ xs) xs' (y ∷ ys) ys' z w = (z.0, AllZip-append R xs xs' ys ys' z.1 w)

-- lists that go together through a third one
pub AllZip-through : {A B C : Type 0} (R : A → B → Type 0) (S : B → C → Type 0) (T : A → C → Type 0) → ((x : A) (y : B) (z : C) → R x y → S y z → T x z) → (xs : List A) (ys : List B) (zs : List C) → AllZip R xs ys → AllZip S ys zs → AllZip T xs zs
AllZip-through R S T h [] [] [] r s = tt
AllZip-through R S T h [] [] (z ∷ zs) r s = absurd s
AllZip-through R S T h [] (y ∷ ys) zs r s = absurd r
AllZip-through R S T h (x ∷ xs) [] zs r s = absurd r
AllZip-through R S T h (x ∷ xs) (y ∷ ys) [] r s = absurd s
AllZip-through R S T h (x ∷ xs) (y ∷ ys) (z ∷ zs) r s = (h x y z r.0 s.0, AllZip-through R S T h xs ys zs r.1 s.1)

-- lists that go together in one way, and so in another
pub AllZip-implies : {A B : Type 0} (R S : A → B → Type 0) → ((x : A) (y : B) → R x y → S x y) → (xs : List A) (ys : List B) → AllZip R xs ys → AllZip S xs ys
AllZip-implies R S h [] [] z = tt
AllZip-implies R S h [] (y ∷ ys) z = absurd z
AllZip-implies R S h (x ∷ xs) [] z = absurd z
AllZip-implies R S h (x ∷ xs) (y ∷ ys) z = (h x y z.0, AllZip-implies R S h xs ys z.1)
