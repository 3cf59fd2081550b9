-- Laws of lists whose elements all have a property.
use Rattle.std.proofs.Common.{◌≡◌, ℕ, List, [], ◌∷◌, ◌++◌, map, refl, sym, ap, subst, ◌∙◌}
use Rattle.std.specs.List.{AllByRecursion}
use Rattle.std.proofs.lemmas.List.{map-append}
use Rattle.vd_first_lex.specs.declared.tokens.Token.{Token}
use Rattle.vd_first_grammar.specs.Conditions.{texts_of}

-- equal propositions hold alike
pub holds : {A B : Type 0} → A ≡ B → A → B
holds same h = subst (λ (A : Type 0). A) same h

pub all_append : {X : Type 0} (P : X → Type 0) (xs ys : List X) → AllByRecursion P xs → AllByRecursion P ys → AllByRecursion P (xs ++ ys)
all_append P [] ys h k = k
all_append P (x ∷ xs) ys h k = (h.0, all_append P xs ys h.1 k)

pub all_parts : {X : Type 0} (P : X → Type 0) (xs ys : List X) → AllByRecursion P (xs ++ ys) → AllByRecursion P xs × AllByRecursion P ys
all_parts P [] ys both = (tt, both)
all_parts P (x ∷ xs) ys both = let rest = all_parts P xs ys both.1 in ((both.0, rest.0), rest.1)

pub all_mapped : {X Y : Type 0} (P : X → Type 0) (Q : Y → Type 0) (f : X → Y) → ((x : X) → P x → Q (f x)) → (xs : List X) → AllByRecursion P xs → AllByRecursion Q (map f xs)
all_mapped P Q f each [] h = tt
all_mapped P Q f each (x ∷ xs) h = (each x h.0, all_mapped P Q f each xs h.1)

pub all_unmapped : {X Y : Type 0} (P : X → Type 0) (Q : Y → Type 0) (f : X → Y) → ((x : X) → Q (f x) → P x) → (xs : List X) → AllByRecursion Q (map f xs) → AllByRecursion P xs
all_unmapped P Q f each [] h = tt
all_unmapped P Q f each (x ∷ xs) h = (each x h.0, all_unmapped P Q f each xs h.1)

pub all_as_mapped : {X Y : Type 0} (P : X → Type 0) (Q : Y → Type 0) (f : X → Y) → ((x : X) → Q (f x) ≡ P x) → (xs : List X) → AllByRecursion Q (map f xs) ≡ AllByRecursion P xs
all_as_mapped P Q f each [] = refl
all_as_mapped P Q f each (x ∷ xs) = λ i. each x i × all_as_mapped P Q f each xs i

-- what is asked of texts alone, is asked of a list of tokens as of the list of their texts
pub all_texts : (Q : List ℕ → Type 0) (ts : List Token) → AllByRecursion (λ t. Q t.text) ts ≡ AllByRecursion Q (texts_of ts)
all_texts Q [] = refl
all_texts Q (t ∷ ts) = ap (λ (A : Type 0). Q t.text × A) (all_texts Q ts)

pub all_weaker : {X : Type 0} (P Q : X → Type 0) → ((x : X) → P x → Q x) → (xs : List X) → AllByRecursion P xs → AllByRecursion Q xs
all_weaker P Q each [] h = tt
all_weaker P Q each (x ∷ xs) h = (each x h.0, all_weaker P Q each xs h.1)

-- lists with the same texts, one behind the other
pub texts_append : (ts us vs ws : List Token) → texts_of ts ≡ texts_of vs → texts_of us ≡ texts_of ws → texts_of (ts ++ us) ≡ texts_of (vs ++ ws)
texts_append ts us vs ws h k = map-append (λ (t : Token). t.text) ts us ∙ (λ i. h i ++ k i) ∙ sym (map-append (λ (t : Token). t.text) vs ws)
