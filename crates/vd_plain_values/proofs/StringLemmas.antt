-- Literals in quotation marks.
use Rattle.std.proofs.Common.{◌≡◌, ◌<◌, ◌≤◌, ℕ, ◌+◌, List, [], ◌∷◌, ◌++◌, length, drop, get_or, None, Some, refl, sym, ap, subst, ◌∙◌, drop_of_length-le}
use Rattle.std.specs.Prelude.{Result, Ok, Err, IfOk, slice_index_or}
use Rattle.std.proofs.lemmas.List.{drop_more, append-nil, append_assoc}
use Rattle.vd_values.specs.declared.scalar.Scalar.{Scalar}
use Rattle.vd_values.specs.declared.scalar.Scalar.TheVariants.{Literal}
use Rattle.vd_values.specs.declared.scalar.StopKind.{StopKind}
use Rattle.vd_values.specs.declared.scalar.StopKind.TheVariants.{Range}
use Rattle.vd_forest.specs.Forest.{Forest, nothing}
use Rattle.vd_composites.specs.Stops.{OrStop, ◌>>=◌}
use Rattle.vd_composites.specs.Composites.{Value, One, Array, Fields, Items, none, item, items_of}
use Rattle.vd_composites.specs.Concatenations.{positional, array_on, fit_each}
use Rattle.vd_composites.specs.Subtypes.{Subtype, Scalars, Arrays, Records, fit}
use Rattle.vd_subtypes.specs.Heads.{head_of, fit_head}
use Rattle.vd_subtypes.specs.Positional.{fit_each_head}
use Rattle.vd_environments.specs.Got.{Got, got, senseless, stop}
use Rattle.vd_environments.specs.Environments.{Env}
use Rattle.vd_meaning.specs.Literals.{character, literals_at, position_from, string}
use Rattle.vd_plain_values.specs.declared.environment.Entry.{Entry}
use Rattle.vd_plain_values.specs.declared.environment.SubtypeForm.{SubtypeForm}
use Rattle.vd_plain_values.specs.Plain.{Holds, no_entry, subtype_in, array_in, element_literals_in}
use Rattle.vd_plain_values.specs.Strings.{places_in, array_by, array_in_places, string_in, string_of}

-- ---- places

rest_of : (g : Got (List ℕ)) (made : List ℕ) (n : ℕ) → ((g >>= λ ns. Ok (n ∷ ns)) >>= λ ns. Ok (made ++ ns)) ≡ (g >>= λ ns. Ok ((made ++ n ∷ []) ++ ns))
rest_of (Ok ns) made n = ap Ok (sym (append_assoc made (n ∷ []) ns))
rest_of (Err k) made n = refl

pub one_place : (ls : List (List ℕ)) (cs : List ℕ) (i n : ℕ) (made more : List ℕ) (want : Got (List ℕ)) → i < length cs → Ok n ≡ position_from 0 ls (character (get_or cs i 0)) → more ≡ made ++ n ∷ []
    → (places_in ls (drop i cs) >>= λ ns. Ok (made ++ ns)) ≡ want → (places_in ls (drop (i + 1) cs) >>= λ ns. Ok (more ++ ns)) ≡ want
one_place ls cs i n made more want below found pushed before =
    ap (λ m. places_in ls (drop (i + 1) cs) >>= λ ns. Ok (m ++ ns)) pushed
    ∙ sym (rest_of (places_in ls (drop (i + 1) cs)) made n)
    ∙ ap (λ g. (g >>= λ x. places_in ls (drop (i + 1) cs) >>= λ xs. Ok (x ∷ xs)) >>= λ ns. Ok (made ++ ns)) found
    ∙ ap (λ us. places_in ls us >>= λ ns. Ok (made ++ ns)) (sym (drop_more cs i 0 below)) ∙ before

pub no_place : (ls : List (List ℕ)) (cs : List ℕ) (i : ℕ) (made : List ℕ) (want : Got (List ℕ)) → i < length cs → senseless ≡ position_from 0 ls (character (get_or cs i 0))
    → (places_in ls (drop i cs) >>= λ ns. Ok (made ++ ns)) ≡ want → want ≡ stop Range
no_place ls cs i made want below found before =
    sym before ∙ ap (λ us. places_in ls us >>= λ ns. Ok (made ++ ns)) (drop_more cs i 0 below)
    ∙ ap (λ g. (g >>= λ x. places_in ls (drop (i + 1) cs) >>= λ xs. Ok (x ∷ xs)) >>= λ ns. Ok (made ++ ns)) (sym found)

pub all_places : (ls : List (List ℕ)) (cs : List ℕ) (i : ℕ) (made : List ℕ) (want : Got (List ℕ)) → length cs ≤ i → (places_in ls (drop i cs) >>= λ ns. Ok (made ++ ns)) ≡ want → want ≡ Ok made
all_places ls cs i made want end before = sym before ∙ ap (λ us. places_in ls us >>= λ ns. Ok (made ++ ns)) (drop_of_length-le cs end) ∙ ap Ok (append-nil made)

-- ---- values

pub one_literal : (ns : List ℕ) (i : ℕ) (made more : List (Value Scalar)) (v : Value Scalar) → i < length ns → v ≡ One (Literal (get_or ns i 0)) → more ≡ made ++ v ∷ []
    → made ++ literals_at (drop i ns) ≡ literals_at ns → more ++ literals_at (drop (i + 1) ns) ≡ literals_at ns
one_literal ns i made more v below is pushed before =
    ap (λ m. m ++ literals_at (drop (i + 1) ns)) pushed ∙ append_assoc made (v ∷ []) (literals_at (drop (i + 1) ns))
    ∙ ap (λ x. made ++ x ∷ literals_at (drop (i + 1) ns)) is ∙ ap (λ us. made ++ literals_at us) (sym (drop_more ns i 0 below)) ∙ before

pub all_literals : (ns : List ℕ) (i : ℕ) (made : List (Value Scalar)) → length ns ≤ i → made ++ literals_at (drop i ns) ≡ literals_at ns → made ≡ literals_at ns
all_literals ns i made end before = sym (append-nil made) ∙ ap (λ us. made ++ literals_at us) (sym (drop_of_length-le ns end)) ∙ before

-- ---- arrays

fits_by_head : (s : Subtype) (v : Value Scalar) → fit s v ≡ fit_head (head_of s) v
fits_by_head (Scalars s) (One x) = refl
fits_by_head (Scalars s) (Array b vs) = refl
fits_by_head (Scalars s) (Fields vs) = refl
fits_by_head (Arrays index None element) (One x) = refl
fits_by_head (Arrays index None element) (Array b vs) = refl
fits_by_head (Arrays index None element) (Fields vs) = refl
fits_by_head (Arrays index (Some c) element) (One x) = refl
fits_by_head (Arrays index (Some c) element) (Array b vs) = refl
fits_by_head (Arrays index (Some c) element) (Fields vs) = refl
fits_by_head (Records fields) (One x) = refl
fits_by_head (Records fields) (Array b vs) = refl
fits_by_head (Records fields) (Fields vs) = refl

each_by_head : (s : Subtype) (vs : Items Scalar) → fit_each s vs ≡ fit_each_head (head_of s) vs
each_by_head s none = refl
each_by_head s (item v vs) =
    (λ i. fits_by_head s v i >>= λ w. fit_each s vs >>= λ ws. Ok (item w ws)) ∙ ap (λ g. fit_head (head_of s) v >>= λ w. g >>= λ ws. Ok (item w ws)) (each_by_head s vs)

-- an array from literals, by its head
pub positional_same : (s : Subtype) (ns : List ℕ) → positional s (items_of (literals_at ns)) ≡ array_by (array_in s) ns
positional_same (Scalars s) ns = refl
positional_same (Arrays index bounds element) ns = ap (λ g. g >>= array_on index) (each_by_head element (items_of (literals_at ns)))
positional_same (Records fields) ns = refl

pub string_made : {E : Type 0} (f : Forest SubtypeForm) (text ns : List ℕ) (ls : List (List ℕ)) (answer : Result (OrStop (Value Scalar)) E) → ls ≡ element_literals_in f → places_in ls text ≡ Ok ns
    → IfOk answer (λ r. r ≡ array_in_places f ns) → IfOk answer (λ r. string_in f text ≡ got r)
string_made f text ns ls (Ok r) same found made =
    ap (λ g. g >>= λ ms. got (positional (subtype_in f) (items_of (literals_at ms)))) (ap (λ x. places_in x text) (sym same) ∙ found)
    ∙ ap got (positional_same (subtype_in f) ns ∙ sym made)
string_made f text ns ls (Err e) same found made = tt

pub string_stops : (f : Forest SubtypeForm) (text : List ℕ) (ls : List (List ℕ)) (k : StopKind) → ls ≡ element_literals_in f → places_in ls text ≡ stop k → string_in f text ≡ got (Err k)
string_stops f text ls k same found = ap (λ g. g >>= λ ms. got (positional (subtype_in f) (items_of (literals_at ms)))) (ap (λ x. places_in x text) (sym same) ∙ found)

-- the meaning, by what the environment has
string_held : (e : Env) (entries : List Entry) (d : ℕ) (text : List ℕ) → Holds entries e → string_of (Some d) e text ≡ string_in (slice_index_or entries d no_entry).subtype text
string_held e entries d text holds =
    ap (λ s. string s (e.denotes d).make text) (holds d).subtype
    ∙ ap (λ ls. places_in ls text >>= λ ns. got (positional (subtype_in (slice_index_or entries d no_entry).subtype) (items_of (literals_at ns)))) (holds d).element_literals

pub string_answer : {E : Type 0} (e : Env) (entries : List Entry) (d m : ℕ) (text : List ℕ) (f : Forest SubtypeForm) (answer : Result (OrStop (Value Scalar)) E) → Holds entries e → d ≡ m → (slice_index_or entries d no_entry).subtype ≡ f
    → IfOk answer (λ r. string_in f text ≡ got r) → IfOk answer (λ r. string_of (Some m) e text ≡ got r)
string_answer e entries d m text f answer holds number same made =
    subst (λ g. IfOk answer (λ r. g ≡ got r)) (ap (λ x. string_in x text) (sym same) ∙ sym (string_held e entries d text holds) ∙ ap (λ k. string_of (Some k) e text) number) made

shapeless : (text : List ℕ) → string_in nothing text ≡ got (Err Range)
shapeless [] = refl
shapeless (c ∷ cs) = refl

pub string_missing : (e : Env) (entries : List Entry) (d m : ℕ) (text : List ℕ) → Holds entries e → d ≡ m → (slice_index_or entries d no_entry).subtype ≡ nothing → string_of (Some m) e text ≡ got (Err Range)
string_missing e entries d m text holds number empty = ap (λ k. string_of (Some k) e text) (sym number) ∙ string_held e entries d text holds ∙ ap (λ f. string_in f text) empty ∙ shapeless text
