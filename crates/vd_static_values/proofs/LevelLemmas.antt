-- Conversions of arrays of arrays, level by level.
use Rattle.std.proofs.Common.{Err, List, None, Ok, Option, Some, [], ap, arith, drop, drop_of_length-le, false, get_or, length, refl, subst, suc, sym, take, ℕ, ◌+◌, ◌++◌, ◌<◌, ◌≤◌, ◌∙◌, ◌∷◌, ◌≡◌}
use Rattle.std.proofs.lemmas.List.{append-nil, append_assoc, drop-append-le, length-append, length-map, map-append, take-append-le, take_all}
use Rattle.std.specs.Global.{Global}
use Rattle.std.specs.Prelude.{Vec, is_some, map, true}
use Rattle.vd_composites.specs.Composites.{Array, Fields, Items, One, Value, bounds_of, count, item, items_of, joined, listed, none}
use Rattle.vd_composites.specs.Ranges.{length_of}
use Rattle.vd_composites.specs.Stops.{◌>>=◌}
use Rattle.vd_composites.specs.Subtypes.{Arrays, Records, Scalars, Subtype}
use Rattle.vd_composites.proofs.ItemLemmas.{joined_assoc, joined_none}
use Rattle.vd_composites.specs.declared.ranges.Bounds.{Bounds}
use Rattle.vd_composites.specs.declared.scalars.ScalarSubtype.{ScalarSubtype}
use Rattle.vd_environments.specs.Environments.{Indicated, element_make}
use Rattle.vd_environments.specs.Got.{Got, all_got, got, is_got}
use Rattle.vd_value_rules.specs.Indicated.{element_indicated, index_of}
use Rattle.vd_value_rules.specs.Found.{found}
use Rattle.vd_meaning.specs.Names.{all_converted, converted, element_of_subtype, whole_converted, with_elements}
use Rattle.vd_value_rules.specs.Lengths.{or_none}
use Rattle.vd_static_values.specs.Entries.{IsFound}
use Rattle.vd_static_values.proofs.ElementLemmas.{length_listed, split}
use Rattle.vd_static_values.proofs.FoundLemmas.{all_in_steps, is_found, then_again, then_found}
use Rattle.vd_static_values.specs.Levels.{AreSized, all_whole, closed, elements_of, holding, inside_converted, lists_in, regrouped, size_of_array}
use Rattle.vd_subtypes.specs.Heads.{fit_head, head_of}
use Rattle.vd_subtypes.specs.declared.heads.SubtypeHead.{SubtypeHead}
use Rattle.vd_values.specs.declared.scalar.Scalar.{Scalar}

-- ---- items

-- one value more was gathered
pub one_gathered : (vs : List (Value Scalar)) (i : ℕ) (v : Value Scalar) (before after want : Items Scalar) → i < length vs → v ≡ get_or vs i v → after ≡ joined before (item v none)
    → joined before (items_of (drop i vs)) ≡ want → joined after (items_of (drop (i + 1) vs)) ≡ want
one_gathered vs i v before after want below here adds so_far =
    ap (λ us. joined us (items_of (drop (i + 1) vs))) adds ∙ joined_assoc before (item v none) (items_of (drop (i + 1) vs))
    ∙ ap (λ us. joined before (items_of us)) (sym (split vs i v below here)) ∙ so_far

pub all_gathered : (vs : List (Value Scalar)) (i : ℕ) (made want : Items Scalar) → length vs ≤ i → joined made (items_of (drop i vs)) ≡ want → made ≡ want
all_gathered vs i made want end so_far = sym (joined_none made) ∙ ap (λ us. joined made (items_of us)) (sym (drop_of_length-le vs end)) ∙ so_far

-- ---- arrays with other elements

pub all_regrouped : (arrays : List (Value Scalar)) (i : ℕ) (made left want : List (Value Scalar)) → length arrays ≤ i → made ++ regrouped (drop i arrays) left ≡ want → made ≡ want
all_regrouped arrays i made left want end so_far =
    sym (append-nil made) ∙ ap (λ us. made ++ regrouped us left) (sym (drop_of_length-le arrays end)) ∙ so_far

held : (array : Value Scalar) (b : Bounds) (ws : List (Value Scalar)) → bounds_of array ≡ Some b → holding array ws ≡ Array b (items_of ws)
held (One x) b ws is = absurd cc
held (Fields vs) b ws is = absurd cc
held (Array c vs) b ws is = let same : c ≡ b = cc in ap (λ d. Array d (items_of ws)) same

sized_by : (array : Value Scalar) (b : Bounds) → bounds_of array ≡ Some b → size_of_array array ≡ length_of b
sized_by (One x) b is = absurd cc
sized_by (Fields vs) b is = absurd cc
sized_by (Array c vs) b is = let same : c ≡ b = cc in ap length_of same

pub one_regrouped : (arrays : List (Value Scalar)) (i : ℕ) (array made : Value Scalar) (b : Bounds) (n : ℕ) (before after left own rest want : List (Value Scalar)) → i < length arrays
    → array ≡ get_or arrays i array → bounds_of array ≡ Some b → n ≡ length_of b → own ≡ take n left → rest ≡ drop n left → made ≡ Array b (items_of own) → after ≡ before ++ made ∷ []
    → before ++ regrouped (drop i arrays) left ≡ want → after ++ regrouped (drop (i + 1) arrays) rest ≡ want
one_regrouped arrays i array made b n before after left own rest want below here bounded long front back is adds so_far =
    let size : size_of_array array ≡ n = sized_by array b bounded ∙ sym long in
    let first : made ≡ holding array (take (size_of_array array) left) =
    is ∙ sym (held array b own bounded) ∙ ap (holding array) (front ∙ ap (λ k. take k left) (sym size)) in
    let others : rest ≡ drop (size_of_array array) left = back ∙ ap (λ k. drop k left) (sym size) in
    ap (λ us. us ++ regrouped (drop (i + 1) arrays) rest) adds ∙ append_assoc before (made ∷ []) (regrouped (drop (i + 1) arrays) rest)
    ∙ ap (λ u. before ++ u ∷ regrouped (drop (i + 1) arrays) rest) first
    ∙ ap (λ us. before ++ holding array (take (size_of_array array) left) ∷ regrouped (drop (i + 1) arrays) us) others
    ∙ ap (λ us. before ++ regrouped us left) (sym (split arrays i array below here)) ∙ so_far

closed_push : (outer : List (List (Value Scalar))) (arrays ws : List (Value Scalar)) → closed (outer ++ arrays ∷ []) ws ≡ closed outer (regrouped arrays ws)
closed_push [] arrays ws = refl
closed_push (first ∷ outer) arrays ws = ap (regrouped first) (closed_push outer arrays ws)

lists_push : (outer : List (Vec (Value Scalar) Global)) (arrays : Vec (Value Scalar) Global) → lists_in (outer ++ arrays ∷ []) ≡ lists_in outer ++ arrays.items ∷ []
lists_push outer arrays = map-append (λ v. v.items) outer (arrays ∷ [])

pub one_closed : (old new : List (Vec (Value Scalar) Global)) (arrays : Vec (Value Scalar) Global) (values made want : List (Value Scalar)) → old ≡ new ++ arrays ∷ []
    → made ≡ regrouped arrays.items values → closed (lists_in old) values ≡ want → closed (lists_in new) made ≡ want
one_closed old new arrays values made want popped is so_far =
    ap (closed (lists_in new)) is ∙ sym (closed_push (lists_in new) arrays.items values)
    ∙ ap (λ ls. closed ls values) (sym (ap lists_in popped ∙ lists_push new arrays)) ∙ so_far

pub all_closed : (outer : List (Vec (Value Scalar) Global)) (values want : List (Value Scalar)) → length outer ≡ 0 → closed (lists_in outer) values ≡ want → values ≡ want
all_closed [] values want empty so_far = so_far
all_closed (v ∷ outer) values want empty so_far = absurd (omega arith)

-- ---- the elements of sized arrays, each evaluated

same_list : {A : Type 0} (g : Got (List A)) → g ≡ (g >>= λ ws. Ok ([] ++ ws))
same_list (Ok ws) = refl
same_list (Err halt) = refl

append_at : {A : Type 0} (x : A) (h k : Got (List A))
    → ((h >>= λ us. k >>= λ ws. Ok (us ++ ws)) >>= λ xs. Ok (x ∷ xs)) ≡ ((h >>= λ us. Ok (x ∷ us)) >>= λ us. k >>= λ ws. Ok (us ++ ws))
append_at x (Ok us) (Ok ws) = refl
append_at x (Ok us) (Err halt) = refl
append_at x (Err halt) k = refl

append_step : {A : Type 0} (g : Got A) (h k all : Got (List A)) → all ≡ (h >>= λ us. k >>= λ ws. Ok (us ++ ws))
    → (g >>= λ x. all >>= λ xs. Ok (x ∷ xs)) ≡ ((g >>= λ x. h >>= λ us. Ok (x ∷ us)) >>= λ us. k >>= λ ws. Ok (us ++ ws))
append_step (Ok x) h k all is = ap (λ m. m >>= λ xs. Ok (x ∷ xs)) is ∙ append_at x h k
append_step (Err halt) h k all is = refl

all_append : {A B : Type 0} (f : A → Got B) (xs ys : List A) → all_got (map f (xs ++ ys)) ≡ (all_got (map f xs) >>= λ us. all_got (map f ys) >>= λ ws. Ok (us ++ ws))
all_append f [] ys = same_list (all_got (map f ys))
all_append f (x ∷ xs) ys = append_step (f x) (all_got (map f xs)) (all_got (map f ys)) (all_got (map f (xs ++ ys))) (all_append f xs ys)

length_step : {A : Type 0} (g : Got A) (h : Got (List A)) (xs : List A) (n : ℕ) → ((ys : List A) → h ≡ Ok ys → length ys ≡ n)
    → (g >>= λ x. h >>= λ ys. Ok (x ∷ ys)) ≡ Ok xs → length xs ≡ suc n
length_step (Ok x) (Ok ys) xs n long is = let same : x ∷ ys ≡ xs = cc in ap length (sym same) ∙ ap suc (long ys refl)
length_step (Ok x) (Err halt) xs n long is = absurd cc
length_step (Err halt) h xs n long is = absurd cc

ok_same : {A : Type 0} (x y : A) → (let g : Got A = Ok x in let h : Got A = Ok y in g ≡ h) → x ≡ y
ok_same x y same = cc

all_length : {A : Type 0} (gs : List (Got A)) (xs : List A) → all_got gs ≡ Ok xs → length xs ≡ length gs
all_length [] xs is = ap length (sym (ok_same [] xs is))
all_length (g ∷ gs) xs is = length_step g (all_got gs) xs (length gs) (λ ys. all_length gs ys) is

elements_length : (go : Value Scalar → Got (Value Scalar)) (vs : Items Scalar) (us : List (Value Scalar)) → all_got (map go (listed vs)) ≡ Ok us → length us ≡ count vs
elements_length go vs us is = all_length (map go (listed vs)) us is ∙ length-map (listed vs) go ∙ length_listed vs

converted_step : (g : Got (Value Scalar)) (h : Got (List (Value Scalar))) (all : Got (Items Scalar)) → all ≡ (h >>= λ ws. Ok (items_of ws))
    → (g >>= λ w. all >>= λ ws. Ok (item w ws)) ≡ ((g >>= λ w. h >>= λ ws. Ok (w ∷ ws)) >>= λ ws. Ok (items_of ws))
converted_step (Ok w) (Ok ws) all is = ap (λ m. m >>= λ us. Ok (item w us)) is
converted_step (Ok w) (Err halt) all is = ap (λ m. m >>= λ us. Ok (item w us)) is
converted_step (Err halt) h all is = refl

converted_list : (go : Value Scalar → Got (Value Scalar)) (vs : Items Scalar) → all_converted go vs ≡ (all_got (map go (listed vs)) >>= λ ws. Ok (items_of ws))
converted_list go none = refl
converted_list go (item v vs) = converted_step (go v) (all_got (map go (listed vs))) (all_converted go vs) (converted_list go vs)

take_front : (us ws : List (Value Scalar)) (n : ℕ) → length us ≡ n → take n (us ++ ws) ≡ us
take_front us ws n long = let fits : n ≤ length us = omega arith in take-append-le n us ws fits ∙ take_all n us (omega arith)

drop_front : (us ws : List (Value Scalar)) (n : ℕ) → length us ≡ n → drop n (us ++ ws) ≡ ws
drop_front us ws n long =
    let fits : n ≤ length us = omega arith in drop-append-le n us ws fits ∙ ap (λ rest. rest ++ ws) (drop_of_length-le us (omega arith))

group_step : (b : Bounds) (vs : Items Scalar) (rest : List (Value Scalar)) (h k : Got (List (Value Scalar))) → ((us : List (Value Scalar)) → h ≡ Ok us → length us ≡ length_of b)
    → (((h >>= λ us. Ok (items_of us)) >>= λ ws. Ok (Array b ws)) >>= λ x. (k >>= λ ws. Ok (regrouped rest ws)) >>= λ xs. Ok (x ∷ xs))
    ≡ ((h >>= λ us. k >>= λ ws. Ok (us ++ ws)) >>= λ ws. Ok (regrouped (Array b vs ∷ rest) ws))
group_step b vs rest (Ok us) (Ok ws) long =
    let size : length us ≡ length_of b = long us refl in
    ap (λ own. Ok (Array b (items_of own) ∷ regrouped rest ws)) (sym (take_front us ws (length_of b) size))
    ∙ ap (λ others. Ok (Array b (items_of (take (length_of b) (us ++ ws))) ∷ regrouped rest others)) (sym (drop_front us ws (length_of b) size))
group_step b vs rest (Ok us) (Err halt) long = refl
group_step b vs rest (Err halt) k long = refl

regrouping : (go : Value Scalar → Got (Value Scalar)) (arrays : List (Value Scalar)) → AreSized arrays
    → all_got (map (with_elements go) arrays) ≡ (all_got (map go (elements_of arrays)) >>= λ ws. Ok (regrouped arrays ws))
regrouping go [] sized = refl
regrouping go (One x ∷ rest) sized = absurd sized.0
regrouping go (Fields vs ∷ rest) sized = absurd sized.0
regrouping go (Array b vs ∷ rest) sized =
    let h : Got (List (Value Scalar)) = all_got (map go (listed vs)) in
    let k : Got (List (Value Scalar)) = all_got (map go (elements_of rest)) in
    ap (λ g. (g >>= λ ws. Ok (Array b ws)) >>= λ x. all_got (map (with_elements go) rest) >>= λ xs. Ok (x ∷ xs)) (converted_list go vs)
    ∙ ap (λ g. ((h >>= λ us. Ok (items_of us)) >>= λ ws. Ok (Array b ws)) >>= λ x. g >>= λ xs. Ok (x ∷ xs)) (regrouping go rest sized.1)
    ∙ group_step b vs rest h k (λ us is. elements_length go vs us is ∙ sized.0)
    ∙ ap (λ g. g >>= λ ws. Ok (regrouped (Array b vs ∷ rest) ws)) (sym (all_append go (listed vs) (elements_of rest)))

-- ---- conversions

same_value : {A : Type 0} (g : Got A) → g ≡ (g >>= λ x. Ok x)
same_value (Ok x) = refl
same_value (Err halt) = refl

converted_steps : (s : Subtype) (v : Value Scalar) → converted s v ≡ (whole_converted s v >>= inside_converted s)
converted_steps (Scalars s) v = same_value (whole_converted (Scalars s) v)
converted_steps (Arrays index bounds element) v = refl
converted_steps (Records fields) v = same_value (whole_converted (Records fields) v)

level_steps : (s : Subtype) (vs : List (Value Scalar)) → found (all_got (map (converted s) vs)) ≡ found (all_whole s vs >>= λ ws. all_got (map (inside_converted s) ws))
level_steps s vs = (λ i. found (all_got (map (λ v. converted_steps s v i) vs))) ∙ all_in_steps (whole_converted s) (inside_converted s) vs

-- ---- values made values of a subtype, one after the other

fit_next : (g : Got (List (Value Scalar))) (v : Value Scalar) (made : List (Value Scalar)) → ((g >>= λ vs. Ok (v ∷ vs)) >>= λ vs. Ok (made ++ vs)) ≡ (g >>= λ vs. Ok ((made ++ v ∷ []) ++ vs))
fit_next (Ok vs) v made = ap Ok (sym (append_assoc made (v ∷ []) vs))
fit_next (Err halt) v made = refl

-- a value as one of a subtype, by its head
pub whole_by_head : (s : Subtype) (head : SubtypeHead) (v : Value Scalar) (x : Option (Value Scalar)) → head ≡ head_of s → IsFound x (got (fit_head head v)) → IsFound x (whole_converted s v)
whole_by_head s head v x is there = subst (λ h. IsFound x (got (fit_head h v))) is there

pub one_fits : (s : Subtype) (vs : List (Value Scalar)) (i : ℕ) (v fitted : Value Scalar) (made more : List (Value Scalar)) (want : Got (List (Value Scalar))) → i < length vs → v ≡ get_or vs i v
    → whole_converted s v ≡ Ok fitted → more ≡ made ++ fitted ∷ [] → (all_whole s (drop i vs) >>= λ ws. Ok (made ++ ws)) ≡ want
    → (all_whole s (drop (i + 1) vs) >>= λ ws. Ok (more ++ ws)) ≡ want
one_fits s vs i v fitted made more want below here fits adds so_far =
    ap (λ us. all_whole s (drop (i + 1) vs) >>= λ ws. Ok (us ++ ws)) adds ∙ sym (fit_next (all_whole s (drop (i + 1) vs)) fitted made)
    ∙ ap (λ g. (g >>= λ w. all_whole s (drop (i + 1) vs) >>= λ ws. Ok (w ∷ ws)) >>= λ ws. Ok (made ++ ws)) (sym fits)
    ∙ ap (λ us. all_whole s us >>= λ ws. Ok (made ++ ws)) (sym (split vs i v below here)) ∙ so_far

stopped_first : (g : Got (Value Scalar)) (f : Value Scalar → Got (List (Value Scalar))) (made : List (Value Scalar)) → is_got g ≡ false → is_got ((g >>= f) >>= λ ws. Ok (made ++ ws)) ≡ false
stopped_first (Ok v) f made stops = absurd cc
stopped_first (Err halt) f made stops = refl

pub one_stops : (s : Subtype) (vs : List (Value Scalar)) (i : ℕ) (v : Value Scalar) (made : List (Value Scalar)) (want : Got (List (Value Scalar))) → i < length vs → v ≡ get_or vs i v
    → is_got (whole_converted s v) ≡ false → (all_whole s (drop i vs) >>= λ ws. Ok (made ++ ws)) ≡ want → is_got want ≡ false
one_stops s vs i v made want below here stops so_far =
    ap is_got (sym so_far ∙ ap (λ us. all_whole s us >>= λ ws. Ok (made ++ ws)) (split vs i v below here))
    ∙ stopped_first (whole_converted s v) (λ w. all_whole s (drop (i + 1) vs) >>= λ ws. Ok (w ∷ ws)) made stops

pub all_fits : (s : Subtype) (vs : List (Value Scalar)) (i : ℕ) (made : List (Value Scalar)) (want : Got (List (Value Scalar))) → length vs ≤ i
    → (all_whole s (drop i vs) >>= λ ws. Ok (made ++ ws)) ≡ want → want ≡ Ok made
all_fits s vs i made want end so_far =
    sym so_far ∙ ap (λ us. all_whole s us >>= λ ws. Ok (made ++ ws)) (drop_of_length-le vs end) ∙ ap Ok (append-nil made)

-- ---- levels

-- what values of a subtype in a place inside others come to
abbrev pub level_of : List (List (Value Scalar)) → Subtype → List (Value Scalar) → Got (List (Value Scalar))
level_of outer s vs = all_got (map (inside_converted s) vs) >>= λ ws. Ok (closed outer ws)

array_level : (element : Subtype) (arrays elements : List (Value Scalar)) (outer : List (List (Value Scalar))) → AreSized arrays → elements ≡ elements_of arrays
    → found (all_got (map (with_elements (converted element)) arrays) >>= λ ws. Ok (closed outer ws))
    ≡ found (all_whole element elements >>= level_of (outer ++ arrays ∷ []) element)
array_level element arrays elements outer sized are =
    let go : Value Scalar → Got (Value Scalar) = converted element in
    ap (λ g. found (g >>= λ ws. Ok (closed outer ws))) (regrouping go arrays sized)
    ∙ ap found (then_again (all_got (map go (elements_of arrays))) (λ ws. Ok (regrouped arrays ws)) (λ ws. Ok (closed outer ws)))
    ∙ ap (λ es. found (all_got (map go es) >>= λ ws. Ok (closed outer (regrouped arrays ws)))) (sym are)
    ∙ then_found (all_got (map go elements)) (all_whole element elements >>= λ ws. all_got (map (inside_converted element) ws))
    (λ ws. Ok (closed outer (regrouped arrays ws))) (λ ws. Ok (closed (outer ++ arrays ∷ []) ws)) (level_steps element elements)
    (λ ws. ap (λ us. Some us) (sym (closed_push outer arrays ws)))
    ∙ ap found (then_again (all_whole element elements) (λ ws. all_got (map (inside_converted element) ws)) (λ ws. Ok (closed (outer ++ arrays ∷ []) ws)))

-- an array subtype with elements of another one
record HasElement (s element : Subtype) : Type 0 where
  index : ScalarSubtype
  bounds : Option Bounds
  is : s ≡ Arrays index bounds element

element_at : (s : Subtype) (i j : Indicated) → i.subtype ≡ s → is_some (index_of s) ≡ true → j ≡ or_none (element_of_subtype s) (element_make i.make) → HasElement i.subtype j.subtype
element_at (Scalars s) i j is indexed element = absurd cc
element_at (Arrays k b of) i j is indexed element = record { index = k; bounds = b; is = is ∙ ap (Arrays k b) (sym (ap (λ x. x.subtype) element)) }
element_at (Records fields) i j is indexed element = absurd cc

element_is : (i j : Indicated) → is_some (index_of i.subtype) ≡ true → j ≡ element_indicated i → HasElement i.subtype j.subtype
element_is i j indexed element = element_at i.subtype i j refl indexed element

abbrev pub depth : Subtype → ℕ
depth (Scalars s) = 0
depth (Arrays index bounds element) = suc (depth element)
depth (Records fields) = 0

pub element_is_less : (i j : Indicated) → is_some (index_of i.subtype) ≡ true → j ≡ element_indicated i → depth j.subtype < depth i.subtype
element_is_less i j indexed element =
    let whole : depth i.subtype ≡ suc (depth j.subtype) = ap depth (element_is i j indexed element).is in omega arith

-- the one value, as a list
abbrev pub alone : Got (Value Scalar) → Got (List (Value Scalar))
alone g = g >>= λ v. Ok (v ∷ [])

begins : (g : Got (Value Scalar)) → found (alone g) ≡ found ((g >>= λ x. Ok (x ∷ [])) >>= λ ws. Ok ws)
begins (Ok v) = refl
begins (Err halt) = refl

pub opened_first : (s : Subtype) (whole : Value Scalar) (inner : List (Value Scalar)) → inner ≡ whole ∷ [] → found (alone (inside_converted s whole)) ≡ found (level_of [] s inner)
opened_first s whole inner is = begins (inside_converted s whole) ∙ ap (λ vs. found (level_of [] s vs)) (sym is)

at_elements : (i j : Indicated) (outer : List (List (Value Scalar))) (arrays elements : List (Value Scalar)) → is_some (index_of i.subtype) ≡ true → j ≡ element_indicated i
    → AreSized arrays → elements ≡ elements_of arrays → found (level_of outer i.subtype arrays) ≡ found (all_whole j.subtype elements >>= level_of (outer ++ arrays ∷ []) j.subtype)
at_elements i j outer arrays elements indexed element sized are =
    ap (λ s. found (level_of outer s arrays)) (element_is i j indexed element).is ∙ array_level j.subtype arrays elements outer sized are

pub opened_more : (want : Got (Value Scalar)) (i j : Indicated) (old new : List (Vec (Value Scalar) Global)) (arrays : Vec (Value Scalar) Global) (elements fitted : List (Value Scalar))
    → is_some (index_of i.subtype) ≡ true → j ≡ element_indicated i → AreSized arrays.items → elements ≡ elements_of arrays.items → all_whole j.subtype elements ≡ Ok fitted → new ≡ old ++ arrays ∷ []
    → found (alone want) ≡ found (level_of (lists_in old) i.subtype arrays.items) → found (alone want) ≡ found (level_of (lists_in new) j.subtype fitted)
opened_more want i j old new arrays elements fitted indexed element sized are fits pushed so_far =
    so_far ∙ at_elements i j (lists_in old) arrays.items elements indexed element sized are
    ∙ ap (λ g. found (g >>= level_of (lists_in old ++ arrays.items ∷ []) j.subtype)) fits
    ∙ ap (λ ls. found (level_of ls j.subtype fitted)) (sym (ap lists_in pushed ∙ lists_push old arrays))

alone_stops : (g : Got (Value Scalar)) → found (alone g) ≡ None → is_got g ≡ false
alone_stops (Ok v) stops = absurd cc
alone_stops (Err halt) stops = refl

stopped_then : (g : Got (List (Value Scalar))) (f : List (Value Scalar) → Got (List (Value Scalar))) → is_got g ≡ false → found (g >>= f) ≡ None
stopped_then (Ok vs) f stops = absurd cc
stopped_then (Err halt) f stops = refl

pub opened_stops : (want : Got (Value Scalar)) (i j : Indicated) (outer : List (Vec (Value Scalar) Global)) (arrays elements : List (Value Scalar))
    → is_some (index_of i.subtype) ≡ true → j ≡ element_indicated i → AreSized arrays → elements ≡ elements_of arrays → is_got (all_whole j.subtype elements) ≡ false
    → found (alone want) ≡ found (level_of (lists_in outer) i.subtype arrays) → is_got want ≡ false
opened_stops want i j outer arrays elements indexed element sized are stops so_far =
    alone_stops want (so_far ∙ at_elements i j (lists_in outer) arrays elements indexed element sized are
    ∙ stopped_then (all_whole j.subtype elements) (level_of (lists_in outer ++ arrays ∷ []) j.subtype) stops)

all_same : (vs : List (Value Scalar)) → (let g : Got (List (Value Scalar)) = all_got (map (λ v. Ok v) vs) in g) ≡ Ok vs
all_same [] = refl
all_same (v ∷ vs) = ap (λ g. g >>= λ ws. Ok (v ∷ ws)) (all_same vs)

innermost : (s : Subtype) (outer : List (List (Value Scalar))) (vs : List (Value Scalar)) → is_some (index_of s) ≡ false → found (level_of outer s vs) ≡ Some (closed outer vs)
innermost (Scalars s) outer vs is = ap (λ g. found (g >>= λ ws. Ok (closed outer ws))) (all_same vs)
innermost (Arrays index bounds element) outer vs is = absurd cc
innermost (Records fields) outer vs is = ap (λ g. found (g >>= λ ws. Ok (closed outer ws))) (all_same vs)

pub opened_last : (want : Got (Value Scalar)) (s : Subtype) (outer : List (List (Value Scalar))) (vs : List (Value Scalar)) → is_some (index_of s) ≡ false
    → found (alone want) ≡ found (level_of outer s vs) → alone want ≡ Ok (closed outer vs)
opened_last want s outer vs is so_far = is_found (Some (closed outer vs)) (alone want) (so_far ∙ innermost s outer vs is)

-- ---- the whole value

only_one : (w v : Value Scalar) (rest : List (Value Scalar)) → w ∷ [] ≡ rest ++ v ∷ [] → w ≡ v
only_one w v [] same = cc
only_one w v (x ∷ xs) same = let long : 1 ≡ suc (length xs + 1) = ap length same ∙ ap suc (length-append xs (v ∷ [])) in absurd (omega arith)

last_is : (g : Got (Value Scalar)) (vs rest : List (Value Scalar)) (v : Value Scalar) → alone g ≡ Ok vs → vs ≡ rest ++ v ∷ [] → g ≡ Ok v
last_is (Ok w) vs rest v one last = let same : w ∷ [] ≡ vs = cc in ap Ok (only_one w v rest (same ∙ last))
last_is (Err halt) vs rest v one last = absurd cc

converted_whole : (s : Subtype) (v whole : Value Scalar) → whole_converted s v ≡ Ok whole → converted s v ≡ inside_converted s whole
converted_whole s v whole is = converted_steps s v ∙ ap (λ g. g >>= inside_converted s) is

pub converted_is : (s : Subtype) (v whole made : Value Scalar) (values rest : List (Value Scalar)) → whole_converted s v ≡ Ok whole → alone (inside_converted s whole) ≡ Ok values
    → values ≡ rest ++ made ∷ [] → converted s v ≡ Ok made
converted_is s v whole made values rest is one last = converted_whole s v whole is ∙ last_is (inside_converted s whole) values rest made one last
