-- A value that is made one of a subtype has it, and stays as it is when made so again.
use Rattle.std.proofs.Common.{◌≡◌, ℕ, zero, suc, true, Option, Some, None, refl, sym, ap, ◌∙◌, subst}
use Rattle.std.specs.Prelude.{Ok, Err, ◌==◌, ◌&&◌, ◌||◌}
use Rattle.vd_values.specs.declared.scalar.Scalar.{Scalar}
use Rattle.vd_values.specs.declared.scalar.StopKind.TheVariants.{Range, Index, Length}
use Rattle.vd_composites.specs.declared.ranges.Bounds.{Bounds}
use Rattle.vd_composites.specs.declared.scalars.ScalarSubtype.{ScalarSubtype}
use Rattle.vd_composites.specs.Stops.{OrStop, ◌>>=◌}
use Rattle.vd_composites.specs.Ranges.{length_of, lies_within, from_left, is_within}
use Rattle.vd_composites.specs.Scalars.{belongs}
use Rattle.vd_composites.specs.Composites.{Value, One, Array, Fields, Items, count, repeated, leaves}
use Rattle.vd_composites.specs.Parts.{array_of}
use Rattle.vd_composites.specs.Subtypes.{Subtype, Scalars, Arrays, Records, Subtypes, no_more, and_more, number_of, fit, HasSubtype, default_of}
use Rattle.vd_composites.specs.Laws.{FitsOnce, DefaultsFit, ConversionsKeepValues}
use Rattle.vd_composites.specs.Composites.{items_in}
use Rattle.vd_composites.proofs.RangeLemmas.{length_from_left}
use Rattle.vd_composites.proofs.StopLemmas.{ok_same, if_ok, if_true, test_same, same_test}

-- what is known of a value that was made one of a subtype
record Made (s : Subtype) (v w : Value Scalar) : Type 0 where
  has : HasSubtype s w
  items : items_in w ≡ items_in v
  leaves_stay : leaves w ≡ leaves v

made_scalar : (s : ScalarSubtype) (x : Scalar) (w : Value Scalar) → fit (Scalars s) (One x) ≡ Ok w → Made (Scalars s) (One x) w
made_scalar s x w h =
    let two = if_ok (belongs s x) (Ok (One x)) Range w h in
    subst (λ u. Made (Scalars s) (One x) u) (ok_same (One x) w two.1) (record { has = two.0; items = refl; leaves_stay = refl })

made_under : (index : ScalarSubtype) (b : Bounds) (element : Subtype) (own : Bounds) (vs : Items Scalar) (w : Value Scalar) → fit (Arrays index (Some b) element) (Array own vs) ≡ Ok w → Made (Arrays index (Some b) element) (Array own vs) w
made_under index b element own vs w h =
    let two = if_ok (count vs == length_of b) (Ok (Array b vs)) Length w h in
    subst (λ u. Made (Arrays index (Some b) element) (Array own vs) u) (ok_same (Array b vs) w two.1)
    (record { has = (refl, test_same (count vs) (length_of b) two.0); items = refl; leaves_stay = refl })

made_free : (index : ScalarSubtype) (element : Subtype) (own : Bounds) (vs : Items Scalar) (w : Value Scalar) → fit (Arrays index None element) (Array own vs) ≡ Ok w → Made (Arrays index None element) (Array own vs) w
made_free index element own vs w h =
    let two = if_ok (lies_within index.range own) (array_of own vs) Index w h in
    let three = if_ok (count vs == length_of own) (Ok (Array own vs)) Range w two.1 in
    subst (λ u. Made (Arrays index None element) (Array own vs) u) (ok_same (Array own vs) w three.1)
    (record { has = (two.0, test_same (count vs) (length_of own) three.0); items = refl; leaves_stay = refl })

made_record : (fields : Subtypes) (vs : Items Scalar) (w : Value Scalar) → fit (Records fields) (Fields vs) ≡ Ok w → Made (Records fields) (Fields vs) w
made_record fields vs w h =
    let two = if_ok (count vs == number_of fields) (Ok (Fields vs)) Range w h in
    subst (λ u. Made (Records fields) (Fields vs) u) (ok_same (Fields vs) w two.1)
    (record { has = test_same (count vs) (number_of fields) two.0; items = refl; leaves_stay = refl })

no_value : {P : Type 0} (w : Value Scalar) → (let g : OrStop (Value Scalar) = Err Range in g ≡ Ok w) → P
no_value w h = absurd cc

made : (s : Subtype) (v w : Value Scalar) → fit s v ≡ Ok w → Made s v w
made (Scalars s) (One x) w h = made_scalar s x w h
made (Scalars s) (Array own vs) w h = no_value w h
made (Scalars s) (Fields vs) w h = no_value w h
made (Arrays index bounds element) (One x) w h = no_value w h
made (Arrays index None element) (Array own vs) w h = made_free index element own vs w h
made (Arrays index (Some b) element) (Array own vs) w h = made_under index b element own vs w h
made (Arrays index bounds element) (Fields vs) w h = no_value w h
made (Records fields) (One x) w h = no_value w h
made (Records fields) (Array own vs) w h = no_value w h
made (Records fields) (Fields vs) w h = made_record fields vs w h

-- a value that has a subtype stays
stays_under : (index : ScalarSubtype) (b : Bounds) (element : Subtype) (own : Bounds) (vs : Items Scalar) → (own ≡ b) × (count vs ≡ length_of b) → fit (Arrays index (Some b) element) (Array own vs) ≡ Ok (Array own vs)
stays_under index b element own vs h =
    if_true (count vs == length_of b) (Ok (Array b vs)) (Err Length) (same_test (count vs) (length_of b) h.1) ∙ ap (λ c. Ok (Array c vs)) (sym h.0)

array_stays : (own : Bounds) (vs : Items Scalar) → count vs ≡ length_of own → array_of own vs ≡ Ok (Array own vs)
array_stays own vs h = if_true (count vs == length_of own) (Ok (Array own vs)) (Err Range) (same_test (count vs) (length_of own) h)

stays_free : (index : ScalarSubtype) (element : Subtype) (own : Bounds) (vs : Items Scalar) → (lies_within index.range own ≡ true) × (count vs ≡ length_of own) → fit (Arrays index None element) (Array own vs) ≡ Ok (Array own vs)
stays_free index element own vs h = if_true (lies_within index.range own) (array_of own vs) (Err Index) h.0 ∙ array_stays own vs h.1

stays : (s : Subtype) (v : Value Scalar) → HasSubtype s v → fit s v ≡ Ok v
stays (Scalars s) (One x) h = if_true (belongs s x) (Ok (One x)) (Err Range) h
stays (Scalars s) (Array own vs) h = absurd h
stays (Scalars s) (Fields vs) h = absurd h
stays (Arrays index bounds element) (One x) h = elim bounds as (λ o. HasSubtype (Arrays index o element) (One x) → fit (Arrays index bounds element) (One x) ≡ Ok (One x)) [ None ↦ λ k. absurd k | Some b ↦ λ k. absurd k ] h
stays (Arrays index None element) (Array own vs) h = stays_free index element own vs h
stays (Arrays index (Some b) element) (Array own vs) h = stays_under index b element own vs h
stays (Arrays index bounds element) (Fields vs) h = elim bounds as (λ o. HasSubtype (Arrays index o element) (Fields vs) → fit (Arrays index bounds element) (Fields vs) ≡ Ok (Fields vs)) [ None ↦ λ k. absurd k | Some b ↦ λ k. absurd k ] h
stays (Records fields) (One x) h = absurd h
stays (Records fields) (Array own vs) h = absurd h
stays (Records fields) (Fields vs) h = if_true (count vs == number_of fields) (Ok (Fields vs)) (Err Range) (same_test (count vs) (number_of fields) h)

again_of : (s : Subtype) (v : Value Scalar) (g : OrStop (Value Scalar)) → fit s v ≡ g → (g >>= fit s) ≡ g
again_of s v (Ok w) h = stays s w (made s v w h).has
again_of s v (Err e) h = refl

pub fits_once : FitsOnce
fits_once = record {
  has = λ s v w h. (made s v w h).has;
  items = λ s v w h. (made s v w h).items;
  leaves_stay = λ s v w h. (made s v w h).leaves_stay;
  stays = stays;
  again = λ s v. again_of s v (fit s v) refl;
}

count_repeated : (n : ℕ) (v : Value Scalar) → count (repeated n v) ≡ n
count_repeated zero v = refl
count_repeated (suc n) v = ap suc (count_repeated n v)

pub null_lies_within : (range b : Bounds) → length_of b ≡ 0 → lies_within range b ≡ true
null_lies_within range b h = ap (λ t. t || (is_within range b.left && is_within range b.right)) (same_test (length_of b) 0 h)

array_default : (index : ScalarSubtype) (bounds : Option Bounds) (element : Subtype) → HasSubtype (Arrays index bounds element) (default_of (Arrays index bounds element))
array_default index None element =
    let empty : length_of (from_left index.range.left index.range.down 0) ≡ 0 = length_from_left index.range.left index.range.down 0 in
    (null_lies_within index.range (from_left index.range.left index.range.down 0) empty, sym empty)
array_default index (Some b) element = (refl, count_repeated (length_of b) (default_of element))

pub defaults_fit : DefaultsFit
defaults_fit = record { arrays = array_default; scalars = λ s h. h }

pub conversions_keep_values : ConversionsKeepValues
conversions_keep_values index None from to (Array own vs) h = stays_free index to own vs h
conversions_keep_values index (Some b) from to (Array own vs) h = stays_under index b to own vs h
conversions_keep_values index None from to (One x) h = absurd h
conversions_keep_values index (Some b) from to (One x) h = absurd h
conversions_keep_values index None from to (Fields vs) h = absurd h
conversions_keep_values index (Some b) from to (Fields vs) h = absurd h

-- some subtypes, so many
pub some_fields : ℕ → Subtypes
some_fields zero = no_more
some_fields (suc n) = and_more (Records no_more) (some_fields n)

pub so_many_fields : (n : ℕ) → number_of (some_fields n) ≡ n
unfolding some_fields
so_many_fields zero = refl
so_many_fields (suc n) = ap suc (so_many_fields n)
