-- Conversions to types of arrays of any bounds.
use Rattle.std.proofs.Common.{◌≡◌, ℕ, true, None, refl, ◌∙◌, arith}
use Rattle.std.proofs.lemmas.Bool.Decides.{nat_tests}
use Rattle.std.specs.Prelude.{Ok, Err, ◌==◌, if◌then◌else◌}
use Rattle.vd_values.specs.declared.scalar.Scalar.{Scalar}
use Rattle.vd_values.specs.declared.scalar.StopKind.TheVariants.{Range, Index}
use Rattle.vd_composites.specs.declared.ranges.Bounds.{Bounds}
use Rattle.vd_composites.specs.declared.scalars.ScalarSubtype.{ScalarSubtype}
use Rattle.vd_composites.specs.Stops.{◌>>=◌}
use Rattle.vd_composites.specs.Ranges.{length_of}
use Rattle.vd_composites.specs.Composites.{Value, One, Array, Fields, Items, none, item, count}
use Rattle.vd_composites.specs.Parts.{misshapen, array_of}
use Rattle.vd_composites.specs.Subtypes.{Scalars, Arrays, HasSubtype, indexed}
use Rattle.vd_environments.specs.Got.{got}
use Rattle.vd_meaning.specs.Names.{all_converted, with_elements, converted}
use Rattle.vd_meaning_laws.specs.Conversions.{AreOf}
use Rattle.vd_meaning_laws.specs.PlaceLaws.{VectorsAreKept}

same_test : (m n : ℕ) → m ≡ n → (m == n) ≡ true
same_test m n h = grind (arith, nat_tests)

-- an array of as many elements as its bounds give, which lie within the index subtype
array_stays : (b : Bounds) (vs : Items Scalar) → count vs ≡ length_of b → array_of b vs ≡ Ok (Array b vs)
array_stays b vs h = λ i. if same_test (count vs) (length_of b) h i then Ok (Array b vs) else misshapen

indexed_stays : (index s : ScalarSubtype) (b : Bounds) (vs : Items Scalar) → HasSubtype (Arrays index None (Scalars s)) (Array b vs) → indexed index b vs ≡ Ok (Array b vs)
indexed_stays index s b vs h = (λ i. if h.0 i then array_of b vs else Err Index) ∙ array_stays b vs h.1

-- and its elements
scalar_stays : (s : ScalarSubtype) (v : Value Scalar) → HasSubtype (Scalars s) v → converted (Scalars s) v ≡ Ok v
scalar_stays s (One x) h = λ i. got (if h i then Ok (One x) else Err Range)
scalar_stays s (Array b vs) h = absurd h
scalar_stays s (Fields vs) h = absurd h

elements_stay : (s : ScalarSubtype) (vs : Items Scalar) → AreOf (Scalars s) vs → all_converted (converted (Scalars s)) vs ≡ Ok vs
elements_stay s none h = refl
elements_stay s (item v vs) h = λ i. scalar_stays s v h.0 i >>= λ w. elements_stay s vs h.1 i >>= λ ws. Ok (item w ws)

pub vectors_are_kept : VectorsAreKept
vectors_are_kept index s b vs h k =
    (λ i. got (indexed_stays index s b vs h i) >>= with_elements (converted (Scalars s))) ∙ (λ i. elements_stay s vs k i >>= λ ws. Ok (Array b ws))
