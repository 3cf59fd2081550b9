-- What the numbers of a store stand for that have been made.
use Rattle.std.specs.Prelude.{◌≡◌, ◌≤◌, ◌&&◌, Bool, List, None, Ok, Option, Some, if◌then◌else◌, length, ℕ}
use Rattle.vd_composites.specs.Ranges.{lies_within}
use Rattle.vd_composites.specs.Stops.{◌>>=◌}
use Rattle.vd_composites.specs.Subtypes.{Scalars, constrained}
use Rattle.vd_composites.specs.declared.ranges.Bounds.{Bounds}
use Rattle.vd_composites.specs.declared.scalars.ScalarSubtype.{ScalarSubtype}
use Rattle.vd_environments.specs.Environments.{Field, Indicated, OfScalar, Static, bounds_of_object, or_senseless, sliced_make}
use Rattle.vd_environments.specs.Got.{Got, got, senseless}
use Rattle.vd_forest.specs.Forest.{Forest}
use Rattle.vd_forest.specs.Store.{at}
use Rattle.vd_value_rules.specs.Indicated.{fields_in, indicated_in}
use Rattle.vd_value_rules.specs.declared.forms.IndicatedForm.{IndicatedForm}
use Rattle.vd_meaning.specs.Declarations.{constrained_array, unconstrained_array}
use Rattle.vd_meaning.specs.Names.{scalars_of, sliced_subtype}
use Rattle.vd_value_rules.specs.Knowledge.{array_or_later, is_resolved, or_later, widened}
use Rattle.vd_value_rules.specs.Lengths.{or_none}

-- the number stands for the subtype
pub record Indicates (store : List (Forest IndicatedForm)) (number : ℕ) (i : Indicated) : Type 0 where
  pub within : number ≤ length store
  pub is : indicated_in (at store number) ≡ i

-- the number stands for the fields
pub record HasFields (store : List (Forest IndicatedForm)) (number : ℕ) (fields : List Field) : Type 0 where
  pub within : number ≤ length store
  pub are : fields_in (at store number) ≡ fields

abbrev pub scalar_indicated : ScalarSubtype → List (List ℕ) → Bool → Static → Indicated
scalar_indicated s literals is_resolved range =
    record { subtype = Scalars s; make = OfScalar (record { literals = literals; is_resolved = is_resolved }) range }

-- an array type of any bounds, by the subtype of its index
abbrev pub indexed_by : Indicated → Indicated → Got Indicated
indexed_by index element = scalars_of index.subtype >>= λ s. Ok (unconstrained_array s index.make element)

-- one whose bounds are known later
abbrev pub later_array : Static → Indicated → Indicated
later_array known element = array_or_later senseless known element

-- an array type with a range, where that is locally static
abbrev pub ranging : Option ScalarSubtype → List (List ℕ) → Static → Indicated → Got Indicated
ranging range literals known element =
    or_senseless range >>= λ s. Ok (constrained_array s.of_type s.range literals known element)

-- a range, where it lies within another
abbrev pub within_range : Bounds → Option Bounds → Option Bounds
within_range whole None = None
within_range whole (Some range) = if lies_within whole range then Some range else None

-- a subtype with a constraint, by its range where that is locally static
abbrev pub narrowed_by : Option Bounds → Static → Indicated → Indicated
narrowed_by range known i = or_later (or_senseless range >>= λ b. got (constrained i.subtype b)) known i

-- for choices or else
abbrev pub narrowed_for : Bool → Option Bounds → Static → Indicated → Indicated
narrowed_for choosing range known i = if choosing && is_resolved i.make then widened i else narrowed_by range known i

abbrev pub slice_of : Bounds → Static → Indicated → Indicated
slice_of b known i = or_none (sliced_subtype b i.subtype) (sliced_make known i.make)

-- of an object whose value gives its bounds
abbrev pub object_of : Indicated → Indicated
object_of i = record { subtype = i.subtype; make = bounds_of_object i.subtype i.make }
