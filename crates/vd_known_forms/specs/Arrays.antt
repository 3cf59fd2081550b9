-- The index of an array type, in memory. (IEEE 1076, array types)
use Rattle.std.specs.Prelude.{◌≡◌, ◌≤◌, List, Ok, length}
use Rattle.vd_composites.specs.Stops.{◌>>=◌}
use Rattle.vd_composites.specs.declared.ranges.Bounds.{Bounds}
use Rattle.vd_composites.specs.declared.scalars.ScalarSubtype.{ScalarSubtype}
use Rattle.vd_environments.specs.Environments.{Env, Indicated, Static}
use Rattle.vd_environments.specs.Got.{Got}
use Rattle.vd_forest.specs.Forest.{Forest}
use Rattle.vd_forest.specs.Store.{at}
use Rattle.vd_value_rules.specs.Indicated.{indicated_in, static_of, texts_in}
use Rattle.vd_value_rules.specs.declared.forms.IndicatedForm.{IndicatedForm}
use Rattle.vd_value_rules.specs.Made.{indexed_by, ranging}
use Rattle.vd_known_forms.specs.declared.indexes.Index.{Index}
use Rattle.vd_known_forms.specs.declared.indexes.Index.TheVariants.{OfAnyBounds, WithRange}
use Rattle.vd_known_forms.specs.declared.indexes.ArrayIndex.{ArrayIndex}
use Rattle.vd_meaning.specs.Facets.{Meaning}
use Rattle.vd_value_rules.specs.Knowledge.{array_defined, array_or_later}

-- the array type of an index that is so static, by its elements
abbrev pub array_by : List (Forest IndicatedForm) → Index → Static → Indicated → Indicated
array_by subtypes (OfAnyBounds number) known element = array_or_later (indexed_by (indicated_in (at subtypes number)) element) known element
array_by subtypes (WithRange range literals) known element = array_or_later (ranging range (texts_in (at subtypes literals)) known element) known element

-- a subtype with a range of its own
abbrev pub ranged : Got ScalarSubtype → Got Bounds → Got ScalarSubtype
ranged subtype range = subtype >>= λ s. range >>= λ b. Ok (record s { range = b })

-- its number is one of the store's
abbrev pub IsIndexWithin : List (Forest IndicatedForm) → Index → Type 0
IsIndexWithin subtypes (OfAnyBounds number) = number ≤ length subtypes
IsIndexWithin subtypes (WithRange range literals) = literals ≤ length subtypes

-- It makes the array type that a meaning makes, whatever the elements are.
abbrev pub IsIndex : List (Forest IndicatedForm) → ArrayIndex → Meaning → Env → Type 0
IsIndex subtypes x m e = (element : Indicated) → array_by subtypes x.index (static_of x.known) element ≡ array_defined m e element
