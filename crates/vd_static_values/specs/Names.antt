-- What is known of names when the text is analysed. (IEEE 1076, names; static expressions; attributes.)
use Rattle.std.specs.Prelude.{◌≡◌, ◌≤◌, Bool, List, None, Option, Some, false, if◌then◌else◌, is_some, length, true, ℕ}
use Rattle.vd_composites.specs.Subtypes.{Subtype}
use Rattle.vd_composites.specs.declared.ranges.Bounds.{Bounds}
use Rattle.vd_environments.specs.Environments.{Env, Indicated, Make, OfElements, OfFields, OfScalar, Static}
use Rattle.vd_environments.specs.Got.{Got, is_got}
use Rattle.vd_forest.specs.Forest.{Forest}
use Rattle.vd_forest.specs.Store.{at}
use Rattle.vd_value_rules.specs.Indicated.{indicated_in, static_of}
use Rattle.vd_value_rules.specs.declared.forms.IndicatedForm.{IndicatedForm}
use Rattle.vd_value_rules.specs.Made.{slice_of}
use Rattle.vd_meaning.specs.Names.{Attributed, Callee, Named, NoCallee}
use Rattle.vd_meaning.specs.Names as names
use Rattle.vd_static_values.specs.Entries.{IsFound}
use Rattle.vd_static_values.specs.declared.names.KnownName.{KnownName}
use Rattle.vd_static_values.specs.declared.names.NameSubtype.{NameSubtype}
use Rattle.vd_static_values.specs.declared.names.NameSubtype.TheVariants.{Slice, Stored}
use Rattle.vd_static_values.specs.declared.names.Ranging.{Ranging}
use Rattle.vd_static_values.specs.declared.names.Ranging.TheVariants.{NoRange, Range}
use Rattle.vd_static_values.specs.declared.names.TypeAttribute.{TypeAttribute}
use Rattle.vd_static_values.specs.declared.names.TypeAttribute.TheVariants as attribute
use Rattle.vd_value_rules.specs.Knowledge.{later_bounds}

-- ---- subtypes

abbrev pub number_in : NameSubtype → ℕ
number_in (Stored number) = number
number_in (Slice of bounds known) = of

-- where the range isn't known, its bounds count for nothing
abbrev pub bounds_or_later : Option Bounds → Bounds
bounds_or_later None = later_bounds
bounds_or_later (Some b) = b

abbrev pub indicated_by : List (Forest IndicatedForm) → NameSubtype → Indicated
indicated_by subtypes (Stored number) = indicated_in (at subtypes number)
indicated_by subtypes (Slice of bounds known) = slice_of (bounds_or_later bounds) (static_of known) (indicated_in (at subtypes of))

abbrev pub subtype_found : List (Forest IndicatedForm) → KnownName → Option Subtype
subtype_found subtypes x = if x.has_subtype then Some (indicated_by subtypes x.subtype).subtype else None

-- ---- ranges, and attributes that take an argument

abbrev pub IsRanging : Ranging → Option (Env → Got Bounds) → Static → Env → Type 0
IsRanging NoRange None known e = Unit {0}
IsRanging (Range b) (Some range) known e = known.is_local ≡ true → IsFound b (range e)
IsRanging _ _ known e = ⊥

abbrev pub type_attribute : TypeAttribute → names.TypeAttribute
type_attribute attribute.Position = names.PositionOf
type_attribute attribute.Value = names.ValueOf
type_attribute attribute.Successor = names.SuccessorOf
type_attribute attribute.Predecessor = names.PredecessorOf
type_attribute attribute.Image = names.ImageOf

abbrev pub callee_of : Option TypeAttribute → Callee
callee_of None = NoCallee
callee_of (Some a) = Attributed (type_attribute a)

-- ---- names

-- Whether the bounds of a name can count that is made so: what has no subtype has none that are locally static.
abbrev pub has_made_bounds : Make → Bool
has_made_bounds (OfScalar scalar range) = range.is_local
has_made_bounds (OfElements index bounds element) = true
has_made_bounds (OfFields fields) = true

-- of an object or a part of one whose subtype stops, its value does, and its signals
pub record Stops (e : Env) (p : Named) : Type 0 where
  pub value : is_got (p.value e) ≡ false
  pub signals : is_some p.prefix ≡ true → is_got (p.signals e) ≡ false

-- What is known of a name. Its value and its range are known where it is locally static, and its subtype and bounds where each slice in it has a
-- locally static range.
pub record IsName (subtypes : List (Forest IndicatedForm)) (e : Env) (x : KnownName) (p : Named) : Type 0 where
  pub known : static_of x.known ≡ p.known e
  pub value : (p.known e).is_local ≡ true → IsFound x.value (p.value e)
  pub within : number_in x.subtype ≤ length subtypes
  pub make : p.make e ≡ (indicated_by subtypes x.subtype).make
  pub subtype : p.local_slices e ≡ true → IsFound (subtype_found subtypes x) (p.subtype e)
  pub shape : p.is_object ≡ true → p.local_slices e ≡ true → has_made_bounds (p.make e) ≡ true → IsFound x.shape (p.shape e)
  pub stops : p.is_object ≡ true → p.local_slices e ≡ true → has_made_bounds (p.make e) ≡ true → is_got (p.subtype e) ≡ false → Stops e p
  pub own_shape : p.is_object ≡ false → (p.known e).is_local ≡ true → IsFound x.shape (p.shape e)
  pub is_object : p.is_object ≡ x.is_object
  pub local_slices : p.local_slices e ≡ x.local_slices
  -- what has a slice is never locally static
  pub early : (p.known e).is_local ≡ true → p.local_slices e ≡ true
  pub is_mark : p.is_mark ≡ x.is_mark
  pub range : IsRanging x.range p.range (p.known e) e
  pub callee : p.callee ≡ callee_of x.callee
  pub is_signal : is_some p.prefix ≡ x.is_signal
  pub is_whole : p.is_whole e ≡ x.is_whole
