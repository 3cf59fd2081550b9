-- What is known of declarations when the text is analysed, in memory, and which environments have it. (IEEE 1076, static expressions; declarations.)
use Rattle.std.specs.Prelude.{◌≡◌, ◌≤◌, Bool, List, None, Ok, Option, Some, false, if◌then◌else◌, length, slice_index_or, true, ℕ}
use Rattle.vd_composites.specs.Composites.{One, bounds_of}
use Rattle.vd_composites.specs.declared.ranges.Bounds.{Bounds}
use Rattle.vd_environments.specs.Environments.{Argument, Denotation, Env, Signals, all_bounds}
use Rattle.vd_environments.specs.Got.{Got, is_got, senseless}
use Rattle.vd_forest.specs.Forest.{Forest}
use Rattle.vd_forest.specs.Store.{at}
use Rattle.vd_value_rules.specs.Indicated.{indicated_in, static_of}
use Rattle.vd_value_rules.specs.declared.forms.IndicatedForm.{IndicatedForm}
use Rattle.vd_value_rules.specs.declared.statics.StaticSort.{StaticSort}
use Rattle.vd_meaning.specs.Operators.{operation}
use Rattle.vd_meaning.specs.Tables.{Table, table}
pub use Rattle.vd_plain_values.specs.Operands.{operate_on}
use Rattle.vd_static_values.specs.declared.entries.Entry.{Entry}
use Rattle.vd_static_values.specs.declared.entries.Ground.{Ground}
use Rattle.vd_value_rules.specs.Knowledge.{indicated_of}
use Rattle.vd_values.specs.declared.scalar.Scalar.TheVariants.{Literal}

-- what an evaluation gives, or that it stops
abbrev pub IsFound : {A : Type 0} → Option A → Got A → Type 0
IsFound None g = is_got g ≡ false
IsFound (Some x) g = g ≡ Ok x

-- ---- what a function stands for

-- an operator that it stands for, or none
abbrev pub IsFunction : Table → Option ℕ → Denotation → Type 0
IsFunction t None d = (as' : List Argument) → d.function as' ≡ senseless
IsFunction t (Some f) d = (as' : List Argument) → d.function as' ≡ operate_on (operation t f) d.subtype as'

-- ---- declarations

-- the bounds of a value, and of scalar signals in the shape of one
abbrev pub value_shape : Bool → Option Bounds → Option Bounds
value_shape is_signal shape = if is_signal then None else shape

abbrev pub signal_shape : Bool → Option Bounds → Option Bounds
signal_shape is_signal shape = if is_signal then shape else None

abbrev pub bounds_of_signals : Option Signals → Option Bounds
bounds_of_signals None = None
bounds_of_signals (Some s) = bounds_of s

-- An entry has what a declaration stands for: its value where that is locally static.
pub record IsEntry (subtypes : List (Forest IndicatedForm)) (t : Table) (x : Entry) (d : Denotation) : Type 0 where
  pub within : x.subtype ≤ length subtypes
  pub subtype : indicated_in (at subtypes x.subtype) ≡ indicated_of d
  pub bounds : static_of x.bounds ≡ all_bounds d.make
  pub known : static_of x.known ≡ d.known
  pub value : d.known.is_local ≡ true → d.value ≡ x.value
  pub value_shape : bounds_of d.value ≡ value_shape x.is_signal x.shape
  pub signal_shape : bounds_of_signals d.signals ≡ signal_shape x.is_signal x.shape
  pub function : d.known.is_local ≡ true → IsFunction t x.operator d

-- of a declaration that isn't in the table
abbrev pub never_known : StaticSort
never_known = record { is_local = false; is_global = false }

abbrev pub no_entry : Entry
no_entry =
    record { value = One (Literal 0); known = never_known; subtype = 0; bounds = never_known; shape = None; is_signal = false; operator = None }

abbrev pub entry_at : List Entry → ℕ → Entry
entry_at entries n = slice_index_or entries n no_entry

-- The environment has what the table has, by the numbers of declarations.
abbrev pub AreEntries : List (Forest IndicatedForm) → Table → List Entry → Env → Type 0
AreEntries subtypes t entries e = (n : ℕ) → IsEntry subtypes t (entry_at entries n) (e.denotes n)

abbrev pub table_of : Ground → Table
table_of g = table g.revision g.declarations.now

-- an environment over which expressions come to what is evaluated over the ground
abbrev pub IsGround : Ground → Env → Type 0
IsGround g e = AreEntries g.subtypes.now (table_of g) g.entries.now e
