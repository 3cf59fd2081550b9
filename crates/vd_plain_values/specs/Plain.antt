-- What declarations stand for, in plain tables, and which environments have it. (IEEE 1076, declarations; subtypes.)
use Rattle.std.specs.Prelude.{◌≡◌, ℕ, List, [], ◌∷◌, Option, None, Some, Ok, slice_index_or}
use Rattle.vd_values.specs.declared.scalar.Scalar.{Scalar}
use Rattle.vd_values.specs.declared.scalar.Scalar.TheVariants.{Literal}
use Rattle.vd_kernel.specs.Models.{View}
use Rattle.vd_forest.specs.Forest.{Forest, nothing, more}
use Rattle.vd_composites.specs.Composites.{Value, One}
use Rattle.vd_composites.specs.Stops.{OrStop}
use Rattle.vd_composites.specs.Parts.{misshapen}
use Rattle.vd_composites.specs.Subtypes.{Subtype, Scalars, Arrays, Records, Subtypes, no_more, and_more}
use Rattle.vd_environments.specs.Environments.{no_subtype, literals_of, element_make, Signals, read, Denotation, Env}
use Rattle.vd_plain_values.specs.declared.environment.SubtypeForm.{SubtypeForm}
use Rattle.vd_plain_values.specs.declared.environment.SubtypeForm.TheVariants as form
use Rattle.vd_plain_values.specs.declared.environment.Entry.{Entry}
use Rattle.vd_plain_values.specs.declared.environment.ArrayHead.{ArrayHead}
use Rattle.vd_subtypes.specs.Heads.{head_of}

-- ---- subtypes as trees

abbrev pub first_subtype : Subtypes → Subtype
first_subtype no_more = no_subtype
first_subtype (and_more s ss) = s

-- a subtype from its node and those of its parts
abbrev pub subtype_of : SubtypeForm → Subtypes → Subtype
subtype_of (form.Scalar s) parts = Scalars s
subtype_of (form.Unbounded index) parts = Arrays index None (first_subtype parts)
subtype_of (form.Bounded index b) parts = Arrays index (Some b) (first_subtype parts)
subtype_of form.Record parts = Records parts
subtype_of form.Literal parts = no_subtype

abbrev pub subtypes_in : Forest SubtypeForm → Subtypes
subtypes_in nothing = no_more
subtypes_in (more form text place parts next) = and_more (subtype_of form (subtypes_in parts)) (subtypes_in next)

-- the subtype that the first tree is
abbrev pub subtype_in : Forest SubtypeForm → Subtype
subtype_in f = first_subtype (subtypes_in f)

abbrev pub texts_in : Forest SubtypeForm → List (List ℕ)
texts_in nothing = []
texts_in (more form text place parts next) = text ∷ texts_in next

-- the literals of a scalar subtype, and those of the elements of an array subtype
abbrev pub scalar_literals : SubtypeForm → Forest SubtypeForm → List (List ℕ)
scalar_literals (form.Scalar s) parts = texts_in parts
scalar_literals _ parts = []

abbrev pub literals_in : Forest SubtypeForm → List (List ℕ)
literals_in nothing = []
literals_in (more form text place parts next) = scalar_literals form parts

abbrev pub array_literals : SubtypeForm → Forest SubtypeForm → List (List ℕ)
array_literals (form.Unbounded index) parts = literals_in parts
array_literals (form.Bounded index b) parts = literals_in parts
array_literals _ parts = []

abbrev pub element_literals_in : Forest SubtypeForm → List (List ℕ)
element_literals_in nothing = []
element_literals_in (more form text place parts next) = array_literals form parts

-- the array subtype that a subtype is
abbrev pub array_in : Subtype → Option ArrayHead
array_in (Arrays index bounds element) = Some (record { index = index; bounds = bounds; element = head_of element })
array_in _ = None

-- ---- environments

-- what a declaration that isn't in the table stands for
abbrev pub no_entry : Entry
no_entry = record { value = One (Literal 0); signal = None; subtype = nothing }

-- the value of a signal, or the stop where there is none
abbrev pub signal_in : Option (Value Scalar) → OrStop (Value Scalar)
signal_in None = misshapen
signal_in (Some v) = Ok v

-- what is seen of a signal
abbrev pub IsSeen : View → Option (Value Scalar) → Option Signals → Type 0
IsSeen view None None = Unit {0}
IsSeen view (Some v) (Some s) = read view s ≡ Ok v
IsSeen view _ _ = ⊥

-- a declaration stands for what the table has for it
pub record IsDenoted (view : View) (x : Entry) (d : Denotation) : Type 0 where
  pub value : d.value ≡ x.value
  -- the effective value of a signal, each scalar of which is of its type
  pub signal : IsSeen view x.signal d.signals
  pub subtype : d.subtype ≡ subtype_in x.subtype
  pub literals : literals_of d.make ≡ literals_in x.subtype
  pub element_literals : literals_of (element_make d.make) ≡ element_literals_in x.subtype

-- The environment has what the table has, by the numbers of declarations.
abbrev pub Holds : List Entry → Env → Type 0
Holds entries e = (n : ℕ) → IsDenoted e.view (slice_index_or entries n no_entry) (e.denotes n)
