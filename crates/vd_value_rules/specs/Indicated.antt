-- Subtypes with what they are made of, as trees. (IEEE 1076, types; subtype declarations; static expressions.)
use Rattle.std.specs.Prelude.{ℕ, List, [], ◌∷◌, Option, Some, None}
use Rattle.vd_composites.specs.declared.ranges.Bounds.{Bounds}
use Rattle.vd_composites.specs.declared.scalars.ScalarSubtype.{ScalarSubtype}
use Rattle.vd_composites.specs.Subtypes.{Scalars, Arrays, Subtype}
use Rattle.vd_environments.specs.Environments.{Field, Indicated, Make, OfElements, OfScalar, Static, element_make, field_make, nothing_denoted}
use Rattle.vd_forest.specs.Forest.{Forest, nothing, more}
use Rattle.vd_value_rules.specs.declared.forms.IndicatedForm.{IndicatedForm}
use Rattle.vd_value_rules.specs.declared.forms.IndicatedForm.TheVariants as form
use Rattle.vd_value_rules.specs.declared.statics.StaticSort.{StaticSort}
use Rattle.vd_meaning.specs.Declarations.{record_type}
use Rattle.vd_meaning.specs.Names.{element_of_subtype, field_subtype}
use Rattle.vd_value_rules.specs.Knowledge.{indicated_of}
use Rattle.vd_value_rules.specs.Lengths.{or_none}

abbrev pub static_of : StaticSort → Static
static_of s = record { is_local = s.is_local; is_global = s.is_global }

-- ---- what trees are

-- what is no subtype
abbrev pub nothing_indicated : Indicated
nothing_indicated = indicated_of nothing_denoted

abbrev pub texts_in : Forest IndicatedForm → List (List ℕ)
texts_in nothing = []
texts_in (more form text place parts next) = text ∷ texts_in next

abbrev pub all_but_first : List (List ℕ) → List (List ℕ)
all_but_first [] = []
all_but_first (text ∷ texts) = texts

abbrev pub first_indicated : List Field → Indicated
first_indicated [] = nothing_indicated
first_indicated (field ∷ fields) = field.indicated

abbrev pub array_indicated : ScalarSubtype → Option Bounds → Static → List (List ℕ) → Indicated → Indicated
array_indicated index bounds known literals element =
    record { subtype = Arrays index bounds element.subtype; make = OfElements literals known element.make }

-- a subtype from its node, and the texts and subtypes of its parts
abbrev pub made_of : IndicatedForm → List (List ℕ) → List Field → Indicated
made_of (form.Scalar s is_resolved range) texts parts =
    record { subtype = Scalars s; make = OfScalar (record { literals = texts; is_resolved = is_resolved }) (static_of range) }
made_of (form.Unbounded index known) texts parts = array_indicated index None (static_of known) (all_but_first texts) (first_indicated parts)
made_of (form.Bounded index b known) texts parts = array_indicated index (Some b) (static_of known) (all_but_first texts) (first_indicated parts)
made_of form.Record texts parts = record_type parts
made_of form.Literal texts parts = nothing_indicated

-- the trees as the fields of a record
abbrev pub fields_in : Forest IndicatedForm → List Field
fields_in nothing = []
fields_in (more form text place parts next) =
    record { name = text; indicated = made_of form (texts_in parts) (fields_in parts) } ∷ fields_in next

-- the subtype that the first tree is
abbrev pub indicated_in : Forest IndicatedForm → Indicated
indicated_in f = first_indicated (fields_in f)

-- ---- what is read

abbrev pub element_indicated : Indicated → Indicated
element_indicated i = or_none (element_of_subtype i.subtype) (element_make i.make)

abbrev pub field_indicated : ℕ → Indicated → Indicated
field_indicated n i = or_none (field_subtype n i.subtype) (field_make n i.make)

-- the literals of the index type of an array
abbrev pub index_literals : Make → List (List ℕ)
index_literals (OfElements literals bounds element) = literals
index_literals _ = []

-- the index subtype of an array
abbrev pub index_of : Subtype → Option ScalarSubtype
index_of (Arrays index bounds element) = Some index
index_of _ = None
