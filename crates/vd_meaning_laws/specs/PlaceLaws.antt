-- What holds at places where an expression is only evaluated.
use Rattle.std.specs.Prelude.{◌≡◌, ℕ, List, None, Ok}
use Rattle.std.specs.List.{AllZip}
use Rattle.vd_values.specs.declared.scalar.Scalar.{Scalar}
use Rattle.vd_composites.specs.declared.ranges.Bounds.{Bounds}
use Rattle.vd_composites.specs.declared.scalars.ScalarSubtype.{ScalarSubtype}
use Rattle.vd_composites.specs.Composites.{Items, Array}
use Rattle.vd_composites.specs.Subtypes.{Scalars, Arrays, HasSubtype}
use Rattle.vd_resolved.specs.declared.node.Resolved.{Resolved}
use Rattle.vd_meaning.specs.Tables.{Table}
use Rattle.vd_meaning.specs.Names.{converted}
use Rattle.vd_meaning.specs.Facets.{Meaning}
use Rattle.vd_meaning.specs.Kinds
use Rattle.vd_meaning.specs.Meanings.{meaning_of}
use Rattle.vd_meaning_laws.specs.Agreement.{Link, IsApart}
use Rattle.vd_meaning_laws.specs.Renumbering.{SameTable, AlikeMeaning, renumbered}
use Rattle.vd_meaning_laws.specs.Places.{as_value, seen, seen_within}
use Rattle.vd_meaning_laws.specs.Conversions.{conversion_round, IsConversion, IsPlain, IsBetweenVectors, AreOf}

-- Of a part that is only evaluated, nothing else counts.
abbrev pub PartsAreSeen : Type 0
PartsAreSeen = (k : Kinds.Kind) (t : Table) (n : Resolved) (text : List ℕ) (ms : List Meaning) → meaning_of k t n text ms ≡ meaning_of k t n text (seen k t n ms)

-- So a node of any kind means the same with other numbers where its parts do, as it sees them.
abbrev pub NodesSeeParts : Type 0
NodesSeeParts = (l : Link) → IsApart l → (t t' : Table) → SameTable l t t' → (k : Kinds.Kind) (n : Resolved) (text : List ℕ) (ms ns : List Meaning)
    → AllZip (AlikeMeaning l) (seen k t n ms) (seen k t' (renumbered l n) ns) → AlikeMeaning l (meaning_of k t n text ms) (meaning_of k t' (renumbered l n) text ns)

-- The same of a node that is only evaluated itself, as an association in an aggregate.
abbrev pub ValuesSeeParts : Type 0
ValuesSeeParts = (k : Kinds.Kind) (t : Table) (n : Resolved) (text : List ℕ) (ms : List Meaning)
    → as_value (meaning_of k t n text ms) ≡ as_value (meaning_of k t n text (seen_within k t n ms))

abbrev pub ValueNodesSeeParts : Type 0
ValueNodesSeeParts = (l : Link) → IsApart l → (t t' : Table) → SameTable l t t' → (k : Kinds.Kind) (n : Resolved) (text : List ℕ) (ms ns : List Meaning)
    → AllZip (AlikeMeaning l) (seen_within k t n ms) (seen_within k t' (renumbered l n) ns)
    → AlikeMeaning l (as_value (meaning_of k t n text ms)) (as_value (meaning_of k t' (renumbered l n) text ns))

-- What means the same is seen as the same.
abbrev pub ValuesAlike : Type 0
ValuesAlike = (l : Link) → IsApart l → (m n : Meaning) → AlikeMeaning l m n → AlikeMeaning l (as_value m) (as_value n)

-- A conversion round an expression, between the two vector types, is seen as the expression.
abbrev pub ConversionsKeepValues : Type 0
ConversionsKeepValues = (l : Link) → IsApart l → (t : Table) (mark brackets whole : Resolved) (d : ℕ) → IsConversion t mark brackets d → (m n : Meaning)
    → AlikeMeaning l (as_value m) (as_value n) → IsPlain n → IsBetweenVectors l d n → AlikeMeaning l (as_value m) (as_value (conversion_round t mark brackets whole n))

-- A conversion to a type of arrays of any bounds, of scalar elements, leaves an array of this type as it is.
abbrev pub VectorsAreKept : Type 0
VectorsAreKept = (index s : ScalarSubtype) (b : Bounds) (vs : Items Scalar) → HasSubtype (Arrays index None (Scalars s)) (Array b vs) → AreOf (Scalars s) vs
    → converted (Arrays index None (Scalars s)) (Array b vs) ≡ Ok (Array b vs)
