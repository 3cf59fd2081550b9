-- How a subtype lies in memory: its nodes in one list, each in front of its parts, from left to right.
use Rattle.std.specs.Prelude.{◌≡◌, ℕ, zero, suc, ◌+◌, List, [], ◌∷◌, length, Option, Some, None, Result, Ok, Err, Vec}
use Rattle.std.specs.Global.{Global}
use Rattle.vd_composites.specs.declared.ends.ValueEnd.{ValueEnd}
use Rattle.vd_composites.specs.Stops.{OrStop}
use Rattle.vd_composites.specs.Answers.{Ends}
use Rattle.vd_composites.specs.declared.ranges.Bounds.{Bounds}
use Rattle.vd_composites.specs.declared.scalars.ScalarSubtype.{ScalarSubtype}
use Rattle.vd_composites.specs.Subtypes.{Subtype, Scalars, Arrays, Records, Subtypes, no_more, and_more}
use Rattle.vd_subtypes.specs.declared.heads.SubtypeHead.{SubtypeHead}
use Rattle.vd_subtypes.specs.declared.heads.SubtypeHead.TheVariants.{Scalar as ScalarHead, Unbounded, Bounded, Record as RecordHead}
use Rattle.vd_subtypes.specs.declared.subtypes.Node.{Node}
use Rattle.vd_subtypes.specs.declared.subtypes.Node.TheVariants.{Scalar as ScalarNode, Unbounded as UnboundedNode, Bounded as BoundedNode, Record as RecordNode}

-- the first of some subtypes, and all but the first so many
abbrev pub first_fields : ℕ → Subtypes → Subtypes
first_fields zero ss = no_more
first_fields (suc n) no_more = no_more
first_fields (suc n) (and_more s ss) = and_more s (first_fields n ss)

abbrev pub without_fields : ℕ → Subtypes → Subtypes
without_fields zero ss = ss
without_fields (suc n) no_more = no_more
without_fields (suc n) (and_more s ss) = without_fields n ss

-- an array of the first subtype, and a record of the first so many, in front of the others
abbrev pub array_in_front : ScalarSubtype → Option Bounds → Subtypes → Subtypes
array_in_front index bounds no_more = no_more
array_in_front index bounds (and_more s ss) = and_more (Arrays index bounds s) ss

abbrev pub record_in_front : ℕ → Subtypes → Subtypes
record_in_front n ss = and_more (Records (first_fields n ss)) (without_fields n ss)

-- the subtypes that some nodes make
abbrev pub read : List Node → Subtypes
read [] = no_more
read (ScalarNode s ∷ ns) = and_more (Scalars s) (read ns)
read (UnboundedNode index ∷ ns) = array_in_front index None (read ns)
read (BoundedNode index b ∷ ns) = array_in_front index (Some b) (read ns)
read (RecordNode n ∷ ns) = record_in_front n (read ns)

-- How many subtypes are still wanted behind some nodes, where so many are wanted in front of them. None where there are more than are wanted.
abbrev pub after : ℕ → List Node → Option ℕ
after m [] = Some m
after zero (n ∷ ns) = None
after (suc m) (ScalarNode s ∷ ns) = after m ns
after (suc m) (UnboundedNode index ∷ ns) = after (suc m) ns
after (suc m) (BoundedNode index b ∷ ns) = after (suc m) ns
after (suc m) (RecordNode n ∷ ns) = after (n + m) ns

-- the first of some subtypes. There is one in each subtype's nodes
abbrev pub subtype_in : Subtypes → Subtype
subtype_in no_more = Records no_more
subtype_in (and_more s ss) = s

-- the head of the first subtype
abbrev pub head_in : List Node → SubtypeHead
head_in [] = RecordHead 0
head_in (ScalarNode s ∷ ns) = ScalarHead s
head_in (UnboundedNode index ∷ ns) = Unbounded index
head_in (BoundedNode index b ∷ ns) = Bounded b
head_in (RecordNode n ∷ ns) = RecordHead n

-- some subtypes one after another, and the nodes that make them
abbrev pub subtypes_of : List Subtype → Subtypes
subtypes_of [] = no_more
subtypes_of (s ∷ ss) = and_more s (subtypes_of ss)

abbrev pub IsNodesOf : List Subtype → List Node → Type 0
IsNodesOf ss ns = (after (length ss) ns ≡ Some 0) × (read ns ≡ subtypes_of ss)

-- the nodes of the subtype that is defined, or its stop
abbrev pub MadeSubtype : Result (Vec Node Global) ValueEnd → OrStop Subtype → Type 0
MadeSubtype (Ok ns) g = (after 1 ns.items ≡ Some 0) × (g ≡ Ok (subtype_in (read ns.items)))
MadeSubtype (Err end) g = Ends end g
