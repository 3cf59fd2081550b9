-- What a signal of a subtype is made of: its scalar signals in order, arrays from the left and records by field, each with the way to it from the
-- object. (IEEE 1076, signal declarations; path names.)
use Rattle.std.specs.Prelude.{ℕ, zero, suc, ◌+◌, ℤ, pos, negsuc, Bool, List, [], ◌∷◌, ◌++◌, map, length, Option, Some, None, slice_index_or}
use Rattle.std.specs.Fmt.{signed_decimal}
use Rattle.vd_trees.specs.declared.paths.PathIndex.{PathIndex}
use Rattle.vd_trees.specs.declared.paths.PathStep.{PathStep}
use Rattle.vd_trees.specs.declared.paths.PathStep.TheVariants.{Field, Index}
use Rattle.vd_composites.specs.declared.ranges.Bounds.{Bounds}
use Rattle.vd_composites.specs.declared.scalars.ScalarType.{ScalarType}
use Rattle.vd_composites.specs.Ranges.{values_in}
use Rattle.vd_composites.specs.Composites.{Value, One, Array, Fields, Items, none, item}
use Rattle.vd_composites.specs.Subtypes.{Subtype, Scalars, Arrays, Records, Subtypes, no_more, and_more}
use Rattle.vd_environments.specs.Environments.{ScalarMake, Make, OfScalar, OfElements, OfFields, Makes, no_makes, and_make, no_make}

-- a scalar signal as its subtype has it: its type, its literals and whether it is resolved, and the steps to it
pub record Leaf : Type 0 where
  pub of_type : ScalarType
  pub make : ScalarMake
  pub steps : List PathStep

-- an index as it is printed: a literal, or a number
abbrev pub index_text : List (List ℕ) → ℤ → List ℕ
index_text [] i = signed_decimal i
index_text (l ∷ ls) (pos n) = slice_index_or (l ∷ ls) n []
index_text (l ∷ ls) (negsuc n) = []

abbrev pub index_at : List (List ℕ) → ℤ → PathIndex
index_at literals i = record { position = i; text = index_text literals i }

abbrev pub scalar_make : Make → ScalarMake
scalar_make (OfScalar scalar range) = scalar
scalar_make _ = record { literals = []; is_resolved = Rattle.std.specs.Prelude.false }

abbrev pub index_literals : Make → List (List ℕ)
index_literals (OfElements index bounds element) = index
index_literals _ = []

abbrev pub element_in : Make → Make
element_in (OfElements index bounds element) = element
element_in _ = no_make

abbrev pub fields_in : Make → Makes
fields_in (OfFields fields) = fields
fields_in _ = no_makes

abbrev pub first_name : Makes → List ℕ
first_name no_makes = []
first_name (and_make name m ms) = name

abbrev pub first_make : Makes → Make
first_make no_makes = no_make
first_make (and_make name m ms) = m

abbrev pub rest_makes : Makes → Makes
rest_makes no_makes = no_makes
rest_makes (and_make name m ms) = ms

-- an element for each of some indexes
abbrev pub at_indexes : (List PathStep → Value Leaf) → List (List ℕ) → List PathStep → List ℤ → Items Leaf
at_indexes make literals steps [] = none
at_indexes make literals steps (i ∷ is) = item (make (steps ++ Index (index_at literals i) ∷ [])) (at_indexes make literals steps is)

abbrev pub range_or_none : Option Bounds → Bounds
range_or_none None = record { left = pos 1; right = pos 0; down = Rattle.std.specs.Prelude.false }
range_or_none (Some b) = b

-- the layout of a subtype, from these steps on. A signal has bounds, by the rules; without them it would have no elements
abbrev mutual
  pub layout : Subtype → Make → List PathStep → Value Leaf
  layout (Scalars s) make steps = One (record { of_type = s.of_type; make = scalar_make make; steps = steps })
  layout (Arrays index bounds element) make steps =
      Array (range_or_none bounds) (at_indexes (λ further. layout element (element_in make) further) (index_literals make) steps (values_in (range_or_none bounds)))
  layout (Records fields) make steps = Fields (layouts fields (fields_in make) steps)

  pub layouts : Subtypes → Makes → List PathStep → Items Leaf
  layouts no_more makes steps = none
  layouts (and_more s ss) makes steps =
      item (layout s (first_make makes) (steps ++ Field (first_name makes) ∷ [])) (layouts ss (rest_makes makes) steps)

-- ---- numbers: the leaves in order, from a first number on

-- something, and the next number
pub record Counted (A : Type 0) : Type 0 where
  pub it : A
  pub next : ℕ

abbrev mutual
  pub numbered : {L M : Type 0} → (ℕ → L → M) → ℕ → Value L → Counted (Value M)
  numbered f n (One x) = record { it = One (f n x); next = suc n }
  numbered f n (Array b vs) = let w = all_numbered f n vs in record { it = Array b w.it; next = w.next }
  numbered f n (Fields vs) = let w = all_numbered f n vs in record { it = Fields w.it; next = w.next }

  pub all_numbered : {L M : Type 0} → (ℕ → L → M) → ℕ → Items L → Counted (Items M)
  all_numbered f n none = record { it = none; next = n }
  all_numbered f n (item v vs) = let w = numbered f n v in let ws = all_numbered f w.next vs in record { it = item w.it ws.it; next = ws.next }
