-- What is known of the subtypes and lengths of expressions, in memory, and what it is found over.
use Rattle.std.specs.Prelude.{◌≡◌, ◌≤◌, ◌∷◌, Bool, List, None, Option, Some, [], false, length, true, ℕ}
use Rattle.vd_composites.specs.declared.ranges.Bounds.{Bounds}
use Rattle.vd_composites.specs.declared.scalars.ScalarSubtype.{ScalarSubtype}
use Rattle.vd_environments.specs.Environments.{Indicated}
use Rattle.vd_forest.specs.Forest.{Forest}
use Rattle.vd_value_rules.specs.Indicated.{static_of}
use Rattle.vd_value_rules.specs.declared.forms.IndicatedForm.{IndicatedForm}
use Rattle.vd_value_rules.specs.Made.{slice_of}
use Rattle.vd_known_designs.specs.Known.{AreKnown}
use Rattle.vd_meaning.specs.Meanings.{meanings}
use Rattle.vd_resolved.specs.declared.node.Resolved.{Resolved}
use Rattle.vd_known_lengths.specs.declared.extents.Extent.{Extent}
use Rattle.vd_known_lengths.specs.declared.over.Over.{Over}
use Rattle.vd_known_lengths.specs.declared.pieces.Bracketed.{Bracketed}
use Rattle.vd_known_lengths.specs.declared.pieces.Bracketed.TheVariants as bracketed
use Rattle.vd_known_lengths.specs.declared.pieces.Measured.{Measured}
use Rattle.vd_known_lengths.specs.declared.pieces.Piece.{Piece}
use Rattle.vd_known_lengths.specs.declared.pieces.Piece.TheVariants as piece
use Rattle.vd_static_values.specs.Entries.{IsGround, table_of}
use Rattle.vd_static_values.specs.Names.{bounds_or_later, indicated_by, number_in}
use Rattle.vd_static_values.specs.declared.names.NameSubtype.{NameSubtype}
use Rattle.vd_value_rules.specs.Choices.{range_taken}
use Rattle.vd_value_rules.specs.Designs.{Design}
use Rattle.vd_value_rules.specs.Knowledge.{Known, later_bounds}
use Rattle.vd_value_rules.specs.Lengths.{LengthKind, Shaped, Shaping, element_shaped, field_shaped, nth_shaping, shaped_by, shaping_at, shaping_of, shapings}

-- ---- subtypes

-- the subtype of a name, by the subtypes of a store
pub record IsSubtype (store : List (Forest IndicatedForm)) (x : NameSubtype) (i : Indicated) : Type 0 where
  pub within : number_in x ≤ length store
  pub is : indicated_by store x ≡ i

-- the values of a scalar subtype that choices must take
abbrev pub values_taken : Option ScalarSubtype → Bool → Bounds
values_taken (Some s) is_static = range_taken is_static s
values_taken None is_static = later_bounds

-- ---- expressions

pub record IsExtent (store : List (Forest IndicatedForm)) (x : Extent) (s : Shaped) : Type 0 where
  pub subtype : IsSubtype store x.subtype s.indicated
  pub length : s.length ≡ x.length
  pub callee : s.is_callee ≡ x.is_callee

-- a list in brackets behind what isn't an attribute of a type
abbrev pub IsBracketed : List (Forest IndicatedForm) → Bracketed → Shaped → Shaped → Type 0
IsBracketed store (bracketed.Own x) p q = IsExtent store x q
IsBracketed store bracketed.Element p q = q ≡ element_shaped p
IsBracketed store (bracketed.Slice bounds known) p q = q ≡ shaped_by (slice_of (bounds_or_later bounds) (static_of known) p.indicated)

pub record AreArguments (store : List (Forest IndicatedForm)) (value : Extent) (brackets : Bracketed) (f : Shaped → Shaped) : Type 0 where
  pub called : (p : Shaped) → p.is_callee ≡ true → IsExtent store value (f p)
  pub otherwise : (p : Shaped) → p.is_callee ≡ false → IsBracketed store brackets p (f p)

abbrev pub IsPiece : List (Forest IndicatedForm) → Piece → (Shaped → Shaped) → Type 0
IsPiece store (piece.Own x) f = (p : Shaped) → IsExtent store x (f p)
IsPiece store (piece.Field number) f = (p : Shaped) → f p ≡ field_shaped number p
IsPiece store (piece.Arguments called otherwise) f = AreArguments store called otherwise f

pub record IsMeasured (store : List (Forest IndicatedForm)) (x : Measured) (s : Shaping) : Type 0 where
  pub extent : IsExtent store x.extent s.shaped
  pub piece : IsPiece store x.piece s.piece

abbrev pub AreMeasured : List (Forest IndicatedForm) → List Measured → List Shaping → Type 0
AreMeasured store [] [] = Unit {0}
AreMeasured store (x ∷ xs) (s ∷ ss) = IsMeasured store x s × AreMeasured store xs ss
AreMeasured store _ _ = ⊥

-- all subtypes in it are in the store
abbrev pub IsWithin : List (Forest IndicatedForm) → Extent → Type 0
IsWithin store x = number_in x.subtype ≤ length store

abbrev pub IsBracketedWithin : List (Forest IndicatedForm) → Bracketed → Type 0
IsBracketedWithin store (bracketed.Own x) = IsWithin store x
IsBracketedWithin store _ = Unit {0}

abbrev pub IsPieceWithin : List (Forest IndicatedForm) → Piece → Type 0
IsPieceWithin store (piece.Own x) = IsWithin store x
IsPieceWithin store (piece.Field number) = Unit {0}
IsPieceWithin store (piece.Arguments called otherwise) = IsWithin store called × IsBracketedWithin store otherwise

pub record IsMeasuredWithin (store : List (Forest IndicatedForm)) (x : Measured) : Type 0 where
  pub extent : IsWithin store x.extent
  pub piece : IsPieceWithin store x.piece

-- ---- what it is found over

pub record Sees (x : Over) (d : Design) (k : Known) : Type 0 where
  pub round : List Known
  pub table : d.table ≡ table_of x.ground
  pub known : AreKnown d.table x.table.now (k ∷ round)
  pub ground : IsGround x.ground k.env
  pub subtypes : x.table.now.subtypes ≡ x.ground.subtypes.now

-- something is seen
pub record CanSee (x : Over) : Type 0 where
  pub design : Design
  pub now : Known
  pub sees : Sees x design now

-- ---- trees

-- what a tree of a kind comes to, by what its parts come to
abbrev pub IsMeasuredAs : LengthKind → Over → Resolved → List ℕ → Forest Resolved → List Measured → Measured → Type 0
IsMeasuredAs kind x n text parts ms y =
    (d : Design) (k : Known) (ss : List Shaping) → Sees x d k → AreMeasured x.ground.subtypes.now ms ss
    → IsMeasured x.ground.subtypes.now y (shaping_of kind d k n text (meanings d.table parts) ss)

-- what any tree does
abbrev pub IsMeasuredHere : Over → Resolved → List ℕ → Forest Resolved → List Measured → Measured → Type 0
IsMeasuredHere x n text parts ms y =
    (d : Design) (k : Known) (ss : List Shaping) → Sees x d k → AreMeasured x.ground.subtypes.now ms ss
    → IsMeasured x.ground.subtypes.now y (shaping_at d k n text (meanings d.table parts) ss)

-- what the first tree of a forest does
abbrev pub IsTreeMeasured : Over → Forest Resolved → Measured → Type 0
IsTreeMeasured x f y = (d : Design) (k : Known) → Sees x d k → IsMeasured x.ground.subtypes.now y (nth_shaping 0 (shapings d k f))

-- and all of its trees
abbrev pub AreTreesMeasured : Over → Forest Resolved → List Measured → Type 0
AreTreesMeasured x f ys = (d : Design) (k : Known) → Sees x d k → AreMeasured x.ground.subtypes.now ys (shapings d k f)
