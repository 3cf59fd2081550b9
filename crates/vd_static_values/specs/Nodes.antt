-- What is known of nodes and of pieces of names. (IEEE 1076, names; static expressions.)
use Rattle.std.specs.Prelude.{◌≡◌, ◌∷◌, List, Option, [], false, true, ℕ}
use Rattle.vd_composites.specs.Composites.{Value}
use Rattle.vd_composites.specs.declared.ranges.Bounds.{Bounds}
use Rattle.vd_environments.specs.Environments.{Env, Signals, Static, both}
use Rattle.vd_environments.specs.Got.{Got}
use Rattle.vd_forest.specs.Forest.{Forest}
use Rattle.vd_value_rules.specs.Indicated.{static_of}
use Rattle.vd_value_rules.specs.declared.forms.IndicatedForm.{IndicatedForm}
use Rattle.vd_meaning.specs.Facets.{Meaning}
use Rattle.vd_meaning.specs.Names.{Attributed, Named, NoCallee, RangeOf, TypeAttribute, attribute_named, attributed, fresh, no_name, stepped, to_element, to_field, to_slice, type_attribute_value}
use Rattle.vd_static_values.specs.Entries.{IsFound}
use Rattle.vd_static_values.specs.Names.{IsName}
use Rattle.vd_static_values.specs.Senses.{IsSense}
use Rattle.vd_static_values.specs.declared.nodes.Arguments.{Arguments}
use Rattle.vd_static_values.specs.declared.nodes.Bracketed.{Bracketed}
use Rattle.vd_static_values.specs.declared.nodes.Bracketed.TheVariants as bracketed
use Rattle.vd_static_values.specs.declared.nodes.Node.{Node}
use Rattle.vd_static_values.specs.declared.nodes.Piece.{Piece}
use Rattle.vd_static_values.specs.declared.nodes.Piece.TheVariants as piece
use Rattle.vd_values.specs.declared.scalar.Scalar.{Scalar}

module _ (subtypes : List (Forest IndicatedForm)) (e : Env) where
  -- ---- lists in brackets, behind what isn't an attribute of a type

  -- an index that is so static
  pub record IsElement (kn : Env → Static) (p q : Named) : Type 0 where
    pub index : Env → Got (Value Scalar)
    pub inner : Env → Got (List Signals)
    pub mark : Option ℕ
    pub is : q ≡ stepped (to_element index kn inner) mark p

  -- a range that is so static
  pub record IsSlice (bounds : Option Bounds) (kn : Env → Static) (p q : Named) : Type 0 where
    pub range : Env → Got Bounds
    pub inner : Env → Got (List Signals)
    pub mark : Option ℕ
    pub known : (kn e).is_local ≡ true → IsFound bounds (range e)
    pub is : q ≡ stepped (to_slice range kn inner) mark p

  abbrev pub IsBracketed : Bracketed → (Env → Static) → Named → Named → Type 0
  IsBracketed (bracketed.Own x) kn p q = IsName subtypes e x q
  IsBracketed bracketed.Element kn p q = IsElement kn p q
  IsBracketed (bracketed.Slice bounds) kn p q = IsSlice bounds kn p q

  -- the argument of an attribute of a type
  pub record IsArgument (value : Env → Got (Value Scalar)) (kn : Env → Static) (attribute : TypeAttribute) (p q : Named) : Type 0 where
    pub inner : Env → Got (List Signals)
    pub mark : Option ℕ
    pub is : q ≡ fresh (type_attribute_value attribute p value) mark (λ e'. both (p.known e') (kn e')) inner

  pub record AreArguments (a : Arguments) (f : Named → Named) : Type 0 where
    pub value : Env → Got (Value Scalar)
    pub kn : Env → Static
    pub known : static_of a.known ≡ kn e
    pub found : (kn e).is_local ≡ true → IsFound a.value (value e)
    pub argument : (p : Named) (attribute : TypeAttribute) → p.callee ≡ Attributed attribute → IsArgument value kn attribute p (f p)
    pub otherwise : (p : Named) → p.callee ≡ NoCallee → IsBracketed a.otherwise kn p (f p)

  -- ---- pieces

  pub record IsField (number : ℕ) (f : Named → Named) : Type 0 where
    pub mark : Option ℕ
    pub is : (p : Named) → f p ≡ stepped (to_field number) mark p

  abbrev pub IsPiece : Piece → (Named → Named) → Type 0
  IsPiece piece.NoPiece f = (p : Named) → f p ≡ no_name
  IsPiece (piece.Field number) f = IsField number f
  IsPiece (piece.Own x) f = (p : Named) → IsName subtypes e x (f p)
  IsPiece (piece.Attribute name mark) f = (p : Named) → f p ≡ attributed (attribute_named name.now) mark p
  IsPiece (piece.RangeAttribute mark) f = (p : Named) → f p ≡ attributed (RangeOf false) mark p
  IsPiece (piece.Arguments a) f = AreArguments a f

  -- ---- nodes

  pub record IsNode (x : Node) (m : Meaning) : Type 0 where
    pub sense : IsSense subtypes e x.sense m
    pub piece : IsPiece x.piece m.piece

  abbrev pub AreNodes : List Node → List Meaning → Type 0
  AreNodes [] [] = Unit {0}
  AreNodes (x ∷ xs) (m ∷ ms) = IsNode x m × AreNodes xs ms
  AreNodes _ _ = ⊥
