-- What a node comes to, from what is known of its parts. (IEEE 1076, static expressions.)
use Rattle.std.specs.Prelude.{List, ℕ}
use Rattle.vd_environments.specs.Environments.{Env}
use Rattle.vd_forest.specs.Forest.{Forest}
use Rattle.vd_value_rules.specs.declared.forms.IndicatedForm.{IndicatedForm}
use Rattle.vd_meaning.specs.Facets.{Meaning}
use Rattle.vd_meaning.specs.Kinds
use Rattle.vd_meaning.specs.Meanings.{meaning_of}
use Rattle.vd_resolved.specs.declared.node.Resolved.{Resolved}
use Rattle.vd_static_values.specs.Entries.{IsGround, table_of}
use Rattle.vd_static_values.specs.Nodes.{AreNodes, IsNode}
use Rattle.vd_static_values.specs.declared.entries.Ground.{Ground}
use Rattle.vd_static_values.specs.declared.nodes.Bracketed.{Bracketed}
use Rattle.vd_static_values.specs.declared.nodes.Bracketed.TheVariants as bracketed
use Rattle.vd_static_values.specs.declared.nodes.Node.{Node}
use Rattle.vd_static_values.specs.declared.nodes.Piece.{Piece}
use Rattle.vd_static_values.specs.declared.nodes.Piece.TheVariants as piece
use Rattle.vd_static_names.specs.Known.{IsWithin}

-- The subtypes of all names in it are in the store.
abbrev pub IsSoundBracketed : List (Forest IndicatedForm) → Bracketed → Type 0
IsSoundBracketed subtypes (bracketed.Own x) = IsWithin subtypes x
IsSoundBracketed subtypes bracketed.Element = Unit {0}
IsSoundBracketed subtypes (bracketed.Slice bounds) = Unit {0}

abbrev pub IsSoundPiece : List (Forest IndicatedForm) → Piece → Type 0
IsSoundPiece subtypes (piece.Own x) = IsWithin subtypes x
IsSoundPiece subtypes (piece.Arguments a) = IsSoundBracketed subtypes a.otherwise
IsSoundPiece subtypes _ = Unit {0}

pub record IsSound (subtypes : List (Forest IndicatedForm)) (x : Node) : Type 0 where
  pub name : IsWithin subtypes x.sense.name
  pub piece : IsSoundPiece subtypes x.piece

-- It is what a node of a kind comes to, over whatever is known of the declarations.
abbrev pub IsMade : Kinds.Kind → Ground → Resolved → List ℕ → List Node → Node → Type 0
IsMade k g n text parts x =
    (e : Env) (ms : List Meaning) → IsGround g e → AreNodes g.subtypes.now e parts ms → IsNode g.subtypes.now e x (meaning_of k (table_of g) n text ms)
