-- Kinds of nodes, by what is made of them when the text is analysed.
use Rattle.std.specs.Prelude.{[], false, true, ℕ, List}
use Rattle.vd_environments.specs.Environments.{Env}
use Rattle.vd_forest.specs.Forest.{Forest}
use Rattle.vd_value_rules.specs.declared.forms.IndicatedForm.{IndicatedForm}
use Rattle.vd_meaning.specs.Facets.{Meaning, no_meaning, of_node}
use Rattle.vd_meaning.specs.Kinds
use Rattle.vd_resolved.specs.declared.node.Resolved.{Resolved}
use Rattle.vd_static_values.specs.Nodes.{IsNode}
use Rattle.vd_static_values.specs.declared.entries.Ground.{Ground}
use Rattle.vd_static_values.specs.declared.nodes.Node.{Node}
use Rattle.vd_known_indications.specs.declared.kinds.Leaf.{Leaf}
use Rattle.vd_known_indications.specs.declared.kinds.Leaf.TheVariants as leaf
use Rattle.vd_known_indications.specs.declared.kinds.Listing.{Listing}
use Rattle.vd_known_indications.specs.declared.kinds.Listing.TheVariants as listing
use Rattle.vd_known_indications.specs.declared.kinds.NodeKind.{NodeKind}
use Rattle.vd_known_indications.specs.declared.kinds.NodeKind.TheVariants as code
use Rattle.vd_known_indications.specs.declared.kinds.PieceKind.{PieceKind}
use Rattle.vd_known_indications.specs.declared.kinds.PieceKind.TheVariants as piece
use Rattle.vd_known_indications.specs.declared.kinds.RangeKind.{RangeKind}
use Rattle.vd_known_indications.specs.declared.kinds.RangeKind.TheVariants as range
use Rattle.vd_static_parts.specs.Made.{IsMade}

abbrev pub node_kind : Kinds.Kind → NodeKind
node_kind Kinds.NotThere = code.Absent
-- leaves and literals
node_kind Kinds.Word = code.Leaf leaf.Word
node_kind Kinds.CharacterLiteral = code.Leaf leaf.CharacterLiteral
node_kind Kinds.StringLiteral = code.Leaf leaf.StringLiteral
node_kind Kinds.NumberLiteral = code.Leaf leaf.NumberLiteral
node_kind Kinds.TimeLiteral = code.Leaf leaf.TimeLiteral
-- names
node_kind Kinds.WholeName = code.Piece piece.WholeName
node_kind Kinds.SelectionPiece = code.Piece piece.Selection
node_kind Kinds.ArgumentsPiece = code.Piece piece.Arguments
node_kind Kinds.AttributePiece = code.Piece piece.Attribute
node_kind Kinds.RangePiece = code.Piece piece.Range
node_kind Kinds.QualificationPiece = code.Piece piece.Qualification
-- operators, brackets and choices
node_kind Kinds.Operator = code.Listing listing.Operator
node_kind Kinds.Brackets = code.Listing listing.Brackets
node_kind Kinds.Associated = code.Listing listing.Association
node_kind Kinds.AssociatedOthers = code.Listing listing.OthersAssociation
node_kind Kinds.ChoiceList = code.Listing listing.Choices
node_kind Kinds.AnyChoice = code.Listing listing.Others
node_kind Kinds.OpenActual = code.Listing listing.Open
-- ranges and subtypes
node_kind (Kinds.Limits false) = code.Range range.Ascending
node_kind (Kinds.Limits true) = code.Range range.Descending
node_kind Kinds.LimitsOfMark = code.Range range.OfMark
node_kind Kinds.OpenIndex = code.Range range.OpenIndex
node_kind Kinds.MarkName = code.Range range.MarkName
node_kind Kinds.Constraint = code.Range range.Constraint
-- what carries no text
node_kind Kinds.NewType = code.Silent
node_kind Kinds.NewSubtype = code.Silent
node_kind Kinds.NewConstants = code.Silent
node_kind Kinds.NewVariables = code.Silent
node_kind Kinds.NewFunction = code.Silent
node_kind Kinds.NewInstance = code.Silent
node_kind Kinds.Sequence = code.Silent
node_kind Kinds.Labelled = code.Silent
node_kind Kinds.AssignSignal = code.Silent
node_kind Kinds.AssignVariable = code.Silent
node_kind Kinds.SelectSignal = code.Silent
node_kind Kinds.SelectVariable = code.Silent
node_kind Kinds.If = code.Silent
node_kind Kinds.Case = code.Silent
node_kind Kinds.Suspend = code.Silent
node_kind Kinds.Asserting = code.Silent
node_kind Kinds.Reporting = code.Silent
node_kind Kinds.Giving = code.Silent
node_kind (Kinds.Jumping out) = code.Silent
node_kind Kinds.AssignConcurrently = code.Silent
-- and what is nothing but itself
node_kind _ = code.Plain

-- an operator, or what has no function of its own
abbrev pub common : NodeKind → NodeKind
common (code.Listing listing.Operator) = code.Listing listing.Operator
common code.Silent = code.Silent
common _ = code.Plain

abbrev pub leaf_kind : Leaf → Kinds.Kind
leaf_kind leaf.Word = Kinds.Word
leaf_kind leaf.CharacterLiteral = Kinds.CharacterLiteral
leaf_kind leaf.StringLiteral = Kinds.StringLiteral
leaf_kind leaf.NumberLiteral = Kinds.NumberLiteral
leaf_kind leaf.TimeLiteral = Kinds.TimeLiteral

abbrev pub listing_kind : Listing → Kinds.Kind
listing_kind listing.Operator = Kinds.Operator
listing_kind listing.Brackets = Kinds.Brackets
listing_kind listing.Association = Kinds.Associated
listing_kind listing.OthersAssociation = Kinds.AssociatedOthers
listing_kind listing.Choices = Kinds.ChoiceList
listing_kind listing.Others = Kinds.AnyChoice
listing_kind listing.Open = Kinds.OpenActual

abbrev pub range_kind : RangeKind → Kinds.Kind
range_kind range.Ascending = Kinds.Limits false
range_kind range.Descending = Kinds.Limits true
range_kind range.OfMark = Kinds.LimitsOfMark
range_kind range.OpenIndex = Kinds.OpenIndex
range_kind range.MarkName = Kinds.MarkName
range_kind range.Constraint = Kinds.Constraint

abbrev pub piece_kind : PieceKind → Kinds.Kind
piece_kind piece.WholeName = Kinds.WholeName
piece_kind piece.Selection = Kinds.SelectionPiece
piece_kind piece.Arguments = Kinds.ArgumentsPiece
piece_kind piece.Attribute = Kinds.AttributePiece
piece_kind piece.Range = Kinds.RangePiece
piece_kind piece.Qualification = Kinds.QualificationPiece

-- what a node of such a kind comes to
abbrev pub IsMadeAs : NodeKind → Ground → Resolved → List ℕ → List Node → Node → Type 0
IsMadeAs code.Absent g n text parts x = (subtypes : List (Forest IndicatedForm)) (e : Env) → IsNode subtypes e x no_meaning
IsMadeAs code.Plain g n text parts x = (subtypes : List (Forest IndicatedForm)) (e : Env) (ms : List Meaning) → IsNode subtypes e x (of_node n text ms)
IsMadeAs code.Silent g n text parts x = (subtypes : List (Forest IndicatedForm)) (e : Env) (ms : List Meaning) → IsNode subtypes e x (of_node n [] ms)
IsMadeAs (code.Leaf l) g n text parts x = IsMade (leaf_kind l) g n text parts x
IsMadeAs (code.Listing l) g n text parts x = IsMade (listing_kind l) g n text parts x
IsMadeAs (code.Range r) g n text parts x = IsMade (range_kind r) g n text parts x
IsMadeAs (code.Piece p) g n text parts x = IsMade (piece_kind p) g n text parts x
