-- What is still to be written, by a table of templates.
use Rattle.std.specs.Prelude.{ℕ, Bool, true, false, List, [], ◌∷◌, ◌++◌, Option, Some, None}
use Rattle.vd_forest.specs.Forest.{Forest, nothing, more}
use Rattle.vd_forms.specs.declared.form.Form.{Form}
use Rattle.vd_templates.specs.declared.pieces.Piece.{Piece}
use Rattle.vd_templates.specs.declared.pieces.Piece.TheVariants.{Token, Own, EndLine, Inward, Outward}
use Rattle.vd_templates.specs.declared.states.TheConstants.{AS_IT_IS}
use Rattle.vd_templates.specs.Templates.{up_to_head, row_in, Item, token, end_line, inward, outward, Written, piece_items, row_items, all_written, all_listed}
use Rattle.vd_writing.specs.declared.stack.Node.{Node}
use Rattle.vd_writing.specs.declared.stack.Frame.{Frame}
use Rattle.vd_writing.specs.declared.stack.Frame.TheVariants.{Row, Trees, Listed}
use Rattle.vd_writing.specs.declared.items.Item.{Item as Given}
use Rattle.vd_writing.specs.declared.items.Item.TheVariants as given

-- ---- trees, as `vd_templates` has them for its own table

module _ (table : List Piece) where
  abbrev pub as_by : Form → List ℕ → List Written → List Item
  as_by form text parts = row_items form text parts [] (row_in AS_IT_IS form table)

  abbrev pub tree_by : Form → List ℕ → List Written → Written
  tree_by form text parts state = row_items form text parts (as_by form text parts) (row_in state form table)

  abbrev pub written_by : Forest Form → List Written
  written_by nothing = []
  written_by (more form text place parts next) = tree_by form text (written_by parts) ∷ written_by next

  -- the first of some trees, in a state
  abbrev pub first_by : ℕ → Forest Form → List Item
  first_by state nothing = []
  first_by state (more form text place parts next) = tree_by form text (written_by parts) state

  -- ---- frames

  -- what the tree itself stands for in a row of it
  abbrev pub node_itself : Bool → Node → List Item
  node_itself true n = []
  node_itself false n = as_by n.form n.text.now (written_by n.parts)

  -- the items of a piece and of some pieces of a row of a tree
  abbrev pub node_piece : Piece → Bool → Node → List Item
  node_piece piece whole n = piece_items n.form n.text.now (written_by n.parts) (node_itself whole n) piece

  abbrev pub node_items : List Piece → Bool → Node → List Item
  node_items pieces whole n = row_items n.form n.text.now (written_by n.parts) (node_itself whole n) pieces

  abbrev pub node_row : ℕ → Bool → Node → List Item
  node_row state whole n = node_items (row_in state n.form table) whole n

  abbrev pub frame_items : Frame → List Item
  frame_items (Row pieces whole node) = node_items (up_to_head pieces.now) whole node
  frame_items (Trees f) = all_written (written_by f)
  frame_items (Listed separator f) = all_listed separator (written_by f)

  -- the last frame comes first
  abbrev pub pending : List Frame → List Item
  pending [] = []
  pending (f ∷ fs) = pending fs ++ frame_items f

-- the pieces that stand for trees, or for nothing
abbrev pub stands_for_trees : Piece → Bool
stands_for_trees (Token symbol) = false
stands_for_trees Own = false
stands_for_trees EndLine = false
stands_for_trees Inward = false
stands_for_trees Outward = false
stands_for_trees _ = true

-- ---- items that are given

abbrev pub shown : Option Given → List Item
shown None = []
shown (Some (given.Token kind text)) = token kind text.now ∷ []
shown (Some given.EndLine) = end_line ∷ []
shown (Some given.Inward) = inward ∷ []
shown (Some given.Outward) = outward ∷ []
