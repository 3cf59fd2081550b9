-- A step of the stack writes what its last frame had.
use Rattle.std.proofs.Common.{◌≡◌, ℕ, zero, suc, Bool, false, List, [], ◌∷◌, ◌++◌, drop, get_or, append_assoc, Option, Some, None, is_some, refl, sym, ap, ◌∙◌, subst}
use Rattle.std.proofs.lemmas.List.{append-nil}
use Rattle.vd_forest.specs.Forest.{Forest, nothing, more, skipped}
use Rattle.vd_forms.specs.declared.form.Form.{Form}
use Rattle.vd_templates.specs.declared.pieces.Piece.{Piece}
use Rattle.vd_templates.specs.declared.pieces.Piece.TheVariants.{Part, Listed, Parts}
use Rattle.vd_templates.specs.Templates.{unwritten, all_written, all_listed}
use Rattle.vd_writing.specs.declared.stack.Node.{Node}
use Rattle.vd_writing.specs.declared.stack.Frame.{Frame}
use Rattle.vd_writing.specs.declared.items.Item.{Item as Given}
use Rattle.std.proofs.lemmas.Bool.{true≢false}
use Rattle.vd_writing.specs.Pending.{first_by, written_by, node_piece, frame_items, pending, shown}

module _ (table : List Piece) where
  pub pending_push : (fs : List Frame) (f : Frame) → pending table (fs ++ f ∷ []) ≡ frame_items table f ++ pending table fs
  pending_push [] f = sym (append-nil (frame_items table f))
  pending_push (g ∷ fs) f = ap (λ items. items ++ frame_items table g) (pending_push fs f) ∙ append_assoc (frame_items table f) (pending table fs) (frame_items table g)

  -- trees behind the first ones
  pub written_skipped : (n : ℕ) (f : Forest Form) → drop n (written_by table f) ≡ written_by table (skipped n f)
  written_skipped zero f = refl
  written_skipped (suc n) nothing = written_nothing n
    where
      written_nothing : (n : ℕ) → [] ≡ written_by table (skipped n nothing)
      written_nothing zero = refl
      written_nothing (suc n) = written_nothing n
  written_skipped (suc n) (more form text place parts next) = written_skipped n next

  pub written_at : (n state : ℕ) (f : Forest Form) → (get_or (written_by table f) n unwritten) state ≡ first_by table state (skipped n f)
  written_at zero state nothing = refl
  written_at zero state (more form text place parts next) = refl
  written_at (suc n) state nothing = nothing_at n
    where
      nothing_at : (n : ℕ) → [] ≡ first_by table state (skipped n nothing)
      nothing_at zero = refl
      nothing_at (suc n) = nothing_at n
  written_at (suc n) state (more form text place parts next) = written_at n state next

  -- what pieces that stand for parts give
  module _ (piece : Piece) (whole : Bool) (node : Node) (n k : ℕ) (trees : Forest Form) (same : k ≡ n) (are : trees ≡ skipped k node.parts) where
    behind : trees ≡ skipped n node.parts
    behind = are ∙ ap (λ i. skipped i node.parts) same

    pub part_items : (state : ℕ) → piece ≡ Part n state → first_by table state trees ≡ node_piece table piece whole node
    part_items state is = ap (first_by table state) behind ∙ (sym (written_at n state node.parts) ∙ ap (λ p. node_piece table p whole node) (sym is))

    pub listed_items : (symbol : ℕ) → piece ≡ Listed n symbol → all_listed symbol (written_by table trees) ≡ node_piece table piece whole node
    listed_items symbol is =
        ap (λ f. all_listed symbol (written_by table f)) behind ∙ (ap (all_listed symbol) (sym (written_skipped n node.parts)) ∙ ap (λ p. node_piece table p whole node) (sym is))

    pub parts_items : piece ≡ Parts n → all_written (written_by table trees) ≡ node_piece table piece whole node
    parts_items is = ap (λ f. all_written (written_by table f)) behind ∙ (ap all_written (sym (written_skipped n node.parts)) ∙ ap (λ p. node_piece table p whole node) (sym is))

-- ---- one step

nothing_shown : (o : Option Given) → is_some o ≡ false → shown o ≡ []
nothing_shown None e = refl
nothing_shown (Some item) e = absurd (true≢false e)

module _ (table rows : List Piece) (whole before left behind : List Frame) (f : Frame) (o : Option Given) where
  pub written_step : rows ≡ table → pending table whole ≡ pending table before → before ≡ left ++ f ∷ [] → frame_items rows f ++ pending rows left ≡ shown o ++ pending rows behind
      → pending table whole ≡ shown o ++ pending table behind
  written_step same e popped given =
      let Given-by : List Piece → Type 0 = λ t. frame_items t f ++ pending t left ≡ shown o ++ pending t behind in
      e ∙ (ap (pending table) popped ∙ (pending_push table left f ∙ subst Given-by same given))

  pub silent_step : rows ≡ table → pending table whole ≡ pending table before → before ≡ left ++ f ∷ [] → frame_items rows f ++ pending rows left ≡ shown o ++ pending rows behind → is_some o ≡ false
      → pending table whole ≡ pending table behind
  silent_step same e popped given none = written_step same e popped given ∙ ap (λ items. items ++ pending table behind) (nothing_shown o none)
