-- What is refused of names, and what else is refused.
use Rattle.std.proofs.Common.{◌≡◌, ℕ, List, Option, ap, subst, ◌∙◌}
use Rattle.vd_bytes.specs.declared.answers.Refused.{Refused}
use Rattle.vd_forest.specs.Forest.{Forest}
use Rattle.vd_forms.specs.declared.form.Form.{Form}
use Rattle.vd_overloads.specs.declared.wanted.Wanted.{Wanted}
use Rattle.vd_resolved.specs.declared.node.Resolved.{Resolved}
use Rattle.vd_visible.specs.Sights.{Standpoint, sight_from}
use Rattle.vd_name_rows.specs.Designs.{At, Design, standpoint}
use Rattle.vd_naming.specs.Expressions.{read_as, read_as_mark}
use Rattle.vd_naming.specs.Pieces.{refused_pieces}
use Rattle.vd_name_expressions.specs.Reads.{IsRead, read_beside, mark_read_beside}
use Rattle.vd_name_expressions.specs.declared.reading.Read.{Read}

module _ (at : At) (d : Design) (tree : Forest Form) (pieces : Option Refused) (store : List (Forest Resolved)) (read : Read) (p : Standpoint) (region : ℕ) where
  pieces_at : p ≡ standpoint at d → region ≡ at.region → pieces ≡ refused_pieces (sight_from p) d region tree
      → pieces ≡ refused_pieces (sight_from (standpoint at d)) d at.region tree
  pieces_at same here is = is ∙ ap (λ q. refused_pieces (sight_from q) d region tree) same ∙ ap (λ r. refused_pieces (sight_from (standpoint at d)) d r tree) here

  pub read_whole : (w : Wanted) → p ≡ standpoint at d → region ≡ at.region → pieces ≡ refused_pieces (sight_from p) d region tree
      → IsRead store read (read_beside at d w tree pieces) → IsRead store read (read_as at d w tree)
  read_whole w same here is held = subst (λ r. IsRead store read (read_beside at d w tree r)) (pieces_at same here is) held

  pub mark_read_whole : p ≡ standpoint at d → region ≡ at.region → pieces ≡ refused_pieces (sight_from p) d region tree
      → IsRead store read (mark_read_beside at d tree pieces) → IsRead store read (read_as_mark at d tree)
  mark_read_whole same here is held = subst (λ r. IsRead store read (mark_read_beside at d tree r)) (pieces_at same here is) held
