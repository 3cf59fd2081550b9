-- What was read of a tree in a store of its own.
use Rattle.std.proofs.Common.{◌≡◌, List, refl, subst}
use Rattle.vd_forest.specs.Forest.{Forest}
use Rattle.vd_forms.specs.declared.form.Form.{Form}
use Rattle.vd_overloads.specs.declared.wanted.Wanted.{Wanted}
use Rattle.vd_resolved.specs.declared.node.Resolved.{Resolved}
use Rattle.vd_name_rows.specs.Designs.{At, Design}
use Rattle.vd_naming.specs.Expressions.{read_as, read_as_mark}
use Rattle.vd_name_entering.specs.Made.{IsMade}
use Rattle.vd_name_expressions.specs.Reads.{IsRead}
use Rattle.vd_name_expressions.specs.declared.reading.Read.{Read}

module _ (store : List (Forest Resolved)) (at : At) (d : Design) (read : Read) (t u : Forest Form) (same : t ≡ u) where
  pub made_of_read : (w : Wanted) → IsRead store read (read_as at d w t) → IsMade store d (record { tree = read.tree; first = read.first }) (read_as at d w u)
  made_of_read w is =
      let there = subst (λ f. IsRead store read (read_as at d w f)) same is in
      record { holds = there.holds; design = refl; first = there.first }

  pub made_of_mark : IsRead store read (read_as_mark at d t) → IsMade store d (record { tree = read.tree; first = read.first }) (read_as_mark at d u)
  made_of_mark is =
      let there = subst (λ f. IsRead store read (read_as_mark at d f)) same is in
      record { holds = there.holds; design = refl; first = there.first }
