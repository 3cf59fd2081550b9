-- The whole pass.
use Rattle.std.specs.Prelude.{◌≡◌, None}
use Rattle.vd_forest.specs.Forest.{Forest}
use Rattle.vd_resolved.specs.Trees.{ResolvedTree}
use Rattle.vd_resolved.specs.declared.node.Resolved.{Resolved}
use Rattle.vd_rewriting.specs.Inheriting.{rewritten_under}
use Rattle.vd_rewriting.specs.Rewriting.{rewritten}
use Rattle.vd_vector_conversions.specs.declared.facts.Facts.{Facts}
use Rattle.vd_vector_conversions.specs.declared.inside.Inside.{Inside}
use Rattle.vd_vector_conversions.specs.declared.inside.Want.TheVariants as want
use Rattle.vd_vector_conversions.specs.Conversions.{converting}
use Rattle.vd_vector_conversions.specs.Naturals.{flavoured}

-- what holds of the first unit
abbrev pub outside : Inside
outside = record { want = want.Nothing; result = None }

-- a text in which the two vector types meet in conversions alone
abbrev pub with_conversions : Facts → Forest Resolved → Forest Resolved
with_conversions k units = rewritten_under (converting k) outside (rewritten (flavoured k) units)

-- A design is as it was; or it has the declarations that are known, and conversions in its text, or in the text that this became when each element of an
-- aggregate that stood for vectors of both flavours became several.
pub data IsConverted (tree made : ResolvedTree) : Type 0 where
  Unchanged : (same : made ≡ tree) → IsConverted tree made
  Apart : (k : Facts) → (units : Forest Resolved) → (is : made ≡ record { units = with_conversions k units; declarations = k.declared.items })
      → IsConverted tree made
