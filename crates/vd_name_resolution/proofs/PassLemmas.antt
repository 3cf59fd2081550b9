-- Trees with what their numbers stand for, as a pass over trees.
use Rattle.std.proofs.Common.{◌≡◌, ℕ, List, subst, ◌∙◌}
use Rattle.vd_forest.specs.Forest.{Forest}
use Rattle.vd_forest.specs.Store.{Holds}
use Rattle.vd_resolved.specs.declared.node.Resolved.{Resolved}
use Rattle.vd_rewriting.specs.Forms.{forms_pass, with_forms}
use Rattle.vd_rewriting.specs.Inheriting.{rewritten_under}
use Rattle.vd_rewriting.proofs.FormLaws.{rewritten_forms}
use Rattle.vd_rewriting.proofs.InheritingLaws.{rewritten_without}
use Rattle.vd_name_rows.specs.declared.notes.Taken.{Taken}
use Rattle.vd_naming.specs.Settled.{settled_node}
use Rattle.vd_name_resolution.specs.Passes.{settling_rules}

rewritten_settled : (ts : List Taken) (state : Unit {0}) (f : Forest Resolved) → rewritten_under (settling_rules ts) state f ≡ with_forms (settled_node ts) f
rewritten_settled ts state f = rewritten_without (forms_pass (settled_node ts)) state f ∙ rewritten_forms (settled_node ts) f

pub holds_settled : (ts : List Taken) (fs : List (Forest Resolved)) (number : ℕ) (state : Unit {0}) (f : Forest Resolved)
    → Holds fs number (rewritten_under (settling_rules ts) state f) → Holds fs number (with_forms (settled_node ts) f)
holds_settled ts fs number state f = subst (Holds fs number) (rewritten_settled ts state f)
