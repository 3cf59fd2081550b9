-- Trees in which nothing is named, as a pass over trees.
use Rattle.std.proofs.Common.{◌≡◌, ℕ, List, None, subst, ◌∙◌}
use Rattle.vd_forest.specs.Forest.{Forest}
use Rattle.vd_forest.specs.Store.{Holds}
use Rattle.vd_forms.specs.declared.form.Form.{Form}
use Rattle.vd_resolved.specs.declared.node.Resolved.{Resolved}
use Rattle.vd_rewriting.specs.Forms.{forms_pass}
use Rattle.vd_rewriting.specs.Inheriting.{rewritten_under}
use Rattle.vd_rewriting.proofs.FormLaws.{rewritten_forms}
use Rattle.vd_rewriting.proofs.InheritingLaws.{rewritten_without}
use Rattle.vd_naming.specs.Expressions.{resolved, unresolved}
use Rattle.vd_naming.specs.Nodes.{unresolved_rules}

rewritten_unresolved : (state : Unit {0}) (f : Forest Form) → rewritten_under unresolved_rules state f ≡ unresolved f
rewritten_unresolved state f = rewritten_without (forms_pass (λ form. resolved form None None)) state f ∙ rewritten_forms (λ form. resolved form None None) f

pub holds_unresolved : (fs : List (Forest Resolved)) (number : ℕ) (state : Unit {0}) (f : Forest Form)
    → Holds fs number (rewritten_under unresolved_rules state f) → Holds fs number (unresolved f)
holds_unresolved fs number state f = subst (Holds fs number) (rewritten_unresolved state f)
