-- Lists of names with their numbers, as a loop makes them.
use Rattle.std.proofs.Common.{◌≡◌, ℕ, suc, ◌+◌, List, Some, None, ap, ◌∙◌, sym, arith}
use Rattle.vd_bytes.specs.declared.places.Place.{Place}
use Rattle.vd_forest.specs.Forest.{Forest, more, turned}
use Rattle.vd_forest.specs.Store.{at, Holds}
use Rattle.vd_forms.specs.declared.form.Form.{Form}
use Rattle.vd_resolved.specs.declared.node.Resolved.{Resolved}
use Rattle.vd_naming.specs.Expressions.{resolved, unresolved}
use Rattle.vd_name_rows.specs.Entering.{numbered}

-- one name more, with its number
pub numbered_added : (fs gs : List (Forest Resolved)) (made new n k : ℕ) (left : Forest Form) (want : Forest Resolved)
    (form : Form) (text : List ℕ) (place : Place) (parts rest : Forest Form)
    → left ≡ more form text place parts rest → k ≡ n + 1
    → Holds gs new (more (resolved form (Some n) None) text place (unresolved parts) (at fs made))
    → turned (at fs made) (numbered n (unresolved left)) ≡ want
    → turned (at gs new) (numbered k (unresolved rest)) ≡ want
numbered_added fs gs made new n k left want form text place parts rest opened next added wanted =
    let e : k ≡ suc n = omega (arith, next) in
    ap (λ f. turned f (numbered k (unresolved rest))) added.is
    ∙ ap (λ j. turned (at fs made) (more (resolved form (Some n) None) text place (unresolved parts) (numbered j (unresolved rest)))) e
    ∙ ap (λ f. turned (at fs made) (numbered n (unresolved f))) (sym opened) ∙ wanted
