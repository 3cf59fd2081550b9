-- Elements of maps by the first of their nodes.
use Rattle.std.proofs.Common.{◌≡◌, ◌∙◌, Bool, List, ap, false, refl, sym, true, ℕ}
use Rattle.vd_bytes.specs.declared.places.Place.{Place}
use Rattle.vd_forest.specs.Forest.{Forest, more}
use Rattle.vd_forms.specs.declared.form.Form.{Form}
use Rattle.vd_meaning.specs.Brackets.{is_positional}
use Rattle.vd_forms.specs.declared.form.Form.TheVariants as form
use Rattle.vd_meaning.specs.Facets.{Meaning, nth}
use Rattle.vd_meaning.specs.Kinds.{kind}
use Rattle.vd_meaning.specs.Meanings.{meaning_of, meanings}
use Rattle.vd_meaning.specs.Tables.{Table}
use Rattle.vd_resolved.specs.declared.node.Resolved.{Resolved}
use Rattle.vd_static_rules.specs.Elements.{naming}
use Rattle.vd_static_rules.specs.declared.elements.Naming.{Naming}
use Rattle.vd_static_rules.specs.declared.elements.Naming.TheVariants.{ByPlace, Inner, Named}

-- whether the first tree names nothing
abbrev pub positional_at : Table → Forest Resolved → Bool
positional_at t f = is_positional (nth 0 (meanings t f)).association

abbrev pub positional_by : Naming → Bool → Bool
positional_by Inner b = b
positional_by Named b = false
positional_by ByPlace b = true

positional_of : (f : Form) (t : Table) (n : Resolved) (text : List ℕ) (ms : List Meaning)
    → is_positional (meaning_of (kind f) t n text ms).association ≡ positional_by (naming f) (is_positional (nth 0 ms).association)
positional_of form.UnconstrainedIndex t n text ms = refl
positional_of form.OthersAssociation t n text ms = refl
positional_of form.Association t n text ms = refl
positional_of form.Absent t n text ms = refl
positional_of _ t n text ms = refl

pub positional_here : (t : Table) (f : Forest Resolved) (n : Resolved) (text : List ℕ) (place : Place) (parts next : Forest Resolved) (by : Naming)
    → f ≡ more n text place parts next → by ≡ naming n.form → positional_at t f ≡ positional_by by (positional_at t parts)
positional_here t f n text place parts next by is says =
    ap (positional_at t) is ∙ positional_of n.form t n text (meanings t parts) ∙ ap (λ v. positional_by v (positional_at t parts)) (sym says)
