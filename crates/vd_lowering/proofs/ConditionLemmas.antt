-- Choices one after the other. No name has a dash, so that a caller can name each in `#[tactic(auto, using(..))]`.
use Rattle.std.proofs.Common.{◌≡◌, ◌≤◌, ℕ, List, length, sym, ap, ◌∙◌}
use Rattle.vd_bytes.specs.declared.places.Place.{Place}
use Rattle.vd_forest.specs.Forest.{Forest, more}
use Rattle.vd_forest.specs.Store.{at, Holds, Extends}
use Rattle.vd_forest.proofs.StoreLemmas.{extends_same, extends_trans, within_more, at_more, kept}
use Rattle.vd_forms.specs.declared.form.Form.TheVariants as form
use Rattle.vd_notes.specs.declared.noted.Noted.{Noted}
use Rattle.vd_lowering.specs.Conditions.{alone, any_choice, choice_by, paired}
use Rattle.vd_lowering.specs.declared.operators.TypeRow.{TypeRow}

pub any_step : (rows : List TypeRow) (place : Place) (selector own : Forest Noted) (fs gs : List (Forest Noted)) (k next found new : ℕ) (want : Forest Noted)
    (n : Noted) (t : List ℕ) (p : Place) (ps : Forest Noted)
    → at fs k ≡ more n t p ps (at fs next) → Extends fs gs → next ≤ length fs → own ≡ selector
    → Holds gs new (paired rows form.Or place (at fs found) (choice_by rows n.node.form place own (alone (at fs k))))
    → any_choice rows place selector (at fs found) (at fs k) ≡ want
    → any_choice rows place selector (at gs new) (at gs next) ≡ want
any_step rows place selector own fs gs k next found new want n t p ps opened grown within same held before =
    ap (any_choice rows place selector (at gs new)) (grown.keeps next within)
    ∙ ap (λ c. any_choice rows place selector c (at fs next))
    (held.is ∙ ap (λ s. paired rows form.Or place (at fs found) (choice_by rows n.node.form place s (alone (at fs k)))) same
    ∙ ap (λ v. paired rows form.Or place (at fs found) (choice_by rows n.node.form place selector (alone v))) opened)
    ∙ ap (any_choice rows place selector (at fs found)) (sym opened)
    ∙ before

pub ruleset choosing = (extends_same, extends_trans, within_more, at_more, kept, any_step)
