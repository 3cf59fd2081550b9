-- Selectors, and what they are compared by.
use Rattle.std.proofs.Common.{◌≡◌, Bool, List, ap, false, sym, true, ℕ, ◌∙◌, ◌||◌}
use Rattle.vd_bytes.specs.declared.places.Place.{Place}
use Rattle.vd_choice_rules.specs.SelectingStatements.{is_nothing}
use Rattle.vd_forest.specs.Forest.{Forest, more, nothing}
use Rattle.vd_resolved.specs.declared.node.Resolved.{Resolved}
use Rattle.vd_value_rules.specs.Choices.{ends_in_conversion, is_conversion_piece, is_selectable, is_selectable_form}
use Rattle.vd_value_rules.specs.Designs.{Design, is_2019}
use Rattle.vd_trees.specs.declared.revision.Revision.{Revision}

pub last_piece : (d : Design) (f : Forest Resolved) (n : Resolved) (text : List ℕ) (place : Place) (parts next : Forest Resolved) (last answer : Bool)
    → f ≡ more n text place parts next → last ≡ is_nothing next → last ≡ true → answer ≡ is_conversion_piece d n n.form → answer ≡ ends_in_conversion d f
last_piece d f n text place parts nothing last answer is last_is holds answers = answers ∙ sym (ap (ends_in_conversion d) is)
last_piece d f n text place parts (more m word other inner behind) last answer is last_is holds answers = let fails : true ≡ false = sym holds ∙ last_is in absurd (cc)

pub further_piece : (d : Design) (f : Forest Resolved) (n : Resolved) (text : List ℕ) (place : Place) (parts next : Forest Resolved) (last : Bool)
    → f ≡ more n text place parts next → last ≡ is_nothing next → last ≡ false → ends_in_conversion d next ≡ ends_in_conversion d f
further_piece d f n text place parts nothing last is last_is fails = let both : true ≡ false = sym last_is ∙ fails in absurd (cc)
further_piece d f n text place parts (more m word other inner behind) last is last_is fails = sym (ap (ends_in_conversion d) is)

pub selectable_later : (d : Design) (f : Forest Resolved) (n : Resolved) (text : List ℕ) (place : Place) (parts next : Forest Resolved) (r : Revision) (later : Bool)
    → f ≡ more n text place parts next → d.revision ≡ r → later ≡ is_2019 r → later ≡ true → true ≡ is_selectable d f
selectable_later d f n text place parts next r later is revision later_is holds =
    sym (ap (is_selectable d) is ∙ ap (λ b. b || is_selectable_form n.form d parts) (ap is_2019 revision ∙ sym later_is ∙ holds))

pub selectable_before : (d : Design) (f : Forest Resolved) (n : Resolved) (text : List ℕ) (place : Place) (parts next : Forest Resolved) (r : Revision) (later answer : Bool)
    → f ≡ more n text place parts next → d.revision ≡ r → later ≡ is_2019 r → later ≡ false → answer ≡ is_selectable_form n.form d parts → answer ≡ is_selectable d f
selectable_before d f n text place parts next r later answer is revision later_is fails answers =
    answers ∙ sym (ap (is_selectable d) is ∙ ap (λ b. b || is_selectable_form n.form d parts) (ap is_2019 revision ∙ sym later_is ∙ fails))
