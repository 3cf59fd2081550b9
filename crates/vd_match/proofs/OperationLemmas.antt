-- The pieces of a name from its first brackets on. No name has a dash, so that a caller can name each in `#[tactic(auto, using(..))]`.
use Rattle.std.proofs.Common.{◌≡◌, ℕ, Bool, true, false, not, if◌then◌else◌, List, refl, sym, ap, ◌∙◌}
use Rattle.vd_bytes.specs.declared.places.Place.{Place}
use Rattle.vd_forest.specs.Forest.{Forest, nothing, more}
use Rattle.vd_notes.specs.declared.noted.Noted.{Noted}
use Rattle.vd_match.specs.Operations.{brackets_in, is_ahead, is_brackets}

other_if : {A : Type 0} (b : Bool) (x y : A) → not b ≡ true → (if b then x else y) ≡ y
other_if false x y is_not = refl
other_if true x y is_not = let no : false ≡ true = is_not in absurd (cc)

first_if : {A : Type 0} (b : Bool) (x y : A) → not b ≡ false → (if b then x else y) ≡ x
first_if true x y is = refl
first_if false x y is = let no : true ≡ false = is in absurd (cc)

pub brackets_behind : (f : Forest Noted) (n : Noted) (text : List ℕ) (place : Place) (parts next : Forest Noted)
    → f ≡ more n text place parts next → is_ahead f ≡ true → brackets_in next ≡ brackets_in f
brackets_behind f n text place parts next opened ahead =
    sym (ap brackets_in opened ∙ other_if (is_brackets n.node.form) (more n text place parts next) (brackets_in next) (ap is_ahead (sym opened) ∙ ahead))

pub brackets_here : (f : Forest Noted) → is_ahead f ≡ false → f ≡ brackets_in f
brackets_here nothing ended = refl
brackets_here (more n text place parts next) ended = sym (first_if (is_brackets n.node.form) (more n text place parts next) (brackets_in next) ended)

pub ruleset going = (brackets_behind, brackets_here)
