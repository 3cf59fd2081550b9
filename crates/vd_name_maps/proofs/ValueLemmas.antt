-- Elements that give a value.
use Rattle.std.proofs.Common.{◌≡◌, ℕ, Bool, true, false, ◌||◌, ◌&&◌, not, List, [], ◌∷◌, Option, Some, None, cond, refl, ap, ◌∙◌}
use Rattle.std.proofs.Math.Bool.{and-false, and-true}
use Rattle.std.proofs.lemmas.Bool.{both_ways}
use Rattle.vd_forest.specs.Forest.{Forest}
use Rattle.vd_forms.specs.declared.form.Form.{Form}
use Rattle.vd_naming.specs.Paths.{is_some}
use Rattle.vd_naming.specs.Associations.{Element, is_for, is_open, is_value_for, value_for, has_value}

pub open_gives_none : (g : ℕ) (e : Element) → is_open e.actual ≡ true → is_value_for g e ≡ false
open_gives_none g e is = ap (λ b. is_for g e.generic && not b) is ∙ and-false (is_for g e.generic)

pub other_gives_value : (g : ℕ) (e : Element) → is_open e.actual ≡ false → is_value_for g e ≡ is_for g e.generic
other_gives_value g e is = ap (λ b. is_for g e.generic && not b) is ∙ and-true (is_for g e.generic)

pub no_value : (g : ℕ) (es : List Element) → value_for g es ≡ None → has_value g es ≡ false
no_value g [] none = refl
no_value g (e ∷ es) none = by (no_value g es) (is_value_for g e) none
  where
    by : (value_for g es ≡ None → has_value g es ≡ false) → (b : Bool) → cond b (Some e.actual) (value_for g es) ≡ None → (b || has_value g es) ≡ false
    by others true none' = absurd (both_ways true (ap is_some none') refl)
    by others false none' = others none'

pub some_value : (g : ℕ) (es : List Element) (actual : Forest Form) → value_for g es ≡ Some actual → has_value g es ≡ true
some_value g [] actual some = absurd (both_ways false refl (ap is_some some))
some_value g (e ∷ es) actual some = by (some_value g es actual) (is_value_for g e) some
  where
    by : (value_for g es ≡ Some actual → has_value g es ≡ true) → (b : Bool) → cond b (Some e.actual) (value_for g es) ≡ Some actual
        → (b || has_value g es) ≡ true
    by others true some' = refl
    by others false some' = others some'
