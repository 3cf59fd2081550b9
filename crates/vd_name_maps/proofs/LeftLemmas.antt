-- The generics that are left for places behind an element.
use Rattle.std.proofs.Common.{◌≡◌, ℕ, ◌+◌, ◌<◌, ◌≤◌, Bool, true, false, List, [], ◌∷◌, drop, length, cond, refl, ap, sym, ◌∙◌, arith}
use Rattle.std.proofs.lemmas.List.{drop-drop, drop_all}
use Rattle.vd_forms.specs.declared.form.Form.{Form}
use Rattle.vd_forms.specs.declared.form.Form.TheVariants as form
use Rattle.vd_naming.specs.Associations.{left_behind}
use Rattle.vd_name_maps.specs.Named.{is_named}

left_by : (f : Form) (left : List ℕ) → left_behind f left ≡ cond (is_named f) [] (drop 1 left)
left_by form.Association left = refl
left_by form.OthersAssociation left = refl
left_by _ left = refl

pub named_leaves_none : (f : Form) (next : ℕ) (gs : List ℕ) → is_named f ≡ true → drop (length gs) gs ≡ left_behind f (drop next gs)
named_leaves_none f next gs named = drop_all (length gs) gs (omega (arith)) ∙ sym (left_by f (drop next gs) ∙ ap (λ b. cond b [] (drop 1 (drop next gs))) named)

pub placed_leaves_others : (f : Form) (next : ℕ) (gs : List ℕ) → is_named f ≡ false → drop (next + 1) gs ≡ left_behind f (drop next gs)
placed_leaves_others f next gs placed =
    sym (drop-drop 1 next gs) ∙ sym (left_by f (drop next gs) ∙ ap (λ b. cond b [] (drop 1 (drop next gs))) placed)

pub none_stays_none : (f : Form) (next : ℕ) (gs : List ℕ) → is_named f ≡ false → length gs ≤ next → drop next gs ≡ left_behind f (drop next gs)
none_stays_none f next gs placed past =
    drop_all next gs past ∙ sym (left_by f (drop next gs) ∙ ap (λ b. cond b [] (drop 1 (drop next gs))) placed ∙ ap (drop 1) (drop_all next gs past))
