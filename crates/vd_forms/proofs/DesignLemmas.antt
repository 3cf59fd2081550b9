-- Units of several designs, side by side.
use Rattle.std.proofs.Common.{◌≡◌, ℕ, ◌+◌, ◌-◌, ◌<◌, ◌≤◌, Bool, true, false, List, [], ◌∷◌, length, drop, get_or, refl, sym, ap, subst, ◌∙◌, arith}
use Rattle.std.proofs.lemmas.Bool.{and_parts, and_from}
use Rattle.std.proofs.lemmas.List.{drop_more}
use Rattle.vd_trees.specs.declared.revision.Revision.{Revision}
use Rattle.vd_forest.specs.Forest.{Forest, nothing, more, joined, turned}
use Rattle.vd_forest.specs.Store.{at, Holds, Extends}
use Rattle.vd_forest.proofs.ForestLemmas.{turned_turned}
use Rattle.vd_forest.proofs.StoreLemmas.{extends_trans}
use Rattle.vd_forms.specs.declared.form.Form.{Form}
use Rattle.vd_forms.specs.Forms.{is_among}
use Rattle.vd_forms.specs.Slots.{Many}
use Rattle.vd_forms.specs.Validity.{forms_of, fits, AreValid, IsDesign, all_joined}

-- turned twice, a forest stands as it stood, in front of the other
pub turned_twice : (f h : Forest Form) → turned (turned f nothing) h ≡ joined f h
turned_twice f h = turned_turned f nothing h

fits_joined : (gs : List Form) (f h : Forest Form) → fits (Many gs ∷ []) (forms_of f) ≡ true → fits (Many gs ∷ []) (forms_of h) ≡ true
    → fits (Many gs ∷ []) (forms_of (joined f h)) ≡ true
fits_joined gs nothing h a b = b
fits_joined gs (more f t p ps n) h a b =
    let parts = and_parts (is_among gs f) (fits (Many gs ∷ []) (forms_of n)) a in
    and_from (is_among gs f) (fits (Many gs ∷ []) (forms_of (joined n h))) parts.0 (fits_joined gs n h parts.1 b)

valid_joined : (r : Revision) (keep : Bool) (f h : Forest Form) → AreValid r keep f → AreValid r keep h → AreValid r keep (joined f h)
valid_joined r keep nothing h a b = b
valid_joined r keep (more f t p ps n) h a b = (a.0, a.1, a.2, a.3, a.4, valid_joined r keep n h a.5 b)

pub design_joined : (r : Revision) (f h : Forest Form) → IsDesign r f → IsDesign r h → IsDesign r (joined f h)
design_joined r f h a b = record {
  are_units = fits_joined _ f h a.are_units b.are_units;
  are_valid = valid_joined r false f h a.are_valid b.are_valid;
}

pub no_design : (r : Revision) → IsDesign r nothing
no_design r = record { are_units = refl; are_valid = tt }

-- the units of one design more in front
pub joined_more : (fs : List (Forest Form)) (i : ℕ) (f : Forest Form) → i < length fs → f ≡ get_or fs i f
    → all_joined (drop i fs) ≡ joined f (all_joined (drop (i + 1) fs))
joined_more fs i f within is = ap all_joined (drop_more fs i f within) ∙ ap (λ x. joined x (all_joined (drop (i + 1) fs))) (sym is)

-- a store that grows keeps a design
pub kept_within : (old new : List (Forest Form)) (units : ℕ) → Extends old new → units ≤ length old → units ≤ length new
kept_within old new units e within = omega (arith, e.grows, within)

pub kept_design : (r : Revision) (old new : List (Forest Form)) (units : ℕ) → Extends old new → units ≤ length old → IsDesign r (at old units)
    → IsDesign r (at new units)
kept_design r old new units e within d = subst (IsDesign r) (sym (e.keeps units within)) d

pub held_design : (r : Revision) (new : List (Forest Form)) (made : ℕ) (f h : Forest Form) → Holds new made (joined f h) → IsDesign r f → IsDesign r h
    → IsDesign r (at new made)
held_design r new made f h k a b = subst (IsDesign r) (sym k.is) (design_joined r f h a b)

-- the units of some designs, and of one more
pub record AreCopied (r : Revision) (start new : List (Forest Form)) (made : ℕ) (f : Forest Form) : Type 0 where
  pub extends : Extends start new
  pub holds : Holds new made f
  pub valid : IsDesign r f

pub one_more_copied : (r : Revision) (start mid new : List (Forest Form)) (fs : List (Forest Form)) (left made made' : ℕ) (f g : Forest Form)
    → 0 < left → left ≤ length fs → g ≡ get_or fs (left - 1) g → f ≡ g → IsDesign r g
    → Extends start mid → Holds mid made (all_joined (drop left fs)) → IsDesign r (all_joined (drop left fs))
    → Extends mid new → Holds new made' (joined f (at mid made)) → AreCopied r start new made' (all_joined (drop (left - 1) fs))
one_more_copied r start mid new fs left made made' f g some within is same d e h v e' h' =
    let before : left - 1 + 1 ≡ left = omega arith in
    let more : all_joined (drop (left - 1) fs) ≡ joined g (all_joined (drop left fs)) =
    joined_more fs (left - 1) g (omega arith) is ∙ ap (λ i. joined g (all_joined (drop i fs))) before in
    let made_is : joined f (at mid made) ≡ all_joined (drop (left - 1) fs) = (λ i. joined (same i) (h.is i)) ∙ sym more in
    record {
      extends = extends_trans start mid new e e';
      holds = subst (Holds new made') made_is h';
      valid = subst (IsDesign r) (sym more) (design_joined r g (all_joined (drop left fs)) d v);
    }

pub ruleset appending = (kept_within, kept_design, held_design)
