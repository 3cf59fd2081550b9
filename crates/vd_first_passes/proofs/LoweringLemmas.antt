-- Names once each, and a design with its lists.
use Rattle.std.proofs.Common.{◌≡◌, ℕ, Bool, true, false, List, refl, sym, ap, ◌∙◌}
use Rattle.vd_bytes.specs.declared.places.Place.{Place}
use Rattle.vd_forest.specs.Forest.{Forest, nothing, more, text_of, joined, turned}
use Rattle.vd_forest.specs.Store.{at, Holds}
use Rattle.vd_forest.specs.Texts.{with_text}
use Rattle.vd_forest.proofs.ForestLemmas.{turned_joined}
use Rattle.vd_first_trees.specs.declared.form.Form.{Form}
use Rattle.vd_first_passes.specs.Lowering.{firsts, unless, names_after, is_among}

unless_joined : (v : Bool) (f : Form) (t : List ℕ) (p : Place) (parts all some rest : Forest Form) → all ≡ joined some rest → unless v f t p parts all ≡ joined (unless v f t p parts some) rest
unless_joined true f t p parts all some rest h = h
unless_joined false f t p parts all some rest h = ap (more f t p parts) h

-- what is once each in two lists, one after the other
pub firsts_joined : (b : List (List ℕ)) (f g : Forest Form) → firsts b (joined f g) ≡ joined (firsts b f) (firsts (names_after b f) g)
firsts_joined b nothing g = refl
firsts_joined b (more form t p parts next) g =
    let c = with_text b (text_of parts) in
    unless_joined (is_among b (text_of parts)) form t p parts (firsts c (joined next g)) (firsts c next) (firsts (names_after c next) g) (firsts_joined c next g)

pub names_after_joined : (b : List (List ℕ)) (f g : Forest Form) → names_after b (joined f g) ≡ names_after (names_after b f) g
names_after_joined b nothing g = refl
names_after_joined b (more form t p parts next) g = names_after_joined (with_text b (text_of parts)) next g

-- some names were collected, and others are left
pub collected : (fs gs : List (Forest Form)) (seen now : List (List ℕ)) (made new : ℕ) (all some rest want : Forest Form)
    → all ≡ joined some rest → Holds gs new (turned (firsts seen some) (at fs made)) → now ≡ names_after seen some
    → turned (firsts seen all) (at fs made) ≡ want → turned (firsts now rest) (at gs new) ≡ want
collected fs gs seen now made new all some rest want split held later wanted =
    ap (turned (firsts now rest)) held.is
    ∙ sym (turned_joined (firsts seen some) (firsts now rest) (at fs made))
    ∙ ap (λ f. turned f (at fs made)) (ap (λ b. joined (firsts seen some) (firsts b rest)) later ∙ sym (firsts_joined seen some rest) ∙ ap (firsts seen) (sym split))
    ∙ wanted

pub collected_names : (seen now want : List (List ℕ)) (all some rest : Forest Form)
    → all ≡ joined some rest → now ≡ names_after seen some → names_after seen all ≡ want → names_after now rest ≡ want
collected_names seen now want all some rest split later wanted =
    ap (λ b. names_after b rest) later ∙ sym (names_after_joined seen some rest) ∙ ap (names_after seen) (sym split) ∙ wanted
