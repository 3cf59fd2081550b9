-- Names that are known or not, one tree after the other.
use Rattle.std.proofs.Common.{◌≡◌, ℕ, Bool, true, false, List, [], ◌∷◌, ◌++◌, Option, Some, None, refl, sym, ap, ◌∙◌}
use Rattle.std.specs.Prelude.{if◌then◌else◌, is_some}
use Rattle.vd_bytes.specs.declared.places.Place.{Place}
use Rattle.vd_forest.specs.Forest.{Forest, nothing, more, text_of, joined}
use Rattle.vd_forest.specs.Texts.{with_text}
use Rattle.vd_first_trees.specs.declared.form.Form.{Form}
use Rattle.vd_first_passes.specs.Lowering.{is_among}
use Rattle.vd_first_accept.specs.Unknown.{with_all, first_outside}

with_all-append : (texts xs ys : List (List ℕ)) → with_all texts (xs ++ ys) ≡ with_all (with_all texts xs) ys
with_all-append texts [] ys = refl
with_all-append texts (x ∷ xs) ys = with_all-append (with_text texts x) xs ys

-- some texts were put in, and others are left
pub listed_more : (old new want all some rest : List (List ℕ)) → all ≡ some ++ rest → new ≡ with_all old some → with_all old all ≡ want → with_all new rest ≡ want
listed_more old new want all some rest split now wanted =
    ap (λ t. with_all t rest) now ∙ sym (with_all-append old some rest) ∙ ap (with_all old) (sym split) ∙ wanted

abbrev pub or_else : Option Place → Option Place → Option Place
or_else None p = p
or_else (Some x) p = Some x

outside_step : (b : Bool) (p : Place) (all some rest : Option Place) → all ≡ or_else some rest → (if b then all else Some p) ≡ or_else (if b then some else Some p) rest
outside_step true p all some rest h = h
outside_step false p all some rest h = refl

pub first_outside_joined : (known : List (List ℕ)) (f g : Forest Form) → first_outside known (joined f g) ≡ or_else (first_outside known f) (first_outside known g)
first_outside_joined known nothing g = refl
first_outside_joined known (more form t p parts next) g = outside_step (is_among known (text_of parts)) p _ _ _ (first_outside_joined known next g)

-- none was found in some names, so it is among the others
pub outside_later : (known : List (List ℕ)) (all some rest : Forest Form) (found : Option Place) → all ≡ joined some rest → found ≡ first_outside known some → found ≡ None → first_outside known rest ≡ first_outside known all
outside_later known all some rest found split is none =
    sym (ap (first_outside known) split ∙ first_outside_joined known some rest ∙ ap (λ o. or_else o (first_outside known rest)) (sym is ∙ none))

-- one was found, and stays the first
found_stays : (found rest : Option Place) → is_some found ≡ true → or_else found rest ≡ found
found_stays None rest h = cc
found_stays (Some x) rest h = refl

pub outside_found : (known : List (List ℕ)) (all some rest : Forest Form) (found : Option Place) → all ≡ joined some rest → found ≡ first_outside known some → is_some found ≡ true → found ≡ first_outside known all
outside_found known all some rest found split is there =
    sym (ap (first_outside known) split ∙ first_outside_joined known some rest ∙ ap (λ o. or_else o (first_outside known rest)) (sym is) ∙ found_stays found (first_outside known rest) there)

pub none_of : (found : Option Place) → is_some found ≡ false → found ≡ None
none_of None h = refl
none_of (Some x) h = cc
