-- Brackets that leave no node.
use Rattle.std.proofs.Common.{◌≡◌, ℕ, Bool, true, false, ◌&&◌, ◌||◌, not, ◌==◌, List, [], ◌∷◌, inl, inr, refl, sym, ap, subst, ◌∙◌}
use Rattle.std.specs.List.{list_any}
use Rattle.std.proofs.lemmas.Bool.{and_parts, and_from, and_right, or_cases, or_from, false≢true}
use Rattle.vd_trees.specs.declared.revision.Revision.{Revision}
use Rattle.vd_bytes.specs.declared.places.Place.{Place}
use Rattle.vd_forest.specs.Forest.{Forest, nothing, more, with_next}
use Rattle.vd_forms.specs.declared.form.Form.{Form}
use Rattle.vd_forms.specs.declared.form.Form.TheVariants as form
use Rattle.vd_forms.specs.Forms.{form_number, same_form, is_among, expressions}
use Rattle.vd_forms.specs.Slots.{Slot, One, Many}
use Rattle.vd_forms.specs.Validity.{forms_of, fits, is_one_expression, is_bracketed, holders_of_actuals, keeps_brackets, AreValid}
use Rattle.vd_shapes.specs.Shapes.{without_brackets, unbracketed, settled}
use Rattle.vd_valid_shapes.specs.Effects.{are_among, brackets_can_go}
use Rattle.vd_valid_shapes.proofs.SlotLemmas.{same_number, among_all}

-- ---- brackets round one expression

-- the number of the form of brackets
abbrev brackets : ℕ
brackets = form_number form.Aggregate

record AreRound (f : Form) (parts : Forest Form) : Type 0 where
  pub number : form_number f ≡ brackets
  pub one : is_one_expression parts ≡ true

round : (f : Form) (parts : Forest Form) → is_bracketed f parts ≡ true → AreRound f parts
round f parts h =
    let p = and_parts (same_form f form.Aggregate) (is_one_expression parts) h in
    record { number = same_number f form.Aggregate p.0; one = p.1 }

-- a test of forms answers for brackets
among_same : (f g : Form) (xs : List Form) (b : Bool) → form_number f ≡ form_number g → is_among xs g ≡ b → is_among xs f ≡ b
among_same f g xs b e h = subst (λ n. list_any (λ x. n == form_number x) xs ≡ b) (sym e) h

-- ---- one expression stays one

one_alone : (parts : Forest Form) → is_one_expression parts ≡ true → is_one_expression (with_next parts nothing) ≡ true
one_alone nothing h = h
one_alone (more g t p ps nothing) h = h
one_alone (more g t p ps (more g' t' p' ps' n)) h = absurd (false≢true h)

-- some tree stands there
abbrev stands : Forest Form → Bool
stands nothing = false
stands (more f t p ps n) = true

two : (g : Form) (t : List ℕ) (p : Place) (ps q : Forest Form) → stands q ≡ true → is_one_expression (more g t p ps q) ≡ false
two g t p ps nothing h = absurd (false≢true h)
two g t p ps (more g' t' p' ps' n) h = refl

with_two : (parts q : Forest Form) → is_one_expression parts ≡ true → stands q ≡ true → is_one_expression (with_next parts q) ≡ false
with_two nothing q h s = absurd (false≢true h)
with_two (more g t p ps n) q h s = two g t p ps q s

with_some : (parts q : Forest Form) → is_one_expression parts ≡ true → stands (with_next parts q) ≡ true
with_some nothing q h = absurd (false≢true h)
with_some (more g t p ps n) q h = refl

module _ (f : Form) (t : List ℕ) (p : Place) (parts : Forest Form) where
  one_left : (b : Bool) → is_bracketed f parts ≡ b → is_one_expression (without_brackets b f t p parts nothing) ≡ is_among expressions f
  one_left true e =
      let r = round f parts e in
      one_alone parts r.one ∙ sym (among_same f form.Aggregate expressions true r.number refl)
  one_left false e = refl

  two_left : (b : Bool) (q : Forest Form) → is_bracketed f parts ≡ b → stands q ≡ true → is_one_expression (without_brackets b f t p parts q) ≡ false
  two_left true q e s = with_two parts q (round f parts e).one s
  two_left false q e s = two f t p parts q s

  some_left : (b : Bool) (q : Forest Form) → is_bracketed f parts ≡ b → stands (without_brackets b f t p parts q) ≡ true
  some_left true q e = with_some parts q (round f parts e).one
  some_left false q e = refl

still_one : (f : Forest Form) → is_one_expression (unbracketed f) ≡ is_one_expression f
still_one nothing = refl
still_one (more f t p parts nothing) = one_left f t p parts (is_bracketed f parts) refl
still_one (more f t p parts (more g u q ps n)) =
    two_left f t p parts (is_bracketed f parts) (unbracketed (more g u q ps n)) refl
    (some_left g u q ps (is_bracketed g ps) (unbracketed n) refl)

-- ---- trees stay valid

module _ (r : Revision) where
  first_valid : (parts q : Forest Form) → AreValid r false parts → AreValid r false q → AreValid r false (with_next parts q)
  first_valid nothing q v w = w
  first_valid (more g t p ps n) q v w = (v.0, v.1, v.2, v.3, v.4, w)

  -- brackets round one expression keep none
  keeps_none : (f : Form) (parts : Forest Form) → AreRound f parts → keeps_brackets f parts ≡ false
  keeps_none f parts round =
      or_from (is_among holders_of_actuals f) _ (among_same f form.Aggregate holders_of_actuals false round.number refl)
      (and_right (is_among (form.Aggregate ∷ form.Qualification ∷ []) f) (not (is_one_expression parts)) (ap not round.one))

  without : (f : Form) (t : List ℕ) (p : Place) (parts next q : Forest Form) (b : Bool) → is_bracketed f parts ≡ b → AreValid r true (more f t p parts next)
      → AreValid r false q → AreValid r false (without_brackets b f t p parts q)
  without f t p parts next q true e v w =
      first_valid parts q (subst (λ k. AreValid r k parts) (keeps_none f parts (round f parts e)) v.4) w
  without f t p parts next q false e v w = (v.0, v.1, v.2, ap not e, v.4, w)

  pub unbracketed_valid : (f : Forest Form) → AreValid r true f → AreValid r false (unbracketed f)
  unbracketed_valid nothing v = tt
  unbracketed_valid (more f t p parts next) v =
      without f t p parts next (unbracketed next) (is_bracketed f parts) refl v (unbracketed_valid next v.5)

  -- whether brackets stay or go, their parent says so of what is left too
  pub settled_valid : (f : Form) (parts : Forest Form) → AreValid r true parts
      → AreValid r (keeps_brackets f (settled (keeps_brackets f parts) parts)) (settled (keeps_brackets f parts) parts)
  settled_valid f parts v = go (keeps_brackets f parts) refl
    where
      same : keeps_brackets f (unbracketed parts) ≡ keeps_brackets f parts
      same = ap (λ b. is_among holders_of_actuals f || (is_among (form.Aggregate ∷ form.Qualification ∷ []) f && not b)) (still_one parts)

      go : (k : Bool) → keeps_brackets f parts ≡ k → AreValid r (keeps_brackets f (settled k parts)) (settled k parts)
      go true e = subst (λ k. AreValid r k parts) (sym e) v
      go false e = subst (λ k. AreValid r k (unbracketed parts)) (sym (same ∙ e)) (unbracketed_valid parts v)

-- ---- and fit

-- the form that stands first once brackets have gone
record Left (xs : List Form) (f q : Forest Form) : Type 0 where
  pub form : Form
  pub forms : forms_of f ≡ form ∷ forms_of q
  pub fit : is_among xs form ≡ true

one_form : (xs : List Form) (parts q : Forest Form) → is_one_expression parts ≡ true → are_among xs expressions ≡ true → Left xs (with_next parts q) q
one_form xs nothing q h u = absurd (false≢true h)
one_form xs (more g t p ps nothing) q h u = record { form = g; forms = refl; fit = among_all g expressions xs h u }
one_form xs (more g t p ps (more g' t' p' ps' n)) q h u = absurd (false≢true h)

-- where brackets may stand, every expression may
every_may : (xs : List Form) → (not (is_among xs form.Aggregate) || are_among xs expressions) ≡ true → is_among xs form.Aggregate ≡ true
    → are_among xs expressions ≡ true
every_may xs u h =
    elim (or_cases (not (is_among xs form.Aggregate)) (are_among xs expressions) u) [
      | inl e ↦ absurd (false≢true (sym (ap not h) ∙ e))
      | inr e ↦ e
    ]

left : (xs : List Form) (f : Form) (t : List ℕ) (p : Place) (parts q : Forest Form) (b : Bool) → is_bracketed f parts ≡ b
    → (not (is_among xs form.Aggregate) || are_among xs expressions) ≡ true → is_among xs f ≡ true → Left xs (without_brackets b f t p parts q) q
left xs f t p parts q true e u h =
    let r = round f parts e in
    one_form xs parts q r.one (every_may xs u (among_same form.Aggregate f xs true (sym r.number) h))
left xs f t p parts q false e u h = record { form = f; forms = refl; fit = h }

unbracketed_fits : (f : Forest Form) (ss : List Slot) → brackets_can_go ss ≡ true → fits ss (forms_of f) ≡ true → fits ss (forms_of (unbracketed f)) ≡ true
unbracketed_fits nothing ss u h = h
unbracketed_fits (more f t p parts next) [] u h = absurd (false≢true h)
unbracketed_fits (more f t p parts next) (One xs ∷ ss) u h =
    let v = and_parts (not (is_among xs form.Aggregate) || are_among xs expressions) (brackets_can_go ss) u in
    let a = and_parts (is_among xs f) (fits ss (forms_of next)) h in
    let l = left xs f t p parts (unbracketed next) (is_bracketed f parts) refl v.0 a.0 in
    subst (λ fs. fits (One xs ∷ ss) fs ≡ true) (sym l.forms)
    (and_from (is_among xs l.form) (fits ss (forms_of (unbracketed next))) l.fit (unbracketed_fits next ss v.1 a.1))
unbracketed_fits (more f t p parts next) (Many xs ∷ ss) u h =
    let v = and_parts (not (is_among xs form.Aggregate) || are_among xs expressions) (brackets_can_go ss) u in
    let a = and_parts (is_among xs f) (fits (Many xs ∷ ss) (forms_of next)) h in
    let l = left xs f t p parts (unbracketed next) (is_bracketed f parts) refl v.0 a.0 in
    subst (λ fs. fits (Many xs ∷ ss) fs ≡ true) (sym l.forms)
    (and_from (is_among xs l.form) (fits (Many xs ∷ ss) (forms_of (unbracketed next))) l.fit (unbracketed_fits next (Many xs ∷ ss) u a.1))

pub settled_fits : (keep : Bool) (f : Forest Form) (ss : List Slot) → brackets_can_go ss ≡ true → fits ss (forms_of f) ≡ true
    → fits ss (forms_of (settled keep f)) ≡ true
settled_fits true f ss u h = h
settled_fits false f ss u h = unbracketed_fits f ss u h
