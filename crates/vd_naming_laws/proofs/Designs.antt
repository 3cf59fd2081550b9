-- Trees over whose conditions operators are implied are valid again; in revision 1993 they are the same.
use Rattle.std.proofs.Common.{◌≡◌, inl, inr, ℕ, Bool, true, false, ◌&&◌, ◌||◌, not, List, [], ◌∷◌, refl, sym, ap, ◌∙◌, subst, arith}
use Rattle.std.specs.List.{list_all}
use Rattle.std.proofs.lemmas.Bool.{and_parts, and_from, or_right, false≢true}
use Rattle.vd_bytes.specs.declared.places.Place.{Place}
use Rattle.vd_forest.specs.Forest.{Forest, nothing, more}
use Rattle.vd_forms.specs.declared.form.Form.{Form}
use Rattle.vd_forms.specs.declared.form.Form.TheVariants as form
use Rattle.vd_forms.specs.Forms.{is_among, same_form, expressions}
use Rattle.vd_forms.specs.Slots.{Slot, slots_of}
use Rattle.vd_forms.specs.Validity.{forms_of, fits, is_form_of, is_one_expression, is_bracketed, holders_of_actuals, keeps_brackets, AreValid}
use Rattle.vd_trees.specs.declared.revision.Revision.{Revision}
use Rattle.vd_trees.specs.declared.revision.Revision.TheVariants.{V2019, V1993}
use Rattle.vd_name_rows.specs.Rows.{row_of}
use Rattle.vd_name_rows.specs.declared.steps.Step.{Step}
use Rattle.vd_naming.specs.Naming.{steps_behind}
use Rattle.vd_naming_laws.specs.Keeping.{first_step, is_condition, Keeps}
use Rattle.vd_naming_laws.proofs.Rows.{suit, rows_suit, wants_none, wants_none_behind, wants_none_first, no_condition_in_brackets, first_in}
use Rattle.vd_naming_laws.proofs.Entries.{condition_of}

-- ---- revision 1993

not_2019 : V1993 ≡ V2019 → ⊥
not_2019 e = grind arith

pub keeps_exactly : (steps : List Step) (rest : Step) (ts made : Forest Form) → Keeps V1993 steps rest ts made → made ≡ ts
keeps_exactly steps rest nothing nothing k = refl
keeps_exactly steps rest nothing (more g text' place' parts' next') k = absurd k
keeps_exactly steps rest (more f text place parts next) nothing k = absurd k
keeps_exactly steps rest (more f text place parts next) (more g text' place' parts' next') k =
    let others = keeps_exactly (steps_behind steps) rest next next' k.1 in
    elim k.0 [
      | inl same ↦ (λ i. more (same.0.same_form i) (same.0.same_text i) (same.0.same_place i) (keeps_exactly (row_of f).steps (row_of f).rest parts parts' same.1 i) (others i))
      | inr implied ↦ absurd (not_2019 implied.revision)
    ]

-- ---- one expression stays one

abbrev head : Forest Form → Form
head nothing = form.Absent
head (more f text place parts next) = f

keeps_one : (r : Revision) (steps : List Step) (rest : Step) (ts made : Forest Form) → Keeps r steps rest ts made → is_one_expression made ≡ is_one_expression ts
keeps_one r steps rest nothing nothing k = refl
keeps_one r steps rest nothing (more g text' place' parts' next') k = absurd k
keeps_one r steps rest (more f text place parts next) nothing k = absurd k
keeps_one r steps rest (more f text place parts nothing) (more g text' place' parts' nothing) k =
    elim k.0 [
      | inl same ↦ ap (is_among expressions) same.0.same_form
      | inr implied ↦ ap (λ t. is_among expressions (head t)) implied.under ∙ sym implied.expression
    ]
keeps_one r steps rest (more f text place parts nothing) (more g text' place' parts' (more h text'' place'' parts'' next')) k = absurd k.1
keeps_one r steps rest (more f text place parts (more h text'' place'' parts'' next)) (more g text' place' parts' nothing) k = absurd k.1
keeps_one r steps rest (more f text place parts (more h text'' place'' parts'' next)) (more g text' place' parts' (more i text''' place''' parts''' next')) k = refl

-- ---- conditions stand where no brackets are kept

not_kept : (keep w : Bool) → (not keep || w) ≡ true → (w ≡ true → ⊥) → keep ≡ false
not_kept true w h none = absurd (none h)
not_kept false w h none = refl

none_behind : (keep : Bool) (steps : List Step) (rest : Step) → (not keep || wants_none steps rest) ≡ true → (not keep || wants_none (steps_behind steps) rest) ≡ true
none_behind true steps rest h = wants_none_behind steps rest h
none_behind false steps rest h = refl

condition_not_kept : (keep : Bool) (steps : List Step) (rest : Step) → (not keep || wants_none steps rest) ≡ true → is_condition (first_step steps rest) ≡ true → keep ≡ false
condition_not_kept keep steps rest h is =
    not_kept keep (wants_none steps rest) h
    (λ none. false≢true (subst (λ b. not b ≡ true) is (wants_none_first steps rest none)))

-- ---- valid trees

-- trees of these slots
pub record AreFitting (r : Revision) (keep : Bool) (ss : List Slot) (made : Forest Form) : Type 0 where
  pub are_valid : AreValid r keep made
  pub do_fit : fits ss (forms_of made) ≡ true

-- a tree that is the same but for its parts, and others behind it
same_valid : (r : Revision) (keep : Bool) (f : Form) (text : List ℕ) (place : Place) (parts parts' next next' : Forest Form)
    → AreValid r keep (more f text place parts next) → is_one_expression parts' ≡ is_one_expression parts
    → AreFitting r (keeps_brackets f parts) (slots_of r f) parts' → AreValid r keep next' → AreValid r keep (more f text place parts' next')
same_valid r keep f text place parts parts' next next' v one inner others =
    let brackets : keeps_brackets f parts' ≡ keeps_brackets f parts =
    ap (λ b. is_among holders_of_actuals f || (is_among (form.Aggregate ∷ form.Qualification ∷ []) f && not b)) one in
    (v.0, inner.do_fit, v.2, subst (λ b. (keep || not (same_form f form.Aggregate && b)) ≡ true) (sym one) v.3, subst (λ b. AreValid r b parts') (sym brackets) inner.are_valid, others)

-- one under an operator, and others behind it
under_valid : (r : Revision) (keep : Bool) (f : Form) (text : List ℕ) (place : Place) (parts next next' : Forest Form)
    → AreValid r keep (more f text place parts next) → r ≡ V2019 → is_among expressions f ≡ true → keep ≡ false → AreValid r keep next'
    → AreValid r keep (more form.Condition [] place (more f text place parts nothing) next')
under_valid r keep f text place parts next next' v is e plain others = (
  subst (λ q. is_form_of q form.Condition ≡ true) (sym is) refl,
  and_from (is_among expressions f) true e refl,
  refl,
  or_right keep true refl,
  (v.0, v.1, v.2, subst (λ b. (b || not (is_bracketed f parts)) ≡ true) plain v.3, v.4, tt),
  others,
)

-- the tree in front, and others behind it
abbrev in_front : Forest Form → Forest Form → Forest Form
in_front nothing others = others
in_front (more f text place parts next) others = more f text place parts others

pub keeps_valid : (r : Revision) (ts made : Forest Form) (keep : Bool) (steps : List Step) (rest : Step) (ss : List Slot)
    → Keeps r steps rest ts made → suit steps rest ss ≡ true → fits ss (forms_of ts) ≡ true → (not keep || wants_none steps rest) ≡ true → AreValid r keep ts
    → AreFitting r keep ss made
keeps_valid r nothing nothing keep steps rest ss k suit_here fit plain v = record { are_valid = tt; do_fit = fit }
keeps_valid r nothing (more g text' place' parts' next') keep steps rest ss k suit_here fit plain v = absurd k
keeps_valid r (more f text place parts next) nothing keep steps rest ss k suit_here fit plain v = absurd k
keeps_valid r (more f text place parts next) (more g text' place' parts' next') keep steps rest ss k suit_here fit plain v =
    let first = first_in steps rest ss f (forms_of next) suit_here fit in
    let others = keeps_valid r next next' keep (steps_behind steps) rest first.left k.1 first.left_suit first.left_fit (none_behind keep steps rest plain) v.5 in
    elim k.0 [
      | inl same ↦
          let inner = keeps_valid r parts parts' (keeps_brackets f parts) (row_of f).steps (row_of f).rest (slots_of r f) same.1 (rows_suit r f) v.1 (no_condition_in_brackets f parts) v.4 in
          subst (AreFitting r keep ss) (sym (λ i. more (same.0.same_form i) (same.0.same_text i) (same.0.same_place i) parts' next'))
          (record {
            are_valid = same_valid r keep f text place parts parts' next next' v (keeps_one r (row_of f).steps (row_of f).rest parts parts' same.1) inner others.are_valid;
            do_fit = first.other_fits f (forms_of next') first.among others.do_fit;
          })
      | inr implied ↦
          subst (AreFitting r keep ss) (sym (ap (λ t. in_front t next') implied.under))
          (record {
            are_valid = under_valid r keep f text place parts next next' v implied.revision implied.expression (condition_not_kept keep steps rest plain implied.condition) others.are_valid;
            do_fit = first.other_fits form.Condition (forms_of next')
                (and_parts (list_all (is_among (form.Absent ∷ expressions)) first.forms) (is_among first.forms form.Condition)
                (condition_of (first_step steps rest) first.forms implied.condition first.first_suits)).1 others.do_fit;
          })
    ]
