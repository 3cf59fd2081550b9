-- Elements of records that are given.
use Rattle.std.proofs.Common.{◌≡◌, ◌∷◌, ◌++◌, ◌+◌, ◌<◌, ◌≤◌, List, [], ap, drop, get_or, length, map, nat_eq, not, refl, suc, sym, take, true, false, Bool, Option, ℕ, ◌∙◌, ◌&&◌, ◌||◌, ◌==◌, if◌then◌else◌}
use Rattle.std.proofs.lemmas.List.{append_assoc, drop_all, drop_more, get_or-map, length-map, take_more}
use Rattle.std.specs.Prelude.{Err, Ok, OnOk, Result}
use Rattle.vd_aggregate_rules.specs.Fields.{field_given, fields_broken}
use Rattle.vd_aggregate_rules.specs.declared.fields.Field.{Field}
use Rattle.vd_bytes.specs.declared.answers.Refused.{Refused}
use Rattle.vd_bytes.specs.declared.places.Place.{Place}
use Rattle.vd_forest.specs.Forest.{Forest, more, nothing, parts_of}
use Rattle.vd_forms.specs.declared.form.Form.{Form}
use Rattle.vd_walks.specs.Least.{least_of, lesser}
use Rattle.vd_walks.proofs.LeastLaws.{least_of_append}
use Rattle.vd_walks.proofs.OrderLaws.{lesser_right}
use Rattle.vd_given_choices.proofs.ChoiceLemmas.{none_behind}
use Rattle.vd_given_choices.proofs.RefusalLemmas.{more_refused}
use Rattle.vd_meaning.specs.Facets.{nth}
use Rattle.vd_meaning.specs.Meanings.{meanings}
use Rattle.vd_resolved.specs.declared.node.Resolved.{Resolved}
use Rattle.vd_value_rules.specs.Aggregates.{FieldGiven, fields_given, fields_of_choices, fields_of_form, fields_repeated, is_given_at, record_leaves_out}
use Rattle.vd_value_rules.specs.Designs.{Design}
use Rattle.vd_value_rules.specs.Judging.{refused_if}
use Rattle.vd_forms.specs.declared.form.Form.TheVariants as form

map_behind : (xs ys : List Field) → map field_given (xs ++ ys) ≡ map field_given xs ++ map field_given ys
map_behind [] ys = refl
map_behind (x ∷ xs) ys = ap (λ l. field_given x ∷ l) (map_behind xs ys)

module _ (d : Design) where
  -- ---- the choices of one element

  named_of : (n : Resolved) (text : List ℕ) (place : Place) (parts next : Forest Resolved) (xs all : List FieldGiven) (f : FieldGiven)
      → f.position ≡ (nth 0 (meanings d.table (more n text place parts next))).position → f.place ≡ place
      → xs ++ fields_of_choices d (more n text place parts next) ≡ all → (xs ++ f ∷ []) ++ fields_of_choices d next ≡ all
  named_of n text place parts next xs all f at here before =
      append_assoc xs (f ∷ []) (fields_of_choices d next)
      ∙ ap (λ k. xs ++ record { position = k; place = f.place } ∷ fields_of_choices d next) at
      ∙ ap (λ p. xs ++ record { position = (nth 0 (meanings d.table (more n text place parts nothing))).position; place = p } ∷ fields_of_choices d next) here
      ∙ before

  pub named_more : (rest : Forest Resolved) (n : Resolved) (text : List ℕ) (place : Place) (parts next : Forest Resolved) (xs ys : List Field) (all : List FieldGiven) (x : Field)
      → rest ≡ more n text place parts next → ys ≡ xs ++ x ∷ [] → x.position ≡ (nth 0 (meanings d.table rest)).position → x.place ≡ place
      → map field_given xs ++ fields_of_choices d rest ≡ all → map field_given ys ++ fields_of_choices d next ≡ all
  named_more rest n text place parts next xs ys all x is pushed at here before =
      ap (λ l. map field_given l ++ fields_of_choices d next) pushed ∙ ap (λ l. l ++ fields_of_choices d next) (map_behind xs (x ∷ []))
      ∙ named_of n text place parts next (map field_given xs) all (field_given x) (at ∙ ap (λ f. (nth 0 (meanings d.table f)).position) is) here
      (ap (λ f. map field_given xs ++ fields_of_choices d f) (sym is) ∙ before)

  pub named_all : (rest : Forest Resolved) (xs : List Field) (all : List FieldGiven) → rest ≡ nothing
      → map field_given xs ++ fields_of_choices d rest ≡ all → map field_given xs ≡ all
  named_all rest xs all none before = sym (none_behind (map field_given xs)) ∙ ap (λ f. map field_given xs ++ fields_of_choices d f) (sym none) ∙ before

  -- ---- all elements

  pub given_more : (rest : Forest Resolved) (n : Resolved) (text : List ℕ) (place : Place) (parts next : Forest Resolved) (k next_k : ℕ) (xs ys : List Field) (all : List FieldGiven)
      → rest ≡ more n text place parts next → next_k ≡ suc k → map field_given ys ≡ map field_given xs ++ fields_of_form n.form d k place parts
      → map field_given xs ++ fields_given d k rest ≡ all → map field_given ys ++ fields_given d next_k next ≡ all
  given_more rest n text place parts next k next_k xs ys all is counted pushed before =
      ap (λ m. map field_given ys ++ fields_given d m next) counted ∙ ap (λ l. l ++ fields_given d (suc k) next) pushed
      ∙ append_assoc (map field_given xs) (fields_of_form n.form d k place parts) (fields_given d (suc k) next)
      ∙ ap (λ f. map field_given xs ++ fields_given d k f) (sym is) ∙ before

  pub given_all : (rest : Forest Resolved) (k : ℕ) (xs : List Field) (all : List FieldGiven) → rest ≡ nothing
      → map field_given xs ++ fields_given d k rest ≡ all → map field_given xs ≡ all
  given_all rest k xs all none before = sym (none_behind (map field_given xs)) ∙ ap (λ f. map field_given xs ++ fields_given d k f) (sym none) ∙ before

-- ---- what is refused

twice_not : (b : Bool) → not (not b) ≡ b
twice_not true = refl
twice_not false = refl

either : (a b : Bool) → (a || b || false) ≡ (b || a)
either true true = refl
either true false = refl
either false true = refl
either false false = refl

front_either : (a b c : Bool) → (a || (b || c)) ≡ ((a || b) || c)
front_either true b c = refl
front_either false b c = refl

given_behind : (k : ℕ) (fs : List FieldGiven) (f : FieldGiven) → is_given_at k (fs ++ f ∷ []) ≡ (is_given_at k fs || (f.position == k))
given_behind k [] f = or_nothing (f.position == k)
  where
    or_nothing : (a : Bool) → (a || false) ≡ a
    or_nothing true = refl
    or_nothing false = refl
given_behind k (g ∷ fs) f =
    ap (λ b. (g.position == k) || b) (given_behind k fs f) ∙ front_either (g.position == k) (is_given_at k fs) (f.position == k)

by_test : (a b : Bool) → (if a then true else b) ≡ (b || a)
by_test true true = refl
by_test true false = refl
by_test false true = refl
by_test false false = refl

module _ (fs : List FieldGiven) (j : ℕ) (f : FieldGiven) (within : j < length fs) (is : get_or fs j f ≡ f) where
  front : drop j fs ≡ f ∷ drop (j + 1) fs
  front = drop_more fs j f within ∙ ap (λ y. y ∷ drop (j + 1) fs) is

  behind : take (j + 1) fs ≡ take j fs ++ f ∷ []
  behind = take_more fs j f within ∙ ap (λ y. take j fs ++ y ∷ []) is

  pub seen_more : (k : ℕ) (seen now : Bool) → now ≡ (if nat_eq f.position k then true else seen) → seen ≡ is_given_at k (take j fs) → now ≡ is_given_at k (take (j + 1) fs)
  seen_more k seen now is_now was =
      is_now ∙ by_test (f.position == k) seen ∙ ap (λ b. b || (f.position == k)) was
      ∙ sym (ap (is_given_at k) behind ∙ given_behind k (take j fs) f)

  pub refused_more : (seen is_new : Bool) (found here now all : Option Refused) → is_new ≡ not seen → seen ≡ is_given_at f.position (take j fs)
      → here ≡ least_of (refused_if (not is_new) f.place 404) → now ≡ lesser found here
      → lesser found (least_of (fields_repeated (take j fs) (drop j fs))) ≡ all → lesser now (least_of (fields_repeated (take (j + 1) fs) (drop (j + 1) fs))) ≡ all
  refused_more seen is_new found here now all new_is was here_is now_is before =
      let repeats = is_given_at f.position (take j fs) in
      ap (λ o. lesser o (least_of (fields_repeated (take (j + 1) fs) (drop (j + 1) fs)))) now_is
      ∙ ap (λ l. lesser (lesser found here) (least_of (fields_repeated l (drop (j + 1) fs)))) behind
      ∙ more_refused found here (refused_if repeats f.place 404) (fields_repeated (take j fs ++ f ∷ []) (drop (j + 1) fs))
      (here_is ∙ ap (λ b. least_of (refused_if b f.place 404)) (ap not new_is ∙ twice_not seen ∙ was))
      ∙ ap (λ l. lesser found (least_of (fields_repeated (take j fs) l))) (sym front) ∙ before

pub refused_end : (fs : List FieldGiven) (j count : ℕ) (place : Place) (has_others is_missing : Bool) (found missing all : Option Refused)
    → length fs ≤ j → lesser found (least_of (fields_repeated (take j fs) (drop j fs))) ≡ least_of (fields_repeated [] fs)
    → is_missing ≡ record_leaves_out count fs → missing ≡ least_of (refused_if (not has_others && is_missing) place 403) → all ≡ lesser found missing
    → all ≡ least_of (fields_broken count place has_others fs)
refused_end fs j count place has_others is_missing found missing all past repeats missing_is refused all_is =
    let first : found ≡ least_of (fields_repeated [] fs) =
    sym (lesser_right found) ∙ ap (λ l. lesser found (least_of (fields_repeated (take j fs) l))) (sym (drop_all j fs past)) ∙ repeats in
    all_is ∙ ap (λ o. lesser o missing) first ∙ ap (lesser (least_of (fields_repeated [] fs))) refused
    ∙ ap (λ b. lesser (least_of (fields_repeated [] fs)) (least_of (refused_if (not has_others && b) place 403))) missing_is
    ∙ sym (least_of_append (fields_repeated [] fs) (refused_if (not has_others && record_leaves_out count fs) place 403))

-- in memory
pub given_at : (xs : List Field) (j : ℕ) (d : Field) → j < length xs → get_or (map field_given xs) j (field_given (get_or xs j d)) ≡ field_given (get_or xs j d)
given_at xs j d within = get_or-map field_given xs j d (field_given (get_or xs j d)) within

pub given_length : (xs : List Field) → length (map field_given xs) ≡ length xs
given_length xs = length-map xs field_given

-- ---- those that are missing

pub one_missing : (fs : List FieldGiven) (k n : ℕ) (seen : Bool) → n ≡ suc k → seen ≡ is_given_at k fs → seen ≡ false → true ≡ record_leaves_out n fs
one_missing fs k n seen next is none = sym (ap (λ m. record_leaves_out m fs) next ∙ ap (λ b. not b || record_leaves_out k fs) (sym is ∙ none))

pub one_there : (fs : List FieldGiven) (k n : ℕ) (seen : Bool) → n ≡ suc k → seen ≡ is_given_at k fs → seen ≡ true
    → record_leaves_out k fs ≡ record_leaves_out n fs
one_there fs k n seen next is there = sym (ap (λ m. record_leaves_out m fs) next ∙ ap (λ b. not b || record_leaves_out k fs) (sym is ∙ there))

-- ---- the elements that an element of an aggregate stands for

pub association_fields : {E : Type 0} (f : Form) (d : Design) (k : ℕ) (place : Place) (parts inner : Forest Resolved) (xs ys : List Field) (r : Result (Unit {0}) E)
    → f ≡ form.Association → inner ≡ parts_of parts → OnOk r (map field_given ys ≡ map field_given xs ++ fields_of_choices d inner)
    → OnOk r (map field_given ys ≡ map field_given xs ++ fields_of_form f d k place parts)
association_fields f d k place parts inner xs ys (Ok u) is same are =
    are ∙ ap (λ i. map field_given xs ++ fields_of_choices d i) same ∙ ap (λ g. map field_given xs ++ fields_of_form g d k place parts) (sym is)
association_fields f d k place parts inner xs ys (Err h) is same are = tt
