-- One more step of the loops that make the tables and lists.
use Rattle.std.proofs.Common.{◌≡◌, ◌==◌, ◌<◌, ◌≤◌, ◌+◌, ◌-◌, ◌++◌, ◌||◌, ◌⊎◌, inl, inr, ℕ, zero, suc, Bool, true, false, cond, List, [], ◌∷◌, Option, Some, None, min, get_or, drop, is_some, length, refl, sym, ap, ap₂, ◌∙◌, add-one, arith}
use Rattle.std.proofs.lemmas.List.{append-nil, drop-drop, drop_all, drop_more, length-drop}
use Rattle.std.proofs.lemmas.List.Folds.{list_any-append}
use Rattle.std.proofs.lemmas.Bool.Decides.{nat_tests}
use Rattle.std.specs.List.{list_any}
use Rattle.std.specs.Prelude.{nat_le}
use Rattle.std.specs.Str.{bytes_eq}
use Rattle.indexmap.specs.IndexMap.{insert_entry}
use Rattle.vd_port_facts.specs.Needed.{AreMarks, any_named, is_no_placed, needed_by, with_names}
use Rattle.vd_port_facts.specs.Tables.{last_place}
use Rattle.vd_port_facts.specs.declared.actuals.ListedActual.{ListedActual}
use Rattle.vd_port_facts.specs.declared.entities.ListedEntity.{ListedEntity}
use Rattle.vd_port_lists.proofs.ElementLemmas.{named_put, swapped_tests}
use Rattle.vd_port_lists.specs.Named.{value_named}
use Rattle.vd_value_rules.specs.Designs.{is_listed}

-- ---- entities by their names: one more is put, which counts from then on

pub entity_put : {K : Type 0} (read : K → List ℕ) (k : K) (x : ListedEntity) (xs : List ListedEntity) (place : ℕ) (old new : List (K × ℕ)) (name : List ℕ) (whole : Option ℕ)
    → place < length xs → x ≡ get_or xs place x → read k ≡ x.name → new ≡ insert_entry (λ a b. bytes_eq (read a) (read b)) old k place
    → last_place (value_named old read name) place (drop place xs) name ≡ whole
    → last_place (value_named new read name) (place + 1) (drop (place + 1) xs) name ≡ whole
entity_put read k x xs place old new name whole inside is is_name put before =
    ap (λ o. last_place o (place + 1) (drop (place + 1) xs) name)
    (ap (λ es. value_named es read name) put ∙ named_put read k place name old
    ∙ ap (λ a. cond (bytes_eq name a) (Some place) (value_named old read name)) is_name
    ∙ ap (λ b. cond b (Some place) (value_named old read name)) (swapped_tests name x.name))
    ∙ ap (λ j. last_place (cond (bytes_eq x.name name) (Some place) (value_named old read name)) j (drop (place + 1) xs) name) (add-one place)
    ∙ ap (λ y. last_place (value_named old read name) place (y ∷ drop (place + 1) xs) name) is
    ∙ ap (λ ys. last_place (value_named old read name) place ys name) (sym (drop_more xs place x inside))
    ∙ before

-- ---- what is needed, from the last generic on

needed_alone : (dss : List (List ℕ)) (named : List ℕ) → needed_by dss [] named ≡ named
needed_alone [] named = refl
needed_alone (ds ∷ dss) named = refl

past_one : (k a b : ℕ) → k ≡ min a b → (a ≤ k) ⊎ (b ≤ k)
past_one k a b is = by (nat_le a b) refl
  where
    by : (t : Bool) → nat_le a b ≡ t → (a ≤ k) ⊎ (b ≤ k)
    by true le = inl (grind (arith, nat_tests))
    by false le = inr (grind (arith, nat_tests))

pub needed_start : (k : ℕ) (dss defaults : List (List ℕ)) (named : List ℕ) → k ≡ min (length dss) (length defaults) → needed_by (drop k dss) (drop k defaults) named ≡ named
needed_start k dss defaults named is =
    elim (past_one k (length dss) (length defaults) is) [
      | inl h ↦ ap (λ xs. needed_by xs (drop k defaults) named) (drop_all k dss h)
      | inr h ↦ ap (λ xs. needed_by (drop k dss) xs named) (drop_all k defaults h) ∙ needed_alone (drop k dss) named
    ]

pub needed_step : (k : ℕ) (dss defaults : List (List ℕ)) (named ds names : List ℕ) → k < length dss → k < length defaults
    → ds ≡ get_or dss k ds → names ≡ get_or defaults k names
    → needed_by (drop k dss) (drop k defaults) named
    ≡ with_names (any_named (needed_by (drop (k + 1) dss) (drop (k + 1) defaults) named) ds) names (needed_by (drop (k + 1) dss) (drop (k + 1) defaults) named)
needed_step k dss defaults named ds names inside within is are =
    ap₂ (λ xs ys. needed_by xs ys named)
    (drop_more dss k ds inside ∙ ap (λ d. d ∷ drop (k + 1) dss) (sym is))
    (drop_more defaults k names within ∙ ap (λ d. d ∷ drop (k + 1) defaults) (sym are))

-- a test that is the same of each
pub same_any : (p q : ℕ → Bool) (xs : List ℕ) → ((x : ℕ) → p x ≡ q x) → list_any p xs ≡ list_any q xs
same_any p q [] same = refl
same_any p q (x ∷ xs) same = ap₂ ◌||◌ (same x) (same_any p q xs same)

pub needed_more : (k : ℕ) (dss defaults : List (List ℕ)) (named ds names found now : List ℕ) (takes : Bool) → k < length dss → k < length defaults
    → ds ≡ get_or dss k ds → names ≡ get_or defaults k names
    → found ≡ needed_by (drop (k + 1) dss) (drop (k + 1) defaults) named → takes ≡ any_named found ds → now ≡ with_names takes names found
    → now ≡ needed_by (drop k dss) (drop k defaults) named
needed_more k dss defaults named ds names found now takes inside within is are before is_taken is_now =
    is_now ∙ ap (λ b. with_names b names found) is_taken
    ∙ ap (λ f. with_names (any_named f ds) names f) before
    ∙ sym (needed_step k dss defaults named ds names inside within is are)

-- marks that are those of a list are those of the list with others in front
pub marked_more : (names old now : List ℕ) (before after : ℕ → Bool) → now ≡ names ++ old
    → ((k : ℕ) → after k ≡ (is_listed k names || before k)) → AreMarks before old → AreMarks after now
marked_more names old now before after is_now is_after marks = record {
  are = λ k.
      is_after k ∙ ap (λ b. is_listed k names || b) (marks.are k) ∙ sym (list_any-append (λ m. m == k) names old) ∙ ap (is_listed k) (sym is_now);
}

-- whether one of some is marked
pub any_marked : (marked : ℕ → Bool) (ns ds : List ℕ) → AreMarks marked ns → list_any marked ds ≡ any_named ns ds
any_marked marked ns ds marks = same_any marked (λ d. is_listed d ns) ds marks.are

-- nothing is marked at first, and then what is named
pub needed_first : (k : ℕ) (dss defaults : List (List ℕ)) (named found : List ℕ) → k ≡ min (length dss) (length defaults) → found ≡ named ++ []
    → found ≡ needed_by (drop k dss) (drop k defaults) named
needed_first k dss defaults named found is is_found = is_found ∙ append-nil named ∙ sym (needed_start k dss defaults named is)

-- where nothing is marked and nothing stands
pub nothing_marked : (marked : ℕ → Bool) (ns : List ℕ) → ((k : ℕ) → marked k ≡ false) → ns ≡ [] → AreMarks marked ns
nothing_marked marked ns none empty = record { are = λ k. none k ∙ sym (ap (is_listed k) empty) }

pub least_left : (a b : ℕ) → min a b ≤ a
least_left a b = omega arith

pub least_right : (a b : ℕ) → min a b ≤ b
least_right a b = omega arith

-- ---- places of actuals

pub behind_one : (xs : List ListedActual) (place count : ℕ) → drop (place + count) xs ≡ drop count (drop place xs)
behind_one xs place count = sym (drop-drop count place xs)

pub behind_all : (xs : List ListedActual) (place count whole : ℕ) → whole ≡ length xs → length xs - place ≤ count → drop whole xs ≡ drop count (drop place xs)
behind_all xs place count whole is past =
    drop_all whole xs (omega (arith, is)) ∙ sym (drop_all count (drop place xs) (omega (arith, past, length-drop place xs)))

pub ruleset places_behind = (behind_one, behind_all)

-- the actuals from a place on
pub placed_here : (xs : List ListedActual) (place : ℕ) (x : ListedActual) → place < length xs → x ≡ get_or xs place x
    → is_no_placed (drop place xs) ≡ (is_some x.formal || x.is_open)
placed_here xs place x inside is = ap is_no_placed (drop_more xs place x inside) ∙ ap (λ y. is_some y.formal || y.is_open) (sym is)

pub placed_past : (xs : List ListedActual) (place : ℕ) → length xs ≤ place → is_no_placed (drop place xs) ≡ true
placed_past xs place past = ap is_no_placed (drop_all place xs past)

pub ruleset placed_actuals = (placed_here, placed_past)
