-- The states in which a name has no reading can be left out.
use Rattle.std.proofs.Common.{◌≡◌, ◌||◌, ℕ, Bool, true, false, inl, inr, List, [], ◌∷◌, ◌++◌, Option, Some, None, is_some, if◌then◌else◌, refl, sym, ap, ◌∙◌, true≢false}
use Rattle.std.specs.Prelude.{MatchOption}
use Rattle.std.specs.List.{Contains, filter, flat_map, list_any}
use Rattle.vd_bytes.specs.declared.places.Place.{Place}
use Rattle.vd_forest.specs.Forest.{Forest, nothing, more}
use Rattle.vd_forest.specs.declared.cursor.Opened.{Opened}
use Rattle.vd_forms.specs.declared.form.Form.{Form}
use Rattle.vd_readings.specs.Readings.{readings, readings_in, resolved, with_node}
use Rattle.vd_readings.proofs.MemberLemmas.{cons_cases, cons_here, no_member}
use Rattle.vd_resolved.specs.declared.node.Resolved.{Resolved}
use Rattle.vd_visible.specs.Kinds.{kind_of}
use Rattle.vd_visible.specs.Sights.{Sight}
use Rattle.vd_visible.specs.declared.kinds.Kind.{Kind}
use Rattle.vd_visible.specs.declared.kinds.Kind.TheVariants as kind
use Rattle.vd_states.specs.declared.states.Prefix.{Prefix}
use Rattle.vd_states.specs.declared.states.State.{State}
use Rattle.vd_states.specs.declared.states.State.TheVariants as state
use Rattle.vd_states.specs.declared.states.Want.{Want}
use Rattle.vd_states.specs.declared.states.Want.TheVariants as want
use Rattle.vd_states.specs.declared.ways.Way.{Way}
use Rattle.vd_ways.specs.Ways as w
use Rattle.vd_ways.specs.Ways.{meets, wanted_ways, ways}
use Rattle.vd_overloads.specs.Goals.{SameMembers, ends_of_name, is_name_kind, is_possible, rules_of}
use Rattle.vd_overloads.proofs.ReachLemmas.{goals_are_met}

none_in : {X : Type 0} (xs : List X) → ((x : X) → Contains xs x → ⊥) → xs ≡ []
none_in [] f = refl
none_in (x ∷ xs) f = absurd (f x (cons_here x xs))

or_right : (b c : Bool) → c ≡ true → (b || c) ≡ true
or_right true c is = refl
or_right false c is = is

has_one : (test : Prefix → Bool) (ends : List Prefix) (end : Prefix) → Contains ends end → test end ≡ true → list_any test ends ≡ true
has_one test [] end c is = absurd (no_member end c)
has_one test (e ∷ es) end c is = elim (cons_cases e es end c) [
  | inl same ↦ ap (λ b. b || list_any test es) (ap test same ∙ is)
  | inr later ↦ or_right (test e) (list_any test es) (has_one test es end later is)
]

module _ (s : Sight) (found : List Prefix) (form : Form) (text : List ℕ) (place : Place) (parts : Forest Form) where
  -- a name has one way, and inside it what is wanted is the goal
  record IsOneWay (goal : Want) : Type 0 where
    pub way : Way
    pub is : ways s (state.Only goal) form text parts ≡ way ∷ []
    pub inside : way.inside ≡ state.Head goal

  one_way : (goal : Want) → kind_of form ≡ kind.Name → IsOneWay goal
  one_way (want.Value t) is = record {
    way = w.typed t (state.Head (want.Value t)) state.Done;
    is = ap (λ (k : Kind). w.value_ways k s t state.Done form text parts) is;
    inside = refl;
  }
  one_way (want.Range t) is = record {
    way = w.typed t (state.Head (want.Range t)) state.Done;
    is = ap (λ (k : Kind). w.range_ways k s t state.Done) is;
    inside = refl;
  }
  one_way (want.DiscreteRange t) is = record {
    way = w.typed t (state.Head (want.DiscreteRange t)) state.Done;
    is = ap (λ (k : Kind). w.discrete_range_ways k s t state.Done) is;
    inside = refl;
  }
  one_way (want.Choice t) is = record {
    way = w.typed t (state.Head (want.Choice t)) state.Done;
    is = ap (λ (k : Kind). w.choice_ways k s t state.Done form text parts) is;
    inside = refl;
  }
  one_way (want.Mark t) is = record {
    way = w.plain (state.Head (want.Mark t)) state.Done;
    is = ap (λ (k : Kind). w.mark_ways k t state.Done) is;
    inside = refl;
  }

  abbrev tree : Forest Form
  tree = more form text place parts nothing

  no_pieces : (goal : Want) → SameMembers found (ends_of_name s parts) → list_any (meets s goal) found ≡ false
      → readings (rules_of s) parts (state.Head goal) ≡ []
  no_pieces goal same none =
      none_in (readings (rules_of s) parts (state.Head goal)) (λ r c.
      let m = goals_are_met s goal parts r c in
      true≢false (sym (has_one (meets s goal) found m.end (same.all m.end m.is_end) m.meets) ∙ none))

  no_reading : (goal : Want) → kind_of form ≡ kind.Name → SameMembers found (ends_of_name s parts) → list_any (meets s goal) found ≡ false
      → readings (rules_of s) tree (state.Only goal) ≡ []
  no_reading goal is_name same none =
      let one = one_way goal is_name in
      let step : Way → List (Forest Resolved) =
      λ way. with_node (resolved form way) text place (readings (rules_of s) parts way.inside) (readings (rules_of s) nothing way.after) in
      let no_inner : readings (rules_of s) parts one.way.inside ≡ [] =
      ap (readings (rules_of s) parts) one.inside ∙ no_pieces goal same none in
      ap (flat_map step) one.is
      ∙ ap (λ inners. with_node (resolved form one.way) text place inners (readings (rules_of s) nothing one.way.after) ++ []) no_inner

  unread : (x : State) → kind_of form ≡ kind.Name → SameMembers found (ends_of_name s parts) → is_possible s found x ≡ false → readings (rules_of s) tree x ≡ []
  unread (state.Only goal) is_name same none = no_reading goal is_name same none
  unread _ is_name same none = absurd (true≢false none)

  kept_or_not : (x : State) (b : Bool) → is_possible s found x ≡ b → kind_of form ≡ kind.Name → SameMembers found (ends_of_name s parts) → (xs ys : List State)
      → readings_in (rules_of s) tree ys ≡ readings_in (rules_of s) tree xs
      → readings_in (rules_of s) tree (if b then x ∷ ys else ys) ≡ readings_in (rules_of s) tree (x ∷ xs)
  kept_or_not x true is is_name same xs ys so_far = ap (λ list. readings (rules_of s) tree x ++ list) so_far
  kept_or_not x false is is_name same xs ys so_far =
      so_far ∙ ap (λ list. list ++ readings_in (rules_of s) tree xs) (sym (unread x is_name same is))

  pub left_out : kind_of form ≡ kind.Name → SameMembers found (ends_of_name s parts) → (states : List State)
      → readings_in (rules_of s) tree (filter (is_possible s found) states) ≡ readings_in (rules_of s) tree states
  left_out is_name same [] = refl
  left_out is_name same (x ∷ xs) =
      kept_or_not x (is_possible s found x) refl is_name same xs (filter (is_possible s found) xs) (left_out is_name same xs)

pub name_kind : (k : Kind) → is_name_kind k ≡ true → k ≡ kind.Name
name_kind kind.Name is = refl
name_kind _ is = absurd (true≢false (sym is))

pub no_next : (o : Option (Opened Form)) (f : Forest Form) → false ≡ is_some o
    → MatchOption o (f ≡ nothing) (λ first. f ≡ more first.form first.text.now first.place first.parts first.next) → f ≡ nothing
no_next None f is so = so
no_next (Some first) f is so = absurd (true≢false (sym is))
