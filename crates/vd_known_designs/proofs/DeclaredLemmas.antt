-- What is known with one declaration more. No name has a dash, so that a caller can name each in `#[tactic(auto, using(..))]`.
use Rattle.std.proofs.Common.{◌≡◌, ◌==◌, Bool, List, [], ap, arith, cond, false, refl, subst, sym, true, ℕ, ◌∙◌}
use Rattle.vd_environments.specs.Environments.{Denotation, Indicated, nothing_denoted, with_entry}
use Rattle.vd_forest.specs.Forest.{Forest}
use Rattle.vd_forest.specs.Store.{Extends, at}
use Rattle.vd_value_rules.specs.Indicated.{indicated_in}
use Rattle.vd_value_rules.specs.declared.forms.IndicatedForm.{IndicatedForm}
use Rattle.vd_value_rules.specs.Made.{Indicates}
use Rattle.vd_known_designs.specs.Contents.{Content, no_content, with_denoted, with_function_text, with_package_text, with_surroundings}
use Rattle.vd_known_designs.specs.Known.{IsKnown, none_known, with_result}
use Rattle.vd_meaning.specs.Tables.{Table}
use Rattle.vd_resolved.specs.declared.node.Resolved.{Resolved}
use Rattle.vd_static_values.specs.Entries.{IsEntry, no_entry}
use Rattle.vd_static_values.specs.declared.entries.Entry.{Entry}
use Rattle.vd_known_designs.specs.Tables.{declared_in}
use Rattle.vd_value_rules.specs.Declaring.{with_package, with_text}
use Rattle.vd_value_rules.specs.Knowledge.{Known, denoted, indicated_of}
use Rattle.vd_value_rules.specs.Standings.{known_inside}

-- ---- a declaration, a text, what is around

pub is_known_denoted : (t : Table) (fs : List (Forest IndicatedForm)) (c : Content) (k : Known) (n : ℕ) (entry : Entry) (choosing : ℕ) (own d : Denotation)
    → IsKnown t fs c k → IsEntry fs t entry own → Indicates fs choosing (indicated_of d)
    → IsKnown t fs (with_denoted n entry choosing c) (denoted n own d k)
is_known_denoted t fs c k n entry choosing own d known entered indicates = record {
  entries = λ m. entry_by (m == n) m;
  choosing = λ m. choosing_by (m == n) m;
  packages = known.packages;
  functions = known.functions;
  is_inside = known.is_inside;
  is_inside_choosing = known.is_inside_choosing;
  result_within = known.result_within;
  result = known.result;
}
  where
    entry_by : (b : Bool) (m : ℕ) → IsEntry fs t (cond b entry (c.entries m)) (cond b own (k.env.denotes m))
    entry_by true m = entered
    entry_by false m = known.entries m

    choosing_by : (b : Bool) (m : ℕ) → Indicates fs (cond b choosing (c.choosing m)) (indicated_of (cond b d (k.choosing.denotes m)))
    choosing_by true m = indicates
    choosing_by false m = known.choosing m

same_text : (f g : ℕ → Forest Resolved) (n : ℕ) (text : Forest Resolved) → ((m : ℕ) → f m ≡ g m) → (m : ℕ) → with_entry n text f m ≡ with_entry n text g m
same_text f g n text same m = ap (cond (m == n) text) (same m)

pub is_known_package : (t : Table) (fs : List (Forest IndicatedForm)) (c : Content) (k : Known) (n : ℕ) (text : Forest Resolved) → IsKnown t fs c k
    → IsKnown t fs (with_package_text n text c) (with_package true n text k)
is_known_package t fs c k n text known = record {
  entries = known.entries;
  choosing = known.choosing;
  packages = same_text k.packages c.packages n text known.packages;
  functions = known.functions;
  is_inside = known.is_inside;
  is_inside_choosing = known.is_inside_choosing;
  result_within = known.result_within;
  result = known.result;
}

pub is_known_text : (t : Table) (fs : List (Forest IndicatedForm)) (c : Content) (k : Known) (n : ℕ) (text : Forest Resolved) → IsKnown t fs c k
    → IsKnown t fs (with_function_text n text c) (with_text n text k)
is_known_text t fs c k n text known = record {
  entries = known.entries;
  choosing = known.choosing;
  packages = known.packages;
  functions = same_text k.functions c.functions n text known.functions;
  is_inside = known.is_inside;
  is_inside_choosing = known.is_inside_choosing;
  result_within = known.result_within;
  result = known.result;
}

pub is_known_inside : (t : Table) (fs : List (Forest IndicatedForm)) (c : Content) (k : Known) → IsKnown t fs c k
    → IsKnown t fs (with_surroundings true c.result c) (known_inside k)
is_known_inside t fs c k known = record {
  entries = known.entries;
  choosing = known.choosing;
  packages = known.packages;
  functions = known.functions;
  is_inside = refl;
  is_inside_choosing = refl;
  result_within = known.result_within;
  result = known.result;
}

pub is_known_result : (t : Table) (fs : List (Forest IndicatedForm)) (c : Content) (k : Known) (own : ℕ) (i : Indicated) → IsKnown t fs c k
    → Indicates fs own i → IsKnown t fs (with_surroundings c.is_inside own c) (with_result i.subtype k)
is_known_result t fs c k own i known indicates = record {
  entries = known.entries;
  choosing = known.choosing;
  packages = known.packages;
  functions = known.functions;
  is_inside = known.is_inside;
  is_inside_choosing = known.is_inside_choosing;
  result_within = indicates.within;
  result = ap (λ j. j.subtype) (sym indicates.is);
}

-- ---- entries

no_local : {A : Type 0} → false ≡ true → A
no_local h = absurd (cc)

pub nothing_is_entry : (t : Table) (fs : List (Forest IndicatedForm)) → IsEntry fs t no_entry nothing_denoted
nothing_is_entry t fs = record {
  within = omega arith;
  subtype = refl;
  bounds = refl;
  known = refl;
  value = λ local. no_local local;
  value_shape = refl;
  signal_shape = refl;
  function = λ local arguments. refl;
}

pub none_is_known : (t : Table) → IsKnown t [] no_content none_known
none_is_known t = record {
  entries = λ n. nothing_is_entry t [];
  choosing = λ n. record { within = omega arith; is = refl };
  packages = λ n. refl;
  functions = λ n. refl;
  is_inside = refl;
  is_inside_choosing = refl;
  result_within = omega arith;
  result = refl;
}

-- ---- subtypes as they are where they are declared

-- a subtype that is found again in a store that has grown
pub declared_same : (f : Indicated → Indicated) (fs gs : List (Forest IndicatedForm)) (n : ℕ) (i : Indicated) (b b' : Bool) → Extends fs gs
    → Indicates fs n i → b' ≡ b → declared_in b (f (indicated_in (at gs n))) ≡ declared_in b' (f i)
declared_same f fs gs n i b b' grown is same =
    ap (λ j. declared_in b (f j)) (ap indicated_in (grown.keeps n is.within) ∙ is.is) ∙ ap (λ c. declared_in c (f i)) (sym same)

pub same_indicated : (fs gs : List (Forest IndicatedForm)) (n : ℕ) (i j : Indicated) → gs ≡ fs → i ≡ j → Indicates fs n i → Indicates gs n j
same_indicated fs gs n i j same are is = subst (λ hs. Indicates hs n j) (sym same) (subst (Indicates fs n) are is)

pub same_entry : (fs gs : List (Forest IndicatedForm)) (t : Table) (x : Entry) (f : Indicated → Denotation) (i j : Indicated) → gs ≡ fs → i ≡ j
    → IsEntry fs t x (f i) → IsEntry gs t x (f j)
same_entry fs gs t x f i j same are is = subst (λ hs. IsEntry hs t x (f j)) (sym same) (subst (λ d. IsEntry fs t x (f d)) are is)
