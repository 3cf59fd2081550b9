-- Generics that stand for their actuals, one after the other.
use Rattle.std.proofs.Common.{◌≡◌, ◌<◌, ◌≤◌, ◌∷◌, ◌∙◌, List, [], ap, drop, drop-cons, get_or, length, suc, refl, subst, sym, ℕ}
use Rattle.vd_bytes.specs.declared.places.Place.{Place}
use Rattle.vd_forest.specs.Forest.{Forest, more}
use Rattle.vd_forest.specs.Store.{Extends, at}
use Rattle.vd_forms.specs.declared.form.Form.{Form}
use Rattle.vd_forms.specs.declared.form.Form.TheVariants as form
use Rattle.vd_value_rules.specs.Indicated.{indicated_in}
use Rattle.vd_value_rules.specs.declared.forms.IndicatedForm.{IndicatedForm}
use Rattle.vd_known_generics.proofs.ActualLemmas.{actuals_grown}
use Rattle.vd_known_generics.specs.Actuals.{AreActuals, IsActual}
use Rattle.vd_known_generics.specs.declared.actuals.Actual.{Actual}
use Rattle.vd_known_designs.specs.Designs.{AreIndicated, IsReady, Knows}
use Rattle.vd_known_designs.specs.declared.design.KnownDesign.{KnownDesign}
use Rattle.vd_known_designs.specs.declared.indications.TwoSubtypes.{TwoSubtypes}
use Rattle.vd_known_generics.specs.Standing.{CanStand, Stands, StandsSoFar, function_of_copy}
use Rattle.vd_meaning.specs.Facets.{Meaning}
use Rattle.vd_meaning.specs.Meanings.{made}
use Rattle.vd_meaning.specs.Names.{number_or}
use Rattle.vd_resolved.specs.declared.node.Resolved.{Resolved}
use Rattle.vd_value_rules.specs.Declaring.{KnownAndLeft, TwoActuals, constant_stands, constants_stand, function_stands, generic_stands, generics_stand, next_stands}
use Rattle.vd_value_rules.specs.Designs.{Design}
use Rattle.vd_value_rules.specs.Knowledge.{Known, TwoIndicated, meaning_at}

pub is_ready : (x : KnownDesign) (left : List Actual) → CanStand x left → IsReady x
is_ready x left can = record { design = can.design; now = can.so_far.known; round = can.round; knows = can.stands.knows }

module _ (d : Design) (x y : KnownDesign) (ks : List Known) where
  -- ---- the next actual

  -- with one declaration more, for the first actual that is left
  abbrev pub OneMore : Actual → (TwoActuals → Known → Known) → Type 0
  OneMore first f = (k : Known) (a : TwoActuals) → IsActual x.table.subtypes d.table first a → Knows d x (k ∷ ks) → Knows d y (f a k ∷ ks)

  next_of : (f : ℕ → TwoActuals → Known → Known) (n : ℕ) (first : Actual) (rest : List Actual) (k : Known) (as' : List TwoActuals) → Knows d x (k ∷ ks)
      → AreActuals x.table.subtypes d.table (first ∷ rest) as' → Extends x.table.subtypes y.table.subtypes → OneMore first (f n) → Stands d y rest (next_stands f n as' k) ks
  next_of f n first rest k [] knows are grown step = absurd are
  next_of f n first rest k (a ∷ as') knows are grown step =
      record { knows = step k a are.0 knows; are_left = actuals_grown x.table.subtypes y.table.subtypes d.table rest as' grown are.1 }

  pub next_more : (f : ℕ → TwoActuals → Known → Known) (n : ℕ) (first : Actual) (left rest : List Actual) (s : KnownAndLeft) → left ≡ first ∷ rest → Stands d x left s ks
      → Extends x.table.subtypes y.table.subtypes → OneMore first (f n) → Stands d y rest (next_stands f n s.left s.known) ks
  next_more f n first left rest s is stands grown step =
      next_of f n first rest s.known s.left stands.knows (subst (λ l. AreActuals x.table.subtypes d.table l s.left) is stands.are_left) grown step

  -- ---- constants that are declared together

  constant_of_next : (m : Meaning) (i : TwoIndicated) (first : Actual) (rest : List Actual) (n : ℕ) (ns : List ℕ) (all : KnownAndLeft) (k : Known) (as' : List TwoActuals)
      → Knows d x (k ∷ ks) → AreActuals x.table.subtypes d.table (first ∷ rest) as' → constants_stand m i (n ∷ ns) as' k ≡ all
      → Extends x.table.subtypes y.table.subtypes → OneMore first (constant_stands m i n) → StandsSoFar d y rest ks (λ s. constants_stand m i ns s.left s.known) all
  constant_of_next m i first rest n ns all k [] knows are is grown step = absurd are
  constant_of_next m i first rest n ns all k (a ∷ as') knows are is grown step = record {
    so_far = record { known = constant_stands m i n a k; left = as' };
    stands = record { knows = step k a are.0 knows; are_left = actuals_grown x.table.subtypes y.table.subtypes d.table rest as' grown are.1 };
    comes_to = is;
  }

  pub constant_more : (m : Meaning) (i : TwoIndicated) (first : Actual) (left rest : List Actual) (n : ℕ) (ns ms : List ℕ) (all : KnownAndLeft) → left ≡ first ∷ rest → ns ≡ n ∷ ms
      → StandsSoFar d x left ks (λ s. constants_stand m i ns s.left s.known) all
      → Extends x.table.subtypes y.table.subtypes → OneMore first (constant_stands m i n) → StandsSoFar d y rest ks (λ s. constants_stand m i ms s.left s.known) all
  constant_more m i first left rest n ns ms all is_left is_ns so_far grown step =
      constant_of_next m i first rest n ms all so_far.so_far.known so_far.so_far.left so_far.stands.knows
      (subst (λ l. AreActuals x.table.subtypes d.table l so_far.so_far.left) is_left so_far.stands.are_left)
      (sym (ap (λ l. constants_stand m i l so_far.so_far.left so_far.so_far.known) is_ns) ∙ so_far.comes_to) grown step

  -- ---- a generic of any form

  pub generic_more : (left later : List Actual) (f : Forest Resolved) (n : Resolved) (text : List ℕ) (place : Place) (parts next : Forest Resolved) (all : Known) → f ≡ more n text place parts next
      → StandsSoFar d x left ks (λ s. generics_stand d f s.left s.known) all
      → ((s : KnownAndLeft) → Stands d x left s ks → Stands d y later (generic_stands n.form d n parts s.left s.known) ks)
      → StandsSoFar d y later ks (λ s. generics_stand d next s.left s.known) all
  generic_more left later f n text place parts next all is so_far step = record {
    so_far = generic_stands n.form d n parts so_far.so_far.left so_far.so_far.known;
    stands = step so_far.so_far so_far.stands;
    comes_to = sym (ap (λ g. generics_stand d g so_far.so_far.left so_far.so_far.known) is) ∙ so_far.comes_to;
  }

module _ (d : Design) (x : KnownDesign) (ks : List Known) where
  -- ---- where no actual is left

  none_next : (f : ℕ → TwoActuals → Known → Known) (n : ℕ) (k : Known) (as' : List TwoActuals) → Knows d x (k ∷ ks) → AreActuals x.table.subtypes d.table [] as'
      → Stands d x [] (next_stands f n as' k) ks
  none_next f n k [] knows are = record { knows = knows; are_left = tt }
  none_next f n k (a ∷ as') knows are = absurd are

  pub next_missing : (f : ℕ → TwoActuals → Known → Known) (n : ℕ) (left : List Actual) (s : KnownAndLeft) → left ≡ [] → Stands d x left s ks
      → Stands d x left (next_stands f n s.left s.known) ks
  next_missing f n left s none stands =
      subst (λ l. Stands d x l (next_stands f n s.left s.known) ks) (sym none)
      (none_next f n s.known s.left stands.knows (subst (λ l. AreActuals x.table.subtypes d.table l s.left) none stands.are_left))

  none_constant : (m : Meaning) (i : TwoIndicated) (ns : List ℕ) (k : Known) (as' : List TwoActuals) → Knows d x (k ∷ ks) → AreActuals x.table.subtypes d.table [] as'
      → Stands d x [] (constants_stand m i ns as' k) ks
  none_constant m i [] k [] knows are = record { knows = knows; are_left = tt }
  none_constant m i (n ∷ ns) k [] knows are = record { knows = knows; are_left = tt }
  none_constant m i ns k (a ∷ as') knows are = absurd are

  pub constants_missing : (m : Meaning) (i : TwoIndicated) (ns : List ℕ) (left : List Actual) (all : KnownAndLeft) → left ≡ []
      → StandsSoFar d x left ks (λ s. constants_stand m i ns s.left s.known) all → Stands d x left all ks
  constants_missing m i ns left all none so_far =
      subst (λ l. Stands d x l all ks) (sym none)
      (subst (λ s. Stands d x [] s ks) so_far.comes_to
      (none_constant m i ns so_far.so_far.known so_far.so_far.left so_far.stands.knows (subst (λ l. AreActuals x.table.subtypes d.table l so_far.so_far.left) none so_far.stands.are_left)))

  -- where no number is left
  pub constants_done : (m : Meaning) (i : TwoIndicated) (ns : List ℕ) (left : List Actual) (all : KnownAndLeft) → ns ≡ []
      → StandsSoFar d x left ks (λ s. constants_stand m i ns s.left s.known) all → Stands d x left all ks
  constants_done m i ns left all none so_far =
      subst (λ s. Stands d x left s ks) (sym (ap (λ l. constants_stand m i l so_far.so_far.left so_far.so_far.known) none) ∙ so_far.comes_to) so_far.stands

-- the numbers from a place on
pub numbers_more : (ns : List ℕ) (at later n : ℕ) → at < length ns → later ≡ suc at → n ≡ get_or ns at n → drop at ns ≡ n ∷ drop later ns
numbers_more ns at later n inside next is = drop-cons ns at n inside ∙ ap (λ m. m ∷ drop (suc at) ns) (sym is) ∙ ap (λ m. n ∷ drop m ns) (sym next)

-- ---- the next one that is left

pub record HasFirst (x : KnownDesign) (d : Design) (first : Actual) (k : Known) (ks : List Known) : Type 0 where
  pub actual : TwoActuals
  pub is : IsActual x.table.subtypes d.table first actual
  pub knows : Knows d x (k ∷ ks)

first_of : (d : Design) (x : KnownDesign) (k : Known) (ks : List Known) (first : Actual) (rest : List Actual) (as' : List TwoActuals) → Knows d x (k ∷ ks)
    → AreActuals x.table.subtypes d.table (first ∷ rest) as' → HasFirst x d first k ks
first_of d x k ks first rest [] knows are = absurd are
first_of d x k ks first rest (a ∷ as') knows are = record { actual = a; is = are.0; knows = knows }

pub first_left : (d : Design) (x : KnownDesign) (ks : List Known) (first : Actual) (left rest : List Actual) (s : KnownAndLeft) → left ≡ first ∷ rest → Stands d x left s ks
    → HasFirst x d first s.known ks
first_left d x ks first left rest s is stands =
    first_of d x s.known ks first rest s.left stands.knows (subst (λ l. AreActuals x.table.subtypes d.table l s.left) is stands.are_left)

-- subtypes that are in a store indicate something
pub in_store : (fs : List (Forest IndicatedForm)) (of : TwoSubtypes) → of.own ≤ length fs → of.choosing ≤ length fs
    → AreIndicated fs of (record { own = indicated_in (at fs of.own); choosing = indicated_in (at fs of.choosing) })
in_store fs of own choosing = record { own = record { within = own; is = refl }; choosing = record { within = choosing; is = refl } }

-- subtypes come, and nothing else
pub stands_grown : (d : Design) (x y : KnownDesign) (left : List Actual) (s : KnownAndLeft) (ks : List Known) → Stands d x left s ks → Knows d y (s.known ∷ ks)
    → Extends x.table.subtypes y.table.subtypes → Stands d y left s ks
stands_grown d x y left s ks stands knows grown =
    record { knows = knows; are_left = actuals_grown x.table.subtypes y.table.subtypes d.table left s.left grown stands.are_left }

-- what is no constant and no type is a function
pub other_stands : (f : Form) (d : Design) (n : Resolved) (parts : Forest Resolved) (as' : List TwoActuals) (k : Known) → (f ≡ form.GenericConstant → ⊥) → (f ≡ form.GenericType → ⊥)
    → generic_stands f d n parts as' k ≡ next_stands (function_stands d) (number_or (made n (meaning_at d 1 parts))) as' k
other_stands form.GenericConstant d n parts as' k no_constant no_type = absurd (no_constant refl)
other_stands form.GenericType d n parts as' k no_constant no_type = absurd (no_type refl)
other_stands _ d n parts as' k no_constant no_type = refl

-- ---- functions

-- a function is what it is where the generics in front of it stand for their actuals
function_is : (d : Design) (n : ℕ) (a : TwoActuals) (k : Known) → function_of_copy d n a k ≡ function_stands d n a k
function_is d n a k = refl

pub functions_stand : (d : Design) (n : ℕ) (as' : List TwoActuals) (k : Known) → next_stands (function_of_copy d) n as' k ≡ next_stands (function_stands d) n as' k
functions_stand d n [] k = refl
functions_stand d n (a ∷ as') k = ap (λ l. record { known = l; left = as' }) (function_is d n a k)
