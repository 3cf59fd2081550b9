-- Generics and instances with other numbers.
use Rattle.std.proofs.Common.{◌≡◌, ℕ, zero, suc, Bool, true, false, List, [], ◌∷◌, ◌++◌, Option, Some, None, map, refl, sym, ap, ◌∙◌, subst}
use Rattle.std.specs.Prelude.{if◌then◌else◌, Ok, Err, is_some}
use Rattle.std.specs.List.{AllZip}
use Rattle.vd_kernel.specs.Correspondence.{BothOrNone}
use Rattle.vd_values.specs.declared.scalar.Scalar.{Scalar}
use Rattle.vd_composites.specs.Stops.{◌>>=◌}
use Rattle.vd_composites.specs.Composites.{Value}
use Rattle.vd_composites.specs.Subtypes.{Subtype, fit}
use Rattle.vd_environments.specs.Got.{Got, got}
use Rattle.vd_environments.specs.Environments.{Static, Argument, Function, GenericActual, Env, denoting, with_object, with_function, with_instances, Indicated}
use Rattle.vd_environments.specs.Functions.{called}
use Rattle.vd_meaning.specs.Tables.{Table, same_type, followed, declared_in, pairs, copies_in}
use Rattle.vd_meaning.specs.Operators.{function_of}
use Rattle.vd_meaning.specs.Names.{calls_known}
use Rattle.vd_meaning.specs.Facets.{Meaning, Association, Positional, ByChoices, ForOthers, Choice, Objects, Formal, FormalConstants, FormalType, FormalFunction, MapElement, Body}
use Rattle.vd_meaning.specs.Generics.{named_element, unless_named, nth_element, or_placed, unless_open, element_for, value_in, value_known, actual_of, actuals_of, constant_value, constant_static, with_constant, next_actual, later_actuals, with_constants, behind_constants, with_type, with_generics, taken, instance_of, new_instances, function_command, new_instance}
use Rattle.vd_meaning.specs.Declarations.{constant_known}
use Rattle.vd_meaning.specs.Meanings.{formal_named, map_element, actuals_between}
use Rattle.vd_meaning_laws.specs.Agreement.{Link, IsApart, through, Keeps, Agree, Alike, number_in, AgreeAfter, AlikeCommands}
use Rattle.vd_meaning_laws.specs.Renumbering.{SameTable, AlikeValues, AlikeChoice, AlikeObjects, AlikeFormal, AlikeMapElement, AlikeMeaning, AlikeBody, pair_in}
use Rattle.vd_meaning_laws.proofs.Agreeing.{denoting_agrees, denoted_same}
use Rattle.vd_meaning_laws.proofs.Naming.{function_same, calls_known_same}
use Rattle.vd_meaning_laws.proofs.Parts.{type_named}
use Rattle.vd_meaning_laws.proofs.Doing.{itself, acting_alike, after_same, after_equal, after_after}
use Rattle.vd_meaning_laws.proofs.Declaring.{body_alike, function_alike}

module _ (l : Link) (numbers : IsApart l) where
  -- ---- elements of maps

  abbrev ElementOption : Option MapElement → Option MapElement → Type 0
  ElementOption x y = BothOrNone (AlikeMapElement l) x y

  pick : (b c : Bool) (x y x' y' : Option MapElement) → c ≡ b → ElementOption x x' → ElementOption y y' → ElementOption (if b then x else y) (if c then x' else y')
  pick true c x y x' y' e h k = subst (λ c. ElementOption x (if c then x' else y')) (sym e) h
  pick false c x y x' y' e h k = subst (λ c. ElementOption y (if c then x' else y')) (sym e) k

  element_named : (d : ℕ) (xs ys : List MapElement) → AllZip (AlikeMapElement l) xs ys → ElementOption (named_element d xs) (named_element (l.number d) ys)
  element_named d [] [] h = tt
  element_named d (x ∷ xs) (y ∷ ys) h =
      pick (same_type x.formal (Some d)) (same_type y.formal (Some (l.number d))) (Some x) (named_element d xs) (Some y) (named_element (l.number d) ys)
      (ap (λ f. same_type f (Some (l.number d))) h.0.formal ∙ type_named l numbers x.formal d) h.0 (element_named d xs ys h.1)
  element_named d _ _ h = absurd h

  some_number : (x : Option ℕ) → is_some (number_in l x) ≡ is_some x
  some_number None = refl
  some_number (Some d) = refl

  element_unless : (x y : MapElement) → AlikeMapElement l x y → ElementOption (unless_named x) (unless_named y)
  element_unless x y h = pick (is_some x.formal) (is_some y.formal) None (Some x) None (Some y) (ap is_some h.formal ∙ some_number x.formal) tt h

  element_nth : (k : ℕ) (xs ys : List MapElement) → AllZip (AlikeMapElement l) xs ys → ElementOption (nth_element k xs) (nth_element k ys)
  element_nth k [] [] h = tt
  element_nth zero (x ∷ xs) (y ∷ ys) h = element_unless x y h.0
  element_nth (suc k) (x ∷ xs) (y ∷ ys) h = element_nth k xs ys h.1
  element_nth k _ _ h = absurd h

  element_placed : (x y x' y' : Option MapElement) → ElementOption x x' → ElementOption y y' → ElementOption (or_placed x y) (or_placed x' y')
  element_placed None y None y' h k = k
  element_placed (Some x) y (Some x') y' h k = h
  element_placed _ y _ y' h k = absurd h

  element_open : (x y : Option MapElement) → ElementOption x y → ElementOption (unless_open x) (unless_open y)
  element_open None None h = tt
  element_open (Some x) (Some y) h = pick x.is_open y.is_open None (Some x) None (Some y) h.is_open tt h
  element_open _ _ h = absurd h

  element_alike : (k d : ℕ) (xs ys : List MapElement) → AllZip (AlikeMapElement l) xs ys → ElementOption (element_for k d xs) (element_for k (l.number d) ys)
  element_alike k d xs ys h =
      element_open (or_placed (named_element d xs) (nth_element k xs)) (or_placed (named_element (l.number d) ys) (nth_element k ys))
      (element_placed (named_element d xs) (nth_element k xs) (named_element (l.number d) ys) (nth_element k ys) (element_named d xs ys h) (element_nth k xs ys h))

  formal_same : (a : Association) (cs ds : List Choice) → AllZip (AlikeChoice l) cs ds → formal_named a ds ≡ number_in l (formal_named a cs)
  formal_same Positional cs ds h = refl
  formal_same ByChoices [] [] h = refl
  formal_same ByChoices (c ∷ cs) (d ∷ ds) h = h.0.named
  formal_same ByChoices _ _ h = absurd h
  formal_same ForOthers cs ds h = refl

  map_element_alike : (m n : Meaning) → AlikeMeaning l m n → AlikeMapElement l (map_element m) (map_element n)
  map_element_alike m n h =
      record {
        formal = ap (λ a. formal_named a n.choices) h.association ∙ formal_same m.association m.choices n.choices h.choices;
        is_open = h.is_open;
        value = h.value;
        known = h.known;
      }

  pub map_elements_alike : (ms ns : List Meaning) → AllZip (AlikeMeaning l) ms ns → AllZip (AlikeMapElement l) (map map_element ms) (map map_element ns)
  map_elements_alike [] [] h = tt
  map_elements_alike (m ∷ ms) (n ∷ ns) h = (map_element_alike m n h.0, map_elements_alike ms ns h.1)
  map_elements_alike _ _ h = absurd h

  -- ---- actuals

  value_alike : (x y : Option MapElement) → ElementOption x y → Alike l (value_in x) (value_in y)
  value_alike None None h e k = refl
  value_alike (Some x) (Some y) h e k = λ i. Some (λ known. h.value known e k i)
  value_alike _ _ h e k = absurd h

  known_alike : (x y : Option MapElement) → ElementOption x y → Alike l (value_known x) (value_known y)
  known_alike None None h e k = refl
  known_alike (Some x) (Some y) h e k = h.known e k
  known_alike _ _ h e k = absurd h

  module _ (t t' : Table) (tables : SameTable l t t') where
    function_followed : (c : ℕ) (e : Env) → function_of t' (followed t' (l.number c)) e ≡ function_of t (followed t c) (through l e)
    function_followed c e = (λ i. function_of t' (tables.followed c i) e) ∙ function_same l numbers t t' tables (followed t c) e

    calls_followed : (c : ℕ) (e : Env) → calls_known t' (followed t' (l.number c)) e ≡ calls_known t (followed t c) (through l e)
    calls_followed c e = (λ i. calls_known t' (tables.followed c i) e) ∙ calls_known_same l numbers t t' tables (followed t c) e

    actual_alike : (x y : Option MapElement) → ElementOption x y → (c : ℕ) → Alike l (λ e. actual_of t x e c) (λ e. actual_of t' y e (l.number c))
    actual_alike x y h c e k =
        λ i. record {
          value = value_alike x y h e k i;
          known = known_alike x y h e k i;
          indicated = record { subtype = (e.denotes (tables.actual_mark c i)).subtype; make = (e.denotes (tables.actual_mark c i)).make };
          function = function_followed c e i;
          calls = calls_followed c e i;
        }

    actuals_alike : (k : ℕ) (ds cs : List ℕ) (xs ys : List MapElement) → AllZip (AlikeMapElement l) xs ys
        → Alike l (actuals_of t k ds cs xs) (actuals_of t' k (map l.number ds) (map l.number cs) ys)
    actuals_alike k [] cs xs ys h e j = refl
    actuals_alike k (d ∷ ds) [] xs ys h e j = refl
    actuals_alike k (d ∷ ds) (c ∷ cs) xs ys h e j =
        λ i. actual_alike (element_for k d xs) (element_for k (l.number d) ys) (element_alike k d xs ys h) c e j i ∷ actuals_alike (suc k) ds cs xs ys h e j i

    pub between_alike : (g d : ℕ) (xs ys : List MapElement) → AllZip (AlikeMapElement l) xs ys → Alike l (actuals_between t g d xs) (actuals_between t' (l.number g) (l.number d) ys)
    between_alike g d xs ys h e k =
        (λ i. actuals_of t' 0 (tables.generics g i) (tables.generics d i) ys e)
        ∙ actuals_alike 0 (t.declared g).generics (t.declared d).generics xs ys h e k

    joined : (ms ns : List ℕ) → map l.number (ms ++ ns) ≡ map l.number ms ++ map l.number ns
    joined [] ns = refl
    joined (m ∷ ms) ns = λ i. l.number m ∷ joined ms ns i

    declared_same : (d : ℕ) → declared_in t' (l.number d) ≡ map l.number (declared_in t d)
    declared_same d = (λ i. tables.generics d i ++ tables.parameters d i) ∙ sym (joined (t.declared d).generics (t.declared d).parameters)

    pairs_same : (ms ns : List ℕ) → pairs (map l.number ms) (map l.number ns) ≡ map (pair_in l) (pairs ms ns)
    pairs_same [] ns = refl
    pairs_same (m ∷ ms) [] = refl
    pairs_same (m ∷ ms) (n ∷ ns) = λ i. (l.number m, l.number n) ∷ pairs_same ms ns i

    pub copies_same : (p d : ℕ) → copies_in t' (l.number p) (l.number d) ≡ map (pair_in l) (copies_in t p d)
    copies_same p d = (λ i. pairs (declared_same p i) (declared_same d i)) ∙ pairs_same (declared_in t p) (declared_in t d)

  -- ---- generics stand for their actuals

  constant_alike : (a : Option Argument) (f g : Option (Got Subtype → Env → Got (Value Scalar))) → BothOrNone (AlikeValues l) f g → (i : Indicated)
      → Alike l (constant_value a f i) (constant_value a g i)
  constant_alike (Some a) f g h i e k = refl
  constant_alike None None None h i e k = refl
  constant_alike None (Some f) (Some g) h i e k = h (Ok i.subtype) e k
  constant_alike None _ _ h i e k = absurd h

  static_same : (a : Option Argument) (actual s s' : Static) → s' ≡ s → constant_static a actual s' ≡ constant_static a actual s
  static_same a actual s s' h = ap (constant_static a actual) h

  object_agrees : (d : ℕ) (i : Indicated) (w : Value Scalar) (s s' : Static) → s' ≡ s → (e : Env) → Keeps l e
      → Agree l (with_object d i.subtype i.make w s (through l e)) (with_object (l.number d) i.subtype i.make w s' e)
  object_agrees d i w s s' h e k =
      subst (λ r. Agree l (with_object d i.subtype i.make w s (through l e)) (with_object (l.number d) i.subtype i.make w r e)) (sym h)
      (denoting_agrees l numbers (through l e) e d _ (itself l numbers e k))

  constant_itself : (o p : Objects) → AlikeObjects l o p → (d : ℕ) (a : GenericActual) (e : Env) → Keeps l e → AgreeAfter l (with_constant o d a (through l e)) (with_constant p (l.number d) a e)
  constant_itself o p h d a e k =
      after_equal l numbers (o.indicated (through l e)) (p.indicated e) _ _ (h.indicated e k) (λ i.
      after_equal l numbers (constant_value a.value o.default i (through l e)) (constant_value a.value p.default i e) _ _ (constant_alike a.value o.default p.default h.default i e k) (λ v.
      after_same l numbers (got (fit i.subtype v)) _ _ (λ w.
      object_agrees d i w (constant_known (constant_static a.value a.known (o.known (through l e))) i (through l e)) (constant_known (constant_static a.value a.known (p.known e)) i e)
      (λ j. constant_known (constant_static a.value a.known (h.known e k j)) i e) e k)))

  constant_agrees : (o p : Objects) → AlikeObjects l o p → (d : ℕ) (a : GenericActual) (e e' : Env) → Agree l e e' → AgreeAfter l (with_constant o d a e) (with_constant p (l.number d) a e')
  constant_agrees o p h d a e e' b =
      subst (λ x. AgreeAfter l (with_constant o d a x) (with_constant p (l.number d) a e')) b.same (constant_itself o p h d a e' b.keeps)

  constants_agree : (o p : Objects) → AlikeObjects l o p → (ds : List ℕ) (as' : List GenericActual) (e e' : Env) → Agree l e e'
      → AgreeAfter l (with_constants o ds as' e) (with_constants p (map l.number ds) as' e')
  constants_agree o p h [] as' e e' b = b
  constants_agree o p h (d ∷ ds) as' e e' b =
      after_after l numbers _ _ _ _ (constant_agrees o p h d (next_actual as') e e' b) (λ f f' k. constants_agree o p h ds (later_actuals as') f f' k)

  behind_same : (ds : List ℕ) (as' : List GenericActual) → behind_constants (map l.number ds) as' ≡ behind_constants ds as'
  behind_same [] as' = refl
  behind_same (d ∷ ds) as' = behind_same ds (later_actuals as')

  type_agrees : (d : ℕ) (i : Indicated) (e e' : Env) → Agree l e e' → Agree l (with_type d i e) (with_type (l.number d) i e')
  type_agrees d i e e' h =
      subst (λ x. Agree l (with_type d i x) (with_type (l.number d) i e')) h.same (denoting_agrees l numbers (through l e') e' d _ (itself l numbers e' h.keeps))

  abbrev constants_then : Objects → List ℕ → List Formal → List GenericActual → Env → Got Env
  constants_then o ds fs as' e = with_constants o ds as' e >>= with_generics fs (behind_constants ds as')

  pub generics_agree : (fs gs : List Formal) → AllZip (AlikeFormal l) fs gs → (as' : List GenericActual) (e e' : Env) → Agree l e e' → AgreeAfter l (with_generics fs as' e) (with_generics gs as' e')
  generics_agree [] [] h as' e e' b = b
  generics_agree (FormalConstants o ∷ fs) (FormalConstants p ∷ gs) h as' e e' b =
      subst (λ ds. AgreeAfter l (constants_then o o.numbers fs as' e) (constants_then p ds gs as' e')) (sym h.0.numbers)
      (subst (λ xs. AgreeAfter l (constants_then o o.numbers fs as' e) (with_constants p (map l.number o.numbers) as' e' >>= with_generics gs xs)) (sym (behind_same o.numbers as'))
      (after_after l numbers _ _ _ _ (constants_agree o p h.0 o.numbers as' e e' b) (λ f f' k. generics_agree fs gs h.1 (behind_constants o.numbers as') f f' k)))
  generics_agree (FormalType d ∷ fs) (FormalType c ∷ gs) h as' e e' b =
      subst (λ c. AgreeAfter l (with_generics (FormalType d ∷ fs) as' e) (with_generics (FormalType c ∷ gs) as' e')) (sym h.0)
      (generics_agree fs gs h.1 (later_actuals as') _ _ (type_agrees d (next_actual as').indicated e e' b))
  generics_agree (FormalFunction d ∷ fs) (FormalFunction c ∷ gs) h as' e e' b =
      subst (λ c. AgreeAfter l (with_generics (FormalFunction d ∷ fs) as' e) (with_generics (FormalFunction c ∷ gs) as' e')) (sym h.0)
      (generics_agree fs gs h.1 (later_actuals as') _ _ (denoting_agrees l numbers e e' d _ b))
  generics_agree (FormalConstants o ∷ fs) (FormalType c ∷ gs) h as' e e' b = absurd h.0
  generics_agree (FormalConstants o ∷ fs) (FormalFunction c ∷ gs) h as' e e' b = absurd h.0
  generics_agree (FormalType d ∷ fs) (FormalConstants p ∷ gs) h as' e e' b = absurd h.0
  generics_agree (FormalType d ∷ fs) (FormalFunction c ∷ gs) h as' e e' b = absurd h.0
  generics_agree (FormalFunction d ∷ fs) (FormalConstants p ∷ gs) h as' e e' b = absurd h.0
  generics_agree (FormalFunction d ∷ fs) (FormalType c ∷ gs) h as' e e' b = absurd h.0
  generics_agree [] (g ∷ gs) h as' e e' b = absurd h
  generics_agree (f ∷ fs) [] h as' e e' b = absurd h

  -- what an instance declares
  pub taken_agrees : (cs : List (ℕ × ℕ)) (from from' : Env) → Agree l from from' → (e e' : Env) → Agree l e e' → Agree l (taken cs from e) (taken (map (pair_in l) cs) from' e')
  taken_agrees [] from from' a e e' h = h
  taken_agrees (c ∷ cs) from from' a e e' h =
      taken_agrees cs from from' a (denoting c.1 (from.denotes c.0) e) (denoting (l.number c.1) (from'.denotes (l.number c.0)) e')
      (subst (λ d. Agree l (denoting c.1 (from.denotes c.0) e) (denoting (l.number c.1) d e')) (sym (denoted_same l numbers from from' c.0 a)) (denoting_agrees l numbers e e' c.1 _ h))

  -- ---- functions with generics

  made_by : (b c : Body) → AlikeBody l b c → (g g' : Got Env) → AgreeAfter l g g'
      → (g' >>= λ f. Ok (called c.parameters (c.result f) c.statements f)) ≡ (g >>= λ f. Ok (called b.parameters (b.result f) b.statements f))
  made_by b c h (Ok e) (Ok e') a =
      (λ i. Ok (body_alike l numbers b c h e' a.keeps i)) ∙ ap (λ x. Ok (called b.parameters (b.result x) b.statements x)) a.same
  made_by b c h (Ok e) (Err s) a = absurd a
  made_by b c h (Err s) (Ok e') a = absurd a
  made_by b c h (Err s) (Err t) a = ap (λ s. Err s) a

  instance_same : (b c : Body) → AlikeBody l b c → (e : Env) → Keeps l e → instance_of c e ≡ instance_of b (through l e)
  instance_same b c h e k = λ i as'.
      made_by b c h (with_generics b.generics as' (through l e)) (with_generics c.generics as' e) (generics_agree b.generics c.generics h.generics as' (through l e) e (itself l numbers e k)) i

  instances_alike : (b c : Body) → AlikeBody l b c → AlikeCommands l (new_instances b) (new_instances c)
  instances_alike b c h =
      acting_alike l numbers _ _ (λ e k.
      subst (λ n. Agree l (with_instances b.function (instance_of b (through l e)) (through l e)) (with_instances n (instance_of c e) e)) (sym h.function)
      (subst (λ g. Agree l (with_instances b.function (instance_of b (through l e)) (through l e)) (with_instances (l.number b.function) g e)) (sym (instance_same b c h e k))
      (denoting_agrees l numbers (through l e) e b.function _ (itself l numbers e k))))

  pub functions_alike : (x y : Bool) → y ≡ x → (b c : Body) → AlikeBody l b c → AlikeCommands l (function_command x b) (function_command y c)
  functions_alike true y e b c h = subst (λ y. AlikeCommands l (function_command true b) (function_command y c)) (sym e) (instances_alike b c h)
  functions_alike false y e b c h = subst (λ y. AlikeCommands l (function_command false b) (function_command y c)) (sym e) (function_alike l numbers b c h)

  instance_after : (x : List GenericActual → Got Function) (as' bs : List GenericActual) (d : ℕ) (e : Env) → Keeps l e → bs ≡ as'
      → AgreeAfter l (x as' >>= λ f. Ok (with_function d f (through l e))) (x bs >>= λ f. Ok (with_function (l.number d) f e))
  instance_after x as' bs d e k h =
      after_equal l numbers (x as') (x bs) _ _ (ap x h) (λ f. denoting_agrees l numbers (through l e) e d _ (itself l numbers e k))

  pub instance_alike : (g d : ℕ) (f f' : Env → List GenericActual) → Alike l f f' → AlikeCommands l (new_instance g d f) (new_instance (l.number g) (l.number d) f')
  instance_alike g d f f' same =
      acting_alike l numbers _ _ (λ e k. instance_after (e.denotes (l.number g)).instance (f (through l e)) (f' e) d e k (same e k))
