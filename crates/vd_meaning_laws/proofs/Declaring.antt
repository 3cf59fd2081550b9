-- What declarations declare with other numbers.
use Rattle.std.proofs.Common.{◌≡◌, ℕ, Bool, true, false, List, [], ◌∷◌, ◌++◌, Option, Some, None, map, refl, sym, ap, ◌∙◌, subst}
use Rattle.std.specs.Prelude.{if◌then◌else◌, Ok, Err}
use Rattle.std.specs.List.{AllZip}
use Rattle.vd_kernel.specs.Correspondence.{BothOrNone}
use Rattle.vd_values.specs.declared.scalar.Scalar.{Scalar}
use Rattle.vd_composites.specs.declared.ranges.Bounds.{Bounds}
use Rattle.vd_composites.specs.Stops.{◌>>=◌}
use Rattle.vd_composites.specs.Composites.{Value}
use Rattle.vd_composites.specs.Subtypes.{Subtype, fit, default_of, constrained}
use Rattle.vd_environments.specs.Got.{Got, got, senseless}
use Rattle.vd_environments.specs.Environments.{Static, never, made_narrower, Argument, Function, Env, with_object, with_function, inside, Indicated, or_senseless}
use Rattle.vd_environments.specs.Commands.{Command, End, Ends, Suspends, Leaves, Stops, Exit, Next, Return, run, acting}
use Rattle.vd_environments.specs.Functions.{Parameter, with_arguments, returned, called}
use Rattle.vd_environments.specs.Processes.{settled_by}
use Rattle.vd_meaning.specs.Names.{scalar_type, scalars_of}
use Rattle.vd_meaning.specs.Facets.{Meaning, Body}
use Rattle.vd_meaning.specs.Declarations.{indicated_mark, narrower, indication, unconstrained_array, constrained_array, array_type, all_fields, new_type, with_objects, initial_value, constant_known, new_constants, new_variables, with_settled, settled_constants, settled_variables, new_objects, parameters_for, new_function, literals_in}
use Rattle.vd_meaning_laws.specs.Agreement.{Link, IsApart, through, Keeps, Agree, Alike, number_in, AgreeAfter, AlikeEnds, AlikeCommands}
use Rattle.vd_meaning_laws.specs.Renumbering.{AlikeOption, AlikeValues, AlikeParameter, AlikeObjects, AlikeMeaning, AlikeSettling, AlikeBody}
use Rattle.vd_meaning_laws.proofs.Agreeing.{denoting_agrees}
use Rattle.vd_meaning_laws.proofs.Stepping.{type_same}
use Rattle.vd_meaning_laws.proofs.Doing.{itself, acting_alike, settled_by_alike, after_same, after_equal}

module _ (l : Link) (numbers : IsApart l) where
  -- ---- subtypes

  mark_same : (d : Option ℕ) (e : Env) → indicated_mark (number_in l d) e ≡ indicated_mark d (through l e)
  mark_same None e = refl
  mark_same (Some d) e = refl

  abbrev narrowed : Option (Env → Got Bounds) → Static → Indicated → Env → Got Indicated
  narrowed r s i e = or_senseless r >>= λ range. range e >>= λ b. got (constrained i.subtype b) >>= λ x. Ok (record { subtype = x; make = made_narrower s i.make })

  narrower_by : (r r' : Option (Env → Got Bounds)) → AlikeOption l r r' → (s : Static) (i : Indicated) (e : Env) → Keeps l e → narrowed r' s i e ≡ narrowed r s i (through l e)
  narrower_by None None x s i e k = refl
  narrower_by (Some r) (Some r') x s i e k = λ j. x e k j >>= λ b. got (constrained i.subtype b) >>= λ y. Ok (record { subtype = y; make = made_narrower s i.make })
  narrower_by _ _ x s i e k = absurd x

  narrower_alike : (m n : Meaning) → AlikeMeaning l m n → (e : Env) → Keeps l e → (i : Indicated) → narrower n e i ≡ narrower m (through l e) i
  narrower_alike m n h e k i = (λ j. narrowed n.range (h.known e k j) i e) ∙ narrower_by m.range n.range h.range (m.known (through l e)) i e k

  pub indication_alike : (d : Option ℕ) (m n : Meaning) → AlikeMeaning l m n → Alike l (indication d m) (indication (number_in l d) n)
  indication_alike d m n h e k = λ j. mark_same d e j >>= λ i. if h.is_present j then narrower_alike m n h e k i j else Ok i

  literals_same : (d : Option ℕ) (e : Env) → literals_in (number_in l d) e ≡ literals_in d (through l e)
  literals_same None e = refl
  literals_same (Some d) e = refl

  abbrev array_from : Option (Env → Got Bounds) → Option ℕ → Static → Got Indicated → Env → Got Indicated
  array_from r mark s element e =
      scalar_type mark e >>= λ t. or_senseless r >>= λ range. range e >>= λ b. element >>= λ i. Ok (constrained_array t b (literals_in mark e) s i)

  array_by : (r r' : Option (Env → Got Bounds)) → AlikeOption l r r' → (mark : Option ℕ) (s : Static) (element : Got Indicated) (e : Env) → Keeps l e
      → array_from r' (number_in l mark) s element e ≡ array_from r mark s element (through l e)
  array_by None None x mark s element e k = λ j. type_same l numbers mark e j >>= λ t. senseless
  array_by (Some r) (Some r') x mark s element e k =
      λ j. type_same l numbers mark e j >>= λ t. x e k j >>= λ b. element >>= λ i. Ok (constrained_array t b (literals_same mark e j) s i)
  array_by _ _ x mark s element e k = absurd x

  pub array_alike : (m n m' n' : Meaning) → AlikeMeaning l m n → AlikeMeaning l m' n' → Alike l (array_type m m') (array_type n n')
  array_alike m n m' n' h j e k =
      (λ i. if h.is_open i then (h.name.subtype e k i >>= scalars_of >>= λ s. j.indicated e k i >>= λ x. Ok (unconstrained_array s (h.name.make e k i) x))
      else array_from n.range (h.mark i) (h.known e k i) (j.indicated e k i) e)
      ∙ (λ i. if m.is_open then (m.name.subtype (through l e) >>= scalars_of >>= λ s. m'.indicated (through l e) >>= λ x. Ok (unconstrained_array s (m.name.make (through l e)) x))
      else array_by m.range n.range h.range m.mark (m.known (through l e)) (m'.indicated (through l e)) e k i)

  pub all_fields_alike : (ms ns : List Meaning) → AllZip (AlikeMeaning l) ms ns → Alike l (all_fields ms) (all_fields ns)
  all_fields_alike [] [] h e k = refl
  all_fields_alike (m ∷ ms) (n ∷ ns) h e k = λ j. h.0.fields e k j >>= λ xs. all_fields_alike ms ns h.1 e k j >>= λ ys. Ok (xs ++ ys)
  all_fields_alike _ _ h e k = absurd h

  pub type_alike : (n : ℕ) (f f' : Env → Got Indicated) → Alike l f f' → AlikeCommands l (new_type n f) (new_type (l.number n) f')
  type_alike n f f' a =
      acting_alike l numbers _ _ (λ e k. after_equal l numbers (f (through l e)) (f' e) _ _ (a e k) (λ i. denoting_agrees l numbers (through l e) e n _ (itself l numbers e k)))

  -- ---- objects

  objects_agree : (ns : List ℕ) (i : Indicated) (v : Value Scalar) (known : Static) (e e' : Env) → Agree l e e' → Agree l (with_objects ns i v known e) (with_objects (map l.number ns) i v known e')
  objects_agree [] i v known e e' a = a
  objects_agree (n ∷ ns) i v known e e' a =
      objects_agree ns i v known (with_object n i.subtype i.make v known e) (with_object (l.number n) i.subtype i.make v known e')
      (subst (λ x. Agree l (with_object n i.subtype i.make v known x) (with_object (l.number n) i.subtype i.make v known e')) a.same
      (denoting_agrees l numbers (through l e') e' n _ (itself l numbers e' a.keeps)))

  initial_alike : (m n : Meaning) → AlikeMeaning l m n → (i : Indicated) → Alike l (initial_value m i) (initial_value n i)
  initial_alike m n h i e k = λ j. if h.is_present j then (h.value (Ok i.subtype) e k j >>= λ v. got (fit i.subtype v)) else Ok (default_of i.subtype)

  -- under the numbers that the one has
  named_alike : (ns ns' : List ℕ) → ns' ≡ map l.number ns → (i : Indicated) (v : Value Scalar) (s s' : Static) → s' ≡ s → (e : Env) → Keeps l e
      → Agree l (with_objects ns i v s (through l e)) (with_objects ns' i v s' e)
  named_alike ns ns' x i v s s' y e k =
      subst (λ ds. Agree l (with_objects ns i v s (through l e)) (with_objects ds i v s' e)) (sym x)
      (subst (λ r. Agree l (with_objects ns i v s (through l e)) (with_objects (map l.number ns) i v r e)) (sym y) (objects_agree ns i v s (through l e) e (itself l numbers e k)))

  pub constants_alike : (ns ns' : List ℕ) → ns' ≡ map l.number ns → (m n m' n' : Meaning) → AlikeMeaning l m n → AlikeMeaning l m' n' → AlikeCommands l (new_constants ns m m') (new_constants ns' n n')
  constants_alike ns ns' x m n m' n' h j =
      acting_alike l numbers _ _ (λ e k.
      after_equal l numbers (m.indicated (through l e)) (n.indicated e) _ _ (h.indicated e k) (λ i.
      after_equal l numbers (initial_value m' i (through l e)) (initial_value n' i e) _ _ (initial_alike m' n' j i e k) (λ v.
      named_alike ns ns' x i v (constant_known (m'.known (through l e)) i (through l e)) (constant_known (n'.known e) i e) (λ y. constant_known (j.known e k y) i e) e k)))

  pub variables_alike : (ns ns' : List ℕ) → ns' ≡ map l.number ns → (m n m' n' : Meaning) → AlikeMeaning l m n → AlikeMeaning l m' n' → AlikeCommands l (new_variables ns m m') (new_variables ns' n n')
  variables_alike ns ns' x m n m' n' h j =
      acting_alike l numbers _ _ (λ e k.
      after_equal l numbers (m.indicated (through l e)) (n.indicated e) _ _ (h.indicated e k) (λ i.
      after_equal l numbers (initial_value m' i (through l e)) (initial_value n' i e) _ _ (initial_alike m' n' j i e k) (λ v.
      named_alike ns ns' x i v never never refl e k)))

  with_settled_alike : (ns ns' : List ℕ) → ns' ≡ map l.number ns → (i : Indicated) (g h : Got (Value Scalar)) (s s' : Static) → h ≡ g → s' ≡ s → (e : Env) → Keeps l e
      → Agree l (with_settled ns i g s (through l e)) (with_settled ns' i h s' e)
  with_settled_alike ns ns' x i (Ok v) h s s' y z e k =
      subst (λ r. Agree l (with_settled ns i (Ok v) s (through l e)) (with_settled ns' i r s' e)) (sym y) (named_alike ns ns' x i v s s' z e k)
  with_settled_alike ns ns' x i (Err t) h s s' y z e k =
      subst (λ r. Agree l (with_settled ns i (Err t) s (through l e)) (with_settled ns' i r s' e)) (sym y) (named_alike ns ns' x i (default_of i.subtype) never never refl e k)

  settled_alike : (f g : Env → Got Env) → ((e : Env) → Keeps l e → AgreeAfter l (f (through l e)) (g e)) → AlikeSettling l (settled_by (acting f)) (settled_by (acting g))
  settled_alike f g h = settled_by_alike l numbers (acting f) (acting g) (acting_alike l numbers f g h)

  pub settled_constants_alike : (ns ns' : List ℕ) → ns' ≡ map l.number ns → (m n m' n' : Meaning) → AlikeMeaning l m n → AlikeMeaning l m' n'
      → AlikeSettling l (settled_constants ns m m') (settled_constants ns' n n')
  settled_constants_alike ns ns' x m n m' n' h j =
      settled_alike (λ e. m.indicated e >>= λ i. Ok (with_settled ns i (initial_value m' i e) (constant_known (m'.known e) i e) e))
      (λ e. n.indicated e >>= λ i. Ok (with_settled ns' i (initial_value n' i e) (constant_known (n'.known e) i e) e)) (λ e k.
      after_equal l numbers (m.indicated (through l e)) (n.indicated e) _ _ (h.indicated e k) (λ i.
      with_settled_alike ns ns' x i (initial_value m' i (through l e)) (initial_value n' i e) (constant_known (m'.known (through l e)) i (through l e)) (constant_known (n'.known e) i e)
      (initial_alike m' n' j i e k) (λ y. constant_known (j.known e k y) i e) e k))

  pub settled_variables_alike : (ns ns' : List ℕ) → ns' ≡ map l.number ns → (m n m' n' : Meaning) → AlikeMeaning l m n → AlikeMeaning l m' n'
      → AlikeSettling l (settled_variables ns m m') (settled_variables ns' n n')
  settled_variables_alike ns ns' x m n m' n' h j =
      settled_alike (λ e. m.indicated e >>= λ i. Ok (with_settled ns i (initial_value m' i e) never e)) (λ e. n.indicated e >>= λ i. Ok (with_settled ns' i (initial_value n' i e) never e)) (λ e k.
      after_equal l numbers (m.indicated (through l e)) (n.indicated e) _ _ (h.indicated e k) (λ i.
      with_settled_alike ns ns' x i (initial_value m' i (through l e)) (initial_value n' i e) never never (initial_alike m' n' j i e k) refl e k))

  default_alike : (b c : Bool) → c ≡ b → (f g : Got Subtype → Env → Got (Value Scalar)) → AlikeValues l f g → BothOrNone (AlikeValues l) (if b then Some f else None) (if c then Some g else None)
  default_alike true c e f g h = subst (λ c. BothOrNone (AlikeValues l) (Some f) (if c then Some g else None)) (sym e) h
  default_alike false c e f g h = subst (λ c. BothOrNone (AlikeValues l) None (if c then Some g else None)) (sym e) tt

  pub objects_alike : (ns ns' : List ℕ) → ns' ≡ map l.number ns → (m n m' n' : Meaning) → AlikeMeaning l m n → AlikeMeaning l m' n' → AlikeObjects l (new_objects ns m m') (new_objects ns' n n')
  objects_alike ns ns' x m n m' n' h j =
      record { numbers = x; indicated = h.indicated; default = default_alike m'.is_present n'.is_present j.is_present m'.value n'.value j.value; known = j.known }

  parameters_by : (ns : List ℕ) (m n : Meaning) → AlikeMeaning l m n → AllZip (AlikeParameter l) (parameters_for ns m) (parameters_for (map l.number ns) n)
  parameters_by [] m n h = tt
  parameters_by (k ∷ ns) m n h = (record { object = refl; indicated = h.indicated }, parameters_by ns m n h)

  pub parameters_alike : (ns ns' : List ℕ) → ns' ≡ map l.number ns → (m n : Meaning) → AlikeMeaning l m n → AllZip (AlikeParameter l) (parameters_for ns m) (parameters_for ns' n)
  parameters_alike ns ns' x m n h = subst (λ ds. AllZip (AlikeParameter l) (parameters_for ns m) (parameters_for ds n)) (sym x) (parameters_by ns m n h)

  -- ---- functions

  arguments_itself : (p q : Parameter) → AlikeParameter l p q → (i : Indicated) (w : Value Scalar) (e : Env) → Keeps l e
      → Agree l (with_object p.object i.subtype i.make w never (through l e)) (with_object q.object i.subtype i.make w never e)
  arguments_itself p q h i w e k =
      subst (λ d. Agree l (with_object p.object i.subtype i.make w never (through l e)) (with_object d i.subtype i.make w never e)) (sym h.object)
      (denoting_agrees l numbers (through l e) e p.object _ (itself l numbers e k))

  arguments_agree : (ps qs : List Parameter) → AllZip (AlikeParameter l) ps qs → (as' : List Argument) (e e' : Env) → Agree l e e' → AgreeAfter l (with_arguments ps as' e) (with_arguments qs as' e')
  arguments_agree [] [] h [] e e' a = a
  arguments_agree [] [] h (x ∷ as') e e' a = refl
  arguments_agree (p ∷ ps) (q ∷ qs) h [] e e' a = refl
  arguments_agree (p ∷ ps) (q ∷ qs) h (x ∷ as') e e' a =
      subst (λ f. AgreeAfter l (with_arguments (p ∷ ps) (x ∷ as') f) (with_arguments (q ∷ qs) (x ∷ as') e')) a.same
      (after_equal l numbers (p.indicated (through l e')) (q.indicated e') _ _ (h.0.indicated e' a.keeps) (λ i. after_same l numbers (x (Ok i.subtype)) _ _ (λ v. after_same l numbers (got (fit i.subtype v)) _ _ (λ w.
      arguments_agree ps qs h.1 as' _ _ (arguments_itself p q h.0 i w e' a.keeps)))))
  arguments_agree _ _ h as' e e' a = absurd h

  returned_same : (R : Command → Command → Type 0) (x x' : End) → AlikeEnds l R x x' → returned x' ≡ returned x
  returned_same R (Ends e) (Ends e') h = refl
  returned_same R (Suspends e p b) (Suspends e' q b') h = refl
  returned_same R (Leaves e (Exit k)) (Leaves e' j) h = ap (λ j. returned (Leaves e' j)) h.1
  returned_same R (Leaves e (Next k)) (Leaves e' j) h = ap (λ j. returned (Leaves e' j)) h.1
  returned_same R (Leaves e (Return v)) (Leaves e' j) h = ap (λ j. returned (Leaves e' j)) h.1
  returned_same R (Stops s) (Stops t) h = ap (λ s. returned (Stops s)) h
  returned_same R _ _ h = absurd h

  body_same : (f f' : Got Env) (c c' : Command) → AgreeAfter l f f' → AlikeCommands l c c' → (f' >>= λ e. returned (run c' e).end) ≡ (f >>= λ e. returned (run c e).end)
  body_same (Ok e) (Ok e') c c' a h = returned_same _ _ _ (h 1 e e' a).end
  body_same (Ok e) (Err s) c c' a h = absurd a
  body_same (Err s) (Ok e') c c' a h = absurd a
  body_same (Err s) (Err t) c c' a h = ap (λ s. Err s) a

  -- a function gives the same for all arguments
  pub functions_same : (ps qs : List Parameter) → AllZip (AlikeParameter l) ps qs → (s : Subtype) (c c' : Command) → AlikeCommands l c c' → (e : Env) → Keeps l e
      → called qs s c' e ≡ called ps s c (through l e)
  functions_same ps qs ph s c c' h e k = λ i as'.
      body_same (with_arguments ps as' (record (inside (through l e)) { result = s })) (with_arguments qs as' (record (inside e) { result = s })) c c'
      (arguments_agree ps qs ph as' _ _ (record { same = refl; keeps = k })) h i

  function_agrees : (n : ℕ) (f f' : Function) (e : Env) → Keeps l e → f' ≡ f → Agree l (with_function n f (through l e)) (with_function (l.number n) f' e)
  function_agrees n f f' e k same =
      subst (λ g. Agree l (with_function n f (through l e)) (with_function (l.number n) g e)) (sym same) (denoting_agrees l numbers (through l e) e n _ (itself l numbers e k))

  -- a body in an environment, and under the old numbers
  pub body_alike : (b c : Body) → AlikeBody l b c → (e : Env) → Keeps l e → called c.parameters (c.result e) c.statements e ≡ called b.parameters (b.result (through l e)) b.statements (through l e)
  body_alike b c h e k =
      (λ i. called c.parameters (h.result e k i) c.statements e) ∙ functions_same b.parameters c.parameters h.parameters (b.result (through l e)) b.statements c.statements h.statements e k

  pub function_alike : (b c : Body) → AlikeBody l b c → AlikeCommands l (new_function b) (new_function c)
  function_alike b c h =
      acting_alike l numbers _ _ (λ e k.
      subst (λ n. AgreeAfter l (Ok (with_function b.function (called b.parameters (b.result (through l e)) b.statements (through l e)) (through l e))) (Ok (with_function n (called c.parameters (c.result e) c.statements e) e))) (sym h.function)
      (function_agrees b.function (called b.parameters (b.result (through l e)) b.statements (through l e)) (called c.parameters (c.result e) c.statements e) e k (body_alike b c h e k)))
