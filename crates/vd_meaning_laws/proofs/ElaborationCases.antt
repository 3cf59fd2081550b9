-- The congruence for elaboration: a node of any kind comes to the same with other numbers, where its parts do.
use Rattle.std.proofs.Common.{◌≡◌, ℕ, zero, suc, Bool, true, false, List, [], ◌∷◌, ◌++◌, Option, Some, None, map, refl, sym, ap, ◌∙◌, subst}
use Rattle.std.specs.Prelude.{if◌then◌else◌, Ok, Err}
use Rattle.std.specs.List.{AllZip}
use Rattle.vd_values.specs.declared.scalar.Scalar.{Scalar}
use Rattle.vd_trees.specs.declared.paths.Scope.{Scope}
use Rattle.vd_trees.specs.declared.paths.Label.{Label}
use Rattle.vd_resolved.specs.declared.node.Resolved.{Resolved}
use Rattle.vd_composites.specs.Stops.{◌>>=◌}
use Rattle.vd_composites.specs.Composites.{Value}
use Rattle.vd_composites.specs.Subtypes.{fit, default_of}
use Rattle.vd_environments.specs.Got.{Got, got}
use Rattle.vd_environments.specs.Environments.{never, Env, Indicated, or_senseless, literals_of}
use Rattle.vd_meaning.specs.Names.{number_or}
use Rattle.vd_meaning.specs.Facets.{Meaning, no_meaning, Association, Positional, ByChoices, ForOthers, ByEquality, value_of}
use Rattle.vd_meaning.specs.Brackets.{or_else}
use Rattle.vd_meaning.specs.Statements.{truth_of, values_of_range}
use Rattle.vd_meaning.specs.Declarations.{initial_value, new_objects}
use Rattle.vd_meaning.specs.Meanings.{made}
use Rattle.vd_meaning.specs.Building.{Mode, Made, Built, evaluated, inside_generate, counted, size_of_object, first_of_object, State, with_signal, with_processes}
use Rattle.vd_meaning.specs.NodeFacets.{ElementMode, ByView, Elaborating, nothing_to_do, one_after_other, PlainPackage, GenericPackage, Unit', EntityUnit, ArchitectureUnit, PackageUnit, Part, of_meaning, nth, from, last_of, gathered}
use Rattle.vd_meaning.specs.Hierarchies.{label_of}
use Rattle.vd_meaning.specs.Parts
use Rattle.vd_meaning_laws.specs.Agreement.{Link, IsApart, through, Agree, Alike, AgreeAfter, number_in}
use Rattle.vd_meaning_laws.specs.Renumbering.{AlikeMeaning, AlikeObjects, renumbered}
use Rattle.vd_meaning_laws.proofs.Agreeing.{at}
use Rattle.vd_meaning_laws.proofs.Parts.{none_alike}
use Rattle.vd_meaning_laws.proofs.Doing.{truths_alike, values_alike as values_of_alike}
use Rattle.vd_meaning_laws.proofs.Elaborating.{ended}
use Rattle.vd_meaning_laws.proofs.Nodes.{made_number, or_first, either_same, list_same}
use Rattle.vd_meaning_laws.proofs.Declaring.{objects_alike}
use Rattle.vd_meaning_laws.proofs.Facing.{with_text, with_covers}
use Rattle.vd_meaning_laws.specs.ElaborationAgreement.{element_mode_in, element_in, view_under, AlikePorts, AlikeActual, AlikeInstance, AlikeState, AlikeStates, AlikeElaborating, AlikeUnit, AlikePart}
use Rattle.vd_meaning_laws.proofs.Built.{built_then, evaluated_then, counted_alike, signal_alike, processes_alike}
use Rattle.vd_meaning_laws.proofs.Interfaces.{constant_agrees, value_agreed}
use Rattle.vd_meaning_laws.proofs.Associating.{left_alike}
use Rattle.vd_meaning_laws.proofs.ElaborationFacing as Facing

module _ (l : Link) (numbers : IsApart l) where
  abbrev PartsAlike : List Part → List Part → Type 0
  PartsAlike ps qs = AllZip (AlikePart l) ps qs

  nothing_alike : AlikeElaborating l nothing_to_do nothing_to_do
  nothing_alike h k hs scope s t a = a

  pub meaning_alike : (m n : Meaning) → AlikeMeaning l m n → AlikePart l (of_meaning m) (of_meaning n)
  meaning_alike m n h =
      record {
        meaning = h;
        named = refl;
        formal = refl;
        mode = refl;
        elements = refl;
        views = refl;
        ports = tt;
        defaults = refl;
        actuals = tt;
        declaring = nothing_alike;
        region = nothing_alike;
        ahead = λ label. nothing_alike;
        elaborating = λ label. nothing_alike;
        otherwise = λ label f g h. h;
        cases = λ label s s' a. nothing_alike;
        units = tt;
      }

  pub nth_alike : (k : ℕ) (ps qs : List Part) → PartsAlike ps qs → AlikePart l (nth k ps) (nth k qs)
  nth_alike k [] [] h = meaning_alike no_meaning no_meaning (none_alike l numbers)
  nth_alike zero (p ∷ ps) (q ∷ qs) h = h.0
  nth_alike (suc k) (p ∷ ps) (q ∷ qs) h = nth_alike k ps qs h.1
  nth_alike k _ _ h = absurd h

  from_alike : (k : ℕ) (ps qs : List Part) → PartsAlike ps qs → PartsAlike (from k ps) (from k qs)
  from_alike zero ps qs h = h
  from_alike (suc k) [] [] h = tt
  from_alike (suc k) (p ∷ ps) (q ∷ qs) h = from_alike k ps qs h.1
  from_alike (suc k) _ _ h = absurd h

  last_alike : (ps qs : List Part) → PartsAlike ps qs → AlikePart l (last_of ps) (last_of qs)
  last_alike [] [] h = meaning_alike no_meaning no_meaning (none_alike l numbers)
  last_alike (p ∷ []) (q ∷ []) h = h.0
  last_alike (p ∷ p' ∷ ps) (q ∷ q' ∷ qs) h = last_alike (p' ∷ ps) (q' ∷ qs) h.1
  last_alike (p ∷ []) (q ∷ q' ∷ qs) h = absurd h.1
  last_alike (p ∷ p' ∷ ps) (q ∷ []) h = absurd h.1
  last_alike _ _ h = absurd h

  -- ---- what is gathered

  joined_map : {A : Type 0} (f : A → A) (xs ys : List A) → map f (xs ++ ys) ≡ map f xs ++ map f ys
  joined_map f [] ys = refl
  joined_map f (x ∷ xs) ys = λ i. f x ∷ joined_map f xs ys i

  gathered_same : {A : Type 0} (f : A → A) (g : Part → List A) → ((p q : Part) → AlikePart l p q → g q ≡ map f (g p)) → (ps qs : List Part) → PartsAlike ps qs → gathered g qs ≡ map f (gathered g ps)
  gathered_same f g same [] [] h = refl
  gathered_same f g same (p ∷ ps) (q ∷ qs) h = (λ i. same p q h.0 i ++ gathered_same f g same ps qs h.1 i) ∙ sym (joined_map f (g p) (gathered g ps))
  gathered_same f g same _ _ h = absurd h

  joined_zip : {A : Type 0} (R : A → A → Type 0) (xs ys us vs : List A) → AllZip R xs ys → AllZip R us vs → AllZip R (xs ++ us) (ys ++ vs)
  joined_zip R [] [] us vs h k = k
  joined_zip R (x ∷ xs) (y ∷ ys) us vs h k = (h.0, joined_zip R xs ys us vs h.1 k)
  joined_zip R _ _ us vs h k = absurd h

  pub gathered_units : (ps qs : List Part) → PartsAlike ps qs → AllZip (AlikeUnit l) (gathered (λ p. p.units) ps) (gathered (λ p. p.units) qs)
  gathered_units [] [] h = tt
  gathered_units (p ∷ ps) (q ∷ qs) h = joined_zip (AlikeUnit l) p.units q.units _ _ h.0.units (gathered_units ps qs h.1)
  gathered_units _ _ h = absurd h

  gathered_ports : (ps qs : List Part) → PartsAlike ps qs → AllZip (AlikePorts l) (gathered (λ p. p.ports) ps) (gathered (λ p. p.ports) qs)
  gathered_ports [] [] h = tt
  gathered_ports (p ∷ ps) (q ∷ qs) h = joined_zip (AlikePorts l) p.ports q.ports _ _ h.0.ports (gathered_ports ps qs h.1)
  gathered_ports _ _ h = absurd h

  pub gathered_views : (ps qs : List Part) → PartsAlike ps qs → gathered (λ p. p.views) qs ≡ map (view_under l) (gathered (λ p. p.views) ps)
  gathered_views ps qs h = gathered_same (view_under l) (λ p. p.views) (λ p q k. k.views) ps qs h

  gathering_alike : (m n : Meaning) → AlikeMeaning l m n → (ps qs : List Part) → PartsAlike ps qs → AlikePart l (Parts.gathering m ps) (Parts.gathering n qs)
  gathering_alike m n k ps qs h =
      record {
        meaning = k;
        named = gathered_same l.number (λ p. p.named) (λ p q k. k.named) ps qs h;
        formal = refl;
        mode = refl;
        elements = gathered_same (element_in l) (λ p. p.elements) (λ p q k. k.elements) ps qs h;
        views = gathered_views ps qs h;
        ports = gathered_ports ps qs h;
        defaults = gathered_same (map l.number) (λ p. p.defaults) (λ p q k. k.defaults) ps qs h;
        actuals = tt;
        declaring = nothing_alike;
        region = nothing_alike;
        ahead = λ label. nothing_alike;
        elaborating = λ label. nothing_alike;
        otherwise = λ label f g h. h;
        cases = λ label s s' a. nothing_alike;
        units = gathered_units ps qs h;
      }

  formal_same : (a b : Association) → b ≡ a → (x y : Option ℕ) → y ≡ number_in l x → Parts.formal_in b y ≡ number_in l (Parts.formal_in a x)
  formal_same Positional b e x y k = λ i. Parts.formal_in (e i) y
  formal_same ByChoices b e x y k = (λ i. Parts.formal_in (e i) y) ∙ k
  formal_same ForOthers b e x y k = λ i. Parts.formal_in (e i) y

  actuals_alike : (ps qs : List Part) → PartsAlike ps qs
      → AllZip (AlikeActual l) (map (λ p. record { formal = Parts.formal_in p.meaning.association p.formal; meaning = p.meaning }) ps) (map (λ p. record { formal = Parts.formal_in p.meaning.association p.formal; meaning = p.meaning }) qs)
  actuals_alike [] [] h = tt
  actuals_alike (p ∷ ps) (q ∷ qs) h =
      (record { formal = formal_same p.meaning.association q.meaning.association h.0.meaning.association p.formal q.formal h.0.formal; meaning = h.0.meaning }, actuals_alike ps qs h.1)
  actuals_alike _ _ h = absurd h

  elements_same : (names : List (List ℕ)) (x : ElementMode) → Parts.element_parts names (element_mode_in l x) ≡ map (element_in l) (Parts.element_parts names x)
  elements_same [] x = refl
  elements_same (name ∷ names) x = λ i. record { name = name; mode = element_mode_in l x } ∷ elements_same names x i

  -- ---- what is done one after the other

  after_alike : (fs gs : List Elaborating) → AllZip (AlikeElaborating l) fs gs → AlikeElaborating l (one_after_other fs) (one_after_other gs)
  after_alike [] [] k h h' hs scope s t a = a
  after_alike (f ∷ fs) (g ∷ gs) k h h' hs scope s t a =
      built_then (AlikeState l) (AlikeState l) (f h scope s) (g h' scope t) _ _ (k.0 h h' hs scope s t a) (after_alike fs gs k.1 h h' hs scope)
  after_alike _ _ k h h' hs scope s t a = absurd k

  mapped : (f : Part → Elaborating) → ((p q : Part) → AlikePart l p q → AlikeElaborating l (f p) (f q)) → (ps qs : List Part) → PartsAlike ps qs → AllZip (AlikeElaborating l) (map f ps) (map f qs)
  mapped f same [] [] h = tt
  mapped f same (p ∷ ps) (q ∷ qs) h = (same p q h.0, mapped f same ps qs h.1)
  mapped f same _ _ h = absurd h

  region_alike : (ps qs us vs : List Part) → PartsAlike ps qs → PartsAlike us vs → AlikeElaborating l (Parts.region_of ps us) (Parts.region_of qs vs)
  region_alike ps qs us vs j k h h' hs scope s t a =
      built_then (AlikeState l) (AlikeState l) _ _ _ _ (after_alike _ _ (mapped (λ p. p.declaring) (λ p q x. x.declaring) ps qs j) h h' hs scope s t a) (λ x y b.
      built_then (AlikeState l) (AlikeState l) _ _ _ _ (after_alike _ _ (mapped (λ p. p.ahead []) (λ p q x. x.ahead []) us vs k) h h' hs scope x y b)
      (after_alike _ _ (mapped (λ p. p.elaborating []) (λ p q x. x.elaborating []) us vs k) h h' hs scope))

  -- ---- declarations

  got_env : (scope : Scope) (g g' : Got Env) → AgreeAfter l g g' → (s t : State) → AlikeState l s t
      → AlikeStates l (evaluated scope g >>= λ e. Ok (Parts.with_environment s e)) (evaluated scope g' >>= λ e. Ok (Parts.with_environment t e))
  got_env scope (Ok e) (Ok e') h s t a = record { env = h; made = a.made }
  got_env scope (Err x) (Err y) h s t a = λ i. Rattle.vd_meaning.specs.Building.Stopped (h i) scope
  got_env scope (Ok e) (Err y) h s t a = absurd h
  got_env scope (Err x) (Ok e') h s t a = absurd h

  commanded_alike : (m n : Meaning) → AlikeMeaning l m n → AlikeElaborating l (Parts.commanded m) (Parts.commanded n)
  commanded_alike m n k h h' hs scope s t a = got_env scope _ _ (ended l numbers _ _ (k.command None 1 s.env t.env a.env).end) s t a

  initial_same : (m n : Meaning) → AlikeMeaning l m n → (i : Indicated) (e e' : Env) → Agree l e e' → initial_value n i e' ≡ initial_value m i e
  initial_same m n h i e e' a = λ k. if h.is_present k then (value_agreed l numbers m n h (Ok i.subtype) e e' a k >>= λ v. got (fit i.subtype v)) else Ok (default_of i.subtype)

  signal_alike' : (m n m' n' : Meaning) → AlikeMeaning l m n → AlikeMeaning l m' n' → (d : ℕ) (name : List ℕ) → AlikeElaborating l (Parts.new_signal m m' d name) (Parts.new_signal n n' (l.number d) name)
  signal_alike' m n m' n' j k d name h h' hs scope s t a =
      evaluated_then (AlikeState l) scope _ _ _ _ (at l numbers m.indicated n.indicated j.indicated s.env t.env a.env) (λ i.
      built_then _ (AlikeState l) (counted (size_of_object i) s.made) (counted (size_of_object i) t.made) _ _ (counted_alike l numbers (size_of_object i) s.made t.made a.made) (λ x y b.
      evaluated_then (AlikeState l) scope _ _ _ _ (λ j. initial_same m' n' k i s.env t.env a.env j >>= first_of_object i) (λ v.
      signal_alike l numbers scope d name i v _ _ (record { env = a.env; made = b }))))

  signals_alike : (m n m' n' : Meaning) → AlikeMeaning l m n → AlikeMeaning l m' n' → (ds : List ℕ) (names : List (List ℕ)) → AlikeElaborating l (Parts.new_signals m m' ds names) (Parts.new_signals n n' (map l.number ds) names)
  signals_alike m n m' n' j k [] [] h h' hs scope s t a = a
  signals_alike m n m' n' j k [] (name ∷ names) h h' hs scope s t a = a
  signals_alike m n m' n' j k (d ∷ ds) [] h h' hs scope s t a = a
  signals_alike m n m' n' j k (d ∷ ds) (name ∷ names) h h' hs scope s t a =
      built_then (AlikeState l) (AlikeState l) _ _ _ _ (signal_alike' m n m' n' j k d name h h' hs scope s t a) (signals_alike m n m' n' j k ds names h h' hs scope)

  -- ---- generates

  generated_alike : (p q : Part) → AlikePart l p q → (label : Label) → AlikeElaborating l (Parts.generated p label) (Parts.generated q label)
  generated_alike p q k label h h' hs scope s t a =
      left_alike l numbers s.env t.env a.env _ _ (k.region h h' hs (inside_generate label scope) s t a)

  if_states : (b : Bool) (x y x' y' : Built State) → AlikeStates l x x' → AlikeStates l y y' → AlikeStates l (if b then x else y) (if b then x' else y')
  if_states true x y x' y' h k = h
  if_states false x y x' y' h k = k

  holds_alike : (m n : Meaning) → AlikeMeaning l m n → (f g f' g' : Elaborating) → AlikeElaborating l f f' → AlikeElaborating l g g' → AlikeElaborating l (Parts.if_holds m f g) (Parts.if_holds n f' g')
  holds_alike m n k f g f' g' x y h h' hs scope s t a =
      evaluated_then (AlikeState l) scope (truth_of m s.env) (truth_of n t.env) _ _ (at l numbers (truth_of m) (truth_of n) (truths_alike l numbers m n k) s.env t.env a.env) (λ b.
      if_states b _ _ _ _ (x h h' hs scope s t a) (y h h' hs scope s t a))

  by_part : (b c : Bool) → c ≡ b → (f g : Elaborating) → AlikeElaborating l f g → AlikeElaborating l (if b then f else nothing_to_do) (if c then g else nothing_to_do)
  by_part true c e f g x = subst (λ c. AlikeElaborating l f (if c then g else nothing_to_do)) (sym e) x
  by_part false c e f g x = subst (λ c. AlikeElaborating l nothing_to_do (if c then g else nothing_to_do)) (sym e) nothing_alike

  there_alike : (p q : Part) → AlikePart l p q → (f g : Elaborating) → AlikeElaborating l f g → AlikeElaborating l (Parts.where_there p f) (Parts.where_there q g)
  there_alike p q k f g x = by_part p.meaning.is_present q.meaning.is_present k.meaning.is_present f g x

  otherwise_alike : (ps qs : List Part) → PartsAlike ps qs → (label : List ℕ) (f g : Elaborating) → AlikeElaborating l f g → AlikeElaborating l (Parts.all_otherwise ps label f) (Parts.all_otherwise qs label g)
  otherwise_alike [] [] h label f g x = x
  otherwise_alike (p ∷ ps) (q ∷ qs) h label f g x = h.0.otherwise label _ _ (otherwise_alike ps qs h.1 label f g x)
  otherwise_alike _ _ h label f g x = absurd h

  covering_alike : (ps qs : List Part) → PartsAlike ps qs → (label : List ℕ) (v v' : Env → Got (Value Scalar)) → Alike l v v' → AlikeElaborating l (Parts.first_covering ps label v) (Parts.first_covering qs label v')
  covering_alike [] [] k label v v' x h h' hs scope s t a = evaluated_then (AlikeState l) scope (v s.env) (v' t.env) _ _ (at l numbers v v' x s.env t.env a.env) (λ y. a)
  covering_alike (p ∷ ps) (q ∷ qs) k label v v' x h h' hs scope s t a =
      evaluated_then (AlikeState l) scope (v s.env >>= λ y. p.meaning.covers ByEquality y s.env) (v' t.env >>= λ y. q.meaning.covers ByEquality y t.env) _ _
      (λ i. at l numbers v v' x s.env t.env a.env i >>= λ y. at l numbers (p.meaning.covers ByEquality y) (q.meaning.covers ByEquality y) (k.0.meaning.covers ByEquality y) s.env t.env a.env i) (λ b.
      if_states b _ _ _ _ (generated_alike p q k.0 (label_of label) h h' hs scope s t a) (covering_alike ps qs k.1 label v v' x h h' hs scope s t a))
  covering_alike _ _ k label v v' x h h' hs scope s t a = absurd k

  values_alike : (p q : Part) → AlikePart l p q → (name : List ℕ) (d : ℕ) (i : Indicated) (vs : List (Value Scalar)) → AlikeElaborating l (Parts.for_values p name d i vs) (Parts.for_values q name (l.number d) i vs)
  values_alike p q k name d i [] h h' hs scope s t a = a
  values_alike p q k name d i (v ∷ vs) h h' hs scope s t a =
      evaluated_then (AlikeState l) scope _ _ _ _ refl (λ label.
      built_then (AlikeState l) (AlikeState l) _ _ _ _
      (generated_alike p q k label h h' hs scope _ _ (record { env = constant_agrees l numbers d i v s.env t.env a.env; made = a.made }))
      (values_alike p q k name d i vs h h' hs scope))

  parameter_by : (x : Option ℕ) (e : Env) → Parts.parameter_type (number_in l x) e ≡ Parts.parameter_type x (through l e)
  parameter_by None e = refl
  parameter_by (Some d) e = refl

  parameter_same : (x y : Option ℕ) → y ≡ number_in l x → (e e' : Env) → Agree l e e' → Parts.parameter_type y e' ≡ Parts.parameter_type x e
  parameter_same x y h e e' a = (λ i. Parts.parameter_type (h i) e') ∙ parameter_by x e' ∙ ap (Parts.parameter_type x) a.same

  for_alike : (p q : Part) → AlikePart l p q → (m n : Meaning) → AlikeMeaning l m n → (name : List ℕ) (d : ℕ) → AlikeElaborating l (Parts.for_generate p m name d) (Parts.for_generate q n name (l.number d))
  for_alike p q k m n j name d h h' hs scope s t a =
      evaluated_then (AlikeState l) scope (values_of_range m s.env) (values_of_range n t.env) _ _ (at l numbers (values_of_range m) (values_of_range n) (values_of_alike l numbers m n j) s.env t.env a.env) (λ vs.
      evaluated_then (AlikeState l) scope (Parts.parameter_type m.mark s.env) (Parts.parameter_type n.mark t.env) _ _ (parameter_same m.mark n.mark j.mark s.env t.env a.env) (λ i.
      left_alike l numbers s.env t.env a.env _ _ (values_alike p q k name d i vs h h' hs scope s t a)))

  -- ---- instances

  text_by : (b : Bool) (x : List ℕ) → (if b then Some x else None) ≡ (if b then Some x else None)
  text_by b x = refl

  present_same : (m n : Meaning) → AlikeMeaning l m n → Parts.present_text n ≡ Parts.present_text m
  present_same m n h = λ i. if h.is_present i then Some (h.text i) else None

  instance_alike : (label : List ℕ) (ps qs : List Part) → PartsAlike ps qs → AlikeInstance l (Parts.instance_with label ps) (Parts.instance_with label qs)
  instance_alike label ps qs h =
      record {
        label = refl;
        entity = (nth_alike 0 ps qs h).meaning.text;
        architecture = present_same _ _ (nth_alike 1 ps qs h).meaning;
        generics = (nth_alike 2 ps qs h).actuals;
        ports = (nth_alike 3 ps qs h).actuals;
      }

  label_alike : (f g : List ℕ → Elaborating) → ((label : List ℕ) → AlikeElaborating l (f label) (g label)) → (x y : List ℕ) → y ≡ x → AlikeElaborating l (f x) (g y)
  label_alike f g h x y e = subst (λ y. AlikeElaborating l (f x) (g y)) (sym e) (h x)

  -- ---- a case for each kind

  unit_zip : (u v : Unit') → AlikeUnit l u v → AllZip (AlikeUnit l) (u ∷ []) (v ∷ [])
  unit_zip u v h = (h, tt)

  sort_same : (b c : Bool) → c ≡ b → (if c then GenericPackage else PlainPackage) ≡ (if b then GenericPackage else PlainPackage)
  sort_same b c e = λ i. if e i then GenericPackage else PlainPackage

  module _ (ps qs : List Part) (h : PartsAlike ps qs) where
    part : (k : ℕ) → AlikePart l (nth k ps) (nth k qs)
    part k = nth_alike k ps qs h

    port_objects : AlikeObjects l (new_objects (nth 1 ps).meaning.numbers (nth 3 ps).meaning (nth 4 ps).meaning) (new_objects (nth 1 qs).meaning.numbers (nth 3 qs).meaning (nth 4 qs).meaning)
    port_objects = objects_alike l numbers _ _ (part 1).meaning.numbers _ _ _ _ (part 3).meaning (part 4).meaning

    mode_by_view : (x y : Option ℕ) (b c : Bool) → y ≡ number_in l x → c ≡ b → ByView y c ≡ ByView (number_in l x) b
    mode_by_view x y b c h k = λ i. ByView (h i) (k i)

    pub part_alike : (k : Parts.Kind) (n : Resolved) (m m' : Meaning) → AlikeMeaning l m m' → AlikePart l (Parts.part_of k n m ps) (Parts.part_of k (renumbered l n) m' qs)
    part_alike Parts.Gathering n m m' a = gathering_alike m m' a ps qs h
    part_alike Parts.Leaf' n m m' a =
        Facing.with_formal l (Facing.with_named l (gathering_alike m m' a ps qs h) _ _ (list_same l numbers n.declaration)) _ _ refl
    part_alike Parts.Formal n m m' a =
        Facing.with_formal l (gathering_alike m m' a ps qs h) _ _ ((λ i. or_else (number_in l n.declaration) ((last_alike ps qs h).formal i)) ∙ either_same l numbers n.declaration (last_of ps).formal)
    part_alike Parts.Choice' n m m' a = Facing.with_formal l (gathering_alike m m' a ps qs h) _ _ (part 0).formal
    part_alike Parts.Inner n m m' a = Facing.with_formal l (gathering_alike m m' a ps qs h) _ _ (part 0).formal
    part_alike Parts.SelectedText n m m' a = gathering_alike _ _ (with_text l a _ _ (last_alike ps qs h).meaning.text) ps qs h
    part_alike Parts.Map n m m' a = Facing.with_actuals l (gathering_alike m m' a ps qs h) _ _ (actuals_alike ps qs h)
    part_alike (Parts.Word mode) n m m' a = Facing.with_mode l (gathering_alike m m' a ps qs h) _ _ refl
    part_alike Parts.ViewWord n m m' a =
        Facing.with_mode l (gathering_alike m m' a ps qs h) _ _ (λ i. ByView ((part 0).meaning.declaration i) ((part 1).meaning.is_present i))
    part_alike Parts.PortList n m m' a = Facing.with_ports l (gathering_alike m m' a ps qs h) _ _
        (record { names = (part 1).meaning.texts; objects = port_objects; has_subtype = refl; named = (part 3).named; mode = (part 2).mode }, tt)
    part_alike Parts.ViewPorts n m m' a = Facing.with_ports l (gathering_alike m m' a ps qs h) _ _ (
      record {
        names = (part 1).meaning.texts;
        objects = record { numbers = (part 1).meaning.numbers; indicated = (part 4).meaning.indicated; default = tt; known = λ e k. refl };
        has_subtype = (part 4).meaning.is_present;
        named = (part 4).named;
        mode = mode_by_view (nth 2 ps).meaning.declaration (nth 2 qs).meaning.declaration (nth 3 ps).meaning.is_present (nth 3 qs).meaning.is_present (part 2).meaning.declaration (part 3).meaning.is_present;
      },
      tt,
    )
    part_alike Parts.GenericList n m m' a = Facing.with_defaults l (gathering_alike m m' a ps qs h) _ _ (λ i. (part 4).named i ∷ [])
    part_alike Parts.ViewPart n m m' a =
        Facing.with_elements l (gathering_alike m m' a ps qs h) _ _
        ((λ i. Parts.element_parts ((part 0).meaning.texts i) ((part 1).mode i)) ∙ elements_same (nth 0 ps).meaning.texts (nth 1 ps).mode)
    part_alike Parts.ViewText n m m' a =
        Facing.with_views l (gathering_alike m m' a ps qs h) _ _
        (λ i. record { view = made_number l numbers n _ _ (part 0).meaning i; mark = (part 1).meaning.declaration i; elements = (part 2).elements i } ∷ [])
    part_alike Parts.Signals' n m m' a =
        Facing.with_declaring l (gathering_alike m m' a ps qs h) _ _
        (subst (λ x. AlikeElaborating l (Parts.new_signals (nth 1 ps).meaning (nth 2 ps).meaning (nth 0 ps).meaning.numbers (nth 0 ps).meaning.texts) (Parts.new_signals (nth 1 qs).meaning (nth 2 qs).meaning x (nth 0 qs).meaning.texts)) (sym (part 0).meaning.numbers)
        (subst (λ x. AlikeElaborating l (Parts.new_signals (nth 1 ps).meaning (nth 2 ps).meaning (nth 0 ps).meaning.numbers (nth 0 ps).meaning.texts) (Parts.new_signals (nth 1 qs).meaning (nth 2 qs).meaning (map l.number (nth 0 ps).meaning.numbers) x)) (sym (part 0).meaning.texts)
        (signals_alike _ _ _ _ (part 1).meaning (part 2).meaning (nth 0 ps).meaning.numbers (nth 0 ps).meaning.texts)))
    part_alike Parts.Declared n m m' a = Facing.with_declaring l (gathering_alike m m' a ps qs h) _ _ (commanded_alike m m' a)
    part_alike Parts.Declarations n m m' a =
        Facing.with_declaring l (gathering_alike m m' a ps qs h) _ _ (after_alike _ _ (mapped (λ p. p.declaring) (λ p q x. x.declaring) ps qs h))
    part_alike Parts.Processes' n m m' a =
        Facing.with_elaborating l (gathering_alike m m' a ps qs h) _ _ (λ label h h' hs scope s t b. processes_alike l numbers scope m.processes m'.processes a.processes s t b)
    part_alike Parts.Labelled n m m' a =
        Facing.with_elaborating l (Facing.with_ahead l (gathering_alike m m' a ps qs h) _ _ (λ label. label_alike (nth 1 ps).ahead (nth 1 qs).ahead (part 1).ahead _ _ (part 0).meaning.text)) _ _
        (λ label. label_alike (nth 1 ps).elaborating (nth 1 qs).elaborating (part 1).elaborating _ _ (part 0).meaning.text)
    part_alike Parts.Instantiation n m m' a =
        Facing.with_elaborating l (Facing.with_ahead l (gathering_alike m m' a ps qs h) _ _ (λ label g g' hs scope s t b. hs.ahead scope _ _ (instance_alike label ps qs h) s t b)) _ _
        (λ label g g' hs scope s t b. hs.instance scope _ _ (instance_alike label ps qs h) s t b)
    part_alike Parts.IfGenerate n m m' a =
        Facing.with_elaborating l (gathering_alike m m' a ps qs h) _ _ (λ label.
        holds_alike _ _ (part 0).meaning _ _ _ _ (generated_alike _ _ (part 1) (label_of label))
        ((part 2).otherwise label _ _ (there_alike _ _ (part 3) _ _ (generated_alike _ _ (part 3) (label_of label)))))
    part_alike Parts.Elsifs n m m' a = Facing.with_otherwise l (gathering_alike m m' a ps qs h) _ _ (otherwise_alike ps qs h)
    part_alike Parts.Elsif n m m' a =
        Facing.with_otherwise l (gathering_alike m m' a ps qs h) _ _ (λ label f g x. holds_alike _ _ (part 0).meaning _ _ _ _ (generated_alike _ _ (part 1) (label_of label)) x)
    part_alike Parts.ForGenerate n m m' a =
        Facing.with_elaborating l (gathering_alike m m' a ps qs h) _ _ (λ label.
        subst (λ d. AlikeElaborating l (Parts.for_generate (nth 2 ps) (nth 1 ps).meaning label (number_or (made n (nth 0 ps).meaning))) (Parts.for_generate (nth 2 qs) (nth 1 qs).meaning label d)) (sym (made_number l numbers n _ _ (part 0).meaning))
        (for_alike _ _ (part 2) _ _ (part 1).meaning label (number_or (made n (nth 0 ps).meaning))))
    part_alike Parts.CaseGenerate n m m' a = Facing.with_elaborating l (gathering_alike m m' a ps qs h) _ _ (λ label.
        (part 1).cases label (value_of (nth 0 ps).meaning) (value_of (nth 0 qs).meaning) ((part 0).meaning.value Rattle.vd_environments.specs.Environments.unknown))
    part_alike Parts.Alternatives n m m' a = Facing.with_cases l (gathering_alike m m' a ps qs h) _ _ (covering_alike ps qs h)
    part_alike Parts.Alternative n m m' a =
        Facing.with_region l (gathering_alike _ _ (with_covers l a _ _ (part 0).meaning.covers) ps qs h) _ _ (part 1).region
    part_alike Parts.Body n m m' a =
        Facing.with_region l (gathering_alike m m' a ps qs h) _ _ (region_alike (nth 0 ps ∷ []) (nth 0 qs ∷ []) (from 1 ps) (from 1 qs) (part 0, tt) (from_alike 1 ps qs h))
    part_alike Parts.Statements n m m' a = Facing.with_region l (gathering_alike m m' a ps qs h) _ _ (region_alike [] [] ps qs tt h)
    part_alike Parts.Entity n m m' a =
        Facing.with_units l (gathering_alike m m' a ps qs h) _ _
        (unit_zip (EntityUnit (nth 0 ps).meaning.text (record { objects = (nth 1 ps).meaning.objects; defaults = (nth 1 ps).defaults }) (nth 2 ps).ports)
        (EntityUnit (nth 0 qs).meaning.text (record { objects = (nth 1 qs).meaning.objects; defaults = (nth 1 qs).defaults }) (nth 2 qs).ports)
        ((part 0).meaning.text, record { objects = (part 1).meaning.objects; defaults = (part 1).defaults }, (part 2).ports))
    part_alike Parts.Architecture n m m' a =
        Facing.with_units l (gathering_alike m m' a ps qs h) _ _
        (unit_zip (ArchitectureUnit (nth 0 ps).meaning.text (nth 1 ps).meaning.text (λ h scope s. (nth 2 ps).declaring h scope s >>= (nth 3 ps).region h scope)) (ArchitectureUnit (nth 0 qs).meaning.text (nth 1 qs).meaning.text (λ h scope s. (nth 2 qs).declaring h scope s >>= (nth 3 qs).region h scope)) (
          (part 0).meaning.text,
          (part 1).meaning.text,
          λ g g' hs scope s t b.
              built_then (AlikeState l) (AlikeState l) _ _ _ _ ((part 2).declaring g g' hs scope s t b) ((part 3).region g g' hs scope),
        ))
    part_alike Parts.Package n m m' a =
        Facing.with_units l (gathering_alike m m' a ps qs h) _ _ (unit_zip (PackageUnit (Parts.package_text n ps)) (PackageUnit (Parts.package_text (renumbered l n) qs)) (record {
          sort = sort_same (nth 1 ps).meaning.is_present (nth 1 qs).meaning.is_present (part 1).meaning.is_present;
          name = (part 0).meaning.text;
          number = made_number l numbers n _ _ (part 0).meaning;
          generics = (part 1).meaning.formals;
          declaring = (part 2).declaring;
          declarations = (part 2).meaning.declarations;
          actuals = λ e k. refl;
          copies = refl;
        }))
    part_alike Parts.PackageBody n m m' a =
        Facing.with_units l (gathering_alike m m' a ps qs h) _ _ (unit_zip (PackageUnit (Parts.package_body_text n ps)) (PackageUnit (Parts.package_body_text (renumbered l n) qs)) (record {
          sort = refl;
          name = (part 0).meaning.text;
          number = made_number l numbers n _ _ (part 0).meaning;
          generics = tt;
          declaring = (part 1).declaring;
          declarations = (part 1).meaning.declarations;
          actuals = λ e k. refl;
          copies = refl;
        }))
    part_alike Parts.PackageInstance n m m' a =
        Facing.with_units l (gathering_alike m m' a ps qs h) _ _ (unit_zip (PackageUnit (Parts.package_instance_text m ps)) (PackageUnit (Parts.package_instance_text m' qs)) (record {
          sort = refl;
          name = (part 0).meaning.text;
          number = (λ i. number_or ((part 1).meaning.declaration i)) ∙ or_first l numbers (nth 1 ps).meaning.declaration;
          generics = tt;
          declaring = nothing_alike;
          declarations = tt;
          actuals = a.actuals;
          copies = a.copies;
        }))
