-- Associations and instances with other numbers.
use Rattle.std.proofs.Common.{◌≡◌, ℕ, suc, Bool, true, false, List, [], ◌∷◌, ◌++◌, length, Option, Some, None, map, refl, sym, ap, ◌∙◌, subst}
use Rattle.std.specs.Prelude.{◌+◌, ◌||◌, ◌&&◌, not, is_some, if◌then◌else◌, Ok, Err}
use Rattle.std.specs.List.{AllZip, list_all}
use Rattle.vd_kernel.specs.Correspondence.{BothOrNone}
use Rattle.vd_kernel.specs.declared.assignments.Delay.TheVariants.{Inertial}
use Rattle.vd_values.specs.declared.scalar.Scalar.{Scalar}
use Rattle.vd_trees.specs.declared.paths.Scope.{Scope}
use Rattle.vd_composites.specs.Stops.{◌>>=◌}
use Rattle.vd_composites.specs.Composites.{Value, leaves}
use Rattle.vd_composites.specs.Subtypes.{fit, default_of}
use Rattle.vd_environments.specs.Got.{Got, got}
use Rattle.vd_environments.specs.Environments.{ScalarSignal, Signals, is_static, no_subtype, no_make, unknown, Env, Indicated}
use Rattle.vd_meaning.specs.Facets.{Meaning, Objects, at_once}
use Rattle.vd_meaning.specs.Building.{Made, Built, Failing, Limited, evaluated, looking, inside_instance, counted, layout_of, size_of_object, first_of_object, is_among, Start, plain_start, seen_in, signals_of, scalar_objects, State}
use Rattle.vd_meaning.specs.NodeFacets.{View, Ports, Actual, Instance, Hierarchy}
use Rattle.vd_meaning.specs.Instances.{Port, port_indicated, tied_starts, port_sources, ties, tied_port, open_port, open_starts, is_signal, is_implicit, implicit_name, target_named, implicit_process, added, with_implicit}
use Rattle.vd_meaning.specs.Hierarchies.{EntityText, ArchitectureText, is_named, takes_default, with_default, needed, default_put, put_value, put, put_all, put_generics, generic_actual, port_actual, implicit_subtype, if_implicit, for_names, for_implicit, count_implicit, make_implicit, implicit_scalars, port_scalars, Associating, with_signal_actual, with_value_actual, with_implicit_actual, associated, all_associated, leaving, entity_elaborated}
use Rattle.vd_meaning_laws.specs.Agreement.{Link, IsApart, Agree, number_in}
use Rattle.vd_meaning_laws.specs.Renumbering.{AlikeName, AlikeValues, AlikeObjects, AlikeMeaning, AlikeProcess}
use Rattle.vd_meaning_laws.proofs.Agreeing.{at}
use Rattle.vd_meaning_laws.proofs.Nodes.{at_once_alike}
use Rattle.vd_meaning_laws.proofs.Doing.{driving_alike, after_after}
use Rattle.vd_meaning_laws.specs.ElaborationAgreement.{view_under, AlikePorts, AlikeGenerics, AlikeActual, AlikeInstance, AlikeMade, AlikeState, AlikeBuilt, AlikeStates, AlikeHierarchy, AlikeElaborating}
use Rattle.vd_meaning_laws.proofs.Built.{built_then, evaluated_then, counted_alike, looking_alike, more_signals, signals_same, object_alike, process_alike}
use Rattle.vd_meaning_laws.proofs.Interfaces.{actual_alike, value_agreed, constant_agrees, indicated_same, port_in, SamePorts, generics_alike, ports_alike}

module _ (l : Link) (numbers : IsApart l) where
  abbrev AlikeOption : Option Actual → Option Actual → Type 0
  AlikeOption x y = BothOrNone (AlikeActual l) x y

  -- ---- ports

  starts_same : (m m' : Made) → m'.signals ≡ m.signals → (p : Port) (ns : List ScalarSignal) → tied_starts m' p.modes p.initial ns ≡ tied_starts m p.modes p.initial ns
  starts_same m m' h p ns = λ i. tied_starts (record m { signals = h i }) p.modes p.initial ns

  sources_same : (m m' : Made) → m'.signals ≡ m.signals → (p : Port) (ns : List ScalarSignal)
      → port_sources (length m'.signals) p.modes ns ≡ port_sources (length m.signals) p.modes ns
  sources_same m m' h p ns = λ i. port_sources (length (h i)) p.modes ns

  tied_alike : (inner : Scope) (p : Port) (ns : List ScalarSignal) (s t : State) → AlikeState l s t → AlikeState l (tied_port inner p ns s) (tied_port inner (port_in l numbers p) ns t)
  tied_alike inner p ns s t h =
      let o = subst (λ x. AlikeState l (Rattle.vd_meaning.specs.Building.with_object inner p.number p.name p.indicated (tied_starts s.made p.modes p.initial ns) s) (Rattle.vd_meaning.specs.Building.with_object inner (l.number p.number) p.name p.indicated x t))
      (sym (starts_same s.made t.made h.made.signals p ns)) (object_alike l numbers inner p.number p.name p.indicated (tied_starts s.made p.modes p.initial ns) s t h) in
      record {
        env = o.env;
        made = record {
          signals = o.made.signals;
          counted = o.made.counted;
          sources = λ i. o.made.sources i ++ sources_same s.made t.made h.made.signals p ns i;
          driven = o.made.driven;
          processes = o.made.processes;
        };
      }

  open_alike : (inner : Scope) (p : Port) (xs : List Scalar) (s t : State) → AlikeState l s t → AlikeState l (open_port inner p xs s) (open_port inner (port_in l numbers p) xs t)
  open_alike inner p xs s t h = object_alike l numbers inner p.number p.name p.indicated (open_starts p.modes xs) s t h

  -- ---- actuals

  pub signal_same : (e e' : Env) → Agree l e e' → (a b : Actual) → AlikeActual l a b → is_signal e' b ≡ is_signal e a
  signal_same e e' g a b h = at l numbers a.meaning.name.is_whole b.meaning.name.is_whole h.meaning.name.is_whole e e' g

  static_same : (e e' : Env) → Agree l e e' → (a b : Actual) → AlikeActual l a b → is_static (b.meaning.known e') ≡ is_static (a.meaning.known e)
  static_same e e' g a b h = λ i. is_static (at l numbers a.meaning.known b.meaning.known h.meaning.known e e' g i)

  pub implicit_same : (e e' : Env) → Agree l e e' → (x y : Option Actual) → AlikeOption x y → is_implicit e' y ≡ is_implicit e x
  implicit_same e e' g None None h = refl
  implicit_same e e' g (Some a) (Some b) h = λ i. not (signal_same e e' g a b h i) && not (static_same e e' g a b h i)
  implicit_same e e' g _ _ h = absurd h

  signals_of_actual : (e e' : Env) → Agree l e e' → (p : Port) (a b : Actual) → AlikeActual l a b
      → (b.meaning.name.signals e' >>= λ signals. ties (port_in l numbers p) (b.meaning.name.subtype e') signals >>= λ x. Ok signals)
      ≡ (a.meaning.name.signals e >>= λ signals. ties p (a.meaning.name.subtype e) signals >>= λ x. Ok signals)
  signals_of_actual e e' g p a b h =
      λ i. at l numbers a.meaning.name.signals b.meaning.name.signals h.meaning.name.signals e e' g i >>= λ signals.
      ties p (at l numbers a.meaning.name.subtype b.meaning.name.subtype h.meaning.name.subtype e e' g i) signals >>= λ x. Ok signals

  signal_actual : (outer inner : Scope) (e e' : Env) → Agree l e e' → (p : Port) (a b : Actual) → AlikeActual l a b → (s t : State) → AlikeState l s t
      → AlikeStates l (with_signal_actual outer inner e p a s) (with_signal_actual outer inner e' (port_in l numbers p) b t)
  signal_actual outer inner e e' g p a b h s t k =
      evaluated_then (AlikeState l) outer _ _ _ _ (signals_of_actual e e' g p a b h) (λ signals. tied_alike inner p (leaves signals) s t k)

  value_actual : (outer inner : Scope) (e e' : Env) → Agree l e e' → (p : Port) (a b : Actual) → AlikeActual l a b → (s t : State) → AlikeState l s t
      → AlikeStates l (with_value_actual outer inner e p a s) (with_value_actual outer inner e' (port_in l numbers p) b t)
  value_actual outer inner e e' g p a b h s t k =
      evaluated_then (AlikeState l) outer _ _ _ _ (λ i. value_agreed l numbers a.meaning b.meaning h.meaning (Ok p.indicated.subtype) e e' g i >>= λ v. got (fit p.indicated.subtype v) >>= first_of_object p.indicated)
      (λ v. open_alike inner p (leaves v) s t k)

  pub record AlikeAssociating (x y : Associating) : Type 0 where
    pub state : AlikeState l x.state y.state
    pub next : y.next ≡ x.next

  if_alike : (b c : Bool) (x y x' y' : Built Associating) → c ≡ b → AlikeBuilt AlikeAssociating x x' → AlikeBuilt AlikeAssociating y y' → AlikeBuilt AlikeAssociating (if b then x else y) (if c then x' else y')
  if_alike true c x y x' y' e h k = subst (λ c. AlikeBuilt AlikeAssociating x (if c then x' else y')) (sym e) h
  if_alike false c x y x' y' e h k = subst (λ c. AlikeBuilt AlikeAssociating y (if c then x' else y')) (sym e) k

  put_back : (n n' : ℕ) → n' ≡ n → (x y : Built State) → AlikeStates l x y
      → AlikeBuilt AlikeAssociating (x >>= λ s. Ok (record { state = s; next = n })) (y >>= λ s. Ok (record { state = s; next = n' }))
  put_back n n' e x y h = built_then (AlikeState l) AlikeAssociating x y _ _ h (λ s t k. record { state = k; next = e })

  scalars_same : (p : Port) (m m' : Made) → m'.signals ≡ m.signals → port_scalars (port_in l numbers p) m' ≡ port_scalars p m
  scalars_same p m m' h = λ i. leaves (signals_same l numbers p.indicated m m' h (map plain_start p.initial) i)

  implicit_scalars_same : (p : Port) (s t : Associating) → AlikeAssociating s t → implicit_scalars t.next (port_scalars (port_in l numbers p) t.state.made) ≡ implicit_scalars s.next (port_scalars p s.state.made)
  implicit_scalars_same p s t k = λ i. implicit_scalars (k.next i) (scalars_same p s.state.made t.state.made k.state.made.signals i)

  implicit_actual : (outer inner : Scope) (p : Port) (s t : Associating) → AlikeAssociating s t
      → AlikeBuilt AlikeAssociating (with_implicit_actual outer inner p s) (with_implicit_actual outer inner (port_in l numbers p) t)
  implicit_actual outer inner p s t k =
      if_alike (list_all (is_among s.state.made.signals) (implicit_scalars s.next (port_scalars p s.state.made)))
      (list_all (is_among t.state.made.signals) (implicit_scalars t.next (port_scalars (port_in l numbers p) t.state.made))) _ _ _ _
      (λ i. list_all (is_among (k.state.made.signals i)) (implicit_scalars_same p s t k i))
      (record {
        state = subst (λ ns. AlikeState l (tied_port inner p (implicit_scalars s.next (port_scalars p s.state.made)) s.state) (tied_port inner (port_in l numbers p) ns t.state))
            (sym (implicit_scalars_same p s t k))
            (tied_alike inner p (implicit_scalars s.next (port_scalars p s.state.made)) s.state t.state k.state);
        next = λ i. k.next i + length p.initial;
      })
      refl

  one_alike : (outer inner : Scope) (e e' : Env) → Agree l e e' → (p : Port) (x y : Option Actual) → AlikeOption x y → (s t : Associating) → AlikeAssociating s t
      → AlikeBuilt AlikeAssociating (associated outer inner e p x s) (associated outer inner e' (port_in l numbers p) y t)
  one_alike outer inner e e' g p None None h s t k = record { state = open_alike inner p p.initial s.state t.state k.state; next = k.next }
  one_alike outer inner e e' g p (Some a) (Some b) h s t k =
      if_alike (is_signal e a) (is_signal e' b) _ _ _ _ (signal_same e e' g a b h)
      (put_back s.next t.next k.next _ _ (signal_actual outer inner e e' g p a b h s.state t.state k.state))
      (if_alike (is_implicit e (Some a)) (is_implicit e' (Some b)) _ _ _ _ (implicit_same e e' g (Some a) (Some b) h)
      (implicit_actual outer inner p s t k)
      (put_back s.next t.next k.next _ _ (value_actual outer inner e e' g p a b h s.state t.state k.state)))
  one_alike outer inner e e' g p _ _ h s t k = absurd h

  pub all_alike : (outer inner : Scope) (e e' : Env) → Agree l e e' → (x y : Instance) → AlikeInstance l x y → (k : ℕ) (ps : List Port) (s t : Associating) → AlikeAssociating s t
      → AlikeBuilt AlikeAssociating (all_associated outer inner e x k ps s) (all_associated outer inner e' y k (map (port_in l numbers) ps) t)
  all_alike outer inner e e' g x y h k [] s t j = j
  all_alike outer inner e e' g x y h k (p ∷ ps) s t j =
      built_then AlikeAssociating AlikeAssociating (associated outer inner (looking s.state.made e) p (port_actual x k p.number) s) _ _ _
      (one_alike outer inner _ _ (looking_alike l numbers s.state.made t.state.made e e' j.state.made.signals g) p (port_actual x k p.number) (port_actual y k (l.number p.number)) (actual_alike l numbers k p.number x.ports y.ports h.ports) s t j)
      (all_alike outer inner e e' g x y h (suc k) ps)

  -- ---- implicit signals

  named_same : (d : ℕ) (ns : List ℕ) → is_named (l.number d) (map l.number ns) ≡ is_named d ns
  named_same d [] = refl
  named_same d (n ∷ ns) = λ i. numbers.same n d i || named_same d ns i

  default_put_same : (x y : Option (Got Rattle.vd_composites.specs.Subtypes.Subtype → Env → Got (Value Scalar))) → BothOrNone (AlikeValues l) x y → (f f' : Env) → Agree l f f' → default_put y f' ≡ default_put x f
  default_put_same None None h f f' b = refl
  default_put_same (Some x) (Some y) h f f' b = at l numbers (x unknown) (y unknown) (h unknown) f f' b
  default_put_same _ _ h f f' b = absurd h

  put_value_same : (e e' f f' : Env) → Agree l e e' → Agree l f f' → (o p : Objects) → AlikeObjects l o p → (x y : Option Actual) → AlikeOption x y → put_value e' f' p y ≡ put_value e f o x
  put_value_same e e' f f' g b o p z (Some x) (Some y) h = value_agreed l numbers x.meaning y.meaning h.meaning unknown e e' g
  put_value_same e e' f f' g b o p z None None h = default_put_same o.default p.default z.default f f' b
  put_value_same e e' f f' g b o p z _ _ h = absurd h

  -- environments that agree, or the same stop
  abbrev AgreeGot : Got Env → Got Env → Type 0
  AgreeGot x y = Rattle.vd_meaning_laws.specs.Agreement.AgreeAfter l x y

  got_then : {A : Type 0} (g g' : Got A) (f f' : A → Got Env) → g' ≡ g → ((x : A) → AgreeGot (f x) (f' x)) → AgreeGot (g >>= f) (g' >>= f')
  got_then (Ok x) g' f f' e same = subst (λ r. AgreeGot (f x) (r >>= f')) (sym e) (same x)
  got_then (Err s) g' f f' e same = subst (λ r. AgreeGot (Err s) (r >>= f')) (sym e) refl

  if_agree : (b c : Bool) (x y x' y' : Got Env) → c ≡ b → AgreeGot x x' → AgreeGot y y' → AgreeGot (if b then x else y) (if c then x' else y')
  if_agree true c x y x' y' e h k = subst (λ c. AgreeGot x (if c then x' else y')) (sym e) h
  if_agree false c x y x' y' e h k = subst (λ c. AgreeGot y (if c then x' else y')) (sym e) k

  module _ (e e' : Env) (g : Agree l e e') (named : List ℕ) (actual actual' : ℕ → ℕ → Option Actual) (same : (k d : ℕ) → AlikeOption (actual k d) (actual' k (l.number d))) where
    put_alike : (d : ℕ) (o p : Objects) → AlikeObjects l o p → (x y : Option Actual) → AlikeOption x y → (f f' : Env) → Agree l f f'
        → AgreeGot (put e named d o x f) (put e' (map l.number named) (l.number d) p y f')
    put_alike d o p z x y h f f' b =
        if_agree (is_named d named) (is_named (l.number d) (map l.number named)) _ _ _ _ (named_same d named)
        (got_then (put_value e f o x) (put_value e' f' p y) _ _ (put_value_same e e' f f' g b o p z x y h) (λ v.
        constant_agrees l numbers d (record { subtype = no_subtype; make = no_make }) v f f' b))
        b

    put_all_alike : (o p : Objects) → AlikeObjects l o p → (k : ℕ) (ds : List ℕ) (f f' : Env) → Agree l f f'
        → AgreeGot (put_all e named actual o k ds f) (put_all e' (map l.number named) actual' p k (map l.number ds) f')
    put_all_alike o p z k [] f f' b = b
    put_all_alike o p z k (d ∷ ds) f f' b =
        after_after l numbers _ _ _ _ (put_alike d o p z (actual k d) (actual' k (l.number d)) (same k d) f f' b) (λ x y c. put_all_alike o p z (suc k) ds x y c)

    mapped_length : (ds : List ℕ) → length (map l.number ds) ≡ length ds
    mapped_length [] = refl
    mapped_length (d ∷ ds) = ap suc (mapped_length ds)

    abbrev put_from : Env → List ℕ → (ℕ → ℕ → Option Actual) → ℕ → Objects → List ℕ → List Objects → Env → Got Env
    put_from e named actual k o ds os f = put_all e named actual o k ds f >>= put_generics e named actual (k + length ds) os

    put_generics_alike : (k : ℕ) (os ps : List Objects) → AllZip (AlikeObjects l) os ps → (f f' : Env) → Agree l f f'
        → AgreeGot (put_generics e named actual k os f) (put_generics e' (map l.number named) actual' k ps f')
    put_generics_alike k [] [] z f f' b = b
    put_generics_alike k (o ∷ os) (p ∷ ps) z f f' b =
        subst (λ ds. AgreeGot (put_from e named actual k o o.numbers os f) (put_from e' (map l.number named) actual' k p ds ps f')) (sym z.0.numbers)
        (after_after l numbers _ _ _ _ (put_all_alike o p z.0 k o.numbers f f' b) (λ x y c.
        subst (λ n. AgreeGot (put_generics e named actual (k + length o.numbers) os x) (put_generics e' (map l.number named) actual' (k + n) ps y)) (sym (mapped_length o.numbers))
        (put_generics_alike (k + length o.numbers) os ps z.1 x y c)))
    put_generics_alike k _ _ z f f' b = absurd z

  -- which generics are needed

  some_actual : (x y : Option Actual) → AlikeOption x y → is_some y ≡ is_some x
  some_actual None None h = refl
  some_actual (Some a) (Some b) h = refl
  some_actual _ _ h = absurd h

  module _ (actual actual' : ℕ → ℕ → Option Actual) (same : (k d : ℕ) → AlikeOption (actual k d) (actual' k (l.number d))) where
    takes_same : (named : List ℕ) (k : ℕ) (ds : List ℕ) → takes_default (map l.number named) actual' k (map l.number ds) ≡ takes_default named actual k ds
    takes_same named k [] = refl
    takes_same named k (d ∷ ds) =
        λ i. (named_same d named i && not (some_actual (actual k d) (actual' k (l.number d)) (same k d) i)) || takes_same named (suc k) ds i

    joined_numbers : (ms ns : List ℕ) → map l.number (ms ++ ns) ≡ map l.number ms ++ map l.number ns
    joined_numbers [] ns = refl
    joined_numbers (m ∷ ms) ns = λ i. l.number m ∷ joined_numbers ms ns i

    either_names : (b : Bool) (names named : List ℕ) → (if b then map l.number names ++ map l.number named else map l.number named) ≡ map l.number (if b then names ++ named else named)
    either_names true names named = sym (joined_numbers names named)
    either_names false names named = refl

    with_default_same : (k : ℕ) (o p : Objects) → AlikeObjects l o p → (names named : List ℕ)
        → with_default actual' k p (map l.number names) (map l.number named) ≡ map l.number (with_default actual k o names named)
    with_default_same k o p z names named =
        (λ i. if ((λ j. takes_default (map l.number named) actual' k (z.numbers j)) ∙ takes_same named k o.numbers) i then map l.number names ++ map l.number named else map l.number named)
        ∙ either_names (takes_default named actual k o.numbers) names named

    counted_numbers : (ds : List ℕ) → length (map l.number ds) ≡ length ds
    counted_numbers [] = refl
    counted_numbers (d ∷ ds) = ap suc (counted_numbers ds)

    needed_same : (k : ℕ) (os ps : List Objects) → AllZip (AlikeObjects l) os ps → (names : List (List ℕ)) (named : List ℕ)
        → needed actual' k ps (map (map l.number) names) (map l.number named) ≡ map l.number (needed actual k os names named)
    needed_same k [] [] z names named = refl
    needed_same k (o ∷ os) (p ∷ ps) z [] named = refl
    needed_same k (o ∷ os) (p ∷ ps) z (x ∷ rest) named =
        (λ i. with_default actual' k p (map l.number x) (needed actual' (k + ((λ j. length (z.0.numbers j)) ∙ counted_numbers o.numbers) i) ps (map (map l.number) rest) (map l.number named)))
        ∙ (λ i. with_default actual' k p (map l.number x) (needed_same (k + length o.numbers) os ps z.1 rest named i))
        ∙ with_default_same k o p z.0 x (needed actual (k + length o.numbers) os rest named)
    needed_same k _ _ z names named = absurd z

  pub record AlikeEntity (a b : EntityText) : Type 0 where
    pub generics : AlikeGenerics l a.generics b.generics
    pub ports : AllZip (AlikePorts l) a.ports b.ports

  indicated_then : (g g' : Got Env) → AgreeGot g g' → (f f' : Env → Got Indicated) → ((e e' : Env) → Agree l e e' → f' e' ≡ f e) → (g' >>= f') ≡ (g >>= f)
  indicated_then (Ok e) (Ok e') h f f' same = same e e' h
  indicated_then (Err s) (Err t) h f f' same = ap (λ s. Err s) h
  indicated_then (Ok e) (Err t) h f f' same = absurd h
  indicated_then (Err s) (Ok e') h f f' same = absurd h

  actuals_same : (x y : Instance) → AlikeInstance l x y → (k d : ℕ) → AlikeOption (generic_actual x k d) (generic_actual y k (l.number d))
  actuals_same x y h k d = actual_alike l numbers k d x.generics y.generics h.generics

  abbrev wanted : EntityText → Instance → List ℕ → List ℕ
  wanted a x named = needed (generic_actual x) 0 a.generics.objects a.generics.defaults named

  wanted_same : (a b : EntityText) → AlikeEntity a b → (x y : Instance) → AlikeInstance l x y → (named named' : List ℕ) → named' ≡ map l.number named → wanted b y named' ≡ map l.number (wanted a x named)
  wanted_same a b z x y h named named' w =
      (λ i. needed (generic_actual y) 0 b.generics.objects (z.generics.defaults i) (w i))
      ∙ needed_same (generic_actual x) (generic_actual y) (actuals_same x y h) 0 a.generics.objects b.generics.objects z.generics.objects a.generics.defaults named

  subtype_same : (views : List View) (a b : EntityText) → AlikeEntity a b → (x y : Instance) → AlikeInstance l x y → (p q : Ports) → AlikePorts l p q → (e e' : Env) → Agree l e e'
      → implicit_subtype (map (view_under l) views) b y q e' ≡ implicit_subtype views a x p e
  subtype_same views a b z x y h p q w e e' g =
      (λ i. put_generics e' (wanted_same a b z x y h p.named q.named w.named i) (generic_actual y) 0 b.generics.objects e' >>= port_indicated (map (view_under l) views) q)
      ∙ indicated_then _ _
      (put_generics_alike e e' g (wanted a x p.named) (generic_actual x) (generic_actual y) (actuals_same x y h) 0 a.generics.objects b.generics.objects z.generics.objects e e' g)
      (port_indicated views p) (port_indicated (map (view_under l) views) q) (indicated_same l numbers views p q w)

  -- ---- what is done for each port of an instance, by two calls that are alike

  if_states : (b c : Bool) (x y x' y' : Built State) → c ≡ b → AlikeStates l x x' → AlikeStates l y y' → AlikeStates l (if b then x else y) (if c then x' else y')
  if_states true c x y x' y' e h k = subst (λ c. AlikeStates l x (if c then x' else y')) (sym e) h
  if_states false c x y x' y' e h k = subst (λ c. AlikeStates l y (if c then x' else y')) (sym e) k

  module _ (go go' : Ports → List ℕ → Actual → State → Built State)
      (steps : (p q : Ports) → AlikePorts l p q → (name : List ℕ) (a b : Actual) → AlikeActual l a b → (s t : State) → AlikeState l s t → AlikeStates l (go p name a s) (go' q name b t))
      (x y : Instance) (h : AlikeInstance l x y) where
    one_implicit : (p q : Ports) → AlikePorts l p q → (name : List ℕ) (a b : Option Actual) → AlikeOption a b → (s t : State) → AlikeState l s t → AlikeStates l (if_implicit go p name a s) (if_implicit go' q name b t)
    one_implicit p q w name None None k s t j = j
    one_implicit p q w name (Some a) (Some b) k s t j =
        if_states (is_implicit s.env (Some a)) (is_implicit t.env (Some b)) _ _ _ _ (implicit_same s.env t.env j.env (Some a) (Some b) k) (steps p q w name a b k s t j) j
    one_implicit p q w name _ _ k s t j = absurd k

    names_alike : (p q : Ports) → AlikePorts l p q → (k : ℕ) (ds : List ℕ) (names : List (List ℕ)) (s t : State) → AlikeState l s t
        → AlikeStates l (for_names go x p k ds names s) (for_names go' y q k (map l.number ds) names t)
    names_alike p q w k [] [] s t j = j
    names_alike p q w k [] (name ∷ names) s t j = j
    names_alike p q w k (d ∷ ds) [] s t j = j
    names_alike p q w k (d ∷ ds) (name ∷ names) s t j =
        built_then (AlikeState l) (AlikeState l) _ _ _ _ (one_implicit p q w name (port_actual x k d) (port_actual y k (l.number d)) (actual_alike l numbers k d x.ports y.ports h.ports) s t j) (names_alike p q w (suc k) ds names)

    mapped_count : (ds : List ℕ) → length (map l.number ds) ≡ length ds
    mapped_count [] = refl
    mapped_count (d ∷ ds) = ap suc (mapped_count ds)

    abbrev implicit_from : (Ports → List ℕ → Actual → State → Built State) → Instance → ℕ → Ports → List ℕ → List (List ℕ) → List Ports → State → Built State
    implicit_from go x k p ds names ps s = for_names go x p k ds names s >>= for_implicit go x (k + length ds) ps

    pub implicit_alike : (k : ℕ) (ps qs : List Ports) → AllZip (AlikePorts l) ps qs → (s t : State) → AlikeState l s t → AlikeStates l (for_implicit go x k ps s) (for_implicit go' y k qs t)
    implicit_alike k [] [] z s t j = j
    implicit_alike k (p ∷ ps) (q ∷ qs) z s t j =
        subst (λ r. AlikeStates l (implicit_from go x k p p.objects.numbers p.names ps s) r)
        (λ i. implicit_from go' y k q (sym z.0.objects.numbers i) (sym z.0.names i) qs t)
        (built_then (AlikeState l) (AlikeState l) _ _ _ _ (names_alike p q z.0 k p.objects.numbers p.names s t j) (λ u v i.
        subst (λ n. AlikeStates l (for_implicit go x (k + length p.objects.numbers) ps u) (for_implicit go' y (k + n) qs v)) (sym (mapped_count p.objects.numbers))
        (implicit_alike (k + length p.objects.numbers) ps qs z.1 u v i)))
    implicit_alike k _ _ z s t j = absurd z

  -- their processes

  target_alike : (i : Indicated) (signals : Signals) → AlikeName l (target_named i signals) (target_named i signals)
  target_alike i signals =
      record {
        value = λ e k. refl;
        place = λ e k. refl;
        signals = λ e k. refl;
        range = tt;
        shape = λ e k. refl;
        subtype = λ e k. refl;
        make = λ e k. refl;
        is_object = refl;
        local_slices = λ e k. refl;
        is_mark = refl;
        mark = refl;
        callee = refl;
        known = λ e k. refl;
        prefix = tt;
        is_whole = λ e k. refl;
        inner = λ e k. refl;
      }

  process_same : (i : Indicated) (signals : Signals) (m n : Meaning) → AlikeMeaning l m n → AlikeProcess l (implicit_process i signals m) (implicit_process i signals n)
  process_same i signals m n h =
      record {
        declarations = tt;
        settling = λ e e' a. a;
        statements = driving_alike l numbers (target_named i signals) (target_named i signals) (target_alike i signals) Inertial (at_once m.value) (at_once n.value) (at_once_alike l numbers m.value n.value h.value);
        sensitivity = h.reads;
        targets = λ e k. refl;
      }

  added_alike : (scope : Scope) (name : List ℕ) (i : Indicated) (starts : List Start) (s t : State) → AlikeState l s t → AlikeState l (added scope name i starts s) (added scope name i starts t)
  added_alike scope name i starts s t h =
      let made = more_signals l numbers s.made t.made h.made (scalar_objects scope name (leaves (layout_of i)) starts) in
      record { env = looking_alike l numbers (added scope name i starts s).made (added scope name i starts t).made s.env t.env made.signals h.env; made = made }

  with_implicit_alike : (scope : Scope) (name : List ℕ) (i : Indicated) (m n : Meaning) → AlikeMeaning l m n → (s t : State) → AlikeState l s t
      → AlikeStates l (with_implicit scope name i m s) (with_implicit scope name i n t)
  with_implicit_alike scope name i m n h s t k =
      let starts = map plain_start (leaves (default_of i.subtype)) in
      subst (λ signals. AlikeStates l (with_implicit scope name i m s) (Rattle.vd_meaning.specs.Building.with_process scope (implicit_process i signals n) (added scope name i starts t)))
      (sym (signals_same l numbers i s.made t.made k.made.signals starts))
      (process_alike l numbers scope (implicit_process i (signals_of i s.made starts) m) (implicit_process i (signals_of i s.made starts) n) (process_same i (signals_of i s.made starts) m n h) _ _ (added_alike scope name i starts s t k))

  -- ---- instances

  module _ (views : List View) (scope : Scope) (c d : EntityText) (z : AlikeEntity c d) (x y : Instance) (h : AlikeInstance l x y) where
    pub count_alike : (p q : Ports) → AlikePorts l p q → (name : List ℕ) (a b : Actual) → AlikeActual l a b → (s t : State) → AlikeState l s t
        → AlikeStates l (count_implicit views scope c x p name a s) (count_implicit (map (view_under l) views) scope d y q name b t)
    count_alike p q w name a b k s t j =
        evaluated_then (AlikeState l) scope _ _ _ _ (subtype_same views c d z x y h p q w s.env t.env j.env) (λ i.
        built_then (AlikeMade l) (AlikeState l) (counted (size_of_object i) s.made) (counted (size_of_object i) t.made) _ _ (counted_alike l numbers (size_of_object i) s.made t.made j.made) (λ m n g. record { env = j.env; made = g }))

    pub make_alike : (p q : Ports) → AlikePorts l p q → (name : List ℕ) (a b : Actual) → AlikeActual l a b → (s t : State) → AlikeState l s t
        → AlikeStates l (make_implicit views scope c x p name a s) (make_implicit (map (view_under l) views) scope d y q name b t)
    make_alike p q w name a b k s t j =
        evaluated_then (AlikeState l) scope _ _ _ _ (subtype_same views c d z x y h p q w s.env t.env j.env) (λ i.
        evaluated_then (AlikeState l) scope (first_of_object i (default_of i.subtype)) (first_of_object i (default_of i.subtype)) _ _ refl (λ v.
        subst (λ label. AlikeStates l (with_implicit scope (implicit_name x.label name) i a.meaning s) (with_implicit scope (implicit_name label name) i b.meaning t)) (sym h.label)
        (with_implicit_alike scope (implicit_name x.label name) i a.meaning b.meaning k.meaning s t j)))

  leaving_alike : (e e' : Env) → Agree l e e' → (s t : State) → AlikeState l s t → AlikeState l (leaving e s) (leaving e' t)
  leaving_alike e e' g s t h = record { env = looking_alike l numbers s.made t.made e e' h.made.signals g; made = h.made }

  pub left_alike : (e e' : Env) → Agree l e e' → (x y : Built State) → AlikeStates l x y → AlikeStates l (x >>= λ u. Ok (leaving e u)) (y >>= λ u. Ok (leaving e' u))
  left_alike e e' g x y h = built_then (AlikeState l) (AlikeState l) x y _ _ h (λ u v k. leaving_alike e e' g u v k)

  pub record AlikeArchitecture (a b : ArchitectureText) : Type 0 where
    pub name : b.name ≡ a.name
    pub region : AlikeElaborating l a.region b.region

  module _ (views : List View) (h h' : Hierarchy) (hs : AlikeHierarchy l h h') (outer inner : Scope) (c d : EntityText) (z : AlikeEntity c d) (a b : ArchitectureText) (as' : AlikeArchitecture a b) (x y : Instance) (xs : AlikeInstance l x y) where
    pub entity_alike : (n n' : ℕ) → n' ≡ n → (s t : State) → AlikeState l s t
        → AlikeStates l (entity_elaborated views h outer inner c a x n s) (entity_elaborated (map (view_under l) views) h' outer inner d b y n' t)
    entity_alike n n' e s t k =
        built_then (Agree l) (AlikeState l) _ _ _ _ (generics_alike l numbers outer inner s.env t.env k.env (generic_actual x) (generic_actual y) (λ k n. actual_alike l numbers k n x.generics y.generics xs.generics) 0 c.generics.objects d.generics.objects z.generics.objects s.env t.env k.env) (λ f f' g.
        built_then (SamePorts l numbers) (AlikeState l) _ _ _ _ (ports_alike l numbers views inner f f' g c.ports d.ports z.ports s.made t.made k.made) (λ ps qs j.
        built_then AlikeAssociating (AlikeState l)
        (all_associated outer inner s.env x 0 ps.it (record { state = record { env = f; made = record s.made { counted = ps.next } }; next = n })) (all_associated outer inner t.env y 0 qs.it (record { state = record { env = f'; made = record t.made { counted = qs.next } }; next = n' })) _ _
        (subst (λ q. AlikeBuilt AlikeAssociating (all_associated outer inner s.env x 0 ps.it (record { state = record { env = f; made = record s.made { counted = ps.next } }; next = n })) (all_associated outer inner t.env y 0 q (record { state = record { env = f'; made = record t.made { counted = qs.next } }; next = n' }))) (sym j.0)
        (all_alike outer inner s.env t.env k.env x y xs 0 ps.it _ _ (record {
          state = record { env = g; made = record { signals = k.made.signals; counted = j.1; sources = k.made.sources; driven = k.made.driven; processes = k.made.processes } };
          next = e;
        })))
        (λ u v i. left_alike s.env t.env k.env (a.region h inner u.state) (b.region h' inner v.state) (as'.region h h' hs inner u.state v.state i.state))))
