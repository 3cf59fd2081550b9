-- Views, generics and ports with other numbers.
use Rattle.std.proofs.Common.{◌≡◌, ℕ, zero, suc, Bool, true, false, List, [], ◌∷◌, ◌++◌, length, Option, Some, None, map, refl, sym, ap, ◌∙◌, subst}
use Rattle.std.specs.Prelude.{◌+◌, ◌==◌, bytes_eq, is_some, if◌then◌else◌, Ok, Err}
use Rattle.std.specs.List.{AllZip}
use Rattle.vd_kernel.specs.Correspondence.{BothOrNone}
use Rattle.vd_values.specs.declared.scalar.Scalar.{Scalar}
use Rattle.vd_trees.specs.declared.paths.Scope.{Scope}
use Rattle.vd_composites.specs.Stops.{◌>>=◌}
use Rattle.vd_composites.specs.Composites.{Value, Items, none, item}
use Rattle.vd_composites.specs.Composites.{One, Array, Fields}
use Rattle.vd_composites.specs.Subtypes.{Subtype, fit}
use Rattle.vd_environments.specs.Got.{Got, got, senseless}
use Rattle.vd_environments.specs.Environments.{with_object as with_constant}
use Rattle.vd_environments.specs.Environments.{Make, OfScalar, OfElements, OfFields, Makes, no_makes, and_make, Env, Indicated, or_senseless}
use Rattle.vd_meaning.specs.Tables.{same_type}
use Rattle.vd_meaning.specs.Facets.{Meaning, Objects}
use Rattle.vd_meaning.specs.Layouts.{Leaf, Counted}
use Rattle.vd_meaning.specs.Building.{Mode, Made, Built, evaluated, counted, layout_of, size_of_object, first_of_object}
use Rattle.vd_meaning.specs.NodeFacets.{ElementMode, ByMode, ByView, ViewElement, View, Ports, Actual}
use Rattle.vd_meaning.specs.Instances.{differ, view_in, element_mode, modes_of_fields, modes_of_view, modes_by, port_modes, names_formal, named_actual, nth_actual, or_placed, unless_open, actual_for, generic_value, known_early, with_generic, with_generics_of, with_generics, Port, default_value, marked_by, view_subtype, port_indicated, modes_of_port, some_port, ports_named, ports_of}
use Rattle.vd_meaning_laws.specs.Agreement.{Link, IsApart, through, Agree, number_in}
use Rattle.vd_meaning_laws.specs.Renumbering.{AlikeValues, AlikeMeaning, AlikeObjects}
use Rattle.vd_meaning_laws.proofs.Agreeing.{at, denoting_agrees}
use Rattle.vd_meaning_laws.proofs.Doing.{itself}
use Rattle.vd_meaning_laws.specs.ElaborationAgreement.{element_mode_in, element_in, view_under, AlikePorts, AlikeActual, AlikeMade, AlikeBuilt}
use Rattle.vd_meaning_laws.proofs.Built.{built_then, evaluated_then, counted_alike}

module _ (l : Link) (numbers : IsApart l) where
  type_same : (x y : Option ℕ) → same_type (number_in l x) (number_in l y) ≡ same_type x y
  type_same None y = refl
  type_same (Some m) None = refl
  type_same (Some m) (Some n) = numbers.same m n

  -- ---- views and modes

  abbrev view_option : Option View → Option View
  view_option None = None
  view_option (Some v) = Some (view_under l v)

  either_view : (b : Bool) (v : View) (x : Option View) → (if b then Some (view_under l v) else view_option x) ≡ view_option (if b then Some v else x)
  either_view true v x = refl
  either_view false v x = refl

  view_same : (vs : List View) (d : Option ℕ) → view_in (map (view_under l) vs) (number_in l d) ≡ view_option (view_in vs d)
  view_same [] d = refl
  view_same (v ∷ vs) d =
      (λ i. if type_same (Some v.view) d i then Some (view_under l v) else view_same vs d i) ∙ either_view (same_type (Some v.view) d) v (view_in vs d)

  either_mode : (b : Bool) (x y : ElementMode) → (if b then element_mode_in l x else element_mode_in l y) ≡ element_mode_in l (if b then x else y)
  either_mode true x y = refl
  either_mode false x y = refl

  element_mode_same : (xs : List ViewElement) (name : List ℕ) → element_mode (map (element_in l) xs) name ≡ element_mode_in l (element_mode xs name)
  element_mode_same [] name = refl
  element_mode_same (x ∷ xs) name =
      (λ i. if bytes_eq x.name name then element_mode_in l x.mode else element_mode_same xs name i) ∙ either_mode (bytes_eq x.name name) x.mode (element_mode xs name)

  module _ (go go' : ElementMode → Make → Value Leaf → List Mode) (same : (x : ElementMode) (m : Make) (v : Value Leaf) → go' (element_mode_in l x) m v ≡ go x m v) where
    fields_same : (xs : List ViewElement) (ms : Makes) (vs : Items Leaf) → modes_of_fields go' (map (element_in l) xs) ms vs ≡ modes_of_fields go xs ms vs
    fields_same xs no_makes none = refl
    fields_same xs no_makes (item v vs) = refl
    fields_same xs (and_make name m ms) none = refl
    fields_same xs (and_make name m ms) (item v vs) =
        λ i. ((λ j. go' (element_mode_same xs name j) m v) ∙ same (element_mode xs name) m v) i ++ fields_same xs ms vs i

    of_view_same : (x : Option View) (m : Make) (v : Value Leaf) → modes_of_view go' (view_option x) m v ≡ modes_of_view go x m v
    of_view_same None m v = refl
    of_view_same (Some x) (OfFields fields) (Fields vs) = fields_same x.elements fields vs
    of_view_same (Some x) (OfFields fields) (One y) = refl
    of_view_same (Some x) (OfFields fields) (Array b vs) = refl
    of_view_same (Some x) (OfScalar scalar range) v = refl
    of_view_same (Some x) (OfElements index bounds element) v = refl

  modes_same : (n : ℕ) (views : List View) (c : Bool) (x : ElementMode) (m : Make) (v : Value Leaf)
      → modes_by n (map (view_under l) views) c (element_mode_in l x) m v ≡ modes_by n views c x m v
  modes_same n views c (ByMode mode) m v = refl
  modes_same zero views c (ByView d k) m v = refl
  modes_same (suc n) views c (ByView d k) m v =
      (λ i. modes_of_view (modes_by n (map (view_under l) views) (differ c k)) (view_same views d i) m v)
      ∙ of_view_same (modes_by n views (differ c k)) (modes_by n (map (view_under l) views) (differ c k)) (modes_same n views (differ c k)) (view_in views d) m v

  map_length : (views : List View) → length (map (view_under l) views) ≡ length views
  map_length [] = refl
  map_length (v ∷ vs) = ap suc (map_length vs)

  pub port_modes_same : (views : List View) (x : ElementMode) (i : Indicated) → port_modes (map (view_under l) views) (element_mode_in l x) i ≡ port_modes views x i
  port_modes_same views x i =
      (λ k. modes_by (suc (map_length views k)) (map (view_under l) views) false (element_mode_in l x) i.make (layout_of i)) ∙ modes_same (suc (length views)) views false x i.make (layout_of i)

  -- ---- actuals

  abbrev AlikeOption : Option Actual → Option Actual → Type 0
  AlikeOption x y = BothOrNone (AlikeActual l) x y

  either : (b c : Bool) (x y x' y' : Option Actual) → c ≡ b → AlikeOption x x' → AlikeOption y y' → AlikeOption (if b then x else y) (if c then x' else y')
  either true c x y x' y' e h k = subst (λ c. AlikeOption x (if c then x' else y')) (sym e) h
  either false c x y x' y' e h k = subst (λ c. AlikeOption y (if c then x' else y')) (sym e) k

  named_alike : (d : ℕ) (as' bs : List Actual) → AllZip (AlikeActual l) as' bs → AlikeOption (named_actual d as') (named_actual (l.number d) bs)
  named_alike d [] [] h = tt
  named_alike d (a ∷ as') (b ∷ bs) h =
      either (names_formal d a) (names_formal (l.number d) b) (Some a) (named_actual d as') (Some b) (named_actual (l.number d) bs)
      ((λ i. same_type (h.0.formal i) (Some (l.number d))) ∙ type_same a.formal (Some d)) h.0 (named_alike d as' bs h.1)
  named_alike d _ _ h = absurd h

  some_same : (x : Option ℕ) → is_some (number_in l x) ≡ is_some x
  some_same None = refl
  some_same (Some d) = refl

  placed_alike : (k : ℕ) (as' bs : List Actual) → AllZip (AlikeActual l) as' bs → AlikeOption (nth_actual k as') (nth_actual k bs)
  placed_alike k [] [] h = tt
  placed_alike zero (a ∷ as') (b ∷ bs) h =
      either (is_some a.formal) (is_some b.formal) None (Some a) None (Some b) (ap is_some h.0.formal ∙ some_same a.formal) tt h.0
  placed_alike (suc k) (a ∷ as') (b ∷ bs) h = placed_alike k as' bs h.1
  placed_alike k _ _ h = absurd h

  or_placed_alike : (x y x' y' : Option Actual) → AlikeOption x x' → AlikeOption y y' → AlikeOption (or_placed x y) (or_placed x' y')
  or_placed_alike None y None y' h k = k
  or_placed_alike (Some a) y (Some b) y' h k = h
  or_placed_alike _ y _ y' h k = absurd h

  open_alike : (x y : Option Actual) → AlikeOption x y → AlikeOption (unless_open x) (unless_open y)
  open_alike None None h = tt
  open_alike (Some a) (Some b) h = either a.meaning.is_open b.meaning.is_open None (Some a) None (Some b) h.meaning.is_open tt h
  open_alike _ _ h = absurd h

  pub actual_alike : (k d : ℕ) (as' bs : List Actual) → AllZip (AlikeActual l) as' bs → AlikeOption (actual_for k d as') (actual_for k (l.number d) bs)
  actual_alike k d as' bs h =
      open_alike (or_placed (named_actual d as') (nth_actual k as')) (or_placed (named_actual (l.number d) bs) (nth_actual k bs))
      (or_placed_alike (named_actual d as') (nth_actual k as') (named_actual (l.number d) bs) (nth_actual k bs) (named_alike d as' bs h) (placed_alike k as' bs h))

  -- ---- facets in environments that agree

  pub value_agreed : (m n : Meaning) → AlikeMeaning l m n → (known : Got Subtype) (e e' : Env) → Agree l e e' → n.value known e' ≡ m.value known e
  value_agreed m n h known e e' a = at l numbers (m.value known) (n.value known) (h.value known) e e' a

  -- ---- generics

  abbrev Default : Type 0
  Default = Option (Got Subtype → Env → Got (Value Scalar))

  abbrev SameDefault : Default → Default → Type 0
  SameDefault x y = BothOrNone (AlikeValues l) x y

  generic_same : (outer inner : Scope) (e e' f f' : Env) → Agree l e e' → Agree l f f' → (d d' : Default) → SameDefault d d' → (i : Indicated) (x y : Option Actual)
      → AlikeOption x y → generic_value outer inner e' f' d' i y ≡ generic_value outer inner e f d i x
  generic_same outer inner e e' f f' a b d d' z i (Some x) (Some y) h =
      λ k. evaluated outer (value_agreed x.meaning y.meaning h.meaning (Ok i.subtype) e e' a k >>= λ v. got (fit i.subtype v))
  generic_same outer inner e e' f f' a b (Some d) (Some d') z i None None h =
      λ k. evaluated inner (at l numbers (d (Ok i.subtype)) (d' (Ok i.subtype)) (z (Ok i.subtype)) f f' b k >>= λ v. got (fit i.subtype v))
  generic_same outer inner e e' f f' a b None None z i None None h = refl
  generic_same outer inner e e' f f' a b (Some d) None z i None None h = absurd z
  generic_same outer inner e e' f f' a b None (Some d') z i None None h = absurd z
  generic_same outer inner e e' f f' a b d d' z i _ _ h = absurd h

  agreed_then : (g g' : Built (Value Scalar)) (f f' : Value Scalar → Built Env) → g' ≡ g → ((v : Value Scalar) → AlikeBuilt (Agree l) (f v) (f' v)) → AlikeBuilt (Agree l) (g >>= f) (g' >>= f')
  agreed_then (Ok v) g' f f' e same = subst (λ r. AlikeBuilt (Agree l) (f v) (r >>= f')) (sym e) (same v)
  agreed_then (Err s) g' f f' e same = subst (λ r. AlikeBuilt (Agree l) (Err s) (r >>= f')) (sym e) refl

  pub constant_agrees : (d : ℕ) (i : Indicated) (v : Value Scalar) (f f' : Env) → Agree l f f'
      → Agree l (with_constant d i.subtype i.make v known_early f) (with_constant (l.number d) i.subtype i.make v known_early f')
  constant_agrees d i v f f' b =
      subst (λ x. Agree l (with_constant d i.subtype i.make v known_early x) (with_constant (l.number d) i.subtype i.make v known_early f')) b.same
      (denoting_agrees l numbers (through l f') f' d _ (itself l numbers f' b.keeps))

  generic_alike : (outer inner : Scope) (e e' : Env) → Agree l e e' → (d : ℕ) (o p : Objects) → AlikeObjects l o p → (x y : Option Actual) → AlikeOption x y → (f f' : Env) → Agree l f f'
      → AlikeBuilt (Agree l) (with_generic outer inner e d o x f) (with_generic outer inner e' (l.number d) p y f')
  generic_alike outer inner e e' a d o p z x y h f f' b =
      evaluated_then (Agree l) inner (o.indicated f) (p.indicated f') _ _ (at l numbers o.indicated p.indicated z.indicated f f' b) (λ i.
      agreed_then (generic_value outer inner e f o.default i x) (generic_value outer inner e' f' p.default i y) _ _ (generic_same outer inner e e' f f' a b o.default p.default z.default i x y h) (λ v.
      constant_agrees d i v f f' b))

  module _ (outer inner : Scope) (e e' : Env) (a : Agree l e e') (actual actual' : ℕ → ℕ → Option Actual) (same : (k d : ℕ) → AlikeOption (actual k d) (actual' k (l.number d))) where
    generics_of_alike : (o p : Objects) → AlikeObjects l o p → (k : ℕ) (ds : List ℕ) (f f' : Env) → Agree l f f'
        → AlikeBuilt (Agree l) (with_generics_of outer inner e actual o k ds f) (with_generics_of outer inner e' actual' p k (map l.number ds) f')
    generics_of_alike o p z k [] f f' b = b
    generics_of_alike o p z k (d ∷ ds) f f' b =
        built_then (Agree l) (Agree l) _ _ _ _ (generic_alike outer inner e e' a d o p z (actual k d) (actual' k (l.number d)) (same k d) f f' b) (λ g g' c. generics_of_alike o p z (suc k) ds g g' c)

    count_same : (ds : List ℕ) → length (map l.number ds) ≡ length ds
    count_same [] = refl
    count_same (d ∷ ds) = ap suc (count_same ds)

    abbrev generics_from : Env → (ℕ → ℕ → Option Actual) → ℕ → Objects → List ℕ → List Objects → Env → Built Env
    generics_from e actual k o ds os f = with_generics_of outer inner e actual o k ds f >>= with_generics outer inner e actual (k + length ds) os

    pub generics_alike : (k : ℕ) (os ps : List Objects) → AllZip (AlikeObjects l) os ps → (f f' : Env) → Agree l f f'
        → AlikeBuilt (Agree l) (with_generics outer inner e actual k os f) (with_generics outer inner e' actual' k ps f')
    generics_alike k [] [] z f f' b = b
    generics_alike k (o ∷ os) (p ∷ ps) z f f' b =
        subst (λ ds. AlikeBuilt (Agree l) (generics_from e actual k o o.numbers os f) (generics_from e' actual' k p ds ps f')) (sym z.0.numbers)
        (built_then (Agree l) (Agree l) _ _ _ _ (generics_of_alike o p z.0 k o.numbers f f' b) (λ g g' c.
        subst (λ n. AlikeBuilt (Agree l) (with_generics outer inner e actual (k + length o.numbers) os g) (with_generics outer inner e' actual' (k + n) ps g')) (sym (count_same o.numbers))
        (generics_alike (k + length o.numbers) os ps z.1 g g' c)))
    generics_alike k _ _ z f f' b = absurd z

  -- ---- ports

  abbrev pub port_in : Port → Port
  port_in p = record p { number = l.number p.number }

  abbrev pub SamePort : Counted Port → Counted Port → Type 0
  SamePort x y = (y.it ≡ port_in x.it) × (y.next ≡ x.next)

  abbrev pub SamePorts : Counted (List Port) → Counted (List Port) → Type 0
  SamePorts x y = (y.it ≡ map port_in x.it) × (y.next ≡ x.next)

  default_same : (inner : Scope) (d d' : Default) → SameDefault d d' → (i : Indicated) (f f' : Env) → Agree l f f' → default_value inner f' d' i ≡ default_value inner f d i
  default_same inner None None z i f f' b = refl
  default_same inner (Some d) (Some d') z i f f' b = λ k. evaluated inner (at l numbers (d (Ok i.subtype)) (d' (Ok i.subtype)) (z (Ok i.subtype)) f f' b k >>= λ v. got (fit i.subtype v))
  default_same inner _ _ z i f f' b = absurd z

  abbrev of_mark : Option ℕ → Env → Got Indicated
  of_mark x f = or_senseless x >>= λ d. Ok (record { subtype = (f.denotes d).subtype; make = (f.denotes d).make })

  mark_by : (x : Option ℕ) (f : Env) → of_mark (number_in l x) f ≡ of_mark x (through l f)
  mark_by None f = refl
  mark_by (Some d) f = refl

  marked_same : (x : Option View) (f : Env) → marked_by (view_option x) f ≡ marked_by x (through l f)
  marked_same None f = refl
  marked_same (Some v) f = mark_by v.mark f

  view_subtype_same : (views : List View) (m : ElementMode) (f : Env) → view_subtype (map (view_under l) views) (element_mode_in l m) f ≡ view_subtype views m (through l f)
  view_subtype_same views (ByMode m) f = refl
  view_subtype_same views (ByView d k) f = (λ i. marked_by (view_same views d i) f) ∙ marked_same (view_in views d) f

  view_subtype_agreed : (views : List View) (m m' : ElementMode) → m' ≡ element_mode_in l m → (f f' : Env) → Agree l f f' → view_subtype (map (view_under l) views) m' f' ≡ view_subtype views m f
  view_subtype_agreed views m m' h f f' b = (λ i. view_subtype (map (view_under l) views) (h i) f') ∙ view_subtype_same views m f' ∙ ap (view_subtype views m) b.same

  pub indicated_same : (views : List View) (p q : Ports) → AlikePorts l p q → (f f' : Env) → Agree l f f' → port_indicated (map (view_under l) views) q f' ≡ port_indicated views p f
  indicated_same views p q h f f' b =
      λ i. if h.has_subtype i then at l numbers p.objects.indicated q.objects.indicated h.objects.indicated f f' b i else view_subtype_agreed views p.mode q.mode h.mode f f' b i

  value_then : {A C D : Type 0} (S : C → D → Type 0) (g g' : Built A) (f : A → Built C) (f' : A → Built D) → g' ≡ g → ((x : A) → AlikeBuilt S (f x) (f' x)) → AlikeBuilt S (g >>= f) (g' >>= f')
  value_then S (Ok v) g' f f' e same = subst (λ r. AlikeBuilt S (f v) (r >>= f')) (sym e) (same v)
  value_then S (Err s) g' f f' e same = subst (λ r. AlikeBuilt S (Err s >>= f) (r >>= f')) (sym e) refl

  module _ (views : List View) (inner : Scope) (f f' : Env) (b : Agree l f f') where
    modes_of_port_same : (views : List View) (x : ElementMode) (i : Indicated) → modes_of_port (map (view_under l) views) (element_mode_in l x) i ≡ modes_of_port views x i
    modes_of_port_same views x i = λ j. if length (port_modes_same views x i j) == size_of_object i then Ok (port_modes_same views x i j) else senseless

    one_port : (p q : Ports) → AlikePorts l p q → (d : ℕ) (name : List ℕ) (m m' : Made) → AlikeMade l m m'
        → AlikeBuilt SamePort (some_port views inner f p d name m) (some_port (map (view_under l) views) inner f' q (l.number d) name m')
    one_port p q z d name m m' h =
        evaluated_then SamePort inner (port_indicated views p f) (port_indicated (map (view_under l) views) q f') _ _ (indicated_same views p q z f f' b) (λ i.
        built_then (AlikeMade l) SamePort (counted (size_of_object i) m) (counted (size_of_object i) m') _ _ (counted_alike l numbers (size_of_object i) m m' h) (λ n n' k.
        value_then SamePort (default_value inner f p.objects.default i) (default_value inner f' q.objects.default i) _ _ (default_same inner p.objects.default q.objects.default z.objects.default i f f' b) (λ v.
        evaluated_then SamePort inner (first_of_object i v) (first_of_object i v) _ _ refl (λ w.
        evaluated_then SamePort inner (modes_of_port views p.mode i) (modes_of_port (map (view_under l) views) q.mode i) _ _
        ((λ j. modes_of_port (map (view_under l) views) (z.mode j) i) ∙ modes_of_port_same views p.mode i) (λ modes. (refl, k.counted))))))

    with_count : (m m' : Made) → AlikeMade l m m' → (n n' : ℕ) → n' ≡ n → AlikeMade l (record m { counted = n }) (record m' { counted = n' })
    with_count m m' h n n' e = record { signals = h.signals; counted = e; sources = h.sources; driven = h.driven; processes = h.processes }

    named_ports : (p q : Ports) → AlikePorts l p q → (ds : List ℕ) (names : List (List ℕ)) (m m' : Made) → AlikeMade l m m'
        → AlikeBuilt SamePorts (ports_named views inner f p ds names m) (ports_named (map (view_under l) views) inner f' q (map l.number ds) names m')
    named_ports p q z [] [] m m' h = (refl, h.counted)
    named_ports p q z [] (name ∷ names) m m' h = (refl, h.counted)
    named_ports p q z (d ∷ ds) [] m m' h = (refl, h.counted)
    named_ports p q z (d ∷ ds) (name ∷ names) m m' h =
        built_then SamePort SamePorts (some_port views inner f p d name m) _ _ _ (one_port p q z d name m m' h) (λ x y k.
        built_then SamePorts SamePorts (ports_named views inner f p ds names (record m { counted = x.next })) _ _ _ (named_ports p q z ds names _ _ (with_count m m' h x.next y.next k.1)) (λ xs ys j.
        ((λ i. k.0 i ∷ j.0 i), j.1)))

    own_ports : (p q : Ports) → AlikePorts l p q → (m m' : Made) → AlikeMade l m m'
        → AlikeBuilt SamePorts (ports_named views inner f p p.objects.numbers p.names m) (ports_named (map (view_under l) views) inner f' q q.objects.numbers q.names m')
    own_ports p q z m m' h =
        subst (λ ds. AlikeBuilt SamePorts (ports_named views inner f p p.objects.numbers p.names m) (ports_named (map (view_under l) views) inner f' q ds q.names m')) (sym z.objects.numbers)
        (subst (λ names. AlikeBuilt SamePorts (ports_named views inner f p p.objects.numbers p.names m) (ports_named (map (view_under l) views) inner f' q (map l.number p.objects.numbers) names m')) (sym z.names)
        (named_ports p q z p.objects.numbers p.names m m' h))

    joined_ports : (xs ys : List Port) → map port_in (xs ++ ys) ≡ map port_in xs ++ map port_in ys
    joined_ports [] ys = refl
    joined_ports (x ∷ xs) ys = λ i. port_in x ∷ joined_ports xs ys i

    pub ports_alike : (ps qs : List Ports) → AllZip (AlikePorts l) ps qs → (m m' : Made) → AlikeMade l m m'
        → AlikeBuilt SamePorts (ports_of views inner f ps m) (ports_of (map (view_under l) views) inner f' qs m')
    ports_alike [] [] z m m' h = (refl, h.counted)
    ports_alike (p ∷ ps) (q ∷ qs) z m m' h =
        built_then SamePorts SamePorts (ports_named views inner f p p.objects.numbers p.names m) _ _ _ (own_ports p q z.0 m m' h) (λ x y k.
        built_then SamePorts SamePorts (ports_of views inner f ps (record m { counted = x.next })) _ _ _ (ports_alike ps qs z.1 _ _ (with_count m m' h x.next y.next k.1)) (λ xs ys j.
        ((λ i. k.0 i ++ j.0 i) ∙ sym (joined_ports x.it xs.it), j.1)))
    ports_alike _ _ z m m' h = absurd z
