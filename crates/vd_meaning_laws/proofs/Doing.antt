-- What statements do with other numbers.
use Rattle.std.proofs.Common.{◌≡◌, ℕ, Bool, true, false, List, [], ◌∷◌, Option, Some, None, refl, sym, ap, ◌∙◌, subst}
use Rattle.std.specs.Prelude.{◌==◌, if◌then◌else◌, Ok, Err, codes}
use Rattle.std.specs.List.{AllZip}
use Rattle.vd_values.specs.declared.scalar.Scalar.{Scalar}
use Rattle.vd_values.specs.declared.scalar.StopKind.TheVariants.{Failure}
use Rattle.vd_trees.specs.declared.traces.Report.{Report}
use Rattle.vd_kernel.specs.declared.assignments.Assignment.{Assignment}
use Rattle.vd_kernel.specs.declared.assignments.Delay.{Delay}
use Rattle.vd_composites.specs.declared.ranges.Bounds.{Bounds}
use Rattle.vd_composites.specs.Stops.{◌>>=◌}
use Rattle.vd_composites.specs.Composites.{Value, leaves}
use Rattle.vd_composites.specs.Parts.{changed}
use Rattle.vd_composites.specs.Subtypes.{Subtype, fit}
use Rattle.vd_environments.specs.Got.{Halt, Got, got}
use Rattle.vd_environments.specs.Environments.{Signals, Env, Place, unknown, or_senseless}
use Rattle.vd_environments.specs.Commands.{Pause, Jump, Return, Command, Skip, End, Ends, Suspends, Leaves, Stops, run, acting}
use Rattle.vd_environments.specs.Processes.{numbers_of, declared_by, settled_by}
use Rattle.vd_meaning.specs.Tables.{Table, sort_of}
use Rattle.vd_meaning.specs.Operators.{truth_in, literal_of}
use Rattle.vd_meaning.specs.Names.{Named, scalar_type}
use Rattle.vd_meaning.specs.Facets.{Meaning, Waveform, Comparison, ByEquality, ByMatching}
use Rattle.vd_meaning.specs.Statements.{truth_of, put, setting, effect_of, sending, assigned_to, driving, giving, text_in, report_of, reporting, text_or, severity_or, report, assertion, is_chosen, is_in_range, any_chosen, range_values, covers_by, any_covers, alternatives, holds_dash, comparison, comparison_by, selecting, timeout_of, condition_of, waited_for, waiting_for, values_of_range, time_in, due}
use Rattle.vd_meaning_laws.specs.Agreement.{Link, IsApart, through, Keeps, Agree, Alike, number_in, jump_in, AgreeAfter, AlikeEffect, AlikePauses, AlikeEnds, AlikeUpTo, AlikeCommands}
use Rattle.vd_meaning_laws.specs.Renumbering.{SameTable, AlikeOption, AlikeName, AlikeWaveform, AlikeMeaning, AlikeSettling, place_in}
use Rattle.vd_meaning_laws.proofs.Agreeing.{at, value_agrees, skips_alike, acts_alike, sequences_alike, choices_alike, waits_alike, jumps_alike}
use Rattle.vd_meaning_laws.proofs.Stepping.{type_same}

module _ (l : Link) (numbers : IsApart l) where
  -- ---- conditions

  pub truths_alike : (m n : Meaning) → AlikeMeaning l m n → Alike l (truth_of m) (truth_of n)
  truths_alike m n h e k = λ i. h.value unknown e k i >>= truth_in

  -- ---- what changes environments

  pub itself : (e : Env) → Keeps l e → Agree l (through l e) e
  itself e k = record { same = refl; keeps = k }

  pub acting_alike : (f g : Env → Got Env) → ((e : Env) → Keeps l e → AgreeAfter l (f (through l e)) (g e)) → AlikeCommands l (acting f) (acting g)
  acting_alike f g h =
      acts_alike l numbers _ _ (λ e e' a. record { assignments = refl; reports = refl; after = subst (λ x. AgreeAfter l (f x) (g e')) a.same (h e' a.keeps) })

  -- what a declaration declares for names
  declared_by_agrees : (x x' : End) → AlikeEnds l (AlikeUpTo l 0) x x' → (e e' : Env) → Agree l e e' → Agree l (declared_by x e) (declared_by x' e')
  declared_by_agrees (Ends f) (Ends f') h e e' a = h
  declared_by_agrees (Suspends f p b) (Suspends f' q b') h e e' a = a
  declared_by_agrees (Leaves f j) (Leaves f' j') h e e' a = a
  declared_by_agrees (Stops s) (Stops t) h e e' a = a
  declared_by_agrees _ _ h e e' a = absurd h

  pub settled_by_alike : (c d : Command) → AlikeCommands l c d → AlikeSettling l (settled_by c) (settled_by d)
  settled_by_alike c d h e e' a = declared_by_agrees (run c e).end (run d e').end (h 1 e e' a).end e e' a

  pub after_same : {A : Type 0} (g : Got A) (f f' : A → Got Env) → ((x : A) → AgreeAfter l (f x) (f' x)) → AgreeAfter l (g >>= f) (g >>= f')
  after_same (Ok x) f f' h = h x
  after_same (Err s) f f' h = refl

  pub after_after : (f f' : Got Env) (g g' : Env → Got Env) → AgreeAfter l f f' → ((e e' : Env) → Agree l e e' → AgreeAfter l (g e) (g' e')) → AgreeAfter l (f >>= g) (f' >>= g')
  after_after (Ok e) (Ok e') g g' h k = k e e' h
  after_after (Ok e) (Err s) g g' h k = absurd h
  after_after (Err s) (Ok e') g g' h k = absurd h
  after_after (Err s) (Err t) g g' h k = h

  after_place : (g : Got Place) (f f' : Place → Got Env) → ((p : Place) → AgreeAfter l (f p) (f' (place_in l p))) → AgreeAfter l (g >>= f) ((g >>= λ x. Ok (place_in l x)) >>= f')
  after_place (Ok p) f f' h = h p
  after_place (Err s) f f' h = refl

  put_alike : (p : Place) (s : Subtype) (v : Value Scalar) (e : Env) → Keeps l e → AgreeAfter l (put p s v (through l e)) (put (place_in l p) s v e)
  put_alike p s v e k =
      after_same (got (fit s v)) _ _ (λ w. after_same (got (changed p.steps w (e.denotes (l.number p.object)).value)) _ _ (λ new.
      value_agrees l numbers (through l e) e p.object new (itself e k)))

  -- an evaluation that comes to the same, and then what follows it
  pub after_equal : {A : Type 0} (g g' : Got A) (f f' : A → Got Env) → g' ≡ g → ((x : A) → AgreeAfter l (f x) (f' x)) → AgreeAfter l (g >>= f) (g' >>= f')
  after_equal g g' f f' e h = subst (λ r. AgreeAfter l (g >>= f) (r >>= f')) (sym e) (after_same g f f' h)

  -- a waveform at a place of a subtype
  sent_alike : (p q : Named) → AlikeName l p q → (w x : Waveform) → AlikeWaveform l w x → (e : Env) → Keeps l e → x.value (q.subtype e) e ≡ w.value (p.subtype (through l e)) (through l e)
  sent_alike p q h w x a e k = (λ i. x.value (h.subtype e k i) e) ∙ a.value (p.subtype (through l e)) e k

  set_by : Got (Value Scalar) → Got Place → Got Subtype → Env → Got Env
  set_by g h r e = g >>= λ v. h >>= λ p. r >>= λ s. put p s v e

  pub setting_alike : (p q : Named) → AlikeName l p q → (w x : Waveform) → AlikeWaveform l w x → AlikeCommands l (setting p w) (setting q x)
  unfolding set_by
  setting_alike p q h w x a =
      acting_alike _ _ (λ e k.
      subst (λ r. AgreeAfter l (set_by (w.value (p.subtype (through l e)) (through l e)) (p.place (through l e)) (p.subtype (through l e)) (through l e)) r)
      (λ i. set_by (sym (sent_alike p q h w x a e k) i) (sym (h.place e k) i) (sym (h.subtype e k) i) e)
      (after_same (w.value (p.subtype (through l e)) (through l e)) _ _ (λ v.
      after_place (p.place (through l e)) _ _ (λ at.
      after_same (p.subtype (through l e)) _ _ (λ s. put_alike at s v e k)))))

  -- ---- assignments of signals

  effects_alike : (e e' : Env) (g h : Got (List Assignment)) → h ≡ g → Agree l e e' → AlikeEffect l (effect_of e g) (effect_of e' h)
  effects_alike e e' (Ok sent) h eq a = subst (λ r. AlikeEffect l (effect_of e (Ok sent)) (effect_of e' r)) (sym eq) (record { assignments = refl; reports = refl; after = a })
  effects_alike e e' (Err s) h eq a = subst (λ r. AlikeEffect l (effect_of e (Err s)) (effect_of e' r)) (sym eq) (record { assignments = refl; reports = refl; after = refl })

  sending_alike : (p q : Named) → AlikeName l p q → (mode : Delay) (w x : Waveform) → AlikeWaveform l w x → Alike l (sending p mode w) (sending q mode x)
  sending_alike p q h mode w x a e k =
      λ i. sent_alike p q h w x a e k i >>= λ v. a.delay e k i >>= λ d. h.signals e k i >>= λ ns. h.subtype e k i >>= λ s.
      got (fit s v) >>= λ y. due e d >>= λ t. assigned_to e.drivers mode t (leaves ns) (leaves y)

  pub driving_alike : (p q : Named) → AlikeName l p q → (mode : Delay) (w x : Waveform) → AlikeWaveform l w x → AlikeCommands l (driving p mode w) (driving q mode x)
  driving_alike p q h mode w x a =
      acts_alike l numbers _ _ (λ e e' g. effects_alike e e' (sending p mode w e) (sending q mode x e') (at l numbers (sending p mode w) (sending q mode x) (sending_alike p q h mode w x a) e e' g) g)

  -- ---- returns

  returned_in : (g : Got (Value Scalar)) → (g >>= λ x. Ok (Return x)) ≡ ((g >>= λ x. Ok (Return x)) >>= λ j. Ok (jump_in l j))
  returned_in (Ok x) = refl
  returned_in (Err s) = refl

  given_in : (g : Got (Value Scalar)) (k : Value Scalar → Got (Value Scalar)) → (g >>= λ v. k v >>= λ x. Ok (Return x)) ≡ ((g >>= λ v. k v >>= λ x. Ok (Return x)) >>= λ j. Ok (jump_in l j))
  given_in (Ok v) k = returned_in (k v)
  given_in (Err s) k = refl

  giving_in : Waveform → Env → Got Jump
  giving_in w e = w.value (Ok e.result) e >>= λ v. got (fit e.result v) >>= λ x. Ok (Return x)

  giving_same : (w x : Waveform) → AlikeWaveform l w x → Alike l (giving_in w) (giving_in x)
  unfolding giving_in
  giving_same w x a e k = λ i. a.value (Ok e.result) e k i >>= λ v. got (fit e.result v) >>= λ y. Ok (Return y)

  pub giving_alike : (w x : Waveform) → AlikeWaveform l w x → AlikeCommands l (giving w) (giving x)
  unfolding giving_in
  giving_alike w x a =
      jumps_alike l numbers (giving_in w) (giving_in x) (λ e e' g.
      at l numbers (giving_in w) (giving_in x) (giving_same w x a) e e' g ∙ given_in (w.value (Ok e.result) e) (λ v. got (fit e.result v)))

  -- ---- reports

  severe : (b : Bool) (e e' : Env) (s : Halt) (r : Report) → Agree l e e'
      → AlikeEffect l (if b then record { assignments = []; reports = []; after = Err s } else record { assignments = []; reports = r ∷ []; after = Ok e })
      (if b then record { assignments = []; reports = []; after = Err s } else record { assignments = []; reports = r ∷ []; after = Ok e' })
  severe true e e' s r a = record { assignments = refl; reports = refl; after = refl }
  severe false e e' s r a = record { assignments = refl; reports = refl; after = a }

  reported_alike : (e e' : Env) (g h : Got Report) → h ≡ g → Agree l e e' → AlikeEffect l (report_of e g) (report_of e' h)
  reported_alike e e' (Ok r) h eq a =
      subst (λ x. AlikeEffect l (report_of e (Ok r)) (report_of e' x)) (sym eq) (severe (r.severity == 3) e e' (record { kind = Failure; text = r.text }) (record { severity = r.severity; text = r.text }) a)
  reported_alike e e' (Err s) h eq a = subst (λ x. AlikeEffect l (report_of e (Err s)) (report_of e' x)) (sym eq) (record { assignments = refl; reports = refl; after = refl })

  said : (Env → Got (List ℕ)) → (Env → Got ℕ) → Env → Got Report
  said text severity e = text e >>= λ cs. severity e >>= λ n. Ok (record { severity = n; text = cs })

  reporting_alike : (f f' : Env → Got (List ℕ)) (g g' : Env → Got ℕ) → Alike l f f' → Alike l g g' → AlikeCommands l (reporting f g) (reporting f' g')
  unfolding said
  reporting_alike f f' g g' x y =
      acts_alike l numbers _ _ (λ e e' a. reported_alike e e' (said f g e) (said f' g' e')
      ((λ i. x e' a.keeps i >>= λ cs. y e' a.keeps i >>= λ n. Ok (record { severity = n; text = cs })) ∙ ap (said f g) a.same) a)

  text_alike : (cs : List ℕ) (m n : Meaning) → AlikeMeaning l m n → Alike l (text_or cs m) (text_or cs n)
  text_alike cs m n h e k = λ i. if h.is_present i then (h.value unknown e k i >>= λ v. Ok (text_in v)) else Ok cs

  severity_alike : (k : ℕ) (m n : Meaning) → AlikeMeaning l m n → Alike l (severity_or k m) (severity_or k n)
  severity_alike d m n h e k = λ i. if h.is_present i then (h.value unknown e k i >>= literal_of) else Ok d

  pub report_alike : (m n m' n' : Meaning) → AlikeMeaning l m n → AlikeMeaning l m' n' → AlikeCommands l (report m m') (report n n')
  report_alike m n m' n' h k = reporting_alike (text_or [] m) (text_or [] n) (severity_or 0 m') (severity_or 0 n') (text_alike [] m n h) (severity_alike 0 m' n' k)

  pub assertion_alike : (m n m' n' m2 n2 : Meaning) → AlikeMeaning l m n → AlikeMeaning l m' n' → AlikeMeaning l m2 n2 → AlikeCommands l (assertion m m' m2) (assertion n n' n2)
  assertion_alike m n m' n' m2 n2 h k j =
      choices_alike l numbers (truth_of m) (truth_of n) Skip _ Skip _ (truths_alike m n h) (skips_alike l numbers)
      (reporting_alike (text_or (codes "Assertion violation.") m') (text_or (codes "Assertion violation.") n') (severity_or 2 m2) (severity_or 2 n2) (text_alike _ m' n' k) (severity_alike 2 m2 n2 j))

  -- ---- choices and alternatives

  in_range_same : (c : Comparison) (mark : Option ℕ) (v : Value Scalar) (e : Env) (b : Bounds) → is_in_range c (number_in l mark) v e b ≡ is_in_range c mark v (through l e) b
  in_range_same ByEquality mark v e b = refl
  in_range_same (ByMatching of) mark v e b = λ i. type_same l numbers mark e i >>= λ t. any_chosen (ByMatching of) v (range_values t b)

  covers_alike : (r r' : Option (Env → Got Bounds)) → AlikeOption l r r' → (m n : Meaning) → AlikeMeaning l m n → (c : Comparison) (v : Value Scalar) → Alike l (covers_by r m c v) (covers_by r' n c v)
  covers_alike None None x m n h c v e k = λ i. h.value unknown e k i >>= is_chosen c v
  covers_alike (Some range) (Some range') x m n h c v e k =
      (λ i. x e k i >>= is_in_range c (h.mark i) v e) ∙ (λ i. range (through l e) >>= λ b. in_range_same c m.mark v e b i)
  covers_alike _ _ x m n h c v e k = absurd x

  pub any_covers_alike : (ms ns : List Meaning) → AllZip (AlikeMeaning l) ms ns → (c : Comparison) (v : Value Scalar) → Alike l (any_covers ms c v) (any_covers ns c v)
  any_covers_alike [] [] h c v e k = refl
  any_covers_alike (m ∷ ms) (n ∷ ns) h c v e k =
      λ i. covers_alike m.range n.range h.0.range m n h.0 c v e k i >>= λ b. if b then Ok true else any_covers_alike ms ns h.1 c v e k i
  any_covers_alike _ _ h c v e k = absurd h

  pub alternatives_alike : (f g : Meaning → Command) → ((m n : Meaning) → AlikeMeaning l m n → AlikeCommands l (f m) (g n)) → (ms ns : List Meaning) → AllZip (AlikeMeaning l) ms ns
      → (c : Comparison) (s s' : Env → Got (Value Scalar)) → Alike l s s' → AlikeCommands l (alternatives f ms c s) (alternatives g ns c s')
  alternatives_alike f g same [] [] h c s s' a =
      choices_alike l numbers _ _ Skip Skip Skip Skip (λ e k i. a e k i >>= λ v. Ok true) (skips_alike l numbers) (skips_alike l numbers)
  alternatives_alike f g same (m ∷ ms) (n ∷ ns) h c s s' a =
      choices_alike l numbers (λ e. s e >>= λ v. m.covers c v e) (λ e. s' e >>= λ v. n.covers c v e) _ _ _ _
      (λ e k i. a e k i >>= λ v. h.0.covers c v e k i) (same m n h.0) (alternatives_alike f g same ms ns h.1 c s s' a)
  alternatives_alike f g same _ _ h c s s' a = absurd h

  pub selecting_alike : (c : Comparison) (s s' : Env → Got (Value Scalar)) → Alike l s s' → (cs ds : Comparison → (Env → Got (Value Scalar)) → Command)
      → ((c : Comparison) → AlikeCommands l (cs c s) (ds c s')) → AlikeCommands l (selecting c s cs) (selecting c s' ds)
  selecting_alike ByEquality s s' a cs ds h = h ByEquality
  selecting_alike (ByMatching of) s s' a cs ds h =
      sequences_alike l numbers _ _ _ _
      (choices_alike l numbers (λ e. s e >>= λ v. Ok (holds_dash (ByMatching of) v)) (λ e. s' e >>= λ v. Ok (holds_dash (ByMatching of) v)) _ Skip _ Skip (λ e k i. a e k i >>= λ v. Ok (holds_dash (ByMatching of) v))
      (reporting_alike (λ _. Ok (codes "vdown: matching case selector holds '-'")) (λ _. Ok (codes "vdown: matching case selector holds '-'")) (λ _. Ok 3) (λ _. Ok 3) (λ e k. refl) (λ e k. refl))
      (skips_alike l numbers))
      (h (ByMatching of))

  -- ---- waits

  waited_same : (m n m' n' : Meaning) → AlikeMeaning l m n → AlikeMeaning l m' n' → Alike l (waited_for m m') (waited_for n n')
  waited_same m n m' n' h k e g = λ i. if h.is_present i then h.reads e g i else (if k.is_present i then k.reads e g i else Ok [])

  timeout_same : (m n : Meaning) → AlikeMeaning l m n → Alike l (timeout_of m) (timeout_of n)
  timeout_same m n h e k = λ i. if h.is_present i then (h.value unknown e k i >>= time_in >>= due e >>= λ t. Ok (Some t)) else Ok None

  until_same : (m n : Meaning) → AlikeMeaning l m n → Alike l (condition_of m) (condition_of n)
  until_same m n h e k = λ i. if h.is_present i then (h.value unknown e k i >>= truth_in) else Ok true

  pauses_alike : (g : Got (List Signals)) (t : Got (Option ℕ)) (u u' : Env → Got Bool) → Alike l u u'
      → AlikePauses l (g >>= λ names. t >>= λ x. Ok (record { on = numbers_of names; until = u; timeout = x })) (g >>= λ names. t >>= λ x. Ok (record { on = numbers_of names; until = u'; timeout = x }))
  pauses_alike (Ok names) (Ok x) u u' h = record { on = refl; until = h; timeout = refl }
  pauses_alike (Ok names) (Err s) u u' h = refl
  pauses_alike (Err s) t u u' h = refl

  pause : (Env → Got (List Signals)) → (Env → Got (Option ℕ)) → (Env → Got Bool) → Env → Got Pause
  pause names timeout until e = names e >>= λ xs. timeout e >>= λ t. Ok (record { on = numbers_of xs; until = until; timeout = t })

  pub waiting_alike : (m n m' n' m2 n2 : Meaning) → AlikeMeaning l m n → AlikeMeaning l m' n' → AlikeMeaning l m2 n2 → AlikeCommands l (waiting_for m m' m2) (waiting_for n n' n2)
  unfolding pause
  waiting_alike m n m' n' m2 n2 h k j =
      waits_alike l numbers (pause (waited_for m m') (timeout_of m2) (condition_of m')) (pause (waited_for n n') (timeout_of n2) (condition_of n')) (λ e e' a.
      subst (λ x. AlikePauses l (pause (waited_for m m') (timeout_of m2) (condition_of m') x) (pause (waited_for n n') (timeout_of n2) (condition_of n') e')) a.same
      (subst (λ x. AlikePauses l (pause (waited_for m m') (timeout_of m2) (condition_of m') (through l e')) x)
      (λ i. sym (waited_same m n m' n' h k e' a.keeps) i >>= λ xs. sym (timeout_same m2 n2 j e' a.keeps) i >>= λ t. Ok (record { on = numbers_of xs; until = condition_of n'; timeout = t }))
      (pauses_alike (waited_for m m' (through l e')) (timeout_of m2 (through l e')) (condition_of m') (condition_of n') (until_same m' n' k))))

  -- ---- loops

  range_values_alike : (r r' : Option (Env → Got Bounds)) → AlikeOption l r r' → (mark : Option ℕ) (e : Env) → Keeps l e
      → (or_senseless r' >>= λ range. range e >>= λ b. scalar_type (number_in l mark) e >>= λ t. Ok (range_values t b))
      ≡ (or_senseless r >>= λ range. range (through l e) >>= λ b. scalar_type mark (through l e) >>= λ t. Ok (range_values t b))
  range_values_alike None None x mark e k = refl
  range_values_alike (Some range) (Some range') x mark e k = λ i. x e k i >>= λ b. type_same l numbers mark e i >>= λ t. Ok (range_values t b)
  range_values_alike _ _ x mark e k = absurd x

  pub values_alike : (m n : Meaning) → AlikeMeaning l m n → Alike l (values_of_range m) (values_of_range n)
  values_alike m n h e k =
      (λ i. or_senseless n.range >>= λ range. range e >>= λ b. scalar_type (h.mark i) e >>= λ t. Ok (range_values t b))
      ∙ range_values_alike m.range n.range h.range m.mark e k

module _ (l : Link) (t t' : Table) (tables : SameTable l t t') where
  pub comparison_same : (m n m' n' : Meaning) → AlikeMeaning l m n → AlikeMeaning l m' n' → comparison t' n.is_present n' ≡ comparison t m.is_present m'
  comparison_same m n m' n' h k =
      (λ i. if h.is_present i then comparison_by (sort_of t' (k.mark i)) else ByEquality)
      ∙ (λ i. if m.is_present then comparison_by (tables.sort m'.mark i) else ByEquality)
