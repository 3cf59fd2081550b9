-- Evaluations, signals and processes in elaborations that are alike.
use Rattle.std.proofs.Common.{◌≡◌, ℕ, suc, Bool, true, false, List, [], ◌∷◌, ◌++◌, length, map, refl, sym, ap, subst}
use Rattle.std.specs.Prelude.{◌+◌, nat_lt, if◌then◌else◌, slice_index_or, Ok, Err}
use Rattle.std.specs.List.{AllZip}
use Rattle.vd_bytes.specs.declared.answers.Limit.TheVariants as limit
use Rattle.vd_values.specs.declared.scalar.Scalar.{Scalar}
use Rattle.vd_values.specs.declared.scalar.Scalar.TheVariants.{Literal}
use Rattle.vd_trees.specs.declared.paths.Scope.{Scope}
use Rattle.vd_composites.specs.Stops.{◌>>=◌}
use Rattle.vd_composites.specs.Composites.{Value, leaves}
use Rattle.vd_environments.specs.Got.{Got}
use Rattle.vd_environments.specs.Environments.{Env, Indicated, with_signals}
use Rattle.vd_environments.specs.Processes.{Process, Elaborated, elaborated}
use Rattle.vd_meaning.specs.Given.{elaborating}
use Rattle.vd_meaning.specs.Building.{ScalarObject, Placed, Made, Failing, Limited, Built, evaluated, seen_in, looking, counted, layout_of, Start, scalar_objects, signals_of, State, with_object, with_signal, plain_start, placed, with_process, with_processes}
use Rattle.vd_meaning_laws.specs.Agreement.{Link, IsApart, Agree}
use Rattle.vd_meaning_laws.specs.Renumbering.{AlikeProcess}
use Rattle.vd_meaning_laws.specs.Laws.{SameElaborated}
use Rattle.vd_meaning_laws.proofs.Agreeing.{denoting_agrees, view_agrees}
use Rattle.vd_meaning_laws.proofs.Elaborating.{elaborated_alike}
use Rattle.vd_meaning_laws.specs.ElaborationAgreement.{AlikePlaced, AlikeMade, AlikeState, AlikeBuilt, AlikeStates}

-- one step and then another
pub built_then : {A B C D : Type 0} (R : A → B → Type 0) (S : C → D → Type 0) (g : Built A) (g' : Built B) (f : A → Built C) (f' : B → Built D)
    → AlikeBuilt R g g' → ((x : A) (y : B) → R x y → AlikeBuilt S (f x) (f' y)) → AlikeBuilt S (g >>= f) (g' >>= f')
built_then R S (Ok x) (Ok y) f f' h same = same x y h
built_then R S (Err s) (Err t) f f' h same = h
built_then R S (Ok x) (Err t) f f' h same = absurd h
built_then R S (Err s) (Ok y) f f' h same = absurd h

-- an evaluation that comes to the same, and then what follows it
pub evaluated_then : {A C D : Type 0} (S : C → D → Type 0) (scope : Scope) (g g' : Got A) (f : A → Built C) (f' : A → Built D)
    → g' ≡ g → ((x : A) → AlikeBuilt S (f x) (f' x)) → AlikeBuilt S (evaluated scope g >>= f) (evaluated scope g' >>= f')
evaluated_then S scope (Ok x) g' f f' e same = subst (λ r. AlikeBuilt S (f x) (evaluated scope r >>= f')) (sym e) (same x)
evaluated_then S scope (Err h) g' f f' e same = subst (λ r. AlikeBuilt S (evaluated scope (Err h) >>= f) (evaluated scope r >>= f')) (sym e) refl

module _ (l : Link) (numbers : IsApart l) where
  -- ---- counting

  within : (b : Bool) (n : ℕ) (m m' : Made) → AlikeMade l m m' → AlikeBuilt (AlikeMade l)
      (if b then Err (Limited limit.Signals) else Ok (record m { counted = n })) (if b then Err (Limited limit.Signals) else Ok (record m' { counted = n }))
  within true n m m' h = refl
  within false n m m' h = record { signals = h.signals; counted = refl; sources = h.sources; driven = h.driven; processes = h.processes }

  pub counted_alike : (n : ℕ) (m m' : Made) → AlikeMade l m m' → AlikeBuilt (AlikeMade l) (counted n m) (counted n m')
  counted_alike n m m' h =
      subst (λ c. AlikeBuilt (AlikeMade l) (counted n m) (if nat_lt 1000000 (c + n) then Err (Limited limit.Signals) else Ok (record m' { counted = c + n }))) (sym h.counted)
      (within (nat_lt 1000000 (m.counted + n)) (m.counted + n) m m' h)

  -- ---- signals

  pub looking_alike : (m m' : Made) (e e' : Env) → m'.signals ≡ m.signals → Agree l e e' → Agree l (looking m e) (looking m' e')
  looking_alike m m' e e' h a =
      view_agrees l numbers e e' _ _ (λ i. elaborating (λ n. slice_index_or (map (λ s. s.seen) (h i)) n (Literal 0))) a

  pub more_signals : (m m' : Made) → AlikeMade l m m' → (xs : List ScalarObject) → AlikeMade l (record m { signals = m.signals ++ xs }) (record m' { signals = m'.signals ++ xs })
  more_signals m m' h xs =
      record { signals = λ i. h.signals i ++ xs; counted = h.counted; sources = h.sources; driven = h.driven; processes = h.processes }

  pub signals_same : (i : Indicated) (m m' : Made) → m'.signals ≡ m.signals → (starts : List Start) → signals_of i m' starts ≡ signals_of i m starts
  signals_same i m m' h starts = λ k. signals_of i (record m { signals = h k }) starts

  pub object_alike : (scope : Scope) (d : ℕ) (name : List ℕ) (i : Indicated) (starts : List Start) (s t : State) → AlikeState l s t
      → AlikeState l (with_object scope d name i starts s) (with_object scope (l.number d) name i starts t)
  object_alike scope d name i starts s t h =
      let xs = scalar_objects scope name (leaves (layout_of i)) starts in
      let made = more_signals s.made t.made h.made xs in
      record {
        env = subst (λ x. Agree l (with_object scope d name i starts s).env (looking (record t.made { signals = t.made.signals ++ xs }) (with_signals (l.number d) i.subtype i.make x t.env))) (sym (signals_same i s.made t.made h.made.signals starts))
            (looking_alike (record s.made { signals = s.made.signals ++ xs }) (record t.made { signals = t.made.signals ++ xs }) _ _ made.signals (denoting_agrees l numbers s.env t.env d _ h.env));
        made = made;
      }

  pub signal_alike : (scope : Scope) (d : ℕ) (name : List ℕ) (i : Indicated) (v : Value Scalar) (s t : State) → AlikeState l s t
      → AlikeState l (with_signal scope d name i v s) (with_signal scope (l.number d) name i v t)
  signal_alike scope d name i v s t h = object_alike scope d name i (map plain_start (leaves v)) s t h

  -- ---- processes

  pub joined_zip : {A : Type 0} (R : A → A → Type 0) (xs ys us vs : List A) → AllZip R xs ys → AllZip R us vs → AllZip R (xs ++ us) (ys ++ vs)
  joined_zip R [] [] us vs h k = k
  joined_zip R (x ∷ xs) (y ∷ ys) us vs h k = (h.0, joined_zip R xs ys us vs h.1 k)
  joined_zip R _ _ us vs h k = absurd h

  length_zip : {A : Type 0} (R : A → A → Type 0) (xs ys : List A) → AllZip R xs ys → length ys ≡ length xs
  length_zip R [] [] h = refl
  length_zip R (x ∷ xs) (y ∷ ys) h = ap suc (length_zip R xs ys h.1)
  length_zip R _ _ h = absurd h

  placed_alike : (scope : Scope) (p q : Elaborated) → SameElaborated l (Ok p) (Ok q) → (m m' : Made) → AlikeMade l m m' → AlikeMade l (placed scope p m) (placed scope q m')
  placed_alike scope p q h m m' k =
      record {
        signals = k.signals;
        counted = k.counted;
        sources = k.sources;
        driven = λ i. k.driven i ++ h.1 i;
        processes = joined_zip (AlikePlaced l) m.processes m'.processes _ _ k.processes (record { running = h.0; scope = refl }, tt);
      }

  with_elaborated : (scope : Scope) (g g' : Got Elaborated) → SameElaborated l g g' → (s t : State) → AlikeState l s t
      → AlikeStates l (evaluated scope g >>= λ q. Ok (record s { made = placed scope q s.made })) (evaluated scope g' >>= λ q. Ok (record t { made = placed scope q t.made }))
  with_elaborated scope (Ok p) (Ok q) h s t a = record { env = a.env; made = placed_alike scope p q h s.made t.made a.made }
  with_elaborated scope (Err x) (Err y) h s t a = λ i. Rattle.vd_meaning.specs.Building.Stopped (h i) scope
  with_elaborated scope (Ok p) (Err y) h s t a = absurd h
  with_elaborated scope (Err x) (Ok q) h s t a = absurd h

  few : (b : Bool) (x y : Built State) → AlikeStates l x y → AlikeStates l (if b then x else Err (Limited limit.Processes)) (if b then y else Err (Limited limit.Processes))
  few true x y h = h
  few false x y h = refl

  pub process_alike : (scope : Scope) (p q : Process) → AlikeProcess l p q → (s t : State) → AlikeState l s t → AlikeStates l (with_process scope p s) (with_process scope q t)
  process_alike scope p q h s t a =
      subst (λ n. AlikeStates l (with_process scope p s) (if nat_lt n 100000 then (evaluated scope (elaborated (length t.made.driven) q t.env) >>= λ r. Ok (record t { made = placed scope r t.made })) else Err (Limited limit.Processes)))
      (sym (length_zip (AlikePlaced l) s.made.processes t.made.processes a.made.processes))
      (few (nat_lt (length s.made.processes) 100000) _ _
      (subst (λ n. AlikeStates l (evaluated scope (elaborated (length s.made.driven) p s.env) >>= λ r. Ok (record s { made = placed scope r s.made })) (evaluated scope (elaborated n q t.env) >>= λ r. Ok (record t { made = placed scope r t.made })))
      (λ i. length (sym a.made.driven i))
      (with_elaborated scope _ _ (elaborated_alike l numbers p q h (length s.made.driven) s.env t.env a.env) s t a)))

  pub processes_alike : (scope : Scope) (ps qs : List Process) → AllZip (AlikeProcess l) ps qs → (s t : State) → AlikeState l s t → AlikeStates l (with_processes scope ps s) (with_processes scope qs t)
  processes_alike scope [] [] h s t a = a
  processes_alike scope (p ∷ ps) (q ∷ qs) h s t a =
      built_then (AlikeState l) (AlikeState l) (with_process scope p s) (with_process scope q t) (with_processes scope ps) (with_processes scope qs) (process_alike scope p q h.0 s t a) (processes_alike scope ps qs h.1)
  processes_alike scope _ _ h s t a = absurd h
