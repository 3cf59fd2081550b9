-- Processes that do the same are elaborated to such.
use Rattle.std.proofs.Common.{◌≡◌, ℕ, List, [], ◌∷◌, Option, Some, None, refl, sym, subst}
use Rattle.std.specs.Prelude.{Ok, Err}
use Rattle.std.specs.List.{AllZip}
use Rattle.vd_composites.specs.Stops.{◌>>=◌}
use Rattle.vd_environments.specs.Got.{Got}
use Rattle.vd_environments.specs.Environments.{Signals, Env, inside}
use Rattle.vd_environments.specs.Commands.{Command, End, Ends, Suspends, Leaves, Stops, run}
use Rattle.vd_environments.specs.Processes.{Process, Elaborated, driven_by, names_of, body_of, declared_end, declared, started, with_drivers, elaborated}
use Rattle.vd_meaning_laws.specs.Agreement.{Link, IsApart, Agree, AgreeAfter, AlikeEnds, AlikeUpTo, AlikeCommands}
use Rattle.vd_meaning_laws.specs.Renumbering.{AlikeOption, AlikeProcess}
use Rattle.vd_meaning_laws.specs.Laws.{ProcessesElaborateAlike, SameElaborated}
use Rattle.vd_meaning_laws.proofs.Agreeing.{at, skips_alike, sequences_alike, waits_alike}
use Rattle.vd_meaning_laws.proofs.Doing.{after_after}

module _ (l : Link) (numbers : IsApart l) where
  pub ended : (x x' : End) → AlikeEnds l (AlikeUpTo l 0) x x' → AgreeAfter l (declared_end x) (declared_end x')
  ended (Ends f) (Ends f') h = h
  ended (Suspends f p b) (Suspends f' q b') h = refl
  ended (Leaves f j) (Leaves f' j') h = refl
  ended (Stops s) (Stops t) h = h
  ended _ _ h = absurd h

  pub declared_agree : (cs ds : List Command) → AllZip (AlikeCommands l) cs ds → (e e' : Env) → Agree l e e' → AgreeAfter l (declared cs e) (declared ds e')
  declared_agree [] [] h e e' a = a
  declared_agree (c ∷ cs) (d ∷ ds) h e e' a =
      after_after l numbers (declared_end (run c e).end) (declared_end (run d e').end) (declared cs) (declared ds) (ended _ _ (h.0 1 e e' a).end) (declared_agree cs ds h.1)
  declared_agree _ _ h e e' a = absurd h

  inside_agrees : (e e' : Env) → Agree l e e' → Agree l (inside e) (inside e')
  inside_agrees e e' a = record { same = λ i. inside (a.same i); keeps = a.keeps }

  drivers_agree : (first : ℕ) (driven : List ℕ) (e e' : Env) → Agree l e e' → Agree l (with_drivers first driven e) (with_drivers first driven e')
  drivers_agree first driven e e' a = record { same = λ i. with_drivers first driven (a.same i); keeps = a.keeps }

  names_same : (x y : Option (Env → Got (List Signals))) → AlikeOption l x y → (e e' : Env) → Agree l e e' → names_of y e' ≡ names_of x e
  names_same None None h e e' a = refl
  names_same (Some x) (Some y) h e e' a = at l numbers x y h e e' a
  names_same _ _ h e e' a = absurd h

  body_by : (c d : Command) → AlikeCommands l c d → (x y : Option (Env → Got (List Signals))) → AlikeOption l x y → (names : List Signals) → AlikeCommands l (body_of c x names) (body_of d y names)
  body_by c d h None None k names = h
  body_by c d h (Some x) (Some y) k names =
      sequences_alike l numbers _ _ _ _ h (waits_alike l numbers _ _ (λ e e' a. record { on = refl; until = λ f j. refl; timeout = refl }))
  body_by c d h _ _ k names = absurd k

  started_alike : (g g' : Got Env) → AgreeAfter l g g' → (c d : Command) → AlikeCommands l c d → (driven : List ℕ)
      → SameElaborated l (g >>= λ f. Ok (record { running = started f c; driven = driven })) (g' >>= λ f. Ok (record { running = started f d; driven = driven }))
  started_alike (Ok e) (Ok e') a c d h driven = (record { env = a; body = h; rest = skips_alike l numbers; until = λ f k. refl; on = refl; timeout = refl }, refl)
  started_alike (Err s) (Err t) a c d h driven = a
  started_alike _ _ a c d h driven = absurd a

  -- with the names and the targets evaluated
  abbrev elaborated_with : ℕ → Process → Env → Got (List Signals) → Got (List Signals) → Got Elaborated
  elaborated_with first p e g k =
      g >>= λ names. k >>= λ targets. declared p.declarations (with_drivers first (driven_by targets) e) >>= λ f.
      Ok (record { running = started f (body_of p.statements p.sensitivity names); driven = driven_by targets })

  module _ (p q : Process) (h : AlikeProcess l p q) (first : ℕ) (e e' : Env) (a : Agree l e e') where
    bodies_alike : (names : List Signals) → AlikeCommands l (body_of p.statements p.sensitivity names) (body_of q.statements q.sensitivity names)
    bodies_alike names = body_by p.statements q.statements h.statements p.sensitivity q.sensitivity h.sensitivity names

    same_names : (g k : Got (List Signals)) → SameElaborated l (elaborated_with first p e g k) (elaborated_with first q e' g k)
    same_names (Ok names) (Ok targets) =
        started_alike _ _ (declared_agree p.declarations q.declarations h.declarations _ _ (drivers_agree first (driven_by targets) e e' a)) _ _ (bodies_alike names) (driven_by targets)
    same_names (Ok names) (Err s) = refl
    same_names (Err s) k = refl

    targets_same : (f f' : Env) → Agree l f f' → q.targets f' ≡ p.targets f
    targets_same f f' b = at l numbers p.targets q.targets h.targets f f' b

    one_alike : SameElaborated l (elaborated first p e) (elaborated first q e')
    one_alike =
        let b = h.settling (inside e) (inside e') (inside_agrees e e' a) in
        subst (λ x. SameElaborated l (elaborated first p e) x)
        (λ i. elaborated_with first q e' (sym (names_same p.sensitivity q.sensitivity h.sensitivity _ _ b) i) (sym (targets_same _ _ b) i))
        (same_names (names_of p.sensitivity (p.settling (inside e))) (p.targets (p.settling (inside e))))

pub elaborated_alike : ProcessesElaborateAlike
elaborated_alike l numbers p q h first e e' a = one_alike l numbers p q h first e e' a
