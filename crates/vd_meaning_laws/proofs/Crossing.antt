-- Commands that are alike, across: of four, where three pairs do the same so does the fourth. (What is alike isn't equal, since the one of two commands runs
-- under the old numbers and the other under the new ones.)
use Rattle.std.proofs.Common.{◌≡◌, ℕ, zero, suc, sym, ◌∙◌}
use Rattle.vd_environments.specs.Got.{Halt}
use Rattle.vd_environments.specs.Environments.{Env}
use Rattle.vd_environments.specs.Commands.{Pause, Jump, Command, End, Ends, Suspends, Leaves, Stops, Out, run}
use Rattle.vd_meaning_laws.specs.Agreement.{Link, Agree, Alike, jump_in, AlikePause, AlikeSuspended, AlikeEnds, AlikeOut, AlikeUpTo, AlikeCommands}

across : {A : Type 0} (a a' b b' : A) → b ≡ a → b ≡ a' → b' ≡ a' → b' ≡ a
across a a' b b' x y z = z ∙ sym y ∙ x

module _ (l : Link) where
  agree_across : (a a' b b' : Env) → Agree l a b → Agree l a' b → Agree l a' b' → Agree l a b'
  agree_across a a' b b' x y z = record { same = z.same ∙ sym y.same ∙ x.same; keeps = z.keeps }

  alike_across : {A : Type 0} (f f' g g' : Env → A) → Alike l f g → Alike l f' g → Alike l f' g' → Alike l f g'
  alike_across f f' g g' x y z e k = z e k ∙ sym (y e k) ∙ x e k

  pause_across : (p p' q q' : Pause) → AlikePause l p q → AlikePause l p' q → AlikePause l p' q' → AlikePause l p q'
  pause_across p p' q q' x y z =
      record {
        on = across _ _ _ _ x.on y.on z.on;
        until = alike_across p.until p'.until q.until q'.until x.until y.until z.until;
        timeout = across _ _ _ _ x.timeout y.timeout z.timeout;
      }

  module _ (R : Command → Command → Type 0) (cross : (a a' b b' : Command) → R a b → R a' b → R a' b' → R a b') where
    ends_in : (a b : Env) (x x' : End) → Agree l a b → AlikeEnds l R x (Ends b) → AlikeEnds l R x x' → AlikeEnds l R (Ends a) x'
    ends_in a b (Ends a') (Ends b') h k m = agree_across a a' b b' h k m
    ends_in a b (Ends a') _ h k m = absurd m
    ends_in a b _ x' h k m = absurd k

    suspends_in : (a b : Env) (p q : Pause) (c d : Command) (x x' : End) → AlikeSuspended l R a b p q c d → AlikeEnds l R x (Suspends b q d) → AlikeEnds l R x x'
        → AlikeEnds l R (Suspends a p c) x'
    suspends_in a b p q c d (Suspends a' p' c') (Suspends b' q' d') h k m =
        record {
          env = agree_across a a' b b' h.env k.env m.env;
          pause = pause_across p p' q q' h.pause k.pause m.pause;
          rest = cross c c' d d' h.rest k.rest m.rest;
        }
    suspends_in a b p q c d (Suspends a' p' c') _ h k m = absurd m
    suspends_in a b p q c d _ x' h k m = absurd k

    leaves_in : (a b : Env) (i j : Jump) (x x' : End) → Agree l a b × (j ≡ jump_in l i) → AlikeEnds l R x (Leaves b j) → AlikeEnds l R x x' → AlikeEnds l R (Leaves a i) x'
    leaves_in a b i j (Leaves a' i') (Leaves b' j') h k m = (agree_across a a' b b' h.0 k.0 m.0, across _ _ _ _ h.1 k.1 m.1)
    leaves_in a b i j (Leaves a' i') _ h k m = absurd m
    leaves_in a b i j _ x' h k m = absurd k

    stops_in : (s t : Halt) (x x' : End) → t ≡ s → AlikeEnds l R x (Stops t) → AlikeEnds l R x x' → AlikeEnds l R (Stops s) x'
    stops_in s t (Stops s') (Stops t') h k m = across _ _ _ _ h k m
    stops_in s t (Stops s') _ h k m = absurd m
    stops_in s t _ x' h k m = absurd k

    ends_across : (x x' y y' : End) → AlikeEnds l R x y → AlikeEnds l R x' y → AlikeEnds l R x' y' → AlikeEnds l R x y'
    ends_across (Ends a) x' (Ends b) y' h k m = ends_in a b x' y' h k m
    ends_across (Suspends a p c) x' (Suspends b q d) y' h k m = suspends_in a b p q c d x' y' h k m
    ends_across (Leaves a i) x' (Leaves b j) y' h k m = leaves_in a b i j x' y' h k m
    ends_across (Stops s) x' (Stops t) y' h k m = stops_in s t x' y' h k m
    ends_across _ x' _ y' h k m = absurd h

    outs_across : (o o' p p' : Out) → AlikeOut l R o p → AlikeOut l R o' p → AlikeOut l R o' p' → AlikeOut l R o p'
    outs_across o o' p p' h k m =
        record {
          assignments = across _ _ _ _ h.assignments k.assignments m.assignments;
          reports = across _ _ _ _ h.reports k.reports m.reports;
          end = ends_across o.end o'.end p.end p'.end h.end k.end m.end;
        }

  up_to_across : (n : ℕ) (a a' b b' : Command) → AlikeUpTo l n a b → AlikeUpTo l n a' b → AlikeUpTo l n a' b' → AlikeUpTo l n a b'
  up_to_across zero a a' b b' h k m = tt
  up_to_across (suc n) a a' b b' h k m = λ e e' g.
      outs_across (AlikeUpTo l n) (up_to_across n) (run a e) (run a' e) (run b e') (run b' e') (h e e' g) (k e e' g) (m e e' g)

  pub commands_across : (a a' b b' : Command) → AlikeCommands l a b → AlikeCommands l a' b → AlikeCommands l a' b' → AlikeCommands l a b'
  commands_across a a' b b' h k m n = up_to_across n a a' b b' (h n) (k n) (m n)
