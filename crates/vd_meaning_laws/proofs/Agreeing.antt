-- Commands that are alike do the same in environments that agree.
use Rattle.std.proofs.Common.{◌≡◌, ℕ, zero, suc, Bool, true, false, List, [], ◌∷◌, Option, Some, None, refl, sym, ap, ◌∙◌, subst}
use Rattle.std.specs.Prelude.{if◌then◌else◌, Ok, Err}
use Rattle.vd_values.specs.declared.scalar.Scalar.{Scalar}
use Rattle.vd_trees.specs.declared.traces.Report.{Report}
use Rattle.vd_kernel.specs.declared.assignments.Assignment.{Assignment}
use Rattle.vd_kernel.specs.Models.{View}
use Rattle.vd_composites.specs.Stops.{◌>>=◌}
use Rattle.vd_composites.specs.Composites.{Value}
use Rattle.vd_environments.specs.Got.{Halt, Got}
use Rattle.vd_environments.specs.Environments.{Denotation, Env, with_entry, denoting, with_value, seeing}
use Rattle.vd_environments.specs.Commands.{Effect, Pause, Jump, Exit, Next, Return, Command, Skip, Act, Then, Choose, Each, While, Turning, Wait, Leave, End, Ends, Suspends, Leaves, Stops, Out, just, behind, end_after, done, then_from, means_loop, left_by, turn_from, and_again, with_got, run}
use Rattle.vd_meaning_laws.specs.Agreement.{Link, IsApart, through, Agree, Alike, number_in, jump_in, AgreeAfter, AlikeEffect, AlikePauses, AlikeCommands, AlikeUpTo, AlikeEnds, AlikeOut}

-- ---- evaluations

-- two evaluations one after the other
pub then_same : {A B : Type 0} (g h : Got A) (f f' : A → Got B) → h ≡ g → ((x : A) → f' x ≡ f x) → (h >>= f') ≡ (g >>= f)
then_same (Ok x) h f f' e same = ap (λ g. g >>= f') e ∙ same x
then_same (Err s) h f f' e same = ap (λ g. g >>= f') e

module _ (l : Link) (numbers : IsApart l) where
  -- what is alike comes to the same where environments agree
  pub at : {A : Type 0} (f g : Env → A) → Alike l f g → (e e' : Env) → Agree l e e' → g e' ≡ f e
  at f g h e e' a = h e' a.keeps ∙ ap f a.same

  -- ---- environments

  entry_through : {A : Type 0} (n : ℕ) (x : A) (table : ℕ → A) (k : ℕ) → with_entry (l.number n) x table (l.number k) ≡ with_entry n x (λ m. table (l.number m)) k
  entry_through n x table k = ap (λ b. if b then x else table (l.number k)) (numbers.same k n)

  pub denoting_through : (n : ℕ) (d : Denotation) (e : Env) → through l (denoting (l.number n) d e) ≡ denoting n d (through l e)
  denoting_through n d e = λ i. record e { denotes = λ k. entry_through n d e.denotes k i }

  pub denoting_agrees : (e e' : Env) (n : ℕ) (d : Denotation) → Agree l e e' → Agree l (denoting n d e) (denoting (l.number n) d e')
  denoting_agrees e e' n d a =
      record {
        same = denoting_through n d e' ∙ ap (denoting n d) a.same;
        keeps = λ k y. ap (λ b. if b then d else e'.denotes k) (numbers.apart k n y) ∙ a.keeps k y;
      }

  pub denoted_same : (e e' : Env) (n : ℕ) → Agree l e e' → e'.denotes (l.number n) ≡ e.denotes n
  denoted_same e e' n a = ap (λ f. f.denotes n) a.same

  pub value_agrees : (e e' : Env) (n : ℕ) (v : Value Scalar) → Agree l e e' → Agree l (with_value n v e) (with_value (l.number n) v e')
  value_agrees e e' n v a =
      subst (λ d. Agree l (with_value n v e) (denoting (l.number n) (record d { value = v }) e')) (sym (denoted_same e e' n a))
      (denoting_agrees e e' n (record (e.denotes n) { value = v }) a)

  pub view_agrees : (e e' : Env) (v w : View) → w ≡ v → Agree l e e' → Agree l (seeing v e) (seeing w e')
  view_agrees e e' v w same a = record { same = λ i. seeing (same i) (a.same i); keeps = a.keeps }

  -- ---- labels

  means_same : (label k : Option ℕ) → means_loop (number_in l label) (number_in l k) ≡ means_loop label k
  means_same label None = refl
  means_same None (Some k) = refl
  means_same (Some m) (Some k) = numbers.same m k

  -- ---- runs, where what is left is related

  module _ (R : Command → Command → Type 0) where
    pub stops_alike : (s t : Halt) → t ≡ s → AlikeOut l R (just (Stops s)) (just (Stops t))
    stops_alike s t e = record { assignments = refl; reports = refl; end = e }

    pub got_alike : {A : Type 0} (g h : Got A) (go go' : A → Out) → h ≡ g → ((x : A) → AlikeOut l R (go x) (go' x)) → AlikeOut l R (with_got g go) (with_got h go')
    got_alike (Ok x) h go go' e same = subst (λ r. AlikeOut l R (go x) (with_got r go')) (sym e) (same x)
    got_alike (Err s) h go go' e same = subst (λ r. AlikeOut l R (just (Stops s)) (with_got r go')) (sym e) (stops_alike s s refl)

    pub behind_alike : (sent sent' : List Assignment) (said said' : List Report) (o o' : Out) → sent' ≡ sent → said' ≡ said → AlikeOut l R o o' → AlikeOut l R (behind sent said o) (behind sent' said' o')
    behind_alike sent sent' said said' o o' a r h =
        record { assignments = (let b = h.assignments in cc); reports = (let b = h.reports in cc); end = h.end }

    pub chosen_alike : (b : Bool) (o o' p p' : Out) → AlikeOut l R o o' → AlikeOut l R p p' → AlikeOut l R (if b then o else p) (if b then o' else p')
    chosen_alike true o o' p p' h k = h
    chosen_alike false o o' p p' h k = k

    both : (b c : Bool) (o o' p p' : Out) → c ≡ b → AlikeOut l R o o' → AlikeOut l R p p' → AlikeOut l R (if b then o else p) (if c then o' else p')
    both b c o o' p p' e h k = subst (λ d. AlikeOut l R (if b then o else p) (if d then o' else p')) (sym e) (chosen_alike b o o' p p' h k)

    after_alike : (f g : Got Env) → AgreeAfter l f g → AlikeEnds l R (end_after f) (end_after g)
    after_alike (Ok e) (Ok e') h = h
    after_alike (Ok e) (Err s) h = absurd h
    after_alike (Err s) (Ok e') h = absurd h
    after_alike (Err s) (Err t) h = h

    effect_alike : (f g : Effect) → AlikeEffect l f g → AlikeOut l R (done f) (done g)
    effect_alike f g h = record { assignments = h.assignments; reports = h.reports; end = after_alike f.after g.after h.after }

    pause_alike : R Skip Skip → (e e' : Env) (p q : Got Pause) → Agree l e e' → AlikePauses l p q → AlikeOut l R (with_got p (λ p. just (Suspends e p Skip))) (with_got q (λ q. just (Suspends e' q Skip)))
    pause_alike skips e e' (Ok p) (Ok q) a h = record { assignments = refl; reports = refl; end = record { env = a; pause = h; rest = skips } }
    pause_alike skips e e' (Ok p) (Err s) a h = absurd h
    pause_alike skips e e' (Err s) (Ok q) a h = absurd h
    pause_alike skips e e' (Err s) (Err t) a h = stops_alike s t h

    jump_alike : (e e' : Env) (f g : Got Jump) → Agree l e e' → g ≡ (f >>= λ j. Ok (jump_in l j)) → AlikeOut l R (with_got f (λ j. just (Leaves e j))) (with_got g (λ j. just (Leaves e' j)))
    jump_alike e e' (Ok j) g a h = subst (λ r. AlikeOut l R (just (Leaves e j)) (with_got r (λ j. just (Leaves e' j)))) (sym h) (record { assignments = refl; reports = refl; end = (a, refl) })
    jump_alike e e' (Err s) g a h = subst (λ r. AlikeOut l R (just (Stops s)) (with_got r (λ j. just (Leaves e' j)))) (sym h) (stops_alike s s refl)

    -- what comes after a command, from related ends and, where the command is suspended, with related rests
    then_alike : (S : Command → Command → Type 0) (sent sent' : List Assignment) (said said' : List Report) (x x' : End) (c c' : Command) (go go' : Env → Out) → sent' ≡ sent → said' ≡ said → AlikeEnds l S x x' → ((a b : Command) → S a b → R (Then a c) (Then b c')) → ((e e' : Env) → Agree l e e' → AlikeOut l R (go e) (go' e')) → AlikeOut l R (then_from sent said x c go) (then_from sent' said' x' c' go')
    then_alike S sent sent' said said' (Ends e) (Ends e') c c' go go' a r h k same = behind_alike sent sent' said said' (go e) (go' e') a r (same e e' h)
    then_alike S sent sent' said said' (Suspends e p b) (Suspends e' q b') c c' go go' a r h k same =
        record { assignments = a; reports = r; end = record { env = h.env; pause = h.pause; rest = k b b' h.rest } }
    then_alike S sent sent' said said' (Leaves e j) (Leaves e' j') c c' go go' a r h k same = record { assignments = a; reports = r; end = h }
    then_alike S sent sent' said said' (Stops s) (Stops t) c c' go go' a r h k same = record { assignments = a; reports = r; end = h }
    then_alike S sent sent' said said' _ _ c c' go go' a r h k same = absurd h

    -- a turn of a loop that is left
    left_alike : (loop : Option ℕ) → (sent sent' : List Assignment) (said said' : List Report) (e e' : Env) (j j' : Jump) (go go' : Env → Out) → sent' ≡ sent → said' ≡ said → Agree l e e' → j' ≡ jump_in l j → ((e e' : Env) → Agree l e e' → AlikeOut l R (go e) (go' e')) → AlikeOut l R (left_by loop sent said e j go) (left_by (number_in l loop) sent' said' e' j' go')
    left_alike loop sent sent' said said' e e' (Exit k) j' go go' a r h eq same =
        subst (λ i. AlikeOut l R (left_by loop sent said e (Exit k) go) (left_by (number_in l loop) sent' said' e' i go')) (sym eq)
        (both (means_loop loop k) (means_loop (number_in l loop) (number_in l k)) _ _ _ _ (means_same loop k) (record { assignments = a; reports = r; end = h }) (record { assignments = a; reports = r; end = (h, refl) }))
    left_alike loop sent sent' said said' e e' (Next k) j' go go' a r h eq same =
        subst (λ i. AlikeOut l R (left_by loop sent said e (Next k) go) (left_by (number_in l loop) sent' said' e' i go')) (sym eq)
        (both (means_loop loop k) (means_loop (number_in l loop) (number_in l k)) _ _ _ _ (means_same loop k) (behind_alike sent sent' said said' (go e) (go' e') a r (same e e' h)) (record { assignments = a; reports = r; end = (h, refl) }))
    left_alike loop sent sent' said said' e e' (Return v) j' go go' a r h eq same =
        subst (λ i. AlikeOut l R (left_by loop sent said e (Return v) go) (left_by (number_in l loop) sent' said' e' i go')) (sym eq)
        (record { assignments = a; reports = r; end = (h, refl) })

    turn_alike : (S : Command → Command → Type 0) (loop : Option ℕ) → (sent sent' : List Assignment) (said said' : List Report) (x x' : End) (c c' : Command) (go go' : Env → Out) → sent' ≡ sent → said' ≡ said → AlikeEnds l S x x' → ((a b : Command) → S a b → R (Turning loop a c) (Turning (number_in l loop) b c')) → ((e e' : Env) → Agree l e e' → AlikeOut l R (go e) (go' e')) → AlikeOut l R (turn_from loop sent said x c go) (turn_from (number_in l loop) sent' said' x' c' go')
    turn_alike S loop sent sent' said said' (Ends e) (Ends e') c c' go go' a r h k same = behind_alike sent sent' said said' (go e) (go' e') a r (same e e' h)
    turn_alike S loop sent sent' said said' (Suspends e p b) (Suspends e' q b') c c' go go' a r h k same =
        record { assignments = a; reports = r; end = record { env = h.env; pause = h.pause; rest = k b b' h.rest } }
    turn_alike S loop sent sent' said said' (Leaves e j) (Leaves e' j') c c' go go' a r h k same = left_alike loop sent sent' said said' e e' j j' go go' a r h.0 h.1 same
    turn_alike S loop sent sent' said said' (Stops s) (Stops t) c c' go go' a r h k same = record { assignments = a; reports = r; end = h }
    turn_alike S loop sent sent' said said' _ _ c c' go go' a r h k same = absurd h

    again_alike : (S : Command → Command → Type 0) (loop : Option ℕ) → (o o' : Out) (c c' : Command) (go go' : Env → Out) → AlikeOut l S o o' → ((a b : Command) → S a b → R (Turning loop a c) (Turning (number_in l loop) b c')) → ((e e' : Env) → Agree l e e' → AlikeOut l R (go e) (go' e')) → AlikeOut l R (and_again loop o c go) (and_again (number_in l loop) o' c' go')
    again_alike S loop o o' c c' go go' h k same =
        turn_alike S loop o.assignments o'.assignments o.reports o'.reports o.end o'.end c c' go go' h.assignments h.reports h.end k same

  -- ---- commands

  weaker_ends : (R S : Command → Command → Type 0) → ((a b : Command) → R a b → S a b) → (x x' : End) → AlikeEnds l R x x' → AlikeEnds l S x x'
  weaker_ends R S w (Ends e) (Ends e') h = h
  weaker_ends R S w (Suspends e p b) (Suspends e' q b') h = record { env = h.env; pause = h.pause; rest = w b b' h.rest }
  weaker_ends R S w (Leaves e j) (Leaves e' j') h = h
  weaker_ends R S w (Stops s) (Stops t) h = h
  weaker_ends R S w _ _ h = absurd h

  fewer_waits : (n : ℕ) (c d : Command) → AlikeUpTo l (suc n) c d → AlikeUpTo l n c d
  fewer_waits zero c d h = tt
  fewer_waits (suc n) c d h = λ e e' a.
      let o = h e e' a in
      record { assignments = o.assignments; reports = o.reports; end = weaker_ends _ _ (fewer_waits n) _ _ o.end }

  pub skips_alike : AlikeCommands l Skip Skip
  skips_alike zero = tt
  skips_alike (suc n) = λ e e' a. record { assignments = refl; reports = refl; end = a }

  pub acts_alike : (f g : Env → Effect) → ((e e' : Env) → Agree l e e' → AlikeEffect l (f e) (g e')) → AlikeCommands l (Act f) (Act g)
  acts_alike f g h zero = tt
  acts_alike f g h (suc n) = λ e e' a. effect_alike _ (f e) (g e') (h e e' a)

  then_up_to : (b d : Command) → AlikeCommands l b d → (n : ℕ) (a c : Command) → AlikeUpTo l n a c → AlikeUpTo l n (Then a b) (Then c d)
  then_up_to b d k zero a c h = tt
  then_up_to b d k (suc n) a c h = λ e e' g.
      let o = h e e' g in
      then_alike (AlikeUpTo l n) (AlikeUpTo l n) _ _ _ _ _ _ b d (run b) (run d) o.assignments o.reports o.end (then_up_to b d k n) (k (suc n))

  pub sequences_alike : (a b c d : Command) → AlikeCommands l a c → AlikeCommands l b d → AlikeCommands l (Then a b) (Then c d)
  sequences_alike a b c d h k n = then_up_to b d k n a c (h n)

  pub choices_alike : (t u : Env → Got Bool) (a b c d : Command) → Alike l t u → AlikeCommands l a c → AlikeCommands l b d → AlikeCommands l (Choose t a b) (Choose u c d)
  choices_alike t u a b c d x h k zero = tt
  choices_alike t u a b c d x h k (suc n) = λ e e' g.
      got_alike _ (t e) (u e') _ _ (at t u x e e' g) (λ b. chosen_alike _ b _ _ _ _ (h (suc n) e e' g) (k (suc n) e e' g))

  turning_up_to : (loop : Option ℕ) (n : ℕ) → (b d : Command) → AlikeUpTo l n b d → (a c : Command) → AlikeUpTo l n a c → AlikeUpTo l n (Turning loop a b) (Turning (number_in l loop) c d)
  turning_up_to loop zero b d k a c h = tt
  turning_up_to loop (suc n) b d k a c h = λ e e' g.
      again_alike (AlikeUpTo l n) (AlikeUpTo l n) loop (run a e) (run c e') b d (run b) (run d) (h e e' g) (turning_up_to loop n b d (fewer_waits n b d k)) k

  -- a loop over these values
  turns_up_to : (loop : Option ℕ) (parameter : ℕ) → (body body' : Command) → AlikeCommands l body body' → (vs : List (Value Scalar)) (n : ℕ) → AlikeUpTo l n (Each loop parameter (λ _. Ok vs) body) (Each (number_in l loop) (l.number parameter) (λ _. Ok vs) body')
  turns_up_to loop p body body' h vs zero = tt
  turns_up_to loop p body body' h [] (suc n) = λ e e' g. record { assignments = refl; reports = refl; end = g }
  turns_up_to loop p body body' h (v ∷ vs) (suc n) = λ e e' g.
      again_alike (AlikeUpTo l n) (AlikeUpTo l n) loop _ _ (Each loop p (λ _. Ok vs) body) (Each (number_in l loop) (l.number p) (λ _. Ok vs) body') _ _
      (h (suc n) _ _ (value_agrees e e' p v g))
      (turning_up_to loop n _ _ (turns_up_to loop p body body' h vs n))
      (turns_up_to loop p body body' h vs (suc n))

  pub loops_alike : (loop : Option ℕ) (parameter : ℕ) → (vs ws : Env → Got (List (Value Scalar))) (body body' : Command) → Alike l vs ws → AlikeCommands l body body' → AlikeCommands l (Each loop parameter vs body) (Each (number_in l loop) (l.number parameter) ws body')
  loops_alike loop p vs ws body body' x h zero = tt
  loops_alike loop p vs ws body body' x h (suc n) = λ e e' g.
      got_alike _ (vs e) (ws e') _ _ (at vs ws x e e' g) (λ us. turns_up_to loop p body body' h us (suc n) e e' g)

  while_up_to : (loop : Option ℕ) → (t u : Env → Got Bool) (body body' : Command) → Alike l t u → AlikeCommands l body body' → (n : ℕ) → AlikeUpTo l n (While loop t body) (While (number_in l loop) u body')
  while_up_to loop t u body body' x h zero = tt
  while_up_to loop t u body body' x h (suc n) = λ e e' g.
      got_alike _ (t e) (u e') _ _ (at t u x e e' g) (λ b. chosen_alike _ b _ _ _ _
      (again_alike (AlikeUpTo l n) (AlikeUpTo l n) loop _ _ (While loop t body) (While (number_in l loop) u body') _ _ (h (suc n) e e' g)
      (turning_up_to loop n _ _ (while_up_to loop t u body body' x h n)) (λ e e' g. stops_alike _ _ _ refl))
      (record { assignments = refl; reports = refl; end = g }))

  pub whiles_alike : (loop : Option ℕ) → (t u : Env → Got Bool) (body body' : Command) → Alike l t u → AlikeCommands l body body' → AlikeCommands l (While loop t body) (While (number_in l loop) u body')
  whiles_alike loop t u body body' x h n = while_up_to loop t u body body' x h n

  pub waits_alike : (p q : Env → Got Pause) → ((e e' : Env) → Agree l e e' → AlikePauses l (p e) (q e')) → AlikeCommands l (Wait p) (Wait q)
  waits_alike p q h zero = tt
  waits_alike p q h (suc n) = λ e e' g. pause_alike _ (skips_alike n) e e' (p e) (q e') g (h e e' g)

  pub jumps_alike : (f g : Env → Got Jump) → ((e e' : Env) → Agree l e e' → g e' ≡ (f e >>= λ j. Ok (jump_in l j))) → AlikeCommands l (Leave f) (Leave g)
  jumps_alike f g h zero = tt
  jumps_alike f g h (suc n) = λ e e' a. jump_alike _ e e' (f e) (g e') a (h e e' a)
