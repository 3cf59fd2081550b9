-- Alike processes take the same turns, so their designs have the same run.
use Rattle.std.proofs.Common.{◌≡◌, ℕ, suc, Bool, true, false, List, ◌++◌, refl, sym, ap, subst}
use Rattle.std.specs.Prelude.{Ok, Err, if◌then◌else◌}
use Rattle.vd_trees.specs.declared.traces.Report.{Report}
use Rattle.vd_kernel.specs.declared.assignments.Assignment.{Assignment}
use Rattle.vd_kernel.specs.Models.{View, Cause, Start, Wake, Turn}
use Rattle.vd_kernel.specs.Cycles.{has_event}
use Rattle.vd_kernel.specs.Correspondence.{SameView, SameTurn, SameEnding}
use Rattle.vd_kernel.proofs.SameRuns.{same_run}
use Rattle.vd_environments.specs.Got.{Got}
use Rattle.vd_environments.specs.Environments.{seeing, Env}
use Rattle.vd_environments.specs.Commands.{Command, End, Ends, Suspends, Leaves, Stops, Out, run}
use Rattle.vd_environments.specs.Processes.{Running, from_first, last_report, ending_of, turn_of, resumed, waiting, resumed_if, step, model}
use Rattle.vd_meaning_laws.specs.Agreement.{Link, IsApart, Agree, AlikeUpTo, AlikeCommands, AlikeEnds, AlikeOut, AlikeRunning}
use Rattle.vd_meaning_laws.specs.Laws.{AlikeProcessesRunAlike}
use Rattle.vd_meaning_laws.proofs.Agreeing.{at, view_agrees, behind_alike}

abbrev Same : ℕ → ℕ → Type 0
Same i j = i ≡ j

module _ (l : Link) (numbers : IsApart l) where
  -- ends that are alike up to any number of waits
  all_ends : (x x' : End) → ((n : ℕ) → AlikeEnds l (AlikeUpTo l n) x x') → AlikeEnds l (AlikeCommands l) x x'
  all_ends (Ends e) (Ends e') h = h 0
  all_ends (Suspends e p a) (Suspends e' q b) h = record { env = (h 0).env; pause = (h 0).pause; rest = λ n. (h n).rest }
  all_ends (Leaves e j) (Leaves e' k) h = h 0
  all_ends (Stops s) (Stops t) h = h 0
  all_ends _ _ h = absurd (h 0)

  runs_alike : (c d : Command) → AlikeCommands l c d → (e e' : Env) → Agree l e e' → AlikeOut l (AlikeCommands l) (run c e) (run d e')
  runs_alike c d h e e' a =
      let o = h 1 e e' a in
      record { assignments = o.assignments; reports = o.reports; end = all_ends _ _ (λ n. (h (suc n) e e' a).end) }

  on_alike : (sent sent' : List Assignment) (said said' : List Report) (x x' : End) (c d : Command) → sent' ≡ sent → said' ≡ said → AlikeEnds l (AlikeCommands l) x x' → AlikeCommands l c d → AlikeOut l (AlikeCommands l) (from_first sent said x c) (from_first sent' said' x' d)
  on_alike sent sent' said said' (Ends e) (Ends e') c d a r h k = behind_alike l numbers (AlikeCommands l) sent sent' said said' _ _ a r (runs_alike c d k e e' h)
  on_alike sent sent' said said' (Suspends e p b) (Suspends e' q b') c d a r h k = record { assignments = a; reports = r; end = h }
  on_alike sent sent' said said' (Leaves e j) (Leaves e' j') c d a r h k = record { assignments = a; reports = r; end = h }
  on_alike sent sent' said said' (Stops s) (Stops t) c d a r h k = record { assignments = a; reports = r; end = h }
  on_alike sent sent' said said' _ _ c d a r h k = absurd h

  same_view : (v w : View) → SameView Same v w → w ≡ v
  same_view v w s = λ i. record { time = sym s.time i; value = λ n. sym (s.value n n refl) i; shown = λ n. sym (s.shown n n refl) i; before = λ n. sym (s.before n n refl) i }

  events_alike : (on on' : List ℕ) → on' ≡ on → (v w : View) → SameView Same v w → has_event v on ≡ has_event w on'
  events_alike on on' e v w s = λ i. has_event (sym (same_view v w s) i) (sym e i)

  ending_alike : (c d : Command) (x x' : End) → AlikeCommands l c d → AlikeEnds l (AlikeCommands l) x x' → SameEnding Same (AlikeRunning l) (ending_of c x) (ending_of d x')
  ending_alike c d (Suspends e p b) (Suspends e' q b') k h =
      record {
        state = record { env = h.env; body = k; rest = h.rest; until = h.pause.until; on = h.pause.on; timeout = h.pause.timeout };
        on = events_alike p.on q.on h.pause.on;
        timeout = sym h.pause.timeout;
      }
  ending_alike c d (Stops s) (Stops t) k h = ap (λ s. s.kind) (sym h)
  ending_alike c d (Ends e) (Ends e') k h = refl
  ending_alike c d (Leaves e j) (Leaves e' j') k h = refl
  ending_alike c d _ _ k h = absurd h

  last_same : (x x' : End) → AlikeEnds l (AlikeCommands l) x x' → last_report x ≡ last_report x'
  last_same (Ends e) (Ends e') h = refl
  last_same (Suspends e p b) (Suspends e' q b') h = refl
  last_same (Leaves e j) (Leaves e' j') h = refl
  last_same (Stops s) (Stops t) h = ap (λ s. last_report (Stops s)) (sym h)
  last_same _ _ h = absurd h

  turn_alike : (c d : Command) (o o' : Out) → AlikeCommands l c d → AlikeOut l (AlikeCommands l) o o' → SameTurn Same (AlikeRunning l) (turn_of c o) (turn_of d o')
  turn_alike c d o o' k h =
      record { assignments = sym h.assignments; reports = λ i. sym h.reports i ++ last_same o.end o'.end h.end i; ending = ending_alike c d o.end o'.end k h.end }

  module _ (p q : Running) (h : AlikeRunning l p q) (v w : View) (s : SameView Same v w) where
    seeing_alike : Agree l (seeing v p.env) (seeing w q.env)
    seeing_alike = view_agrees l numbers p.env q.env v w (same_view v w s) h.env

    resumed_alike : SameTurn Same (AlikeRunning l) (resumed p v) (resumed q w)
    resumed_alike =
        let o = runs_alike p.rest q.rest h.rest _ _ seeing_alike in
        turn_alike p.body q.body _ _ h.body (on_alike _ _ _ _ _ _ p.body q.body o.assignments o.reports o.end h.body)

    waiting_alike : SameTurn Same (AlikeRunning l) (waiting p) (waiting q)
    waiting_alike = record { assignments = refl; reports = refl; ending = record { state = h; on = events_alike p.on q.on h.on; timeout = sym h.timeout } }

    choice : (b : Bool) (t t' u u' : Turn Running) → SameTurn Same (AlikeRunning l) t u → SameTurn Same (AlikeRunning l) t' u' → SameTurn Same (AlikeRunning l) (if b then t else t') (if b then u else u')
    choice true t t' u u' x y = x
    choice false t t' u u' x y = y

    decided : (g : Got Bool) → SameTurn Same (AlikeRunning l) (resumed_if p v g) (resumed_if q w g)
    decided (Ok b) = choice b _ _ _ _ resumed_alike waiting_alike
    decided (Err s) = record { assignments = refl; reports = refl; ending = refl }

    step_alike : (c : Cause) → SameTurn Same (AlikeRunning l) (step p c v) (step q c w)
    step_alike Start = resumed_alike
    step_alike (Wake event due) =
        choice due _ _ _ _ resumed_alike
        (subst (λ g. SameTurn Same (AlikeRunning l) (resumed_if p v (p.until (seeing v p.env))) (resumed_if q w g)) (sym (at l numbers p.until q.until h.until _ _ seeing_alike)) (decided (p.until (seeing v p.env))))

pub processes_run_alike : AlikeProcessesRunAlike
processes_run_alike l numbers m n shape ps qs h =
    same_run Same (AlikeRunning l) (model m ps) (model n qs) (record { shape = shape; starts = h; steps = λ p q r c v w s. step_alike l numbers p q r v w s c })
