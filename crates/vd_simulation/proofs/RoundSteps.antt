-- A round, one process after another.
use Rattle.std.proofs.Common.{◌≡◌, ℕ, suc, ◌+◌, ◌<◌, List, [], ◌∷◌, ◌++◌, length, take, drop, set, get_or, Some, None, map, refl, sym, ap, ◌∙◌, subst, arith, append_assoc, append-nil, add-one}
use Rattle.std.proofs.Math.Seq.{drop-cons, drop-length, take-length}
use Rattle.std.proofs.lemmas.List.{take_more_set, map-append, drop-set-lt}
use Rattle.vd_values.specs.declared.scalar.StopKind.{StopKind}
use Rattle.vd_trees.specs.declared.traces.Report.{Report}
use Rattle.vd_kernel.specs.Drivers.{Driver, after_assignments}
use Rattle.vd_kernel.specs.Models.{Paused, Ending, Waits, Stops, Turn}
use Rattle.vd_kernel.specs.Cycles.{Round, and_then, round}
use Rattle.vd_simulation.specs.declared.round.ProcessStop.{ProcessStop as StopCode}
use Rattle.vd_simulation.specs.Rounds.{HasEnded, IsRound, stop_of}

-- a round behind what came before
abbrev pub prefixed : {S : Type 0} → List Report → List (Paused S) → Round S → Round S
prefixed rs ps r = record { drivers = r.drivers; reports = rs ++ r.reports; processes = ps ++ r.processes; stop = r.stop }

ended_none : {S : Type 0} (p : Paused S) (e : Ending S) → HasEnded None p e → e ≡ Waits p
ended_none p (Waits q) z = ap Waits (sym z)
ended_none p (Stops k) z = absurd z

ended_some : {S : Type 0} (k : StopKind) (p : Paused S) (e : Ending S) → HasEnded (Some k) p e → e ≡ Stops k
ended_some k p (Waits q) z = absurd z
ended_some k p (Stops l) z = ap Stops (sym z)

module _ {A S : Type 0} (pa : A → Paused S) (act : Paused S → Turn S) where
  -- what is left of the round from a place on
  abbrev pub left : ℕ → List A → List Driver → Round S
  left i ws ds = round i (map act (map pa (drop i ws))) ds

  opened : (i : ℕ) (ws : List A) (ds : List Driver) (w : A) → i < length ws → w ≡ get_or ws i w → left i ws ds ≡ round i (act (pa w) ∷ map act (map pa (drop (suc i) ws))) ds
  opened i ws ds w h e =
      ap (λ xs. round i (map act (map pa xs)) ds) (drop-cons ws i w h)
      ∙ ap (λ x. round i (act (pa x) ∷ map act (map pa (drop (suc i) ws))) ds) (sym e)

  -- a process that goes on
  pub goes_on : (i : ℕ) (ws : List A) (ds : List Driver) (rs : List Report) (w w' : A) → i < length ws → w ≡ get_or ws i w → HasEnded None (pa w') (act (pa w)).ending → prefixed rs (map pa (take i ws)) (left i ws ds) ≡ prefixed (rs ++ (act (pa w)).reports) (map pa (take (i + 1) (set ws i w'))) (left (i + 1) (set ws i w') (after_assignments ds (act (pa w)).assignments))
  goes_on i ws ds rs w w' h e z =
      let t = act (pa w) in
      let after = after_assignments ds t.assignments in
      let rest = map act (map pa (drop (suc i) ws)) in
      let R = round (suc i) rest after in
      let first = map pa (take i ws) in
      let mk : List Report → List (Paused S) → Round S = λ a b. record { drivers = R.drivers; reports = a; processes = b; stop = R.stop } in
      let e1 : left i ws ds ≡ mk (t.reports ++ R.reports) (pa w' ∷ R.processes) =
      opened i ws ds w h e ∙ ap (λ en. and_then en i t.reports after R) (ended_none (pa w') t.ending z) in
      let next : left (i + 1) (set ws i w') after ≡ R =
      ap (λ n. round n (map act (map pa (drop n (set ws i w')))) after) (add-one i)
      ∙ ap (λ xs. round (suc i) (map act (map pa xs)) after) (drop-set-lt (suc i) ws i w' (omega arith)) in
      let taken : map pa (take (i + 1) (set ws i w')) ≡ first ++ pa w' ∷ [] =
      ap (map pa) (take_more_set ws i w' h) ∙ map-append pa (take i ws) (w' ∷ []) in
      ap (prefixed rs first) e1
      ∙ ap (λ a. mk a (first ++ pa w' ∷ R.processes)) (sym (append_assoc rs t.reports R.reports))
      ∙ ap (mk ((rs ++ t.reports) ++ R.reports)) (sym (append_assoc first (pa w' ∷ []) R.processes) ∙ ap (λ b. b ++ R.processes) (sym taken))
      ∙ ap (prefixed (rs ++ t.reports) (map pa (take (i + 1) (set ws i w')))) (sym next)

  -- a process that stops
  pub stops : (i : ℕ) (k : StopKind) (ws : List A) (ds : List Driver) (rs : List Report) (w w' : A) → i < length ws → w ≡ get_or ws i w → HasEnded (Some k) (pa w') (act (pa w)).ending → prefixed rs (map pa (take i ws)) (left i ws ds) ≡ record { drivers = after_assignments ds (act (pa w)).assignments; reports = rs ++ (act (pa w)).reports; processes = map pa (take i ws) ++ []; stop = Some (record { kind = k; process = i }) }
  stops i k ws ds rs w w' h e z =
      let t = act (pa w) in
      let after = after_assignments ds t.assignments in
      let rest = map act (map pa (drop (suc i) ws)) in
      let R = round (suc i) rest after in
      ap (prefixed rs (map pa (take i ws))) (opened i ws ds w h e ∙ ap (λ en. and_then en i t.reports after R) (ended_some k (pa w') t.ending z))

  -- after the last process
  pub all_done : (ws : List A) (ds : List Driver) (rs : List Report) → prefixed rs (map pa (take (length ws) ws)) (left (length ws) ws ds) ≡ record { drivers = ds; reports = rs; processes = map pa ws; stop = None }
  all_done ws ds rs =
      let mk : List Report → List (Paused S) → Round S = λ a b. record { drivers = ds; reports = a; processes = b; stop = None } in
      ap (λ xs. prefixed rs (map pa (take (length ws) ws)) (round (length ws) (map act (map pa xs)) ds)) (drop-length ws)
      ∙ ap (λ a. mk a (map pa (take (length ws) ws) ++ [])) (append-nil rs)
      ∙ ap (mk rs) (append-nil (map pa (take (length ws) ws)) ∙ ap (map pa) (take-length ws))

pub stopped_round : {S : Type 0} (s : StopCode) (ds ds' : List Driver) (rs rs' : List Report) (ps qs : List (Paused S)) (r : Round S) → ds ≡ ds' → rs ≡ rs' → r ≡ record { drivers = ds'; reports = rs'; processes = qs; stop = Some (stop_of s) } → IsRound (Some s) ds rs ps r
stopped_round s ds ds' rs rs' ps qs r d e h =
    subst (IsRound (Some s) ds rs ps) (sym h) (record { drivers_are = d; reports_are = e; stop_is = refl; processes_are = tt })

pub whole_round : {S : Type 0} (ds : List Driver) (rs : List Report) (ps : List (Paused S)) (r : Round S) → r ≡ record { drivers = ds; reports = rs; processes = ps; stop = None } → IsRound None ds rs ps r
whole_round ds rs ps r h =
    subst (IsRound None ds rs ps) (sym h) (record { drivers_are = refl; reports_are = refl; stop_is = refl; processes_are = refl })
