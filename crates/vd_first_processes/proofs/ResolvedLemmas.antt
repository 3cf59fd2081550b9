-- Resolved processes do what the processes do whose names they resolve.
use Rattle.std.proofs.Common.{◌≡◌, ℕ, ◌+◌, List, [], ◌∷◌, map, refl, sym, ap, ap₂, subst}
use Rattle.std.specs.List.{AllZip}
use Rattle.vd_forest.specs.Forest.{Forest, nothing, more, next_of}
use Rattle.vd_first_trees.specs.declared.form.Form.{Form}
use Rattle.vd_kernel.specs.declared.assignments.Assignment.{Assignment}
use Rattle.vd_kernel.specs.declared.assignments.Delay.TheVariants.{Inertial}
use Rattle.vd_kernel.specs.Models.{View, Cause, Shape}
use Rattle.vd_kernel.specs.Correspondence.{SameTurn, Corresponds}
use Rattle.vd_kernel.specs.States.{SameSteps}
use Rattle.vd_kernel.proofs.ListPairs.{AllZip-itself}
use Rattle.vd_kernel.proofs.OneView.{corresponds_over_one_view}
use Rattle.vd_kernel.proofs.OwnRuns.{own_shape}
use Rattle.vd_kernel.proofs.SameRuns.{same_events, same_steps}
use Rattle.vd_simulation.specs.Simulations.{modelled}
use Rattle.vd_first_elaboration.specs.Processes as definitions
use Rattle.vd_first_elaboration.specs.Processes.{Process, number_of, scalar_of, target_of, driven_by, statements_of, object_value, assignments}
use Rattle.vd_first_processes.specs.Resolved.{signal_value, assigned, step, resolved_assignments, resolved, IsResolved}
use Rattle.vd_first_processes.proofs.OperationLemmas.{same_value}

module _ (names : List (List ℕ)) where
  same_assignments : (v : View) (first : ℕ) (targets : List (List ℕ)) (f : Forest Form) → map (assigned v) (resolved_assignments (number_of names) first targets f) ≡ assignments (object_value names v) v.time first targets f
  same_assignments v first targets nothing = refl
  same_assignments v first targets (more f t p parts next) =
      ap₂ (λ (a : Assignment) made. a ∷ made)
      (ap (λ x. record { driver = first + number_of targets (target_of parts); delay = Inertial; new = record { time = v.time; value = scalar_of x } }) (same_value (signal_value v) (number_of names) (next_of parts)))
      (same_assignments v first targets next)

  same_turn : (p : Process) (c : Cause) (v : View) → SameTurn (λ i j. i ≡ j) (IsResolved names) (step (resolved (number_of names) p) c v) (definitions.step names p c v)
  same_turn p c v =
      let on = (resolved (number_of names) p).on in
      record {
        assignments = same_assignments v p.first_driver (driven_by p.parts) (statements_of p.parts);
        reports = refl;
        ending = record { state = refl; on = same_events (λ i j. i ≡ j) on on (AllZip-itself (λ i j. i ≡ j) (λ i. refl) on); timeout = refl };
      }

  all_resolved : (ps : List Process) → AllZip (IsResolved names) (map (resolved (number_of names)) ps) ps
  all_resolved [] = tt
  all_resolved (p ∷ ps) = (refl, all_resolved ps)

  -- A design whose processes are resolved corresponds to the design.
  resolved_corresponds : (shape : Shape) (ps : List Process) → Corresponds (λ i j. i ≡ j) (IsResolved names) (modelled shape step (map (resolved (number_of names)) ps)) (modelled shape (definitions.step names) ps)
  resolved_corresponds shape ps =
      corresponds_over_one_view (λ i. i) (IsResolved names) _ _ (own_shape shape)
      (all_resolved ps)
      (λ r p is c w. subst (λ x. SameTurn (λ i j. i ≡ j) (IsResolved names) (step x c w) (definitions.step names p c w)) (sym is) (same_turn p c w))

  -- So it goes through the same steps.
  pub resolved_steps : (shape : Shape) (ps : List Process) → SameSteps (λ i j. i ≡ j) (IsResolved names) (modelled shape step (map (resolved (number_of names)) ps)) (modelled shape (definitions.step names) ps)
  resolved_steps shape ps = same_steps (λ i j. i ≡ j) (IsResolved names) _ _ (resolved_corresponds shape ps)
