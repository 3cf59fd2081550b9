-- One map behind another.
use Rattle.std.proofs.Common.{◌≡◌, ◌<◌, ◌≤◌, ℕ, length, Option, Some, ◌⊎◌, inl, inr, sym, ◌∙◌, subst, arith}
use Rattle.std.proofs.lemmas.Bool.{cases_lt}
use Rattle.std.specs.Prelude.{slice_get}
use Rattle.vd_kernel.specs.Models.{Model}
use Rattle.vd_kernel.specs.Stimuli.{SameInputs, SameRunAtInputs}
use Rattle.vd_kernel.specs.Correspondence.{SameRun}
use Rattle.vd_kernel.specs.Composition.{Through, LeadsBack}
use Rattle.vd_kernel.proofs.ListPairs.{AllZip-through}
use Rattle.vd_kernel.proofs.ThroughRuns.{run_through}
use Rattle.vd_kernel.proofs.OtherJoins.{run_by_join}
use Rattle.vd_kernel.proofs.AtInputs.{same_run_at_inputs}
use Rattle.vd_meaning.specs.Building.{ScalarObject, Placed, Made}
use Rattle.vd_meaning.specs.Elaborations.{shape_of, model_of, signal_scope}
use Rattle.vd_joins.specs.Joins.{Joining}
use Rattle.vd_maps.specs.SameRuns.{Joins, ScopesJoin, IsSameRun}
use Rattle.vd_maps.specs.WholeMaps.{HasOne, JoinOneToOne}
use Rattle.vd_maps.specs.Laws.{Compose, RunsCompose, JoinsCompose}
use Rattle.vd_maps.proofs.Inputs.{inputs_are_inputs, there}

-- a run that is the same whatever the outside does elsewhere is the same where it does the same everywhere
plain_run : {P Q : Type 0} (joined : ℕ → ℕ → Type 0) (m : Model P) (n : Model Q) → SameRunAtInputs joined m n → SameRun joined m n
plain_run joined m n r = record { traces = λ given other same cycles. r.traces given other (λ i j e x. same i j e) cycles }

one_of : (x y : ScalarObject) (o : Option ScalarObject) → o ≡ Some x → o ≡ Some y → x ≡ y
one_of x y o e f = cc

module _ (first second whole : Joining) (m n o : Made) (c : Compose first second whole m n o) (one : JoinOneToOne first m n) where
  abbrev First : ℕ → ℕ → Type 0
  First = Joins first m n

  abbrev Second : ℕ → ℕ → Type 0
  Second = Joins second n o

  abbrev Whole : ℕ → ℕ → Type 0
  Whole = Joins whole m o

  -- ---- the way back

  abbrev back_from : (j : ℕ) → (j < length n.signals) ⊎ (length n.signals ≤ j) → ℕ
  back_from j (inl h) = (one.each_right j h).number
  back_from j (inr h) = 0

  abbrev back : ℕ → ℕ
  back j = back_from j (cases_lt j (length n.signals))

  back_is_one : (i j : ℕ) → First i j → (x : (j < length n.signals) ⊎ (length n.signals ≤ j)) → back_from j x ≡ i
  back_is_one i j e (inl h) = sym ((one.each_right j h).only i e)
  back_is_one i j e (inr h) = let k = there n.signals j e.right e.right_is in absurd (omega arith)

  back_joins : (j k : ℕ) → Second j k → (x : (j < length n.signals) ⊎ (length n.signals ≤ j)) → First (back_from j x) j
  back_joins j k e (inl h) = (one.each_right j h).is_related
  back_joins j k e (inr h) = let b = there n.signals j e.left e.left_is in absurd (omega arith)

  leads : LeadsBack back First Second
  leads =
      record {
        is_one = λ i j e. back_is_one i j e (cases_lt j (length n.signals));
        joins = λ j k e. back_joins j k e (cases_lt j (length n.signals));
      }

  -- ---- the run

  whole_inputs : SameInputs Whole (shape_of m) (shape_of o)
  whole_inputs =
      record {
        first = inputs_are_inputs m;
        second = inputs_are_inputs o;
        driver = λ i k e. let z = c.signals.back i k e in c.first_inputs i z.0 z.1 ∙ c.second_inputs z.0 k z.2;
      }

  whole_run : SameRunAtInputs First (model_of m) (model_of n) → SameRunAtInputs Second (model_of n) (model_of o) → SameRunAtInputs Whole (model_of m) (model_of o)
  whole_run r s =
      same_run_at_inputs Whole (model_of m) (model_of o) whole_inputs
      (run_by_join (Through First Second) Whole c.signals.forth c.signals.back (model_of m) (model_of o)
      (run_through First Second (model_of m) (model_of n) (model_of o) back leads (plain_run First _ _ r) (plain_run Second _ _ s)))

  -- ---- places

  declared_by : (i k : ℕ) (x : Whole i k) (j : ℕ) (a : First i j) (b : Second j k)
      → ScopesJoin first (signal_scope (Some a.left)) (signal_scope (Some a.right)) → ScopesJoin second (signal_scope (Some b.left)) (signal_scope (Some b.right))
      → ScopesJoin whole (signal_scope (Some x.left)) (signal_scope (Some x.right))
  declared_by i k x j a b p q =
      let left : a.left ≡ x.left = one_of _ _ (slice_get m.signals i) a.left_is x.left_is in
      let between : b.left ≡ a.right = one_of _ _ (slice_get n.signals j) b.left_is a.right_is in
      let right : b.right ≡ x.right = one_of _ _ (slice_get o.signals k) b.right_is x.right_is in
      subst (λ z. ScopesJoin whole (signal_scope (Some z)) (signal_scope (Some x.right))) left
      (subst (λ z. ScopesJoin whole (signal_scope (Some a.left)) (signal_scope (Some z))) right
      (c.scopes (signal_scope (Some a.left)) (signal_scope (Some a.right)) (signal_scope (Some b.right)) p
      (subst (λ z. ScopesJoin second (signal_scope (Some z)) (signal_scope (Some b.right))) between q)))

  composed : IsSameRun first m n → IsSameRun second n o → IsSameRun whole m o
  composed r s =
      record {
        run = whole_run r.run s.run;
        scopes =
            AllZip-through (λ (p q : Placed). ScopesJoin first p.scope q.scope) (λ (p q : Placed). ScopesJoin second p.scope q.scope)
            (λ (p q : Placed). ScopesJoin whole p.scope q.scope) (λ p q t. c.scopes p.scope q.scope t.scope) m.processes n.processes o.processes r.scopes s.scopes;
        declared = λ i k x. let z = c.signals.back i k x in declared_by i k x z.0 z.1 z.2 (r.declared i z.0 z.1) (s.declared z.0 k z.2);
      }

  -- ---- signals, one to one

  module _ (two : JoinOneToOne second n o) where
    left_one : (i : ℕ) → i < length m.signals → HasOne (λ k. Whole i k)
    left_one i h =
        let a = one.each_left i h in
        let b = two.each_left a.number (there n.signals a.number a.is_related.right a.is_related.right_is) in
        record {
          number = b.number;
          is_related = c.signals.forth i b.number (a.number, a.is_related, b.is_related);
          only = λ k x.
              let z = c.signals.back i k x in
              b.only k (subst (λ j. Second j k) (a.only z.0 z.1) z.2);
        }

    right_one : (k : ℕ) → k < length o.signals → HasOne (λ i. Whole i k)
    right_one k h =
        let b = two.each_right k h in
        let a = one.each_right b.number (there n.signals b.number b.is_related.left b.is_related.left_is) in
        record {
          number = a.number;
          is_related = c.signals.forth a.number k (b.number, a.is_related, b.is_related);
          only = λ i x.
              let z = c.signals.back i k x in
              a.only i (subst (λ j. First i j) (b.only z.0 z.2) z.1);
        }

pub runs_compose : RunsCompose
runs_compose first second whole m n o c one r s = composed first second whole m n o c one r s

pub joins_compose : JoinsCompose
joins_compose first second whole m n o c one two =
    record { each_left = left_one first second whole m n o c one two; each_right = right_one first second whole m n o c one two }
