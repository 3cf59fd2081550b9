-- Where a function says which signals join, two views that agree are one view, by the old numbers and by the new ones. So designs are
-- held against each other over one view, and where signals keep their numbers over the same one.
use Rattle.std.proofs.Common.{◌≡◌, ℕ, refl, sym, subst}
use mathlib.Core.Path.{fun_ext}
use Rattle.std.specs.List.{AllZip}
use Rattle.vd_kernel.specs.Models.{View, Cause, Paused, Model}
use Rattle.vd_kernel.specs.Cycles.{has_event}
use Rattle.vd_kernel.specs.Correspondence.{SameView, SamePaused, SameTurn, SameShape, Corresponds}
use Rattle.vd_kernel.specs.Renumbering.{seen_through}

module _ (f : ℕ → ℕ) where
  abbrev Renumbers : ℕ → ℕ → Type 0
  Renumbers i j = f i ≡ j

  pub one_view : (v w : View) → SameView Renumbers v w → v ≡ seen_through f w
  one_view v w s =
      λ k. record {
        time = s.time k;
        value = fun_ext (λ i. s.value i (f i) refl) k;
        shown = fun_ext (λ i. s.shown i (f i) refl) k;
        before = fun_ext (λ i. s.before i (f i) refl) k;
      }

  pub same_paused_over_one_view : {P Q : Type 0} (related : P → Q → Type 0) (p : Paused P) (q : Paused Q) → related p.state q.state → ((w : View) → has_event (seen_through f w) p.on ≡ has_event w q.on) → p.timeout ≡ q.timeout → SamePaused Renumbers related p q
  same_paused_over_one_view related p q r h t =
      record {
        state = r;
        on = λ v w s. subst (λ u. has_event u p.on ≡ has_event w q.on) (sym (one_view v w s)) (h w);
        timeout = t;
      }

  pub corresponds_over_one_view : {P Q : Type 0} (related : P → Q → Type 0) (m : Model P) (n : Model Q) → SameShape Renumbers m.shape n.shape → AllZip related m.processes n.processes → ((p : P) (q : Q) → related p q → (c : Cause) (w : View) → SameTurn Renumbers related (m.step p c (seen_through f w)) (n.step q c w)) → Corresponds Renumbers related m n
  corresponds_over_one_view related m n shape starts steps =
      record {
        shape = shape;
        starts = starts;
        steps = λ p q r c v w s. subst (λ u. SameTurn Renumbers related (m.step p c u) (n.step q c w)) (sym (one_view v w s)) (steps p q r c w);
      }
