-- A design corresponds to itself.
use Rattle.std.proofs.Common.{◌≡◌, ℕ, Option, Some, None, refl, subst}
use Rattle.vd_kernel.specs.declared.assignments.Source.{Source}
use Rattle.vd_kernel.specs.declared.assignments.Source.TheVariants.{Driver as ByDriver, Port as ByPort}
use Rattle.vd_kernel.specs.Models.{Signal, Ending, Waits, Stops, Turn, Shape, Model, signal_at}
use Rattle.vd_kernel.specs.Traces.{with_two}
use Rattle.vd_kernel.specs.Correspondence.{BothOrNone, SameSource, SameSignal, SameEnding, SameTurn, SameShape, Corresponds}
use Rattle.vd_kernel.proofs.ListPairs.{AllZip-itself}
use Rattle.vd_kernel.proofs.OneView.{corresponds_over_one_view}
use Rattle.vd_kernel.proofs.SameRuns.{same_events}

abbrev Equal : {A : Type 0} → A → A → Type 0
Equal x y = x ≡ y

own_source : (s : Source) → SameSource Equal s s
own_source (ByDriver d) = refl
own_source (ByPort i) = refl

own_option : (o : Option ℕ) → BothOrNone {A = ℕ} {B = ℕ} Equal o o
own_option None = tt
own_option (Some i) = refl

own_signal : (s : Signal) → SameSignal Equal s s
own_signal s =
    record { initial = refl; is_resolved = refl; sources = AllZip-itself (SameSource Equal) own_source s.sources; actual = own_option s.actual; is_out = refl; input = refl }

-- signals that stay as they are have the same shape
pub own_shape : (m : Shape) → SameShape Equal m m
own_shape m =
    record {
      number = refl;
      signals = λ i j e. subst (λ k. SameSignal Equal (signal_at m i) (signal_at m k)) e (own_signal (signal_at m i));
      two = own_option (with_two 0 m.signals);
      driven = AllZip-itself Equal (λ i. refl) m.driven;
      inputs = AllZip-itself Equal (λ i. refl) m.inputs;
    }

own_ending : {P : Type 0} (e : Ending P) → SameEnding Equal Equal e e
own_ending (Waits p) = record { state = refl; on = same_events Equal p.on p.on (AllZip-itself Equal (λ i. refl) p.on); timeout = refl }
own_ending (Stops kind) = refl

own_turn : {P : Type 0} (t : Turn P) → SameTurn Equal Equal t t
own_turn t = record { assignments = refl; reports = refl; ending = own_ending t.ending }

pub corresponds_with_itself : {P : Type 0} (m : Model P) → Corresponds (λ i j. i ≡ j) (λ p q. p ≡ q) m m
corresponds_with_itself {P} m =
    corresponds_over_one_view (λ i. i) Equal m m (own_shape m.shape) (AllZip-itself {A = P} Equal (λ p. refl) m.processes) (λ p q r c w.
    subst (λ x. SameTurn Equal Equal (m.step p c w) (m.step x c w)) r (own_turn (m.step p c w)))
