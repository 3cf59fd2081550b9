-- What statements and declarations do keeps environments, and assigns to drivers of the process alone.
use Rattle.std.proofs.Common.{◌≡◌, ℕ, Bool, true, false, List, [], ◌∷◌, Option, Some, None, refl, subst}
use Rattle.std.specs.Prelude.{◌==◌, Ok, Err, IfOk, IfSome, codes, if◌then◌else◌}
use Rattle.std.specs.List.{AllByRecursion}
use Rattle.vd_values.specs.declared.scalar.Scalar.{Scalar}
use Rattle.vd_trees.specs.declared.traces.Report.{Report}
use Rattle.vd_kernel.specs.declared.assignments.Assignment.{Assignment}
use Rattle.vd_kernel.specs.declared.assignments.Delay.{Delay}
use Rattle.vd_composites.specs.Stops.{◌>>=◌}
use Rattle.vd_composites.specs.Composites.{Value, leaves}
use Rattle.vd_composites.specs.Parts.{changed}
use Rattle.vd_composites.specs.Subtypes.{fit, default_of}
use Rattle.vd_environments.specs.Got.{Got, got}
use Rattle.vd_environments.specs.Environments.{ScalarSignal, Signals, Static, never, GenericActual, Env, with_object, Indicated, or_senseless}
use Rattle.vd_environments.specs.Commands.{Effect, Command, acting}
use Rattle.vd_environments.specs.Processes.{settled_by}
use Rattle.vd_meaning.specs.Names.{Named}
use Rattle.vd_meaning.specs.Facets.{Meaning, Waveform, Comparison, ByEquality, ByMatching, Body}
use Rattle.vd_meaning.specs.Statements.{waited_for, timeout_of, waiting_for, setting, assigned_to, due, effect_of, sending, driving, report_of, reporting, assertion, text_or, severity_or, alternatives, selecting}
use Rattle.vd_meaning.specs.Declarations.{new_type, with_objects, initial_value, constant_known, new_constants, new_variables, with_settled, settled_constants, settled_variables}
use Rattle.vd_meaning.specs.Generics.{function_command, new_instance}
use Rattle.vd_meaning.specs.Meanings.{branches, target_of}
use Rattle.vd_consistency.specs.Invariants.{AreOf, Gives, GivesAll, IsNumberOf, IsEnv, AssignsTo, KeepsEffect, Keeps, KeepsEnv, KeepsMeaning}
use Rattle.vd_consistency.proofs.Steps.{after, after_any, either}
use Rattle.vd_consistency.proofs.Running.{denoting_env, value_env, settled_by_keeps}
use Rattle.vd_consistency.proofs.Reading.{KeepAll, numbers_keep}

-- ---- what changes the environment alone

pub acting_keeps : (f : Env → Got Env) → ((P : ScalarSignal → Bool) (drivers : ℕ → Option ℕ) (e : Env) → IsEnv P drivers e → IfOk (f e) (IsEnv P drivers)) → Keeps (acting f)
acting_keeps f k P drivers e h = record { assignments = tt; after = k P drivers e h }

pub setting_keeps : (p : Named) (w : Waveform) → Keeps (setting p w)
setting_keeps p w =
    acting_keeps _ (λ P drivers e h.
    after_any (IsEnv P drivers) (w.value (p.subtype e) e) _ (λ v.
    after_any (IsEnv P drivers) (p.place e) _ (λ at.
    after_any (IsEnv P drivers) (p.subtype e) _ (λ s.
    after_any (IsEnv P drivers) (got (fit s v)) _ (λ x.
    after_any (IsEnv P drivers) (got (changed at.steps x (e.denotes at.object).value)) _ (λ new. value_env P drivers at.object new e h))))))

-- ---- assignments of signals

from_driver : (drivers : ℕ → Option ℕ) (k : ℕ) (o : Option ℕ) → drivers k ≡ o → (S : List Assignment → Type 0) (f : ℕ → Got (List Assignment)) → ((d : ℕ) → drivers k ≡ Some d → IfOk (f d) S)
    → IfOk (or_senseless o >>= f) S
from_driver drivers k (Some d) e S f h = h d e
from_driver drivers k None e S f h = tt

assigned_keeps : (drivers : ℕ → Option ℕ) (mode : Delay) (time : ℕ) (ns : List ScalarSignal) (xs : List Scalar) → IfOk (assigned_to drivers mode time ns xs) (AssignsTo drivers)
assigned_keeps drivers mode time (n ∷ ns) (x ∷ xs) =
    from_driver drivers n.number (drivers n.number) refl (AssignsTo drivers) _ (λ d e.
    after (AssignsTo drivers) (AssignsTo drivers) (assigned_to drivers mode time ns xs) _ (assigned_keeps drivers mode time ns xs) (λ rest h.
    (record { of = n.number; is = e }, h)))
assigned_keeps drivers mode time [] [] = tt
assigned_keeps drivers mode time [] (x ∷ xs) = tt
assigned_keeps drivers mode time (n ∷ ns) [] = tt

sending_keeps : (p : Named) (mode : Delay) (w : Waveform) (e : Env) → IfOk (sending p mode w e) (AssignsTo e.drivers)
sending_keeps p mode w e =
    after_any (AssignsTo e.drivers) (w.value (p.subtype e) e) _ (λ v.
    after_any (AssignsTo e.drivers) (w.delay e) _ (λ d.
    after_any (AssignsTo e.drivers) (p.signals e) _ (λ ns.
    after_any (AssignsTo e.drivers) (p.subtype e) _ (λ s.
    after_any (AssignsTo e.drivers) (got (fit s v)) _ (λ x.
    after_any (AssignsTo e.drivers) (due e d) _ (λ t. assigned_keeps e.drivers mode t (leaves ns) (leaves x)))))))

effect_keeps : (P : ScalarSignal → Bool) (drivers : ℕ → Option ℕ) (e : Env) → IsEnv P drivers e → (g : Got (List Assignment)) → IfOk g (AssignsTo drivers) → KeepsEffect P drivers (effect_of e g)
effect_keeps P drivers e h (Ok sent) k = record { assignments = k; after = h }
effect_keeps P drivers e h (Err s) k = record { assignments = tt; after = tt }

pub driving_keeps : (p : Named) (mode : Delay) (w : Waveform) → Keeps (driving p mode w)
driving_keeps p mode w P drivers e h =
    effect_keeps P drivers e h (sending p mode w e) (subst (λ d. IfOk (sending p mode w e) (AssignsTo d)) h.drives (sending_keeps p mode w e))

-- ---- reports

reported_keeps : (P : ScalarSignal → Bool) (drivers : ℕ → Option ℕ) (e : Env) → IsEnv P drivers e → (b : Bool) (f g : Effect) → KeepsEffect P drivers f → KeepsEffect P drivers g
    → KeepsEffect P drivers (if b then f else g)
reported_keeps P drivers e h true f g j k = j
reported_keeps P drivers e h false f g j k = k

report_of_keeps : (P : ScalarSignal → Bool) (drivers : ℕ → Option ℕ) (e : Env) → IsEnv P drivers e → (g : Got Report) → KeepsEffect P drivers (report_of e g)
report_of_keeps P drivers e h (Err s) = record { assignments = tt; after = tt }
report_of_keeps P drivers e h (Ok said) =
    reported_keeps P drivers e h (said.severity == 3) _ _ (record { assignments = tt; after = tt }) (record { assignments = tt; after = h })

pub reporting_keeps : (text : Env → Got (List ℕ)) (severity : Env → Got ℕ) → Keeps (reporting text severity)
reporting_keeps text severity P drivers e h = report_of_keeps P drivers e h (text e >>= λ cs. severity e >>= λ n. Ok (record { severity = n; text = cs }))

pub assertion_keeps : (test text severity : Meaning) → Keeps (assertion test text severity)
assertion_keeps test text severity P = (tt, reporting_keeps (text_or (codes "Assertion violation.") text) (severity_or 2 severity) P)

-- ---- choices

pub alternatives_keep : (f : Meaning → Command) → ((m : Meaning) → KeepsMeaning m → Keeps (f m)) → (ms : List Meaning) → KeepAll ms → (c : Comparison) (selector : Env → Got (Value Scalar))
    → Keeps (alternatives f ms c selector)
alternatives_keep f k [] h c selector P = (tt, tt)
alternatives_keep f k (m ∷ ms) h c selector P = (k m h.0 P, alternatives_keep f k ms h.1 c selector P)

pub selecting_keeps : (c : Comparison) (selector : Env → Got (Value Scalar)) (cases : Comparison → (Env → Got (Value Scalar)) → Command)
    → ((c : Comparison) (selector : Env → Got (Value Scalar)) → Keeps (cases c selector)) → Keeps (selecting c selector cases)
selecting_keeps ByEquality selector cases k P = k ByEquality selector P
selecting_keeps (ByMatching of) selector cases k P =
    ((reporting_keeps (λ _. Ok (codes "vdown: matching case selector holds '-'")) (λ _. Ok 3) P, tt), k (ByMatching of) selector P)

pub branches_keep : (ms : List Meaning) → KeepAll ms → (c : Command) → Keeps c → Keeps (branches ms c)
branches_keep [] h c k = k
branches_keep (m ∷ ms) h c k = h.0.of_otherwise _ (branches_keep ms h.1 c k)

-- ---- targets

prefix_gives : (x : Option (Env → Got Signals)) → IfSome x Gives → GivesAll (λ e. or_senseless x >>= λ prefix. prefix e >>= λ s. Ok (s ∷ []))
prefix_gives None k P e h = tt
prefix_gives (Some prefix) k P e h = after (AreOf P) (AllByRecursion (AreOf P)) (prefix e) _ (k P e h) (λ s j. (j, tt))

pub target_gives : (m : Meaning) → KeepsMeaning m → GivesAll (target_of m)
target_gives m h = prefix_gives m.name.prefix h.of_name.prefix

-- ---- declarations

pub type_keeps : (n : ℕ) (indicated : Env → Got Indicated) → Keeps (new_type n indicated)
type_keeps n indicated = acting_keeps _ (λ P drivers e h. after_any (IsEnv P drivers) (indicated e) _ (λ i. denoting_env P drivers n _ e tt h))

objects_keep : (P : ScalarSignal → Bool) (drivers : ℕ → Option ℕ) (ns : List ℕ) (i : Indicated) (v : Value Scalar) (known : Static) (e : Env) → IsEnv P drivers e → IsEnv P drivers (with_objects ns i v known e)
objects_keep P drivers [] i v known e h = h
objects_keep P drivers (n ∷ ns) i v known e h = objects_keep P drivers ns i v known (with_object n i.subtype i.make v known e) (denoting_env P drivers n _ e tt h)

pub constants_keep : (ns : List ℕ) (indicated m : Meaning) → Keeps (new_constants ns indicated m)
constants_keep ns indicated m =
    acting_keeps _ (λ P drivers e h.
    after_any (IsEnv P drivers) (indicated.indicated e) _ (λ i.
    after_any (IsEnv P drivers) (initial_value m i e) _ (λ v. objects_keep P drivers ns i v (constant_known (m.known e) i e) e h)))

pub variables_keep : (ns : List ℕ) (indicated m : Meaning) → Keeps (new_variables ns indicated m)
variables_keep ns indicated m =
    acting_keeps _ (λ P drivers e h.
    after_any (IsEnv P drivers) (indicated.indicated e) _ (λ i.
    after_any (IsEnv P drivers) (initial_value m i e) _ (λ v. objects_keep P drivers ns i v never e h)))

with_settled_keeps : (P : ScalarSignal → Bool) (drivers : ℕ → Option ℕ) (ns : List ℕ) (i : Indicated) (g : Got (Value Scalar)) (known : Static) (e : Env) → IsEnv P drivers e → IsEnv P drivers (with_settled ns i g known e)
with_settled_keeps P drivers ns i (Ok v) known e h = objects_keep P drivers ns i v known e h
with_settled_keeps P drivers ns i (Err s) known e h = objects_keep P drivers ns i (default_of i.subtype) never e h

settled_keeps : (f : Env → Got Env) → ((P : ScalarSignal → Bool) (drivers : ℕ → Option ℕ) (e : Env) → IsEnv P drivers e → IfOk (f e) (IsEnv P drivers))
    → (P : ScalarSignal → Bool) → KeepsEnv P (settled_by (acting f))
settled_keeps f k = settled_by_keeps (acting f) (acting_keeps f k)

pub settled_constants_keep : (ns : List ℕ) (indicated m : Meaning) (P : ScalarSignal → Bool) → KeepsEnv P (settled_constants ns indicated m)
settled_constants_keep ns indicated m =
    settled_keeps (λ e. indicated.indicated e >>= λ i. Ok (with_settled ns i (initial_value m i e) (constant_known (m.known e) i e) e)) (λ P drivers e h.
    after_any (IsEnv P drivers) (indicated.indicated e) _ (λ i. with_settled_keeps P drivers ns i (initial_value m i e) (constant_known (m.known e) i e) e h))

pub settled_variables_keep : (ns : List ℕ) (indicated m : Meaning) (P : ScalarSignal → Bool) → KeepsEnv P (settled_variables ns indicated m)
settled_variables_keep ns indicated m =
    settled_keeps (λ e. indicated.indicated e >>= λ i. Ok (with_settled ns i (initial_value m i e) never e)) (λ P drivers e h.
    after_any (IsEnv P drivers) (indicated.indicated e) _ (λ i. with_settled_keeps P drivers ns i (initial_value m i e) never e h))

pub function_keeps : (has_generics : Bool) (b : Body) → Keeps (function_command has_generics b)
function_keeps true b = acting_keeps _ (λ P drivers e h. denoting_env P drivers b.function _ e tt h)
function_keeps false b = acting_keeps _ (λ P drivers e h. denoting_env P drivers b.function _ e tt h)

pub instance_keeps : (function instance : ℕ) (actuals : Env → List GenericActual) → Keeps (new_instance function instance actuals)
instance_keeps function instance actuals =
    acting_keeps _ (λ P drivers e h. after_any (IsEnv P drivers) ((e.denotes function).instance (actuals e)) _ (λ f. denoting_env P drivers instance _ e tt h))

-- ---- waits

waited_gives : (list condition : Meaning) → KeepsMeaning list → KeepsMeaning condition → GivesAll (waited_for list condition)
waited_gives list condition j k P e h =
    either (AllByRecursion (AreOf P)) list.is_present (list.reads e) _ (j.of_reads P e h) (either (AllByRecursion (AreOf P)) condition.is_present (condition.reads e) (Ok []) (k.of_reads P e h) tt)

pub waiting_keeps : (list condition timeout : Meaning) → KeepsMeaning list → KeepsMeaning condition → Keeps (waiting_for list condition timeout)
waiting_keeps list condition timeout j k P e h =
    after (AllByRecursion (AreOf P)) (λ p. AllByRecursion (IsNumberOf P) p.on) (waited_for list condition e) _ (waited_gives list condition j k P e h) (λ names i.
    after_any (λ p. AllByRecursion (IsNumberOf P) p.on) (timeout_of timeout e) _ (λ t. numbers_keep P names i))
