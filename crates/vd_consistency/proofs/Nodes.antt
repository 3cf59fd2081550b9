-- Meanings whose facets keep what they keep, and what the parts of a node keep.
use Rattle.std.proofs.Common.{ℕ, zero, suc, Bool, List, [], ◌∷◌, Option, None}
use Rattle.std.specs.Prelude.{IfSome, map}
use Rattle.std.specs.List.{AllByRecursion}
use Rattle.vd_values.specs.declared.scalar.Scalar.{Scalar}
use Rattle.vd_composites.specs.Composites.{Value}
use Rattle.vd_composites.specs.Subtypes.{Subtype}
use Rattle.vd_resolved.specs.declared.node.Resolved.{Resolved}
use Rattle.vd_environments.specs.Got.{Got}
use Rattle.vd_environments.specs.Environments.{ScalarSignal, Signals, never, Env}
use Rattle.vd_environments.specs.Commands.{Command}
use Rattle.vd_environments.specs.Processes.{Process, settled_by}
use Rattle.vd_meaning.specs.Names.{Named}
use Rattle.vd_meaning.specs.Facets.{Meaning, nth, from, flattened, reads_of, targets_of, settled_of, Waveform, Comparison, of_node, expression, commanding, at_once}
use Rattle.vd_meaning.specs.Meanings.{named_by}
use Rattle.vd_consistency.specs.Invariants.{GivesAll, KeepsName, Keeps, KeepsEnv, KeepsProcess, KeepsFacets, KeepsMeaning}
use Rattle.vd_consistency.proofs.Steps.{joined}
use Rattle.vd_consistency.proofs.Running.{settled_by_keeps}
use Rattle.vd_consistency.proofs.Reading.{KeepAll, reads_give, targets_give}
use Rattle.vd_consistency.proofs.Naming.{none_keeps}

-- ---- one facet given anew

pub with_reads : {reads : Env → Got (List Signals)} {name : Named} {piece : Named → Named} {chosen : (Waveform → Command) → Command} {command : Option ℕ → Command} {otherwise : Command → Command} {cases : Comparison → (Env → Got (Value Scalar)) → Command} {declarations : List Command} {settling : Env → Env} {targets : Env → Got (List Signals)} {listening : (Env → Got (List Signals)) → Option (Env → Got (List Signals))} {processes : List Process}
    → KeepsFacets reads name piece chosen command otherwise cases declarations settling targets listening processes → (x : Env → Got (List Signals)) → (GivesAll x) → KeepsFacets x name piece chosen command otherwise cases declarations settling targets listening processes
with_reads h x k = record { of_reads = k; of_name = h.of_name; of_piece = h.of_piece; of_chosen = h.of_chosen; of_command = h.of_command; of_otherwise = h.of_otherwise; of_cases = h.of_cases; of_declarations = h.of_declarations; of_settling = h.of_settling; of_targets = h.of_targets; of_listening = h.of_listening; of_processes = h.of_processes }

pub with_name : {reads : Env → Got (List Signals)} {name : Named} {piece : Named → Named} {chosen : (Waveform → Command) → Command} {command : Option ℕ → Command} {otherwise : Command → Command} {cases : Comparison → (Env → Got (Value Scalar)) → Command} {declarations : List Command} {settling : Env → Env} {targets : Env → Got (List Signals)} {listening : (Env → Got (List Signals)) → Option (Env → Got (List Signals))} {processes : List Process}
    → KeepsFacets reads name piece chosen command otherwise cases declarations settling targets listening processes → (x : Named) → (KeepsName x) → KeepsFacets reads x piece chosen command otherwise cases declarations settling targets listening processes
with_name h x k = record { of_reads = h.of_reads; of_name = k; of_piece = h.of_piece; of_chosen = h.of_chosen; of_command = h.of_command; of_otherwise = h.of_otherwise; of_cases = h.of_cases; of_declarations = h.of_declarations; of_settling = h.of_settling; of_targets = h.of_targets; of_listening = h.of_listening; of_processes = h.of_processes }

pub with_piece : {reads : Env → Got (List Signals)} {name : Named} {piece : Named → Named} {chosen : (Waveform → Command) → Command} {command : Option ℕ → Command} {otherwise : Command → Command} {cases : Comparison → (Env → Got (Value Scalar)) → Command} {declarations : List Command} {settling : Env → Env} {targets : Env → Got (List Signals)} {listening : (Env → Got (List Signals)) → Option (Env → Got (List Signals))} {processes : List Process}
    → KeepsFacets reads name piece chosen command otherwise cases declarations settling targets listening processes → (x : Named → Named) → ((p : Named) → KeepsName p → KeepsName (x p)) → KeepsFacets reads name x chosen command otherwise cases declarations settling targets listening processes
with_piece h x k = record { of_reads = h.of_reads; of_name = h.of_name; of_piece = k; of_chosen = h.of_chosen; of_command = h.of_command; of_otherwise = h.of_otherwise; of_cases = h.of_cases; of_declarations = h.of_declarations; of_settling = h.of_settling; of_targets = h.of_targets; of_listening = h.of_listening; of_processes = h.of_processes }

pub with_chosen : {reads : Env → Got (List Signals)} {name : Named} {piece : Named → Named} {chosen : (Waveform → Command) → Command} {command : Option ℕ → Command} {otherwise : Command → Command} {cases : Comparison → (Env → Got (Value Scalar)) → Command} {declarations : List Command} {settling : Env → Env} {targets : Env → Got (List Signals)} {listening : (Env → Got (List Signals)) → Option (Env → Got (List Signals))} {processes : List Process}
    → KeepsFacets reads name piece chosen command otherwise cases declarations settling targets listening processes → (x : (Waveform → Command) → Command) → ((act : Waveform → Command) → ((w : Waveform) → Keeps (act w)) → Keeps (x act)) → KeepsFacets reads name piece x command otherwise cases declarations settling targets listening processes
with_chosen h x k = record { of_reads = h.of_reads; of_name = h.of_name; of_piece = h.of_piece; of_chosen = k; of_command = h.of_command; of_otherwise = h.of_otherwise; of_cases = h.of_cases; of_declarations = h.of_declarations; of_settling = h.of_settling; of_targets = h.of_targets; of_listening = h.of_listening; of_processes = h.of_processes }

pub with_command : {reads : Env → Got (List Signals)} {name : Named} {piece : Named → Named} {chosen : (Waveform → Command) → Command} {command : Option ℕ → Command} {otherwise : Command → Command} {cases : Comparison → (Env → Got (Value Scalar)) → Command} {declarations : List Command} {settling : Env → Env} {targets : Env → Got (List Signals)} {listening : (Env → Got (List Signals)) → Option (Env → Got (List Signals))} {processes : List Process}
    → KeepsFacets reads name piece chosen command otherwise cases declarations settling targets listening processes → (x : Option ℕ → Command) → ((label : Option ℕ) → Keeps (x label)) → KeepsFacets reads name piece chosen x otherwise cases declarations settling targets listening processes
with_command h x k = record { of_reads = h.of_reads; of_name = h.of_name; of_piece = h.of_piece; of_chosen = h.of_chosen; of_command = k; of_otherwise = h.of_otherwise; of_cases = h.of_cases; of_declarations = h.of_declarations; of_settling = h.of_settling; of_targets = h.of_targets; of_listening = h.of_listening; of_processes = h.of_processes }

pub with_otherwise : {reads : Env → Got (List Signals)} {name : Named} {piece : Named → Named} {chosen : (Waveform → Command) → Command} {command : Option ℕ → Command} {otherwise : Command → Command} {cases : Comparison → (Env → Got (Value Scalar)) → Command} {declarations : List Command} {settling : Env → Env} {targets : Env → Got (List Signals)} {listening : (Env → Got (List Signals)) → Option (Env → Got (List Signals))} {processes : List Process}
    → KeepsFacets reads name piece chosen command otherwise cases declarations settling targets listening processes → (x : Command → Command) → ((c : Command) → Keeps c → Keeps (x c)) → KeepsFacets reads name piece chosen command x cases declarations settling targets listening processes
with_otherwise h x k = record { of_reads = h.of_reads; of_name = h.of_name; of_piece = h.of_piece; of_chosen = h.of_chosen; of_command = h.of_command; of_otherwise = k; of_cases = h.of_cases; of_declarations = h.of_declarations; of_settling = h.of_settling; of_targets = h.of_targets; of_listening = h.of_listening; of_processes = h.of_processes }

pub with_cases : {reads : Env → Got (List Signals)} {name : Named} {piece : Named → Named} {chosen : (Waveform → Command) → Command} {command : Option ℕ → Command} {otherwise : Command → Command} {cases : Comparison → (Env → Got (Value Scalar)) → Command} {declarations : List Command} {settling : Env → Env} {targets : Env → Got (List Signals)} {listening : (Env → Got (List Signals)) → Option (Env → Got (List Signals))} {processes : List Process}
    → KeepsFacets reads name piece chosen command otherwise cases declarations settling targets listening processes → (x : Comparison → (Env → Got (Value Scalar)) → Command) → ((c : Comparison) (selector : Env → Got (Value Scalar)) → Keeps (x c selector)) → KeepsFacets reads name piece chosen command otherwise x declarations settling targets listening processes
with_cases h x k = record { of_reads = h.of_reads; of_name = h.of_name; of_piece = h.of_piece; of_chosen = h.of_chosen; of_command = h.of_command; of_otherwise = h.of_otherwise; of_cases = k; of_declarations = h.of_declarations; of_settling = h.of_settling; of_targets = h.of_targets; of_listening = h.of_listening; of_processes = h.of_processes }

pub with_declarations : {reads : Env → Got (List Signals)} {name : Named} {piece : Named → Named} {chosen : (Waveform → Command) → Command} {command : Option ℕ → Command} {otherwise : Command → Command} {cases : Comparison → (Env → Got (Value Scalar)) → Command} {declarations : List Command} {settling : Env → Env} {targets : Env → Got (List Signals)} {listening : (Env → Got (List Signals)) → Option (Env → Got (List Signals))} {processes : List Process}
    → KeepsFacets reads name piece chosen command otherwise cases declarations settling targets listening processes → (x : List Command) → (AllByRecursion Keeps x) → KeepsFacets reads name piece chosen command otherwise cases x settling targets listening processes
with_declarations h x k = record { of_reads = h.of_reads; of_name = h.of_name; of_piece = h.of_piece; of_chosen = h.of_chosen; of_command = h.of_command; of_otherwise = h.of_otherwise; of_cases = h.of_cases; of_declarations = k; of_settling = h.of_settling; of_targets = h.of_targets; of_listening = h.of_listening; of_processes = h.of_processes }

pub with_settling : {reads : Env → Got (List Signals)} {name : Named} {piece : Named → Named} {chosen : (Waveform → Command) → Command} {command : Option ℕ → Command} {otherwise : Command → Command} {cases : Comparison → (Env → Got (Value Scalar)) → Command} {declarations : List Command} {settling : Env → Env} {targets : Env → Got (List Signals)} {listening : (Env → Got (List Signals)) → Option (Env → Got (List Signals))} {processes : List Process}
    → KeepsFacets reads name piece chosen command otherwise cases declarations settling targets listening processes → (x : Env → Env) → ((P : ScalarSignal → Bool) → KeepsEnv P x) → KeepsFacets reads name piece chosen command otherwise cases declarations x targets listening processes
with_settling h x k = record { of_reads = h.of_reads; of_name = h.of_name; of_piece = h.of_piece; of_chosen = h.of_chosen; of_command = h.of_command; of_otherwise = h.of_otherwise; of_cases = h.of_cases; of_declarations = h.of_declarations; of_settling = k; of_targets = h.of_targets; of_listening = h.of_listening; of_processes = h.of_processes }

pub with_targets : {reads : Env → Got (List Signals)} {name : Named} {piece : Named → Named} {chosen : (Waveform → Command) → Command} {command : Option ℕ → Command} {otherwise : Command → Command} {cases : Comparison → (Env → Got (Value Scalar)) → Command} {declarations : List Command} {settling : Env → Env} {targets : Env → Got (List Signals)} {listening : (Env → Got (List Signals)) → Option (Env → Got (List Signals))} {processes : List Process}
    → KeepsFacets reads name piece chosen command otherwise cases declarations settling targets listening processes → (x : Env → Got (List Signals)) → (GivesAll x) → KeepsFacets reads name piece chosen command otherwise cases declarations settling x listening processes
with_targets h x k = record { of_reads = h.of_reads; of_name = h.of_name; of_piece = h.of_piece; of_chosen = h.of_chosen; of_command = h.of_command; of_otherwise = h.of_otherwise; of_cases = h.of_cases; of_declarations = h.of_declarations; of_settling = h.of_settling; of_targets = k; of_listening = h.of_listening; of_processes = h.of_processes }

pub with_listening : {reads : Env → Got (List Signals)} {name : Named} {piece : Named → Named} {chosen : (Waveform → Command) → Command} {command : Option ℕ → Command} {otherwise : Command → Command} {cases : Comparison → (Env → Got (Value Scalar)) → Command} {declarations : List Command} {settling : Env → Env} {targets : Env → Got (List Signals)} {listening : (Env → Got (List Signals)) → Option (Env → Got (List Signals))} {processes : List Process}
    → KeepsFacets reads name piece chosen command otherwise cases declarations settling targets listening processes → (x : (Env → Got (List Signals)) → Option (Env → Got (List Signals))) → ((f : Env → Got (List Signals)) → GivesAll f → IfSome (x f) GivesAll) → KeepsFacets reads name piece chosen command otherwise cases declarations settling targets x processes
with_listening h x k = record { of_reads = h.of_reads; of_name = h.of_name; of_piece = h.of_piece; of_chosen = h.of_chosen; of_command = h.of_command; of_otherwise = h.of_otherwise; of_cases = h.of_cases; of_declarations = h.of_declarations; of_settling = h.of_settling; of_targets = h.of_targets; of_listening = k; of_processes = h.of_processes }

pub with_processes : {reads : Env → Got (List Signals)} {name : Named} {piece : Named → Named} {chosen : (Waveform → Command) → Command} {command : Option ℕ → Command} {otherwise : Command → Command} {cases : Comparison → (Env → Got (Value Scalar)) → Command} {declarations : List Command} {settling : Env → Env} {targets : Env → Got (List Signals)} {listening : (Env → Got (List Signals)) → Option (Env → Got (List Signals))} {processes : List Process}
    → KeepsFacets reads name piece chosen command otherwise cases declarations settling targets listening processes → (x : List Process) → (AllByRecursion KeepsProcess x) → KeepsFacets reads name piece chosen command otherwise cases declarations settling targets listening x
with_processes h x k = record { of_reads = h.of_reads; of_name = h.of_name; of_piece = h.of_piece; of_chosen = h.of_chosen; of_command = h.of_command; of_otherwise = h.of_otherwise; of_cases = h.of_cases; of_declarations = h.of_declarations; of_settling = h.of_settling; of_targets = h.of_targets; of_listening = h.of_listening; of_processes = k }

-- ---- parts

pub nth_keeps : (k : ℕ) (ms : List Meaning) → KeepAll ms → KeepsMeaning (nth k ms)
nth_keeps k [] h = none_keeps
nth_keeps zero (m ∷ ms) h = h.0
nth_keeps (suc k) (m ∷ ms) h = nth_keeps k ms h.1

pub from_keeps : (k : ℕ) (ms : List Meaning) → KeepAll ms → KeepAll (from k ms)
from_keeps zero ms h = h
from_keeps (suc k) [] h = tt
from_keeps (suc k) (m ∷ ms) h = from_keeps k ms h.1

pub commands_keep : (ms : List Meaning) → KeepAll ms → AllByRecursion Keeps (map (λ m. m.command None) ms)
commands_keep [] h = tt
commands_keep (m ∷ ms) h = (h.0.of_command None, commands_keep ms h.1)

pub settled_of_keeps : (ms : List Meaning) → KeepAll ms → (P : ScalarSignal → Bool) → KeepsEnv P (settled_of ms)
settled_of_keeps [] h P drivers e i = i
settled_of_keeps (m ∷ ms) h P drivers e i = settled_of_keeps ms h.1 P drivers (m.settling e) (h.0.of_settling P drivers e i)

pub processes_keep : (ms : List Meaning) → KeepAll ms → AllByRecursion KeepsProcess (flattened (λ m. m.processes) ms)
processes_keep [] h = tt
processes_keep (m ∷ ms) h = joined KeepsProcess m.processes (flattened (λ m. m.processes) ms) h.0.of_processes (processes_keep ms h.1)

pub named_by_keeps : (p : Named) (ms : List Meaning) → KeepsName p → KeepAll ms → KeepsName (named_by p ms)
named_by_keeps p [] k h = k
named_by_keeps p (m ∷ ms) k h = named_by_keeps (m.piece p) ms (h.0.of_piece p k) h.1

-- ---- nodes

pub node_keeps : (n : Resolved) (text : List ℕ) (ms : List Meaning) → KeepAll ms → KeepsMeaning (of_node n text ms)
node_keeps n text ms h = with_targets (with_reads none_keeps (reads_of ms) (reads_give ms h)) (targets_of ms) (targets_give ms h)

pub expression_keeps : (n : Resolved) (text : List ℕ) (ms : List Meaning) → KeepAll ms → (value : Got Subtype → Env → Got (Value Scalar))
    → KeepsMeaning (expression n text ms value (λ _. never))
expression_keeps n text ms h value = with_chosen (node_keeps n text ms h) (λ act. act (at_once value)) (λ act k. k (at_once value))

pub commanding_keeps : (n : Resolved) (ms : List Meaning) → KeepAll ms → (c : Command) → Keeps c → KeepsMeaning (commanding n ms c)
commanding_keeps n ms h c k = with_settling (with_command (node_keeps n [] ms h) (λ _. c) (λ label. k)) (settled_by c) (settled_by_keeps c k)
