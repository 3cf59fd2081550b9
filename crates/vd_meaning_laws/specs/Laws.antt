-- What holds of meanings.
use Rattle.std.specs.Prelude.{◌≡◌, ℕ, List, Ok, Err}
use Rattle.std.specs.List.{AllZip}
use Rattle.vd_kernel.specs.Models.{Shape}
use Rattle.vd_kernel.specs.Correspondence.{SameShape, SameRun}
use Rattle.vd_rewriting.specs.Rewriting.{Pass, KeepsNodes, KeepsMeanings}
use Rattle.vd_resolved.specs.declared.node.Resolved.{Resolved}
use Rattle.vd_environments.specs.Got.{Got}
use Rattle.vd_environments.specs.Environments.{Env}
use Rattle.vd_environments.specs.Processes.{Process, Running, Elaborated, elaborated, model}
use Rattle.vd_meaning.specs.Tables.{Table}
use Rattle.vd_meaning.specs.Facets.{Meaning}
use Rattle.vd_meaning.specs.Meanings.{node_meaning}
use Rattle.vd_bytes.specs.declared.places.Place.{Place}
use Rattle.vd_meaning_laws.specs.Agreement.{Link, IsApart, Agree, AlikeRunning}
use Rattle.vd_meaning_laws.specs.Renumbering.{SameTable, AlikeMeaning, AlikeProcess, renumbered}

-- A pass that keeps the meaning of each node, given that of its parts, keeps that of each forest. It may add declarations.
abbrev pub KeptNodesKeepTrees : Type 0
KeptNodesKeepTrees =
    (t t' : Table) (pass : Pass Resolved Resolved) → KeepsNodes (node_meaning t) (node_meaning t') pass
    → KeepsMeanings (node_meaning t) (node_meaning t') pass

-- Designs whose processes are alike have the same run.
abbrev pub AlikeProcessesRunAlike : Type 0
AlikeProcessesRunAlike = (l : Link) → IsApart l → (m n : Shape) → SameShape (λ i j. i ≡ j) m n → (ps qs : List Running) → AllZip (AlikeRunning l) ps qs
    → SameRun (λ i j. i ≡ j) (model m ps) (model n qs)

-- A node of any kind means the same with other numbers, where its parts do: the congruence that a pass cites at the nodes that it leaves.
abbrev pub NodesAlike : Type 0
NodesAlike = (l : Link) → IsApart l → (t t' : Table) → SameTable l t t' → (n : Resolved) (text : List ℕ) (place : Place) (ms ns : List Meaning)
    → AllZip (AlikeMeaning l) ms ns → AlikeMeaning l (node_meaning t n text place ms) (node_meaning t' (renumbered l n) text place ns)

-- Processes that do the same are elaborated to such, with the same drivers, or come to the same stop.
abbrev pub SameElaborated : Link → Got Elaborated → Got Elaborated → Type 0
SameElaborated l (Ok p) (Ok q) = AlikeRunning l p.running q.running × (q.driven ≡ p.driven)
SameElaborated l (Ok p) (Err s) = ⊥
SameElaborated l (Err s) (Ok q) = ⊥
SameElaborated l (Err s) (Err t) = t ≡ s

abbrev pub ProcessesElaborateAlike : Type 0
ProcessesElaborateAlike = (l : Link) → IsApart l → (p q : Process) → AlikeProcess l p q → (first : ℕ) (e e' : Env) → Agree l e e'
    → SameElaborated l (elaborated first p e) (elaborated first q e')
