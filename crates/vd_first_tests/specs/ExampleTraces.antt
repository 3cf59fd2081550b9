-- What the worked example does when it runs, from the definitions alone: the source and what is written for it.
use Rattle.std.specs.Prelude.{◌≡◌, ℕ, List, [], ◌∷◌, codes, Option, Some, None, if◌then◌else◌, ◌==◌}
use Rattle.vd_trees.specs.TraceText.{trace_text}
use Rattle.vd_values.specs.declared.scalar.Scalar.TheVariants.{Literal}
use Rattle.vd_kernel.specs.Models.{Stimulus}
use Rattle.vd_first_grammar.specs.Derivations.{File, Process, name}
use Rattle.vd_first_grammar.specs.Shapes.{file_shape}
use Rattle.vd_first_written.specs.Written.{written_tree}
use Rattle.vd_first_elaboration.specs.Tops.{Top}
use Rattle.vd_first_elaboration.specs.Elaboration.{Elaborated, elaboration}
use Rattle.vd_first_elaboration.specs.Traces.{trace_of, paths_of, types_of}
use Rattle.vd_first_tests.specs.Example.{example, body, n, text_of_lines}

-- the entity with its last architecture
abbrev pub top : Top
top = record { entity = codes "e"; architecture = None }

-- an elaborated design prints these lines under a stimulus, with at most so many cycles
abbrev pub Prints : Stimulus → ℕ → Option Elaborated → List (List ℕ) → Type 0
Prints given cycles None lines = ⊥
Prints given cycles (Some e) lines = trace_text (paths_of e) (types_of e) (trace_of e given cycles) ≡ text_of_lines lines

-- the source and what is written for it print the same lines
abbrev pub BothPrint : Stimulus → ℕ → File → List (List ℕ) → Type 0
BothPrint given cycles f lines =
    Prints given cycles (elaboration (file_shape f) top) lines × Prints given cycles (elaboration (written_tree f) top) lines

-- ---- with inputs that nothing drives

abbrev pub nothing_given : Stimulus
nothing_given i = []

abbrev pub IsQuietSoon : Type 0
IsQuietSoon =
    BothPrint nothing_given 3 example (codes "cycle 0 0 0" ∷ codes "e.a = 'U'" ∷ codes "e.b = 'U'" ∷ codes "e.y = 'U'" ∷ codes "cycle 1 0 1" ∷ codes "quiet" ∷ [])

-- with no cycle the assignment's transaction is still to come
abbrev pub IsDoneAtOnce : Type 0
IsDoneAtOnce = BothPrint nothing_given 0 example (codes "cycle 0 0 0" ∷ codes "e.a = 'U'" ∷ codes "e.b = 'U'" ∷ codes "e.y = 'U'" ∷ codes "done" ∷ [])

-- ---- with '1' at the input a, which is the signal 0, after 5 ns, and '0' at b, the signal 1, after 7 ns: the output follows one delta
-- cycle later. 'U' and '1' make 'U', so it changes once

abbrev pub bits_given : Stimulus
bits_given i =
    if i == 0 then record { time = 5000000; value = Literal 3 } ∷ []
    else (if i == 1 then record { time = 7000000; value = Literal 2 } ∷ [] else [])

abbrev pub FollowsItsInputs : Type 0
FollowsItsInputs =
    BothPrint bits_given 9 example (codes "cycle 0 0 0"
    ∷ codes "e.a = 'U'"
    ∷ codes "e.b = 'U'"
    ∷ codes "e.y = 'U'"
    ∷ codes "cycle 1 0 1"
    ∷ codes "cycle 2 5000000 0"
    ∷ codes "e.a = '1'"
    ∷ codes "cycle 3 5000000 1"
    ∷ codes "cycle 4 7000000 0"
    ∷ codes "e.b = '0'"
    ∷ codes "cycle 5 7000000 1"
    ∷ codes "e.y = '0'"
    ∷ codes "quiet"
    ∷ [])

-- ---- with a second process `y <= a;`, so that y has two drivers

abbrev pub second_body : Process
second_body = record body { value = name (n (codes "a")) }

abbrev pub with_two_drivers : File
with_two_drivers = record example { processes = body ∷ second_body ∷ [] }

abbrev pub StopsBeforeItRuns : Type 0
StopsBeforeItRuns = BothPrint nothing_given 3 with_two_drivers (codes "stop TwoSources 0 0 e" ∷ [])
