-- What is seen of a tree by what is seen of its parts, so that one fold over a design sees each waveform once: the rule itself stands in
-- `Names` of `vd_value_rules`.
use Rattle.std.specs.Prelude.{ℕ, Bool, true, false, if◌then◌else◌, List, [], ◌∷◌, drop, slice_index_or, Option, Some, None, ◌&&◌}
use Rattle.vd_name_rules.specs.declared.looking.Looked.{Looked}
use Rattle.vd_bytes.specs.declared.answers.Refused.{Refused}
use Rattle.vd_bytes.specs.declared.places.Place.{Place}
use Rattle.vd_forest.specs.Forest.{no_place}
use Rattle.vd_forms.specs.declared.form.Form.{Form}
use Rattle.vd_walks.specs.Least.{lesser}
use Rattle.vd_resolved.specs.declared.node.Resolved.{Resolved}
use Rattle.vd_value_rules.specs.Names.{does_nothing_by}
use Rattle.vd_forms.specs.declared.form.Form.TheVariants as form

-- what is seen of a part that isn't there
abbrev pub unseen : Looked
unseen = record { place = no_place; does_nothing = false; refused = None }

abbrev pub all_do_nothing : List Looked → Bool
all_do_nothing [] = true
all_do_nothing (m ∷ ms) = m.does_nothing && all_do_nothing ms

abbrev pub first_among : List Looked → Option Refused
first_among [] = None
first_among (m ∷ ms) = lesser m.refused (first_among ms)

-- an assignment, by the numbers of its target and of its first waveform
abbrev pub without_effect : ℕ → ℕ → List Looked → Option Refused
without_effect target waveform ms =
    if all_do_nothing (drop waveform ms) then Some (record { place = (slice_index_or ms target unseen).place; rule = 402 }) else None

abbrev pub own_refusal : Form → List Looked → Option Refused
own_refusal form.SignalAssignment ms = without_effect 0 2 ms
own_refusal form.ConcurrentAssignment ms = without_effect 0 2 ms
own_refusal form.SelectedSignalAssignment ms = without_effect 2 4 ms
own_refusal _ ms = None

abbrev pub looked : Resolved → List ℕ → Place → List Looked → Looked
looked n text place ms = record {
  place = place;
  does_nothing = does_nothing_by n.form (slice_index_or ms 0 unseen).does_nothing (slice_index_or ms 2 unseen).does_nothing;
  refused = lesser (own_refusal n.form ms) (first_among ms);
}
