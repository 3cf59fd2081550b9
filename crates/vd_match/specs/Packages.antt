-- The support package in front of a design, exactly where one of its functions is called there.
use Rattle.std.specs.Prelude.{ℕ, ◌+◌, ◌-◌, nat_lt, Bool, true, false, ◌||◌, not, if◌then◌else◌, List, Option, None, Some, option_map}
use Rattle.std.specs.List.{list_any}
use Rattle.vd_bytes.specs.declared.places.Place.{Place}
use Rattle.vd_forest.specs.Forest.{Forest, reversed, turned}
use Rattle.vd_resolved.specs.declared.node.Resolved.{Resolved}
use Rattle.vd_rewriting.specs.Folding.{Meaning, folded}
use Rattle.vd_rewriting.specs.Forms.{forms_pass}
use Rattle.vd_rewriting.specs.Rewriting.{Pass, rewritten}

-- ---- numbers: those that are given stay, and the others begin at a number

abbrev pub moved : ℕ → ℕ → ℕ → ℕ
moved given first n = if nat_lt n given then n else first + (n - given)

abbrev pub moved_node : ℕ → ℕ → Resolved → Resolved
moved_node given first n = record {
  form = n.form;
  declaration = option_map (moved given first) n.declaration;
  mark = option_map (moved given first) n.mark;
  position = n.position;
}

abbrev pub passed : ℕ → ℕ → Pass Resolved Resolved
passed given first = forms_pass (moved_node given first)

-- ---- whether something is named from a number on

abbrev pub is_from : ℕ → Option ℕ → Bool
is_from first None = false
is_from first (Some d) = not (nat_lt d first)

-- by a node or one of its parts
abbrev pub names_from : ℕ → Meaning Resolved Bool
names_from first n text place parts = is_from first n.declaration || list_any (λ b. b) parts

abbrev pub is_called : ℕ → Forest Resolved → Bool
is_called first f = list_any (λ b. b) (folded (names_from first) f)

-- ---- the units of the package, whose numbers begin at the first one, and then those of the design

abbrev pub in_front : ℕ → ℕ → Forest Resolved → Forest Resolved → Forest Resolved
in_front given first support units = if is_called first units then turned (reversed (rewritten (passed given first) support)) units else units
