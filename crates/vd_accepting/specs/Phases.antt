-- The first rule that a design breaks, and when it is accepted.
-- There are two phases: the names of a design, and its rules. In each phase the first broken rule is the one at the least place, and at one place the
-- one with the least number; a rule of the second phase is asked only of a design that breaks none of the first.
use Rattle.std.specs.Prelude.{◌≡◌, nat_lt, Bool, not, Option, None}
use Rattle.std.specs.List.{filter}
use Rattle.vd_bytes.specs.declared.answers.Refused.{Refused}
use Rattle.vd_forest.specs.Forest.{Forest}
use Rattle.vd_forms.specs.declared.form.Form.{Form}
use Rattle.vd_walks.specs.Least.{lesser, least_of}
use Rattle.vd_walks.specs.Finding.{or_else}
use Rattle.vd_name_rows.specs.Designs.{Outcome}
use Rattle.vd_naming.specs.Naming.{names_of}
use Rattle.vd_naming.specs.Settled.{resolved_tree}
use Rattle.vd_resolved.specs.Trees.{ResolvedTree}
use Rattle.vd_trees.specs.declared.revision.Revision.{Revision}
use Rattle.vd_call_rules.specs.Calls.{first_refused as first_of_calls}
use Rattle.vd_call_rules.specs.Chains.{first_refused as first_of_chains}
use Rattle.vd_structure_rules.specs.StructureRules.{first_refused as first_of_structure}
use Rattle.vd_text_rules.specs.TextRules.{first_refused as first_of_text}
use Rattle.vd_value_rules.specs.Rules.{broken_in}

-- ---- the resolved design

abbrev pub resolved_design : Revision → Forest Form → ResolvedTree
resolved_design r units = resolved_tree (names_of r units)

-- ---- names: rules below 400. Some of them need the words of the text alone, some what is visible, some the modes of ports and static names

abbrev pub is_of_names : Refused → Bool
is_of_names r = nat_lt r.rule 400

abbrev pub is_of_rules : Refused → Bool
is_of_rules r = not (is_of_names r)

abbrev pub refused_names : Revision → Forest Form → Outcome → Option Refused
refused_names r units o = lesser (first_of_text r units) (lesser o.first (least_of (filter is_of_names (broken_in r (resolved_tree o)))))

-- ---- rules, from 400 on

abbrev pub refused_rules : Revision → ResolvedTree → Option Refused
refused_rules r tree =
    lesser (first_of_structure r tree.units)
    (lesser (first_of_calls tree.units) (lesser (first_of_chains r tree) (least_of (filter is_of_rules (broken_in r tree)))))

-- ---- both

abbrev pub first_broken_by : Revision → Forest Form → Outcome → Option Refused
first_broken_by r units o = or_else (refused_names r units o) (refused_rules r (resolved_tree o))

abbrev pub first_broken : Revision → Forest Form → Option Refused
first_broken r units = first_broken_by r units (names_of r units)

-- a design that breaks no rule
abbrev pub IsAccepted : Revision → Forest Form → Type 0
IsAccepted r units = first_broken r units ≡ None
