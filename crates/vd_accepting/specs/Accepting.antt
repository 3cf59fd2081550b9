-- Designs that meet the rules, and what is answered of a design.
use Rattle.std.specs.Prelude.{◌≡◌, Err, Ok, Option, Result, Some}
use Rattle.vd_bytes.specs.declared.answers.Refusal.{Refusal}
use Rattle.vd_bytes.specs.declared.answers.Refusal.TheVariants.{Memory, Refused}
use Rattle.vd_bytes.specs.declared.answers.Refused.{Refused as AnyRefused}
use Rattle.vd_forest.specs.Forest.{Forest}
use Rattle.vd_forms.specs.declared.form.Form.{Form}
use Rattle.vd_walks.specs.Least.{lesser}
use Rattle.vd_resolved.specs.Trees.{ResolvedTree}
use Rattle.vd_accepting.specs.Phases.{IsAccepted, first_broken, resolved_design}
use Rattle.vd_call_rules.specs.Calls.{first_refused as first_of_calls}
use Rattle.vd_call_rules.specs.Chains.{first_refused as first_of_chains}
use Rattle.vd_structure_rules.specs.StructureRules.{first_refused as first_of_structure}
use Rattle.vd_trees.specs.declared.revision.Revision.{Revision}

-- the resolved tree of a design that breaks no rule
pub record MeetsRules (r : Revision) (tree : ResolvedTree) : Type 0 where
  pub units : Forest Form
  pub resolved : tree ≡ resolved_design r units
  pub accepted : IsAccepted r units

-- What is answered of a design: where it breaks no rule, it resolved, and else the first rule that it breaks. Nothing is said where memory runs out.
abbrev pub IsAnswer : Revision → Forest Form → Result ResolvedTree Refusal → Type 0
IsAnswer r units (Ok tree) = (tree ≡ resolved_design r units) × IsAccepted r units
IsAnswer r units (Err (Refused refused)) = first_broken r units ≡ Some refused
IsAnswer r units (Err Memory) = Unit {0}

-- the first refusal of the rules on types, values and structure, where those that need types and values refuse this first
abbrev pub first_of_rules : Revision → ResolvedTree → Option AnyRefused → Option AnyRefused
first_of_rules r tree o = lesser (first_of_structure r tree.units) (lesser (first_of_calls tree.units) (lesser (first_of_chains r tree) o))
