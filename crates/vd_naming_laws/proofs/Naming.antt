-- The laws.
use Rattle.std.proofs.Common.{false, [], refl, sym, subst}
use Rattle.vd_forms.specs.Slots.{file_slots}
use Rattle.vd_forms.specs.Validity.{IsDesign}
use Rattle.vd_resolved.specs.Trees.{syntax_of}
use Rattle.vd_trees.specs.declared.revision.Revision.TheVariants.{V1993}
use Rattle.vd_name_rows.specs.Designs.{begin_design}
use Rattle.vd_name_rows.specs.declared.steps.Step.TheVariants as step
use Rattle.vd_naming.specs.Naming.{begin, names_from}
use Rattle.vd_naming.specs.Settled.{settled_node}
use Rattle.vd_naming_laws.specs.Laws.{NamesKeepSyntax, NamesOf1993KeepSyntax, NamesGiveDesigns, SettlingKeepsSyntax}
use Rattle.vd_naming_laws.proofs.Trees.{syntax_changed}
use Rattle.vd_naming_laws.proofs.Walk.{walk_keeps}
use Rattle.vd_naming_laws.proofs.Designs.{keeps_exactly, keeps_valid}

pub names_keep : NamesKeepSyntax
names_keep s r units design =
    walk_keeps units r units false [] step.Look file_slots (begin r) (begin_design s) (record { revision = refl; steps_are = refl; rest_is = refl }) refl design.are_units design.are_valid

pub names_of_1993_keep : NamesOf1993KeepSyntax
names_of_1993_keep s units design = keeps_exactly [] step.Look units (syntax_of (names_from s V1993 units).tree) (names_keep s V1993 units design)

pub settling_keeps : SettlingKeepsSyntax
settling_keeps o = syntax_changed (settled_node o.design.taken) (λ n. refl) o.tree

pub names_give : NamesGiveDesigns
names_give s r units design =
    let o = names_from s r units in
    let is = keeps_valid r units (syntax_of o.tree) false [] step.Look file_slots (names_keep s r units design) refl design.are_units refl design.are_valid in
    subst (IsDesign r) (sym (settling_keeps o)) (record { are_units = is.do_fit; are_valid = is.are_valid })
