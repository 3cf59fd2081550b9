-- The rules that hang on forms, texts and the numbers of declarations alone, and on no type or value.
use Rattle.std.specs.Prelude.{ℕ, Bool, List, [], ◌∷◌, ◌++◌, Option, None}
use Rattle.vd_bytes.specs.declared.places.Place.{Place}
use Rattle.vd_bytes.specs.declared.answers.Refused.{Refused}
use Rattle.vd_trees.specs.declared.revision.Revision.{Revision}
use Rattle.vd_forest.specs.Forest.{Forest}
use Rattle.vd_walks.specs.Least.{Judge, refusals, least}
use Rattle.vd_resolved.specs.declared.node.Resolved.{Resolved}
use Rattle.vd_structure_rules.specs.declared.around.Around.{Around}
use Rattle.vd_structure_rules.specs.declared.around.Body.TheVariants as body
use Rattle.vd_structure_rules.specs.declared.around.Naming.TheVariants as naming
use Rattle.vd_structure_rules.specs.declared.loops.LabelledLoop.{LabelledLoop}
use Rattle.vd_structure_rules.specs.Statements.{body_in, label_in, statement_place, wait_in_listed, process_without_wait, loop_without_wait, return_outside}
use Rattle.vd_structure_rules.specs.Loops.{innermost_in, labelled_loops, loop_of, wrong_jump}
use Rattle.vd_structure_rules.specs.Functions.{bodies, is_among, in_function, report_goes_on, without_return, without_body, equality_function}
use Rattle.vd_structure_rules.specs.Names.{naming_in, name_part, kept_free_name, declared_name_in, only_2019}
use Rattle.vd_structure_rules.specs.Choices.{has_choices, early_in}

-- what is asked of the whole design: whether a function has a body, and the loop of a label
pub record Design : Type 0 where
  pub with_body : ℕ → Bool
  pub loops : ℕ → Option LabelledLoop

-- statements that their process, function or loop may not have. A statement is refused at its label, where it has one
abbrev pub broken_by_statement : Design → Around → Place → Resolved → Place → Forest Resolved → List (Option Refused)
broken_by_statement d around place n own parts =
    wait_in_listed around.body n.form place ∷ process_without_wait n.form place parts ∷ loop_without_wait n.form place parts
    ∷ return_outside around.body n.form place ∷ wrong_jump d.loops around.innermost n.form place own parts
    ∷ in_function around.body n.form place ∷ report_goes_on around.body n.form place parts ∷ []

abbrev pub broken_by_declaration : Revision → Design → Around → Resolved → List ℕ → Place → Forest Resolved → List (Option Refused)
broken_by_declaration r d around n text place parts =
    without_return n.form place parts ∷ without_body d.with_body n.form n.declaration place parts
    ∷ only_2019 r (kept_free_name around.naming n.form text place) ∷ only_2019 r (declared_name_in (name_part n.form) parts)
    ∷ equality_function r n.form place parts ∷ []

abbrev pub broken_at : Revision → Design → Around → Resolved → List ℕ → Place → Forest Resolved → List Refused
broken_at r d around n text place parts =
    refusals (broken_by_statement d around (statement_place around.label place) n place parts)
    ++ (refusals (broken_by_declaration r d around n text place parts) ++ refusals (early_in (has_choices n.form) parts))

abbrev pub around_in : Around → Resolved → Place → Forest Resolved → Around
around_in around n place parts = record {
  label = label_in n.form place;
  body = body_in n.form parts around.body;
  innermost = innermost_in n.form (statement_place around.label place) around.innermost;
  naming = naming_in n.form around.naming;
}

abbrev pub structure_judge : Revision → Design → Judge Resolved Around
structure_judge r d = record {
  broken = broken_at r d;
  down = λ around n text place parts. around_in around n place parts;
  along = λ around n text place parts. around;
}

abbrev pub outside : Around
outside = record { label = None; body = body.Outside; innermost = None; naming = naming.Used }

abbrev pub design_of : Forest Resolved → Design
design_of units = record { with_body = is_among (bodies units); loops = loop_of (labelled_loops units) }

-- the least refusal of some design units
abbrev pub first_refused : Revision → Forest Resolved → Option Refused
first_refused r units = least (structure_judge r (design_of units)) outside units
