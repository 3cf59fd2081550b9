-- The names of a design: what each tree comes to, by the rows of the forms. (IEEE 1076, scope and visibility; the order of analysis)
use Rattle.std.specs.Prelude.{ℕ, false, List, [], ◌∷◌, Option, None, if◌then◌else◌}
use Rattle.vd_bytes.specs.declared.answers.Refused.{Refused}
use Rattle.vd_bytes.specs.declared.places.Place.{Place}
use Rattle.vd_forest.specs.Forest.{Forest, no_place}
use Rattle.vd_forms.specs.declared.form.Form.{Form}
use Rattle.vd_forms.specs.declared.form.Form.TheVariants as form
use Rattle.vd_forms.specs.Forms.{is_among, expressions}
use Rattle.vd_predefined.specs.declared.numbers.TheConstants.{REGION_OF_LIBRARIES}
use Rattle.vd_predefined.specs.Given.{given_scopes}
use Rattle.vd_regions.specs.Scopes.{Scopes}
use Rattle.vd_trees.specs.declared.revision.Revision.{Revision}
use Rattle.vd_resolved.specs.declared.node.Resolved.{Resolved}
use Rattle.vd_name_rows.specs.Designs.{At, Design, Outcome, begin_design, refused_too}
use Rattle.vd_name_rows.specs.Rows.{row_of, class_of}
use Rattle.vd_name_rows.specs.Members.{next_number}
use Rattle.vd_name_rows.specs.declared.steps.Step.{Step}
use Rattle.vd_name_rows.specs.declared.steps.Step.TheVariants as step
use Rattle.vd_name_rows.specs.declared.steps.Want.TheVariants as want
use Rattle.vd_name_rows.specs.declared.steps.Ending.{Ending}
use Rattle.vd_name_rows.specs.declared.steps.Ending.TheVariants as ending
use Rattle.vd_walks.specs.Walking.{Walker, Entry, Done, Inside, walked}
use Rattle.vd_naming.specs.Expressions.{expression, target, selector}
use Rattle.vd_naming.specs.Paths.{mark}
use Rattle.vd_naming.specs.Endings.{Ended, nothing_ends, first_ends, typed_ends, objects_end, ports_end, indication_ends, type_ends, subtype_ends}
use Rattle.vd_naming.specs.Functions.{header_ends, function_ends, body_ends, generic_function_ends, generic_type_ends, clause_ends}
use Rattle.vd_naming.specs.Units.{entity_word, library_word, use_name, context_name, unit_ends, entity_ends, architecture_ends, package_ends, package_body_ends, context_ends}
use Rattle.vd_naming.specs.Statements.{alone, skipped, word, simple_name, names, label, label_name, parameter, surplus}
use Rattle.vd_naming.specs.Openings.{Opened, opened, opens, with_steps}
use Rattle.vd_naming.specs.Indexes.{array_index, index_mark}
use Rattle.vd_naming.specs.Views.{view_name, converse, of_viewed_record, element_names, view_ends}
use Rattle.vd_naming.specs.Generics.{generic_package, generic_function, generic_map}
use Rattle.vd_naming.specs.Instances.{package_instance_ends, function_instance_ends}
use Rattle.vd_naming.specs.Ports.{instance_entity, instance_architecture, port_map}

-- ---- the trees behind a step

abbrev pub step_of : At → Step
step_of at = elim at.steps [ [] ↦ at.rest | step ∷ steps ↦ step ]

abbrev pub steps_behind : List Step → List Step
steps_behind [] = []
steps_behind (step ∷ steps) = steps

abbrev pub stepped : At → At
stepped at = record at { steps = steps_behind at.steps }

-- ---- endings. Some hang on the whole design

abbrev pub ended : Forest Form → Ending → Ended → Outcome
ended whole ending.Nothing x = nothing_ends x
ended whole ending.First x = first_ends x
ended whole ending.Typed x = typed_ends x
ended whole ending.Indicated x = indication_ends x
ended whole ending.ClauseEnds x = clause_ends x
ended whole (ending.Objects object names) x = objects_end (class_of object) names x
ended whole ending.AllPorts x = ports_end x
ended whole ending.NewType x = type_ends x
ended whole ending.NewSubtype x = subtype_ends x
ended whole ending.NewView x = view_ends x
ended whole ending.NewGenericType x = generic_type_ends x
ended whole ending.NewGenericFunction x = generic_function_ends x
ended whole ending.NewFunction x = function_ends x
ended whole ending.BodyEnds x = body_ends x
ended whole ending.NewFunctionInstance x = function_instance_ends x
ended whole ending.UnitEnds x = unit_ends x
ended whole ending.NewEntity x = entity_ends x
ended whole ending.NewArchitecture x = architecture_ends x
ended whole ending.NewPackage x = package_ends whole x
ended whole ending.PackageBodyEnds x = package_body_ends x
ended whole ending.NewPackageInstance x = package_instance_ends x
ended whole ending.NewContext x = context_ends x

-- ---- a tree by its own row: what it opens, its parts, what it declares

-- what is kept of a node while its parts are walked: its step, what is known in front of it and before its parts, and a rule that is broken there
pub record Kept : Type 0 where
  pub step : Step
  pub outer : At
  pub inside : At
  pub first : Option Refused

abbrev pub Entered : Type 0
Entered = Entry Resolved At Design Kept

abbrev pub inside_with : Step → At → Opened → Entered
inside_with s outer o = Inside o.at o.design (record { step = s; outer = outer; inside = o.at; first = o.first })

abbrev pub looked : Step → Form → Place → Forest Form → At → Design → Entered
looked s f place parts at d = inside_with s at (opened f at d place parts)

-- in the region that is open, as the body of a `for` generate stands in that of its parameter
abbrev pub within : Form → At → Design → Entered
within f at d = inside_with step.Within at (with_steps (row_of f) (next_number d) (opens at d))

-- at the end of its parts
abbrev pub looked_at : Forest Form → Kept → Form → List ℕ → Place → Forest Form → Outcome → Outcome
looked_at whole k f text place parts inner =
    refused_too k.first
    (ended whole (row_of f).ending (record { form = f; text = text; place = place; parts = parts; outer = k.outer; inside = k.inside; inner = inner }))

-- the subtype behind the view of a port is one of the view's record type
abbrev pub left_by : Step → Form → Place → At → Outcome → Outcome
left_by step.ViewSubtype f place at o = of_viewed_record f place at o
left_by _ f place at o = o

-- ---- steps, each on one tree

abbrev pub chosen : Form → List ℕ → Place → Forest Form → At → Design → Entered
chosen f text place parts at d =
    if is_among expressions f then Done (expression want.AtHand at d (alone f text place parts)) else looked step.Chosen f place parts at d

-- any bounds of a discrete mark, or a discrete range
abbrev pub index_of_array : Form → List ℕ → Place → Forest Form → At → Design → Entered
index_of_array form.UnconstrainedIndex text place parts at d = looked step.ArrayIndex form.UnconstrainedIndex place parts at d
index_of_array f text place parts at d = Done (array_index at d (alone f text place parts))

abbrev pub done : Forest Form → Step → Form → List ℕ → Place → Forest Form → At → Design → Entered
done whole step.Skip f text place parts at d = Done (skipped at d (alone f text place parts))
done whole step.Look f text place parts at d = looked step.Look f place parts at d
done whole step.Within f text place parts at d = within f at d
done whole (step.Expression w) f text place parts at d = Done (expression w at d (alone f text place parts))
done whole step.Chosen f text place parts at d = chosen f text place parts at d
done whole step.Surplus f text place parts at d = Done (surplus at d place (alone f text place parts))
done whole step.Word f text place parts at d = Done (word at d f text place parts)
done whole step.SimpleName f text place parts at d = Done (simple_name at d place (alone f text place parts))
done whole step.Names f text place parts at d = Done (names at d f text place parts)
done whole step.Label f text place parts at d = Done (label at d f text place)
done whole step.LabelName f text place parts at d = Done (label_name at d f text place)
done whole step.Mark f text place parts at d = Done (mark at d place (alone f text place parts))
done whole step.Result f text place parts at d = Done (header_ends (mark at d place (alone f text place parts)))
done whole step.IndexMark f text place parts at d = Done (index_mark at d (alone f text place parts))
done whole step.Target f text place parts at d = Done (target at d (alone f text place parts))
done whole step.Selector f text place parts at d = Done (selector at d (alone f text place parts))
done whole (step.Parameter object) f text place parts at d = Done (parameter (class_of object) at d (alone f text place parts))
done whole step.LibraryWord f text place parts at d = Done (library_word at d f text place)
done whole step.UseName f text place parts at d = Done (use_name at d place (alone f text place parts))
done whole step.ContextName f text place parts at d = Done (context_name at d place (alone f text place parts))
done whole step.EntityWord f text place parts at d = Done (entity_word at d f text place)
done whole step.ArrayIndex f text place parts at d = index_of_array f text place parts at d
done whole step.ViewName f text place parts at d = Done (view_name at d place (alone f text place parts))
done whole step.Converse f text place parts at d = Done (converse at d f text place)
done whole step.ViewSubtype f text place parts at d = looked step.ViewSubtype f place parts at d
done whole step.ElementNames f text place parts at d = Done (element_names at d f text place parts)
done whole step.GenericPackage f text place parts at d = Done (generic_package at d place (alone f text place parts))
done whole step.GenericFunctionName f text place parts at d = Done (generic_function at d place (alone f text place parts))
done whole step.InstanceEntity f text place parts at d = Done (instance_entity at d place (alone f text place parts))
done whole step.InstanceArchitecture f text place parts at d = Done (instance_architecture whole at d f text place)
done whole step.Generics f text place parts at d = Done (generic_map at d f text place parts)
done whole step.Ports f text place parts at d = Done (port_map at d f text place parts)

-- ---- trees side by side: a walk over the forest

abbrev pub naming : Forest Form → Walker Form Resolved At Design Kept
naming whole = record {
  enter = λ f text place parts at d. done whole (step_of at) f text place parts (stepped at) d;
  leave = λ k f text place parts inner. left_by k.step f place k.outer (looked_at whole k f text place parts inner);
}

-- ---- a design

abbrev pub begin : Revision → At
begin r = record {
  revision = r;
  unit = 0;
  region = REGION_OF_LIBRARIES;
  is_package = false;
  ports = None;
  word = [];
  word_place = no_place;
  label_place = no_place;
  is_loop = false;
  named = None;
  mark = None;
  selector = None;
  is_matching = false;
  result = None;
  viewed = None;
  actuals = [];
  header = 0;
  header_end = 0;
  header_regions = 0;
  function = None;
  next = 0;
  steps = [];
  rest = step.Look;
}

-- the names of a design, where some scopes are given
abbrev pub names_from : Scopes → Revision → Forest Form → Outcome
names_from s r units = walked (naming units) units (begin r) (begin_design s)

abbrev pub names_of : Revision → Forest Form → Outcome
names_of r units = names_from (given_scopes r) r units
