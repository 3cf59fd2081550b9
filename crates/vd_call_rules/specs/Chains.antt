-- Chains of calls in a text, function by function. (IEEE 1076, function calls; subprogram bodies; subprogram and package instantiation declarations)
-- Calls stand behind the end of the body that they call, so what a call reaches is known where it stands. What is declared by an instance reaches what
-- its original does, with the actuals in the place of the generic functions.
use Rattle.std.specs.Prelude.{ℕ, ◌==◌, List, [], ◌∷◌, ◌++◌, Option, Some, None, if◌then◌else◌, slice_get, slice_index_or}
use Rattle.vd_bytes.specs.declared.places.Place.{Place}
use Rattle.vd_bytes.specs.declared.answers.Refused.{Refused}
use Rattle.vd_call_rules.specs.Calls.{name_in, place_of_call}
use Rattle.vd_declarations.specs.Classes.{meaning}
use Rattle.vd_declarations.specs.declared.classes.Class.{Class}
use Rattle.vd_declarations.specs.declared.classes.Class.TheVariants as class
use Rattle.vd_declarations.specs.declared.declarations.Declaration.{Declaration}
use Rattle.vd_walks.specs.Finding.{Finder}
use Rattle.vd_forest.specs.Forest.{Forest, skipped}
use Rattle.vd_forms.specs.declared.form.Form.{Form}
use Rattle.vd_forms.specs.declared.form.Form.TheVariants as form
use Rattle.vd_walks.specs.Gathering.{all_found}
use Rattle.vd_walks.specs.Least.{least_of, refusals}
use Rattle.vd_resolved.specs.Trees.{ResolvedTree}
use Rattle.vd_resolved.specs.declared.node.Resolved.{Resolved}
use Rattle.vd_structure_rules.specs.Functions.{or_designator}
use Rattle.vd_structure_rules.specs.Loops.{number_at}
use Rattle.vd_trees.specs.declared.revision.Revision.{Revision}
use Rattle.vd_trees.specs.declared.revision.Revision.TheVariants.{V1993, V2019}
use Rattle.vd_call_rules.specs.declared.around.Around.{Around}
use Rattle.vd_call_rules.specs.declared.copies.Copied.{Copied}
use Rattle.vd_call_rules.specs.declared.chain_events.Event.{Event}
use Rattle.vd_call_rules.specs.declared.chain_events.Event.TheVariants.{Called, Ended, Instance}
use Rattle.vd_call_rules.specs.declared.reaches.Reach.{Reach}
use Rattle.vd_call_rules.specs.Reaches.{no_call, generic_call, with_body, calling, in_instance, is_too_long}

-- ---- what a node stands in: the innermost body of a function, and the name of which it is a piece

abbrev pub function_in : Form → Option ℕ → Forest Resolved → Option ℕ → Option ℕ
function_in form.FunctionBody number parts around = or_designator number (skipped 1 parts)
function_in _ number parts around = around

abbrev pub around_in : Around → Resolved → Place → Forest Resolved → Around
around_in around n place parts = record {
  function = function_in n.form n.declaration parts around.function;
  name = name_in n.form place;
}

abbrev pub outside : Around
outside = record { function = None; name = None }

-- ---- what happens in a text: calls, ends of bodies, instances of functions and packages

abbrev pub ended : Option ℕ → Option Event
ended None = None
ended (Some function) = Some (Ended function)

abbrev pub instance_of : Option ℕ → Option ℕ → Option Event
instance_of (Some original) (Some instance) = Some (Instance original instance)
instance_of _ _ = None

abbrev pub called : Option ℕ → Option ℕ → Option ℕ → Place → Option Event
called around (Some function) (Some mark) place = Some (Called around function place)
called around _ _ place = None

abbrev pub event_at : Around → Form → Option ℕ → Option ℕ → Place → Forest Resolved → Option Event
event_at around form.FunctionClosing number mark place parts = ended around.function
event_at around form.FunctionInstantiation number mark place parts = instance_of (number_at (skipped 2 parts)) (or_designator number (skipped 1 parts))
event_at around form.PackageInstantiation number mark place parts = instance_of (number_at (skipped 1 parts)) (or_designator number parts)
event_at around _ number mark place parts = called around.function number mark (place_of_call around.name place)

abbrev pub event_finder : Finder Resolved Around Event
event_finder = record {
  answer = λ around n text place parts. event_at around n.form n.declaration n.mark place parts;
  down = λ around n text place parts. around_in around n place parts;
  along = λ around n text place parts. around;
}

abbrev pub events : Forest Resolved → List Event
events units = all_found event_finder outside units

-- ---- what an instance declares: copies of what its original does

abbrev pub paired : List ℕ → List ℕ → List Copied
paired (n ∷ ns) (m ∷ ms) = record { original = n; copy = m } ∷ paired ns ms
paired _ _ = []

abbrev pub generics_in : Option Declaration → List ℕ
generics_in None = []
generics_in (Some d) = d.generics

abbrev pub parameters_in : Option Declaration → List ℕ
parameters_in None = []
parameters_in (Some d) = d.parameters

abbrev pub copied_generics : List Declaration → ℕ → ℕ → List Copied
copied_generics ds original copy = paired (generics_in (slice_get ds original)) (generics_in (slice_get ds copy))

abbrev pub copied_parameters : List Declaration → ℕ → ℕ → List Copied
copied_parameters ds original copy = paired (parameters_in (slice_get ds original)) (parameters_in (slice_get ds copy))

-- those of what is instantiated, and of the functions with generics that a package declares
abbrev pub generics_of_all : List Declaration → List Copied → List Copied
generics_of_all ds [] = []
generics_of_all ds (c ∷ cs) = copied_generics ds c.original c.copy ++ generics_of_all ds cs

-- what is instantiated, and what a package declares
abbrev pub copies : List Declaration → ℕ → ℕ → List Copied
copies ds original instance =
    record { original = original; copy = instance } ∷ copied_parameters ds original instance

-- ---- what calls reach, by the functions that they call

abbrev pub put_reach : ℕ → Reach → (ℕ → Reach) → ℕ → Reach
put_reach n r reach k = if k == n then r else reach k

abbrev pub class_in : Option Declaration → Option Class
class_in None = None
class_in (Some d) = Some d.class

-- before anything is called or has ended
abbrev pub first_reach_of : Option Class → ℕ → Reach
first_reach_of (Some class.GenericFunction) k = generic_call k
first_reach_of _ k = no_call

abbrev pub first_reach : List Declaration → ℕ → Reach
first_reach ds k = first_reach_of (class_in (slice_get ds k)) k

-- a copy of a generic function is a name of the actual, or else a generic function itself
abbrev pub actual_in : Option Class → Option ℕ
actual_in None = None
actual_in (Some c) = meaning c

abbrev pub reach_of_copy : Option ℕ → ℕ → (ℕ → Reach) → Reach
reach_of_copy None k reach = reach k
reach_of_copy (Some actual) k reach = reach actual

abbrev pub with_generics : List Declaration → List Copied → (ℕ → Reach) → ℕ → Reach
with_generics ds [] reach = reach
with_generics ds (c ∷ cs) reach = with_generics ds cs (put_reach c.copy (reach_of_copy (actual_in (class_in (slice_get ds c.copy))) c.copy reach) reach)

abbrev pub stands_for : List Copied → (ℕ → Reach) → ℕ → Reach
stands_for [] reach q = generic_call q
stands_for (c ∷ cs) reach q = if c.original == q then reach c.copy else stands_for cs reach q

abbrev pub with_copies : List Copied → List Copied → (ℕ → Reach) → ℕ → Reach
with_copies generics [] reach = reach
with_copies generics (c ∷ cs) reach = with_copies generics cs (put_reach c.copy (in_instance (stands_for generics reach) (reach c.original)) reach)

abbrev pub after_instance : List Declaration → List Copied → (ℕ → Reach) → ℕ → Reach
after_instance ds cs reach = with_copies (generics_of_all ds cs) cs (with_generics ds (generics_of_all ds cs) reach)

abbrev pub after_call : Option ℕ → ℕ → (ℕ → Reach) → ℕ → Reach
after_call None function reach = reach
after_call (Some around) function reach = put_reach around (calling (reach around) (reach function)) reach

abbrev pub after : List Declaration → Event → (ℕ → Reach) → ℕ → Reach
after ds (Called around function place) reach = after_call around function reach
after ds (Ended function) reach = put_reach function (with_body (reach function)) reach
after ds (Instance original instance) reach = after_instance ds (copies ds original instance) reach

-- rows by the numbers of functions; where there is none, nothing has been called or has ended
abbrev pub row_or_first : List Declaration → Option Reach → ℕ → Reach
row_or_first ds None k = first_reach ds k
row_or_first ds (Some r) k = r

abbrev pub reach_in : List Declaration → List (Option Reach) → ℕ → Reach
reach_in ds rows k = row_or_first ds (slice_index_or rows k None) k

-- ---- 411, in revision 2019: a chain of calls that is too long

abbrev pub refused_call : Reach → Place → Option Refused
refused_call r place = if is_too_long r then Some (record { place = place; rule = 411 }) else None

abbrev pub refused_at : Event → (ℕ → Reach) → Option Refused
refused_at (Called around function place) reach = refused_call (reach function) place
refused_at (Ended function) reach = None
refused_at (Instance original instance) reach = None

abbrev pub long_calls : List Declaration → (ℕ → Reach) → List Event → List (Option Refused)
long_calls ds reach [] = []
long_calls ds reach (e ∷ es) = refused_at e reach ∷ long_calls ds (after ds e reach) es

-- the least refusal of a resolved design
abbrev pub first_refused : Revision → ResolvedTree → Option Refused
first_refused V1993 tree = None
first_refused V2019 tree = least_of (refusals (long_calls tree.declarations (first_reach tree.declarations) (events tree.units)))
