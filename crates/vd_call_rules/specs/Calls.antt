-- Calls, and where the bodies of functions end, in the order of the text. (IEEE 1076, function calls; subprogram bodies; subprogram
-- instantiation declarations; package bodies)
use Rattle.std.specs.Prelude.{ℕ, ◌==◌, Bool, true, false, not, ◌||◌, List, [], ◌∷◌, Option, Some, None, is_some, if◌then◌else◌}
use Rattle.vd_bytes.specs.declared.places.Place.{Place}
use Rattle.vd_bytes.specs.declared.answers.Refused.{Refused}
use Rattle.vd_forest.specs.Forest.{Forest, skipped}
use Rattle.vd_forms.specs.declared.form.Form.{Form}
use Rattle.vd_forms.specs.declared.form.Form.TheVariants as form
use Rattle.vd_walks.specs.Finding.{Finder}
use Rattle.vd_walks.specs.Gathering.{all_found}
use Rattle.vd_walks.specs.Least.{least_of, refusals}
use Rattle.vd_resolved.specs.declared.node.Resolved.{Resolved}
use Rattle.vd_structure_rules.specs.Loops.{number_at}
use Rattle.vd_structure_rules.specs.Functions.{or_designator, is_among}
use Rattle.vd_call_rules.specs.declared.inside.Inside.{Inside}
use Rattle.vd_call_rules.specs.declared.events.Event.{Event}
use Rattle.vd_call_rules.specs.declared.events.Event.TheVariants.{Called, Ended}
use Rattle.vd_call_rules.specs.declared.functions.Written.{Written}

-- ---- what a node is inside of

-- the package in whose declaration something stands directly
abbrev pub package_in : Form → Forest Resolved → Option ℕ → Option ℕ
package_in form.PackageDeclaration parts around = number_at parts
package_in form.DeclarativePart parts around = around
package_in _ parts around = None

-- the function whose body it is directly a part of
abbrev pub function_in : Form → Option ℕ → Forest Resolved → Option ℕ
function_in form.FunctionBody number parts = or_designator number (skipped 1 parts)
function_in _ number parts = None

-- the place of the name of which it is a piece
abbrev pub name_in : Form → Place → Option Place
name_in form.Name place = Some place
name_in form.OperatorName place = Some place
name_in _ place = None

abbrev pub inside_of : Inside → Resolved → Place → Forest Resolved → Inside
inside_of around n place parts = record {
  home = package_in n.form parts around.home;
  function = function_in n.form n.declaration parts;
  name = name_in n.form place;
}

abbrev pub outside : Inside
outside = record { home = None; function = None; name = None }

-- ---- functions that are written: where the body of each ends. That of an instance in a package declaration ends with its package

abbrev pub until : Option ℕ → ℕ → ℕ
until None function = function
until (Some home) function = home

abbrev pub written_until : Option ℕ → Option ℕ → Option Written
written_until home None = None
written_until home (Some function) = Some (record { function = function; until = until home function })

abbrev pub written_at : Option ℕ → Form → Option ℕ → Forest Resolved → Option Written
written_at home form.FunctionDeclaration number parts = written_until None (or_designator number (skipped 1 parts))
written_at home form.FunctionBody number parts = written_until None (or_designator number (skipped 1 parts))
written_at home form.FunctionInstantiation number parts = written_until home (or_designator number (skipped 1 parts))
written_at home _ number parts = None

abbrev pub written_finder : Finder Resolved Inside Written
written_finder = record {
  answer = λ around n text place parts. written_at around.home n.form n.declaration parts;
  down = λ around n text place parts. inside_of around n place parts;
  along = λ around n text place parts. around;
}

abbrev pub written : Forest Resolved → List Written
written units = all_found written_finder outside units

-- where the body of a function ends: with a function or a package. Functions that nobody wrote have no such end
abbrev pub end_of : List Written → ℕ → Option ℕ
end_of [] function = None
end_of (w ∷ ws) function = if function == w.function then Some w.until else end_of ws function

-- ---- packages that have bodies

abbrev pub package_body_at : Form → Forest Resolved → Option ℕ
package_body_at form.PackageBody parts = number_at parts
package_body_at _ parts = None

abbrev pub package_body_finder : Finder Resolved ℕ ℕ
package_body_finder = record {
  answer = λ s n text place parts. package_body_at n.form parts;
  down = λ s n text place parts. s;
  along = λ s n text place parts. s;
}

abbrev pub package_bodies : Forest Resolved → List ℕ
package_bodies units = all_found package_body_finder 0 units

-- ---- events of a text: calls, and ends

abbrev pub ended : Option ℕ → Option Event
ended None = None
ended (Some number) = Some (Ended number)

-- a package without body ends what it has instances of, and else its body does where it begins
abbrev pub ended_without_body : (ℕ → Bool) → Option ℕ → Option Event
ended_without_body with_body None = None
ended_without_body with_body (Some home) = if with_body home then None else Some (Ended home)

-- an instance outside package declarations has its body where it stands
abbrev pub ended_instance : Option ℕ → Option ℕ → Option Event
ended_instance None number = ended number
ended_instance (Some home) number = None

-- A node that has a type and names a function calls it. A piece of a name stands for the whole name
abbrev pub place_of_call : Option Place → Place → Place
place_of_call None place = place
place_of_call (Some name) place = name

abbrev pub called : Option ℕ → Option ℕ → Place → Option Event
called (Some function) (Some mark) place = Some (Called function place)
called _ _ place = None

abbrev pub event_at : (ℕ → Bool) → Inside → Form → Option ℕ → Option ℕ → Place → Forest Resolved → Option Event
event_at with_body around form.FunctionClosing number mark place parts = ended around.function
event_at with_body around form.PackageBody number mark place parts = ended (number_at parts)
event_at with_body around form.Closing number mark place parts = ended_without_body with_body around.home
event_at with_body around form.FunctionInstantiation number mark place parts = ended_instance around.home (or_designator number (skipped 1 parts))
event_at with_body around _ number mark place parts = called number mark (place_of_call around.name place)

abbrev pub event_finder : (ℕ → Bool) → Finder Resolved Inside Event
event_finder with_body = record {
  answer = λ around n text place parts. event_at with_body around n.form n.declaration n.mark place parts;
  down = λ around n text place parts. inside_of around n place parts;
  along = λ around n text place parts. around;
}

abbrev pub events : (ℕ → Bool) → Forest Resolved → List Event
events with_body units = all_found (event_finder with_body) outside units

-- ---- 411: a call before the end of the called body

abbrev pub and_end : ℕ → (ℕ → Bool) → ℕ → Bool
and_end number so_far k = (k == number) || so_far k

abbrev pub refused_until : Option ℕ → (ℕ → Bool) → Place → Option Refused
refused_until None so_far place = None
refused_until (Some end) so_far place = if so_far end then None else Some (record { place = place; rule = 411 })

-- of each call, after what has ended so far
abbrev pub early_calls : (ℕ → Option ℕ) → (ℕ → Bool) → List Event → List (Option Refused)
early_calls ends so_far [] = []
early_calls ends so_far (Ended number ∷ es) = early_calls ends (and_end number so_far) es
early_calls ends so_far (Called function place ∷ es) = refused_until (ends function) so_far place ∷ early_calls ends so_far es

abbrev pub nothing_ended : ℕ → Bool
nothing_ended k = false

-- the least refusal of some design units
abbrev pub first_refused : Forest Resolved → Option Refused
first_refused units =
    least_of (refusals (early_calls (end_of (written units)) nothing_ended (events (is_among (package_bodies units)) units)))
