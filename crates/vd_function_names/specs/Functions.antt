-- Names in functions, in the order of the text: the variables of the nearest function go down to what stands in it.
use Rattle.std.specs.Prelude.{Bool, List, None, Option, Some, false, if◌then◌else◌, true, ℕ}
use Rattle.vd_forms.specs.declared.form.Form.{Form}
use Rattle.vd_walks.specs.Least.{least_of, lesser}
use Rattle.vd_resolved.specs.declared.node.Resolved.{Resolved}
use Rattle.vd_value_rules.specs.Groups.{name_in_function}
use Rattle.vd_value_rules.specs.Designs.{Design}
use Rattle.vd_value_rules.specs.Standings.{State, beginning, locals_down}
use Rattle.vd_walks.specs.Walking.{Inside, Walker}
use Rattle.vd_forms.specs.declared.form.Form.TheVariants as form

-- inside of these there are other variables
abbrev pub is_function : Form → Bool
is_function form.FunctionBody = true
is_function form.FunctionDeclaration = true
is_function form.GenericFunction = true
is_function _ = false

-- inside a function with these variables
abbrev pub among : Option (List ℕ) → State
among locals = record beginning { locals = locals }

-- behind a function there are those again that were in front of it
abbrev pub restored : Option (Option (List ℕ)) → Option (List ℕ) → Option (List ℕ)
restored None locals = locals
restored (Some before) locals = before

abbrev pub names_walker : {G D : Type 0} → Design → Walker Resolved G (Option (List ℕ)) D (Option (Option (List ℕ)))
names_walker d = record {
  enter = λ n text place parts locals table.
      if is_function n.form then Inside (locals_down n.form d parts locals) table (Some locals) else Inside locals table None;
  leave = λ kept n text place parts inner. record inner {
    at = restored kept inner.at;
    first = lesser (least_of (name_in_function n.form d (among inner.at) place parts)) inner.first;
  };
}
