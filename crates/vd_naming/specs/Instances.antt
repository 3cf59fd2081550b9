-- Instances of packages and functions with generics: what they declare at their ends, and what is refused of them. (IEEE 1076-2019, package instantiation
-- declarations; subprogram instantiation declarations)
use Rattle.std.specs.Prelude.{ℕ, Bool, true, false, ◌&&◌, ◌||◌, not, List, length, Option, Some, None, option_map, if◌then◌else◌}
use Rattle.std.specs.List.{list_all, list_any}
use Rattle.vd_bytes.specs.declared.answers.Refused.{Refused}
use Rattle.vd_declarations.specs.declared.classes.Class.{Class}
use Rattle.vd_declarations.specs.declared.classes.Class.TheVariants as class
use Rattle.vd_declarations.specs.declared.declarations.Declaration.{Declaration}
use Rattle.vd_forms.specs.declared.form.Form.{Form}
use Rattle.vd_forms.specs.declared.form.Form.TheVariants as form
use Rattle.vd_text_rules.specs.Designators.{is_operator}
use Rattle.vd_trees.specs.declared.revision.Revision.{Revision}
use Rattle.vd_regions.specs.Scopes.{declaration_at}
use Rattle.vd_forest.specs.Forest.{Forest, more, skipped}
use Rattle.vd_name_rows.specs.declared.at.Actual.{Actual}
use Rattle.vd_name_rows.specs.Designs.{Design, Outcome, sight}
use Rattle.vd_name_rows.specs.Entering.{declaration_of, entering}
use Rattle.vd_name_rows.specs.Noting.{has_body, with_body, is_instance, as_instance, is_tied_elsewhere}
use Rattle.vd_name_rows.specs.Refusals.{lesser, broken_if}
use Rattle.vd_naming.specs.Paths.{is_some}
use Rattle.vd_naming.specs.Endings.{Ended, finished, word_of, entered}
use Rattle.vd_naming.specs.Functions.{is_written_function}
use Rattle.vd_naming.specs.Units.{entering_unit}
use Rattle.vd_naming.specs.Actuals.{actual_of}
use Rattle.vd_naming.specs.Copies.{Copying, copying, number_behind, numbers_of_copies, type_of_copy, with_copies}

-- ---- where an actual of a type or function is refused, nothing is declared

abbrev pub is_settled : Class → Option ℕ → Bool
is_settled class.GenericType actual = is_some actual
is_settled class.GenericFunction actual = is_some actual
is_settled _ actual = true

abbrev pub are_settled : Design → List Actual → List ℕ → Bool
are_settled d actuals generics = list_all (λ g. is_settled (declaration_at d.scopes g).class (actual_of g actuals)) generics

abbrev pub copying_at : Ended → ℕ → Copying
copying_at x n = copying n x.outer.region (sight x.outer x.inner.design) x.inner.at.actuals x.inner.design

-- ---- packages

-- it declares a function without body, which is one in the body of the package
abbrev pub wants_body : Design → ℕ → Bool
wants_body d k = is_written_function (declaration_at d.scopes k).class && not (is_instance d k)

abbrev pub lacks_body : Design → ℕ → Bool
lacks_body d n = list_any (wants_body d) (declaration_at d.scopes n).parameters && not (has_body d n)

-- what it lists is the copies of what the package lists
abbrev pub package_instance : Ended → Copying → Declaration
package_instance x c =
    record (declaration_of class.PackageInstance (word_of x) None) {
      parameters = numbers_of_copies c c.generic.parameters;
      generics = numbers_of_copies c c.generic.generics;
      inside = Some c.first_region;
    }

abbrev pub package_declared : Ended → Copying → Outcome
package_declared x c =
    entered x (Some (number_behind c)) x.inner.tree (entering_unit (package_instance x c) (with_copies c x.inner.design))

-- where it declares nothing, its name may be taken all the same
abbrev pub undeclared_package : Ended → Outcome
undeclared_package x =
    finished x None None x.inner.tree x.inner.design (entering_unit (declaration_of class.PackageInstance (word_of x) None) x.inner.design).first

abbrev pub package_instance_of : ℕ → Ended → Outcome
package_instance_of n x =
    if are_settled x.inner.design x.inner.at.actuals (declaration_at x.inner.design.scopes n).generics then package_declared x (copying_at x n)
    else undeclared_package x

abbrev pub refused_also : Option Refused → Outcome → Outcome
refused_also r o = record o { first = lesser o.first r }

abbrev pub package_instance_as : Option ℕ → Ended → Outcome
package_instance_as None x = undeclared_package x
package_instance_as (Some n) x = refused_also (broken_if (lacks_body x.inner.design n) 302 x.place) (package_instance_of n x)

abbrev pub package_instance_ends : Ended → Outcome
package_instance_ends x = package_instance_as x.inner.at.named x

-- ---- functions

-- a designator in quotation marks is an operator with as many operands
abbrev pub is_wrong_symbol : Revision → Forest Form → ℕ → Bool
is_wrong_symbol r (more form.Quoted text place parts next) count = not (is_operator r text count)
is_wrong_symbol r _ count = false

abbrev pub refused_symbol : Ended → ℕ → Option Refused
refused_symbol x n =
    broken_if (is_wrong_symbol x.outer.revision (skipped 1 x.parts) (length (declaration_at x.inner.design.scopes n).parameters)) 307 x.inner.at.word_place

-- the body of the function has ended; and it isn't tied to another unit
abbrev pub refused_body : Ended → ℕ → Option Refused
refused_body x n = broken_if (not (has_body x.inner.design n) || is_tied_elsewhere n x.outer.unit x.inner.design) 309 x.place

abbrev pub function_instance : Ended → Copying → Declaration
function_instance x c =
    record (declaration_of class.Function (word_of x) (option_map (type_of_copy c) c.generic.mark)) {
      parameters = numbers_of_copies c c.generic.parameters;
      generics = numbers_of_copies c c.generic.generics;
      inside = Some c.first_region;
    }

-- In a package declaration its body ends with the package, or where that of the package begins.
abbrev pub with_instance : Bool → ℕ → Design → Design
with_instance true k d = as_instance k d
with_instance false k d = with_body k (as_instance k d)

abbrev pub function_declared : Ended → Copying → Outcome
function_declared x c =
    entered x (Some (number_behind c)) x.inner.tree
    (entering x.outer.region (function_instance x c) (with_instance x.outer.is_package (number_behind c) (with_copies c x.inner.design)))

abbrev pub undeclared_function : Ended → Outcome
undeclared_function x =
    finished x None None x.inner.tree x.inner.design (entering x.outer.region (declaration_of class.Function (word_of x) None) x.inner.design).first

abbrev pub function_instance_of : ℕ → Ended → Outcome
function_instance_of n x =
    if are_settled x.inner.design x.inner.at.actuals (declaration_at x.inner.design.scopes n).generics then function_declared x (copying_at x n)
    else undeclared_function x

abbrev pub function_instance_as : Option ℕ → Ended → Outcome
function_instance_as None x = undeclared_function x
function_instance_as (Some n) x = refused_also (lesser (refused_symbol x n) (refused_body x n)) (function_instance_of n x)

abbrev pub function_instance_ends : Ended → Outcome
function_instance_ends x = function_instance_as x.inner.at.named x
