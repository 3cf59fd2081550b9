-- What is known at the place behind a form doesn't hang on what the form declares.
use Rattle.std.proofs.Common.{◌≡◌, ◌==◌, ℕ, suc, Bool, true, false, cond, Option, Some, None, refl, sym, ap, ◌∙◌}
use Rattle.vd_forest.specs.Forest.{Forest, parts_of, text_of}
use Rattle.vd_forms.specs.declared.form.Form.{Form}
use Rattle.vd_predefined.specs.declared.numbers.TheConstants.{REGION_OF_LIBRARIES}
use Rattle.vd_regions.specs.Scopes.{declaration_at}
use Rattle.vd_name_rows.specs.Designs.{At, Design, Outcome}
use Rattle.vd_name_rows.specs.declared.sorts.Sort.TheVariants as sort
use Rattle.vd_name_rows.specs.declared.steps.Ending.{Ending}
use Rattle.vd_name_rows.specs.declared.steps.Ending.TheVariants as ending
use Rattle.vd_naming.specs.Endings.{Ended, behind, finished}
use Rattle.vd_naming.specs.Functions.{body_of}
use Rattle.vd_naming.specs.Units.{body_of_package, unit_named, is_single}
use Rattle.vd_naming.specs.Instances.{are_settled, package_declared, undeclared_package, package_instance_as, function_declared, undeclared_function, function_instance_as, copying_at}
use Rattle.vd_naming.specs.Naming.{ended}
use Rattle.vd_name_resolution.specs.Places.{place_behind}

either : (b : Bool) (o p : Outcome) (at : At) → o.at ≡ at → p.at ≡ at → (cond b o p).at ≡ at
either true o p at first second = first
either false o p at first second = second

body : (k : Option ℕ) (x : Ended) → (body_of k x).at ≡ behind x.outer x.inner.at
body None x = refl
body (Some k) x = refl

package_body : (k : Option ℕ) (x : Ended) → (body_of_package k x).at ≡ behind x.outer x.inner.at
package_body None x = refl
package_body (Some k) x = refl

package_instance : (k : Option ℕ) (x : Ended) → (package_instance_as k x).at ≡ behind x.outer x.inner.at
package_instance None x = refl
package_instance (Some n) x =
    either (are_settled x.inner.design x.inner.at.actuals (declaration_at x.inner.design.scopes n).generics)
    (package_declared x (copying_at x n)) (undeclared_package x) (behind x.outer x.inner.at) refl refl

function_instance : (k : Option ℕ) (x : Ended) → (function_instance_as k x).at ≡ behind x.outer x.inner.at
function_instance None x = refl
function_instance (Some n) x =
    either (are_settled x.inner.design x.inner.at.actuals (declaration_at x.inner.design.scopes n).generics)
    (function_declared x (copying_at x n)) (undeclared_function x) (behind x.outer x.inner.at) refl refl

unit : (b : Bool) (o : Outcome) → (cond b (record o { at = record o.at { unit = suc o.at.unit } }) o).at ≡ cond b (record o.at { unit = suc o.at.unit }) o.at
unit true o = refl
unit false o = refl

pub at_behind : (whole : Forest Form) (e : Ending) (x : Ended) → (ended whole e x).at ≡ place_behind x.inner.design e x.outer x.inner.at
at_behind whole ending.Nothing x = refl
at_behind whole ending.First x = refl
at_behind whole ending.Typed x = refl
at_behind whole ending.Indicated x = refl
at_behind whole ending.ClauseEnds x = refl
at_behind whole (ending.Objects object names) x = refl
at_behind whole ending.AllPorts x = refl
at_behind whole ending.NewType x = refl
at_behind whole ending.NewSubtype x = refl
at_behind whole ending.NewView x = refl
at_behind whole ending.NewGenericType x = refl
at_behind whole ending.NewGenericFunction x = refl
at_behind whole ending.NewFunction x = refl
at_behind whole ending.BodyEnds x = body x.inner.at.function x
at_behind whole ending.NewFunctionInstance x = function_instance x.inner.at.named x
at_behind whole ending.UnitEnds x = unit (x.outer.region == REGION_OF_LIBRARIES) (finished x None None x.inner.tree x.inner.design None)
at_behind whole ending.NewEntity x = refl
at_behind whole ending.NewArchitecture x = refl
at_behind whole ending.NewPackage x = refl
at_behind whole ending.PackageBodyEnds x = package_body (unit_named sort.WrittenPackage (text_of x.parts) x.inner.design) x
at_behind whole ending.NewPackageInstance x = package_instance x.inner.at.named x
at_behind whole ending.NewContext x = either (is_single (parts_of x.parts)) _ _ (behind x.outer x.inner.at) refl refl

pub place_is : (whole : Forest Form) (e : Ending) (d : Design) (outer inner at : At) (x : Ended) → at ≡ place_behind d e outer inner
    → x.outer ≡ outer → x.inner.at ≡ inner → x.inner.design ≡ d → at ≡ (ended whole e x).at
place_is whole e d outer inner at x is front parts design =
    is
    ∙ sym (ap (λ a. place_behind d e a inner) front)
    ∙ sym (ap (λ a. place_behind d e x.outer a) parts)
    ∙ sym (ap (λ a. place_behind a e x.outer x.inner.at) design)
    ∙ sym (at_behind whole e x)
