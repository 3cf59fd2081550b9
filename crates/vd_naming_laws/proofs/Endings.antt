-- Each ending keeps the syntax of its node, and leaves the steps that were left in front of it.
use Rattle.std.proofs.Common.{◌≡◌, ℕ, suc, Option, Some, None, refl, ap}
use Rattle.vd_bytes.specs.declared.answers.Refused.{Refused}
use Rattle.vd_declarations.specs.declared.classes.Class.TheVariants as class
use Rattle.vd_forest.specs.Forest.{Forest, nothing, more}
use Rattle.vd_forms.specs.declared.form.Form.{Form}
use Rattle.vd_forms.specs.declared.form.Form.TheVariants as form
use Rattle.vd_regions.specs.Scopes.{declaration_at}
use Rattle.vd_resolved.specs.Trees.{syntax_of}
use Rattle.vd_resolved.specs.declared.node.Resolved.{Resolved}
use Rattle.vd_name_rows.specs.Designs.{Outcome}
use Rattle.vd_name_rows.specs.Members.{next_number}
use Rattle.vd_name_rows.specs.declared.steps.Ending.{Ending}
use Rattle.vd_name_rows.specs.declared.steps.Ending.TheVariants as ending
use Rattle.vd_naming.specs.Endings.{Ended, declares, finished, closed, literals_numbered, with_literals, form_of_next, type_ends}
use Rattle.vd_naming.specs.Functions.{body_of}
use Rattle.vd_naming.specs.Units.{with_name, unit_of, entering_unit, unit_ends, is_single, package_ends, body_of_package, context_ends}
use Rattle.vd_naming.specs.Instances.{are_settled, copying_at, package_declared, undeclared_package, package_instance_of, package_instance_as, refused_also, function_declared, undeclared_function, function_instance_of, function_instance_as}
use Rattle.vd_naming.specs.Naming.{ended}
use Rattle.vd_forest.specs.Forest.{parts_of}
use Rattle.vd_naming_laws.proofs.Expressions.{if_both}
use Rattle.vd_naming_laws.proofs.Steps.{IsKept, kept, syntax_numbered}

-- the node over what its parts come to
abbrev pub node_of : Ended → Forest Form
node_of x = more x.form x.text x.place (syntax_of x.inner.tree) nothing

abbrev pub EndsKept : Ended → Outcome → Type 0
EndsKept x o = IsKept x.outer (node_of x) o

-- ---- numbers at the parts of a node

with_name_keeps : (k : ℕ) (t : Forest Resolved) → syntax_of (with_name k t) ≡ syntax_of t
with_name_keeps k nothing = refl
with_name_keeps k (more node text place parts next) = refl

literals_keep : (f : Form) (t : ℕ) (tree : Forest Resolved) → syntax_of (literals_numbered f t tree) ≡ syntax_of tree
literals_keep form.EnumerationType t nothing = refl
literals_keep form.EnumerationType t (more node text place parts next) = ap (λ p. more node.form text place p (syntax_of next)) (syntax_numbered (suc t) parts)
literals_keep _ t tree = refl

with_literals_keep : (f : Form) (t : ℕ) (tree : Forest Resolved) → syntax_of (with_literals f t tree) ≡ syntax_of tree
with_literals_keep f t nothing = refl
with_literals_keep f t (more node text place parts next) = ap (more node.form text place (syntax_of parts)) (literals_keep f t next)

over : (x : Ended) (tree : Forest Resolved) → syntax_of tree ≡ syntax_of x.inner.tree → more x.form x.text x.place (syntax_of tree) nothing ≡ node_of x
over x tree e = ap (λ p. more x.form x.text x.place p nothing) e

module _ (x : Ended) where
  plainly : EndsKept x (finished x None None x.inner.tree x.inner.design None)
  plainly = kept refl refl refl refl

  type_kept : EndsKept x (type_ends x)
  type_kept =
      kept (over x (with_literals (form_of_next x.parts) (next_number x.inner.design) x.inner.tree) (with_literals_keep (form_of_next x.parts) (next_number x.inner.design) x.inner.tree))
      refl refl refl

  body_of_kept : (k : Option ℕ) → EndsKept x (body_of k x)
  body_of_kept None = kept refl refl refl refl
  body_of_kept (Some k) = kept refl refl refl refl

  -- ---- units

  unit_kept : EndsKept x (unit_ends x)
  unit_kept =
      let o = finished x None None x.inner.tree x.inner.design None in
      if_both (EndsKept x) _ (record o { at = record o.at { unit = suc o.at.unit } }) o (kept refl refl refl refl) plainly

  package_kept : (whole : Forest Form) → EndsKept x (package_ends whole x)
  package_kept whole =
      kept (over x (with_name (next_number x.inner.design) x.inner.tree) (with_name_keeps (next_number x.inner.design) x.inner.tree)) refl refl refl

  body_of_package_kept : (k : Option ℕ) → EndsKept x (body_of_package k x)
  body_of_package_kept None = plainly
  body_of_package_kept (Some k) = kept (over x (with_name k x.inner.tree) (with_name_keeps k x.inner.tree)) refl refl refl

  context_kept : EndsKept x (context_ends x)
  context_kept =
      if_both (EndsKept x) (is_single (parts_of x.parts)) (declares x x.inner.tree (entering_unit (unit_of class.Context x) (closed x.inside.region x.inner.design)))
      (finished x None None x.inner.tree x.inner.design None) (kept refl refl refl refl) plainly

  -- ---- instances

  refused_kept : (r : Option Refused) (o : Outcome) → EndsKept x o → EndsKept x (refused_also r o)
  refused_kept r o e = kept e.tree_is e.behind.revision e.behind.steps e.behind.rest

  package_of_kept : (n : ℕ) → EndsKept x (package_instance_of n x)
  package_of_kept n =
      if_both (EndsKept x) (are_settled x.inner.design x.inner.at.actuals (declaration_at x.inner.design.scopes n).generics) (package_declared x (copying_at x n))
      (undeclared_package x) (kept refl refl refl refl) (kept refl refl refl refl)

  package_as_kept : (n : Option ℕ) → EndsKept x (package_instance_as n x)
  package_as_kept None = kept refl refl refl refl
  package_as_kept (Some n) = refused_kept _ (package_instance_of n x) (package_of_kept n)

  function_of_kept : (n : ℕ) → EndsKept x (function_instance_of n x)
  function_of_kept n =
      if_both (EndsKept x) (are_settled x.inner.design x.inner.at.actuals (declaration_at x.inner.design.scopes n).generics) (function_declared x (copying_at x n))
      (undeclared_function x) (kept refl refl refl refl) (kept refl refl refl refl)

  function_as_kept : (n : Option ℕ) → EndsKept x (function_instance_as n x)
  function_as_kept None = kept refl refl refl refl
  function_as_kept (Some n) = refused_kept _ (function_instance_of n x) (function_of_kept n)

  -- ---- all

  pub ended_kept : (whole : Forest Form) (e : Ending) → EndsKept x (ended whole e x)
  ended_kept whole ending.Nothing = plainly
  ended_kept whole ending.First = kept refl refl refl refl
  ended_kept whole ending.Typed = kept refl refl refl refl
  ended_kept whole ending.Indicated = kept refl refl refl refl
  ended_kept whole ending.ClauseEnds = kept refl refl refl refl
  ended_kept whole (ending.Objects object names) = kept refl refl refl refl
  ended_kept whole ending.AllPorts = kept refl refl refl refl
  ended_kept whole ending.NewType = type_kept
  ended_kept whole ending.NewSubtype = kept refl refl refl refl
  ended_kept whole ending.NewView = kept refl refl refl refl
  ended_kept whole ending.NewGenericType = kept refl refl refl refl
  ended_kept whole ending.NewGenericFunction = kept refl refl refl refl
  ended_kept whole ending.NewFunction = kept refl refl refl refl
  ended_kept whole ending.BodyEnds = body_of_kept x.inner.at.function
  ended_kept whole ending.NewFunctionInstance = function_as_kept x.inner.at.named
  ended_kept whole ending.UnitEnds = unit_kept
  ended_kept whole ending.NewEntity = kept refl refl refl refl
  ended_kept whole ending.NewArchitecture = kept refl refl refl refl
  ended_kept whole ending.NewPackage = package_kept whole
  ended_kept whole ending.PackageBodyEnds = body_of_package_kept _
  ended_kept whole ending.NewPackageInstance = package_as_kept x.inner.at.named
  ended_kept whole ending.NewContext = context_kept
