-- Designs with packages, instances and views: from the syntax tree alone, whose names are found by the definitions, a design shows what it shows from the tree that a
-- script resolved; what a design weighs; and what an instance of a package declares. The texts stand in front of their trees.
use Rattle.std.specs.Prelude.{◌≡◌, ℕ, List, [], ◌∷◌, Some, None, codes}
use Rattle.vd_forest.specs.Forest.{Forest}
use Rattle.vd_forms.specs.declared.form.Form.{Form}
use Rattle.vd_predefined.specs.declared.numbers.TheConstants.{BOOLEAN, INTEGER}
use Rattle.vd_trees.specs.declared.revision.Revision.TheVariants.{V2019}
use Rattle.vd_naming.specs.Naming.{names_of}
use Rattle.vd_naming.specs.Settled.{resolved_tree}
use Rattle.vd_weighing.specs.Weights.{weight_of}
use Rattle.vd_design_facts.specs.Designs.{traced}
use Rattle.vd_package_facts.specs.Instances as resolved_instances
use Rattle.vd_package_facts.specs.FunctionInstances as resolved_function_instances
use Rattle.vd_package_facts.specs.NestedViews as resolved_nested_views
use Rattle.vd_package_facts.specs.Links as resolved_links
use Rattle.vd_named_designs.specs.Instances as instances
use Rattle.vd_named_designs.specs.FunctionInstances as function_instances
use Rattle.vd_named_designs.specs.NestedViews as nested_views
use Rattle.vd_named_designs.specs.Links as links
use Rattle.vd_named_designs.specs.PackageInstance as package_instance
use Rattle.vd_named_designs.specs.Trees.{declared_by, names_in, marks_in}

-- the text of the trace of an entity, after at most so many cycles
abbrev pub trace_of : Forest Form → List ℕ → ℕ → List ℕ
trace_of units entity cycles = traced V2019 (resolved_tree (names_of V2019 units)) entity cycles

pub record SameTraces : Type 0 where
  -- two instances of a package
  pub instances : trace_of instances.units (codes "g") 100 ≡ traced V2019 resolved_instances.design (codes "g") 100
  -- and of a function
  pub function_instances : trace_of function_instances.units (codes "f") 100 ≡ traced V2019 resolved_function_instances.design (codes "f") 100
  -- a view of an element that has a view
  pub nested_views : trace_of nested_views.units (codes "t") 100 ≡ traced V2019 resolved_nested_views.design (codes "t") 100
  -- an instance with two ports of one view, and a matching case
  pub links : trace_of links.units (codes "bulk_top") 5 ≡ traced V2019 resolved_links.design (codes "bulk_top") 5

-- how much a design weighs
abbrev pub weight : Forest Form → ℕ
weight units = let tree = resolved_tree (names_of V2019 units) in weight_of tree.declarations tree.units

-- Counted by a script from the texts, by the names of packages, functions and views. Each is heavier than it has nodes by the instances of its package or function, or by the elements of its views.
pub record Weights : Type 0 where
  pub instances : weight instances.units ≡ 206
  pub function_instances : weight function_instances.units ≡ 118
  pub nested_views : weight nested_views.units ≡ 190
  pub links : weight links.units ≡ 173

pub record InstanceDeclares : Type 0 where
  -- in order: its generics, and what the package declares besides, but for the operators of the generic type
  pub names : names_in (declared_by package_instance.units (codes "q"))
      ≡ codes "t" ∷ codes "c" ∷ codes "f" ∷ codes "r" ∷ codes "\"=\"" ∷ codes "\"/=\"" ∷ codes "d" ∷ codes "g" ∷ []
  -- with the type of the actual
  pub types : marks_in (declared_by package_instance.units (codes "q"))
      ≡ Some INTEGER ∷ Some INTEGER ∷ Some INTEGER ∷ None ∷ Some BOOLEAN ∷ Some BOOLEAN ∷ Some INTEGER ∷ Some INTEGER ∷ []
