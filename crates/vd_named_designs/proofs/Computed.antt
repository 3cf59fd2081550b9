-- The facts, computed.
use Rattle.std.proofs.Common.{refl}
use Rattle.std.specs.Char.{encode_utf8}
use Rattle.std.specs.Fmt.{digits}
use Rattle.std.specs.Prelude.{◌≡◌, [], ◌∷◌, codes, Some, None}
use Rattle.std.specs.Str.{is_utf8, chars}
use Rattle.vd_trees.specs.declared.revision.Revision.TheVariants.{V2019}
use Rattle.vd_predefined.specs.declared.numbers.TheConstants.{BOOLEAN, INTEGER}
use Rattle.vd_predefined.specs.Table.{standard_types, standard_operators, logic_types, logic_operators}
use Rattle.vd_regions.specs.InOrder.{visible_in, selected_in_order}
use Rattle.vd_design_facts.specs.Designs.{traced}
use Rattle.vd_package_facts.specs.Instances as resolved_instances
use Rattle.vd_package_facts.specs.FunctionInstances as resolved_function_instances
use Rattle.vd_package_facts.specs.NestedViews as resolved_nested_views
use Rattle.vd_package_facts.specs.Links as resolved_links
use Rattle.vd_named_designs.specs.Instances as instances
use Rattle.vd_named_designs.specs.FunctionInstances as function_instances
use Rattle.vd_named_designs.specs.NestedViews as nested_views
use Rattle.vd_named_designs.specs.Links as links
use Rattle.vd_named_designs.specs.PackageInstance as package_instance
use Rattle.vd_named_designs.specs.Trees.{declared_by, names_in, marks_in}
use Rattle.vd_named_designs.specs.Facts.{trace_of, SameTraces, weight, Weights, InstanceDeclares}

same_instances : trace_of instances.units (codes "g") 100 ≡ traced V2019 resolved_instances.design (codes "g") 100
unfolding standard_types standard_operators logic_types logic_operators visible_in selected_in_order is_utf8 chars encode_utf8 digits
same_instances = refl

same_function_instances : trace_of function_instances.units (codes "f") 100 ≡ traced V2019 resolved_function_instances.design (codes "f") 100
unfolding standard_types standard_operators logic_types logic_operators visible_in selected_in_order is_utf8 chars encode_utf8 digits
same_function_instances = refl

same_nested_views : trace_of nested_views.units (codes "t") 100 ≡ traced V2019 resolved_nested_views.design (codes "t") 100
unfolding standard_types standard_operators logic_types logic_operators visible_in selected_in_order is_utf8 chars encode_utf8 digits
same_nested_views = refl

same_links : trace_of links.units (codes "bulk_top") 5 ≡ traced V2019 resolved_links.design (codes "bulk_top") 5
unfolding standard_types standard_operators logic_types logic_operators visible_in selected_in_order is_utf8 chars encode_utf8 digits
same_links = refl

pub traces : SameTraces
traces = record { instances = same_instances; function_instances = same_function_instances; nested_views = same_nested_views; links = same_links }

instances_weigh : weight instances.units ≡ 206
unfolding standard_types standard_operators logic_types logic_operators visible_in selected_in_order is_utf8 chars encode_utf8 digits
instances_weigh = refl

function_instances_weigh : weight function_instances.units ≡ 118
unfolding standard_types standard_operators logic_types logic_operators visible_in selected_in_order is_utf8 chars encode_utf8 digits
function_instances_weigh = refl

nested_views_weigh : weight nested_views.units ≡ 190
unfolding standard_types standard_operators logic_types logic_operators visible_in selected_in_order is_utf8 chars encode_utf8 digits
nested_views_weigh = refl

links_weigh : weight links.units ≡ 173
unfolding standard_types standard_operators logic_types logic_operators visible_in selected_in_order is_utf8 chars encode_utf8 digits
links_weigh = refl

pub weights : Weights
weights = record { instances = instances_weigh; function_instances = function_instances_weigh; nested_views = nested_views_weigh; links = links_weigh }

declared_names : names_in (declared_by package_instance.units (codes "q"))
    ≡ codes "t" ∷ codes "c" ∷ codes "f" ∷ codes "r" ∷ codes "\"=\"" ∷ codes "\"/=\"" ∷ codes "d" ∷ codes "g" ∷ []
unfolding standard_types standard_operators logic_types logic_operators visible_in selected_in_order is_utf8 chars encode_utf8
declared_names = refl

declared_types : marks_in (declared_by package_instance.units (codes "q"))
    ≡ Some INTEGER ∷ Some INTEGER ∷ Some INTEGER ∷ None ∷ Some BOOLEAN ∷ Some BOOLEAN ∷ Some INTEGER ∷ Some INTEGER ∷ []
unfolding standard_types standard_operators logic_types logic_operators visible_in selected_in_order is_utf8 chars encode_utf8
declared_types = refl

pub instance_declares : InstanceDeclares
instance_declares = record { names = declared_names; types = declared_types }
