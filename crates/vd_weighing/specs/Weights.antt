-- The weight of a design: how many nodes it has once its instances, views and generates are written out. (This project's own.)
-- A node counts 1 unless it is a leaf or a list. A package or function with generics, its body included, counts nothing where it stands, and each instance of it
-- counts besides what that declaration and body weigh. A port with a view, and an association of one, count as often as the view has elements with a mode. Each alternative of a
-- generate counts besides the conditions, or the selector and choices, of the alternatives in front of it.
use Rattle.std.specs.Prelude.{ℕ, ◌+◌, ◌*◌, ◌==◌, Bool, true, false, List, [], ◌∷◌, ◌++◌, Option, Some, None, if◌then◌else◌, slice_index_or}
use Rattle.std.specs.Option.{option_or}
use Rattle.std.specs.List.{list_any}
use Rattle.vd_declarations.specs.declared.declarations.Declaration.{Declaration}
use Rattle.vd_forest.specs.Forest.{Forest, nothing, more, parts_of, next_of, skipped, tree_count}
use Rattle.vd_forms.specs.declared.form.Form.{Form}
use Rattle.vd_forms.specs.declared.form.Form.TheVariants as form
use Rattle.vd_forms.specs.Forms.{is_weighed, same_form}
use Rattle.vd_regions.specs.Scopes.{no_declaration}
use Rattle.vd_resolved.specs.declared.node.Resolved.{Resolved}

-- ---- what is known in front of a place: what each package and function with generics weighs, and how many elements with a mode each view has, and the view of
-- each port; and the instances of packages so far, whose bodies may stand anywhere

pub record Known : Type 0 where
  pub generics : List (ℕ × ℕ)
  pub views : List (ℕ × ℕ)
  -- the packages of the instances so far, whose bodies may stand anywhere
  pub instances : List (Option ℕ)

abbrev pub nothing_known : Known
nothing_known = record { generics = []; views = []; instances = [] }

-- what weighs something, and what is known behind it
pub record Weighed : Type 0 where
  pub weight : ℕ
  pub known : Known

abbrev pub weighs : ℕ → Known → Weighed
weighs n k = record { weight = n; known = k }

-- one after the other
abbrev pub and_then : Weighed → (Known → Weighed) → Weighed
and_then w next = let v = next w.known in record { weight = w.weight + v.weight; known = v.known }

-- ---- tables

-- all that stands there for a number
abbrev pub sum_for : ℕ → List (ℕ × ℕ) → ℕ
sum_for k [] = 0
sum_for k (x ∷ xs) = if x.0 == k then x.1 + sum_for k xs else sum_for k xs

abbrev pub has_entry : ℕ → List (ℕ × ℕ) → Bool
has_entry k xs = list_any (λ x. x.0 == k) xs

-- 1 where there is no view of this number
abbrev pub times_for : ℕ → List (ℕ × ℕ) → ℕ
times_for k [] = 1
times_for k (x ∷ xs) = if x.0 == k then x.1 else times_for k xs

abbrev pub sum_at : Option ℕ → List (ℕ × ℕ) → ℕ
sum_at None xs = 0
sum_at (Some k) xs = sum_for k xs

abbrev pub times_at : Option ℕ → List (ℕ × ℕ) → ℕ
times_at None xs = 1
times_at (Some k) xs = times_for k xs

abbrev pub with_generic : Option ℕ → ℕ → Known → Known
with_generic None n k = k
with_generic (Some d) n k = record k { generics = (d, n) ∷ k.generics }

abbrev pub with_view : Option ℕ → ℕ → Known → Known
with_view None n k = k
with_view (Some d) n k = record k { views = (d, n) ∷ k.views }

-- the same number for each of several
abbrev pub for_each : List ℕ → ℕ → List (ℕ × ℕ)
for_each [] n = []
for_each (d ∷ ds) n = (d, n) ∷ for_each ds n

-- ---- what trees say

abbrev pub declared_at : Forest Resolved → Option ℕ
declared_at nothing = None
declared_at (more node text place parts next) = node.declaration

abbrev pub form_is : Form → Forest Resolved → Bool
form_is f nothing = false
form_is f (more node text place parts next) = same_form f node.form

abbrev pub number_first : Option ℕ → List ℕ → List ℕ
number_first None ds = ds
number_first (Some d) ds = d ∷ ds

-- the numbers of trees side by side
abbrev pub numbers_of : Forest Resolved → List ℕ
numbers_of nothing = []
numbers_of (more node text place parts next) = number_first node.declaration (numbers_of next)

abbrev pub part : ℕ → Forest Resolved → Forest Resolved
part n parts = skipped n parts

-- what a node declares: at itself, or at the name that it has
abbrev pub declares : Resolved → Forest Resolved → Option ℕ
declares node name = option_or node.declaration (declared_at name)

-- ---- nodes

abbrev pub own_weight : Form → ℕ
own_weight f = if is_weighed f then 1 else 0

-- of an expression
abbrev pub nodes : Forest Resolved → ℕ
nodes nothing = 0
nodes (more node text place parts next) = own_weight node.form + nodes parts + nodes next

-- of the first tree alone
abbrev pub nodes_of_first : Forest Resolved → ℕ
nodes_of_first nothing = 0
nodes_of_first (more node text place parts next) = own_weight node.form + nodes parts

-- ---- packages and functions with generics, and their instances

-- a declaration or body with a generic clause
abbrev pub has_generics : Form → Forest Resolved → Bool
has_generics form.PackageDeclaration parts = form_is form.GenericClause (part 1 parts)
has_generics form.FunctionDeclaration parts = form_is form.GenericClause (part 2 parts)
has_generics form.FunctionBody parts = form_is form.GenericClause (part 2 parts)
has_generics _ parts = false

-- where the name of what is declared stands
abbrev pub name_in : Form → Forest Resolved → Forest Resolved
name_in form.FunctionDeclaration parts = part 1 parts
name_in form.FunctionBody parts = part 1 parts
name_in form.FunctionInstantiation parts = part 1 parts
name_in _ parts = parts

abbrev pub aside : Option ℕ → Weighed → Weighed
aside d w = weighs 0 (with_generic d w.weight w.known)

-- the body of a package that has generics
abbrev pub has_entry_at : Option ℕ → List (ℕ × ℕ) → Bool
has_entry_at None xs = false
has_entry_at (Some k) xs = has_entry k xs

abbrev pub package_body : Option ℕ → Known → Weighed → Weighed
package_body d before w = if has_entry_at d before.generics then aside d w else w

-- What an instance of a package declares weighs what it weighs in the package: its functions with generics, and its views.
abbrev pub entries_again : (old new : ℕ) → List (ℕ × ℕ) → List (ℕ × ℕ)
entries_again old new [] = []
entries_again old new (x ∷ xs) = if x.0 == old then (new, x.1) ∷ entries_again old new xs else entries_again old new xs

abbrev pub all_again : (olds news : List ℕ) → List (ℕ × ℕ) → List (ℕ × ℕ)
all_again (old ∷ olds) (new ∷ news) xs = entries_again old new xs ++ all_again olds news xs
all_again _ _ xs = []

module _ (ds : List Declaration) where
  abbrev pub declaration_at : ℕ → Declaration
  declaration_at k = slice_index_or ds k no_declaration

  abbrev pub declared_by : Option ℕ → List ℕ
  declared_by None = []
  declared_by (Some k) = (declaration_at k).parameters

  abbrev pub with_copies : (generic instance : Option ℕ) → Known → Known
  with_copies generic instance k =
      record k {
        generics = all_again (declared_by generic) (declared_by instance) k.generics ++ k.generics;
        views = all_again (declared_by generic) (declared_by instance) k.views ++ k.views;
      }

  abbrev pub package_instance : (generic instance : Option ℕ) → Weighed → Weighed
  package_instance generic instance w =
      weighs w.weight (with_copies generic instance (record w.known { instances = generic ∷ w.known.instances }))

  abbrev pub function_instance : Option ℕ → Weighed → Weighed
  function_instance generic w = weighs (w.weight + sum_at generic w.known.generics) w.known

  -- ---- views

  -- elements of one mode, or elements of a nested view
  abbrev pub mode_count : Forest Resolved → Known → ℕ
  mode_count nothing k = 0
  mode_count (more node text place parts next) k = if same_form node.form form.ViewMode then times_at (declared_at parts) k.views else 1

  abbrev pub element_count : Forest Resolved → Known → ℕ
  element_count nothing k = 0
  element_count (more node text place parts next) k =
      tree_count (parts_of parts) * mode_count (next_of parts) k + element_count next k

  abbrev pub view : Option ℕ → Forest Resolved → Weighed → Weighed
  view d elements w = weighs w.weight (with_view d (element_count elements w.known) w.known)

  -- a port counts as often as its view has elements, and is known for its associations
  abbrev pub view_port : Option ℕ → Forest Resolved → Weighed → Weighed
  view_port d names w =
      weighs (w.weight * times_at d w.known.views)
      (record w.known { views = for_each (numbers_of (parts_of names)) (times_at d w.known.views) ++ w.known.views })

  -- ---- associations of ports

  -- the port that an association names
  abbrev pub formal_named : Forest Resolved → Option ℕ
  formal_named choices = declared_at (parts_of choices)

  abbrev pub formal_of : Form → Forest Resolved → Option ℕ → Option ℕ
  formal_of form.Association parts placed = formal_named parts
  formal_of _ parts placed = placed

  abbrev pub next_port : List ℕ → Option ℕ
  next_port [] = None
  next_port (p ∷ ps) = Some p

  abbrev pub later_ports : List ℕ → List ℕ
  later_ports [] = []
  later_ports (p ∷ ps) = ps

  abbrev pub elements : List ℕ → Known → Forest Resolved → ℕ
  elements ports k nothing = 0
  elements ports k (more node text place parts next) =
      (own_weight node.form + nodes parts) * times_at (formal_of node.form parts (next_port ports)) k.views + elements (later_ports ports) k next

  abbrev pub port_map : Option ℕ → Known → Forest Resolved → ℕ
  port_map entity k nothing = 0
  port_map entity k (more node text place parts next) = own_weight node.form + elements (declared_by entity) k parts

  abbrev pub entity_instance : Forest Resolved → Known → Weighed
  entity_instance parts k =
      weighs (own_weight form.EntityInstantiation + nodes_of_first parts + nodes_of_first (part 1 parts) + nodes_of_first (part 2 parts)
      + port_map (declared_at parts) k (part 3 parts)) k

  -- ---- alternatives of generates: what stands in front of each counts once more

  abbrev pub conditions : Forest Resolved → List ℕ
  conditions nothing = []
  conditions (more node text place parts next) = nodes_of_first parts ∷ conditions next

  -- the conditions in front of each further condition, and in front of `else`
  abbrev pub in_front_of_branches : ℕ → List ℕ → Bool → ℕ
  in_front_of_branches before [] has_else = if has_else then before else 0
  in_front_of_branches before (w ∷ ws) has_else = before + in_front_of_branches (before + w) ws has_else

  abbrev pub if_generate : Forest Resolved → ℕ
  if_generate parts =
      in_front_of_branches (nodes_of_first parts) (conditions (parts_of (part 2 parts))) (form_is form.GenerateBody (part 3 parts))

  -- the selector and the choices in front of each alternative
  abbrev pub in_front_of_choices : (selector before : ℕ) → Forest Resolved → ℕ
  in_front_of_choices selector before nothing = 0
  in_front_of_choices selector before (more node text place parts next) =
      before + in_front_of_choices selector (before + selector + nodes_of_first parts) next

  abbrev pub case_generate : Forest Resolved → ℕ
  case_generate parts = in_front_of_choices (nodes_of_first parts) 0 (parts_of (part 1 parts))

  -- ---- the weight of a tree, given that of its node and parts

  abbrev pub more_by : ℕ → Weighed → Weighed
  more_by n w = record w { weight = w.weight + n }

  abbrev pub by_form : Form → Resolved → Forest Resolved → Known → Weighed → Weighed
  by_form form.PackageBody node parts k w = package_body (declares node parts) k w
  by_form form.PackageInstantiation node parts k w = package_instance (declared_at (part 1 parts)) (declares node parts) w
  by_form form.FunctionInstantiation node parts k w = function_instance (declared_at (part 2 parts)) w
  by_form form.ViewDeclaration node parts k w = view (declares node parts) (parts_of (part 2 parts)) w
  by_form form.ViewPort node parts k w = view_port (declared_at (part 2 parts)) (part 1 parts) w
  by_form form.EntityInstantiation node parts k w = entity_instance parts k
  by_form form.IfGenerate node parts k w = more_by (if_generate parts) w
  by_form form.CaseGenerate node parts k w = more_by (case_generate parts) w
  by_form _ node parts k w = w

  abbrev pub by_generics : Bool → Resolved → Forest Resolved → Known → Weighed → Weighed
  by_generics true node parts k w = aside (declares node (name_in node.form parts)) w
  by_generics false node parts k w = by_form node.form node parts k w

  abbrev pub weighed_node : Resolved → Forest Resolved → (Known → Weighed) → Known → Weighed
  weighed_node node parts inner k = by_generics (has_generics node.form parts) node parts k (more_by (own_weight node.form) (inner k))

  abbrev pub weighed : Forest Resolved → Known → Weighed
  weighed nothing k = weighs 0 k
  weighed (more node text place parts next) k = and_then (weighed_node node parts (weighed parts) k) (weighed next)

  -- with what the packages of all instances weigh, wherever their bodies stand
  abbrev pub sums_at : List (Option ℕ) → List (ℕ × ℕ) → ℕ
  sums_at [] xs = 0
  sums_at (d ∷ ds) xs = sum_at d xs + sums_at ds xs

  abbrev pub whole_weight : Weighed → ℕ
  whole_weight w = w.weight + sums_at w.known.instances w.known.generics

  abbrev pub weight_of : Forest Resolved → ℕ
  weight_of units = whole_weight (weighed units nothing_known)
