-- What declarations declare for the text behind them, as it is known before elaboration: objects, types, functions, and what instances of packages and
-- functions have where generics stand for their actuals. (IEEE 1076, declarations; generic map aspects; subprogram and package instantiation declarations.)
use Rattle.std.specs.Prelude.{Bool, List, None, Option, Some, [], false, if◌then◌else◌, true, ℕ, ◌++◌, ◌∷◌}
use Rattle.vd_composites.specs.Composites.{Value}
use Rattle.vd_meaning.specs.Instances.{known_early}
use Rattle.vd_environments.specs.Environments.{Argument, Denotation, Env, Function, GenericActual, Indicated, Static, never, nothing_denoted, with_entry, with_subtype}
use Rattle.vd_environments.specs.Got.{Got, senseless}
use Rattle.vd_forest.specs.Forest.{Forest, more, nothing, skipped}
use Rattle.vd_forms.specs.declared.form.Form.{Form}
use Rattle.vd_meaning.specs.Facets.{MapElement, Meaning}
use Rattle.vd_meaning.specs.Generics.{taken}
use Rattle.vd_meaning.specs.Kinds.{kind}
use Rattle.vd_meaning.specs.Meanings.{actuals_between, made}
use Rattle.vd_meaning.specs.Names.{calls_known, number_or}
use Rattle.vd_meaning.specs.Operators.{function_of}
use Rattle.vd_meaning.specs.Tables.{copies_in, followed, is_predefined, pairs}
use Rattle.vd_resolved.specs.declared.node.Resolved.{Resolved}
use Rattle.vd_value_rules.specs.Designs.{Design}
use Rattle.vd_value_rules.specs.Knowledge.{Known, TwoIndicated, at_mark, constant_of, constants_of, denoted, early_value, indicated, indicated_twice, known_in, later_objects, meaning_at, parts_at, signals_known, type_defined, view_port_indicated}
use Rattle.vd_values.specs.declared.scalar.Scalar.{Scalar}
use Rattle.vd_forms.specs.declared.form.Form.TheVariants as form

-- ---- functions: the subtype of the result, and how static calls of it are

abbrev pub function_denoted : Indicated → Function → Static → Denotation
function_denoted i f known = record nothing_denoted { subtype = i.subtype; make = i.make; function = f; known = known }

-- What a function that is written gives isn't known when the text is analysed.
abbrev pub result_known : ℕ → Option ℕ → Known → Known
result_known n mark k =
    denoted n (function_denoted (at_mark mark k.env) (λ _. senseless) (known_in k.env)) (function_denoted (at_mark mark k.choosing) (λ _. senseless) never) k

-- the subtype of the result of a function or an operator
abbrev pub result_in : Design → ℕ → Env → Indicated
result_in d n e = if is_predefined d.table n then at_mark (d.table.declared n).mark e else at_mark (Some n) e

-- ---- generics that stand for their actuals

-- an actual in both environments, and what the instance declares for the generic
pub record TwoActuals : Type 0 where
  pub own : GenericActual
  pub choosing : GenericActual
  pub copy : ℕ

abbrev pub two_actuals : List GenericActual → List GenericActual → List ℕ → List TwoActuals
two_actuals (x ∷ xs) (y ∷ ys) (c ∷ cs) = record { own = x; choosing = y; copy = c } ∷ two_actuals xs ys cs
two_actuals _ _ _ = []

abbrev pub actuals_known : Design → (generic instance : ℕ) → List MapElement → Known → List TwoActuals
actuals_known d generic instance xs k =
    two_actuals (actuals_between d.table generic instance xs k.env) (actuals_between d.table generic instance xs k.choosing) (d.table.declared instance).generics

abbrev pub from_actual : Option Argument → Static → Meaning → Indicated → Env → Got (Value Scalar)
from_actual (Some a) known default i e = early_value known a i
from_actual None known default i e = early_value (default.known e) (λ s. default.value s e) i

abbrev pub static_of_actual : Option Argument → Static → Meaning → Env → Static
static_of_actual (Some a) known default e = known
static_of_actual None known default e = default.known e

abbrev pub constant_stands : Meaning → TwoIndicated → ℕ → TwoActuals → Known → Known
constant_stands default i n a k =
    constant_of n i (static_of_actual a.own.value a.own.known default k.env) (from_actual a.own.value a.own.known default i.own k.env) k

-- constants that are declared together, and what is left of the actuals
pub record KnownAndLeft : Type 0 where
  pub known : Known
  pub left : List TwoActuals

abbrev pub constants_stand : Meaning → TwoIndicated → List ℕ → List TwoActuals → Known → KnownAndLeft
constants_stand default i (n ∷ ns) (a ∷ as') k = constants_stand default i ns as' (constant_stands default i n a k)
constants_stand default i _ as' k = record { known = k; left = as' }

abbrev pub type_stands : ℕ → TwoActuals → Known → Known
type_stands n a k =
    record k {
      env = with_subtype n a.own.indicated.subtype a.own.indicated.make k.env;
      choosing = with_subtype n a.choosing.indicated.subtype a.choosing.indicated.make k.choosing;
    }

-- a function is what its actual is where the generics in front of it stand for theirs
abbrev pub function_stands : Design → ℕ → TwoActuals → Known → Known
function_stands d n a k =
    let actual = followed d.table a.copy in
    denoted n (function_denoted (result_in d actual k.env) (function_of d.table actual k.env) (calls_known d.table actual k.env))
    (function_denoted (result_in d actual k.choosing) (function_of d.table actual k.choosing) never) k

abbrev pub next_stands : (ℕ → TwoActuals → Known → Known) → ℕ → List TwoActuals → Known → KnownAndLeft
next_stands f n [] k = record { known = k; left = [] }
next_stands f n (a ∷ as') k = record { known = f n a k; left = as' }

abbrev pub generic_stands : Form → Design → Resolved → Forest Resolved → List TwoActuals → Known → KnownAndLeft
generic_stands form.GenericConstant d n parts as' k =
    constants_stand (meaning_at d 4 parts) (indicated_twice d k (parts_at 3 parts)) (meaning_at d 1 parts).numbers as' k
generic_stands form.GenericType d n parts as' k = next_stands type_stands (number_or (made n (meaning_at d 0 parts))) as' k
generic_stands _ d n parts as' k = next_stands (function_stands d) (number_or (made n (meaning_at d 1 parts))) as' k

-- one after the other, so that a later one sees the earlier ones
abbrev pub generics_stand : Design → Forest Resolved → List TwoActuals → Known → Known
generics_stand d nothing as' k = k
generics_stand d (more n text place parts next) as' k =
    let s = generic_stands n.form d n parts as' k in generics_stand d next s.left s.known

-- ---- what an instance declares stands for what it is with these generics

abbrev pub taken_known : List (ℕ × ℕ) → Known → Known → Known
taken_known copies from k = record k { env = taken copies from.env k.env; choosing = taken copies from.choosing k.choosing }

-- the parameters of functions too, by their places
abbrev pub with_parameters : Design → List (ℕ × ℕ) → List (ℕ × ℕ)
with_parameters d [] = []
with_parameters d (c ∷ cs) = c ∷ (pairs (d.table.declared c.0).parameters (d.table.declared c.1).parameters ++ with_parameters d cs)

-- ---- declarations

pub data Declaring : Type 0 where
  Nothing : Declaring
  InOrder : Declaring
  APackage : Declaring
  AType : Declaring
  ASubtype : Declaring
  Constants : Declaring
  Variables : Declaring
  SomeSignals : Declaring
  SomePorts : Declaring
  ViewPorts : Declaring
  GenericConstants : Declaring
  SomeParameters : Declaring
  AFunction : Declaring
  AGenericFunction : Declaring
  FunctionInstance : Declaring
  PackageInstance : Declaring

abbrev pub declaring : Form → Declaring
declaring form.DesignUnit = InOrder
declaring form.ReferringUnit = InOrder
declaring form.EntityDeclaration = InOrder
declaring form.GenericClause = InOrder
declaring form.PortClause = InOrder
declaring form.ParameterList = InOrder
declaring form.DeclarativePart = InOrder
declaring form.PackageDeclaration = APackage
declaring form.TypeDeclaration = AType
declaring form.SubtypeDeclaration = ASubtype
declaring form.ConstantDeclaration = Constants
declaring form.VariableDeclaration = Variables
declaring form.SignalDeclaration = SomeSignals
declaring form.PortDeclaration = SomePorts
declaring form.ViewPort = ViewPorts
declaring form.GenericConstant = GenericConstants
declaring form.ParameterDeclaration = SomeParameters
declaring form.FunctionDeclaration = AFunction
declaring form.FunctionBody = AFunction
declaring form.GenericFunction = AGenericFunction
declaring form.FunctionInstantiation = FunctionInstance
declaring form.PackageInstantiation = PackageInstance
declaring _ = Nothing

abbrev pub type_known : ℕ → Indicated → Indicated → Known → Known
type_known n own choosing k =
    record k { env = with_subtype n own.subtype own.make k.env; choosing = with_subtype n choosing.subtype choosing.make k.choosing }

abbrev pub constants_known : Design → Forest Resolved → Known → Known
constants_known d parts k =
    let i = indicated_twice d k (parts_at 1 parts) in
    let m = meaning_at d 2 parts in
    constants_of (meaning_at d 0 parts).numbers i (m.known k.env) (early_value (m.known k.env) (λ s. m.value s k.env) i.own) k

-- the text of a package or function, where it is asked for
abbrev pub with_package : Bool → ℕ → Forest Resolved → Known → Known
with_package b n parts k = if b then record k { packages = with_entry n parts k.packages } else k

abbrev pub with_text : ℕ → Forest Resolved → Known → Known
with_text n parts k = record k { functions = with_entry n parts k.functions }

-- A function: its generics and parameters, its result, and its text.
abbrev pub function_known : Design → Resolved → Forest Resolved → Known → Known
function_known d n parts inner =
    let f = number_or (made n (meaning_at d 1 parts)) in with_text f parts (result_known f (meaning_at d 5 parts).declaration inner)

-- parameters, one after the other
abbrev pub parameters_known : Design → Forest Resolved → Known → Known
parameters_known d nothing k = k
parameters_known d (more n text place parts next) k =
    parameters_known d next (later_objects (meaning_at d 1 parts).numbers (indicated_twice d k (parts_at 3 parts)) never k)

abbrev pub instance_result : Design → ℕ → Option ℕ → Known → Known → Known
instance_result d instance mark from k =
    denoted instance (function_denoted (at_mark mark from.env) (λ _. senseless) (known_in k.env))
    (function_denoted (at_mark mark from.choosing) (λ _. senseless) never) k

abbrev pub instance_of_function : Design → (function instance : ℕ) → List MapElement → Known → Known
instance_of_function d function instance xs k =
    let text = k.functions function in
    let from = parameters_known d (parts_at 4 text) (generics_stand d (parts_at 2 text) (actuals_known d function instance xs k) k) in
    taken_known (pairs (d.table.declared function).parameters (d.table.declared instance).parameters) from
    (instance_result d instance (meaning_at d 5 text).declaration from k)

-- What a node declares for what stands behind it, where its parts declare `inner`.
abbrev pub declared_by : Declaring → Design → Resolved → Forest Resolved → Known → Known → Known
declared_by Nothing d n parts inner k = k
declared_by InOrder d n parts inner k = inner
declared_by APackage d n parts inner k = with_package (meaning_at d 1 parts).is_present (number_or (made n (meaning_at d 0 parts))) parts inner
declared_by AType d n parts inner k =
    type_known (number_or (made n (meaning_at d 0 parts))) (type_defined d false k (skipped 1 parts)) (type_defined d true k (skipped 1 parts)) k
declared_by ASubtype d n parts inner k =
    type_known (number_or (made n (meaning_at d 0 parts))) (indicated d false k (parts_at 1 parts)) (indicated d true k (parts_at 1 parts)) k
declared_by Constants d n parts inner k = constants_known d parts k
declared_by Variables d n parts inner k = later_objects (meaning_at d 0 parts).numbers (indicated_twice d k (parts_at 1 parts)) never k
declared_by SomeSignals d n parts inner k = signals_known (meaning_at d 0 parts).numbers (indicated_twice d k (parts_at 1 parts)) k
declared_by SomePorts d n parts inner k = signals_known (meaning_at d 1 parts).numbers (indicated_twice d k (parts_at 3 parts)) k
declared_by ViewPorts d n parts inner k = signals_known (meaning_at d 1 parts).numbers (view_port_indicated d k parts) k
declared_by GenericConstants d n parts inner k =
    later_objects (meaning_at d 1 parts).numbers (indicated_twice d k (parts_at 3 parts)) known_early k
declared_by SomeParameters d n parts inner k =
    later_objects (meaning_at d 1 parts).numbers (indicated_twice d k (parts_at 3 parts)) never k
declared_by AFunction d n parts inner k = function_known d n parts inner
declared_by AGenericFunction d n parts inner k =
    result_known (number_or (made n (meaning_at d 1 parts))) (meaning_at d 3 parts).declaration (parameters_known d (parts_at 2 parts) k)
declared_by FunctionInstance d n parts inner k =
    instance_of_function d (number_or (meaning_at d 2 parts).declaration) (number_or (made n (meaning_at d 1 parts))) (meaning_at d 3 parts).elements k
declared_by PackageInstance d n parts inner k = k

-- declarations, one after the other
abbrev pub declared : Design → Forest Resolved → Known → Known
declared d nothing k = k
declared d (more n text place parts next) k = declared d next (declared_by (declaring n.form) d n parts (declared d parts k) k)

-- ---- design units, of which instances of packages have what the package declares where its generics stand for the actuals

abbrev pub instance_of_package : Design → Resolved → Forest Resolved → Known → Known
instance_of_package d n parts k =
    let original = number_or (meaning_at d 1 parts).declaration in
    let instance = number_or (made n (meaning_at d 0 parts)) in
    let text = k.packages original in
    let inside = generics_stand d (parts_at 1 text) (actuals_known d original instance (meaning_at d 2 parts).elements k) k in
    taken_known (with_parameters d (copies_in d.table original instance)) (declared d (parts_at 2 text) inside) k

abbrev pub unit_declared_by : Declaring → Design → Resolved → Forest Resolved → Known → Known → Known
unit_declared_by PackageInstance d n parts inner k = instance_of_package d n parts k
unit_declared_by kind d n parts inner k = declared_by kind d n parts inner k

abbrev pub units_declared : Design → Forest Resolved → Known → Known
units_declared d nothing k = k
units_declared d (more n text place parts next) k =
    units_declared d next (unit_declared_by (declaring n.form) d n parts (units_declared d parts k) k)
