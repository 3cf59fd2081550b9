-- A package with generics and an instance of it, a function with generics and an instance of it, and what is written: what of the interface is kept.
use Rattle.std.specs.Prelude.{◌≡◌, ℕ, ◌+◌, Bool, true, false, List, [], ◌∷◌, ◌++◌, map, Option, Some, None, codes, slice_index_or, pos, Ok, Err}
use Rattle.vd_values.specs.declared.scalar.Scalar.{Scalar}
use Rattle.vd_values.specs.declared.scalar.Scalar.TheVariants.{Integer}
use Rattle.vd_composites.specs.Composites.{Value, One}
use Rattle.vd_meaning.specs.Building.{Built, State}
use Rattle.vd_trees.specs.declared.revision.Revision.TheVariants.{V2019}
use Rattle.vd_trees.specs.declared.rows.Row.{Row}
use Rattle.vd_trees.specs.declared.rows.RowKind.TheVariants as kinds
use Rattle.vd_declarations.specs.declared.classes.Class.TheVariants as class
use Rattle.vd_declarations.specs.declared.declarations.Declaration.{Declaration}
use Rattle.vd_forms.specs.declared.form.Form.TheVariants as form
use Rattle.vd_resolved.specs.Trees.{ResolvedTree, side_by_side}
use Rattle.vd_predefined.specs.Given.{given_scopes}
use Rattle.vd_predefined.specs.Entries.{declared}
use Rattle.vd_predefined.specs.declared.numbers.TheConstants.{BIT, INTEGER}
use Rattle.vd_meaning.specs.Tables.{no_declaration}
use Rattle.vd_meaning_facts.specs.Trees.{plain, absent, number}
use Rattle.vd_elaboration_facts.specs.Designs.{Tree, word, declared_word}
use Rattle.vd_elaboration_facts.specs.Hierarchies.{w, common, names, closing, unit}
use Rattle.vd_elaboration_facts.specs.Hierarchies.{design as with_package}
use Rattle.vd_maps.specs.Interfaces.{Type', Constant', Function', UnitInterface, OfPackage, interface_of, keeps_interfaces}
use Rattle.vd_maps.specs.KeptValues.{packages_elaborated}
use Rattle.vd_maps.specs.RowOrders.{heads, rows_stand_for}
use Rattle.vd_maps.specs.Paths.{row}
use Rattle.vd_maps.specs.Views.{indication, packaged}

-- ---- declarations, from number 463 on: the package gp with its generics t and w, and e with idle and busy, c, f; its instance q1 with its own copies; the function fmax and its
-- instance imax

abbrev pub declarations : List Declaration
declarations =
    record (declared class.UninstantiatedPackage (codes "gp") None (466 ∷ 467 ∷ 468 ∷ 469 ∷ 470 ∷ [])) { generics = 464 ∷ 465 ∷ [] }
    ∷ declared class.GenericType (codes "t") None [] ∷ declared class.GenericConstant (codes "w") (Some INTEGER) []
    ∷ declared class.EnumerationType (codes "e") None [] ∷ declared class.EnumerationLiteral (codes "idle") (Some 466) [] ∷ declared class.EnumerationLiteral (codes "busy") (Some 466) []
    ∷ declared class.Constant (codes "c") (Some INTEGER) [] ∷ declared class.Function (codes "f") (Some INTEGER) []
    ∷ record (declared class.PackageInstance (codes "q1") None (474 ∷ 475 ∷ 476 ∷ 477 ∷ 478 ∷ [])) { generics = 472 ∷ 473 ∷ [] }
    ∷ declared (class.Subtype BIT) (codes "t") (Some BIT) [] ∷ declared class.Constant (codes "w") (Some INTEGER) []
    ∷ declared class.EnumerationType (codes "e") None [] ∷ declared class.EnumerationLiteral (codes "idle") (Some 474) [] ∷ declared class.EnumerationLiteral (codes "busy") (Some 474) []
    ∷ declared class.Constant (codes "c") (Some INTEGER) [] ∷ declared class.InstanceFunction (codes "f") (Some INTEGER) []
    ∷ declared class.UninstantiatedFunction (codes "fmax") None [] ∷ declared class.Function (codes "imax") (Some INTEGER) [] ∷ []

abbrev pub all_declarations : List Declaration
all_declarations = map (λ x. x.declaration) (given_scopes V2019).entered ++ declarations

-- the names that declarations have in the output, which are their own here
abbrev pub output_names : ℕ → List ℕ
output_names n = (slice_index_or all_declarations n no_declaration).name

abbrev pub design : List Tree → ResolvedTree
design trees = record { units = side_by_side trees; declarations = all_declarations }

-- ---- pieces

abbrev pub integer : Tree
integer = indication INTEGER (codes "integer")

-- a mark that is written so; which declaration it names is of no matter here
abbrev pub mark : List ℕ → Tree
mark text = plain form.SubtypeIndication (plain form.SelectedName (word text ∷ []) ∷ absent ∷ [])

abbrev pub enumeration : ℕ → Tree
enumeration d = plain form.TypeDeclaration (declared_word d (codes "e") ∷ plain form.EnumerationType (word (codes "idle") ∷ word (codes "busy") ∷ []) ∷ [])

abbrev pub constant : ℕ → List ℕ → Tree
constant d text = plain form.ConstantDeclaration (names d text ∷ integer ∷ number (codes "3") ∷ [])

abbrev pub parameter : List ℕ → List ℕ → Tree
parameter text subtype_text = plain form.ParameterDeclaration (absent ∷ plain form.IdentifierList (word text ∷ []) ∷ absent ∷ mark subtype_text ∷ [])

-- a function with parameters and the mark of its result
abbrev pub function : ℕ → List ℕ → Tree → List Tree → List ℕ → Tree
function d text generics parameters result =
    plain form.FunctionDeclaration (absent ∷ declared_word d text ∷ generics ∷ absent ∷ plain form.ParameterList parameters ∷ plain form.SelectedName (word result ∷ []) ∷ [])

abbrev pub type_generic : List ℕ → Tree
type_generic text = plain form.GenericType (word text ∷ [])

-- ---- package gp is generic (type t; w : integer); type e is (idle, busy); constant c : integer := 3; function f(x : t) return integer; end;
-- package q1 is new work.gp generic map (..); package fs is function fmax generic (type t) (l, r : t) return t; end;
-- package r is function imax is new work.fs.fmax generic map (..); end;

abbrev pub gp : Tree
gp =
    unit (plain form.PackageDeclaration (declared_word 463 (codes "gp")
    ∷ plain form.GenericClause (type_generic (codes "t") ∷ plain form.GenericConstant (absent ∷ names 465 (codes "w") ∷ absent ∷ integer ∷ absent ∷ []) ∷ [])
    ∷ plain form.DeclarativePart (enumeration 466 ∷ constant 469 (codes "c") ∷ function 470 (codes "f") absent (parameter (codes "x") (codes "t") ∷ []) (codes "integer") ∷ []) ∷ closing ∷ []))

abbrev pub q1 : Tree
q1 =
    unit (plain form.PackageInstantiation (declared_word 471 (codes "q1")
    ∷ plain form.SelectedName (word (codes "work") ∷ declared_word 463 (codes "gp") ∷ []) ∷ absent ∷ []))

abbrev pub fs : Tree
fs =
    packaged (codes "fs") (function 479 (codes "fmax") (plain form.GenericClause (type_generic (codes "t") ∷ []))
    (parameter (codes "l") (codes "t") ∷ parameter (codes "r") (codes "t") ∷ []) (codes "t") ∷ [])

abbrev pub r : Tree
r =
    packaged (codes "r") (plain form.FunctionInstantiation (absent ∷ declared_word 480 (codes "imax")
    ∷ plain form.SelectedName (word (codes "work") ∷ word (codes "fs") ∷ declared_word 479 (codes "fmax") ∷ []) ∷ absent ∷ []) ∷ [])

abbrev pub tree19 : ResolvedTree
tree19 = design (gp ∷ q1 ∷ fs ∷ r ∷ [])

-- ---- what is written: package q1 is subtype t_2 is bit; constant w_2 : integer := 3; and the rest with t_2 for t; package fs is end;
-- package r is subtype t_3 is integer; function imax(l : t_3; r : t_3) return t_3; end;

abbrev pub subtype : List ℕ → Tree → Tree
subtype text indicated = plain form.SubtypeDeclaration (word text ∷ indicated ∷ [])

abbrev pub written_q1 : List Tree → Tree
written_q1 functions =
    packaged (codes "q1") (subtype (codes "t_2") (indication BIT (codes "bit")) ∷ constant 0 (codes "w_2") ∷ enumeration 0 ∷ constant 0 (codes "c") ∷ functions)

abbrev pub written_f : List ℕ → Tree
written_f mark_text = function 0 (codes "f") absent (parameter (codes "x") mark_text ∷ []) (codes "integer")

abbrev pub written_r : Tree
written_r =
    packaged (codes "r") (subtype (codes "t_3") integer
    ∷ function 0 (codes "imax") absent (parameter (codes "l") (codes "t_3") ∷ parameter (codes "r") (codes "t_3") ∷ []) (codes "t_3") ∷ [])

abbrev pub written : List Tree → ResolvedTree
written functions = design (written_q1 functions ∷ packaged (codes "fs") [] ∷ written_r ∷ [])

abbrev pub rows : List Row
rows = row kinds.TypeName (codes "q1") (codes "t") (codes "t_2") [] [] ∷ row kinds.TypeName (codes "r") (codes "t") (codes "t_3") [] [] ∷ []

abbrev pub expected : List UnitInterface
expected =
    OfPackage (codes "q1")
    (record { kind = Type'; name = codes "e"; number = Some 474; marks = [] }
    ∷ record { kind = Constant'; name = codes "c"; number = Some 477; marks = codes "integer" ∷ [] }
    ∷ record { kind = Function'; name = codes "f"; number = Some 478; marks = codes "t" ∷ codes "integer" ∷ [] } ∷ [])
    ∷ OfPackage (codes "fs") []
    ∷ OfPackage (codes "r") (record { kind = Function'; name = codes "imax"; number = Some 480; marks = codes "t" ∷ codes "t" ∷ codes "t" ∷ [] } ∷ [])
    ∷ []

-- ---- the constant w of the package p is 3

abbrev pub constant_in : Built State → ℕ → Option (Value Scalar)
constant_in (Ok s) d = Some (s.env.denotes d).value
constant_in (Err f) d = None

pub record Packages : Type 0 where
  pub constant : constant_in (packages_elaborated V2019 (with_package common)) w ≡ Some (One (Integer (pos 3)))
  -- an instance shows what its package declares, under its own numbers; a function with generics isn't shown, its instance is
  pub interface : interface_of tree19 ≡ expected
  pub kept : keeps_interfaces output_names rows tree19 (written (written_f (codes "t_2") ∷ [])) ≡ true
  -- not without the function, with another mark, or without the rows that give the marks
  pub without_function : keeps_interfaces output_names rows tree19 (written []) ≡ false
  pub other_mark : keeps_interfaces output_names rows tree19 (written (written_f (codes "bit") ∷ [])) ≡ false
  pub without_rows : keeps_interfaces output_names [] tree19 (written (written_f (codes "t_2") ∷ [])) ≡ false
  -- the rows are those of the design, in order: each instance has its generic type
  pub order : rows_stand_for (heads tree19) rows ≡ true
  pub other_order : rows_stand_for (heads tree19) (Rattle.std.specs.Prelude.drop 1 rows ++ Rattle.std.specs.Prelude.take 1 rows) ≡ false
