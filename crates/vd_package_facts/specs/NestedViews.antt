-- The tree of a design. Written by tools/resolved-trees from examples/worked/nested_views.vhd, which is of revision 2019:
--
-- library ieee;
-- use ieee.std_logic_1164.all;
-- package pk is
--   type sub_r is record
--     c : std_ulogic;
--   end record;
--   type link_r is record
--     a : std_ulogic;
--     b : std_ulogic;
--     sub : sub_r;
--   end record;
--   view n of sub_r is
--     c : in;
--   end view;
--   view m of link_r is
--     a : in;
--     b : out;
--     sub : view n;
--   end view;
-- end package;
-- library ieee;
-- use ieee.std_logic_1164.all;
-- use work.pk.all;
-- entity ma is
--   port (p : view m of link_r);
-- end entity;
-- architecture r of ma is
-- begin
--   p.b <= p.a and p.sub.c;
-- end architecture;
-- use work.pk.all;
-- entity sl is
--   port (p : view m'converse);
-- end entity;
-- library ieee;
-- use ieee.std_logic_1164.all;
-- architecture r of sl is
-- begin
--   p.a <= '1';
--   p.sub.c <= '1' after 1 ns;
-- end architecture;
-- use work.pk.all;
-- entity t is
-- end entity;
-- architecture r of t is
--   signal s : link_r;
-- begin
--   u : entity work.ma port map (p => s);
--   v : entity work.sl port map (p => s);
-- end architecture;
use Rattle.std.specs.Prelude.{List, [], ◌∷◌, Some, None, codes}
use Rattle.vd_declarations.specs.declared.classes.Class.TheVariants as class
use Rattle.vd_declarations.specs.declared.declarations.Declaration.{Declaration}
use Rattle.vd_forest.specs.Forest.{Forest}
use Rattle.vd_forms.specs.declared.form.Form.TheVariants as form
use Rattle.vd_resolved.specs.declared.node.Resolved.{Resolved}
use Rattle.vd_predefined.specs.Entries.{declared}
use Rattle.vd_predefined.specs.declared.numbers.TheConstants.{BOOLEAN, INTEGER, TIME, STD_ULOGIC}
use Rattle.vd_meaning_facts.specs.Trees.{node, plain, absent, of, leaf}
use Rattle.vd_trees.specs.declared.revision.Revision.TheVariants.{V2019}
use Rattle.vd_resolved.specs.Trees.{ResolvedTree}
use Rattle.vd_design_facts.specs.Designs.{designed}

abbrev pub declarations : List Declaration
declarations =
    declared (class.LibraryName 2) (codes "ieee") None []
    ∷ declared class.Package (codes "pk") None []
    ∷ declared class.RecordType (codes "sub_r") None (466 ∷ [])
    ∷ declared class.RecordElement (codes "c") (Some STD_ULOGIC) []
    ∷ declared class.Parameter (codes "l") (Some 465) []
    ∷ declared class.Parameter (codes "r") (Some 465) []
    ∷ declared class.Parameter (codes "l") (Some INTEGER) []
    ∷ declared class.Parameter (codes "r") (Some INTEGER) []
    ∷ declared class.PredefinedOperator (codes "\"=\"") (Some BOOLEAN) (467 ∷ 468 ∷ [])
    ∷ declared class.PredefinedOperator (codes "\"/=\"") (Some BOOLEAN) (467 ∷ 468 ∷ [])
    ∷ declared class.RecordType (codes "link_r") None (474 ∷ 475 ∷ 476 ∷ [])
    ∷ declared class.RecordElement (codes "a") (Some STD_ULOGIC) []
    ∷ declared class.RecordElement (codes "b") (Some STD_ULOGIC) []
    ∷ declared class.RecordElement (codes "sub") (Some 465) []
    ∷ declared class.Parameter (codes "l") (Some 473) []
    ∷ declared class.Parameter (codes "r") (Some 473) []
    ∷ declared class.Parameter (codes "l") (Some INTEGER) []
    ∷ declared class.Parameter (codes "r") (Some INTEGER) []
    ∷ declared class.PredefinedOperator (codes "\"=\"") (Some BOOLEAN) (477 ∷ 478 ∷ [])
    ∷ declared class.PredefinedOperator (codes "\"/=\"") (Some BOOLEAN) (477 ∷ 478 ∷ [])
    ∷ declared class.View (codes "n") None []
    ∷ declared class.View (codes "m") None []
    ∷ declared (class.LibraryName 2) (codes "ieee") None []
    ∷ declared class.Entity (codes "ma") None (487 ∷ [])
    ∷ declared class.Port (codes "p") (Some 473) []
    ∷ declared class.Architecture (codes "r") None []
    ∷ declared class.Entity (codes "sl") None (490 ∷ [])
    ∷ declared class.Port (codes "p") (Some 473) []
    ∷ declared (class.LibraryName 2) (codes "ieee") None []
    ∷ declared class.Architecture (codes "r") None []
    ∷ declared class.Entity (codes "t") None []
    ∷ declared class.Architecture (codes "r") None []
    ∷ declared class.Signal (codes "s") (Some 473) []
    ∷ declared class.Label (codes "u") None []
    ∷ declared class.Label (codes "v") None [] ∷ []

abbrev pub package_pk : Forest Resolved
package_pk =
    plain form.DesignUnit
    (plain form.ContextClause
    (plain form.LibraryClause (node form.Identifier (Some 463) None 0 (codes "ieee") [] ∷ [])
    ∷ plain form.UseClause
    (node form.SelectedName (Some 4) None 0 []
    (leaf form.Identifier (codes "ieee") ∷ leaf form.Identifier (codes "std_logic_1164") ∷ plain form.All [] ∷ []) ∷ []) ∷ [])
    ∷ plain form.PackageDeclaration
    (node form.Identifier (Some 464) None 0 (codes "pk") [] ∷ absent
    ∷ plain form.DeclarativePart
    (node form.TypeDeclaration (Some 465) None 0 []
    (node form.Identifier (Some 465) None 0 (codes "sub_r") []
    ∷ plain form.RecordType
    (plain form.RecordElements
    (plain form.RecordElement
    (plain form.IdentifierList (node form.Identifier (Some 466) None 0 (codes "c") [] ∷ [])
    ∷ plain form.SubtypeIndication (node form.SelectedName (Some STD_ULOGIC) None 0 [] (leaf form.Identifier (codes "std_ulogic") ∷ []) ∷ absent ∷ []) ∷ []) ∷ [])
    ∷ absent ∷ []) ∷ [])
    ∷ node form.TypeDeclaration (Some 473) None 0 []
    (node form.Identifier (Some 473) None 0 (codes "link_r") []
    ∷ plain form.RecordType
    (plain form.RecordElements
    (plain form.RecordElement
    (plain form.IdentifierList (node form.Identifier (Some 474) None 0 (codes "a") [] ∷ [])
    ∷ plain form.SubtypeIndication (node form.SelectedName (Some STD_ULOGIC) None 0 [] (leaf form.Identifier (codes "std_ulogic") ∷ []) ∷ absent ∷ []) ∷ [])
    ∷ plain form.RecordElement
    (plain form.IdentifierList (node form.Identifier (Some 475) None 0 (codes "b") [] ∷ [])
    ∷ plain form.SubtypeIndication (node form.SelectedName (Some STD_ULOGIC) None 0 [] (leaf form.Identifier (codes "std_ulogic") ∷ []) ∷ absent ∷ []) ∷ [])
    ∷ plain form.RecordElement
    (plain form.IdentifierList (node form.Identifier (Some 476) None 0 (codes "sub") [] ∷ [])
    ∷ plain form.SubtypeIndication (node form.SelectedName (Some 465) None 0 [] (leaf form.Identifier (codes "sub_r") ∷ []) ∷ absent ∷ []) ∷ []) ∷ [])
    ∷ absent ∷ []) ∷ [])
    ∷ node form.ViewDeclaration (Some 483) None 0 []
    (node form.Identifier (Some 483) None 0 (codes "n") [] ∷ node form.SelectedName (Some 465) None 0 [] (leaf form.Identifier (codes "sub_r") ∷ [])
    ∷ plain form.ViewElements
    (plain form.ViewElement (plain form.IdentifierList (node form.Identifier (Some 466) None 0 (codes "c") [] ∷ []) ∷ plain form.In [] ∷ []) ∷ [])
    ∷ absent ∷ [])
    ∷ node form.ViewDeclaration (Some 484) None 0 []
    (node form.Identifier (Some 484) None 0 (codes "m") [] ∷ node form.SelectedName (Some 473) None 0 [] (leaf form.Identifier (codes "link_r") ∷ [])
    ∷ plain form.ViewElements
    (plain form.ViewElement (plain form.IdentifierList (node form.Identifier (Some 474) None 0 (codes "a") [] ∷ []) ∷ plain form.In [] ∷ [])
    ∷ plain form.ViewElement (plain form.IdentifierList (node form.Identifier (Some 475) None 0 (codes "b") [] ∷ []) ∷ plain form.Out [] ∷ [])
    ∷ plain form.ViewElement
    (plain form.IdentifierList (node form.Identifier (Some 476) None 0 (codes "sub") [] ∷ [])
    ∷ plain form.ViewMode (node form.SelectedName (Some 483) None 0 [] (leaf form.Identifier (codes "n") ∷ []) ∷ absent ∷ []) ∷ []) ∷ [])
    ∷ absent ∷ []) ∷ [])
    ∷ plain form.Closing (plain form.ClosingWord [] ∷ absent ∷ []) ∷ []) ∷ [])

abbrev pub entity_ma : Forest Resolved
entity_ma =
    plain form.DesignUnit
    (plain form.ContextClause
    (plain form.LibraryClause (node form.Identifier (Some 485) None 0 (codes "ieee") [] ∷ [])
    ∷ plain form.UseClause
    (node form.SelectedName (Some 4) None 0 []
    (leaf form.Identifier (codes "ieee") ∷ leaf form.Identifier (codes "std_logic_1164") ∷ plain form.All [] ∷ []) ∷ [])
    ∷ plain form.UseClause
    (node form.SelectedName (Some 464) None 0 [] (leaf form.Identifier (codes "work") ∷ leaf form.Identifier (codes "pk") ∷ plain form.All [] ∷ []) ∷ []) ∷ [])
    ∷ plain form.EntityDeclaration
    (node form.Identifier (Some 486) None 0 (codes "ma") [] ∷ absent
    ∷ plain form.PortClause
    (plain form.ViewPort
    (absent ∷ plain form.IdentifierList (node form.Identifier (Some 487) None 0 (codes "p") [] ∷ [])
    ∷ node form.SelectedName (Some 484) None 0 [] (leaf form.Identifier (codes "m") ∷ []) ∷ absent
    ∷ plain form.SubtypeIndication (node form.SelectedName (Some 473) None 0 [] (leaf form.Identifier (codes "link_r") ∷ []) ∷ absent ∷ []) ∷ []) ∷ [])
    ∷ plain form.Closing (plain form.ClosingWord [] ∷ absent ∷ []) ∷ []) ∷ [])

abbrev pub architecture_r_of_ma : Forest Resolved
architecture_r_of_ma =
    plain form.DesignUnit
    (plain form.ContextClause []
    ∷ plain form.ArchitectureBody
    (node form.Identifier (Some 488) None 0 (codes "r") [] ∷ node form.Identifier (Some 486) None 0 (codes "ma") [] ∷ plain form.DeclarativePart []
    ∷ plain form.StatementPart
    (plain form.ConcurrentAssignment
    (of form.Name STD_ULOGIC
    (node form.Identifier (Some 487) (Some 473) 0 (codes "p") []
    ∷ node form.Selection (Some 475) (Some STD_ULOGIC) 1 [] (leaf form.Identifier (codes "b") ∷ []) ∷ [])
    ∷ absent
    ∷ node form.And (Some 408) (Some STD_ULOGIC) 0 []
    (of form.Name STD_ULOGIC
    (node form.Identifier (Some 487) (Some 473) 0 (codes "p") []
    ∷ node form.Selection (Some 474) (Some STD_ULOGIC) 0 [] (leaf form.Identifier (codes "a") ∷ []) ∷ [])
    ∷ of form.Name STD_ULOGIC
    (node form.Identifier (Some 487) (Some 473) 0 (codes "p") []
    ∷ node form.Selection (Some 476) (Some 465) 2 [] (leaf form.Identifier (codes "sub") ∷ [])
    ∷ node form.Selection (Some 466) (Some STD_ULOGIC) 0 [] (leaf form.Identifier (codes "c") ∷ []) ∷ []) ∷ []) ∷ []) ∷ [])
    ∷ plain form.Closing (plain form.ClosingWord [] ∷ absent ∷ []) ∷ []) ∷ [])

abbrev pub entity_sl : Forest Resolved
entity_sl =
    plain form.DesignUnit
    (plain form.ContextClause
    (plain form.UseClause
    (node form.SelectedName (Some 464) None 0 [] (leaf form.Identifier (codes "work") ∷ leaf form.Identifier (codes "pk") ∷ plain form.All [] ∷ []) ∷ []) ∷ [])
    ∷ plain form.EntityDeclaration
    (node form.Identifier (Some 489) None 0 (codes "sl") [] ∷ absent
    ∷ plain form.PortClause
    (plain form.ViewPort
    (absent ∷ plain form.IdentifierList (node form.Identifier (Some 490) None 0 (codes "p") [] ∷ [])
    ∷ node form.SelectedName (Some 484) None 0 [] (leaf form.Identifier (codes "m") ∷ []) ∷ leaf form.Identifier (codes "converse") ∷ absent ∷ []) ∷ [])
    ∷ plain form.Closing (plain form.ClosingWord [] ∷ absent ∷ []) ∷ []) ∷ [])

abbrev pub architecture_r_of_sl : Forest Resolved
architecture_r_of_sl =
    plain form.DesignUnit
    (plain form.ContextClause
    (plain form.LibraryClause (node form.Identifier (Some 491) None 0 (codes "ieee") [] ∷ [])
    ∷ plain form.UseClause
    (node form.SelectedName (Some 4) None 0 []
    (leaf form.Identifier (codes "ieee") ∷ leaf form.Identifier (codes "std_logic_1164") ∷ plain form.All [] ∷ []) ∷ []) ∷ [])
    ∷ plain form.ArchitectureBody
    (node form.Identifier (Some 492) None 0 (codes "r") [] ∷ node form.Identifier (Some 489) None 0 (codes "sl") [] ∷ plain form.DeclarativePart []
    ∷ plain form.StatementPart
    (plain form.ConcurrentAssignment
    (of form.Name STD_ULOGIC
    (node form.Identifier (Some 490) (Some 473) 0 (codes "p") []
    ∷ node form.Selection (Some 474) (Some STD_ULOGIC) 0 [] (leaf form.Identifier (codes "a") ∷ []) ∷ [])
    ∷ absent ∷ node form.Letter (Some 164) (Some STD_ULOGIC) 3 (codes "1") [] ∷ [])
    ∷ plain form.ConcurrentAssignment
    (of form.Name STD_ULOGIC
    (node form.Identifier (Some 490) (Some 473) 0 (codes "p") []
    ∷ node form.Selection (Some 476) (Some 465) 2 [] (leaf form.Identifier (codes "sub") ∷ [])
    ∷ node form.Selection (Some 466) (Some STD_ULOGIC) 0 [] (leaf form.Identifier (codes "c") ∷ []) ∷ [])
    ∷ absent
    ∷ plain form.DelayedWaveform
    (node form.Letter (Some 164) (Some STD_ULOGIC) 3 (codes "1") []
    ∷ of form.PhysicalLiteral TIME (node form.Number None (Some INTEGER) 0 (codes "1") [] ∷ node form.Identifier (Some 149) None 0 (codes "ns") [] ∷ []) ∷ []) ∷ []) ∷ [])
    ∷ plain form.Closing (plain form.ClosingWord [] ∷ absent ∷ []) ∷ []) ∷ [])

abbrev pub entity_t : Forest Resolved
entity_t =
    plain form.DesignUnit
    (plain form.ContextClause
    (plain form.UseClause
    (node form.SelectedName (Some 464) None 0 [] (leaf form.Identifier (codes "work") ∷ leaf form.Identifier (codes "pk") ∷ plain form.All [] ∷ []) ∷ []) ∷ [])
    ∷ plain form.EntityDeclaration
    (node form.Identifier (Some 493) None 0 (codes "t") [] ∷ absent ∷ absent ∷ plain form.Closing (plain form.ClosingWord [] ∷ absent ∷ []) ∷ []) ∷ [])

abbrev pub architecture_r_of_t : Forest Resolved
architecture_r_of_t =
    plain form.DesignUnit
    (plain form.ContextClause []
    ∷ plain form.ArchitectureBody
    (node form.Identifier (Some 494) None 0 (codes "r") [] ∷ node form.Identifier (Some 493) None 0 (codes "t") []
    ∷ plain form.DeclarativePart
    (plain form.SignalDeclaration
    (plain form.IdentifierList (node form.Identifier (Some 495) None 0 (codes "s") [] ∷ [])
    ∷ plain form.SubtypeIndication (node form.SelectedName (Some 473) None 0 [] (leaf form.Identifier (codes "link_r") ∷ []) ∷ absent ∷ []) ∷ absent ∷ []) ∷ [])
    ∷ plain form.StatementPart
    (plain form.LabelledConcurrent
    (node form.Identifier (Some 496) None 0 (codes "u") []
    ∷ plain form.EntityInstantiation
    (node form.SelectedName (Some 486) None 0 [] (leaf form.Identifier (codes "work") ∷ leaf form.Identifier (codes "ma") ∷ []) ∷ absent ∷ absent
    ∷ plain form.PortMap
    (plain form.Association
    (plain form.AssociationChoices (node form.Name (Some 487) None 0 [] (leaf form.Identifier (codes "p") ∷ []) ∷ [])
    ∷ of form.Name 473 (node form.Identifier (Some 495) (Some 473) 0 (codes "s") [] ∷ []) ∷ []) ∷ []) ∷ []) ∷ [])
    ∷ plain form.LabelledConcurrent
    (node form.Identifier (Some 497) None 0 (codes "v") []
    ∷ plain form.EntityInstantiation
    (node form.SelectedName (Some 489) None 0 [] (leaf form.Identifier (codes "work") ∷ leaf form.Identifier (codes "sl") ∷ []) ∷ absent ∷ absent
    ∷ plain form.PortMap
    (plain form.Association
    (plain form.AssociationChoices (node form.Name (Some 490) None 0 [] (leaf form.Identifier (codes "p") ∷ []) ∷ [])
    ∷ of form.Name 473 (node form.Identifier (Some 495) (Some 473) 0 (codes "s") [] ∷ []) ∷ []) ∷ []) ∷ []) ∷ []) ∷ [])
    ∷ plain form.Closing (plain form.ClosingWord [] ∷ absent ∷ []) ∷ []) ∷ [])

abbrev pub design : ResolvedTree
design =
    designed V2019 (package_pk ∷ entity_ma ∷ architecture_r_of_ma ∷ entity_sl ∷ architecture_r_of_sl ∷ entity_t ∷ architecture_r_of_t ∷ []) declarations
