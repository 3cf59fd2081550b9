-- The tree of a design. Written by tools/resolved-trees from examples/worked/delayed_93.vhd, which is of revision 1993:
--
-- library ieee;
-- use ieee.std_logic_1164.all;
-- entity w is
-- end entity w;
-- architecture a of w is
--   signal s : std_ulogic := '0';
--   signal c : boolean := false;
-- begin
--   process is
--   begin
--     s <= '1' after 5 ns;
--     if c then
--       s <= '0' after 2 ns;
--     else
--       null;
--     end if;
--     wait;
--   end process;
-- end architecture a;
use Rattle.std.specs.Prelude.{List, [], ◌∷◌, Some, None, codes}
use Rattle.vd_declarations.specs.declared.classes.Class.TheVariants as class
use Rattle.vd_declarations.specs.declared.declarations.Declaration.{Declaration}
use Rattle.vd_forest.specs.Forest.{Forest}
use Rattle.vd_forms.specs.declared.form.Form.TheVariants as form
use Rattle.vd_resolved.specs.declared.node.Resolved.{Resolved}
use Rattle.vd_predefined.specs.Entries.{declared}
use Rattle.vd_predefined.specs.declared.numbers.TheConstants.{BOOLEAN, INTEGER, TIME, STD_ULOGIC}
use Rattle.vd_meaning_facts.specs.Trees.{node, plain, absent, of, leaf}
use Rattle.vd_trees.specs.declared.revision.Revision.TheVariants.{V1993}
use Rattle.vd_resolved.specs.Trees.{ResolvedTree}
use Rattle.vd_design_facts.specs.Designs.{designed}

abbrev pub declarations : List Declaration
declarations =
    declared (class.LibraryName 2) (codes "ieee") None []
    ∷ declared class.Entity (codes "w") None []
    ∷ declared class.Architecture (codes "a") None []
    ∷ declared class.Signal (codes "s") (Some STD_ULOGIC) []
    ∷ declared class.Signal (codes "c") (Some BOOLEAN) [] ∷ []

abbrev pub entity_w : Forest Resolved
entity_w =
    plain form.DesignUnit
    (plain form.ContextClause
    (plain form.LibraryClause (node form.Identifier (Some 387) None 0 (codes "ieee") [] ∷ [])
    ∷ plain form.UseClause
    (node form.SelectedName (Some 4) None 0 []
    (leaf form.Identifier (codes "ieee") ∷ leaf form.Identifier (codes "std_logic_1164") ∷ plain form.All [] ∷ []) ∷ []) ∷ [])
    ∷ plain form.EntityDeclaration
    (node form.Identifier (Some 388) None 0 (codes "w") [] ∷ absent ∷ absent
    ∷ plain form.Closing (plain form.ClosingWord [] ∷ leaf form.Identifier (codes "w") ∷ []) ∷ []) ∷ [])

abbrev pub architecture_a_of_w : Forest Resolved
architecture_a_of_w =
    plain form.DesignUnit
    (plain form.ContextClause []
    ∷ plain form.ArchitectureBody
    (node form.Identifier (Some 389) None 0 (codes "a") [] ∷ node form.Identifier (Some 388) None 0 (codes "w") []
    ∷ plain form.DeclarativePart
    (plain form.SignalDeclaration
    (plain form.IdentifierList (node form.Identifier (Some 390) None 0 (codes "s") [] ∷ [])
    ∷ plain form.SubtypeIndication (node form.SelectedName (Some STD_ULOGIC) None 0 [] (leaf form.Identifier (codes "std_ulogic") ∷ []) ∷ absent ∷ [])
    ∷ node form.Letter (Some 163) (Some STD_ULOGIC) 2 (codes "0") [] ∷ [])
    ∷ plain form.SignalDeclaration
    (plain form.IdentifierList (node form.Identifier (Some 391) None 0 (codes "c") [] ∷ [])
    ∷ plain form.SubtypeIndication (node form.SelectedName (Some BOOLEAN) None 0 [] (leaf form.Identifier (codes "boolean") ∷ []) ∷ absent ∷ [])
    ∷ of form.Name BOOLEAN (node form.Identifier (Some 6) (Some BOOLEAN) 0 (codes "false") [] ∷ []) ∷ []) ∷ [])
    ∷ plain form.StatementPart
    (plain form.ProcessStatement
    (absent ∷ plain form.Is [] ∷ plain form.DeclarativePart []
    ∷ plain form.Statements
    (plain form.SignalAssignment
    (of form.Name STD_ULOGIC (node form.Identifier (Some 390) (Some STD_ULOGIC) 0 (codes "s") [] ∷ []) ∷ absent
    ∷ plain form.DelayedWaveform
    (node form.Letter (Some 164) (Some STD_ULOGIC) 3 (codes "1") []
    ∷ of form.PhysicalLiteral TIME (node form.Number None (Some INTEGER) 0 (codes "5") [] ∷ node form.Identifier (Some 149) None 0 (codes "ns") [] ∷ []) ∷ []) ∷ [])
    ∷ plain form.IfStatement
    (of form.Name BOOLEAN (node form.Identifier (Some 391) (Some BOOLEAN) 0 (codes "c") [] ∷ [])
    ∷ plain form.Statements
    (plain form.SignalAssignment
    (of form.Name STD_ULOGIC (node form.Identifier (Some 390) (Some STD_ULOGIC) 0 (codes "s") [] ∷ []) ∷ absent
    ∷ plain form.DelayedWaveform
    (node form.Letter (Some 163) (Some STD_ULOGIC) 2 (codes "0") []
    ∷ of form.PhysicalLiteral TIME (node form.Number None (Some INTEGER) 0 (codes "2") [] ∷ node form.Identifier (Some 149) None 0 (codes "ns") [] ∷ []) ∷ []) ∷ []) ∷ [])
    ∷ plain form.ElsifBranches [] ∷ plain form.ElseBranch (plain form.NullStatement [] ∷ []) ∷ absent ∷ [])
    ∷ plain form.WaitStatement (absent ∷ absent ∷ absent ∷ []) ∷ [])
    ∷ absent ∷ []) ∷ [])
    ∷ plain form.Closing (plain form.ClosingWord [] ∷ leaf form.Identifier (codes "a") ∷ []) ∷ []) ∷ [])

abbrev pub design : ResolvedTree
design = designed V1993 (entity_w ∷ architecture_a_of_w ∷ []) declarations
