-- The tree of a design. Written by tools/resolved-trees from examples/worked/pulses.vhd, which is of revision 2019:
--
-- entity d is
-- end entity;
-- architecture a of d is
--   signal s : bit;
--   signal q : bit;
--   signal r : bit;
-- begin
--   process
--   begin
--     s <= '1' after 3 ns;
--     wait for 1 ns;
--     s <= '0' after 1 ns;
--     wait for 4 ns;
--     s <= transport '1' after 2 ns;
--     s <= transport '0' after 3 ns;
--     wait;
--   end process;
--   q <= s after 2 ns;
--   r <= transport s after 2 ns;
-- end architecture;
use Rattle.std.specs.Prelude.{List, [], ◌∷◌, Some, None, codes}
use Rattle.vd_declarations.specs.declared.classes.Class.TheVariants as class
use Rattle.vd_declarations.specs.declared.declarations.Declaration.{Declaration}
use Rattle.vd_forest.specs.Forest.{Forest}
use Rattle.vd_forms.specs.declared.form.Form.TheVariants as form
use Rattle.vd_resolved.specs.declared.node.Resolved.{Resolved}
use Rattle.vd_predefined.specs.Entries.{declared}
use Rattle.vd_predefined.specs.declared.numbers.TheConstants.{BIT, INTEGER, TIME}
use Rattle.vd_meaning_facts.specs.Trees.{node, plain, absent, of, leaf}
use Rattle.vd_trees.specs.declared.revision.Revision.TheVariants.{V2019}
use Rattle.vd_resolved.specs.Trees.{ResolvedTree}
use Rattle.vd_design_facts.specs.Designs.{designed}

abbrev pub declarations : List Declaration
declarations =
    declared class.Entity (codes "d") None []
    ∷ declared class.Architecture (codes "a") None []
    ∷ declared class.Signal (codes "s") (Some BIT) []
    ∷ declared class.Signal (codes "q") (Some BIT) []
    ∷ declared class.Signal (codes "r") (Some BIT) [] ∷ []

abbrev pub entity_d : Forest Resolved
entity_d =
    plain form.DesignUnit
    (plain form.ContextClause []
    ∷ plain form.EntityDeclaration
    (node form.Identifier (Some 463) None 0 (codes "d") [] ∷ absent ∷ absent ∷ plain form.Closing (plain form.ClosingWord [] ∷ absent ∷ []) ∷ []) ∷ [])

abbrev pub architecture_a_of_d : Forest Resolved
architecture_a_of_d =
    plain form.DesignUnit
    (plain form.ContextClause []
    ∷ plain form.ArchitectureBody
    (node form.Identifier (Some 464) None 0 (codes "a") [] ∷ node form.Identifier (Some 463) None 0 (codes "d") []
    ∷ plain form.DeclarativePart
    (plain form.SignalDeclaration
    (plain form.IdentifierList (node form.Identifier (Some 465) None 0 (codes "s") [] ∷ [])
    ∷ plain form.SubtypeIndication (node form.SelectedName (Some BIT) None 0 [] (leaf form.Identifier (codes "bit") ∷ []) ∷ absent ∷ []) ∷ absent ∷ [])
    ∷ plain form.SignalDeclaration
    (plain form.IdentifierList (node form.Identifier (Some 466) None 0 (codes "q") [] ∷ [])
    ∷ plain form.SubtypeIndication (node form.SelectedName (Some BIT) None 0 [] (leaf form.Identifier (codes "bit") ∷ []) ∷ absent ∷ []) ∷ absent ∷ [])
    ∷ plain form.SignalDeclaration
    (plain form.IdentifierList (node form.Identifier (Some 467) None 0 (codes "r") [] ∷ [])
    ∷ plain form.SubtypeIndication (node form.SelectedName (Some BIT) None 0 [] (leaf form.Identifier (codes "bit") ∷ []) ∷ absent ∷ []) ∷ absent ∷ []) ∷ [])
    ∷ plain form.StatementPart
    (plain form.ProcessStatement
    (absent ∷ absent ∷ plain form.DeclarativePart []
    ∷ plain form.Statements
    (plain form.SignalAssignment
    (of form.Name BIT (node form.Identifier (Some 465) (Some BIT) 0 (codes "s") [] ∷ []) ∷ absent
    ∷ plain form.DelayedWaveform
    (node form.Letter (Some 10) (Some BIT) 1 (codes "1") []
    ∷ of form.PhysicalLiteral TIME (node form.Number None (Some INTEGER) 0 (codes "3") [] ∷ node form.Identifier (Some 149) None 0 (codes "ns") [] ∷ []) ∷ []) ∷ [])
    ∷ plain form.WaitStatement
    (absent ∷ absent
    ∷ of form.PhysicalLiteral TIME (node form.Number None (Some INTEGER) 0 (codes "1") [] ∷ node form.Identifier (Some 149) None 0 (codes "ns") [] ∷ []) ∷ [])
    ∷ plain form.SignalAssignment
    (of form.Name BIT (node form.Identifier (Some 465) (Some BIT) 0 (codes "s") [] ∷ []) ∷ absent
    ∷ plain form.DelayedWaveform
    (node form.Letter (Some 9) (Some BIT) 0 (codes "0") []
    ∷ of form.PhysicalLiteral TIME (node form.Number None (Some INTEGER) 0 (codes "1") [] ∷ node form.Identifier (Some 149) None 0 (codes "ns") [] ∷ []) ∷ []) ∷ [])
    ∷ plain form.WaitStatement
    (absent ∷ absent
    ∷ of form.PhysicalLiteral TIME (node form.Number None (Some INTEGER) 0 (codes "4") [] ∷ node form.Identifier (Some 149) None 0 (codes "ns") [] ∷ []) ∷ [])
    ∷ plain form.SignalAssignment
    (of form.Name BIT (node form.Identifier (Some 465) (Some BIT) 0 (codes "s") [] ∷ []) ∷ plain form.Transport []
    ∷ plain form.DelayedWaveform
    (node form.Letter (Some 10) (Some BIT) 1 (codes "1") []
    ∷ of form.PhysicalLiteral TIME (node form.Number None (Some INTEGER) 0 (codes "2") [] ∷ node form.Identifier (Some 149) None 0 (codes "ns") [] ∷ []) ∷ []) ∷ [])
    ∷ plain form.SignalAssignment
    (of form.Name BIT (node form.Identifier (Some 465) (Some BIT) 0 (codes "s") [] ∷ []) ∷ plain form.Transport []
    ∷ plain form.DelayedWaveform
    (node form.Letter (Some 9) (Some BIT) 0 (codes "0") []
    ∷ of form.PhysicalLiteral TIME (node form.Number None (Some INTEGER) 0 (codes "3") [] ∷ node form.Identifier (Some 149) None 0 (codes "ns") [] ∷ []) ∷ []) ∷ [])
    ∷ plain form.WaitStatement (absent ∷ absent ∷ absent ∷ []) ∷ [])
    ∷ absent ∷ [])
    ∷ plain form.ConcurrentAssignment
    (of form.Name BIT (node form.Identifier (Some 466) (Some BIT) 0 (codes "q") [] ∷ []) ∷ absent
    ∷ plain form.DelayedWaveform
    (of form.Name BIT (node form.Identifier (Some 465) (Some BIT) 0 (codes "s") [] ∷ [])
    ∷ of form.PhysicalLiteral TIME (node form.Number None (Some INTEGER) 0 (codes "2") [] ∷ node form.Identifier (Some 149) None 0 (codes "ns") [] ∷ []) ∷ []) ∷ [])
    ∷ plain form.ConcurrentAssignment
    (of form.Name BIT (node form.Identifier (Some 467) (Some BIT) 0 (codes "r") [] ∷ []) ∷ plain form.Transport []
    ∷ plain form.DelayedWaveform
    (of form.Name BIT (node form.Identifier (Some 465) (Some BIT) 0 (codes "s") [] ∷ [])
    ∷ of form.PhysicalLiteral TIME (node form.Number None (Some INTEGER) 0 (codes "2") [] ∷ node form.Identifier (Some 149) None 0 (codes "ns") [] ∷ []) ∷ []) ∷ []) ∷ [])
    ∷ plain form.Closing (plain form.ClosingWord [] ∷ absent ∷ []) ∷ []) ∷ [])

abbrev pub design : ResolvedTree
design = designed V2019 (entity_d ∷ architecture_a_of_d ∷ []) declarations
