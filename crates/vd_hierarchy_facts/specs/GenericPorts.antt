-- The tree of a design. Written by tools/resolved-trees from examples/worked/generic_ports.vhd, which is of revision 2019:
--
-- entity e is
--   generic (n : integer := 2; m : integer := n);
--   port (x : in bit_vector(1 to m));
-- end entity;
-- architecture s of e is
-- begin
-- end architecture;
-- entity f is
--   generic (n : integer; m : natural range 0 to n - 1);
--   port (x : in bit_vector(0 to m));
-- end entity;
-- architecture s of f is
-- begin
-- end architecture;
-- entity t is
-- end entity;
-- architecture s of t is
--   signal a : bit_vector(1 to 2) := "10";
-- begin
--   u : entity work.e port map (x => not a);
--   v : entity work.f generic map (n => 8, m => 1) port map (x => not a);
-- end architecture;
use Rattle.std.specs.Prelude.{List, [], ◌∷◌, Some, None, codes}
use Rattle.vd_declarations.specs.declared.classes.Class.TheVariants as class
use Rattle.vd_declarations.specs.declared.declarations.Declaration.{Declaration}
use Rattle.vd_forest.specs.Forest.{Forest}
use Rattle.vd_forms.specs.declared.form.Form.TheVariants as form
use Rattle.vd_resolved.specs.declared.node.Resolved.{Resolved}
use Rattle.vd_predefined.specs.Entries.{declared}
use Rattle.vd_predefined.specs.declared.numbers.TheConstants.{INTEGER, NATURAL, BIT_VECTOR}
use Rattle.vd_meaning_facts.specs.Trees.{node, plain, absent, of, leaf}
use Rattle.vd_trees.specs.declared.revision.Revision.TheVariants.{V2019}
use Rattle.vd_resolved.specs.Trees.{ResolvedTree}
use Rattle.vd_design_facts.specs.Designs.{designed, with_generics}

abbrev pub declarations : List Declaration
declarations =
    with_generics (464 ∷ 465 ∷ []) (declared class.Entity (codes "e") None (466 ∷ []))
    ∷ declared class.GenericConstant (codes "n") (Some INTEGER) []
    ∷ declared class.GenericConstant (codes "m") (Some INTEGER) []
    ∷ declared class.Port (codes "x") (Some BIT_VECTOR) []
    ∷ declared class.Architecture (codes "s") None []
    ∷ with_generics (469 ∷ 470 ∷ []) (declared class.Entity (codes "f") None (471 ∷ []))
    ∷ declared class.GenericConstant (codes "n") (Some INTEGER) []
    ∷ declared class.GenericConstant (codes "m") (Some INTEGER) []
    ∷ declared class.Port (codes "x") (Some BIT_VECTOR) []
    ∷ declared class.Architecture (codes "s") None []
    ∷ declared class.Entity (codes "t") None []
    ∷ declared class.Architecture (codes "s") None []
    ∷ declared class.Signal (codes "a") (Some BIT_VECTOR) []
    ∷ declared class.Label (codes "u") None []
    ∷ declared class.Label (codes "v") None [] ∷ []

abbrev pub entity_e : Forest Resolved
entity_e =
    plain form.DesignUnit
    (plain form.ContextClause []
    ∷ plain form.EntityDeclaration
    (node form.Identifier (Some 463) None 0 (codes "e") []
    ∷ plain form.GenericClause
    (plain form.GenericConstant
    (absent ∷ plain form.IdentifierList (node form.Identifier (Some 464) None 0 (codes "n") [] ∷ []) ∷ absent
    ∷ plain form.SubtypeIndication (node form.SelectedName (Some INTEGER) None 0 [] (leaf form.Identifier (codes "integer") ∷ []) ∷ absent ∷ [])
    ∷ node form.Number None (Some INTEGER) 0 (codes "2") [] ∷ [])
    ∷ plain form.GenericConstant
    (absent ∷ plain form.IdentifierList (node form.Identifier (Some 465) None 0 (codes "m") [] ∷ []) ∷ absent
    ∷ plain form.SubtypeIndication (node form.SelectedName (Some INTEGER) None 0 [] (leaf form.Identifier (codes "integer") ∷ []) ∷ absent ∷ [])
    ∷ of form.Name INTEGER (node form.Identifier (Some 464) (Some INTEGER) 0 (codes "n") [] ∷ []) ∷ []) ∷ [])
    ∷ plain form.PortClause
    (plain form.PortDeclaration
    (absent ∷ plain form.IdentifierList (node form.Identifier (Some 466) None 0 (codes "x") [] ∷ []) ∷ plain form.In []
    ∷ plain form.SubtypeIndication
    (node form.SelectedName (Some BIT_VECTOR) None 0 [] (leaf form.Identifier (codes "bit_vector") ∷ [])
    ∷ plain form.IndexConstraint
    (of form.Ascending INTEGER
    (node form.Number None (Some INTEGER) 0 (codes "1") [] ∷ of form.Name INTEGER (node form.Identifier (Some 465) (Some INTEGER) 0 (codes "m") [] ∷ []) ∷ []) ∷ []) ∷ [])
    ∷ absent ∷ []) ∷ [])
    ∷ plain form.Closing (plain form.ClosingWord [] ∷ absent ∷ []) ∷ []) ∷ [])

abbrev pub architecture_s_of_e : Forest Resolved
architecture_s_of_e =
    plain form.DesignUnit
    (plain form.ContextClause []
    ∷ plain form.ArchitectureBody
    (node form.Identifier (Some 467) None 0 (codes "s") [] ∷ node form.Identifier (Some 463) None 0 (codes "e") [] ∷ plain form.DeclarativePart []
    ∷ plain form.StatementPart [] ∷ plain form.Closing (plain form.ClosingWord [] ∷ absent ∷ []) ∷ []) ∷ [])

abbrev pub entity_f : Forest Resolved
entity_f =
    plain form.DesignUnit
    (plain form.ContextClause []
    ∷ plain form.EntityDeclaration
    (node form.Identifier (Some 468) None 0 (codes "f") []
    ∷ plain form.GenericClause
    (plain form.GenericConstant
    (absent ∷ plain form.IdentifierList (node form.Identifier (Some 469) None 0 (codes "n") [] ∷ []) ∷ absent
    ∷ plain form.SubtypeIndication (node form.SelectedName (Some INTEGER) None 0 [] (leaf form.Identifier (codes "integer") ∷ []) ∷ absent ∷ []) ∷ absent ∷ [])
    ∷ plain form.GenericConstant
    (absent ∷ plain form.IdentifierList (node form.Identifier (Some 470) None 0 (codes "m") [] ∷ []) ∷ absent
    ∷ plain form.SubtypeIndication
    (node form.SelectedName (Some NATURAL) None 0 [] (leaf form.Identifier (codes "natural") ∷ [])
    ∷ plain form.RangeConstraint
    (of form.Ascending INTEGER
    (node form.Number None (Some INTEGER) 0 (codes "0") []
    ∷ node form.Subtract (Some 245) (Some INTEGER) 0 []
    (of form.Name INTEGER (node form.Identifier (Some 469) (Some INTEGER) 0 (codes "n") [] ∷ []) ∷ node form.Number None (Some INTEGER) 0 (codes "1") [] ∷ []) ∷ []) ∷ []) ∷ [])
    ∷ absent ∷ []) ∷ [])
    ∷ plain form.PortClause
    (plain form.PortDeclaration
    (absent ∷ plain form.IdentifierList (node form.Identifier (Some 471) None 0 (codes "x") [] ∷ []) ∷ plain form.In []
    ∷ plain form.SubtypeIndication
    (node form.SelectedName (Some BIT_VECTOR) None 0 [] (leaf form.Identifier (codes "bit_vector") ∷ [])
    ∷ plain form.IndexConstraint
    (of form.Ascending INTEGER
    (node form.Number None (Some INTEGER) 0 (codes "0") [] ∷ of form.Name INTEGER (node form.Identifier (Some 470) (Some INTEGER) 0 (codes "m") [] ∷ []) ∷ []) ∷ []) ∷ [])
    ∷ absent ∷ []) ∷ [])
    ∷ plain form.Closing (plain form.ClosingWord [] ∷ absent ∷ []) ∷ []) ∷ [])

abbrev pub architecture_s_of_f : Forest Resolved
architecture_s_of_f =
    plain form.DesignUnit
    (plain form.ContextClause []
    ∷ plain form.ArchitectureBody
    (node form.Identifier (Some 472) None 0 (codes "s") [] ∷ node form.Identifier (Some 468) None 0 (codes "f") [] ∷ plain form.DeclarativePart []
    ∷ plain form.StatementPart [] ∷ plain form.Closing (plain form.ClosingWord [] ∷ absent ∷ []) ∷ []) ∷ [])

abbrev pub entity_t : Forest Resolved
entity_t =
    plain form.DesignUnit
    (plain form.ContextClause []
    ∷ plain form.EntityDeclaration
    (node form.Identifier (Some 473) None 0 (codes "t") [] ∷ absent ∷ absent ∷ plain form.Closing (plain form.ClosingWord [] ∷ absent ∷ []) ∷ []) ∷ [])

abbrev pub architecture_s_of_t : Forest Resolved
architecture_s_of_t =
    plain form.DesignUnit
    (plain form.ContextClause []
    ∷ plain form.ArchitectureBody
    (node form.Identifier (Some 474) None 0 (codes "s") [] ∷ node form.Identifier (Some 473) None 0 (codes "t") []
    ∷ plain form.DeclarativePart
    (plain form.SignalDeclaration
    (plain form.IdentifierList (node form.Identifier (Some 475) None 0 (codes "a") [] ∷ [])
    ∷ plain form.SubtypeIndication
    (node form.SelectedName (Some BIT_VECTOR) None 0 [] (leaf form.Identifier (codes "bit_vector") ∷ [])
    ∷ plain form.IndexConstraint
    (of form.Ascending INTEGER (node form.Number None (Some INTEGER) 0 (codes "1") [] ∷ node form.Number None (Some INTEGER) 0 (codes "2") [] ∷ []) ∷ []) ∷ [])
    ∷ node form.Quoted None (Some BIT_VECTOR) 0 (codes "10") [] ∷ []) ∷ [])
    ∷ plain form.StatementPart
    (plain form.LabelledConcurrent
    (node form.Identifier (Some 476) None 0 (codes "u") []
    ∷ plain form.EntityInstantiation
    (node form.SelectedName (Some 463) None 0 [] (leaf form.Identifier (codes "work") ∷ leaf form.Identifier (codes "e") ∷ []) ∷ absent ∷ absent
    ∷ plain form.PortMap
    (plain form.Association
    (plain form.AssociationChoices (node form.Name (Some 466) None 0 [] (leaf form.Identifier (codes "x") ∷ []) ∷ [])
    ∷ node form.Not (Some 300) (Some BIT_VECTOR) 0 []
    (of form.Name BIT_VECTOR (node form.Identifier (Some 475) (Some BIT_VECTOR) 0 (codes "a") [] ∷ []) ∷ []) ∷ []) ∷ []) ∷ []) ∷ [])
    ∷ plain form.LabelledConcurrent
    (node form.Identifier (Some 477) None 0 (codes "v") []
    ∷ plain form.EntityInstantiation
    (node form.SelectedName (Some 468) None 0 [] (leaf form.Identifier (codes "work") ∷ leaf form.Identifier (codes "f") ∷ []) ∷ absent
    ∷ plain form.GenericMap
    (plain form.Association
    (plain form.AssociationChoices (node form.Name (Some 469) None 0 [] (leaf form.Identifier (codes "n") ∷ []) ∷ [])
    ∷ node form.Number None (Some INTEGER) 0 (codes "8") [] ∷ [])
    ∷ plain form.Association
    (plain form.AssociationChoices (node form.Name (Some 470) None 0 [] (leaf form.Identifier (codes "m") ∷ []) ∷ [])
    ∷ node form.Number None (Some INTEGER) 0 (codes "1") [] ∷ []) ∷ [])
    ∷ plain form.PortMap
    (plain form.Association
    (plain form.AssociationChoices (node form.Name (Some 471) None 0 [] (leaf form.Identifier (codes "x") ∷ []) ∷ [])
    ∷ node form.Not (Some 300) (Some BIT_VECTOR) 0 []
    (of form.Name BIT_VECTOR (node form.Identifier (Some 475) (Some BIT_VECTOR) 0 (codes "a") [] ∷ []) ∷ []) ∷ []) ∷ []) ∷ []) ∷ []) ∷ [])
    ∷ plain form.Closing (plain form.ClosingWord [] ∷ absent ∷ []) ∷ []) ∷ [])

abbrev pub design : ResolvedTree
design = designed V2019 (entity_e ∷ architecture_s_of_e ∷ entity_f ∷ architecture_s_of_f ∷ entity_t ∷ architecture_s_of_t ∷ []) declarations
