-- A design with instances, an expression as an actual, and a generate; and its trace.
use Rattle.std.specs.Prelude.{◌≡◌, ℕ, ◌++◌, List, [], ◌∷◌, Some, None, codes}
use Rattle.vd_trees.specs.declared.revision.Revision.TheVariants.{V2019}
use Rattle.vd_declarations.specs.declared.classes.Class.TheVariants as class
use Rattle.vd_declarations.specs.declared.declarations.Declaration.{Declaration}
use Rattle.vd_forest.specs.Forest.{Forest}
use Rattle.vd_forms.specs.declared.form.Form.{Form}
use Rattle.vd_forms.specs.declared.form.Form.TheVariants as form
use Rattle.vd_resolved.specs.declared.node.Resolved.{Resolved}
use Rattle.vd_resolved.specs.Trees.{ResolvedTree, side_by_side}
use Rattle.vd_predefined.specs.declared.numbers.TheConstants.{BIT, INTEGER}
use Rattle.vd_meaning.specs.Elaborations.{Elaboration, Elaborates, Fails, NoTop, elaboration, design_trace_text}
use Rattle.vd_meaning_facts.specs.Trees.{own, object, node, plain, absent, leaf, operator, letter, number, name, upto, all_declarations}

-- ---- declarations: the ports a and y of inner, x and z of top, the signals m and t, the parameter i

abbrev pub a : ℕ
a = own 0

abbrev pub y : ℕ
y = own 1

abbrev pub x : ℕ
x = own 2

abbrev pub z : ℕ
z = own 3

abbrev pub m : ℕ
m = own 4

abbrev pub t : ℕ
t = own 5

abbrev pub i : ℕ
i = own 6

abbrev pub declarations : List Declaration
declarations =
    object class.Port BIT ∷ object class.Port BIT ∷ object class.Port BIT ∷ object class.Port BIT ∷ object class.Signal BIT ∷ object class.Signal BIT
    ∷ object class.GenerateParameter INTEGER ∷ []

abbrev pub Tree : Type 0
Tree = Forest Resolved

-- an identifier, with the declaration that it makes or names
abbrev pub word : List ℕ → Tree
word text = leaf form.Identifier text

abbrev pub declared_word : ℕ → List ℕ → Tree
declared_word d text = node form.Identifier (Some d) None 0 text []

abbrev pub bit_mark : Tree
bit_mark = plain form.SubtypeIndication (node form.SelectedName (Some BIT) None 0 [] (node form.Identifier (Some BIT) None 0 (codes "bit") [] ∷ []) ∷ absent ∷ [])

abbrev pub port : ℕ → List ℕ → Form → Tree
port d text mode = plain form.PortDeclaration (absent ∷ plain form.IdentifierList (declared_word d text ∷ []) ∷ plain mode [] ∷ bit_mark ∷ absent ∷ [])

abbrev pub entity : List ℕ → List Tree → Tree
entity text ports =
    plain form.DesignUnit (plain form.ContextClause [] ∷ plain form.EntityDeclaration (word text ∷ absent ∷ plain form.PortClause ports ∷ plain form.Closing (absent ∷ absent ∷ []) ∷ []) ∷ [])

abbrev pub architecture : List ℕ → List ℕ → List Tree → List Tree → Tree
architecture text of_entity declaring statements =
    plain form.DesignUnit (plain form.ContextClause []
    ∷ plain form.ArchitectureBody (word text ∷ word of_entity ∷ plain form.DeclarativePart declaring ∷ plain form.StatementPart statements ∷ plain form.Closing (absent ∷ absent ∷ []) ∷ []) ∷ [])

abbrev pub not_of : Tree → Tree
not_of e = operator form.Not (codes "not") (BIT ∷ []) BIT (e ∷ [])

abbrev pub assign : ℕ → Tree → Tree
assign target value = plain form.ConcurrentAssignment (name target BIT ∷ absent ∷ value ∷ [])

-- formal => actual
abbrev pub tied : ℕ → Tree → Tree
tied formal actual =
    plain form.Association (plain form.AssociationChoices (node form.Name (Some formal) None 0 [] (word [] ∷ []) ∷ []) ∷ actual ∷ [])

abbrev pub instance : List ℕ → List Tree → Tree
instance label ports =
    plain form.LabelledConcurrent (word label
    ∷ plain form.EntityInstantiation (plain form.SelectedName (word (codes "work") ∷ word (codes "inner") ∷ []) ∷ absent ∷ absent ∷ plain form.PortMap ports ∷ []) ∷ [])

abbrev pub signal : ℕ → List ℕ → Tree → Tree
signal d text initial = plain form.SignalDeclaration (plain form.IdentifierList (declared_word d text ∷ []) ∷ bit_mark ∷ initial ∷ [])

abbrev pub generate : Tree
generate =
    plain form.LabelledConcurrent (word (codes "g")
    ∷ node form.ForGenerate (Some i) None 0 []
    (declared_word i (codes "i") ∷ upto INTEGER (number (codes "0")) (number (codes "1"))
    ∷ plain form.GenerateBody (plain form.DeclarativePart (signal t (codes "t") absent ∷ []) ∷ assign t (name m BIT) ∷ []) ∷ absent ∷ []) ∷ [])

-- entity inner is port (a : in bit; y : out bit); end; architecture rtl of inner is begin y <= not a; end;
-- entity top is port (x : in bit; z : out bit); end; architecture str of top is signal m : bit := '1'; begin
-- u1 : entity work.inner port map (a => x, y => m);  u2 : entity work.inner port map (y => z, a => not m);
-- g : for i in 0 to 1 generate signal t : bit; begin t <= m; end generate; end;
abbrev pub units : List Tree
units =
    entity (codes "inner") (port a (codes "a") form.In ∷ port y (codes "y") form.Out ∷ [])
    ∷ architecture (codes "rtl") (codes "inner") [] (assign y (not_of (name a BIT)) ∷ [])
    ∷ entity (codes "top") (port x (codes "x") form.In ∷ port z (codes "z") form.Out ∷ [])
    ∷ architecture (codes "str") (codes "top") (signal m (codes "m") (letter BIT 1 49) ∷ [])
    (instance (codes "u1") (tied a (name x BIT) ∷ tied y (name m BIT) ∷ []) ∷ instance (codes "u2") (tied y (name z BIT) ∷ tied a (not_of (name m BIT)) ∷ []) ∷ generate ∷ [])
    ∷ []

abbrev pub design : ResolvedTree
design = record { units = side_by_side units; declarations = all_declarations declarations }

abbrev pub text_of : Elaboration → ℕ → List ℕ
text_of (Elaborates made) cycles = design_trace_text made (λ _. []) cycles
text_of (Fails failing) cycles = codes "fails"
text_of NoTop cycles = codes "no top"

-- lines, each with its newline
abbrev pub lines : List (List ℕ) → List ℕ
lines [] = []
lines (l ∷ ls) = l ++ (10 ∷ lines ls)

abbrev pub expected : List (List ℕ)
expected =
    codes "cycle 0 0 0"
    ∷ codes "top.x = '0'"
    ∷ codes "top.z = '0'"
    ∷ codes "top.m = '0'"
    ∷ codes "top.u1.a = '0'"
    ∷ codes "top.u1.y = '0'"
    ∷ codes "top.u2'a = '0'"
    ∷ codes "top.u2.a = '0'"
    ∷ codes "top.u2.y = '0'"
    ∷ codes "top.g(0).t = '0'"
    ∷ codes "top.g(1).t = '0'"
    ∷ codes "cycle 1 0 1"
    ∷ codes "top.z = '1'"
    ∷ codes "top.m = '1'"
    ∷ codes "top.u1.y = '1'"
    ∷ codes "top.u2'a = '1'"
    ∷ codes "top.u2.a = '1'"
    ∷ codes "top.u2.y = '1'"
    ∷ codes "cycle 2 0 2"
    ∷ codes "top.z = '0'"
    ∷ codes "top.u2'a = '0'"
    ∷ codes "top.u2.a = '0'"
    ∷ codes "top.u2.y = '0'"
    ∷ codes "top.g(0).t = '1'"
    ∷ codes "top.g(1).t = '1'"
    ∷ codes "cycle 3 0 3"
    ∷ codes "top.z = '1'"
    ∷ codes "top.u2.y = '1'"
    ∷ codes "quiet" ∷ []

pub record Designs : Type 0 where
  pub trace : text_of (elaboration V2019 design (record { entity = codes "top"; architecture = None; generics = [] })) 3 ≡ lines expected
