-- Designs with a package, generics, a condition, two sources, and a view; and what they come to.
use Rattle.std.specs.Prelude.{◌≡◌, ℕ, ◌++◌, List, [], ◌∷◌, Some, None, codes}
use Rattle.vd_trees.specs.declared.revision.Revision.TheVariants.{V2019}
use Rattle.vd_trees.specs.TraceText.{stop_line}
use Rattle.vd_declarations.specs.declared.classes.Class.TheVariants as class
use Rattle.vd_declarations.specs.declared.declarations.Declaration.{Declaration}
use Rattle.vd_forms.specs.declared.form.Form.{Form}
use Rattle.vd_forms.specs.declared.form.Form.TheVariants as form
use Rattle.vd_resolved.specs.Trees.{ResolvedTree, side_by_side}
use Rattle.vd_predefined.specs.Entries.{declared}
use Rattle.vd_predefined.specs.declared.numbers.TheConstants.{BIT, BOOLEAN, INTEGER, STD_LOGIC, STD_ULOGIC}
use Rattle.vd_meaning.specs.Building.{Failing, Stopped, Limited}
use Rattle.vd_meaning.specs.Elaborations.{Elaboration, Elaborates, Fails, NoTop, elaboration, design_trace_text}
use Rattle.vd_meaning_facts.specs.Trees.{own, object, node, plain, absent, operator, letter, number, first, name, longer, upto, all_declarations}
use Rattle.vd_elaboration_facts.specs.Designs.{Tree, word, declared_word, bit_mark, architecture, tied, not_of, lines}

-- ---- declarations: w, the function inc with n, the generic g, the ports q and z; r; the record rec with a and b, the view v, the port p, the signal s

abbrev pub w : ℕ
w = own 0

abbrev pub inc : ℕ
inc = own 1

abbrev pub n : ℕ
n = own 2

abbrev pub g : ℕ
g = own 3

abbrev pub q : ℕ
q = own 4

abbrev pub z : ℕ
z = own 5

abbrev pub r : ℕ
r = own 6

abbrev pub rec : ℕ
rec = own 7

abbrev pub a : ℕ
a = own 8

abbrev pub b : ℕ
b = own 9

abbrev pub v : ℕ
v = own 10

abbrev pub p : ℕ
p = own 11

abbrev pub s : ℕ
s = own 12

abbrev pub declarations : List Declaration
declarations =
    object class.Constant INTEGER ∷ declared class.Function (codes "inc") (Some INTEGER) (n ∷ []) ∷ object class.Parameter INTEGER
    ∷ object class.GenericConstant INTEGER ∷ object class.Port INTEGER ∷ object class.Port INTEGER ∷ object class.Signal STD_ULOGIC
    ∷ declared class.RecordType (codes "rec") None (a ∷ b ∷ []) ∷ object class.RecordElement BIT ∷ object class.RecordElement BIT
    ∷ declared class.View (codes "v") None [] ∷ object class.Port rec ∷ object class.Signal rec ∷ []

-- ---- pieces

abbrev pub mark_name : ℕ → Tree
mark_name d = node form.SelectedName (Some d) None 0 [] (word [] ∷ [])

abbrev pub indication : ℕ → Tree
indication d = plain form.SubtypeIndication (mark_name d ∷ absent ∷ [])

-- integer range 0 to a number
abbrev pub ranged : List ℕ → Tree
ranged high = plain form.SubtypeIndication (mark_name INTEGER ∷ plain form.RangeConstraint (upto INTEGER (number (codes "0")) (number high) ∷ []) ∷ [])

abbrev pub names : ℕ → List ℕ → Tree
names d text = plain form.IdentifierList (declared_word d text ∷ [])

abbrev pub closing : Tree
closing = plain form.Closing (absent ∷ absent ∷ [])

abbrev pub unit : Tree → Tree
unit tree = plain form.DesignUnit (plain form.ContextClause [] ∷ tree ∷ [])

abbrev pub port : ℕ → List ℕ → Form → Tree → Tree
port d text mode subtype = plain form.PortDeclaration (absent ∷ names d text ∷ plain mode [] ∷ subtype ∷ absent ∷ [])

abbrev pub entity : List ℕ → Tree → List Tree → Tree
entity text generics ports = unit (plain form.EntityDeclaration (word text ∷ generics ∷ plain form.PortClause ports ∷ closing ∷ []))

abbrev pub entity_without_ports : List ℕ → Tree
entity_without_ports text = unit (plain form.EntityDeclaration (word text ∷ absent ∷ absent ∷ closing ∷ []))

abbrev pub plus : Tree → Tree → Tree
plus x y = operator form.Add (codes "+") (INTEGER ∷ INTEGER ∷ []) INTEGER (x ∷ y ∷ [])

-- package p is constant w : integer := 3; end; package body p is function inc(n : integer) return integer is begin return n + w; end; end;
abbrev pub package_p : Tree
package_p =
    unit (plain form.PackageDeclaration (word (codes "p") ∷ absent
    ∷ plain form.DeclarativePart (plain form.ConstantDeclaration (names w (codes "w") ∷ indication INTEGER ∷ number (codes "3") ∷ []) ∷ []) ∷ closing ∷ []))

abbrev pub body_of_p : Tree
body_of_p =
    unit (plain form.PackageBody (word (codes "p")
    ∷ plain form.DeclarativePart
    (node form.FunctionBody (Some inc) None 0 []
    (absent ∷ word (codes "inc") ∷ absent ∷ absent
    ∷ plain form.ParameterList (plain form.ParameterDeclaration (absent ∷ names n (codes "n") ∷ absent ∷ indication INTEGER ∷ []) ∷ [])
    ∷ mark_name INTEGER ∷ plain form.DeclarativePart []
    ∷ plain form.Statements (plain form.ReturnStatement (plus (name n INTEGER) (name w INTEGER) ∷ []) ∷ [])
    ∷ plain form.FunctionClosing (absent ∷ absent ∷ []) ∷ []) ∷ []) ∷ closing ∷ []))

abbrev pub inc_of : Tree → Tree
inc_of x = longer INTEGER (node form.Identifier (Some inc) None 0 [] [] ∷ node form.Arguments (Some inc) (Some INTEGER) 0 [] (x ∷ []) ∷ [])

-- entity e is generic (g : integer := 2); port (q : out integer range 0 to 6); end; architecture rtl of e is begin
-- c : if g = 1 generate q <= inc(g); else generate q <= 0; end generate; end;
abbrev pub entity_e : Tree
entity_e =
    entity (codes "e") (plain form.GenericClause (plain form.GenericConstant (absent ∷ names g (codes "g") ∷ absent ∷ indication INTEGER ∷ number (codes "2") ∷ []) ∷ []))
    (port q (codes "q") form.Out (ranged (codes "6")) ∷ [])

abbrev pub drive_q : Tree → Tree
drive_q value = plain form.ConcurrentAssignment (name q INTEGER ∷ absent ∷ value ∷ [])

abbrev pub rtl_of_e : Tree
rtl_of_e =
    architecture (codes "rtl") (codes "e") []
    (plain form.LabelledConcurrent (word (codes "c")
    ∷ plain form.IfGenerate (operator form.Equal (codes "=") (INTEGER ∷ INTEGER ∷ []) BOOLEAN (name g INTEGER ∷ number (codes "1") ∷ [])
    ∷ plain form.GenerateBody (absent ∷ drive_q (inc_of (name g INTEGER)) ∷ []) ∷ plain form.ElsifGenerates []
    ∷ plain form.GenerateBody (absent ∷ drive_q (number (codes "0")) ∷ []) ∷ absent ∷ []) ∷ []) ∷ [])

-- an instance of e with a value for g, or with its default
abbrev pub instance_of_e : List ℕ → Tree → Tree
instance_of_e label generics =
    plain form.LabelledConcurrent (word label
    ∷ plain form.EntityInstantiation (plain form.SelectedName (word (codes "work") ∷ word (codes "e") ∷ []) ∷ absent ∷ generics
    ∷ plain form.PortMap (tied q (name z INTEGER) ∷ []) ∷ []) ∷ [])

abbrev pub with_g : List ℕ → Tree
with_g digits = plain form.GenericMap (tied g (number digits) ∷ [])

abbrev pub common : List Tree
common = package_p ∷ body_of_p ∷ entity_e ∷ rtl_of_e ∷ []

abbrev pub top_with : List ℕ → List Tree → List Tree
top_with high statements =
    common ++ (entity (codes "top") absent (port z (codes "z") form.Out (ranged high) ∷ []) ∷ architecture (codes "str") (codes "top") [] statements ∷ [])

abbrev pub design : List Tree → ResolvedTree
design trees = record { units = side_by_side trees; declarations = all_declarations declarations }

abbrev pub failing_text : Failing → List ℕ
failing_text (Stopped halt scope) = stop_line (record { kind = halt.kind; time = 0; delta = 0; scope = scope; text = halt.text })
failing_text (Limited limit) = codes "limit"

abbrev pub text_of : Elaboration → ℕ → List ℕ
text_of (Elaborates made) cycles = design_trace_text made (λ _. []) cycles
text_of (Fails failing) cycles = failing_text failing
text_of NoTop cycles = codes "no top"

abbrev pub traced : List Tree → ℕ → List ℕ
traced trees cycles = text_of (elaboration V2019 (design trees) (record { entity = codes "top"; architecture = Some (codes "str"); generics = [] })) cycles

-- signal r : std_logic; begin r <= '0'; r <= 'Z';
abbrev pub resolved : List Tree
resolved =
    entity_without_ports (codes "top")
    ∷ architecture (codes "str") (codes "top") (plain form.SignalDeclaration (names r (codes "r") ∷ indication STD_LOGIC ∷ absent ∷ []) ∷ [])
    (plain form.ConcurrentAssignment (name r STD_ULOGIC ∷ absent ∷ letter STD_ULOGIC 2 48 ∷ []) ∷ plain form.ConcurrentAssignment (name r STD_ULOGIC ∷ absent ∷ letter STD_ULOGIC 4 90 ∷ []) ∷ [])
    ∷ []

-- type rec is record a : bit; b : bit; end record; view v of rec is a : in; b : out; end view;
abbrev pub record_type : Tree
record_type =
    node form.TypeDeclaration (Some rec) None 0 []
    (word (codes "rec") ∷ plain form.RecordType (plain form.RecordElements
    (plain form.RecordElement (names a (codes "a") ∷ bit_mark ∷ []) ∷ plain form.RecordElement (names b (codes "b") ∷ bit_mark ∷ []) ∷ []) ∷ absent ∷ []) ∷ [])

abbrev pub view_v : Tree
view_v =
    node form.ViewDeclaration (Some v) None 0 []
    (word (codes "v") ∷ mark_name rec ∷ plain form.ViewElements
    (plain form.ViewElement (names a (codes "a") ∷ plain form.In [] ∷ []) ∷ plain form.ViewElement (names b (codes "b") ∷ plain form.Out [] ∷ []) ∷ []) ∷ absent ∷ [])

abbrev pub field : ℕ → ℕ → ℕ → Tree
field d element position =
    longer BIT (first d rec ∷ node form.Selection (Some element) (Some BIT) position [] (word [] ∷ []) ∷ [])

abbrev pub drive_bit : Tree → Tree → Tree
drive_bit target value = plain form.ConcurrentAssignment (target ∷ absent ∷ value ∷ [])

-- entity e is port (p : view v); end; architecture rtl of e is begin p.b <= not p.a; end;
-- architecture str of top is signal s : rec; begin u : entity work.e port map (p => s); s.a <= '1' after 0 fs; end;
abbrev pub viewing : List Tree
viewing =
    unit (plain form.PackageDeclaration (word (codes "p") ∷ absent ∷ plain form.DeclarativePart (record_type ∷ view_v ∷ []) ∷ closing ∷ []))
    ∷ entity (codes "e") absent (plain form.ViewPort (absent ∷ names p (codes "p") ∷ mark_name v ∷ absent ∷ absent ∷ []) ∷ [])
    ∷ architecture (codes "rtl") (codes "e") [] (drive_bit (field p b 1) (not_of (field p a 0)) ∷ [])
    ∷ entity_without_ports (codes "top")
    ∷ architecture (codes "str") (codes "top") (plain form.SignalDeclaration (names s (codes "s") ∷ indication rec ∷ absent ∷ []) ∷ [])
    (plain form.LabelledConcurrent (word (codes "u")
    ∷ plain form.EntityInstantiation (plain form.SelectedName (word (codes "work") ∷ word (codes "e") ∷ []) ∷ absent ∷ absent ∷ plain form.PortMap (tied p (name s rec) ∷ []) ∷ []) ∷ [])
    ∷ drive_bit (field s a 0) (letter BIT 1 49) ∷ [])
    ∷ []

pub record Hierarchies : Type 0 where
  -- one instance with g => 1, whose condition holds: inc(1) is 4
  pub generic : traced (top_with (codes "6") (instance_of_e (codes "k") (with_g (codes "1")) ∷ [])) 2
      ≡ lines (codes "cycle 0 0 0" ∷ codes "top.z = 0" ∷ codes "top.k.q = 0" ∷ codes "cycle 1 0 1" ∷ codes "top.z = 4" ∷ codes "top.k.q = 4" ∷ codes "quiet" ∷ [])
  -- with its default the other alternative is taken, and an assignment of the same value is no event
  pub default : traced (top_with (codes "6") (instance_of_e (codes "k") absent ∷ [])) 2
      ≡ lines (codes "cycle 0 0 0" ∷ codes "top.z = 0" ∷ codes "top.k.q = 0" ∷ codes "cycle 1 0 1" ∷ codes "quiet" ∷ [])
  -- the port's bounds are others than those of its actual
  pub other_bounds : traced (top_with (codes "7") (instance_of_e (codes "k") absent ∷ [])) 2 ≡ lines (codes "stop Range 0 0 top" ∷ [])
  -- two instances are sources of z, which isn't resolved
  pub two : traced (top_with (codes "6") (instance_of_e (codes "k") (with_g (codes "1")) ∷ instance_of_e (codes "m") absent ∷ [])) 2 ≡ lines (codes "stop TwoSources 0 0 top" ∷ [])
  pub sources : traced resolved 1 ≡ lines (codes "cycle 0 0 0" ∷ codes "top.r = 'U'" ∷ codes "cycle 1 0 1" ∷ codes "top.r = '0'" ∷ codes "quiet" ∷ [])
  -- the element of mode `in` has its value from s.a, and that of mode `out` is a source of s.b
  pub view : traced viewing 3
      ≡ lines (codes "cycle 0 0 0" ∷ codes "top.s.a = '0'" ∷ codes "top.s.b = '0'" ∷ codes "top.u.p.a = '0'" ∷ codes "top.u.p.b = '0'"
      ∷ codes "cycle 1 0 1" ∷ codes "top.s.a = '1'" ∷ codes "top.s.b = '1'" ∷ codes "top.u.p.a = '1'" ∷ codes "top.u.p.b = '1'"
      ∷ codes "cycle 2 0 2" ∷ codes "top.s.b = '0'" ∷ codes "top.u.p.b = '0'" ∷ codes "quiet" ∷ [])
