-- What each node of a resolved tree is to elaboration: a table of kinds, and a clause for each kind. (IEEE 1076, elaboration of a declarative part; of a statement part;
-- generate statements; design units.)
use Rattle.std.specs.Prelude.{ℕ, Bool, true, List, [], ◌∷◌, map, option_to_list, Option, Some, None, Ok, if◌then◌else◌}
use Rattle.vd_values.specs.declared.scalar.Scalar.{Scalar}
use Rattle.vd_bytes.specs.declared.places.Place.{Place}
use Rattle.vd_trees.specs.declared.paths.Label.{Label}
use Rattle.vd_forest.specs.Forest.{Forest}
use Rattle.vd_rewriting.specs.Folding.{folded}
use Rattle.vd_forms.specs.declared.form.Form.{Form}
use Rattle.vd_forms.specs.declared.form.Form.TheVariants as form
use Rattle.vd_resolved.specs.declared.node.Resolved.{Resolved}
use Rattle.vd_composites.specs.Stops.{◌>>=◌}
use Rattle.vd_composites.specs.Composites.{Value}
use Rattle.vd_environments.specs.Got.{Got}
use Rattle.vd_environments.specs.Environments.{never, Env, Indicated, literals_of, or_senseless}
use Rattle.vd_environments.specs.Environments.{with_object as with_constant}
use Rattle.vd_environments.specs.Commands.{run}
use Rattle.vd_environments.specs.Processes.{declared_end}
use Rattle.vd_meaning.specs.Tables.{Table}
use Rattle.vd_meaning.specs.Names.{number_or, position_in}
use Rattle.vd_meaning.specs.Facets.{Meaning, ByEquality, value_of, Association, ByChoices}
use Rattle.vd_meaning.specs.Brackets.{or_else}
use Rattle.vd_meaning.specs.Statements.{truth_of, values_of_range}
use Rattle.vd_meaning.specs.Declarations.{initial_value, new_objects}
use Rattle.vd_meaning.specs.Meanings.{node_meaning, made}
use Rattle.vd_meaning.specs.Layouts.{index_at}
use Rattle.vd_meaning.specs.Building.{Mode, Input, Output, BothWays, evaluated, inside_generate, counted, size_of_object, first_of_object, State, with_signal, with_processes}
use Rattle.vd_meaning.specs.NodeFacets.{ElementMode, ByMode, ByView, ViewElement, Ports, Instance, Elaborating, nothing_to_do, one_after_other, PackageText, PlainPackage, GenericPackage, BodyOfPackage, InstanceOfPackage, EntityUnit, ArchitectureUnit, PackageUnit, Part, of_meaning, nth, from, last_of, gathered}
use Rattle.vd_meaning.specs.Instances.{known_early}
use Rattle.vd_meaning.specs.Hierarchies.{label_of, leaving}

-- ---- kinds

pub data Kind : Type 0 where
  Gathering : Kind
  Leaf' : Kind
  -- names in front of `=>`
  Formal : Kind
  Choice' : Kind
  Inner : Kind
  SelectedText : Kind
  Map : Kind
  -- interfaces
  Word : (mode : Mode) → Kind
  ViewWord : Kind
  PortList : Kind
  ViewPorts : Kind
  GenericList : Kind
  ViewPart : Kind
  ViewText : Kind
  -- declarations
  Signals' : Kind
  Declared : Kind
  Declarations : Kind
  -- concurrent statements
  Processes' : Kind
  Labelled : Kind
  Instantiation : Kind
  IfGenerate : Kind
  Elsifs : Kind
  Elsif : Kind
  ForGenerate : Kind
  CaseGenerate : Kind
  Alternatives : Kind
  Alternative : Kind
  Body : Kind
  Statements : Kind
  -- design units
  Entity : Kind
  Architecture : Kind
  Package : Kind
  PackageBody : Kind
  PackageInstance : Kind

abbrev pub kind : Form → Kind
kind form.Identifier = Leaf'
kind form.Name = Formal
kind form.Arguments = Inner
kind form.AssociationChoices = Inner
kind form.SelectedName = SelectedText
kind form.Association = Choice'
kind form.GenericMap = Map
kind form.PortMap = Map
kind form.In = Word Input
kind form.Out = Word Output
kind form.InOut = Word BothWays
kind form.ViewMode = ViewWord
kind form.PortDeclaration = PortList
kind form.ViewPort = ViewPorts
kind form.GenericConstant = GenericList
kind form.ViewElement = ViewPart
kind form.ViewDeclaration = ViewText
kind form.SignalDeclaration = Signals'
kind form.ConstantDeclaration = Declared
kind form.TypeDeclaration = Declared
kind form.SubtypeDeclaration = Declared
kind form.FunctionBody = Declared
kind form.FunctionInstantiation = Declared
kind form.DeclarativePart = Declarations
kind form.ProcessStatement = Processes'
kind form.ConcurrentAssignment = Processes'
kind form.AssertStatement = Processes'
kind form.SelectedSignalAssignment = Processes'
kind form.LabelledConcurrent = Labelled
kind form.EntityInstantiation = Instantiation
kind form.IfGenerate = IfGenerate
kind form.ElsifGenerates = Elsifs
kind form.ElsifGenerate = Elsif
kind form.ForGenerate = ForGenerate
kind form.CaseGenerate = CaseGenerate
kind form.GenerateAlternatives = Alternatives
kind form.GenerateAlternative = Alternative
kind form.GenerateBody = Body
kind form.StatementPart = Statements
kind form.EntityDeclaration = Entity
kind form.ArchitectureBody = Architecture
kind form.PackageDeclaration = Package
kind form.PackageBody = PackageBody
kind form.PackageInstantiation = PackageInstance
kind _ = Gathering

-- ---- declarations

abbrev pub with_environment : State → Env → State
with_environment s e = record s { env = e }

-- a declaration that is a command
abbrev pub commanded : Meaning → Elaborating
commanded m h scope s = evaluated scope (declared_end (run (m.command None) s.env).end) >>= λ e. Ok (with_environment s e)

-- signals: the subtype, which counts, and then the initial value, one after the other
abbrev pub new_signal : Meaning → Meaning → ℕ → List ℕ → Elaborating
new_signal subtype initial d name h scope s =
    evaluated scope (subtype.indicated s.env) >>= λ i. counted (size_of_object i) s.made >>= λ made. evaluated scope (initial_value initial i s.env >>= first_of_object i) >>= λ v.
    Ok (with_signal scope d name i v (record s { made = made }))

abbrev pub new_signals : Meaning → Meaning → List ℕ → List (List ℕ) → Elaborating
new_signals subtype initial (d ∷ ds) (name ∷ names) h scope s = new_signal subtype initial d name h scope s >>= new_signals subtype initial ds names h scope
new_signals subtype initial _ _ h scope s = Ok s

-- ---- regions

-- declarations, then the subtypes of the implicit signals of all statements, then the statements
abbrev pub region_of : List Part → List Part → Elaborating
region_of declarations statements h scope s =
    one_after_other (map (λ p. p.declaring) declarations) h scope s >>= λ t.
    one_after_other (map (λ p. p.ahead []) statements) h scope t >>= one_after_other (map (λ p. p.elaborating []) statements) h scope

-- ---- generates

-- a body, inside its label
abbrev pub generated : Part → Label → Elaborating
generated body label h scope s = body.region h (inside_generate label scope) s >>= λ t. Ok (leaving s.env t)

abbrev pub if_holds : Meaning → Elaborating → Elaborating → Elaborating
if_holds test first second h scope s = evaluated scope (truth_of test s.env) >>= λ b. if b then first h scope s else second h scope s

abbrev pub where_there : Part → Elaborating → Elaborating
where_there p f = if p.meaning.is_present then f else nothing_to_do

abbrev pub all_otherwise : List Part → List ℕ → Elaborating → Elaborating
all_otherwise [] label f = f
all_otherwise (p ∷ ps) label f = p.otherwise label (all_otherwise ps label f)

abbrev pub first_covering : List Part → List ℕ → (Env → Got (Value Scalar)) → Elaborating
first_covering [] label selector h scope s = evaluated scope (selector s.env) >>= λ v. Ok s
first_covering (p ∷ ps) label selector h scope s =
    evaluated scope (selector s.env >>= λ v. p.meaning.covers ByEquality v s.env) >>= λ b.
    if b then generated p (label_of label) h scope s else first_covering ps label selector h scope s

-- of a `for` generate each value, with its index
abbrev pub with_parameter : ℕ → Indicated → Value Scalar → State → State
with_parameter d i v s = record s { env = with_constant d i.subtype i.make v known_early s.env }

abbrev pub index_label : List ℕ → List (List ℕ) → Value Scalar → Got Label
index_label name literals v = position_in v >>= λ p. Ok (record { name = name; index = Some (index_at literals p) })

abbrev pub for_values : Part → List ℕ → ℕ → Indicated → List (Value Scalar) → Elaborating
for_values body name d i [] h scope s = Ok s
for_values body name d i (v ∷ vs) h scope s =
    evaluated scope (index_label name (literals_of i.make) v) >>= λ label. generated body label h scope (with_parameter d i v s) >>= for_values body name d i vs h scope

abbrev pub parameter_type : Option ℕ → Env → Got Indicated
parameter_type mark e = or_senseless mark >>= λ d. Ok (record { subtype = (e.denotes d).subtype; make = (e.denotes d).make })

abbrev pub for_generate : Part → Meaning → List ℕ → ℕ → Elaborating
for_generate body range name d h scope s =
    evaluated scope (values_of_range range s.env) >>= λ vs. evaluated scope (parameter_type range.mark s.env) >>= λ i.
    for_values body name d i vs h scope s >>= λ t. Ok (leaving s.env t)

-- ---- instances

abbrev pub present_text : Meaning → Option (List ℕ)
present_text m = if m.is_present then Some m.text else None

abbrev pub instance_with : List ℕ → List Part → Instance
instance_with label ps =
    record {
      label = label;
      entity = (nth 0 ps).meaning.text;
      architecture = present_text (nth 1 ps).meaning;
      generics = (nth 2 ps).actuals;
      ports = (nth 3 ps).actuals;
    }

-- ---- the parts

-- what all nodes gather from their parts
abbrev pub gathering : Meaning → List Part → Part
gathering m ps =
    record (of_meaning m) {
      named = gathered (λ p. p.named) ps;
      elements = gathered (λ p. p.elements) ps;
      views = gathered (λ p. p.views) ps;
      ports = gathered (λ p. p.ports) ps;
      defaults = gathered (λ p. p.defaults) ps;
      units = gathered (λ p. p.units) ps;
    }

abbrev pub is_conversed : Meaning → Bool
is_conversed m = m.is_present

abbrev pub ports_part : Resolved → List Part → ElementMode → Part → List Ports
ports_part n ps mode subtype =
    record {
      names = (nth 1 ps).meaning.texts;
      objects = record { numbers = (nth 1 ps).meaning.numbers; indicated = subtype.meaning.indicated; default = None; known = λ _. never };
      has_subtype = subtype.meaning.is_present;
      named = subtype.named;
      mode = mode;
    } ∷ []

abbrev pub element_parts : List (List ℕ) → ElementMode → List ViewElement
element_parts [] mode = []
element_parts (name ∷ names) mode = record { name = name; mode = mode } ∷ element_parts names mode

-- ---- packages

abbrev pub package_text : Resolved → List Part → PackageText
package_text n ps =
    record {
      sort = if (nth 1 ps).meaning.is_present then GenericPackage else PlainPackage;
      name = (nth 0 ps).meaning.text;
      number = number_or (made n (nth 0 ps).meaning);
      generics = (nth 1 ps).meaning.formals;
      declaring = (nth 2 ps).declaring;
      declarations = (nth 2 ps).meaning.declarations;
      actuals = λ _. [];
      copies = [];
    }

abbrev pub package_body_text : Resolved → List Part → PackageText
package_body_text n ps =
    record {
      sort = BodyOfPackage;
      name = (nth 0 ps).meaning.text;
      number = number_or (made n (nth 0 ps).meaning);
      generics = [];
      declaring = (nth 1 ps).declaring;
      declarations = (nth 1 ps).meaning.declarations;
      actuals = λ _. [];
      copies = [];
    }

abbrev pub package_instance_text : Meaning → List Part → PackageText
package_instance_text m ps =
    record {
      sort = InstanceOfPackage;
      name = (nth 0 ps).meaning.text;
      number = number_or (nth 1 ps).meaning.declaration;
      generics = [];
      declaring = nothing_to_do;
      declarations = [];
      actuals = m.actuals;
      copies = m.copies;
    }

-- only in front of `=>` a name is that of a formal
abbrev pub formal_in : Association → Option ℕ → Option ℕ
formal_in ByChoices d = d
formal_in _ d = None

abbrev pub part_of : Kind → Resolved → Meaning → List Part → Part
part_of Gathering n m ps = gathering m ps
part_of Leaf' n m ps = record (gathering m ps) { named = option_to_list n.declaration; formal = n.declaration }
part_of Formal n m ps = record (gathering m ps) { formal = or_else n.declaration (last_of ps).formal }
part_of Choice' n m ps = record (gathering m ps) { formal = (nth 0 ps).formal }
part_of Inner n m ps = record (gathering m ps) { formal = (nth 0 ps).formal }
part_of SelectedText n m ps = gathering (record m { text = (last_of ps).meaning.text }) ps
part_of Map n m ps = record (gathering m ps) { actuals = map (λ p. record { formal = formal_in p.meaning.association p.formal; meaning = p.meaning }) ps }
part_of (Word mode) n m ps = record (gathering m ps) { mode = ByMode mode }
part_of ViewWord n m ps = record (gathering m ps) { mode = ByView (nth 0 ps).meaning.declaration (is_conversed (nth 1 ps).meaning) }
part_of PortList n m ps =
    record (gathering m ps) { ports = record { names = (nth 1 ps).meaning.texts; objects = new_objects (nth 1 ps).meaning.numbers (nth 3 ps).meaning (nth 4 ps).meaning; has_subtype = true; named = (nth 3 ps).named; mode = (nth 2 ps).mode } ∷ [] }
part_of ViewPorts n m ps =
    record (gathering m ps) { ports = ports_part n ps (ByView (nth 2 ps).meaning.declaration (is_conversed (nth 3 ps).meaning)) (nth 4 ps) }
part_of GenericList n m ps = record (gathering m ps) { defaults = (nth 4 ps).named ∷ [] }
part_of ViewPart n m ps = record (gathering m ps) { elements = element_parts (nth 0 ps).meaning.texts (nth 1 ps).mode }
part_of ViewText n m ps =
    record (gathering m ps) { views = record { view = number_or (made n (nth 0 ps).meaning); mark = (nth 1 ps).meaning.declaration; elements = (nth 2 ps).elements } ∷ [] }
part_of Signals' n m ps =
    record (gathering m ps) { declaring = new_signals (nth 1 ps).meaning (nth 2 ps).meaning (nth 0 ps).meaning.numbers (nth 0 ps).meaning.texts }
part_of Declared n m ps = record (gathering m ps) { declaring = commanded m }
part_of Declarations n m ps = record (gathering m ps) { declaring = one_after_other (map (λ p. p.declaring) ps) }
part_of Processes' n m ps = record (gathering m ps) { elaborating = λ label h scope s. with_processes scope m.processes s }
part_of Labelled n m ps =
    record (gathering m ps) { ahead = λ label. (nth 1 ps).ahead (nth 0 ps).meaning.text; elaborating = λ label. (nth 1 ps).elaborating (nth 0 ps).meaning.text }
part_of Instantiation n m ps =
    record (gathering m ps) {
      ahead = λ label h scope s. h.ahead scope (instance_with label ps) s;
      elaborating = λ label h scope s. h.instance scope (instance_with label ps) s;
    }
part_of IfGenerate n m ps =
    record (gathering m ps) {
      elaborating = λ label. if_holds (nth 0 ps).meaning (generated (nth 1 ps) (label_of label))
          ((nth 2 ps).otherwise label (where_there (nth 3 ps) (generated (nth 3 ps) (label_of label))));
    }
part_of Elsifs n m ps = record (gathering m ps) { otherwise = all_otherwise ps }
part_of Elsif n m ps = record (gathering m ps) { otherwise = λ label f. if_holds (nth 0 ps).meaning (generated (nth 1 ps) (label_of label)) f }
part_of ForGenerate n m ps =
    record (gathering m ps) { elaborating = λ label. for_generate (nth 2 ps) (nth 1 ps).meaning label (number_or (made n (nth 0 ps).meaning)) }
part_of CaseGenerate n m ps = record (gathering m ps) { elaborating = λ label. (nth 1 ps).cases label (value_of (nth 0 ps).meaning) }
part_of Alternatives n m ps = record (gathering m ps) { cases = first_covering ps }
part_of Alternative n m ps = record (gathering (record m { covers = (nth 0 ps).meaning.covers }) ps) { region = (nth 1 ps).region }
part_of Body n m ps = record (gathering m ps) { region = region_of (nth 0 ps ∷ []) (from 1 ps) }
part_of Statements n m ps = record (gathering m ps) { region = region_of [] ps }
part_of Entity n m ps =
    record (gathering m ps) {
      units = EntityUnit (nth 0 ps).meaning.text (record { objects = (nth 1 ps).meaning.objects; defaults = (nth 1 ps).defaults }) (nth 2 ps).ports ∷ [];
    }
part_of Architecture n m ps =
    record (gathering m ps) {
      units = ArchitectureUnit (nth 0 ps).meaning.text (nth 1 ps).meaning.text (λ h scope s. (nth 2 ps).declaring h scope s >>= (nth 3 ps).region h scope) ∷ [];
    }
part_of Package n m ps = record (gathering m ps) { units = PackageUnit (package_text n ps) ∷ [] }
part_of PackageBody n m ps = record (gathering m ps) { units = PackageUnit (package_body_text n ps) ∷ [] }
part_of PackageInstance n m ps = record (gathering m ps) { units = PackageUnit (package_instance_text m ps) ∷ [] }

-- ---- trees

abbrev pub node_part : Table → Resolved → List ℕ → Place → List Part → Part
node_part t n text place ps = part_of (kind n.form) n (node_meaning t n text place (map (λ p. p.meaning) ps)) ps

abbrev pub parts : Table → Forest Resolved → List Part
parts t f = folded (node_part t) f
