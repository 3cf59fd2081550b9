-- What a node of a resolved tree means, as whatever it stands for. A node has a few of these facets; the others say that it is no such thing.
use Rattle.std.specs.Prelude.{ℕ, zero, suc, Bool, true, false, List, [], ◌∷◌, ◌++◌, map, Option, None, Ok}
use Rattle.vd_values.specs.declared.scalar.Scalar.{Scalar}
use Rattle.vd_kernel.specs.declared.assignments.Delay.{Delay}
use Rattle.vd_kernel.specs.declared.assignments.Delay.TheVariants.{Inertial}
use Rattle.vd_composites.specs.declared.ranges.Bounds.{Bounds}
use Rattle.vd_composites.specs.Composites.{Value}
use Rattle.vd_composites.specs.Subtypes.{Subtype}
use Rattle.vd_vectors.specs.declared.logics.LogicType.{LogicType}
use Rattle.vd_resolved.specs.declared.node.Resolved.{Resolved}
use Rattle.vd_environments.specs.Got.{Got, senseless}
use Rattle.vd_environments.specs.Environments.{Signals, Static, never, all_static, Argument, GenericActual, Env, Indicated, Field, unknown}
use Rattle.vd_environments.specs.Commands.{Command, Skip}
use Rattle.vd_environments.specs.Functions.{Parameter}
use Rattle.vd_environments.specs.Processes.{Process, settled_by}
use Rattle.vd_meaning.specs.Names.{Named, no_name, all_read}

-- a value, where a subtype is known of it, and when an assignment of it takes place
pub record Waveform : Type 0 where
  pub value : Got Subtype → Env → Got (Value Scalar)
  pub delay : Env → Got ℕ

-- how an element of a list in brackets is associated
pub data Association : Type 0 where
  Positional : Association
  ByChoices : Association
  ForOthers : Association

-- a choice of an aggregate, or what is named in front of `=>`
pub record Choice : Type 0 where
  pub named : Option ℕ
  pub position : ℕ
  pub bounds : Env → Got Bounds

-- how a selector is compared with a choice: by `=`, or by `?=` on values of a logical type
pub data Comparison : Type 0 where
  ByEquality : Comparison
  ByMatching : (of : LogicType) → Comparison

-- objects that are declared together, for elaboration: ports, signals, generics
pub record Objects : Type 0 where
  pub numbers : List ℕ
  pub indicated : Env → Got Indicated
  pub default : Option (Got Subtype → Env → Got (Value Scalar))
  -- how static the default is
  pub known : Env → Static

-- a generic, or several constants that are declared together
pub data Formal : Type 0 where
  FormalConstants : (objects : Objects) → Formal
  FormalType : (number : ℕ) → Formal
  FormalFunction : (number : ℕ) → Formal

-- an element of a generic map: the generic that it names, and its actual
pub record MapElement : Type 0 where
  pub formal : Option ℕ
  pub is_open : Bool
  pub value : Got Subtype → Env → Got (Value Scalar)
  pub known : Env → Static

-- a function: its generics, its parameters, the subtype of its result, its declarations and statements
pub record Body : Type 0 where
  pub function : ℕ
  pub generics : List Formal
  pub parameters : List Parameter
  pub result : Env → Subtype
  pub statements : Command

pub record Meaning : Type 0 where
  -- what the node itself says
  pub text : List ℕ
  pub declaration : Option ℕ
  pub mark : Option ℕ
  pub position : ℕ
  pub is_present : Bool
  -- of an expression: its value where its place gives a subtype, how static it is, and the longest static prefixes of what it reads, in order
  pub value : Got Subtype → Env → Got (Value Scalar)
  pub known : Env → Static
  pub reads : Env → Got (List Signals)
  -- where it stands for a range
  pub range : Option (Env → Got Bounds)
  -- of a name
  pub name : Named
  pub piece : Named → Named
  -- of an element in brackets
  pub association : Association
  pub choices : List Choice
  -- the index of any bounds of an array type, and the actual `open`
  pub is_open : Bool
  -- how an assignment treats what a driver was to do
  pub mode : Delay
  -- of choices, whether they have a value
  pub covers : Comparison → Value Scalar → Env → Got Bool
  -- of waveforms and values with conditions: what is done with the one that is chosen
  pub chosen : (Waveform → Command) → Command
  -- of a subtype indication, and of the elements of a record
  pub indicated : Env → Got Indicated
  pub fields : Env → Got (List Field)
  -- of a list of identifiers or literals, and of what declares objects
  pub texts : List (List ℕ)
  pub numbers : List ℕ
  pub objects : List Objects
  pub parameters : List Parameter
  -- of a generic clause, of a generic map, and of an instance of a package: what stands for the generics, and which of its declarations stands for which of the package
  pub formals : List Formal
  pub elements : List MapElement
  pub actuals : Env → List GenericActual
  pub copies : List (ℕ × ℕ)
  -- of a statement with a label, or of a declaration
  pub command : Option ℕ → Command
  -- of the branches of an `if`, where they aren't taken something else is done
  pub otherwise : Command → Command
  -- of alternatives, for a selector
  pub cases : Comparison → (Env → Got (Value Scalar)) → Command
  -- of declarations, one after the other
  pub declarations : List Command
  -- of one or several, what they declare for the names of their process, which are evaluated before them
  pub settling : Env → Env
  -- the longest static prefixes of the targets of signal assignments, in order
  pub targets : Env → Got (List Signals)
  -- of the sensitivity of a process that reads some signals
  pub listening : (Env → Got (List Signals)) → Option (Env → Got (List Signals))
  -- of concurrent statements, the processes that they stand for
  pub processes : List Process

abbrev pub no_meaning : Meaning
no_meaning =
    record {
      text = [];
      declaration = None;
      mark = None;
      position = 0;
      is_present = false;
      value = λ _ _. senseless;
      known = λ _. never;
      reads = λ _. Ok [];
      range = None;
      name = no_name;
      piece = λ _. no_name;
      association = Positional;
      choices = [];
      is_open = false;
      mode = Inertial;
      covers = λ _ _ _. senseless;
      chosen = λ _. Skip;
      indicated = λ _. senseless;
      fields = λ _. senseless;
      texts = [];
      numbers = [];
      objects = [];
      parameters = [];
      formals = [];
      elements = [];
      actuals = λ _. [];
      copies = [];
      command = λ _. Skip;
      otherwise = λ c. c;
      cases = λ _ _. Skip;
      declarations = [];
      settling = λ e. e;
      targets = λ _. Ok [];
      listening = λ _. None;
      processes = [];
    }

-- ---- parts

-- a part, by its number
abbrev pub nth : ℕ → List Meaning → Meaning
nth n [] = no_meaning
nth zero (m ∷ ms) = m
nth (suc n) (m ∷ ms) = nth n ms

abbrev pub last_of : List Meaning → Meaning
last_of [] = no_meaning
last_of (m ∷ []) = m
last_of (m ∷ n ∷ ms) = last_of (n ∷ ms)

-- the parts from a number on
abbrev pub from : ℕ → List Meaning → List Meaning
from zero ms = ms
from (suc n) [] = []
from (suc n) (m ∷ ms) = from n ms

abbrev pub flattened : {A : Type 0} → (Meaning → List A) → List Meaning → List A
flattened f [] = []
flattened f (m ∷ ms) = f m ++ flattened f ms

abbrev pub reads_of : List Meaning → Env → Got (List Signals)
reads_of ms = all_read (map (λ m. m.reads) ms)

abbrev pub targets_of : List Meaning → Env → Got (List Signals)
targets_of ms = all_read (map (λ m. m.targets) ms)

abbrev pub known_of : List Meaning → Env → Static
known_of ms e = all_static (map (λ m. m.known e) ms)

-- what declarations declare for the names of their process, one after the other
abbrev pub settled_of : List Meaning → Env → Env
settled_of [] e = e
settled_of (m ∷ ms) e = settled_of ms (m.settling e)

-- a value where nothing is known of its subtype
abbrev pub value_of : Meaning → Env → Got (Value Scalar)
value_of m e = m.value unknown e

abbrev pub arguments : List Meaning → Env → List Argument
arguments ms e = map (λ m known. m.value known e) ms

-- ---- meanings by what the node is

-- what the node says itself, and what is read and driven in its parts
abbrev pub of_node : Resolved → List ℕ → List Meaning → Meaning
of_node n text ms =
    record no_meaning {
      text = text;
      declaration = n.declaration;
      mark = n.mark;
      position = n.position;
      is_present = true;
      reads = reads_of ms;
      targets = targets_of ms;
    }

-- the waveform of an expression alone
abbrev pub at_once : (Got Subtype → Env → Got (Value Scalar)) → Waveform
at_once value = record { value = value; delay = λ _. Ok 0 }

abbrev pub expression : Resolved → List ℕ → List Meaning → (Got Subtype → Env → Got (Value Scalar)) → (Env → Static) → Meaning
expression n text ms value known =
    record (of_node n text ms) { value = value; known = known; chosen = λ act. act (at_once value) }

abbrev pub commanding : Resolved → List Meaning → Command → Meaning
commanding n ms c = record (of_node n [] ms) { command = λ _. c; settling = settled_by c }
