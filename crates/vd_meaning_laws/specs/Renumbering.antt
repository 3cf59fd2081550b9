-- When two trees mean the same, where the declarations of the one have other numbers in the other.
use Rattle.std.specs.Prelude.{◌≡◌, ℕ, List, map, Option, Ok}
use Rattle.std.specs.List.{AllZip}
use Rattle.vd_kernel.specs.Correspondence.{BothOrNone}
use Rattle.vd_values.specs.declared.scalar.Scalar.{Scalar}
use Rattle.vd_composites.specs.Composites.{Value}
use Rattle.vd_composites.specs.Subtypes.{Subtype}
use Rattle.vd_composites.specs.Stops.{◌>>=◌}
use Rattle.vd_forest.specs.Forest.{Forest}
use Rattle.vd_rewriting.specs.Forms.{with_forms}
use Rattle.vd_resolved.specs.declared.node.Resolved.{Resolved}
use Rattle.vd_environments.specs.Got.{Got}
use Rattle.vd_environments.specs.Environments.{Signals, Env, Place}
use Rattle.vd_environments.specs.Commands.{Command}
use Rattle.vd_environments.specs.Functions.{Parameter}
use Rattle.vd_environments.specs.Processes.{Process}
use Rattle.vd_meaning.specs.Tables.{Table, role_of, followed, actual_mark, is_predefined, is_vector, sort_of}
use Rattle.vd_meaning.specs.Operators.{operation, is_local_operator}
use Rattle.vd_meaning.specs.Names.{Named, Stepping}
use Rattle.vd_meaning.specs.Facets.{Meaning, Waveform, Choice, Comparison, Objects, Formal, FormalConstants, FormalType, FormalFunction, MapElement, Body}
use Rattle.vd_meaning.specs.Meanings.{meanings}
use Rattle.vd_meaning_laws.specs.Agreement.{Link, IsApart, Agree, Alike, number_in, AlikeCommands}

-- ---- nodes and tables with other numbers

abbrev pub renumbered : Link → Resolved → Resolved
renumbered l n = record { form = n.form; declaration = number_in l n.declaration; mark = number_in l n.mark; position = n.position }

-- Under its new number each declaration is to a meaning what it was.
pub record SameTable (l : Link) (t t' : Table) : Type 0 where
  pub role : (d : Option ℕ) → role_of t' (number_in l d) ≡ role_of t d
  pub followed : (d : ℕ) → followed t' (l.number d) ≡ l.number (followed t d)
  pub predefined : (d : ℕ) → is_predefined t' (l.number d) ≡ is_predefined t d
  pub operation : (d : ℕ) → operation t' (l.number d) ≡ operation t d
  pub is_local : (d : ℕ) → is_local_operator t' (l.number d) ≡ is_local_operator t d
  pub result : (d : ℕ) → (t'.declared (l.number d)).mark ≡ number_in l (t.declared d).mark
  pub parameters : (d : ℕ) → (t'.declared (l.number d)).parameters ≡ map l.number (t.declared d).parameters
  pub generics : (d : ℕ) → (t'.declared (l.number d)).generics ≡ map l.number (t.declared d).generics
  pub actual_mark : (d : ℕ) → actual_mark t' (l.number d) ≡ l.number (actual_mark t d)
  pub vector : (d : ℕ) → is_vector (l.number d) ≡ is_vector d
  pub sort : (m : Option ℕ) → sort_of t' (number_in l m) ≡ sort_of t m

-- ---- what is evaluated under the new numbers comes to what it came to under the old ones

abbrev pub AlikeOption : {A : Type 0} → Link → Option (Env → A) → Option (Env → A) → Type 0
AlikeOption l x y = BothOrNone (Alike l) x y

-- where the place of an expression gives a subtype
abbrev pub AlikeValues : Link → (Got Subtype → Env → Got (Value Scalar)) → (Got Subtype → Env → Got (Value Scalar)) → Type 0
AlikeValues l f g = (known : Got Subtype) → Alike l (f known) (g known)

abbrev pub place_in : Link → Place → Place
place_in l p = record { object = l.number p.object; steps = p.steps }

abbrev pub AlikePlaces : Link → (Env → Got Place) → (Env → Got Place) → Type 0
AlikePlaces l f g = Alike l (λ e. f e >>= λ x. Ok (place_in l x)) g

pub record AlikeName (l : Link) (p q : Named) : Type 0 where
  pub value : Alike l p.value q.value
  pub place : AlikePlaces l p.place q.place
  pub signals : Alike l p.signals q.signals
  pub range : AlikeOption l p.range q.range
  pub shape : Alike l p.shape q.shape
  pub subtype : Alike l p.subtype q.subtype
  pub make : Alike l p.make q.make
  pub is_object : q.is_object ≡ p.is_object
  pub local_slices : Alike l p.local_slices q.local_slices
  pub is_mark : q.is_mark ≡ p.is_mark
  pub mark : q.mark ≡ number_in l p.mark
  pub callee : q.callee ≡ p.callee
  pub known : Alike l p.known q.known
  pub prefix : AlikeOption l p.prefix q.prefix
  pub is_whole : Alike l p.is_whole q.is_whole
  pub inner : Alike l p.inner q.inner

pub record AlikeStepping (l : Link) (s t : Stepping) : Type 0 where
  pub to : Alike l s.to t.to
  pub known : Alike l s.known t.known
  pub inner : Alike l s.inner t.inner
  pub subtype : Alike l s.subtype t.subtype
  pub make : Alike l s.make t.make
  pub local_slices : Alike l s.local_slices t.local_slices
  pub shape : Alike l s.shape t.shape

pub record AlikeWaveform (l : Link) (w x : Waveform) : Type 0 where
  pub value : AlikeValues l w.value x.value
  pub delay : Alike l w.delay x.delay

pub record AlikeChoice (l : Link) (c d : Choice) : Type 0 where
  pub named : d.named ≡ number_in l c.named
  pub position : d.position ≡ c.position
  pub bounds : Alike l c.bounds d.bounds

pub record AlikeParameter (l : Link) (p q : Parameter) : Type 0 where
  pub object : q.object ≡ l.number p.object
  pub indicated : Alike l p.indicated q.indicated

pub record AlikeObjects (l : Link) (o p : Objects) : Type 0 where
  pub numbers : p.numbers ≡ map l.number o.numbers
  pub indicated : Alike l o.indicated p.indicated
  pub default : BothOrNone (AlikeValues l) o.default p.default
  pub known : Alike l o.known p.known

abbrev pub AlikeFormal : Link → Formal → Formal → Type 0
AlikeFormal l (FormalConstants o) (FormalConstants p) = AlikeObjects l o p
AlikeFormal l (FormalType d) (FormalType c) = c ≡ l.number d
AlikeFormal l (FormalFunction d) (FormalFunction c) = c ≡ l.number d
AlikeFormal l _ _ = ⊥

pub record AlikeMapElement (l : Link) (x y : MapElement) : Type 0 where
  pub formal : y.formal ≡ number_in l x.formal
  pub is_open : y.is_open ≡ x.is_open
  pub value : AlikeValues l x.value y.value
  pub known : Alike l x.known y.known

abbrev pub pair_in : Link → ℕ × ℕ → ℕ × ℕ
pair_in l c = (l.number c.0, l.number c.1)

-- ---- meanings

pub record AlikeBody (l : Link) (b c : Body) : Type 0 where
  pub function : c.function ≡ l.number b.function
  pub generics : AllZip (AlikeFormal l) b.generics c.generics
  pub parameters : AllZip (AlikeParameter l) b.parameters c.parameters
  pub result : Alike l b.result c.result
  pub statements : AlikeCommands l b.statements c.statements

-- two ways to declare something for names, which agree again
abbrev pub AlikeSettling : Link → (Env → Env) → (Env → Env) → Type 0
AlikeSettling l f g = (e e' : Env) → Agree l e e' → Agree l (f e) (g e')

pub record AlikeProcess (l : Link) (p q : Process) : Type 0 where
  pub declarations : AllZip (AlikeCommands l) p.declarations q.declarations
  pub settling : AlikeSettling l p.settling q.settling
  pub statements : AlikeCommands l p.statements q.statements
  pub sensitivity : AlikeOption l p.sensitivity q.sensitivity
  pub targets : Alike l p.targets q.targets

-- two nodes mean the same, facet by facet
pub record AlikeMeaning (l : Link) (m n : Meaning) : Type 0 where
  pub text : n.text ≡ m.text
  pub declaration : n.declaration ≡ number_in l m.declaration
  pub mark : n.mark ≡ number_in l m.mark
  pub position : n.position ≡ m.position
  pub is_present : n.is_present ≡ m.is_present
  pub value : AlikeValues l m.value n.value
  pub known : Alike l m.known n.known
  pub reads : Alike l m.reads n.reads
  pub range : AlikeOption l m.range n.range
  pub name : AlikeName l m.name n.name
  pub piece : (p q : Named) → AlikeName l p q → AlikeName l (m.piece p) (n.piece q)
  pub association : n.association ≡ m.association
  pub choices : AllZip (AlikeChoice l) m.choices n.choices
  pub is_open : n.is_open ≡ m.is_open
  pub mode : n.mode ≡ m.mode
  pub covers : (c : Comparison) (v : Value Scalar) → Alike l (m.covers c v) (n.covers c v)
  pub chosen : (act act' : Waveform → Command) → ((w x : Waveform) → AlikeWaveform l w x → AlikeCommands l (act w) (act' x)) → AlikeCommands l (m.chosen act) (n.chosen act')
  pub indicated : Alike l m.indicated n.indicated
  pub fields : Alike l m.fields n.fields
  pub texts : n.texts ≡ m.texts
  pub numbers : n.numbers ≡ map l.number m.numbers
  pub objects : AllZip (AlikeObjects l) m.objects n.objects
  pub parameters : AllZip (AlikeParameter l) m.parameters n.parameters
  pub formals : AllZip (AlikeFormal l) m.formals n.formals
  pub elements : AllZip (AlikeMapElement l) m.elements n.elements
  pub actuals : Alike l m.actuals n.actuals
  pub copies : n.copies ≡ map (pair_in l) m.copies
  pub command : (label : Option ℕ) → AlikeCommands l (m.command label) (n.command (number_in l label))
  pub otherwise : (c d : Command) → AlikeCommands l c d → AlikeCommands l (m.otherwise c) (n.otherwise d)
  pub cases : (c : Comparison) (s s' : Env → Got (Value Scalar)) → Alike l s s' → AlikeCommands l (m.cases c s) (n.cases c s')
  pub declarations : AllZip (AlikeCommands l) m.declarations n.declarations
  pub settling : AlikeSettling l m.settling n.settling
  pub targets : Alike l m.targets n.targets
  pub listening : (reads reads' : Env → Got (List Signals)) → Alike l reads reads' → AlikeOption l (m.listening reads) (n.listening reads')
  pub processes : AllZip (AlikeProcess l) m.processes n.processes

-- A tree with other numbers means the same.
abbrev pub TreesAlike : Type 0
TreesAlike = (l : Link) → IsApart l → (t t' : Table) → SameTable l t t' → (f : Forest Resolved)
    → AllZip (AlikeMeaning l) (meanings t f) (meanings t' (with_forms (renumbered l) f))
