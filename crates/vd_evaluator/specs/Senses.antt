-- What the evaluated nodes of the code say of the meanings of these nodes.
use Rattle.std.specs.Prelude.{◌≡◌, ℕ, true, false, List, [], ◌∷◌, map, Option, None, Some, slice_get, Ok, Err}
use Rattle.vd_values.specs.declared.scalar.Scalar.{Scalar}
use Rattle.vd_forest.specs.Forest.{Forest, nothing, more}
use Rattle.vd_resolved.specs.declared.node.Resolved.{Resolved}
use Rattle.vd_composites.specs.Stops.{OrStop, ◌>>=◌}
use Rattle.vd_composites.specs.Composites.{Value}
use Rattle.vd_composites.specs.declared.ranges.Bounds.{Bounds}
use Rattle.vd_composites.specs.Parts.{Step, AtIndex, AtSlice, AtField}
use Rattle.vd_composites.specs.Subtypes.{Subtype}
use Rattle.vd_kernel.specs.Models.{View}
use Rattle.vd_environments.specs.Got.{Got, got, halt_of}
use Rattle.vd_environments.specs.Environments.{Signals, read, Env}
use Rattle.vd_meaning.specs.Tables.{Table, Role, FunctionRole, MarkRole}
use Rattle.vd_meaning.specs.Kinds
use Rattle.vd_meaning.specs.Names.{Named, NoCallee, Stepping, stepped}
use Rattle.vd_meaning.specs.Facets.{Meaning, Positional}
use Rattle.vd_meaning.specs.Meanings.{meaning_of, meanings}
use Rattle.vd_plain_values.specs.declared.environment.Entry.{Entry}
use Rattle.vd_evaluator.specs.declared.senses.Name.{Name}
use Rattle.vd_evaluator.specs.declared.senses.Name.TheVariants as name
use Rattle.vd_evaluator.specs.declared.senses.Part.{Part}
use Rattle.vd_evaluator.specs.declared.senses.Part.TheVariants as part
use Rattle.vd_evaluator.specs.declared.senses.Piece.{Piece as NamePiece}
use Rattle.vd_evaluator.specs.declared.senses.Piece.TheVariants as piece
use Rattle.vd_evaluator.specs.declared.senses.What.{What}
use Rattle.vd_evaluator.specs.declared.senses.What.TheVariants as what
use Rattle.vd_evaluator.specs.declared.senses.Sense.{Sense}
use Rattle.vd_evaluator.specs.Outlines.{NameOutline, Valued, Called, Unnamed, PieceOutline, ToPart, ToValue, Outline, NotTaken, Word, Expression, Textual, Range, Piece, has_text, is_expression, outline_of, outlines}
use Rattle.vd_plain_values.specs.Plain.{Holds}

-- ---- what the code's answers are

abbrev pub name_outline_of : Name → NameOutline
name_outline_of (name.Valued r) = Valued
name_outline_of name.Called = Called
name_outline_of name.Unnamed = Unnamed

abbrev pub piece_outline : NamePiece → PieceOutline
piece_outline (piece.Step r) = ToPart
piece_outline (piece.Own r) = ToValue

abbrev pub step_in : Part → Step
step_in (part.Index i) = AtIndex i
step_in (part.Slice b) = AtSlice b
step_in (part.Field n) = AtField n

abbrev pub what_outline : What → Outline
what_outline what.NotTaken = NotTaken
what_outline (what.Word name) = Word (name_outline_of name)
what_outline (what.Expression r) = Expression
what_outline what.Textual = Textual
what_outline (what.Range r) = Range
what_outline (what.Piece p) = Piece (piece_outline p)

abbrev pub sense_outline : Sense → Outline
sense_outline s = what_outline s.what

abbrev pub text_found : Option Sense → List ℕ
text_found None = []
text_found (Some s) = s.text.now

abbrev pub text_at : ℕ → List Sense → List ℕ
text_at n ss = text_found (slice_get ss n)

-- what a name is with all its pieces
abbrev pub finished_what : Name → What
finished_what (name.Valued r) = what.Expression r
finished_what _ = what.NotTaken

-- a function or a mark, by what it is and whether its name has a type
abbrev pub called_by : Role → Option ℕ → Name
called_by FunctionRole None = name.Called
called_by MarkRole mark = name.Called
called_by _ mark = name.Unnamed

-- the value of an expression, or nothing elsewhere
abbrev pub IsValueIn : What → Option (OrStop (Value Scalar)) → Type 0
IsValueIn w None = is_expression (what_outline w) ≡ false
IsValueIn w (Some r) = w ≡ what.Expression r

-- ---- what they say

-- A value of a signal, or of a part of one, is what is seen of its scalar signals.
abbrev pub IsReadAs : View → Got Signals → OrStop (Value Scalar) → Type 0
IsReadAs view (Ok s) (Ok v) = read view s ≡ Ok v
IsReadAs view (Err h) (Err k) = h ≡ halt_of k
IsReadAs view _ _ = ⊥

abbrev pub IsPrefix : View → Option (Env → Got Signals) → Got Signals → OrStop (Value Scalar) → Type 0
IsPrefix view None signals r = Unit {0}
IsPrefix view (Some prefix) signals r = IsReadAs view signals r

-- a name that stands for a value
pub record IsValue (e : Env) (r : OrStop (Value Scalar)) (p : Named) : Type 0 where
  pub value : p.value e ≡ got r
  pub range : p.range ≡ None
  pub is_mark : p.is_mark ≡ false
  pub callee : p.callee ≡ NoCallee
  pub prefix : IsPrefix e.view p.prefix (p.signals e) r

abbrev pub IsName : Env → Name → Named → Type 0
IsName e (name.Valued r) p = IsValue e r p
IsName e name.Called p = p.callee ≡ NoCallee
IsName e name.Unnamed p = Unit {0}

-- an expression, whatever subtype is known of it
pub record IsExpression (e : Env) (r : OrStop (Value Scalar)) (m : Meaning) : Type 0 where
  pub value : (known : Got Subtype) → m.value known e ≡ got r
  pub association : m.association ≡ Positional
  pub range : m.range ≡ None
  pub choices : m.choices ≡ []

-- a range
pub record IsRange (e : Env) (r : OrStop Bounds) (m : Meaning) : Type 0 where
  pub range : Env → Got Bounds
  pub is : m.range ≡ Some range
  pub bounds : range e ≡ got r

-- a step from a name to a part of what it stands for
pub record IsStepped (e : Env) (r : OrStop Part) (p q : Named) : Type 0 where
  pub stepping : Stepping
  pub mark : Option ℕ
  pub to : stepping.to e ≡ (got r >>= λ x. Ok (step_in x))
  pub is : q ≡ stepped stepping mark p

-- a further piece, behind what isn't an attribute that waits for an argument
abbrev pub IsPiece : Env → NamePiece → (Named → Named) → Type 0
IsPiece e (piece.Step r) f = (p : Named) → p.callee ≡ NoCallee → IsStepped e r p (f p)
IsPiece e (piece.Own r) f = (p : Named) → p.callee ≡ NoCallee → IsValue e r (f p)

abbrev pub IsWhat : Env → What → Meaning → Type 0
IsWhat e what.NotTaken m = Unit {0}
IsWhat e (what.Word name) m = IsName e name m.name
IsWhat e (what.Expression r) m = IsExpression e r m
IsWhat e what.Textual m = Unit {0}
IsWhat e (what.Range r) m = IsRange e r m
IsWhat e (what.Piece p) m = IsPiece e p m.piece

pub record IsSense (e : Env) (s : Sense) (m : Meaning) : Type 0 where
  pub text : has_text (sense_outline s) ≡ true → m.text ≡ s.text.now
  pub what : IsWhat e s.what m

abbrev pub AreSenses : Env → List Sense → List Meaning → Type 0
AreSenses e [] [] = Unit {0}
AreSenses e (s ∷ ss) (m ∷ ms) = IsSense e s m × AreSenses e ss ms
AreSenses e _ _ = ⊥

-- a node of a kind, from what its parts are
pub record IsNode (t : Table) (entries : List Entry) (k : Kinds.Kind) (n : Resolved) (text : List ℕ) (parts : List Sense) (s : Sense) : Type 0 where
  pub outline : sense_outline s ≡ outline_of k t n text (map sense_outline parts)
  pub sense : (e : Env) → Holds entries e → (ms : List Meaning) → AreSenses e parts ms → IsSense e s (meaning_of k t n text ms)

-- the trees of a forest
pub record AreTrees (t : Table) (entries : List Entry) (ss : List Sense) (f : Forest Resolved) : Type 0 where
  pub outlines : map sense_outline ss ≡ outlines t f
  pub senses : (e : Env) → Holds entries e → AreSenses e ss (meanings t f)

-- the first tree of a forest
abbrev pub IsTree : Table → List Entry → Forest Resolved → Sense → Type 0
IsTree t entries nothing s = ⊥
IsTree t entries (more n text place parts next) s = AreTrees t entries (s ∷ []) (more n text place parts nothing)
