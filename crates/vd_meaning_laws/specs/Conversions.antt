-- Conversions round expressions. (IEEE 1076, type conversions.)
use Rattle.std.specs.Prelude.{◌≡◌, ℕ, true, false, [], ◌∷◌, Some, Ok}
use Rattle.vd_values.specs.declared.scalar.Scalar.{Scalar}
use Rattle.vd_composites.specs.Composites.{Items, none, item}
use Rattle.vd_composites.specs.Subtypes.{Subtype, HasSubtype}
use Rattle.vd_resolved.specs.declared.node.Resolved.{Resolved}
use Rattle.vd_environments.specs.Got.{Got}
use Rattle.vd_environments.specs.Environments.{always, all_bounds, Env, unknown}
use Rattle.vd_environments.specs.Commands.{Command}
use Rattle.vd_meaning.specs.Tables.{Table, MarkRole, role_of}
use Rattle.vd_meaning.specs.Names.{unless_stopped}
use Rattle.vd_meaning.specs.Facets.{Meaning, Positional, Waveform, at_once}
use Rattle.vd_meaning.specs.Brackets.{is_between_vectors}
use Rattle.vd_meaning.specs.Kinds
use Rattle.vd_meaning.specs.Meanings.{meaning_of}
use Rattle.vd_meaning_laws.specs.Agreement.{Link, Keeps}

-- what `mark(expression)` means: a name whose pieces are a mark and one argument
abbrev pub conversion_round : Table → (mark brackets whole : Resolved) → Meaning → Meaning
conversion_round t mark brackets whole m =
    meaning_of Kinds.WholeName t whole [] (meaning_of Kinds.Word t mark [] [] ∷ meaning_of Kinds.ArgumentsPiece t brackets [] (m ∷ []) ∷ [])

-- the nodes of a conversion to the type of a declaration
pub record IsConversion (t : Table) (mark brackets : Resolved) (d : ℕ) : Type 0 where
  pub named : mark.declaration ≡ Some d
  pub again : brackets.declaration ≡ Some d
  pub role : role_of t (Some d) ≡ MarkRole

-- An expression whose value doesn't depend on the place where it stands: a name, a call, an operator. It stands alone, or as a waveform.
pub record IsPlain (m : Meaning) : Type 0 where
  pub there : m.is_present ≡ true
  pub value : (known : Got Subtype) → m.value known ≡ m.value unknown
  pub chosen : (act : Waveform → Command) → m.chosen act ≡ act (at_once m.value)
  pub association : m.association ≡ Positional
  pub choices : m.choices ≡ []
  pub is_open : m.is_open ≡ false
  pub targets : (e : Env) → m.targets e ≡ Ok []
  pub known : (e : Env) → unless_stopped (m.value unknown e) (m.known e) ≡ m.known e

-- between the two vector types, of which the one that it is to has no bounds of its own that are computed
pub record IsBetweenVectors (l : Link) (d : ℕ) (m : Meaning) : Type 0 where
  pub both : is_between_vectors (Some d) m.mark ≡ true
  pub bounds : (e : Env) → Keeps l e → all_bounds (e.denotes d).make ≡ always

-- each element is a value of this subtype
abbrev pub AreOf : Subtype → Items Scalar → Type 0
AreOf s none = Unit {0}
AreOf s (item v vs) = HasSubtype s v × AreOf s vs
