-- Expressions whose value doesn't depend on the place where they stand. (IEEE 1076, names; operators; function calls; expressions in brackets.)
use Rattle.std.specs.Prelude.{◌≡◌, ℕ, List, [], ◌∷◌, Ok}
use Rattle.vd_resolved.specs.declared.node.Resolved.{Resolved}
use Rattle.vd_environments.specs.Environments.{Env}
use Rattle.vd_meaning.specs.Tables.{Table, ElementRole, MarkRole, role_of}
use Rattle.vd_meaning.specs.Names.{Named, first_piece, unless_stopped}
use Rattle.vd_meaning.specs.Facets.{Meaning, nth, from, targets_of}
use Rattle.vd_meaning.specs.Kinds
use Rattle.vd_meaning.specs.Meanings.{named_by, meaning_of}
use Rattle.vd_meaning_laws.specs.Conversions.{IsPlain}

-- A name that is locally static has a value: its evaluation doesn't stop.
abbrev pub IsSettled : Named → Type 0
IsSettled p = (e : Env) → unless_stopped (p.value e) (p.known e) ≡ p.known e

-- The first piece of a name is settled unless it is a type, and so is what any further piece makes that stands for a value: a list in brackets, a
-- qualification, an element of a record.
pub record PiecesAreSettled : Type 0 where
  pub first : (t : Table) (n : Resolved) → (role_of t n.declaration ≡ MarkRole → ⊥) → IsSettled (first_piece t n)
  pub arguments : (t : Table) (n : Resolved) (text : List ℕ) (ms : List Meaning) (p : Named) → IsSettled ((meaning_of Kinds.ArgumentsPiece t n text ms).piece p)
  pub qualification : (t : Table) (n : Resolved) (text : List ℕ) (ms : List Meaning) (p : Named) → IsSettled ((meaning_of Kinds.QualificationPiece t n text ms).piece p)
  pub element : (t : Table) (n : Resolved) (text : List ℕ) (ms : List Meaning) (p : Named) → role_of t n.declaration ≡ ElementRole
      → IsSettled ((meaning_of Kinds.SelectionPiece t n text ms).piece p)

-- Names that are settled are plain, and so are string literals and operators whose parts drive nothing, and a plain expression in brackets.
pub record ExpressionsArePlain : Type 0 where
  pub names : (t : Table) (n : Resolved) (text : List ℕ) (ms : List Meaning) → IsSettled (named_by (nth 0 ms).name (from 1 ms)) → IsPlain (meaning_of Kinds.WholeName t n text ms)
  pub strings : (t : Table) (n : Resolved) (text : List ℕ) (ms : List Meaning) → ((e : Env) → targets_of ms e ≡ Ok []) → IsPlain (meaning_of Kinds.StringLiteral t n text ms)
  pub operators : (t : Table) (n : Resolved) (text : List ℕ) (ms : List Meaning) → ((e : Env) → targets_of ms e ≡ Ok []) → IsPlain (meaning_of Kinds.Operator t n text ms)
  pub brackets : (t : Table) (n : Resolved) (text : List ℕ) (m : Meaning) → IsPlain m → IsPlain (meaning_of Kinds.Brackets t n text (m ∷ []))
