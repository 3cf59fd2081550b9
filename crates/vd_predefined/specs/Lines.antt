-- The lines of the tables of what is given.
use Rattle.std.specs.Prelude.{ℕ, List, [], ◌∷◌, ◌++◌, Option, Some, None}
use Rattle.vd_predefined.specs.declared.operators.Group.{Group}
use Rattle.vd_predefined.specs.declared.operators.Operand.{Operand}
use Rattle.vd_predefined.specs.declared.operators.Outcome.{Outcome}
use Rattle.vd_predefined.specs.declared.rows.Origin.{Origin}
use Rattle.vd_predefined.specs.declared.rows.Revisions.{Revisions}

-- an operator, by its symbol with its quotation marks
pub record OperatorLine : Type 0 where
  pub name : List ℕ
  pub left : Operand
  pub right : Option Operand
  pub result : Outcome

-- between quotation marks (34)
abbrev pub quoted : List ℕ → List ℕ
quoted name = 34 ∷ (name ++ 34 ∷ [])

-- with one operand, and with two
abbrev pub one : List ℕ → Operand → Outcome → OperatorLine
one symbol left result = record { name = quoted symbol; left = left; right = None; result = result }

abbrev pub two : List ℕ → Operand → Operand → Outcome → OperatorLine
two symbol left right result = record { name = quoted symbol; left = left; right = Some right; result = result }

-- What a line declares. An operator or a function is brought by a type, or declared by the package. Types are named by the numbers of their declarations.
--   enumeration: an enumeration type, and its literals
--   physical: a physical type, and its units
--   subtype: a subtype, the type or subtype that its mark names, and the type of that
--   array: an array type with an index of type INTEGER, the type of its elements, and the type or subtype that their mark names
--   operators: operators of some groups, for a type, with the type of its elements where it is an array type
--   function: a function with one parameter, the type of the parameter, and the type of the result
pub data GivenLine : Type 0 where
  enumeration : (name : List ℕ) → (literals : List (List ℕ)) → GivenLine
  integer : (name : List ℕ) → GivenLine
  physical : (name : List ℕ) → (units : List (List ℕ)) → GivenLine
  subtype : (name : List ℕ) → (mark : ℕ) → (base : ℕ) → GivenLine
  array : (name : List ℕ) → (element : ℕ) → (element_mark : ℕ) → GivenLine
  operators : (origin : Origin) → (own : ℕ) → (element : Option ℕ) → (groups : List Group) → GivenLine
  function : (origin : Origin) → (name : List ℕ) → (parameter : List ℕ) → (own : ℕ) → (result : ℕ) → GivenLine

-- a line, and the revisions in which it stands
pub record GivenRow : Type 0 where
  pub revisions : Revisions
  pub line : GivenLine

abbrev pub row : Revisions → GivenLine → GivenRow
row revisions line = record { revisions = revisions; line = line }
