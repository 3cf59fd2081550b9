-- Calls of the functions of the support package: their texts as trees, run by what trees mean. (IEEE 1076, function calls.)
use Rattle.std.specs.Prelude.{◌≡◌, ℕ, suc, ◌-◌, ◌==◌, ℤ, pos, negsuc, true, false, List, [], ◌∷◌, ◌++◌, map, None, Ok, Err, codes, if◌then◌else◌}
use Rattle.vd_trees.specs.declared.revision.Revision.TheVariants.{V1993}
use Rattle.vd_values.specs.declared.scalar.Scalar.{Scalar}
use Rattle.vd_values.specs.declared.scalar.Scalar.TheVariants.{Literal, Integer}
use Rattle.vd_values.specs.declared.scalar.StopKind.{StopKind}
use Rattle.vd_composites.specs.declared.ranges.Bounds.{Bounds}
use Rattle.vd_composites.specs.Stops.{OrStop, ◌>>=◌}
use Rattle.vd_composites.specs.Composites.{Value, One, Array}
use Rattle.vd_composites.specs.Vectors.{literals}
use Rattle.vd_operators.specs.declared.op.Op.{Op}
use Rattle.vd_operators.specs.Applied.{applied}
use Rattle.vd_operators.specs.Support.{characters}
use Rattle.vd_forest.specs.Forest.{Forest, nothing, more}
use Rattle.vd_resolved.specs.declared.node.Resolved.{Resolved}
use Rattle.vd_predefined.specs.Given.{given_scopes}
use Rattle.vd_environments.specs.Got.{Got, got}
use Rattle.vd_environments.specs.Environments.{Env}
use Rattle.vd_environments.specs.Processes.{declared}
use Rattle.vd_meaning.specs.Tables.{Table, table}
use Rattle.vd_meaning.specs.Facets.{nth}
use Rattle.vd_meaning.specs.Meanings.{meanings}
use Rattle.vd_meaning.specs.Operators.{function_of}
use Rattle.vd_meaning.specs.Names.{number_or}
use Rattle.vd_meaning.specs.Given.{given_env}
use Rattle.vd_support_facts.specs.Declarations.{declarations}

-- ---- calls

abbrev pub support_table : Table
support_table = table V1993 (map (λ x. x.declaration) (given_scopes V1993).entered ++ declarations)

-- where some functions are declared
abbrev pub after : List (Forest Resolved) → Got Env
after bodies =
    declared (map (λ b. (nth 0 (meanings support_table b)).command None) bodies) (given_env (λ _. Literal 0))

-- the declaration that a body carries, and that of the last of some
abbrev pub declared_by : Forest Resolved → ℕ
declared_by nothing = 0
declared_by (more n text place parts next) = number_or n.declaration

abbrev pub last_declared : List (Forest Resolved) → ℕ
last_declared [] = 0
last_declared (b ∷ []) = declared_by b
last_declared (b ∷ c ∷ cs) = last_declared (c ∷ cs)

-- a call of the last one, where the others are declared before it
abbrev pub called : List (Forest Resolved) → List (Value Scalar) → Got (Value Scalar)
called bodies vs = after bodies >>= λ e. function_of support_table (last_declared bodies) e (map (λ v known. Ok v) vs)

-- ---- arguments

-- bounds from one number to another, and back
abbrev pub upto : ℕ → ℕ → Bounds
upto l r = record { left = pos l; right = pos r; down = false }

abbrev pub downto : ℕ → ℕ → Bounds
downto l r = record { left = pos l; right = pos r; down = true }

-- 0 to -1, and the bounds of an empty array whose left bound is the least INTEGER: no INTEGER is one less
abbrev pub nothing_from_zero : Bounds
nothing_from_zero = record { left = pos 0; right = negsuc 0; down = false }

abbrev pub nothing_at_the_least : Bounds
nothing_at_the_least = record { left = negsuc 2147483646; right = negsuc 2147483647; down = false }

-- the place of a character in a list
abbrev pub place_in : List ℕ → ℕ → ℕ
place_in [] c = 0
place_in (d ∷ ds) c = if d == c then 0 else suc (place_in ds c)

-- values of STD_ULOGIC and BIT by their characters, and arrays of them by their bounds and the characters of their elements
abbrev pub logic : List ℕ → Value Scalar
logic [] = One (Literal 0)
logic (c ∷ cs) = One (Literal (place_in characters c))

abbrev pub logics : Bounds → List ℕ → Value Scalar
logics b cs = Array b (literals (map (place_in characters) cs))

abbrev pub bit : List ℕ → Value Scalar
bit [] = One (Literal 0)
bit (c ∷ cs) = One (Literal (c - 48))

abbrev pub bits : Bounds → List ℕ → Value Scalar
bits b cs = Array b (literals (map (λ c. c - 48) cs))

abbrev pub string : Bounds → List ℕ → Value Scalar
string b cs = Array b (literals cs)

abbrev pub yes : Value Scalar
yes = One (Literal 1)

abbrev pub no : Value Scalar
no = One (Literal 0)

abbrev pub integer : ℤ → Value Scalar
integer i = One (Integer i)

-- ---- cases: arguments, and what is given for them

pub record Case : Type 0 where
  pub arguments : List (Value Scalar)
  pub given : OrStop (Value Scalar)

abbrev pub gives : List (Value Scalar) → Value Scalar → Case
gives vs v = record { arguments = vs; given = Ok v }

abbrev pub stops : List (Value Scalar) → StopKind → Case
stops vs k = record { arguments = vs; given = Err k }

-- a function of one value of STD_ULOGIC: what it gives for each, in the order of the type
abbrev pub for_each : List ℕ → List (Value Scalar) → List Case
for_each (c ∷ cs) (v ∷ vs) = gives (logic (c ∷ []) ∷ []) v ∷ for_each cs vs
for_each _ _ = []

-- and of two: a row for each left value, with a column for each right one
abbrev pub row_of : ℕ → List ℕ → List ℕ → List Case
row_of l (r ∷ rs) (v ∷ vs) = gives (logic (l ∷ []) ∷ logic (r ∷ []) ∷ []) (logic (v ∷ [])) ∷ row_of l rs vs
row_of l _ _ = []

abbrev pub rows_of : List ℕ → List (List ℕ) → List Case
rows_of (l ∷ ls) (vs ∷ vss) = row_of l characters vs ++ rows_of ls vss
rows_of _ _ = []

-- of two values of BIT: for '0' and '0', '0' and '1', '1' and '0', '1' and '1'
abbrev pub for_bits : List ℕ → List Case
for_bits (a ∷ b ∷ c ∷ d ∷ []) =
    gives (bit (codes "0") ∷ bit (codes "0") ∷ []) (bit (a ∷ [])) ∷ gives (bit (codes "0") ∷ bit (codes "1") ∷ []) (bit (b ∷ []))
    ∷ gives (bit (codes "1") ∷ bit (codes "0") ∷ []) (bit (c ∷ [])) ∷ gives (bit (codes "1") ∷ bit (codes "1") ∷ []) (bit (d ∷ [])) ∷ []
for_bits _ = []

abbrev pub results : List Case → List (Got (Value Scalar))
results cs = map (λ c. got c.given) cs

-- what the text of a function gives, and what an operator gives
abbrev pub of_text : List (Forest Resolved) → List Case → List (Got (Value Scalar))
of_text bodies cs = map (λ c. called bodies c.arguments) cs

abbrev pub of_operator : Op → List Case → List (Got (Value Scalar))
of_operator op cs = map (λ c. got (applied op c.arguments)) cs

-- both give what is said
pub record Agree (bodies : List (Forest Resolved)) (op : Op) (cs : List Case) : Type 0 where
  pub text : of_text bodies cs ≡ results cs
  pub operator : of_operator op cs ≡ results cs
