-- Which generics an instance leaves out, and what is named then.
use Rattle.std.specs.Prelude.{◌≡◌, Bool, List, None, Option, Some, [], drop, if◌then◌else◌, is_some, length, true, ℕ, ◌++◌, ◌||◌, ◌∷◌}
use Rattle.std.specs.List.{list_any}
use Rattle.vd_meaning.specs.Tables.{same_type}
use Rattle.vd_port_facts.specs.declared.actuals.ListedActual.{ListedActual}
use Rattle.vd_value_rules.specs.Designs.{is_listed}

-- whether the first actual that names a generic is `open`
abbrev pub open_for : List ListedActual → ℕ → Option Bool
open_for [] d = None
open_for (a ∷ as') d = if same_type a.formal (Some d) then Some a.is_open else open_for as' d

-- whether the first actual stands for no place
abbrev pub is_no_placed : List ListedActual → Bool
is_no_placed [] = true
is_no_placed (a ∷ as') = is_some a.formal || a.is_open

-- an actual that names the generic counts before one at its place
abbrev pub left_out : Option Bool → Bool → Bool
left_out None is_placed_out = is_placed_out
left_out (Some is_open) is_placed_out = is_open

-- which of the generics that are declared together are left out, where these actuals stand at their places and behind them
abbrev pub lefts : List ListedActual → List ListedActual → List ℕ → List ℕ
lefts as' rest [] = []
lefts as' rest (d ∷ ds) = if left_out (open_for as' d) (is_no_placed rest) then d ∷ lefts as' (drop 1 rest) ds else lefts as' (drop 1 rest) ds

abbrev pub with_left : Bool → List ℕ → ℕ → List ℕ
with_left is_left found d = if is_left then found ++ d ∷ [] else found

abbrev pub all_lefts : List ListedActual → List ListedActual → List (List ℕ) → List (List ℕ)
all_lefts as' rest [] = []
all_lefts as' rest (ds ∷ dss) = lefts as' rest ds ∷ all_lefts as' (drop (length ds) rest) dss

-- whether one of them is named
abbrev pub any_named : List ℕ → List ℕ → Bool
any_named named ds = list_any (λ d. is_listed d named) ds

abbrev pub with_names : Bool → List ℕ → List ℕ → List ℕ
with_names takes names named = if takes then names ++ named else named

-- what is named with the defaults of those that are left out, from the last on
abbrev pub needed_by : List (List ℕ) → List (List ℕ) → List ℕ → List ℕ
needed_by (ds ∷ dss) (names ∷ rest) named = with_names (any_named (needed_by dss rest named) ds) names (needed_by dss rest named)
needed_by _ _ named = named

-- whether those of a list are marked, and no others
pub record AreMarks (marked : ℕ → Bool) (ns : List ℕ) : Type 0 where
  pub are : (k : ℕ) → marked k ≡ is_listed k ns
