-- Paths and rows that are written by hand, and which of them join. (The format of the map.)
use Rattle.std.specs.Prelude.{◌≡◌, ℕ, pos, ℤ, Bool, true, false, List, [], ◌∷◌, ◌++◌, map, Some, None, codes}
use Rattle.std.specs.Fmt.{signed_decimal}
use Rattle.vd_trees.specs.declared.paths.PathIndex.{PathIndex}
use Rattle.vd_trees.specs.declared.paths.PathStep.{PathStep}
use Rattle.vd_trees.specs.declared.paths.PathStep.TheVariants.{Field, Index}
use Rattle.vd_trees.specs.declared.paths.Label.{Label}
use Rattle.vd_trees.specs.declared.paths.Level.{Level}
use Rattle.vd_trees.specs.declared.paths.Path.{Path}
use Rattle.vd_trees.specs.declared.paths.Scope.{Scope}
use Rattle.vd_trees.specs.declared.rows.Row.{Row}
use Rattle.vd_trees.specs.declared.rows.RowKind.{RowKind}
use Rattle.vd_trees.specs.declared.rows.RowKind.TheVariants as kinds
use Rattle.vd_first_names.specs.Maps.{map_text_of}
use Rattle.vd_joins.specs.Joins.{map_of, joins, scopes_join}

-- ---- pieces

abbrev pub at : ℤ → PathIndex
at i = record { position = i; text = signed_decimal i }

abbrev pub label : List ℕ → Label
label name = record { name = name; index = None }

-- a label of a `for` generate
abbrev pub label_at : List ℕ → ℤ → Label
label_at name i = record { name = name; index = Some (at i) }

abbrev pub level : List Label → List ℕ → List ℕ → Level
level labels entity architecture = record { labels = labels; entity = entity; architecture = architecture }

abbrev pub path : List Level → List Label → List ℕ → List PathStep → Path
path levels generates object rest = record { levels = levels; generates = generates; object = object; rest = rest }

abbrev pub scope : List Level → List Label → Scope
scope levels generates = record { levels = levels; generates = generates; unit = [] }

abbrev pub packaged : List ℕ → Scope
packaged name = record { levels = []; generates = []; unit = name }

abbrev pub row : RowKind → List ℕ → List ℕ → List ℕ → List ℕ → List ℕ → Row
row kind unit name19 name93 mark mode = record { kind = kind; unit = unit; name19 = name19; name93 = name93; mark = mark; mode = mode; range = [] }

-- which of the first paths join which of the second
abbrev pub table : List Row → List Path → List Path → List (List Bool)
table rows ps qs = map (λ (p : Path). map (joins (map_of rows) p) qs) ps

-- ---- elements of a view: port p, with elements a, b and sub, which has an element c; and a port p_a

abbrev pub view_rows : List Row
view_rows =
    row kinds.Port (codes "ma") (codes "p_a") (codes "p_a") (codes "std_ulogic") (codes "in")
    ∷ row kinds.Port (codes "ma") (codes "p.a") (codes "p_a_2") (codes "std_ulogic") (codes "in")
    ∷ row kinds.Port (codes "ma") (codes "p.b") (codes "p_b") (codes "std_ulogic") (codes "out")
    ∷ row kinds.Port (codes "ma") (codes "p.sub.c") (codes "p_sub_c") (codes "std_ulogic") (codes "in")
    ∷ []

abbrev pub in_ma : List ℕ → List PathStep → Path
in_ma object rest = path (level [] (codes "ma") (codes "rtl") ∷ []) [] object rest

abbrev pub view_paths : List Path
view_paths =
    in_ma (codes "p_a") [] ∷ in_ma (codes "p") (Field (codes "a") ∷ []) ∷ in_ma (codes "p") (Field (codes "b") ∷ [])
    ∷ in_ma (codes "p") (Field (codes "sub") ∷ Field (codes "c") ∷ []) ∷ []

abbrev pub split_paths : List Path
split_paths = in_ma (codes "p_a") [] ∷ in_ma (codes "p_a_2") [] ∷ in_ma (codes "p_b") [] ∷ in_ma (codes "p_sub_c") [] ∷ []

-- ---- an array port of an instance, inside a generate with an index

abbrev pub port_rows : List Row
port_rows =
    row kinds.Port (codes "child") (codes "q") (codes "q") (codes "std_ulogic_vector") (codes "out")
    ∷ row kinds.Signal (codes "t(s)") (codes "s") (codes "s") (codes "std_logic_vector") []
    ∷ row kinds.Signal (codes "t(s)") (codes "g.v") (codes "g.v_2") (codes "bit") []
    ∷ row kinds.Label (codes "t(s)") (codes "g") (codes "g") [] []
    ∷ row kinds.Label (codes "t(s)") (codes "g.u") (codes "g.u") [] []
    ∷ []

abbrev pub top : Level
top = level [] (codes "t") (codes "s")

-- element i of q in the instance g(k).u
abbrev pub in_child : ℤ → ℤ → Path
in_child k i = path (top ∷ level (label_at (codes "g") k ∷ label (codes "u") ∷ []) (codes "child") (codes "rtl") ∷ []) [] (codes "q") (Index (at i) ∷ [])

-- an object inside g(k)
abbrev pub in_g : ℤ → List ℕ → Path
in_g k object = path (top ∷ []) (label_at (codes "g") k ∷ []) object []

-- ---- an implicit signal, and the second alternative of a generate

abbrev pub signal_rows : List Row
signal_rows =
    row kinds.Implicit (codes "t(s)") (codes "u'x") (codes "u_x") (codes "std_ulogic") []
    ∷ row kinds.Signal (codes "t(s)") (codes "g.v") (codes "g_2.v") (codes "bit") []
    ∷ row kinds.Port (codes "k") (codes "x") (codes "x") (codes "std_ulogic") (codes "in")
    ∷ row kinds.Label (codes "t(s)") (codes "g") (codes "g") [] []
    ∷ row kinds.Label (codes "t(s)") (codes "g") (codes "g_2") [] []
    ∷ row kinds.Label (codes "t(s)") (codes "g.w") (codes "g_2.w") [] []
    ∷ []

abbrev pub in_top : List Label → List ℕ → Path
in_top generates object = path (top ∷ []) generates object []

-- the port x of the instance w inside a generate
abbrev pub in_w : List ℕ → List ℕ → Path
in_w g architecture = path (top ∷ level (label g ∷ label (codes "w") ∷ []) (codes "k") architecture ∷ []) [] (codes "x") []

pub record Paths : Type 0 where
  -- each element of the view joins its port, and no other one
  pub view : table view_rows view_paths split_paths
      ≡ (true ∷ false ∷ false ∷ false ∷ []) ∷ (false ∷ true ∷ false ∷ false ∷ []) ∷ (false ∷ false ∷ true ∷ false ∷ []) ∷ (false ∷ false ∷ false ∷ true ∷ []) ∷ []
  -- an array port joins element by element
  pub elements : joins (map_of port_rows) (in_child (pos 0) (pos 1)) (in_child (pos 0) (pos 1)) ≡ true
  pub other_element : joins (map_of port_rows) (in_child (pos 0) (pos 1)) (in_child (pos 0) (pos 0)) ≡ false
  -- and not through another index of a generate
  pub other_index : joins (map_of port_rows) (in_child (pos 0) (pos 1)) (in_child (pos 1) (pos 1)) ≡ false
  pub inside : joins (map_of port_rows) (in_g (pos 3) (codes "v")) (in_g (pos 3) (codes "v_2")) ≡ true
  pub inside_other : joins (map_of port_rows) (in_g (pos 3) (codes "v")) (in_g (pos 2) (codes "v_2")) ≡ false
  -- an implicit signal joins the signal that is written for it
  pub implicit : joins (map_of signal_rows) (in_top [] (codes "u'x")) (in_top [] (codes "u_x")) ≡ true
  -- the second alternative of a generate has a label of its own
  pub alternative : joins (map_of signal_rows) (in_top (label (codes "g") ∷ []) (codes "v")) (in_top (label (codes "g_2") ∷ []) (codes "v")) ≡ true
  pub first_alternative : joins (map_of signal_rows) (in_top (label (codes "g") ∷ []) (codes "v")) (in_top (label (codes "g") ∷ []) (codes "v")) ≡ false
  -- and so have the instances inside it
  pub instance : joins (map_of signal_rows) (in_w (codes "g") (codes "rtl")) (in_w (codes "g_2") (codes "rtl")) ≡ true
  pub first_instance : joins (map_of signal_rows) (in_w (codes "g") (codes "rtl")) (in_w (codes "g") (codes "rtl")) ≡ false
  -- not with another architecture
  pub other_architecture : joins (map_of signal_rows) (in_w (codes "g") (codes "rtl")) (in_w (codes "g_2") (codes "other")) ≡ false
  -- a path without a row joins nothing
  pub no_row : joins (map_of signal_rows) (in_top [] (codes "a")) (in_top [] (codes "a")) ≡ false
  -- scopes join by their labels, packages by their names
  pub scopes : scopes_join (map_of signal_rows) (scope (top ∷ []) (label (codes "g") ∷ [])) (scope (top ∷ []) (label (codes "g_2") ∷ [])) ≡ true
  pub other_scopes : scopes_join (map_of signal_rows) (scope (top ∷ []) (label (codes "g") ∷ [])) (scope (top ∷ []) []) ≡ false
  pub packages : scopes_join (map_of signal_rows) (packaged (codes "p")) (packaged (codes "p")) ≡ true
  pub other_packages : scopes_join (map_of signal_rows) (packaged (codes "p")) (packaged (codes "q")) ≡ false
  -- the text of a map
  pub text : map_text_of (row kinds.Port (codes "ma") (codes "p.a") (codes "p_a_2") (codes "std_ulogic") (codes "in") ∷ row kinds.Implicit (codes "t(s)") (codes "u'x") (codes "u_x") (codes "std_ulogic") [] ∷ [])
      ≡ codes "{\"format\":1,\"rows\":[[\"port\",\"ma\",\"p.a\",\"p_a_2\",\"std_ulogic\",\"in\"],[\"implicit\",\"t(s)\",\"u'x\",\"u_x\",\"std_ulogic\",\"\"]]}" ++ 10 ∷ []
