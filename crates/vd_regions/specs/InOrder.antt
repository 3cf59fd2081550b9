-- What a name means at a place, as a list: each declaration once, in the order in which they were entered. Whether a declaration stands
-- there is defined apart from these lists, in Visible.antt.
use Rattle.std.specs.Prelude.{ℕ, ◌==◌, nat_lt, List, [], ◌∷◌, ◌++◌, map, if◌then◌else◌}
use Rattle.vd_regions.specs.Scopes.{Scopes, meant, chain}
use Rattle.vd_regions.specs.Found.{round, direct_from, given, by_use_among, selected_from}

-- a number at its place among numbers that rise, unless it is there
abbrev pub put_once : ℕ → List ℕ → List ℕ
put_once n [] = n ∷ []
put_once n (m ∷ ms) = if n == m then m ∷ ms else (if nat_lt n m then n ∷ (m ∷ ms) else m ∷ put_once n ms)

-- numbers from the least to the greatest, each once
abbrev pub in_order : List ℕ → List ℕ
in_order [] = []
in_order (n ∷ ns) = put_once n (in_order ns)

-- the entries that are visible in a region under a name: directly, and by use
abbrev pub visible_entries : Scopes → (region : ℕ) → (name : List ℕ) → List ℕ
visible_entries s region name =
    direct_from s name [] (chain s region) ++ by_use_among s (round s name (chain s region)) (given s name (chain s region))

-- what is visible in a region under a name
unfoldable pub visible_in : Scopes → (region : ℕ) → (name : List ℕ) → List ℕ
visible_in s region name = in_order (map (meant s) (visible_entries s region name))

-- what a name means at a place behind a prefix
unfoldable pub selected_in_order : Scopes → (place prefix : ℕ) → (name : List ℕ) → List ℕ
selected_in_order s place prefix name = in_order (map (meant s) (selected_from s place prefix name))
