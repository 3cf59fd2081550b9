-- What is known in front of a place, as tables have it: one entry for a number, and no number past the greatest one of 64 bits.
use Rattle.std.specs.Prelude.{ℕ, ◌+◌, List, [], ◌∷◌, Option, Some, None, nat_eq}
use Rattle.std.specs.Map.{lookup}
use Rattle.std.specs.Option.{unwrap_or}
use Rattle.indexmap.specs.IndexMap.{insert_entry}
use Rattle.vd_weighing.specs.Weights.{Known}
use Rattle.vd_weighing.specs.Limits.{at_most}

-- ---- one table

-- what stands for a number, which may be none
abbrev pub found : Option ℕ → List (ℕ × ℕ) → Option ℕ
found None es = None
found (Some k) es = lookup (nat_eq k) es

-- 0 where nothing stands for the number
abbrev pub sum_found : Option ℕ → List (ℕ × ℕ) → ℕ
sum_found k es = unwrap_or (found k es) 0

-- a number in the place of what stands there
abbrev pub with_entry : List (ℕ × ℕ) → ℕ → ℕ → List (ℕ × ℕ)
with_entry es k n = insert_entry nat_eq es k n

-- a number added to what stands there
abbrev pub with_more : List (ℕ × ℕ) → ℕ → ℕ → List (ℕ × ℕ)
with_more es k n = with_entry es k (at_most (sum_found (Some k) es + n))

-- the same number for each of several
abbrev pub with_each : List (ℕ × ℕ) → List ℕ → ℕ → List (ℕ × ℕ)
with_each es [] n = es
with_each es (k ∷ ks) n = with_each (with_entry es k n) ks n

-- ---- copies: what stands for old numbers, for new ones

abbrev pub copy_for : ℕ → Option ℕ → List (ℕ × ℕ) → List (ℕ × ℕ)
copy_for new None rest = rest
copy_for new (Some n) rest = (new, n) ∷ rest

abbrev pub copies : (olds news : List ℕ) → List (ℕ × ℕ) → List (ℕ × ℕ)
copies (old ∷ olds) (new ∷ news) es = copy_for new (lookup (nat_eq old) es) (copies olds news es)
copies _ _ es = []

-- with other entries, of which the first for a number counts
abbrev pub with_entries : List (ℕ × ℕ) → List (ℕ × ℕ) → List (ℕ × ℕ)
with_entries es [] = es
with_entries es (x ∷ xs) = with_entry (with_entries es xs) x.0 x.1

-- with other entries added to what stands there
abbrev pub with_sums : List (ℕ × ℕ) → List (ℕ × ℕ) → List (ℕ × ℕ)
with_sums es [] = es
with_sums es (x ∷ xs) = with_more (with_sums es xs) x.0 x.1

-- ---- all tables

abbrev pub with_sum : Option ℕ → ℕ → Known → Known
with_sum None n k = k
with_sum (Some d) n k = record k { generics = with_more k.generics d n }

abbrev pub with_elements : Option ℕ → ℕ → Known → Known
with_elements None n k = k
with_elements (Some d) n k = record k { views = with_entry k.views d n }

abbrev pub with_ports : List ℕ → ℕ → Known → Known
with_ports ds n k = record k { views = with_each k.views ds n }

abbrev pub with_instance : Option ℕ → (olds news : List ℕ) → Known → Known
with_instance generic olds news k =
    record {
      generics = with_sums k.generics (copies olds news k.generics);
      views = with_entries k.views (copies olds news k.views);
      instances = generic ∷ k.instances;
    }

abbrev pub sums_found : List (Option ℕ) → List (ℕ × ℕ) → ℕ
sums_found [] es = 0
sums_found (d ∷ ds) es = sum_found d es + sums_found ds es
