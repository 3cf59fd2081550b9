-- Runs of regions: each but the first stands in the one before it and continues none, as where units nest behind references to contexts. What
-- declares nothing under a name can be left out on the way outwards.
use Rattle.std.specs.Prelude.{◌≡◌, ◌⊎◌, ◌≤◌, ◌<◌, ℕ, suc, ◌&&◌, not, nat_lt, List, [], ◌∷◌, map, length, Option, None, false, if◌then◌else◌, slice_index_or}
use Rattle.vd_regions.specs.declared.entries.Space.{Space}
use Rattle.vd_regions.specs.Scopes.{Scopes, Region, no_region, chain}
use Rattle.vd_regions.specs.Found.{round, direct_from}
use Rattle.vd_regions.specs.Links.{region_of}

-- it stands in that region and continues none
pub record IsBehind (r : Region) (before : ℕ) : Type 0 where
  pub inside : r.outer ≡ before
  pub single : r.continues ≡ None

pub record IsRun (rs : List Region) (first last : ℕ) : Type 0 where
  pub within : first ≤ last
  pub behind : (r : ℕ) → first ≤ r → r < last → IsBehind (slice_index_or rs (suc r) no_region) r

-- ---- as code keeps them: with each region where its run begins

abbrev pub no_space : Space
no_space = record { outer = 0; continues = None; closed = false; uses = []; run = 0 }

abbrev pub run_at : List Space → ℕ → ℕ
run_at spaces r = (slice_index_or spaces r no_space).run

abbrev pub AreRuns : List Space → Type 0
AreRuns spaces = (r : ℕ) → r < length spaces → IsRun (map region_of spaces) (run_at spaces r) r

-- where the run of a new region may begin
abbrev pub BeginsAt : List Space → ℕ → Option ℕ → ℕ → Type 0
BeginsAt spaces outer continues run = (run ≡ length spaces) ⊎ ((suc outer ≡ length spaces) × (continues ≡ None) × (run ≡ run_at spaces outer))

-- ---- on the way outwards

-- the greatest of some numbers between two, or the first of the two
abbrev pub nearer : (to from home : ℕ) → ℕ
nearer to from home = if nat_lt from home && not (nat_lt to home) then home else from

abbrev pub nearest : (to from : ℕ) → List ℕ → ℕ
nearest to from [] = from
nearest to from (h ∷ hs) = nearest to (nearer to from h) hs

-- the regions round one declare the same under a name as those round the other
pub record SeesAs (s : Scopes) (name : List ℕ) (region other : ℕ) : Type 0 where
  pub direct : (inner : List ℕ) → direct_from s name inner (chain s region) ≡ direct_from s name inner (chain s other)
  pub around : round s name (chain s region) ≡ round s name (chain s other)
