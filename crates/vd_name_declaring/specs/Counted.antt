-- How often elements are given, as it is counted.
use Rattle.std.specs.Prelude.{◌≡◌, ℕ, ◌+◌, ◌==◌, nat_lt, Bool, ◌&&◌, ◌||◌, List, Option, nat_eq}
use Rattle.std.specs.Option.{unwrap_or}
use Rattle.std.specs.declared.hash.FoldHasher.{FoldHasher}
use Rattle.std.specs.declared.hash.BuildHasherDefault.{BuildHasherDefault}
use Rattle.std.specs.HashMap.{HashMap, get}
use Rattle.std.specs.List.{list_all}
use Rattle.vd_naming.specs.Paths.{is_some}
use Rattle.vd_naming.specs.Views.{times_given}
use Rattle.vd_name_declaring.specs.declared.given.Given.{Given}

abbrev pub count_of : HashMap ℕ ℕ (BuildHasherDefault FoldHasher) → ℕ → ℕ
count_of times k = unwrap_or (get nat_eq times k) 0

-- given several times, or never where all that are given are known
abbrev pub is_counted_ill : Given → ℕ → Bool
is_counted_ill g k = nat_lt 1 (count_of g.times k) || ((count_of g.times k == 0) && g.all_known)

-- these are counted beside those that were
pub record AreAdded (old new : Given) (given : List (Option ℕ)) : Type 0 where
  pub times : (k : ℕ) → count_of new.times k ≡ count_of old.times k + times_given given k
  pub known : new.all_known ≡ (old.all_known && list_all is_some given)

-- these are counted, and nothing else
pub record AreGiven (g : Given) (given : List (Option ℕ)) : Type 0 where
  pub times : (k : ℕ) → count_of g.times k ≡ times_given given k
  pub known : g.all_known ≡ list_all is_some given
