-- Names with numbers behind them, sought one by one. No name has a dash, so that a caller can name each in `#[tactic(auto, using(..))]`.
use Rattle.std.proofs.Common.{◌≡◌, ◌≤◌, ◌<◌, ◌⊎◌, inl, inr, ℕ, ◌+◌, List, true, false, sym, subst, arith}
use Rattle.std.proofs.lemmas.Bool.{cases_lt}
use Rattle.vd_region_tables.specs.declared.keys.Name.{Name}
use Rattle.vd_names.specs.declared.fresh.Fresh.{Fresh}
use Rattle.vd_names.specs.declared.used.Used.{Used}
use Rattle.vd_names.specs.Names.{AreUsed, IsFresh, IsUsedAt, is_used, numbered}

pub none_sought : (used : Used) (wanted : List ℕ) (first : ℕ) → AreUsed used wanted first first
none_sought used wanted first = record { each = λ k from below. absurd (omega (arith, from, below)) }

pub one_sought : (used : Used) (wanted : List ℕ) (first n : ℕ) (name : Name) → AreUsed used wanted first n → name.bytes.items ≡ numbered wanted n → is_used used name ≡ true
    → AreUsed used wanted first (n + 1)
one_sought used wanted first n name before is taken = record {
  each = λ k from below. either k from below (cases_lt k n);
}
  where
    either : (k : ℕ) → first ≤ k → k < n + 1 → (k < n) ⊎ (n ≤ k) → IsUsedAt used wanted k
    either k from below (inl less) = before.each k from less
    either k from below (inr least) = let same : n ≡ k = omega (arith, below, least) in subst (IsUsedAt used wanted) same (record { name = name; is = is; used_already = taken })

pub found_fresh : (used : Used) (wanted : List ℕ) (first : ℕ) (made : Fresh) → first ≤ made.number → made.name.bytes.items ≡ numbered wanted made.number → is_used used made.name ≡ false
    → AreUsed used wanted first made.number → IsFresh used wanted first made
found_fresh used wanted first made from is free before = record {
  from = from;
  is = is;
  free = free;
  least = before;
}

pub ruleset seeking = (none_sought, one_sought, found_fresh)
