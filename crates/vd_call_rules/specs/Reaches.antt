-- How long chains of calls are. (IEEE 1076, function calls; generic map aspects)
-- A chain is a call, a call in the body of the function that this one calls, and so on. Functions that nobody wrote have no body: a call of a predefined
-- operator, or of what a package of the language declares, counts for nothing. In the text of a function or package with generics a generic function has no
-- body either, and a call of it is the last of its chain: in an instance it is a call of the actual.
use Rattle.std.specs.Prelude.{ℕ, ◌+◌, ◌-◌, ◌==◌, nat_lt, Bool, true, false, ◌&&◌, ◌||◌, List, [], ◌∷◌, ◌++◌, map, if◌then◌else◌}
use Rattle.std.specs.List.{list_any}
use Rattle.vd_call_rules.specs.declared.reaches.End.{End}
use Rattle.vd_call_rules.specs.declared.reaches.Reach.{Reach}
use Rattle.vd_call_rules.specs.declared.reaches.TheConstants.{LONGEST, TOO_LONG}

-- All lengths beyond the longest that is taken are one.
abbrev pub length_of : ℕ → ℕ
length_of n = if nat_lt LONGEST n then TOO_LONG else n

abbrev pub longer : ℕ → ℕ → ℕ
longer m n = if nat_lt m n then n else m

-- ---- where chains end: with which generic functions, and after how many calls at most

abbrev pub is_end_of : ℕ → End → Bool
is_end_of q e = e.generic == q

abbrev pub raised : End → End → End
raised e other = if other.generic == e.generic then record { generic = e.generic; calls = longer other.calls e.calls } else other

-- one more of them
abbrev pub with_end : List End → End → List End
with_end es e = if list_any (is_end_of e.generic) es then map (raised e) es else es ++ e ∷ []

abbrev pub with_ends : List End → List End → List End
with_ends es [] = es
with_ends es (e ∷ more) = with_ends (with_end es e) more

-- so many calls further
abbrev pub further : ℕ → End → End
further n e = record { generic = e.generic; calls = length_of (n + e.calls) }

abbrev pub is_empty : List End → Bool
is_empty [] = true
is_empty (e ∷ es) = false

-- ---- what a call reaches

-- nothing, as there is no body
abbrev pub no_call : Reach
no_call = record { plain = 0; ends = [] }

-- a call of a generic function
abbrev pub generic_call : ℕ → Reach
generic_call q = record { plain = 0; ends = record { generic = q; calls = 1 } ∷ [] }

-- a function whose body has ended: a call of it is a chain by itself
abbrev pub with_body : Reach → Reach
with_body r = record r { plain = longer r.plain 1 }

-- behind so many other calls
abbrev pub behind : ℕ → Reach → Reach
behind n r = record { plain = length_of (n + r.plain); ends = map (further n) r.ends }

abbrev pub together : Reach → Reach → Reach
together r s = record { plain = longer r.plain s.plain; ends = with_ends r.ends s.ends }

abbrev pub is_no_call : Reach → Bool
is_no_call r = (r.plain == 0) && is_empty r.ends

-- a function in whose body a call reaches so much
abbrev pub calling : Reach → Reach → Reach
calling r called = if is_no_call called then r else together r (behind 1 called)

abbrev pub is_long_end : End → Bool
is_long_end e = nat_lt LONGEST e.calls

abbrev pub is_too_long : Reach → Bool
is_too_long r = nat_lt LONGEST r.plain || list_any is_long_end r.ends

-- ---- instances: the last call of some chains is one of what stands for the generic function

abbrev pub with_actual : (ℕ → Reach) → Reach → End → Reach
with_actual stands r e = together r (behind (e.calls - 1) (stands e.generic))

abbrev pub with_actuals : (ℕ → Reach) → Reach → List End → Reach
with_actuals stands r [] = r
with_actuals stands r (e ∷ es) = with_actuals stands (with_actual stands r e) es

abbrev pub in_instance : (ℕ → Reach) → Reach → Reach
in_instance stands r = with_actuals stands (record { plain = r.plain; ends = [] }) r.ends
