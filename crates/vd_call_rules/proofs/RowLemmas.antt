-- Rows of what calls reach, as functions of the numbers of what is called. No name has a dash, so that a caller can name each in
-- `#[tactic(auto, using(..))]`.
use mathlib.Core.Path.{fun_ext}
use Rattle.std.proofs.Common.{◌≡◌, ℕ, ◌==◌, Bool, true, false, cond, List, [], get_or, Option, Some, None, refl, ap, ◌∙◌}
use Rattle.vd_declarations.specs.declared.declarations.Declaration.{Declaration}
use Rattle.vd_call_rules.specs.declared.reaches.Reach.{Reach}
use Rattle.vd_call_rules.specs.Chains.{row_or_first, reach_in, first_reach, put_reach}

-- where there is none yet
pub no_rows : (ds : List Declaration) → reach_in ds [] ≡ first_reach ds
no_rows ds = fun_ext (λ k. refl)

-- behind a change of one
pub row_put : (ds : List Declaration) (old new : List (Option Reach)) (n : ℕ) (r : Reach)
    → ((k : ℕ) → get_or new k None ≡ cond (k == n) (Some r) (get_or old k None))
    → reach_in ds new ≡ put_reach n r (reach_in ds old)
row_put ds old new n r put = fun_ext (λ k. ap (λ o. row_or_first ds o k) (put k) ∙ by_which k (k == n))
  where
    by_which : (k : ℕ) (b : Bool) → row_or_first ds (cond b (Some r) (get_or old k None)) k ≡ cond b r (row_or_first ds (get_or old k None) k)
    by_which k true = refl
    by_which k false = refl
