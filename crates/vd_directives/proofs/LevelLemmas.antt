-- The groups that the code keeps say of a line what the lines before it say.
use Rattle.std.proofs.Common.{◌≡◌, ℕ, zero, suc, Bool, true, false, not, ◌&&◌, List, [], ◌∷◌, drop, Option, Some, None, if◌then◌else◌, refl, ap, ◌∙◌, subst, arith}
use Rattle.vd_directives.specs.declared.groups.Level.{Level}
use Rattle.vd_directives.specs.declared.kinds.Kind.{Kind}
use Rattle.vd_directives.specs.declared.kinds.Kind.TheVariants.{Plain, If, Elsif, Else, End, Warning, Error, Broken, Unknown}
use Rattle.vd_directives.specs.Groups.{stands_in, is_selected, last_branch, has_group, is_open, may_branch, own_rule}
use Rattle.vd_directives.specs.Levels.{here, branched, ended, left, entered, branch_rule, level_rule}
use Rattle.vd_directives.specs.Stacks.{is_nil}

-- the groups behind some lines, the nearest line first
abbrev pub levels_of : List Kind → List Level
levels_of [] = []
levels_of (k ∷ ks) = entered k (levels_of ks)

-- none of these lines breaks a rule
abbrev pub AreUnbroken : List Kind → Type 0
AreUnbroken [] = Unit {0}
AreUnbroken (k ∷ ks) = (own_rule ks k ≡ 0) × AreUnbroken ks

abbrev last_of : List Level → Option Bool
last_of [] = None
last_of (level ∷ levels) = Some level.has_else

abbrev still : List Level → Bool
still [] = true
still (level ∷ levels) = level.may_come

-- ---- the groups outside the innermost stay as they are in it

drop_left : (n : ℕ) (levels : List Level) → drop (suc n) levels ≡ drop n (left levels)
drop_left zero [] = refl
drop_left (suc n) [] = refl
drop_left n (level ∷ levels) = refl

drop_branched : (condition : Bool) (n : ℕ) (levels : List Level) → drop (suc n) levels ≡ drop (suc n) (branched condition levels)
drop_branched condition n [] = refl
drop_branched condition n (level ∷ levels) = refl

drop_ended : (n : ℕ) (levels : List Level) → drop (suc n) levels ≡ drop (suc n) (ended levels)
drop_ended n [] = refl
drop_ended n (level ∷ levels) = refl

-- ---- the last branch

-- the rule that a branch breaks behind a last one
abbrev branch_number : Option Bool → ℕ
branch_number last = if may_branch last then 0 else 112

no_branch : (last : Option Bool) → last ≡ None → branch_number last ≡ 0 → ⊥
no_branch last is unbroken = let h : branch_number None ≡ 0 = subst (λ r. branch_number r ≡ 0) is unbroken in omega arith

elsif_last : (condition : Bool) (levels : List Level) (last : Option Bool) → last ≡ last_of levels → branch_number last ≡ 0
    → Some false ≡ last_of (branched condition levels)
elsif_last condition [] last is unbroken = absurd (no_branch last is unbroken)
elsif_last condition (level ∷ levels) last is unbroken = refl

else_last : (levels : List Level) (last : Option Bool) → last ≡ last_of levels → branch_number last ≡ 0
    → Some true ≡ last_of (ended levels)
else_last [] last is unbroken = absurd (no_branch last is unbroken)
else_last (level ∷ levels) last is unbroken = refl

pub last_is : (n : ℕ) (ks : List Kind) → AreUnbroken ks → last_branch n ks ≡ last_of (drop n (levels_of ks))
last_is zero [] u = refl
last_is (suc n) [] u = refl
last_is zero (End ∷ ks) u = last_is 1 ks u.1 ∙ ap last_of (drop_left zero (levels_of ks))
last_is (suc n) (End ∷ ks) u = last_is (suc (suc n)) ks u.1 ∙ ap last_of (drop_left (suc n) (levels_of ks))
last_is zero (If condition ∷ ks) u = refl
last_is (suc n) (If condition ∷ ks) u = last_is n ks u.1
last_is zero (Elsif condition ∷ ks) u = elsif_last condition (levels_of ks) (last_branch zero ks) (last_is zero ks u.1) u.0
last_is (suc n) (Elsif condition ∷ ks) u = last_is (suc n) ks u.1 ∙ ap last_of (drop_branched condition n (levels_of ks))
last_is zero (Else ∷ ks) u = else_last (levels_of ks) (last_branch zero ks) (last_is zero ks u.1) u.0
last_is (suc n) (Else ∷ ks) u = last_is (suc n) ks u.1 ∙ ap last_of (drop_ended n (levels_of ks))
last_is zero (Plain ∷ ks) u = last_is zero ks u.1
last_is (suc n) (Plain ∷ ks) u = last_is (suc n) ks u.1
last_is zero (Warning text ∷ ks) u = last_is zero ks u.1
last_is (suc n) (Warning text ∷ ks) u = last_is (suc n) ks u.1
last_is zero (Error ∷ ks) u = last_is zero ks u.1
last_is (suc n) (Error ∷ ks) u = last_is (suc n) ks u.1
last_is zero (Broken ∷ ks) u = last_is zero ks u.1
last_is (suc n) (Broken ∷ ks) u = last_is (suc n) ks u.1
last_is zero (Unknown ∷ ks) u = last_is zero ks u.1
last_is (suc n) (Unknown ∷ ks) u = last_is (suc n) ks u.1

-- ---- whether a line is selected

elsif_here : (condition : Bool) (levels : List Level) (last : Option Bool) (b : Bool) → last ≡ last_of levels → branch_number last ≡ 0
    → b ≡ still levels → (condition && b) ≡ here (branched condition levels)
elsif_here condition [] last b is unbroken same = absurd (no_branch last is unbroken)
elsif_here condition (level ∷ levels) last b is unbroken same = ap (λ c. condition && c) same

elsif_still : (condition : Bool) (levels : List Level) (last : Option Bool) (b : Bool) → last ≡ last_of levels → branch_number last ≡ 0
    → b ≡ still levels → (not condition && b) ≡ still (branched condition levels)
elsif_still condition [] last b is unbroken same = absurd (no_branch last is unbroken)
elsif_still condition (level ∷ levels) last b is unbroken same = ap (λ c. not condition && c) same

else_here : (levels : List Level) (last : Option Bool) (b : Bool) → last ≡ last_of levels → branch_number last ≡ 0
    → b ≡ still levels → b ≡ here (ended levels)
else_here [] last b is unbroken same = absurd (no_branch last is unbroken)
else_here (level ∷ levels) last b is unbroken same = same

else_still : (levels : List Level) (last : Option Bool) → last ≡ last_of levels → branch_number last ≡ 0 → false ≡ still (ended levels)
else_still [] last is unbroken = absurd (no_branch last is unbroken)
else_still (level ∷ levels) last is unbroken = refl

record Stands (n : ℕ) (ks : List Kind) : Type 0 where
  pub in_it : stands_in false n ks ≡ here (drop n (levels_of ks))
  pub past_it : stands_in true n ks ≡ still (drop n (levels_of ks))

moved : (n : ℕ) (ks : List Kind) (levels : List Level) → Stands n ks → drop n (levels_of ks) ≡ levels
    → (stands_in false n ks ≡ here levels) × (stands_in true n ks ≡ still levels)
moved n ks levels s same = (s.in_it ∙ ap here same, s.past_it ∙ ap still same)

stands : (n : ℕ) (ks : List Kind) → AreUnbroken ks → Stands n ks
stands zero [] u = record { in_it = refl; past_it = refl }
stands (suc n) [] u = record { in_it = refl; past_it = refl }
stands zero (End ∷ ks) u =
    let m = moved 1 ks (left (levels_of ks)) (stands 1 ks u.1) (drop_left zero (levels_of ks)) in record { in_it = m.0; past_it = m.1 }
stands (suc n) (End ∷ ks) u =
    let m = moved (suc (suc n)) ks (drop (suc n) (left (levels_of ks))) (stands (suc (suc n)) ks u.1) (drop_left (suc n) (levels_of ks)) in
    record { in_it = m.0; past_it = m.1 }
stands zero (If condition ∷ ks) u =
    let s = stands zero ks u.1 in record { in_it = ap (λ b. condition && b) s.in_it; past_it = ap (λ b. not condition && b) s.in_it }
stands (suc n) (If condition ∷ ks) u = let s = stands n ks u.1 in record { in_it = s.in_it; past_it = s.past_it }
stands zero (Elsif condition ∷ ks) u =
    let s = stands zero ks u.1 in
    let l = last_is zero ks u.1 in
    record {
      in_it = elsif_here condition (levels_of ks) (last_branch zero ks) (stands_in true zero ks) l u.0 s.past_it;
      past_it = elsif_still condition (levels_of ks) (last_branch zero ks) (stands_in true zero ks) l u.0 s.past_it;
    }
stands (suc n) (Elsif condition ∷ ks) u =
    let m = moved (suc n) ks (drop (suc n) (branched condition (levels_of ks))) (stands (suc n) ks u.1) (drop_branched condition n (levels_of ks)) in
    record { in_it = m.0; past_it = m.1 }
stands zero (Else ∷ ks) u =
    let s = stands zero ks u.1 in
    let l = last_is zero ks u.1 in
    record {
      in_it = else_here (levels_of ks) (last_branch zero ks) (stands_in true zero ks) l u.0 s.past_it;
      past_it = else_still (levels_of ks) (last_branch zero ks) l u.0;
    }
stands (suc n) (Else ∷ ks) u =
    let m = moved (suc n) ks (drop (suc n) (ended (levels_of ks))) (stands (suc n) ks u.1) (drop_ended n (levels_of ks)) in
    record { in_it = m.0; past_it = m.1 }
stands zero (Plain ∷ ks) u = let s = stands zero ks u.1 in record { in_it = s.in_it; past_it = s.past_it }
stands (suc n) (Plain ∷ ks) u = let s = stands (suc n) ks u.1 in record { in_it = s.in_it; past_it = s.past_it }
stands zero (Warning text ∷ ks) u = let s = stands zero ks u.1 in record { in_it = s.in_it; past_it = s.past_it }
stands (suc n) (Warning text ∷ ks) u = let s = stands (suc n) ks u.1 in record { in_it = s.in_it; past_it = s.past_it }
stands zero (Error ∷ ks) u = let s = stands zero ks u.1 in record { in_it = s.in_it; past_it = s.past_it }
stands (suc n) (Error ∷ ks) u = let s = stands (suc n) ks u.1 in record { in_it = s.in_it; past_it = s.past_it }
stands zero (Broken ∷ ks) u = let s = stands zero ks u.1 in record { in_it = s.in_it; past_it = s.past_it }
stands (suc n) (Broken ∷ ks) u = let s = stands (suc n) ks u.1 in record { in_it = s.in_it; past_it = s.past_it }
stands zero (Unknown ∷ ks) u = let s = stands zero ks u.1 in record { in_it = s.in_it; past_it = s.past_it }
stands (suc n) (Unknown ∷ ks) u = let s = stands (suc n) ks u.1 in record { in_it = s.in_it; past_it = s.past_it }

pub selected_is : (ks : List Kind) → AreUnbroken ks → is_selected ks ≡ here (levels_of ks)
selected_is ks u = (stands zero ks u).in_it

-- ---- the rule that a line breaks

nil_branched : (condition : Bool) (levels : List Level) → not (is_nil levels) ≡ not (is_nil (branched condition levels))
nil_branched condition [] = refl
nil_branched condition (level ∷ levels) = refl

nil_ended : (levels : List Level) → not (is_nil levels) ≡ not (is_nil (ended levels))
nil_ended [] = refl
nil_ended (level ∷ levels) = refl

groups_in : (n : ℕ) (ks : List Kind) → has_group n ks ≡ not (is_nil (drop n (levels_of ks)))
groups_in zero [] = refl
groups_in (suc n) [] = refl
groups_in zero (End ∷ ks) = groups_in 1 ks ∙ ap (λ ls. not (is_nil ls)) (drop_left zero (levels_of ks))
groups_in (suc n) (End ∷ ks) = groups_in (suc (suc n)) ks ∙ ap (λ ls. not (is_nil ls)) (drop_left (suc n) (levels_of ks))
groups_in zero (If condition ∷ ks) = refl
groups_in (suc n) (If condition ∷ ks) = groups_in n ks
groups_in zero (Elsif condition ∷ ks) = groups_in zero ks ∙ nil_branched condition (levels_of ks)
groups_in (suc n) (Elsif condition ∷ ks) = groups_in (suc n) ks ∙ ap (λ ls. not (is_nil ls)) (drop_branched condition n (levels_of ks))
groups_in zero (Else ∷ ks) = groups_in zero ks ∙ nil_ended (levels_of ks)
groups_in (suc n) (Else ∷ ks) = groups_in (suc n) ks ∙ ap (λ ls. not (is_nil ls)) (drop_ended n (levels_of ks))
groups_in zero (Plain ∷ ks) = groups_in zero ks
groups_in (suc n) (Plain ∷ ks) = groups_in (suc n) ks
groups_in zero (Warning text ∷ ks) = groups_in zero ks
groups_in (suc n) (Warning text ∷ ks) = groups_in (suc n) ks
groups_in zero (Error ∷ ks) = groups_in zero ks
groups_in (suc n) (Error ∷ ks) = groups_in (suc n) ks
groups_in zero (Broken ∷ ks) = groups_in zero ks
groups_in (suc n) (Broken ∷ ks) = groups_in (suc n) ks
groups_in zero (Unknown ∷ ks) = groups_in zero ks
groups_in (suc n) (Unknown ∷ ks) = groups_in (suc n) ks

pub open_is : (ks : List Kind) → is_open ks ≡ not (is_nil (levels_of ks))
open_is ks = groups_in zero ks

turned : (b : Bool) → ◌≡◌ {A = ℕ} (if not b then 0 else 112) (if b then 112 else 0)
turned true = refl
turned false = refl

branch_of : (levels : List Level) → branch_number (last_of levels) ≡ branch_rule levels
branch_of [] = refl
branch_of (level ∷ levels) = turned level.has_else

branch_is : (ks : List Kind) → AreUnbroken ks → branch_number (last_branch zero ks) ≡ branch_rule (levels_of ks)
branch_is ks u = ap branch_number (last_is zero ks u) ∙ branch_of (levels_of ks)

abbrev open_number : Bool → ℕ
open_number b = if b then 0 else 112

abbrev error_number : Bool → ℕ
error_number b = if b then 113 else 0

abbrev unknown_number : Bool → ℕ
unknown_number b = if b then 111 else 0

pub rule_is : (ks : List Kind) (k : Kind) → AreUnbroken ks → own_rule ks k ≡ level_rule k (levels_of ks)
rule_is ks Plain u = refl
rule_is ks (If condition) u = refl
rule_is ks (Elsif condition) u = branch_is ks u
rule_is ks Else u = branch_is ks u
rule_is ks End u = ap (λ b. open_number b) (open_is ks) ∙ turned (is_nil (levels_of ks))
rule_is ks (Warning text) u = refl
rule_is ks Error u = ap error_number (selected_is ks u)
rule_is ks Broken u = refl
rule_is ks Unknown u = ap unknown_number (selected_is ks u)
