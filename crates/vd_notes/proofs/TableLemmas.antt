-- The table of a design. No name has a dash, so that a caller can name each in `#[tactic(auto, using(..))]`.
use Rattle.std.proofs.Common.{◌≡◌, ◌<◌, ◌≤◌, ◌⊎◌, inl, inr, eqb, ℕ, ◌+◌, ◌-◌, List, [], ◌∷◌, Option, Some, None, length, drop, get_or, set, replicate, refl, sym, ap, subst, ◌∙◌, arith}
use Rattle.std.specs.Prelude.{if◌then◌else◌}
use Rattle.std.proofs.lemmas.List.{drop_more, length-replicate, length-set, get_or-replicate, get_or-set_other, set_past}
use Rattle.std.proofs.lemmas.Grind.{get_or-set_at}
use Rattle.std.proofs.lemmas.Bool.{cases_eq, eq-eqb, ne_eqb}
use Rattle.vd_notes.specs.declared.entries.Entry.{Entry}
use Rattle.vd_notes.specs.Entries.{first_of, table_of}

pub table_length : (count : ℕ) (es : List Entry) → length (table_of count es) ≡ count
table_length count [] = length-replicate count None
table_length count (e ∷ es) = length-set (table_of count es) e.number (Some e) ∙ table_length count es

one_more : (k number : ℕ) (e other : Option Entry) (table : List (Option Entry)) → k < length table → get_or table k None ≡ other → (number ≡ k) ⊎ (number ≡ k → ⊥)
    → get_or (set table number e) k None ≡ (if eqb number k then e else other)
one_more k number e other table within before (inl same) =
    get_or-set_at table number k e None (sym same) (subst (λ n. n < length table) (sym same) within)
    ∙ ap (λ b. if b then e else other) (sym (eq-eqb number k same))
one_more k number e other table within before (inr differ) =
    get_or-set_other table number k e None (λ same. differ (sym same)) ∙ before
    ∙ ap (λ b. if b then e else other) (sym (ne_eqb number k differ))

pub first_in_table : (count k : ℕ) (es : List Entry) → k < count → get_or (table_of count es) k None ≡ first_of k es
first_in_table count k [] within = get_or-replicate count k None None within
first_in_table count k (e ∷ es) within =
    one_more k e.number (Some e) (first_of k es) (table_of count es) (subst (λ n. k < n) (sym (table_length count es)) within) (first_in_table count k es within) (cases_eq e.number k)

-- ---- the loop, from the last entry on

pub filled_first : (count left : ℕ) (found : List Entry) (table : List (Option Entry)) → table ≡ replicate count None → length found ≤ left → table ≡ table_of count (drop left found)
filled_first count left found table is end = is ∙ ap (table_of count) (sym (Rattle.std.proofs.Common.drop_of_length-le found end))

dropped : (left less : ℕ) (found : List Entry) (e : Entry) → less + 1 ≡ left → less < length found → e ≡ get_or found less e → drop less found ≡ e ∷ drop left found
dropped left less found e one within here = drop_more found less e within ∙ ap (λ x. x ∷ drop (less + 1) found) (sym here) ∙ ap (λ k. e ∷ drop k found) one

pub filled_one : (count left less : ℕ) (found : List Entry) (e : Entry) (table new : List (Option Entry)) → less + 1 ≡ left → less < length found → e ≡ get_or found less e
    → new ≡ set table e.number (Some e) → table ≡ table_of count (drop left found) → new ≡ table_of count (drop less found)
filled_one count left less found e table new one within here is before =
    is ∙ ap (λ t. set t e.number (Some e)) before ∙ ap (table_of count) (sym (dropped left less found e one within here))

-- a number that the table doesn't have
pub filled_none : (count left less : ℕ) (found : List Entry) (e : Entry) (table : List (Option Entry)) → less + 1 ≡ left → less < length found → e ≡ get_or found less e
    → length table ≤ e.number → table ≡ table_of count (drop left found) → table ≡ table_of count (drop less found)
filled_none count left less found e table one within here beyond before =
    filled_one count left less found e table table one within here (sym (set_past table e.number (Some e) beyond)) before

pub filled_all : (count left : ℕ) (found : List Entry) (table : List (Option Entry)) → left ≤ 0 → table ≡ table_of count (drop left found) → table ≡ table_of count found
filled_all count left found table none before = let e : left ≡ 0 = omega arith in before ∙ ap (λ k. table_of count (drop k found)) e

pub ruleset filling = (filled_first, filled_one, filled_none, filled_all)
