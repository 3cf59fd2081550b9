-- The rows of a list, read one by one. No name has a dash, so that a caller can name each in `#[tactic(auto, using(..))]`.
use Rattle.std.proofs.Common.{◌≡◌, ℕ, suc, ◌+◌, List, [], ◌∷◌, ◌++◌, Option, Some, None, length, map, refl, sym, ap, ◌∙◌, append_assoc}
use Rattle.std.specs.Prelude.{String}
use Rattle.std.specs.declared.alloc.Global.{Global}
use Rattle.serde_json.specs.Data.{Data, Items, item, no_items}
use Rattle.serde_json.specs.View.{members_of, members_view, view}
use Rattle.serde_json.specs.declared.value.Value.{Value}
use Rattle.vd_trees.specs.declared.rows.Row.{Row}
use Rattle.vd_names.specs.Reading.{Answer, HasOther, HasRows, count_members, row_in, rows_from, with_row}

-- rows in front of those of an answer
abbrev pub after : List Row → Answer → Answer
after rows (HasRows others) = HasRows (rows ++ others)
after rows (HasOther number) = HasOther number

after_one : (rows : List Row) (row : Row) (rest : Answer) (number : ℕ) → after rows (with_row number (Some row) rest) ≡ after (rows ++ row ∷ []) rest
after_one rows row (HasRows others) number = ap HasRows (sym (append_assoc rows (row ∷ []) others))
after_one rows row (HasOther other) number = refl

pub row_read : (rows new : List Row) (row : Row) (d : Data) (ds : Items) (number : ℕ) (want : Answer) → row_in d ≡ Some row → new ≡ rows ++ row ∷ []
    → after rows (rows_from number (item d ds)) ≡ want → after new (rows_from (suc number) ds) ≡ want
row_read rows new row d ds number want is pushed before =
    ap (λ rs. after rs (rows_from (suc number) ds)) pushed ∙ sym (after_one rows row (rows_from (suc number) ds) number)
    ∙ ap (λ r. after rows (with_row number r (rows_from (suc number) ds))) (sym is) ∙ before

pub other_read : (rows : List Row) (d : Data) (ds : Items) (number : ℕ) (want : Answer) → row_in d ≡ None → after rows (rows_from number (item d ds)) ≡ want → want ≡ HasOther number
other_read rows d ds number want is before = sym before ∙ ap (λ r. after rows (with_row number r (rows_from (suc number) ds))) is

pub ruleset reading = (row_read, other_read)

-- the members of an object are as many as its entries
pub count_is : (ms : List (String Global × Value)) → count_members (members_view ms) ≡ length ms
count_is [] = refl
count_is (m ∷ ms) = ap suc (count_is ms)

pub ruleset counting = (count_is)
