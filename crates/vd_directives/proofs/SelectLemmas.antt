-- The answer for a file, line by line.
use Rattle.std.proofs.Common.{◌≡◌, ◌<◌, ◌≤◌, ◌^◌, ℕ, ◌+◌, Bool, true, false, not, eqb, ◌&&◌, cond, List, [], ◌∷◌, ◌++◌, length, Ok, Err, if◌then◌else◌, refl, sym, ap, ◌∙◌, subst, arith, append_assoc, ⊎_elim}
use Rattle.std.specs.List.{AllByRecursion}
use Rattle.std.proofs.lemmas.Bool.{cases_lt}
use Rattle.std.proofs.lemmas.Bool.Decides.{nat_tests}
use Rattle.std.proofs.lemmas.List.{append-nil, drop_all}
use Rattle.vd_directives.specs.declared.groups.Level.{Level}
use Rattle.vd_directives.specs.declared.kinds.Kind.{Kind}
use Rattle.vd_directives.specs.declared.kinds.Kind.TheVariants.{Plain, If, Elsif, Else, End, Warning, Error, Broken, Unknown}
use Rattle.vd_directives.specs.declared.selected.Line.{Line}
use Rattle.vd_directives.specs.declared.selected.Selected.{Selected}
use Rattle.vd_directives.specs.Directives.{blank_length, kind_from, kind_of}
use Rattle.vd_directives.specs.Groups.{is_selected, is_open, own_rule}
use Rattle.vd_directives.specs.Kept.{kept_lines, kept_warnings, column_behind, IsBroken, IsKept}
use Rattle.vd_directives.specs.Levels.{here, entered, level_rule}
use Rattle.vd_directives.specs.Lines.{starts_with_line_feed, in_first_line, lines_of, place_at, FitsColumns}
use Rattle.vd_directives.specs.Selection.{Answer, goes_before, rule_of, column_of, with_line, with_warning, with_kind, line_answer, answer_from, selection}
use Rattle.vd_directives.specs.Stacks.{is_nil}
use Rattle.vd_directives.proofs.LineLemmas.{AreShort, short_lines}
use Rattle.vd_directives.proofs.LevelLemmas.{levels_of, AreUnbroken, selected_is, open_is, rule_is}

-- ---- a line that breaks a rule itself has a backquote

pub own_fits : (tool line : List ℕ) (levels : List Level) → 0 < level_rule (kind_of tool line) levels → blank_length line < length line
own_fits tool line levels some =
    ⊎_elim (λ (h : blank_length line < length line). h)
    (λ (h : length line ≤ blank_length line).
    let none : 0 < 0 = subst (λ text. 0 < level_rule (kind_from tool text) levels) (drop_all (blank_length line) line h) some in absurd (omega arith))
    (cases_lt (blank_length line) (length line))

-- ---- what is kept

if_nil : (b : Bool) → ◌≡◌ {A = List Line} (if b then [] else []) []
if_nil true = refl
if_nil false = refl

pub kept_none : (number : ℕ) (line : List ℕ) (kind : Kind) (lines warnings : List Line) → IsKept number line kind false lines lines warnings warnings
kept_none number line kind lines warnings = record { lines_are = sym (append-nil lines); warnings_are = sym (append-nil warnings) }

-- lines and warnings that are kept already, in front of an answer
abbrev pub in_front : List Line → List Line → Answer → Answer
in_front lines warnings (Err refused) = Err refused
in_front lines warnings (Ok s) = Ok (record { file = s.file; lines = lines ++ s.lines; warnings = warnings ++ s.warnings })

pub in_front_none : (answer : Answer) → answer ≡ in_front [] [] answer
in_front_none (Err refused) = refl
in_front_none (Ok s) = refl

both : (file : ℕ) (lines lines' warnings warnings' : List Line) → lines ≡ lines' → warnings ≡ warnings'
    → ◌≡◌ {A = Answer} (Ok (record { file = file; lines = lines; warnings = warnings })) (Ok (record { file = file; lines = lines'; warnings = warnings' }))
both file lines lines' warnings warnings' e f =
    ap (λ ls. Ok (record { file = file; lines = ls; warnings = warnings })) e ∙ ap (λ ws. Ok (record { file = file; lines = lines'; warnings = ws })) f

one_more : (xs ys : List Line) (x : Line) → xs ++ x ∷ ys ≡ (xs ++ x ∷ []) ++ ys
one_more xs ys x = sym (append_assoc xs (x ∷ []) ys)

none_more : (xs ys : List Line) → xs ++ ys ≡ (xs ++ []) ++ ys
none_more xs ys = ap (λ zs. zs ++ ys) (sym (append-nil xs))

in_front_same : (lines warnings : List Line) (answer : Answer) → in_front lines warnings answer ≡ in_front (lines ++ []) (warnings ++ []) answer
in_front_same lines warnings (Err refused) = refl
in_front_same lines warnings (Ok s) =
    both s.file (lines ++ s.lines) ((lines ++ []) ++ s.lines) (warnings ++ s.warnings) ((warnings ++ []) ++ s.warnings) (none_more lines s.lines) (none_more warnings s.warnings)

in_front_line : (number : ℕ) (line : List ℕ) (lines warnings : List Line) (answer : Answer)
    → in_front lines warnings (with_line number line answer) ≡ in_front (lines ++ record { number = number; bytes = line } ∷ []) (warnings ++ []) answer
in_front_line number line lines warnings (Err refused) = refl
in_front_line number line lines warnings (Ok s) =
    let x : Line = record { number = number; bytes = line } in
    both s.file (lines ++ x ∷ s.lines) ((lines ++ x ∷ []) ++ s.lines) (warnings ++ s.warnings) ((warnings ++ []) ++ s.warnings) (one_more lines s.lines x) (none_more warnings s.warnings)

in_front_warning : (number : ℕ) (text : List ℕ) (lines warnings : List Line) (answer : Answer)
    → in_front lines warnings (with_warning number text answer) ≡ in_front (lines ++ []) (warnings ++ record { number = number; bytes = text } ∷ []) answer
in_front_warning number text lines warnings (Err refused) = refl
in_front_warning number text lines warnings (Ok s) =
    let x : Line = record { number = number; bytes = text } in
    both s.file (lines ++ s.lines) ((lines ++ []) ++ s.lines) (warnings ++ x ∷ s.warnings) ((warnings ++ x ∷ []) ++ s.warnings) (none_more lines s.lines) (one_more warnings s.warnings x)

in_front_kind : (number : ℕ) (line : List ℕ) (kind : Kind) (lines warnings : List Line) (answer : Answer)
    → in_front lines warnings (with_kind number line kind answer) ≡ in_front (lines ++ kept_lines number line kind) (warnings ++ kept_warnings number kind) answer
in_front_kind number line Plain lines warnings answer = in_front_line number line lines warnings answer
in_front_kind number line (Warning text) lines warnings answer = in_front_warning number text lines warnings answer
in_front_kind number line (If condition) lines warnings answer = in_front_same lines warnings answer
in_front_kind number line (Elsif condition) lines warnings answer = in_front_same lines warnings answer
in_front_kind number line Else lines warnings answer = in_front_same lines warnings answer
in_front_kind number line End lines warnings answer = in_front_same lines warnings answer
in_front_kind number line Error lines warnings answer = in_front_same lines warnings answer
in_front_kind number line Broken lines warnings answer = in_front_same lines warnings answer
in_front_kind number line Unknown lines warnings answer = in_front_same lines warnings answer

in_front_selected : (selected : Bool) (number : ℕ) (line : List ℕ) (kind : Kind) (lines warnings : List Line) (answer : Answer)
    → in_front lines warnings (if selected then with_kind number line kind answer else answer)
    ≡ in_front (lines ++ (if selected then kept_lines number line kind else [])) (warnings ++ (if selected then kept_warnings number kind else [])) answer
in_front_selected true number line kind lines warnings answer = in_front_kind number line kind lines warnings answer
in_front_selected false number line kind lines warnings answer = in_front_same lines warnings answer

-- ---- the last line

nil_first : (b : ℕ) (ls : List (List ℕ)) → is_nil (in_first_line b ls) ≡ false
nil_first b [] = refl
nil_first b (l ∷ ls) = refl

nil_feed : (bs : List ℕ) → starts_with_line_feed bs ≡ true → is_nil (lines_of bs) ≡ false
nil_feed [] h = cc
nil_feed (c ∷ cs) h = rw h refl

nil_by : (b : ℕ) (bs : List ℕ) (t u : Bool) → (u ≡ true → starts_with_line_feed bs ≡ true)
    → is_nil (cond t ([] ∷ lines_of bs) (cond u (lines_of bs) (in_first_line b (lines_of bs)))) ≡ false
nil_by b bs true u h = refl
nil_by b bs false true h = nil_feed bs (h refl)
nil_by b bs false false h = nil_first b (lines_of bs)

second_holds : (t u : Bool) → (t && u) ≡ true → u ≡ true
second_holds true u h = h
second_holds false u h = cc

pub last_is_nil : (bs : List ℕ) → is_nil (lines_of bs) ≡ is_nil bs
last_is_nil [] = refl
last_is_nil (b ∷ bs) = nil_by b bs (eqb b 10) (eqb b 13 && starts_with_line_feed bs) (second_holds (eqb b 13) (starts_with_line_feed bs))

not_zero : (n : ℕ) → 0 < n → eqb n 0 ≡ false
not_zero n some = grind (arith, nat_tests)

pub nil_length : (bs : List ℕ) → eqb (length bs) 0 ≡ is_nil bs
nil_length [] = refl
nil_length (b ∷ bs) = not_zero (length (b ∷ bs)) (omega arith)

pub first_short : (rest line : List ℕ) (ls : List (List ℕ)) → lines_of rest ≡ line ∷ ls → length line ≤ length rest
first_short rest line ls split = (subst (AreShort (length rest)) split (short_lines rest)).0

-- ---- the steps of the loop

own_zero : (goes : Bool) (own : ℕ) → (if goes then 112 else own) ≡ 0 → own ≡ 0
own_zero true own h = absurd (omega arith)
own_zero false own h = h

-- what is read so far: the groups are those of the lines before, none of which breaks a rule, and the answer is due for the rest
pub record IsSelecting (tool : List ℕ) (file : ℕ) (bytes rest : List ℕ) (number : ℕ) (groups : List Level) (lines warnings : List Line) : Type 0 where
  pub before : List Kind
  pub groups_are : levels_of before ≡ groups
  pub unbroken : AreUnbroken before
  pub answer : selection tool file bytes ≡ in_front lines warnings (answer_from tool file (number + 1) before (lines_of rest))

pub selecting_first : (tool : List ℕ) (file : ℕ) (bytes : List ℕ) → IsSelecting tool file bytes bytes 0 [] [] []
selecting_first tool file bytes = record { before = []; groups_are = refl; unbroken = tt; answer = in_front_none (selection tool file bytes) }

-- the answer from a line on, by the groups
from_line : (tool : List ℕ) (file number : ℕ) (before : List Kind) (line after : List ℕ) (groups : List Level) → levels_of before ≡ groups → AreUnbroken before
    → answer_from tool file number before (line ∷ lines_of after)
    ≡ line_answer file number line (kind_of tool line) (here groups) (is_nil after && not (is_nil (entered (kind_of tool line) groups))) (level_rule (kind_of tool line) groups)
    (answer_from tool file (number + 1) (kind_of tool line ∷ before) (lines_of after))
from_line tool file number before line after groups is unbroken =
    let kind = kind_of tool line in
    let next = answer_from tool file (number + 1) (kind ∷ before) (lines_of after) in
    ap (λ s. line_answer file number line kind s (is_nil (lines_of after) && is_open (kind ∷ before)) (own_rule before kind) next) (selected_is before unbroken ∙ ap here is)
    ∙ ap (λ n. line_answer file number line kind (here groups) (n && is_open (kind ∷ before)) (own_rule before kind) next) (last_is_nil after)
    ∙ ap (λ o. line_answer file number line kind (here groups) (is_nil after && o) (own_rule before kind) next) (open_is (kind ∷ before) ∙ ap (λ g. not (is_nil (entered kind g))) is)
    ∙ ap (λ r. line_answer file number line kind (here groups) (is_nil after && not (is_nil (entered kind groups))) r next) (rule_is before kind unbroken ∙ ap (level_rule kind) is)

no_break : (rule : ℕ) (a b : Answer) → rule ≡ 0 → (if eqb rule 0 then a else b) ≡ a
no_break rule a b none = ap (λ r. if eqb r 0 then a else b) none

is_break : (rule : ℕ) (a b : Answer) → 0 < rule → (if eqb rule 0 then a else b) ≡ b
is_break rule a b some = ap (λ t. if t then a else b) (not_zero rule some)

pub selecting_more : (tool : List ℕ) (file : ℕ) (bytes rest line after : List ℕ) (number : ℕ) (is_last : Bool) (groups groups' : List Level) (lines lines' warnings warnings' : List Line) (rule column : ℕ)
    → IsSelecting tool file bytes rest number groups lines warnings → lines_of rest ≡ line ∷ lines_of after → is_last ≡ is_nil after
    → IsBroken tool line is_last groups rule column → rule ≡ 0 → groups' ≡ entered (kind_of tool line) groups
    → IsKept (number + 1) line (kind_of tool line) (here groups) lines lines' warnings warnings'
    → IsSelecting tool file bytes after (number + 1) groups' lines' warnings'
selecting_more tool file bytes rest line after number is_last groups groups' lines lines' warnings warnings' rule column s split last broken none entered_is kept =
    let kind = kind_of tool line in
    let unclosed = is_nil after && not (is_nil (entered kind groups)) in
    let own = level_rule kind groups in
    let rule_is_none : rule_of unclosed own ≡ 0 =
    ap (λ l. rule_of (l && not (is_nil (entered kind groups))) own) (sym last) ∙ sym broken.rule_is ∙ none in
    let own_none : own_rule s.before kind ≡ 0 =
    rule_is s.before kind s.unbroken ∙ ap (level_rule kind) s.groups_are ∙ own_zero (goes_before unclosed own) own rule_is_none in
    let next = answer_from tool file (number + 1 + 1) (kind ∷ s.before) (lines_of after) in
    record {
      before = kind ∷ s.before;
      groups_are = ap (entered kind) s.groups_are ∙ sym entered_is;
      unbroken = (own_none, s.unbroken);
      answer =
          s.answer
          ∙ ap (λ ls. in_front lines warnings (answer_from tool file (number + 1) s.before ls)) split
          ∙ ap (in_front lines warnings) (from_line tool file (number + 1) s.before line after groups s.groups_are s.unbroken)
          ∙ ap (in_front lines warnings) (no_break (rule_of unclosed own) (if here groups then with_kind (number + 1) line kind next else next) (Err (record { place = place_at file (number + 1) (column_of unclosed own line); rule = rule_of unclosed own })) rule_is_none)
          ∙ in_front_selected (here groups) (number + 1) line kind lines warnings next
          ∙ ap (λ ls. in_front ls (warnings ++ (if here groups then kept_warnings (number + 1) kind else [])) next) (sym kept.lines_are)
          ∙ ap (λ ws. in_front lines' ws next) (sym kept.warnings_are);
    }

pub selecting_breaks : (tool : List ℕ) (file : ℕ) (bytes rest line after : List ℕ) (number : ℕ) (is_last : Bool) (groups : List Level) (lines warnings : List Line) (rule column : ℕ)
    → IsSelecting tool file bytes rest number groups lines warnings → lines_of rest ≡ line ∷ lines_of after → is_last ≡ is_nil after
    → IsBroken tool line is_last groups rule column → 0 < rule
    → selection tool file bytes ≡ Err (record { place = place_at file (number + 1) column; rule = rule })
selecting_breaks tool file bytes rest line after number is_last groups lines warnings rule column s split last broken some =
    let kind = kind_of tool line in
    let unclosed = is_nil after && not (is_nil (entered kind groups)) in
    let own = level_rule kind groups in
    let rule_same : rule ≡ rule_of unclosed own = broken.rule_is ∙ ap (λ l. rule_of (l && not (is_nil (entered kind groups))) own) last in
    let column_same : column ≡ column_of unclosed own line =
    broken.column_is some ∙ ap (λ l. column_behind (l && not (is_nil (entered kind groups))) own (blank_length line)) last in
    let some' : 0 < rule_of unclosed own = subst (λ r. 0 < r) rule_same some in
    let next = answer_from tool file (number + 1 + 1) (kind ∷ s.before) (lines_of after) in
    s.answer
    ∙ ap (λ ls. in_front lines warnings (answer_from tool file (number + 1) s.before ls)) split
    ∙ ap (in_front lines warnings) (from_line tool file (number + 1) s.before line after groups s.groups_are s.unbroken)
    ∙ ap (in_front lines warnings) (is_break (rule_of unclosed own) (if here groups then with_kind (number + 1) line kind next else next) (Err (record { place = place_at file (number + 1) (column_of unclosed own line); rule = rule_of unclosed own })) some')
    ∙ ap (λ r. Err (record { place = place_at file (number + 1) (column_of unclosed own line); rule = r })) (sym rule_same)
    ∙ ap (λ c. Err (record { place = place_at file (number + 1) c; rule = rule })) (sym column_same)

pub selecting_all : (tool : List ℕ) (file : ℕ) (bytes rest : List ℕ) (number : ℕ) (groups : List Level) (lines warnings : List Line)
    → IsSelecting tool file bytes rest number groups lines warnings → rest ≡ []
    → selection tool file bytes ≡ Ok (record { file = file; lines = lines; warnings = warnings })
selecting_all tool file bytes rest number groups lines warnings s none =
    s.answer ∙ ap (λ r. in_front lines warnings (answer_from tool file (number + 1) s.before (lines_of r))) none
    ∙ both file (lines ++ []) lines (warnings ++ []) warnings (append-nil lines) (append-nil warnings)

-- ---- the columns of the lines that are selected fit

abbrev pub Fits : Answer → Type 0
Fits (Err refused) = Unit {0}
Fits (Ok s) = AllByRecursion FitsColumns s.lines

fits_line : (number : ℕ) (line : List ℕ) (answer : Answer) → length line + 1 < 2 ^ 32 → Fits answer → Fits (with_line number line answer)
fits_line number line (Err refused) short h = tt
fits_line number line (Ok s) short h = (short, h)

fits_warning : (number : ℕ) (text : List ℕ) (answer : Answer) → Fits answer → Fits (with_warning number text answer)
fits_warning number text (Err refused) h = tt
fits_warning number text (Ok s) h = h

fits_kind : (number : ℕ) (line : List ℕ) (kind : Kind) (answer : Answer) → length line + 1 < 2 ^ 32 → Fits answer → Fits (with_kind number line kind answer)
fits_kind number line Plain answer short h = fits_line number line answer short h
fits_kind number line (Warning text) answer short h = fits_warning number text answer h
fits_kind number line (If condition) answer short h = h
fits_kind number line (Elsif condition) answer short h = h
fits_kind number line Else answer short h = h
fits_kind number line End answer short h = h
fits_kind number line Error answer short h = h
fits_kind number line Broken answer short h = h
fits_kind number line Unknown answer short h = h

fits_if : (b : Bool) (a c : Answer) → Fits a → Fits c → Fits (if b then a else c)
fits_if true a c h k = h
fits_if false a c h k = k

fits_from : (tool : List ℕ) (file number : ℕ) (before : List Kind) (n : ℕ) (ls : List (List ℕ)) → n + 1 < 2 ^ 32 → AreShort n ls
    → Fits (answer_from tool file number before ls)
fits_from tool file number before n [] le short = tt
fits_from tool file number before n (line ∷ ls) le short =
    let kind = kind_of tool line in
    let next = answer_from tool file (number + 1) (kind ∷ before) ls in
    let unclosed = is_nil ls && is_open (kind ∷ before) in
    let rest : Fits next = fits_from tool file (number + 1) (kind ∷ before) n ls le short.1 in
    let line_short : length line + 1 < 2 ^ 32 = omega (arith, short.0) in
    fits_if (eqb (rule_of unclosed (own_rule before kind)) 0) (if is_selected before then with_kind number line kind next else next)
    (Err (record { place = place_at file number (column_of unclosed (own_rule before kind) line); rule = rule_of unclosed (own_rule before kind) }))
    (fits_if (is_selected before) (with_kind number line kind next) next (fits_kind number line kind next line_short rest) rest) tt

pub selection_fits : (tool : List ℕ) (file : ℕ) (bytes : List ℕ) (s : Selected) → selection tool file bytes ≡ Ok s → length bytes + 1 < 2 ^ 32
    → AllByRecursion FitsColumns s.lines
selection_fits tool file bytes s is le = subst Fits is (fits_from tool file 1 [] (length bytes) (lines_of bytes) le (short_lines bytes))

pub ruleset selecting_steps = (selecting_first, selecting_more, selecting_breaks, selecting_all, first_short, nil_length)
