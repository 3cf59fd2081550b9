-- What a line leaves. The selected text is defined apart from this, in Selection.
use Rattle.std.specs.Prelude.{◌≡◌, ℕ, ◌+◌, ◌<◌, Bool, not, ◌&&◌, List, [], ◌∷◌, ◌++◌, if◌then◌else◌}
use Rattle.vd_directives.specs.declared.groups.Level.{Level}
use Rattle.vd_directives.specs.declared.kinds.Kind.{Kind}
use Rattle.vd_directives.specs.declared.kinds.Kind.TheVariants.{Plain, Warning}
use Rattle.vd_directives.specs.declared.selected.Line.{Line}
use Rattle.vd_directives.specs.Directives.{blank_length, kind_of}
use Rattle.vd_directives.specs.Levels.{entered, level_rule}
use Rattle.vd_directives.specs.Selection.{goes_before, rule_of}
use Rattle.vd_directives.specs.Stacks.{is_nil}

abbrev pub kept_lines : ℕ → List ℕ → Kind → List Line
kept_lines number line Plain = record { number = number; bytes = line } ∷ []
kept_lines number line kind = []

abbrev pub kept_warnings : ℕ → Kind → List Line
kept_warnings number (Warning text) = record { number = number; bytes = text } ∷ []
kept_warnings number kind = []

abbrev pub column_behind : Bool → ℕ → ℕ → ℕ
column_behind unclosed own blank = if goes_before unclosed own then 1 else blank + 1

-- the rule that a line breaks in some groups, and the column
pub record IsBroken (tool line : List ℕ) (is_last : Bool) (groups : List Level) (rule column : ℕ) : Type 0 where
  pub rule_is : rule ≡ rule_of (is_last && not (is_nil (entered (kind_of tool line) groups))) (level_rule (kind_of tool line) groups)
  pub column_is : 0 < rule
      → column ≡ column_behind (is_last && not (is_nil (entered (kind_of tool line) groups))) (level_rule (kind_of tool line) groups) (blank_length line)

-- what is kept of a line
pub record IsKept (number : ℕ) (line : List ℕ) (kind : Kind) (selected : Bool) (lines lines' warnings warnings' : List Line) : Type 0 where
  pub lines_are : lines' ≡ lines ++ (if selected then kept_lines number line kind else [])
  pub warnings_are : warnings' ≡ warnings ++ (if selected then kept_warnings number kind else [])
