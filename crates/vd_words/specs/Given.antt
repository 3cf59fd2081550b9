-- The command line as `clap` has it, and what its matches tell.
use Rattle.std.specs.Prelude.{◌≡◌, ℕ, Bool, true, false, not, ◌&&◌, ◌||◌, ◌==◌, List, [], ◌∷◌, codes, map, Option, Some, None, unwrap_or, bytes_eq}
use Rattle.std.specs.List.{list_any}
use Rattle.clap.specs.Words.{App, Row, Rule, all_of, found_of, new_app, new_rule, rows_of, with_rule}
use Rattle.clap.specs.declared.parser.matches.ArgMatches.{ArgMatches}
use Rattle.clap.specs.Simple.{on_top}
use Rattle.clap.specs.declared.builder.action.ArgAction.TheVariants.{Append}
use Rattle.vd_words.specs.Words.{Said, is_escape, begins_with_dash, is_option_word, is_equals, option_names, values_of}

-- ---- the command line

-- what every argument is: each use adds its value
abbrev pub argument : List ℕ → Rule
argument id = record (new_rule id) { action = Some Append }

abbrev pub option : List ℕ → Rule
option name = record (argument name) { long = Some name }

-- the id of the FILEs
abbrev pub file_id : List ℕ
file_id = codes "FILE"

abbrev pub bare_line : App
bare_line = on_top (λ s. record s { no_binary_name = true; disable_help_flag = true; disable_version_flag = true }) (new_app (codes "vdown"))

abbrev pub line : App
line =
    with_rule (with_rule (with_rule (with_rule (with_rule (with_rule bare_line
    (option (codes "do"))) (option (codes "top"))) (option (codes "cycles"))) (option (codes "units"))) (option (codes "tool-type"))) (argument file_id)

-- ---- the matches

-- the values of an argument
abbrev pub values_in : List ℕ → List Row → List (List ℕ)
values_in id rows = unwrap_or (all_of id rows) []

abbrev pub values_given : ArgMatches → List ℕ → List (List ℕ)
values_given matches id = values_in id (rows_of (found_of matches))

-- the matches tell what the words say
pub record Tells (matches : ArgMatches) (said : Said) : Type 0 where
  pub modes : values_given matches (codes "do") ≡ values_of (codes "do") said
  pub tops : values_given matches (codes "top") ≡ values_of (codes "top") said
  pub cycles : values_given matches (codes "cycles") ≡ values_of (codes "cycles") said
  pub units : values_given matches (codes "units") ≡ values_of (codes "units") said
  pub tool_types : values_given matches (codes "tool-type") ≡ values_of (codes "tool-type") said
  pub files : values_given matches file_id ≡ said.files

-- ---- what is looked at first

-- an option with one dash, of which there is none
abbrev pub is_short : List ℕ → Bool
is_short (b ∷ c ∷ bs) = b == 45 && not (c == 45)
is_short _ = false

-- an option whose value is to be the next word
abbrev pub wants_next : List ℕ → Bool
wants_next (b ∷ c ∷ d ∷ bs) = b == 45 && (c == 45 && not (list_any is_equals (d ∷ bs)))
wants_next _ = false

abbrev pub is_dash : List ℕ → Bool
is_dash word = bytes_eq word (45 ∷ [])

abbrev pub dash_first : List (List ℕ) → Bool
dash_first [] = false
dash_first (word ∷ words) = is_dash word

-- before `--` no option has one dash, and none is followed by a dash alone
abbrev pub is_plain_line : List (List ℕ) → Bool
is_plain_line [] = true
is_plain_line (word ∷ words) =
    is_escape word || (not (is_short word) && (not (wants_next word && dash_first words) && is_plain_line words))
