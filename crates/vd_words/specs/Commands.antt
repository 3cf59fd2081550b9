-- The words that are taken, and the command that they mean:
-- `--do MODE [--top NAME] [--cycles N] [--units N] [--tool-type T] [FILE ...]`, in any order.
use Rattle.std.specs.Prelude.{ℕ, Bool, true, false, not, ◌&&◌, ◌||◌, ◌==◌, nat_le, List, [], ◌∷◌, codes, length, Option, Some, None, option_map, option_and_then, bytes_eq, if◌then◌else◌}
use Rattle.std.specs.List.{list_all, list_any}
use Rattle.std.specs.Str.Parse.{digits_value}
use Rattle.vd_words.specs.declared.command.Mode.{Mode}
use Rattle.vd_words.specs.declared.command.Mode.TheVariants.{Convert, Check, Run19, Run93}
use Rattle.vd_words.specs.declared.command.Command.{Command}
use Rattle.vd_words.specs.Words.{Said, said_after, values_of}

-- what contracts see of a command. The NAME is empty where the mode has none
pub record Meaning : Type 0 where
  pub mode : Mode
  pub top : List ℕ
  pub cycles : ℕ
  pub units : ℕ
  pub tool_type : List ℕ
  pub files : List (List ℕ)

abbrev pub meaning_in : Command → Meaning
meaning_in c = record { mode = c.mode; top = c.top; cycles = c.cycles; units = c.units; tool_type = c.tool_type; files = c.files }

-- an option that stands at most once: its value, or what stands for it where it is absent
abbrev pub one_or : List ℕ → List (List ℕ) → Option (List ℕ)
one_or absent [] = Some absent
one_or absent (value ∷ []) = Some value
one_or absent _ = None

-- ---- modes

abbrev pub mode_named : List ℕ → Option Mode
mode_named text =
    if bytes_eq text (codes "convert") then Some Convert
    else (if bytes_eq text (codes "check") then Some Check
    else (if bytes_eq text (codes "run19") then Some Run19
    else (if bytes_eq text (codes "run93") then Some Run93 else None)))

-- no mode is named by the empty text
abbrev pub mode_in : List (List ℕ) → Option Mode
mode_in values = option_and_then mode_named (one_or [] values)

-- ---- numbers

abbrev pub is_digit : ℕ → Bool
is_digit b = nat_le 48 b && nat_le b 57

-- there is a digit, and the first of several isn't `0` (48)
abbrev pub leads_well : List ℕ → Bool
leads_well [] = false
leads_well (b ∷ []) = true
leads_well (b ∷ c ∷ bs) = not (b == 48)

-- a decimal number without a sign and without a leading zero
abbrev pub is_number : List ℕ → Bool
is_number text = leads_well text && list_all is_digit text

-- such a number from `least` to `most`
abbrev pub number_named : ℕ → ℕ → List ℕ → Option ℕ
number_named least most text =
    let n = digits_value 10 text in
    if is_number text && (nat_le least n && nat_le n most) then Some n else None

abbrev pub number_in : List ℕ → ℕ → ℕ → List (List ℕ) → Option ℕ
number_in absent least most values = option_and_then (number_named least most) (one_or absent values)

-- ---- tool types

abbrev pub tool_type_named : List ℕ → Option (List ℕ)
tool_type_named text =
    if bytes_eq text (codes "SIMULATION") || (bytes_eq text (codes "SYNTHESIS") || bytes_eq text (codes "FORMAL")) then Some text else None

abbrev pub tool_type_in : List (List ℕ) → Option (List ℕ)
tool_type_in values = option_and_then tool_type_named (one_or (codes "SIMULATION") values)

-- ---- tops

-- runs have a top, and no other mode has one
abbrev pub top_in : Mode → List (List ℕ) → Option (List ℕ)
top_in Run19 (name ∷ []) = Some name
top_in Run93 (name ∷ []) = Some name
top_in Convert [] = Some []
top_in Check [] = Some []
top_in _ _ = None

-- ---- the command

-- the command of the values that were given for each option, and of the FILEs
abbrev pub meaning_of_values : (modes tops cycle_counts unit_counts tool_types files : List (List ℕ)) → Option Meaning
meaning_of_values modes tops cycle_counts unit_counts tool_types files =
    option_and_then (λ mode.
    option_and_then (λ top.
    option_and_then (λ cycles.
    option_and_then (λ units.
    option_map (λ tool_type. record { mode = mode; top = top; cycles = cycles; units = units; tool_type = tool_type; files = files })
    (tool_type_in tool_types))
    (number_in (codes "10") 1 1000 unit_counts))
    (number_in (codes "100") 0 1000000 cycle_counts))
    (top_in mode tops))
    (mode_in modes)

abbrev pub meaning_by : (List ℕ → List (List ℕ)) → List (List ℕ) → Option Meaning
meaning_by values files = meaning_of_values (values (codes "do")) (values (codes "top")) (values (codes "cycles")) (values (codes "units")) (values (codes "tool-type")) files

abbrev pub meaning_of_said : Said → Option Meaning
meaning_of_said said = meaning_by (λ name. values_of name said) said.files

-- what words mean, where they are taken
abbrev pub meaning_of : List (List ℕ) → Option Meaning
meaning_of words = option_and_then meaning_of_said (said_after None words)
