-- What the words behind the program's name say: options with their values, and FILEs. Bytes are told by their codes: 45 is `-`, 61 is `=`.
use Rattle.std.specs.Prelude.{ℕ, Bool, true, false, ◌&&◌, ◌==◌, List, [], ◌∷◌, codes, map, filter, Option, Some, None, option_map, bytes_eq, if◌then◌else◌, String, string_bytes}
use Rattle.std.specs.List.{list_any, before_first, after_first}
use Rattle.std.specs.declared.alloc.Global.{Global}

abbrev pub texts_of : List (String Global) → List (List ℕ)
texts_of words = map string_bytes words

-- ---- one word

-- the names of the options, each behind `--`
abbrev pub option_names : List (List ℕ)
option_names = codes "do" ∷ codes "top" ∷ codes "cycles" ∷ codes "units" ∷ codes "tool-type" ∷ []

abbrev pub is_option_name : List ℕ → Bool
is_option_name name = list_any (λ known. bytes_eq known name) option_names

-- `--` alone, behind which all words are FILEs
abbrev pub is_escape : List ℕ → Bool
is_escape word = bytes_eq word (45 ∷ 45 ∷ [])

abbrev pub begins_with_dash : List ℕ → Bool
begins_with_dash [] = false
begins_with_dash (b ∷ bs) = b == 45

-- a word of two or more characters that begins with `-` is an option
abbrev pub is_option_word : List ℕ → Bool
is_option_word [] = false
is_option_word (b ∷ []) = false
is_option_word (b ∷ c ∷ bs) = b == 45

abbrev pub is_equals : ℕ → Bool
is_equals b = b == 61

-- NAME, or NAME=VALUE, cut at the first `=`
abbrev pub cut : List ℕ → List ℕ × Option (List ℕ)
cut text = (before_first is_equals text, if list_any is_equals text then Some (after_first is_equals text) else None)

-- the name of an option, and the value where it stands in the same word
abbrev pub if_option : List ℕ × Option (List ℕ) → Option (List ℕ × Option (List ℕ))
if_option x = if is_option_name x.0 then Some x else None

abbrev pub option_in : List ℕ → Option (List ℕ × Option (List ℕ))
option_in (b ∷ c ∷ text) = if b == 45 && c == 45 then if_option (cut text) else None
option_in _ = None

-- ---- all words

-- the options that were given, each with its value, and the FILEs, in the order of the words
pub record Said : Type 0 where
  pub options : List (List ℕ × List ℕ)
  pub files : List (List ℕ)

abbrev pub only_files : List (List ℕ) → Said
only_files files = record { options = []; files = files }

abbrev pub with_option : List ℕ → List ℕ → Said → Said
with_option name value said = record said { options = (name, value) ∷ said.options }

abbrev pub with_file : List ℕ → Said → Said
with_file file said = record said { files = file ∷ said.files }

-- an option whose value is in the same word, or else is the next word
abbrev pub option_given : List ℕ → Option (List ℕ) → (Option (List ℕ) → Option Said) → Option Said
option_given name (Some value) next = option_map (with_option name value) (next None)
option_given name None next = next (Some name)

abbrev pub option_said : Option (List ℕ × Option (List ℕ)) → (Option (List ℕ) → Option Said) → Option Said
option_said None next = None
option_said (Some x) next = option_given x.0 x.1 next

-- a word that is neither the value of the option before it nor `--`
abbrev pub word_said : List ℕ → (Option (List ℕ) → Option Said) → Option Said
word_said word next = if is_option_word word then option_said (option_in word) next else option_map (with_file word) (next None)

-- the value of the option before it; it doesn't begin with `-`
abbrev pub value_said : List ℕ → List ℕ → (Option (List ℕ) → Option Said) → Option Said
value_said name word next = if begins_with_dash word then None else option_map (with_option name word) (next None)

-- what words say behind the option that waits for its value, if one does
abbrev pub said_after : Option (List ℕ) → List (List ℕ) → Option Said
said_after None [] = Some (only_files [])
said_after (Some name) [] = None
said_after None (word ∷ words) = if is_escape word then Some (only_files words) else word_said word (λ waiting. said_after waiting words)
said_after (Some name) (word ∷ words) = value_said name word (λ waiting. said_after waiting words)

-- the values that were given for an option
abbrev pub values_of : List ℕ → Said → List (List ℕ)
values_of name said = map (λ o. o.1) (filter (λ o. bytes_eq o.0 name) said.options)
