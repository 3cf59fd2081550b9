-- What the whole call promises of a conversion, and of a check.
use Rattle.std.specs.Prelude.{◌≡◌, ◌<◌, ◌≤◌, ◌+◌, ℕ, [], ◌∷◌, List, length, slice_index_or, Option}
use Rattle.std.specs.List.{AllByRecursion}
use Rattle.vd_bytes.specs.declared.channels.Channel.{Channel}
use Rattle.vd_bytes.specs.declared.channels.Channel.TheVariants.{Design, Map, Console}
use Rattle.vd_bytes.specs.declared.answers.Limit.TheVariants as limits
use Rattle.vd_bytes.specs.Trays.{Appends, Rose, content_of}
use Rattle.vd_trees.specs.declared.revision.Revision.TheVariants.{V2019}
use Rattle.vd_trees.specs.declared.rows.Row.{Row}
use Rattle.vd_first_lex.specs.declared.tokens.TheConstants.{TOKENS_LIMIT}
use Rattle.vd_first_lex.specs.Lexings.{plain_of}
use Rattle.vd_first_grammar.specs.Derivations.{File}
use Rattle.vd_first_grammar.specs.Conditions.{file_depths}
use Rattle.vd_first_grammar.specs.Refusals.{nesting_limit}
use Rattle.vd_first_names.specs.Maps.{map_text_of}
use Rattle.vd_first_lower.specs.Headline.{IsText, IsFaithful}
use Rattle.vd_program.specs.Dues.{limit_number}
use Rattle.vd_program.specs.Outcomes.{contents_of, total_length}
use Rattle.vd_modes.specs.Checks.{MeetsRules, refusal_in}
use Rattle.vd_directives.specs.declared.selected.Line.{Line}
use Rattle.vd_bytes.specs.declared.answers.Refused.{Refused}
use Rattle.vd_modes.specs.Conversions.{AreConverted, IsRefused}
use Rattle.vd_modes.specs.Dues.{console_of, conversion_line}
use Rattle.vd_modes.specs.Texts.{IsIn93}
use Rattle.vd_command.specs.Words.{converting, checking, job_of, files_of}
use Rattle.vd_command.specs.Outcomes.{IsNotFirst}

-- Design and Map got a design and a map that say what the bytes of a file say, and Console the line of a conversion. The first argument
-- says what is out on the channels
pub record GotConversion {S : Type 0} (written : S → Channel → Option (List ℕ)) (old new : S) (content : List ℕ) : Type 0 where
  pub design : List ℕ
  pub rows : List Row
  pub on_design : Appends (written old Design) (written new Design) design
  pub on_map : Appends (written old Map) (written new Map) (map_text_of rows)
  pub on_console : Appends (written old Console) (written new Console) (conversion_line 2 (length rows))
  pub faithful : IsFaithful (plain_of 0 content) design rows

-- no count of faults rose that has to do with these words. The first two arguments say what the counts are
pub record HasNoFault {S : Type 0} (read_faults : S → List ℕ → ℕ) (write_faults : S → ℕ) (old new : S) (words : List (List ℕ)) : Type 0 where
  pub reading : (i : ℕ) → i < length (files_of (job_of words)) → Rose (read_faults old (slice_index_or (files_of (job_of words)) i [])) (read_faults new (slice_index_or (files_of (job_of words)) i [])) → ⊥
  pub writing : Rose (write_faults old) (write_faults new) → ⊥

-- the bytes of a file are a text of the first language in which nothing is refused, within the limits
pub record IsAcceptable (content : List ℕ) : Type 0 where
  pub file : File
  pub is_text : IsText V2019 (plain_of 0 content) file
  pub few_bytes : length content ≤ limit_number limits.Input
  pub few_tokens : length is_text.tokens ≤ TOKENS_LIMIT + 1
  pub shallow : AllByRecursion (λ d. d ≤ nesting_limit V2019) (file_depths file)

-- the FILE of the words was converted, where they ask for that of one that is acceptable
abbrev pub ConvertsFile : {S : Type 0} → (S → Channel → Option (List ℕ)) → S → S → List (List ℕ) → List (List ℕ × List ℕ) → Type 0
ConvertsFile written old new words files =
    (tool file : List ℕ) → job_of words ≡ converting tool (file ∷ []) → IsAcceptable (content_of files file) → GotConversion written old new (content_of files file)

-- Files of these names with these contents break no rule of revision 2019, and Design got a text of revision 1993 in which no rule is broken, laid out, Map the text of some
-- rows, and Console the warnings of the files and the line of a conversion. The first argument says what is out on the channels
pub record GotText93 {S : Type 0} (written : S → Channel → Option (List ℕ)) (old new : S) (tool : List ℕ) (names contents : List (List ℕ)) : Type 0 where
  pub design : List ℕ
  pub rows : List Row
  pub units : ℕ
  pub warnings : List (List Line)
  pub legal : AreConverted tool contents units warnings
  pub in_93 : IsIn93 design
  pub on_design : Appends (written old Design) (written new Design) design
  pub on_map : Appends (written old Map) (written new Map) (map_text_of rows)
  pub on_console : Appends (written old Console) (written new Console) (console_of names warnings units (length rows))

-- the FILEs of the words were converted, where they ask for that and aren't a text of the first language
abbrev pub ConvertsFiles : {S : Type 0} → (S → Channel → Option (List ℕ)) → S → S → List (List ℕ) → List (List ℕ × List ℕ) → Type 0
ConvertsFiles written old new words files =
    (tool : List ℕ) (names : List (List ℕ)) → job_of words ≡ converting tool names → IsNotFirst (contents_of files names)
    → GotText93 written old new tool names (contents_of files names)

-- Nothing was written of the FILEs of the words, where they ask for a conversion: Console got the first rule that they break, or 199, which comes only where they break none.
pub record GotRefusal {S : Type 0} (written : S → Channel → Option (List ℕ)) (old new : S) (tool : List ℕ) (names contents : List (List ℕ)) : Type 0 where
  pub rule : Refused
  pub is_refused : IsRefused tool contents rule
  pub on_console : Appends (written old Console) (written new Console) (refusal_in names rule).console

abbrev pub RefusesFiles : {S : Type 0} → (S → Channel → Option (List ℕ)) → S → S → List (List ℕ) → List (List ℕ × List ℕ) → Type 0
RefusesFiles written old new words files =
    (tool : List ℕ) (names : List (List ℕ)) → job_of words ≡ converting tool names → GotRefusal written old new tool names (contents_of files names)

-- the words ask for a conversion of an acceptable file
pub record NamesAcceptable (words : List (List ℕ)) (files : List (List ℕ × List ℕ)) : Type 0 where
  pub tool : List ℕ
  pub file : List ℕ
  pub names : job_of words ≡ converting tool (file ∷ [])
  pub acceptable : IsAcceptable (content_of files file)

-- files of revision 2019 that break no rule, within the limits
pub record IsWithinRules (tool : List ℕ) (names contents : List (List ℕ)) : Type 0 where
  pub few_files : length names ≤ limit_number limits.Files
  pub few_bytes : total_length contents ≤ limit_number limits.Input
  pub meets : MeetsRules tool names contents

-- the words ask for a check of files that break no rule, within the limits
pub record ChecksLegal (words : List (List ℕ)) (files : List (List ℕ × List ℕ)) : Type 0 where
  pub tool : List ℕ
  pub names : List (List ℕ)
  pub asks : job_of words ≡ checking tool names
  pub legal : IsWithinRules tool names (contents_of files names)
