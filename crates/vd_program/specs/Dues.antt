-- What is due of a call: a status, and the bytes of each channel. The lines that the modes share.
use Rattle.std.specs.Prelude.{ℕ, List, [], ◌∷◌, ◌++◌, codes}
use Rattle.std.specs.Fmt.{decimal}
use Rattle.vd_bytes.specs.declared.answers.Refused.{Refused}
use Rattle.vd_bytes.specs.declared.answers.Limit.{Limit}
use Rattle.vd_bytes.specs.declared.answers.Limit.TheVariants as limits

pub record Due : Type 0 where
  pub status : ℕ
  pub design : List ℕ
  pub map : List ℕ
  pub console : List ℕ

-- nothing is due but these bytes on the console
abbrev pub console_alone : ℕ → List ℕ → Due
console_alone status console = record { status = status; design = []; map = []; console = console }

-- nothing is due but a line on the console. Each line ends with a newline byte (10)
abbrev pub line_alone : ℕ → List ℕ → Due
line_alone status text = console_alone status (text ++ 10 ∷ [])

abbrev pub refused_words : Due
refused_words = line_alone 2 (codes "refused words")

abbrev pub read_fault : List ℕ → Due
read_fault file = line_alone 3 (codes "read fault " ++ file)

-- LINE:COLUMN
abbrev pub place_text : Refused → List ℕ
place_text x = decimal x.place.line ++ (codes ":" ++ decimal x.place.column)

-- LINE:COLUMN: refused RULE
abbrev pub rule_text : Refused → List ℕ
rule_text x = place_text x ++ (codes ": refused " ++ decimal x.rule)

-- FILE:LINE:COLUMN: refused RULE
abbrev pub refusal : List ℕ → Refused → Due
refusal file x = line_alone 1 (file ++ (codes ":" ++ rule_text x))

abbrev pub limit_name : Limit → List ℕ
limit_name limits.Files = codes "files"
limit_name limits.Input = codes "input"
limit_name limits.Tokens = codes "tokens"
limit_name limits.Nesting = codes "nesting"
limit_name limits.Units = codes "units"
limit_name limits.Nodes = codes "nodes"
limit_name limits.Nesting93 = codes "nesting93"
limit_name limits.Output = codes "output"
limit_name limits.Signals = codes "signals"
limit_name limits.Processes = codes "processes"
limit_name limits.Depth = codes "depth"

abbrev pub limit_number : Limit → ℕ
limit_number limits.Files = 64
limit_number limits.Input = 8388608
limit_number limits.Tokens = 2000000
limit_number limits.Nesting = 200
limit_number limits.Units = 4096
limit_number limits.Nodes = 4000000
limit_number limits.Nesting93 = 2000
limit_number limits.Output = 67108864
limit_number limits.Signals = 1000000
limit_number limits.Processes = 100000
limit_number limits.Depth = 64

-- limit NAME NUMBER
abbrev pub limit_passed : Limit → Due
limit_passed limit = line_alone 6 (codes "limit " ++ (limit_name limit ++ (codes " " ++ decimal (limit_number limit))))
