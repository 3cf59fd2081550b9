-- Lines that are directives, and their forms. (IEEE 1076-2019, conditional analysis tool directives.)
use Rattle.std.specs.Prelude.{ℕ, Bool, ◌||◌, ◌==◌, List, [], ◌∷◌, take, drop, Option, Some, None, codes, if◌then◌else◌}
use Rattle.std.specs.Str.{bytes_eq}
use Rattle.vd_trees.specs.Identifiers.{lowered}
use Rattle.vd_directives.specs.declared.kinds.Kind.{Kind}
use Rattle.vd_directives.specs.declared.kinds.Kind.TheVariants.{Plain, If, Elsif, Else, End, Warning, Error, Broken, Unknown}
use Rattle.vd_directives.specs.declared.kinds.Head.{Head}
use Rattle.vd_directives.specs.declared.kinds.Head.TheVariants as heads
use Rattle.vd_directives.specs.declared.pieces.Piece.{Piece}
use Rattle.vd_directives.specs.declared.pieces.Piece.TheVariants.{Word, Quoted}
use Rattle.vd_directives.specs.Conditions.{condition_of}
use Rattle.vd_directives.specs.Pieces.{run_length, word_length, pieces_of}

-- space and tab may stand in front of the backquote
abbrev pub is_blank : ℕ → Bool
is_blank b = b == 32 || b == 9

abbrev pub blank_length : List ℕ → ℕ
blank_length = run_length is_blank

-- the word behind the backquote, with no spacing in between
abbrev pub head_of : List ℕ → Head
head_of word =
    if bytes_eq word (codes "if") then heads.If
    else (if bytes_eq word (codes "elsif") then heads.Elsif
    else (if bytes_eq word (codes "else") then heads.Else
    else (if bytes_eq word (codes "end") then heads.End
    else (if bytes_eq word (codes "warning") then heads.Warning
    else (if bytes_eq word (codes "error") then heads.Error
    else heads.Other)))))

abbrev pub if_of : Option Bool → Kind
if_of None = Broken
if_of (Some condition) = If condition

abbrev pub elsif_of : Option Bool → Kind
elsif_of None = Broken
elsif_of (Some condition) = Elsif condition

abbrev pub else_of : List Piece → Kind
else_of [] = Else
else_of (p ∷ ps) = Broken

-- `end` and `end if`
abbrev pub end_of : List Piece → Kind
end_of [] = End
end_of (Word word ∷ []) = if bytes_eq word (codes "if") then End else Broken
end_of (p ∷ ps) = Broken

-- the text that pieces are, where they are just one
abbrev pub only_text : List Piece → Option (List ℕ)
only_text (Quoted text ∷ []) = Some text
only_text ps = None

abbrev pub warning_of : Option (List ℕ) → Kind
warning_of None = Unknown
warning_of (Some text) = Warning text

abbrev pub error_of : Option (List ℕ) → Kind
error_of None = Unknown
error_of (Some text) = Error

-- what a directive is whose head is followed by what isn't made of pieces
abbrev pub formless : Head → Kind
formless heads.If = Broken
formless heads.Elsif = Broken
formless heads.Else = Broken
formless heads.End = Broken
formless head = Unknown

abbrev pub with_pieces : List ℕ → Head → List Piece → Kind
with_pieces tool heads.If ps = if_of (condition_of tool ps)
with_pieces tool heads.Elsif ps = elsif_of (condition_of tool ps)
with_pieces tool heads.Else ps = else_of ps
with_pieces tool heads.End ps = end_of ps
with_pieces tool heads.Warning ps = warning_of (only_text ps)
with_pieces tool heads.Error ps = error_of (only_text ps)
with_pieces tool heads.Other ps = Unknown

abbrev pub kind_with : List ℕ → Head → Option (List Piece) → Kind
kind_with tool head None = formless head
kind_with tool head (Some ps) = with_pieces tool head ps

-- what stands behind the backquote
abbrev pub directive_of : List ℕ → List ℕ → Kind
directive_of tool text = kind_with tool (head_of (lowered (take (word_length text) text))) (pieces_of (drop (word_length text) text))

-- what stands from the first byte on that is neither space nor tab: a directive where that is a backquote (96)
abbrev pub kind_from : List ℕ → List ℕ → Kind
kind_from tool [] = Plain
kind_from tool (b ∷ text) = if b == 96 then directive_of tool text else Plain

-- what a line is
abbrev pub kind_of : List ℕ → List ℕ → Kind
kind_of tool line = kind_from tool (drop (blank_length line) line)
