-- The reserved words, in lower case: those of revision 1993 first, and behind them those that revision 2019
-- adds in this profile. A word's number is its place in the list.
use Rattle.std.specs.Prelude.{ℕ, List, [], ◌∷◌, ◌++◌, codes}
use Rattle.vd_trees.specs.declared.revision.Revision.{Revision}
use Rattle.vd_trees.specs.declared.revision.Revision.TheVariants.{V2019, V1993}

abbrev pub words_1993 : List (List ℕ)
words_1993 =
    codes "abs" ∷ codes "access" ∷ codes "after" ∷ codes "alias" ∷ codes "all" ∷ codes "and" ∷
    codes "architecture" ∷ codes "array" ∷ codes "assert" ∷ codes "attribute" ∷ codes "begin" ∷
    codes "block" ∷ codes "body" ∷ codes "buffer" ∷ codes "bus" ∷ codes "case" ∷ codes "component" ∷
    codes "configuration" ∷ codes "constant" ∷ codes "disconnect" ∷ codes "downto" ∷ codes "else" ∷
    codes "elsif" ∷ codes "end" ∷ codes "entity" ∷ codes "exit" ∷ codes "file" ∷ codes "for" ∷
    codes "function" ∷ codes "generate" ∷ codes "generic" ∷ codes "group" ∷ codes "guarded" ∷ codes "if" ∷
    codes "impure" ∷ codes "in" ∷ codes "inertial" ∷ codes "inout" ∷ codes "is" ∷ codes "label" ∷
    codes "library" ∷ codes "linkage" ∷ codes "literal" ∷ codes "loop" ∷ codes "map" ∷ codes "mod" ∷
    codes "nand" ∷ codes "new" ∷ codes "next" ∷ codes "nor" ∷ codes "not" ∷ codes "null" ∷ codes "of" ∷
    codes "on" ∷ codes "open" ∷ codes "or" ∷ codes "others" ∷ codes "out" ∷ codes "package" ∷ codes "port" ∷
    codes "postponed" ∷ codes "procedure" ∷ codes "process" ∷ codes "pure" ∷ codes "range" ∷ codes "record" ∷
    codes "register" ∷ codes "reject" ∷ codes "rem" ∷ codes "report" ∷ codes "return" ∷ codes "rol" ∷
    codes "ror" ∷ codes "select" ∷ codes "severity" ∷ codes "shared" ∷ codes "signal" ∷ codes "sla" ∷
    codes "sll" ∷ codes "sra" ∷ codes "srl" ∷ codes "subtype" ∷ codes "then" ∷ codes "to" ∷
    codes "transport" ∷ codes "type" ∷ codes "unaffected" ∷ codes "units" ∷ codes "until" ∷ codes "use" ∷
    codes "variable" ∷ codes "wait" ∷ codes "when" ∷ codes "while" ∷ codes "with" ∷ codes "xnor" ∷
    codes "xor" ∷ []

abbrev pub words_added : List (List ℕ)
words_added =
    codes "assume" ∷ codes "context" ∷ codes "cover" ∷ codes "default" ∷ codes "fairness" ∷ codes "force" ∷
    codes "parameter" ∷ codes "private" ∷ codes "property" ∷ codes "protected" ∷ codes "release" ∷
    codes "restrict" ∷ codes "sequence" ∷ codes "strong" ∷ codes "view" ∷ codes "vmode" ∷ codes "vprop" ∷
    codes "vunit" ∷ []

abbrev pub reserved_words : Revision → List (List ℕ)
reserved_words V2019 = words_1993 ++ words_added
reserved_words V1993 = words_1993
