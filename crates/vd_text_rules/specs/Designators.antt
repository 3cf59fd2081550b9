-- Which operator symbols a function may have as its designator. (IEEE 1076, operators; operator overloading)
use Rattle.std.specs.Prelude.{ℕ, ◌+◌, ◌==◌, Bool, true, false, ◌&&◌, ◌||◌, List, [], ◌∷◌, Option, Some, None, codes}
use Rattle.std.specs.List.{list_any}
use Rattle.std.specs.Str.{str_eq_ignore_ascii_case}
use Rattle.vd_trees.specs.declared.revision.Revision.{Revision}
use Rattle.vd_trees.specs.declared.revision.Revision.TheVariants.{V2019, V1993}
use Rattle.vd_forest.specs.Forest.{Forest, nothing, more, parts_of, skipped, tree_count}
use Rattle.vd_forms.specs.declared.form.Form.{Form}
use Rattle.vd_forms.specs.declared.form.Form.TheVariants as form

-- ---- symbols, in either case of letters

abbrev pub is_one_of : List (List ℕ) → List ℕ → Bool
is_one_of symbols text = list_any (str_eq_ignore_ascii_case text) symbols

abbrev pub logical : List (List ℕ)
logical = codes "and" ∷ codes "or" ∷ codes "nand" ∷ codes "nor" ∷ codes "xor" ∷ codes "xnor" ∷ []

abbrev pub relational : List (List ℕ)
relational = codes "=" ∷ codes "/=" ∷ codes "<" ∷ codes "<=" ∷ codes ">" ∷ codes ">=" ∷ []

abbrev pub matching : List (List ℕ)
matching = codes "?=" ∷ codes "?/=" ∷ codes "?<" ∷ codes "?<=" ∷ codes "?>" ∷ codes "?>=" ∷ []

abbrev pub shifts : List (List ℕ)
shifts = codes "sll" ∷ codes "srl" ∷ codes "sla" ∷ codes "sra" ∷ codes "rol" ∷ codes "ror" ∷ []

abbrev pub signs : List (List ℕ)
signs = codes "+" ∷ codes "-" ∷ []

abbrev pub other_binary : List (List ℕ)
other_binary = codes "&" ∷ codes "*" ∷ codes "/" ∷ codes "mod" ∷ codes "rem" ∷ codes "**" ∷ []

abbrev pub other_unary : List (List ℕ)
other_unary = codes "abs" ∷ codes "not" ∷ []

-- ---- operators with one operand and with two

abbrev pub is_2019 : Revision → Bool
is_2019 V2019 = true
is_2019 V1993 = false

-- in 2019 each logical operator is also a reduction
abbrev pub is_unary : Revision → List ℕ → Bool
is_unary r text =
    is_one_of signs text || is_one_of other_unary text || (is_2019 r && (is_one_of logical text || is_one_of (codes "??" ∷ []) text))

abbrev pub is_binary : Revision → List ℕ → Bool
is_binary r text =
    is_one_of logical text || is_one_of relational text || is_one_of shifts text || is_one_of signs text || is_one_of other_binary text
    || (is_2019 r && is_one_of matching text)

-- an operator of the revision with as many operands
abbrev pub is_operator : Revision → List ℕ → ℕ → Bool
is_operator r text operands = (operands == 1 && is_unary r text) || (operands == 2 && is_binary r text)

-- ---- functions

-- where the parameters of a function stand, whose designator is its second part
abbrev pub parameters_part : Form → Option ℕ
parameters_part form.FunctionDeclaration = Some 4
parameters_part form.FunctionBody = Some 4
parameters_part form.GenericFunction = Some 2
parameters_part _ = None

-- how many parameters some declarations have: the identifiers of each one's list
abbrev pub parameter_count : Forest Form → ℕ
parameter_count nothing = 0
parameter_count (more f text place parts next) = tree_count (parts_of (skipped 1 parts)) + parameter_count next
