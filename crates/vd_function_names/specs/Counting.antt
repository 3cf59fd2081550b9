-- Where the declarations stand that a list of identifiers declares.
use Rattle.std.specs.Prelude.{ℕ, Bool, true, false, Option, None, if◌then◌else◌}
use Rattle.vd_walks.specs.Finding.{Finder}
use Rattle.vd_function_names.specs.declared.counting.Counted.{Counted}
use Rattle.vd_function_names.specs.declared.counting.Counting.{Counting}
use Rattle.vd_meaning.specs.Kinds
use Rattle.vd_resolved.specs.declared.node.Resolved.{Resolved}
use Rattle.vd_function_names.specs.declared.counting.Counted.TheVariants as trees
use Rattle.vd_function_names.specs.declared.counting.Counting.TheVariants as counting

-- ---- of one node: it carries one itself, or they stand in its parts

abbrev pub counted : Kinds.Kind → Counting
counted Kinds.Word = counting.Itself
counted Kinds.CharacterLiteral = counting.Character
counted Kinds.Identifiers = counting.AllParts
counted Kinds.Associated = counting.SecondPart
counted Kinds.AssociatedOthers = counting.FirstPart
counted Kinds.OpenIndex = counting.FirstPart
counted _ = counting.Nowhere

abbrev pub own_number : Counting → Option ℕ → Option ℕ
own_number counting.Itself number = number
own_number _ number = None

-- ---- of trees side by side: those of each, of the first, of the second, or of none

abbrev pub counts : Counted → Bool
counts trees.Each = true
counts trees.FirstAlone = true
counts trees.SecondAlone = false
counts trees.NoTrees = false

abbrev pub behind : Counted → Counted
behind trees.Each = trees.Each
behind trees.FirstAlone = trees.NoTrees
behind trees.SecondAlone = trees.FirstAlone
behind trees.NoTrees = trees.NoTrees

abbrev pub inside : Counting → Counted
inside counting.AllParts = trees.Each
inside counting.FirstPart = trees.FirstAlone
inside counting.SecondPart = trees.SecondAlone
inside _ = trees.NoTrees

-- the numbers of some trees, as they are searched for
abbrev pub number_finder : Finder Resolved Counted ℕ
number_finder = record {
  answer = λ c n text place parts. if counts c then own_number (counted (Kinds.kind n.form)) n.declaration else None;
  down = λ c n text place parts. if counts c then inside (counted (Kinds.kind n.form)) else trees.NoTrees;
  along = λ c n text place parts. behind c;
}
