-- The identifiers and literals of a list, and what the first of some trees is called by.
use Rattle.std.specs.Prelude.{List, None, Option, Some, [], if◌then◌else◌, ℕ, ◌++◌, ◌∷◌}
use Rattle.vd_body_rules.specs.declared.identified.Saying.{Saying}
use Rattle.vd_walks.specs.Finding.{Finder}
use Rattle.vd_function_names.specs.Counting.{behind, counted, counts, inside}
use Rattle.vd_function_names.specs.declared.counting.Counted.{Counted}
use Rattle.vd_function_names.specs.declared.counting.Counting.{Counting}
use Rattle.vd_meaning.specs.Kinds
use Rattle.vd_resolved.specs.declared.node.Resolved.{Resolved}
use Rattle.vd_body_rules.specs.declared.identified.Saying.TheVariants as saying
use Rattle.vd_function_names.specs.declared.counting.Counted.TheVariants as trees
use Rattle.vd_function_names.specs.declared.counting.Counting.TheVariants as counting

-- a character literal with its apostrophes
abbrev pub character : List ℕ → List ℕ
character text = 39 ∷ (text ++ 39 ∷ [])

abbrev pub own_text : Counting → List ℕ → Option (List ℕ)
own_text counting.Itself text = Some text
own_text counting.Character text = Some (character text)
own_text _ text = None

-- the texts of some trees, as they are searched for
abbrev pub text_finder : Finder Resolved Counted (List ℕ)
text_finder = record {
  answer = λ c n text place parts. if counts c then own_text (counted (Kinds.kind n.form)) text else None;
  down = λ c n text place parts. if counts c then inside (counted (Kinds.kind n.form)) else trees.NoTrees;
  along = λ c n text place parts. behind c;
}

-- which node says what a tree is called by: the tree itself, one of its parts, or none
abbrev pub said : Kinds.Kind → Saying
said Kinds.NotThere = saying.Nothing
said Kinds.Associated = saying.SecondPart
said Kinds.AssociatedOthers = saying.FirstPart
said Kinds.OpenIndex = saying.FirstPart
said Kinds.NewType = saying.Nothing
said Kinds.NewSubtype = saying.Nothing
said Kinds.NewConstants = saying.Nothing
said Kinds.NewVariables = saying.Nothing
said Kinds.NewFunction = saying.Nothing
said Kinds.NewInstance = saying.Nothing
said Kinds.Sequence = saying.Nothing
said Kinds.Labelled = saying.Nothing
said Kinds.AssignSignal = saying.Nothing
said Kinds.AssignVariable = saying.Nothing
said Kinds.SelectSignal = saying.Nothing
said Kinds.SelectVariable = saying.Nothing
said Kinds.If = saying.Nothing
said Kinds.Case = saying.Nothing
said Kinds.Suspend = saying.Nothing
said Kinds.Asserting = saying.Nothing
said Kinds.Reporting = saying.Nothing
said Kinds.Giving = saying.Nothing
said (Kinds.Jumping out) = saying.Nothing
said Kinds.AssignConcurrently = saying.Nothing
said _ = saying.Itself
