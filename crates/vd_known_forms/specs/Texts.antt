-- The texts of identifiers and character literals, as they are searched for.
use Rattle.std.specs.Prelude.{◌++◌, ◌∷◌, List, None, Option, Some, [], if◌then◌else◌, ℕ}
use Rattle.vd_walks.specs.Finding.{Finder}
use Rattle.vd_function_names.specs.Counting.{behind, counted, counts, inside}
use Rattle.vd_function_names.specs.declared.counting.Counted.{Counted}
use Rattle.vd_function_names.specs.declared.counting.Counted.TheVariants.{NoTrees}
use Rattle.vd_function_names.specs.declared.counting.Counting.{Counting}
use Rattle.vd_function_names.specs.declared.counting.Counting.TheVariants.{Character, Itself}
use Rattle.vd_meaning.specs.Kinds.{kind}
use Rattle.vd_resolved.specs.declared.node.Resolved.{Resolved}

-- an identifier as it stands, a character literal between apostrophes
abbrev pub own_text : Counting → List ℕ → Option (List ℕ)
own_text Itself text = Some text
own_text Character text = Some (39 ∷ (text ++ 39 ∷ []))
own_text _ text = None

abbrev pub text_finder : Finder Resolved Counted (List ℕ)
text_finder = record {
  answer = λ c n text place parts. if counts c then own_text (counted (kind n.form)) text else None;
  down = λ c n text place parts. if counts c then inside (counted (kind n.form)) else NoTrees;
  along = λ c n text place parts. behind c;
}
