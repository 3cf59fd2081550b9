-- The types of scalar signals, as printing sees them.
use Rattle.std.specs.Prelude.{ℕ, List, map}
use Rattle.std.specs.Borrow.{Bor}
use Rattle.vd_trees.specs.ValueTexts.{ScalarType, integers, times, enumeration}
use Rattle.vd_trace_text.specs.declared.types.Kind.{Kind}
use Rattle.vd_trace_text.specs.declared.types.Kind.TheVariants.{Integers, Times, Enumeration}

abbrev pub type_of : Kind → ScalarType
type_of Integers = integers
type_of Times = times
type_of (Enumeration literals) = enumeration literals.items

abbrev pub types_behind : List (Bor ScalarType) → List ScalarType
types_behind types = map (λ (t : Bor ScalarType). t.now) types

abbrev pub texts_behind : List (Bor (List ℕ)) → List (List ℕ)
texts_behind texts = map (λ (t : Bor (List ℕ)). t.now) texts
