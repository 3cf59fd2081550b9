use Rattle.std.proofs.Common.{◌≡◌, ◌++◌, ◌||◌, List}
use Rattle.vd_composites.specs.Composites.{Value}
use Rattle.vd_meaning.specs.Facets.{ByMatching}
use Rattle.vd_value_rules.specs.Choices.{any_matches}
use Rattle.vd_values.specs.declared.scalar.Scalar.{Scalar}
use Rattle.vd_given_choices.proofs.matching.add_matching.Given as goal

abbrev pub invariant-loop-value : goal.invariant-loop-value
invariant-loop-value l = record {
  matches : (zs : List (Value Scalar)) → (l.found || any_matches (ByMatching l.of) l.before.items zs) ≡ any_matches (ByMatching l.of) l.fn.before.items (l.yielded ++ zs);
  joined : l.before.items ≡ l.fn.before.items ++ l.yielded;
}
