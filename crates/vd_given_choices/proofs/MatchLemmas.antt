-- Values that match earlier ones, all together.
use Rattle.std.proofs.Common.{◌≡◌, ◌++◌, ◌||◌, Bool, List, [], ap, false, refl, sym, true, ◌∙◌}
use Rattle.vd_composites.specs.Composites.{Value}
use Rattle.vd_given_choices.proofs.ChoiceLemmas.{none_behind}
use Rattle.vd_meaning.specs.Facets.{Comparison}
use Rattle.vd_value_rules.specs.Choices.{any_matches}
use Rattle.vd_values.specs.declared.scalar.Scalar.{Scalar}

nothing_or : (b : Bool) → (b || false) ≡ b
nothing_or true = refl
nothing_or false = refl

pub matches_all : (c : Comparison) (first before yielded vs : List (Value Scalar)) (found : Bool)
    → ((zs : List (Value Scalar)) → (found || any_matches c before zs) ≡ any_matches c first (yielded ++ zs)) → yielded ≡ vs → found ≡ any_matches c first vs
matches_all c first before yielded vs found so_far all =
    sym (nothing_or found) ∙ so_far [] ∙ ap (any_matches c first) (none_behind yielded ∙ all)
