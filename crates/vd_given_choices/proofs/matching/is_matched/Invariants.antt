use Rattle.std.proofs.Common.{◌≡◌, drop}
use Rattle.std.specs.List.{list_any}
use Rattle.vd_meaning.specs.Facets.{ByMatching}
use Rattle.vd_value_rules.specs.Choices.{match}
use Rattle.vd_given_choices.proofs.matching.is_matched.Given as goal

abbrev pub invariant-loop-earlier : goal.invariant-loop-earlier
invariant-loop-earlier l =
    list_any (λ w. match (ByMatching l.of) w l.value) (drop l.earlier-index l.before) ≡ list_any (λ w. match (ByMatching l.of) w l.value) l.before
