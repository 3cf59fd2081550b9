use Rattle.std.proofs.Common.{◌∷◌, subst}
use Rattle.vd_known_indications.proofs.PlaceLemmas.{has_subtypes}
use Rattle.vd_known_designs.specs.Known.{AreKnown}
use Rattle.vd_given_choices.proofs.MatchingRefusalLemmas.{choice_end, choice_more}
use Rattle.vd_meaning.specs.Facets.{ByMatching}
use Rattle.vd_given_choices.proofs.choices_that_match.first_matching.Goals as goal

pub choice_values-requires : goal.choice_values-requires
choice_values-requires c =
    record { subtypes = has_subtypes c.args.design.now c.ground-ground.result c.requires.ready c.ground-ground.ensures.known c.ground-ground.ensures.subtypes }

pub loop-choice-preserved : goal.loop-choice-preserved
loop-choice-preserved c = λ e gs ground are.
    choice_more (ByMatching c.args.of) e c.args.choices.now gs are c.loop-choice.choice-index c.loop-choice.found c.loop-choice.before.items c.choice-item.result
    c.in_ok-values.values.items c.add_matching.new.before.items c.in_ok-matches.matches c.refused_if-refused.result c.lesser-found.result _ c.loop-choice-test.true
    c.choice-item.is (λ g is. c.in_ok-values.ensures e g ground is) c.in_ok-matches.ensures.matches c.in_ok-matches.ensures.joined c.refused_if-refused.ensures
    c.lesser-found.ensures (c.loop-choice.invariant e gs ground are)

pub returns : goal.returns
returns c = record {
  matching = λ d k ks gs knows are.
      let ground = c.ground-ground.ensures.known k ks (subst (λ t. AreKnown t c.args.design.now.table (k ∷ ks)) knows.table knows.known) in
      choice_end (ByMatching c.args.of) k.env c.args.choices.now gs are c.loop-choice.choice-index c.loop-choice.found c.loop-choice.before.items c.loop-choice-test.false
      (c.loop-choice.invariant k.env gs ground are);
}
