use Rattle.std.proofs.Common.{◌≡◌, sym, ◌∙◌}
use Rattle.std.proofs.lemmas.Iterator.Adapters.{YieldsList-from_vec}
use Rattle.std.proofs.lemmas.Iterator.Consumers.{YieldsList-end}
use Rattle.vd_given_choices.proofs.ChoiceLemmas.{same_map}
use Rattle.vd_given_choices.proofs.MatchLemmas.{matches_all}
use Rattle.vd_meaning.specs.Facets.{ByMatching}
use Rattle.vd_given_choices.proofs.matching.add_matching.Goals as goal

pub returns-clause-matches : goal.returns-clause-matches
returns-clause-matches c =
    let gives = c.into_iter-value-iterator.ensures.into_iter_gives in
    let ended = YieldsList-end (YieldsList-from_vec c.args.values.items gives.0 (gives.1 ∙ c.args.values.ok.0)) c.loop-value.yielded c.loop-value.value-iterator c.loop-value.yielded_by c.next.result c.next.new.self c.in-None.is c.next.ensures.steps in
    let all : c.loop-value.yielded ≡ c.args.values.items = sym (same_map c.loop-value.yielded) ∙ ended.0 in
    matches_all (ByMatching c.args.of) c.args.before.now.items c.loop-value.before.items c.loop-value.yielded c.args.values.items c.loop-value.found
    c.loop-value.invariant.matches all
