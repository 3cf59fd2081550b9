use Rattle.std.proofs.Common.{◌∷◌, ◌≡◌, [], subst, sym, ◌∙◌}
use Rattle.std.proofs.lemmas.Iterator.Adapters.{YieldsList-from_vec}
use Rattle.std.proofs.lemmas.Iterator.Consumers.{YieldsList-end}
use Rattle.vd_given_choices.proofs.ChoiceLemmas.{none_behind, one_more, same_map, walked_end, walked_more}
use Rattle.vd_meaning.specs.Meanings.{meanings}
use Rattle.vd_static_values.specs.Nodes.{AreNodes}
use Rattle.vd_given_choices.proofs.choices.with_places.Goals as goal

pub loop-node-preserved : goal.loop-node-preserved
loop-node-preserved c = λ d subtypes e zs are.
    let node = c.in-Some.node in
    let moved = subst (λ l. AreNodes subtypes e l (meanings d.table c.args.trees.now)) (one_more c.loop-node.yielded zs node) are in
    walked_more d subtypes e c.args.trees.now c.loop-node.rest c.next-rest.result zs c.loop-node.choices.items c.push.new.self.items node c.in_ok-choice.choice c.place_of.result
    c.place_of.ensures c.next-rest.ensures c.in_ok-push.ensures.items (c.loop-node.invariant d subtypes e (node ∷ zs) moved)
    (λ m is. c.in_ok-choice.ensures subtypes e m is)

pub returns : goal.returns
returns c = λ d subtypes e are.
    let gives = c.into_iter-node-iterator.ensures.into_iter_gives in
    let ended = YieldsList-end (YieldsList-from_vec c.args.nodes.items gives.0 (gives.1 ∙ c.args.nodes.ok.0)) c.loop-node.yielded c.loop-node.node-iterator c.loop-node.yielded_by c.next.result c.next.new.self c.in-None.is c.next.ensures.steps in
    let all : c.loop-node.yielded ≡ c.args.nodes.items = sym (same_map c.loop-node.yielded) ∙ ended.0 in
    walked_end d subtypes e c.args.trees.now c.loop-node.rest c.loop-node.choices.items
    (c.loop-node.invariant d subtypes e []
    (subst (λ l. AreNodes subtypes e l (meanings d.table c.args.trees.now)) (sym (none_behind c.loop-node.yielded ∙ all)) are))
