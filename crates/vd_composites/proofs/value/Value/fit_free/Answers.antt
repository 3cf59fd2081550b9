use Rattle.std.proofs.Common.{subst, None}
use Rattle.vd_composites.specs.Answers.{Answers}
use Rattle.vd_composites.specs.Nodes.{read, value_in}
use Rattle.vd_composites.specs.Subtypes.{Arrays, Records, no_more, fit}
use Rattle.vd_composites.proofs.ValueLemmas.{made_whole}
use Rattle.vd_composites.proofs.value.Value.fit_free.Goals as goal

pub value_from-requires : goal.value_from-requires
value_from-requires c = made_whole c.fit_free_nodes.result (fit (Arrays c.args.index None (Records no_more)) (value_in (read c.self.inside.nodes.items))) (c.fit_free_nodes.ensures (Records no_more))

pub returns : goal.returns
returns c of =
    subst (λ v. Answers c.value_from.result (fit (Arrays c.args.index None of) v)) c.self.view_is
    (c.value_from.ensures (fit (Arrays c.args.index None of) (value_in (read c.self.inside.nodes.items))) (c.fit_free_nodes.ensures of))
