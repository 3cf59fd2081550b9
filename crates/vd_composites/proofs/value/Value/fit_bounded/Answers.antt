use Rattle.std.proofs.Common.{subst, Some}
use Rattle.vd_composites.specs.Answers.{Answers}
use Rattle.vd_composites.specs.Nodes.{read, value_in}
use Rattle.vd_composites.specs.Subtypes.{Arrays, Records, no_more, fit}
use Rattle.vd_composites.proofs.ValueLemmas.{made_whole}
use Rattle.vd_composites.specs.declared.scalars.ScalarType.TheVariants.{Integers}
use Rattle.vd_composites.proofs.value.Value.fit_bounded.Goals as goal

pub value_from-requires : goal.value_from-requires
value_from-requires c =
    made_whole c.fit_bounded_nodes.result (fit (Arrays (record { of_type = Integers; range = c.args.bounds }) (Some c.args.bounds) (Records no_more)) (value_in (read c.self.inside.nodes.items)))
    (c.fit_bounded_nodes.ensures (record { of_type = Integers; range = c.args.bounds }) (Records no_more))

pub returns : goal.returns
returns c index of =
    subst (λ v. Answers c.value_from.result (fit (Arrays index (Some c.args.bounds) of) v)) c.self.view_is
    (c.value_from.ensures (fit (Arrays index (Some c.args.bounds) of) (value_in (read c.self.inside.nodes.items))) (c.fit_bounded_nodes.ensures index of))
