use Rattle.std.proofs.Common.{subst}
use Rattle.vd_composites.specs.Answers.{Answers}
use Rattle.vd_composites.specs.Nodes.{read, value_in}
use Rattle.vd_composites.specs.Subtypes.{Records, fit}
use Rattle.vd_composites.proofs.ValueLemmas.{made_whole}
use Rattle.vd_composites.proofs.FitLaws.{some_fields, so_many_fields}
use Rattle.vd_composites.proofs.value.Value.fit_record.Goals as goal

pub value_from-requires : goal.value_from-requires
value_from-requires c = made_whole c.fit_record_nodes.result (fit (Records (some_fields c.args.fields)) (value_in (read c.self.inside.nodes.items))) (c.fit_record_nodes.ensures (some_fields c.args.fields) (so_many_fields c.args.fields))

pub returns : goal.returns
returns c of many =
    subst (λ v. Answers c.value_from.result (fit (Records of) v)) c.self.view_is
    (c.value_from.ensures (fit (Records of) (value_in (read c.self.inside.nodes.items))) (c.fit_record_nodes.ensures of many))
