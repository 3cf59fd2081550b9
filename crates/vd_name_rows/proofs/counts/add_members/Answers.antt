use Rattle.std.proofs.Common.{arith, ap, ◌∙◌}
use Rattle.vd_regions.specs.Scopes.{entered_at}
use Rattle.vd_name_rows.proofs.MemberLemmas.{next_members}
use Rattle.vd_name_rows.proofs.counts.add_members.Goals as goal

pub loop-next-preserved : goal.loop-next-preserved
loop-next-preserved c = record {
  within = omega (arith, c.loop-next-test.true);
  members =
      next_members c.args.regions.now c.loop-next.next c.number.result c.of-id.result c.loop-next.members c.add.new.self
      (c.number.ensures ∙ c.region_of.ensures ∙ ap (λ k. (entered_at c.args.regions.now k).region) c.of-id.ensures) c.of-id.ensures
      (omega (arith, c.loop-next-test.true, c.requires.inside)) c.loop-next.invariant.members c.in_ok-add.ensures;
}
