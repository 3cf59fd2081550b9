use Rattle.std.proofs.Common.{arith}
use Rattle.vd_trees.specs.declared.revision.Revision.TheVariants.{V2019}
use Rattle.vd_forms.proofs.DesignLemmas.{one_more_copied}
use Rattle.vd_forms.proofs.designs.copied_19.Goals as goal

pub loop-left-preserved : goal.loop-left-preserved
loop-left-preserved c =
    let i = c.loop-left.invariant in
    let more = one_more_copied V2019 c.args.store.now c.loop-left.store c.copied_in_front.new.store c.args.others.now c.loop-left.left c.loop-left.made c.in_ok-made.made
    c.units-units.result c.index-others-left.result (omega arith) i.within c.index-others-left.is c.units-units.ensures.units c.units-units.ensures.valid
    i.extends i.holds i.valid c.in_ok-made.ensures.extends c.in_ok-made.ensures.holds in
    record { within = omega (arith, i.within); extends = more.extends; holds = more.holds; valid = more.valid }
