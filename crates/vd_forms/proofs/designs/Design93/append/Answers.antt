use Rattle.std.proofs.Common.{sym, subst}
use Rattle.vd_trees.specs.declared.revision.Revision.TheVariants.{V1993}
use Rattle.vd_forms.specs.Validity.{IsDesign}
use Rattle.vd_forms.proofs.DesignLemmas.{kept_design, held_design}
use Rattle.vd_forms.proofs.designs.Design93.append.Goals as goal

pub invariant_of-self-2 : goal.invariant_of-self-2
invariant_of-self-2 c =
    let k = c.in_ok-self-inside.ensures.holds in
    let own = kept_design V1993 c.self.inside.store c.copied_93.new.store c.self.inside.units c.in_ok-behind.ensures.extends c.self.invariant.0 c.self.invariant.1 in
    let added = subst (IsDesign V1993) (sym c.in_ok-behind.ensures.holds.is) c.in_ok-behind.ensures.valid in
    (k.within, held_design V1993 c.in_front.new.store c.in_ok-self-inside.field-0 _ _ k own added)
