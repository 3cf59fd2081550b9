use Rattle.vd_known_lengths.proofs.OverLemmas.{selected_other}
use Rattle.vd_known_lengths.proofs.declared.selected_by_role.Goals as goal

pub returns-in_default : goal.returns-in_default
returns-in_default c =
    record {
      within = c.by_role.ensures.within;
      is = λ d k sees p.
          selected_other c.args.over.now.ground.subtypes.now c.by_role.result d k c.args.node p c.args.role c.in_default.not-Element (c.by_role.ensures.is d k sees);
    }
