use Rattle.std.proofs.Common.{◌∙◌, [], ◌∷◌, sym, subst, reverse, arith}
use Rattle.std.specs.List.{AllByRecursion}
use Rattle.std.proofs.Common.{length}
use Rattle.vd_shapes.specs.Standing.{IsEntryOf}
use Rattle.vd_shapes.proofs.EntryLemmas.{all_of_both}
use Rattle.vd_shapes.proofs.StandingLemmas.{leaf_taken}
use Rattle.vd_shapes.proofs.growing.Growing.take.Goals as goal

pub returns-in_ok-push-in-Some-leaf_form-clause-stands : goal.returns-in_ok-push-in-Some-leaf_form-clause-stands
returns-in_ok-push-in-Some-leaf_form-clause-stands c = λ m h.
    let g = c.args.self.now in
    record {
      within = subst (AllByRecursion (IsEntryOf (length g.store))) (sym c.in_ok-push-in-Some-leaf_form.ensures.items) (all_of_both (IsEntryOf (length g.store)) g.entries.items (_ ∷ []) h.within (omega arith, tt));
      taken = omega (arith, h.taken);
      frames = leaf_taken g.actions.now g.tokens.now g.store (reverse g.frames.items) m.open_ones g.entries.items c.push.new.self.items c.in-Some-leaf_form.form g.taken m.taken c.args.symbol m.so_far h.frames
          c.in_ok-push-in-Some-leaf_form.ensures.items h.taken (sym c.leaf_form.ensures ∙ c.in-Some-leaf_form.is);
    }
