use Rattle.std.proofs.Common.{◌+◌, arith, refl, subst, take_all}
use Rattle.vd_known_generics.proofs.CopyLemmas.{copied_step}
use Rattle.vd_known_generics.specs.Copied.{AreCopied}
use Rattle.vd_known_generics.proofs.copies.all_copied.Goals as goal

pub loop-copy-preserved : goal.loop-copy-preserved
loop-copy-preserved c = λ d k ks knows.
    let at = c.loop-copy.copy-index in
    copied_step c.args.design.now.table.subtypes d.table k c.loop-copy.found.items c.push.new.self.items c.in_ok-one.one c.args.copies.now at (at + 1) _ _ (c.loop-copy.invariant d k ks knows)
    (c.in_ok-one.ensures d k ks knows) refl c.loop-copy-test.true (omega arith) c.in_ok-push.ensures.items

pub returns : goal.returns
returns c = λ d k ks knows.
    subst (λ l. AreCopied c.args.design.now.table.subtypes d.table k c.loop-copy.found.items l)
    (take_all c.loop-copy.copy-index c.args.copies.now c.loop-copy-test.false) (c.loop-copy.invariant d k ks knows)
