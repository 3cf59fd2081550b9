use Rattle.std.proofs.Common.{◌∷◌, subst, sym}
use Rattle.vd_known_generics.proofs.InstanceLemmas.{table_changed}
use Rattle.vd_known_generics.specs.Copied.{AreCopied}
use Rattle.vd_known_generics.proofs.instances.taken.Goals as goal

pub returns-clause-knows : goal.returns-clause-knows
returns-clause-knows c = λ d from k ks knows.
    let x = c.args.design.now in
    c.set_copies.ensures.knows d from k ks c.args.copies.now
    (subst (λ fs. AreCopied fs d.table from c.in_ok-copied.copied.items c.args.copies.now) (sym c.back.ensures.same) (c.in_ok-copied.ensures d from (k ∷ ks) knows))
    (table_changed d x c.back.new.self (from ∷ k ∷ ks) (k ∷ ks) c.back.ensures.same knows (λ table. c.back.ensures.known d.table from k ks table))
