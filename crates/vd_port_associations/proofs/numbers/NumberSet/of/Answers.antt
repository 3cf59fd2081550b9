use Rattle.std.proofs.Common.{◌+◌, ◌-◌, ◌<◌, ◌≡◌, ◌∙◌, ◌∷◌, ap, arith, drop, length, subst, sym}
use Rattle.std.proofs.lemmas.List.{drop_more}
use Rattle.vd_port_associations.specs.Numbers.{Holds}
use Rattle.vd_port_associations.proofs.numbers.NumberSet.of.Goals as goal

pub loop-left-preserved : goal.loop-left-preserved
loop-left-preserved c =
    let ns = c.args.numbers.now in
    let left = c.loop-left.left in
    let inv = c.loop-left.invariant in
    let less : left - 1 < length ns = omega (arith, inv.within, c.loop-left-test.true) in
    let one : left - 1 + 1 ≡ left = omega (arith, c.loop-left-test.true) in
    record {
      within = omega (arith, inv.within);
      put = subst (λ xs. Holds c.add.new.self xs) (sym (drop_more ns (left - 1) c.index-numbers-left.result less ∙ ap (λ x. x ∷ drop (left - 1 + 1) ns) (sym c.index-numbers-left.is) ∙ ap (λ k. c.index-numbers-left.result ∷ drop k ns) one))
          (c.in_ok-add.ensures (drop left ns) inv.put);
    }
