use Rattle.std.proofs.Common.{◌≡◌, ◌+◌, [], ◌∷◌, length, ap, ◌∙◌, arith, length-append}
use Rattle.vd_shapes.proofs.EntryLemmas.{one_planted}
use Rattle.vd_shapes.proofs.entries.gather.Goals as goal

pub loop-entries-preserved-in-Some : goal.loop-entries-preserved-in-Some
loop-entries-preserved-in-Some c =
    let i = c.loop-entries.invariant in
    let p = one_planted c.args.store.now c.loop-entries.store c.plant.new.store c.args.tokens.now c.args.keep c.args.entries.now.items c.loop-entries.entries.items c.pop.new.self.items
    c.in-Some.entry c.loop-entries.made c.in_ok-made.made c.requires.within i.long i.kept c.in-Some.ensures.items i.extends i.holds c.in_ok-made.ensures.extends c.in_ok-made.ensures.holds in
    let one : length c.loop-entries.entries.items ≡ length c.pop.new.self.items + 1 = ap length c.in-Some.ensures.items ∙ length-append c.pop.new.self.items (c.in-Some.entry ∷ []) in
    record { base_in = omega (arith, one); long = p.long; kept = p.kept; extends = p.extends; holds = p.holds }
