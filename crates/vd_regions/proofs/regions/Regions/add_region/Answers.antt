use Rattle.std.proofs.Common.{List, sym, subst, ◌∙◌}
use Rattle.vd_regions.specs.declared.entries.Space.{Space}
use Rattle.vd_regions.specs.Runs.{AreRuns, BeginsAt}
use Rattle.vd_regions.proofs.RunLemmas.{runs_pushed}
use Rattle.vd_regions.proofs.regions.Regions.add_region.Goals as goal

pub invariant_of-self-2 : goal.invariant_of-self-2
invariant_of-self-2 c =
    let p : Space = record { outer = c.number-2.result; continues = c.args.continues; closed = c.args.closed; uses = c.new.result; run = c.run_of-run.result } in
    let begins : BeginsAt c.self.inside.spaces.items c.number-2.result c.args.continues c.run_of-run.result =
    subst (λ n. BeginsAt c.self.inside.spaces.items n c.args.continues c.run_of-run.result) (c.number.ensures ∙ sym c.number-2.ensures)
    (subst (λ ps. BeginsAt ps c.number.result c.args.continues c.run_of-run.result) c.deref.ensures.value c.run_of-run.ensures) in
    subst (λ ps. AreRuns ps) (sym {A = List Space} c.in_ok-push.ensures.items) (runs_pushed c.self.inside.spaces.items p begins c.self.invariant)
