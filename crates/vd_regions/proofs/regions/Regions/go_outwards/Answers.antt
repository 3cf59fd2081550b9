use Rattle.std.proofs.Common.{◌≡◌, ◌-◌, [], subst}
use Rattle.vd_regions.specs.Found.{entered_in}
use Rattle.vd_regions.proofs.RunLemmas.{sees_on, sees_one, one_shorter}
use Rattle.vd_regions.proofs.regions.Regions.go_outwards.Goals as goal

pub loop-left-preserved : goal.loop-left-preserved
loop-left-preserved c =
    let s = c.args.self.now in
    let name = c.args.key.now.name.items in
    let at = c.loop-left.key.region in
    let is = c.loop-left.invariant in
    record {
      name = is.name;
      run = one_shorter s.regions c.args.run at is.run c.if-run-key.true;
      sees = sees_on s name c.args.key.now.region at (at - 1) is.sees
          (sees_one s name c.args.run at is.run c.if-run-key.true
          (subst (λ n. entered_in c.args.self.now c.loop-left.key.region n ≡ []) is.name (c.is_bare.ensures c.if-is_bare.true)));
    }
