use Rattle.std.proofs.Common.{◌≡◌, ◌-◌, ◌++◌, ◌∷◌, [], length, sym, ap, ◌∙◌, arith, append_assoc}
use Rattle.vd_regions.specs.Scopes.{stands_in}
use Rattle.vd_regions.specs.Found.{entered_below}
use Rattle.vd_regions.specs.Links.{newest_below}
use Rattle.vd_regions.proofs.LinkLemmas.{GoesOn, link_in, goes_on, newest_small, newest_again, entered_skip}
use Rattle.vd_regions.proofs.catalog.Catalog.add_entered.Goals as goal
use Rattle.vd_regions.proofs.catalog.Catalog.add_entered.Goals.{After-index}

pub loop-left-init : goal.loop-left-init
loop-left-init c =
    let es = c.args.self.now in
    let test = stands_in c.args.key.now.region c.args.key.now.name.items in
    let head : c.table-left.result.newest ≡ newest_below test es (length es) = c.table-left.ensures.leads in
    record {
      within = omega (arith, head, newest_small test es (length es));
      newest = ap (newest_below test es) head ∙ newest_again test es (length es) ∙ sym head;
      same = ap (λ n. c.args.found.now.items ++ entered_below test es n) head
          ∙ ap (λ ks. c.args.found.now.items ++ ks) (sym (entered_skip test es (length es)));
    }

on : (c : After-index) → GoesOn c.args.self.now c.args.key.now.region c.args.key.now.name.items c.loop-left.left c.index.result.now.before
on c =
    goes_on c.args.self.now c.args.key.now.region c.args.key.now.name.items c.loop-left.left c.index.result.now c.loop-left-test.true
    (link_in c.self.inside.links.items c.args.self.now c.args.key.now.region c.args.key.now.name.items c.loop-left.left c.index.result.now
    (c.self.view_is) c.self.invariant.linked c.loop-left-test.true c.loop-left.invariant.within c.loop-left.invariant.newest
    c.index.ensures)
    c.loop-left.invariant.newest

pub loop-left-smaller : goal.loop-left-smaller
loop-left-smaller c = (on c).smaller

pub loop-left-preserved : goal.loop-left-preserved
loop-left-preserved c =
    let rest = entered_below (stands_in c.args.key.now.region c.args.key.now.name.items) c.args.self.now c.index.result.now.before in
    record {
      within = omega (arith, (on c).smaller, c.loop-left.invariant.within);
      newest = (on c).newest;
      same = ap (λ xs. xs ++ entered_below (stands_in c.args.key.now.region c.args.key.now.name.items) c.args.self.now c.index.result.now.before)
          c.in_ok-push.ensures.items
          ∙ append_assoc c.loop-left.found.items ((c.loop-left.left - 1) ∷ []) rest
          ∙ ap (λ ks. c.loop-left.found.items ++ ks) (sym (on c).entered) ∙ c.loop-left.invariant.same;
    }
