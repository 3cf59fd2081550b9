use Rattle.std.proofs.Common.{sym, subst, refl}
use Rattle.vd_readings.specs.Search.{AreKnown}
use Rattle.vd_readings.proofs.SearchLemmas.{known_grown, trial_more}
use Rattle.vd_readings.proofs.search.Search.resume.Goals as goal

pub advance-requires-in-After-clause-known : goal.advance-requires-in-After-clause-known
advance-requires-in-After-clause-known g c =
    let R = g.L.Language.rules c.args.self.now.language.now in
    let fs = c.args.self.now.store.now in
    subst (AreKnown R fs c.give.new.known.out) (sym c.in_ok-more-in-After.ensures.memo)
    (known_grown R fs c.args.known.now.out c.give.new.known.out c.args.known.now.memo.entries c.in_ok-more-in-After.ensures.extends c.requires.known)

pub advance-requires-in-After-clause-trial : goal.advance-requires-in-After-clause-trial
advance-requires-in-After-clause-trial g c =
    trial_more (g.L.Language.rules c.args.self.now.language.now) c.args.self.now.store.now c.args.known.now.out c.give.new.known.out c.args.waiting
    c.and-trial.result c.in_ok-more-in-After.more _ c.in_ok-more-in-After.ensures.extends c.requires.waiting c.in_ok-more-in-After.ensures.found
    c.and-trial.ensures refl
