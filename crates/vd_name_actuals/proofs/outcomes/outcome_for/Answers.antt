use Rattle.std.proofs.Common.{IfOk, subst, sym, ◌∙◌}
use Rattle.vd_visible.specs.Sights.{sight_from, class_of}
use Rattle.vd_name_entering.specs.Made.{IsMade}
use Rattle.vd_name_actuals.specs.Seen.{seen_known}
use Rattle.vd_name_actuals.proofs.KindLemmas.{not_open}
use Rattle.vd_name_actuals.proofs.outcomes.outcome_for.Goals as goal

pub returns-clause-is : goal.returns-clause-is
returns-clause-is c =
    let known = c.args.known.now in
    let class = class_of (sight_from known.place.now) c.args.generic in
    subst (λ o. IfOk c.by_class.result (λ made. IsMade c.by_class.new.out known.names.now made o))
    (sym (not_open c.args.at.now known.names.now (seen_known known) c.args.generic c.args.place class c.args.actual.now (sym c.is_open.ensures ∙ c.if-is_open.false))) c.by_class.ensures.is
