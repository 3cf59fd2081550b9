use Rattle.std.proofs.Common.{◌≡◌, ◌∙◌, ◌∷◌, ap, subst, sym}
use Rattle.std.specs.Prelude.{IfOk}
use Rattle.vd_port_associations.specs.Associations.{read_actual, read_signal}
use Rattle.vd_port_modes.specs.Source.{design_in}
use Rattle.vd_value_rules.specs.Actuals.{AnExpression, in_last_brackets, last_brackets, sort_or}
use Rattle.vd_value_rules.specs.Reaching.{reached}
use Rattle.vd_port_associations.proofs.actuals.sort_of_name.Goals as goal

pub sort_without_signal-requires : goal.sort_without_signal-requires
sort_without_signal-requires c =
    let r = c.requires.ready in
    record { ready = record { design = r.design; now = r.now; round = r.round; knows = c.in_ok-signal.ensures.knows r.design (r.now ∷ r.round) r.knows } }

pub returns-in-None-clause-sort : goal.returns-in-None-clause-sort
returns-in-None-clause-sort c = λ k ks knows.
    let d = design_in c.args.interfaces.now in
    let ps = c.args.pieces.now in
    subst (λ o. IfOk c.sort_without_signal.result (λ x. read_actual x ≡ sort_or o (sort_or (in_last_brackets d k.env (last_brackets ps)) (AnExpression c.args.place (reached d ps)))))
    (ap read_signal (sym c.in-None.is) ∙ c.in_ok-signal.ensures.signal k ks knows)
    (c.sort_without_signal.ensures.sort k ks (c.in_ok-signal.ensures.knows d (k ∷ ks) knows))
