use Rattle.std.proofs.Common.{◌∷◌, subst, sym}
use Rattle.std.proofs.lemmas.Result.{on_ok_weaker}
use Rattle.std.specs.Prelude.{OnOk}
use Rattle.vd_known_designs.specs.Designs.{Knows}
use Rattle.vd_value_rules.specs.Standings.{known_down, known_inside, with_parameter}
use Rattle.vd_known_units.proofs.StateLemmas.{state_changed}
use Rattle.vd_known_units.proofs.insides.known_in_parts.Goals as goal

pub returns-in-ProcessStatement : goal.returns-in-ProcessStatement
returns-in-ProcessStatement c = record {
  knows = λ d k ks knows.
      subst (λ f. OnOk c.enter_inside.result (Knows d (record c.args.design.now { table = c.enter_inside.new.self }) (known_down f d c.args.form.now c.args.parts.now k ∷ ks))) (sym c.in-ProcessStatement.is)
      (on_ok_weaker c.enter_inside.result
      (λ known. state_changed d c.args.design.now c.enter_inside.new.self (k ∷ ks) (known_inside k ∷ ks) c.enter_inside.ensures.same (λ _. known) knows)
      (c.enter_inside.ensures.known d.table k ks knows.known));
}

pub returns-in-ForLoop : goal.returns-in-ForLoop
returns-in-ForLoop c = record {
  knows = λ d k ks knows.
      subst (λ f. OnOk c.parameter_known.result (Knows d c.parameter_known.new.design (known_down f d c.args.form.now c.args.parts.now k ∷ ks))) (sym c.in-ForLoop.is)
      (subst (λ s. OnOk c.parameter_known.result (Knows d c.parameter_known.new.design (with_parameter d c.args.form.now c.args.parts.now s k ∷ ks)))
      c.never.ensures (c.parameter_known.ensures.knows d k ks knows));
}

pub returns-in-ForGenerate : goal.returns-in-ForGenerate
returns-in-ForGenerate c = record {
  knows = λ d k ks knows.
      subst (λ f. OnOk c.parameter_known-in-ForGenerate.result (Knows d c.parameter_known-in-ForGenerate.new.design (known_down f d c.args.form.now c.args.parts.now k ∷ ks))) (sym c.in-ForGenerate.is)
      (c.parameter_known-in-ForGenerate.ensures.knows d k ks knows);
}
