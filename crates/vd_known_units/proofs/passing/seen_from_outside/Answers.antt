use Rattle.std.proofs.Common.{◌∷◌, subst, sym}
use Rattle.std.specs.Prelude.{OnOk}
use Rattle.vd_known_designs.specs.Designs.{Knows}
use Rattle.vd_port_modes.specs.Source.{design_in}
use Rattle.vd_known_units.proofs.PassingLemmas.{seen_otherwise}
use Rattle.vd_known_units.specs.Passing.{declared_inside, seen_outside}
use Rattle.vd_known_units.proofs.passing.seen_from_outside.Goals as goal

pub units_declared-requires : goal.units_declared-requires
units_declared-requires c =
    let d = design_in c.args.interfaces.now in
    let e = c.requires.end in
    let back = c.back.ensures.knows d (declared_inside d c.args.form.now c.args.parts.now e.before) e.before e.round e.knows in
    record { ready = record { design = d; now = e.before; round = e.before ∷ e.round; knows = c.in_ok-remember-in-FunctionBody.ensures.knows d e.before e.round back } }

pub returns-in_ok-remember-in-FunctionBody : goal.returns-in_ok-remember-in-FunctionBody
returns-in_ok-remember-in-FunctionBody c = record {
  knows = λ k ks knows.
      let d = design_in c.args.interfaces.now in
      let n = c.args.form.now in
      let ps = c.args.parts.now in
      subst (λ f. OnOk c.units_declared.result (Knows d c.units_declared.new.design (seen_outside f d n ps k ∷ k ∷ ks))) (sym c.in-FunctionBody.is)
      (c.units_declared.ensures.knows k (k ∷ ks)
      (c.in_ok-remember-in-FunctionBody.ensures.knows d k ks (c.back.ensures.knows d (declared_inside d n ps k) k ks knows)));
}

pub returns-in_default : goal.returns-in_default
returns-in_default c = record {
  knows = λ k ks knows.
      let d = design_in c.args.interfaces.now in
      subst (λ x. Knows d c.args.design.now (x ∷ k ∷ ks)) (sym (seen_otherwise c.args.form.now.form d c.args.form.now c.args.parts.now k c.in_default.not-FunctionBody)) knows;
}
