use Rattle.std.proofs.Common.{◌∷◌, subst}
use Rattle.std.specs.Prelude.{OnOk}
use Rattle.vd_known_designs.specs.Designs.{Knows}
use Rattle.vd_port_modes.specs.Source.{design_in}
use Rattle.vd_known_units.proofs.PassingLemmas.{seen_same}
use Rattle.vd_known_units.specs.Passing.{seen_outside}
use Rattle.vd_known_units.proofs.passing.go_outside.Goals as goal

pub returns : goal.returns
returns c = record {
  knows = λ k ks knows.
      let d = design_in c.args.interfaces.now in
      let n = c.args.form.now in
      let ps = c.args.parts.now in
      subst (λ x. OnOk c.unit_declared.result (Knows d c.unit_declared.new.design (x ∷ ks))) (seen_same n.form d n ps k)
      (c.unit_declared.ensures.knows (seen_outside n.form d n ps k) k ks (c.in_ok-seen_from_outside.ensures.knows k ks knows));
}
