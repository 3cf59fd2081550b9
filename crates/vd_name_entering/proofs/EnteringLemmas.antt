-- One declaration, and then others.
use Rattle.std.proofs.Common.{◌≡◌, Option, ap, ◌∙◌}
use Rattle.vd_bytes.specs.declared.answers.Refused.{Refused}
use Rattle.vd_walks.specs.Least.{lesser}
use Rattle.vd_walks.proofs.OrderLaws.{lesser_brackets}
use Rattle.vd_name_rows.specs.Designs.{Design}
use Rattle.vd_name_rows.specs.Entering.{Entering, then_entering}
use Rattle.vd_name_entering.specs.Entered.{IsEntered}

module _ (d : Design) (refused : Option Refused) (x : Entering) (others : Design → Entering) (is : IsEntered d refused x) where
  pub then_design : (others d).design ≡ (then_entering x others).design
  then_design = ap (λ e. (others e).design) is.design

  pub then_first : (before : Option Refused) → lesser (lesser before refused) (others d).first ≡ lesser before (then_entering x others).first
  then_first before =
      lesser_brackets before refused (others d).first
      ∙ ap (λ r. lesser before (lesser r (others d).first)) is.first
      ∙ ap (λ e. lesser before (lesser x.first (others e).first)) is.design
