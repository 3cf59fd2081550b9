-- Expressions that are static, and others.
use Rattle.std.proofs.Common.{◌&&◌, ◌≡◌, ◌∙◌, Bool, [], ap, false, not, sym, true, ℕ}
use Rattle.vd_environments.specs.Environments.{Env, is_static}
use Rattle.vd_value_rules.specs.Groups.{firsts_of}
use Rattle.vd_value_rules.specs.Actuals.{PortAssociation, PortMap, expression_broken, has_composite_generic, is_refused_later}
use Rattle.vd_value_rules.specs.Choices.{first_meaning}
use Rattle.vd_value_rules.specs.Designs.{Design}
use Rattle.vd_value_rules.specs.Judging.{refused_if}

module _ (d : Design) (e : Env) (x : PortMap) (port : ℕ) (a : PortAssociation) (s : Bool) (is : s ≡ is_static ((first_meaning d a.actual).known e)) where
  pub of_static : s ≡ true → firsts_of [] ≡ firsts_of (expression_broken d e x port a)
  of_static holds =
      ap (λ b. firsts_of (refused_if (not b && is_refused_later d.revision (has_composite_generic d e x port)) a.place 310)) (sym holds ∙ is)

  pub of_later : (later : Bool) → s ≡ false → later ≡ is_refused_later d.revision (has_composite_generic d e x port)
      → firsts_of (refused_if later a.place 310) ≡ firsts_of (expression_broken d e x port a)
  of_later later holds later_is =
      ap (λ b. firsts_of (refused_if b a.place 310)) later_is
      ∙ ap (λ b. firsts_of (refused_if (not b && is_refused_later d.revision (has_composite_generic d e x port)) a.place 310)) (sym holds ∙ is)
