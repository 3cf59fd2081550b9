use Rattle.std.proofs.Common.{◌||◌, ◌∙◌, ap, ap₂, sym}
use Rattle.vd_value_rules.specs.Standings.{is_bounded, is_copied_itself}
use Rattle.vd_accepting.proofs.levels.surroundings.Goals as goal

pub returns : goal.returns
returns c = λ d s level.
    let own = c.standing-standing.ensures d s level in
    record {
      bounded = sym (c.is_bounded.ensures d ∙ ap is_bounded own);
      copied = sym (c.either-is_copied.ensures ∙ ap₂ (λ a b. a || b) (sym level.copied) (c.is_copied_itself.ensures d ∙ ap is_copied_itself own));
      label = level.label;
    }
