use Rattle.std.proofs.Common.{◌||◌, ◌∙◌, ap₂, sym}
use Rattle.vd_port_modes.specs.Source.{design_in}
use Rattle.vd_accepting.proofs.walking.first_part.Goals as goal

pub returns-clause-level : goal.returns-clause-level
returns-clause-level c = λ s ks knows level.
    let d = design_in c.args.interfaces.now in
    let around = c.surroundings-around.ensures d s level in
    record {
      coming = c.in_ok-coming.ensures.standings s ks knows (sym (c.standing-own.ensures d s level));
      label = sym c.label_of_parts.ensures;
      copied = sym (c.either.ensures ∙ ap₂ (λ a b. a || b) (sym around.copied) c.are_parts_copied.ensures);
    }
