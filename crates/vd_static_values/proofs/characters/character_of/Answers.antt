use Rattle.std.proofs.Common.{ap, get_or, refl, sym, ◌∙◌}
use Rattle.vd_static_values.proofs.CharacterLemmas.{other_text, same_text, short_text}
use Rattle.std.specs.Prelude.{bytes_eq}
use Rattle.vd_static_values.proofs.characters.character_of.Goals as goal

pub returns-then-eq : goal.returns-then-eq
returns-then-eq c =
    let text = c.args.literal.now in
    same_text text (get_or text 1 0) (ap (bytes_eq text) (sym c.as_slice.ensures) ∙ sym c.eq.ensures ∙ c.if-eq.true)

pub returns-else-eq : goal.returns-else-eq
returns-else-eq c =
    let text = c.args.literal.now in
    other_text text (get_or text 1 0) refl (ap (bytes_eq text) (sym c.as_slice.ensures) ∙ sym c.eq.ensures ∙ c.if-eq.false)

pub returns-in_default : goal.returns-in_default
returns-in_default c = short_text c.args.literal.now c.in_default.len_below
