use Rattle.std.proofs.Common.{SFits, ap, pos, rules, subst, sym, w64, ◌-ℤ◌, ◌∙◌, ◌≡◌}
use Rattle.std.proofs.lemmas.Int.{to_z-of_z}
use Rattle.vd_composites.specs.Composites.{items_in, joined}
use Rattle.vd_static_values.proofs.ElementLemmas.{counted_answer}
use Rattle.vd_static_values.specs.Levels.{up}
use Rattle.vd_static_values.proofs.elements.counted.Goals as goal

pub returns : goal.returns
returns c =
    let array = c.args.array.now in
    let length_fits : SFits w64 c.in-Ok.length = subst (SFits w64) (sym c.in-Ok.ensures.1) c.in-Ok.ensures.0 in
    let less_fits : SFits w64 (c.in-Ok.length -ℤ pos 1) = search rules in
    let range : c.ascending.result ≡ up (pos 0) (c.in-Ok.length -ℤ pos 1) = simp to_z-of_z at c.ascending.ensures in
    counted_answer c.array_of.result array c.in-Some.bounds c.ascending.result c.length.result c.in-Ok.length c.push_parts.new.self (sym c.bounds.ensures ∙ c.in-Some.is) c.length.ensures
    c.in-Ok.ensures.1 range (c.in_ok-push_parts.ensures.ok ∙ ap (λ vs. joined vs (items_in array)) c.new-items.ensures) c.array_of.ensures.is c.array_of.ensures.sized
