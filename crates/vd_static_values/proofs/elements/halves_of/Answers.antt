use Rattle.std.proofs.Common.{SFits, ap, false, pos, rules, subst, sym, w64, ◌+◌, ◌<◌, ◌∙◌, ◌≡◌, ◌≤◌}
use Rattle.std.proofs.lemmas.Int.{to_z-of_z}
use Rattle.std.specs.Prelude.{int_le, int_lt, nat_abs}
use Rattle.vd_composites.specs.Parts.{AtSlice, part}
use Rattle.vd_static_values.proofs.ElementLemmas.{halves_found}
use Rattle.vd_static_values.specs.Levels.{up}
use Rattle.vd_static_values.proofs.elements.halves_of.Goals as goal

pub returns : goal.returns
returns c =
    let array = c.args.array.now in
    let b = c.in-Some.bounds in
    let middle = c.middle_of-middle.result in
    let left_fits : SFits w64 b.left = search rules in
    let right_fits : SFits w64 b.right = search rules in
    let end_fits : SFits w64 c.in-Ok-Ok.end = subst (SFits w64) (sym c.in-Ok-Ok.ensures.1) c.in-Ok-Ok.ensures.0 in
    let begin_fits : SFits w64 c.in-Ok-Ok.begin = subst (SFits w64) (sym c.in-Ok-Ok.ensures'.1) c.in-Ok-Ok.ensures'.0 in
    let first : c.ascending.result ≡ up b.left (pos middle) = simp to_z-of_z at c.ascending.ensures ∙ ap (up b.left) c.in-Ok-Ok.ensures.1 in
    let second : c.ascending-2.result ≡ up (pos (middle + 1)) b.right = simp to_z-of_z at c.ascending-2.ensures ∙ ap (λ z. up z b.right) c.in-Ok-Ok.ensures'.1 in
    let some : int_lt b.left (pos 0) ≡ false = simp to_z-of_z at c.if-bounds-lt0.false in
    let more : int_le b.right b.left ≡ false = simp to_z-of_z at c.if-bounds-2.false in
    let low : nat_abs b.left ≤ middle = simp to_z-of_z at c.middle_of-middle.ensures.low in
    let high : middle < nat_abs b.right = simp to_z-of_z at c.middle_of-middle.ensures.high in
    halves_found array c.in_ok-first.first c.in_ok-second.second b middle c.requires (sym c.bounds.ensures ∙ c.in-Some.is) c.if-bounds.false some more low high
    (ap (λ s. part (AtSlice s) array) (sym first) ∙ c.in_ok-first.ensures) (ap (λ s. part (AtSlice s) array) (sym second) ∙ c.in_ok-second.ensures)
