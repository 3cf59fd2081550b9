-- A comparison ends.
use Rattle.std.proofs.Common.{◌≡◌, ◌<◌, ℕ, ◌+◌, ◌*◌, List, [], ◌∷◌, ◌++◌, refl, ap, ◌∙◌, arith}
use Rattle.std.specs.Prelude.{Some, option_to_list}
use Rattle.vd_bytes.specs.declared.places.Place.{Place}
use Rattle.vd_forest.specs.Forest.{Forest, more, size}
use Rattle.vd_forms.specs.declared.form.Form.{Form}
use Rattle.vd_modes.specs.declared.sameness.Pair.{Pair}
use Rattle.vd_modes.specs.Sameness.{work}

work_last : (ps : List Pair) (p : Pair) → work (ps ++ p ∷ []) ≡ work ps + (2 * size p.left + 1)
work_last [] p = refl
work_last (q ∷ qs) p = let e = work_last qs p in omega (arith, e)

pub compared_fewer : (f parts next : Forest Form) (form : Form) (text : List ℕ) (place : Place) (old between new : List Pair) (p q : Pair)
    → f ≡ more form text place parts next → p.left ≡ next → q.left ≡ parts → between ≡ old ++ p ∷ [] → new ≡ between ++ q ∷ []
    → work new < work old + (2 * size f + 1)
compared_fewer f parts next form text place old between new p q opened behind inside first second =
    let a = ap work second ∙ work_last between q in
    let b = ap work first ∙ work_last old p in
    let s = ap size opened in
    let x = ap size behind in
    let y = ap size inside in
    omega (arith, a, b, s, x, y)

pub left_fewer : (round rest new : List Pair) (p : Pair) → round ≡ rest ++ option_to_list (Some p) → work new < work rest + (2 * size p.left + 1) → work new < work round
left_fewer round rest new p popped fewer = let a = ap work popped ∙ work_last rest p in omega (arith, a)
