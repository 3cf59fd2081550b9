use Rattle.std.proofs.Common.{◌≡◌, ℕ, List, [], ◌∷◌, ◌++◌, ap, ◌∙◌, append_assoc, refl}
use Rattle.vd_first_names.specs.Maps.{quoted, kind_text, field_text}
use Rattle.vd_first_names.proofs.map_writing.push_row.Goals as goal

-- one text more
with_more : (o s t a b : List ℕ) → t ≡ s ++ b → s ≡ o → b ≡ a → t ≡ o ++ a
with_more o s t a b e f g = e ∙ ap (λ x. x ++ b) f ∙ ap (λ x. o ++ x) g

regroup : (o a b c d e f g h : List ℕ) → (((((((o ++ a) ++ b) ++ c) ++ d) ++ e) ++ f) ++ g) ++ h ≡ o ++ (a ++ (b ++ (c ++ (d ++ (e ++ (f ++ (g ++ h)))))))
regroup o a b c d e f g h = simp append_assoc

pub returns : goal.returns
returns c =
    let o = c.args.out.now.items in
    let r = c.args.row.now in
    let e1 = with_more _ _ _ _ _ c.in_ok-push_quoted.ensures c.in_ok-extend_from_slice.ensures.items (ap quoted c.kind_text.ensures) in
    let e2 = with_more _ _ _ _ _ c.in_ok-push_field.ensures e1 (ap field_text c.as_slice.ensures) in
    let e3 = with_more _ _ _ _ _ c.in_ok-push_field-2.ensures e2 (ap field_text c.as_slice-2.ensures) in
    let e4 = with_more _ _ _ _ _ c.in_ok-push_field-3.ensures e3 (ap field_text c.as_slice-3.ensures) in
    let e5 = with_more _ _ _ _ _ c.in_ok-push_field-4.ensures e4 (ap field_text c.as_slice-4.ensures) in
    let e6 = with_more _ _ _ _ _ c.in_ok-push_field-5.ensures e5 (ap field_text c.as_slice-5.ensures) in
    let e7 = with_more _ _ _ _ _ c.in_ok-extend_from_slice-2.ensures.items e6 refl in
    e7 ∙ regroup o (91 ∷ []) (quoted (kind_text r.kind)) (field_text r.unit) (field_text r.name19) (field_text r.name93) (field_text r.mark) (field_text r.mode) (93 ∷ [])
