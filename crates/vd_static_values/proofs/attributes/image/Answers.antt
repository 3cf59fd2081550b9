use Rattle.std.proofs.Common.{Some, ap, subst, sym, true, ◌∙◌, ◌≡◌}
use Rattle.std.specs.Prelude.{IfOk, is_some}
use Rattle.vd_composites.specs.Composites.{scalar_of}
use Rattle.vd_forest.specs.Forest.{form_of}
use Rattle.vd_operators.specs.Texts.{text}
use Rattle.vd_static_values.specs.Entries.{IsFound}
use Rattle.vd_static_values.proofs.AttributeLemmas.{image_at, image_missing}
use Rattle.vd_values.specs.declared.scalar.Scalar.TheVariants.{Literal}
use Rattle.vd_static_values.proofs.attributes.image.Goals as goal

pub returns-in-Some : goal.returns-in-Some
returns-in-Some c =
    let literals = c.args.literals.now in
    let value = c.args.value.now in
    let n = c.in-Some-Literal.position in
    let first = c.in-Some.literal in
    let some : is_some (form_of literals) ≡ true = ap is_some (sym c.form.ensures) ∙ c.if-is_none.ensures in
    let is : scalar_of value ≡ Some (Literal n) = sym c.as_scalar.ensures ∙ c.in-Some-Literal.is ∙ ap Some c.in-Some-Literal.field-0-is in
    subst (λ g. IfOk c.found-in-Some.result (λ found. IsFound found g))
    (sym (image_at literals c.skip.result value n first.form first.text.now first.place first.parts first.next some is c.skip.ensures c.in-Some.ensures))
    (c.found-in-Some.ensures (text first.text.now) c.text.ensures)

pub returns-in-None : goal.returns-in-None
returns-in-None c =
    let literals = c.args.literals.now in
    let value = c.args.value.now in
    let n = c.in-Some-Literal.position in
    let some : is_some (form_of literals) ≡ true = ap is_some (sym c.form.ensures) ∙ c.if-is_none.ensures in
    let is : scalar_of value ≡ Some (Literal n) = sym c.as_scalar.ensures ∙ c.in-Some-Literal.is ∙ ap Some c.in-Some-Literal.field-0-is in
    image_missing literals c.skip.result value n some is c.skip.ensures c.in-None.ensures
