use Rattle.std.proofs.Common.{◌≡◌, subst}
use Rattle.std.specs.Prelude.{IfOk}
use Rattle.vd_plain_values.specs.Strings.{array_in_places, texts_of}
use Rattle.vd_plain_values.proofs.StringLemmas.{string_made}
use Rattle.vd_plain_values.proofs.strings.literal_of.Goals as goal

pub returns-in-Ok : goal.returns-in-Ok
returns-in-Ok c =
    string_made c.args.subtype.now c.args.text.now c.in-Ok.places.items (texts_of c.element_literals.result) c.array_of.result c.element_literals.ensures (rw c.in-Ok.is at c.in_ok-places.ensures)
    (subst (λ ns. IfOk c.array_of.result (λ r. r ≡ array_in_places c.args.subtype.now ns)) c.deref.ensures.value c.array_of.ensures)
