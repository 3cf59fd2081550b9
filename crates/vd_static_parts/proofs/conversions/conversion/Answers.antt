use Rattle.std.proofs.Common.{◌&&◌, ap, is_some, refl, subst, sym, ◌∙◌}
use Rattle.vd_meaning.specs.Names.{Named, conversion_known, converting, fresh, tied_through}
use Rattle.vd_meaning.specs.Tables.{is_vector}
use Rattle.vd_static_parts.proofs.ConversionLemmas.{tied_known}
use Rattle.vd_static_values.specs.Names.{IsName}
use Rattle.vd_static_parts.proofs.conversions.conversion.Goals as goal

pub returns-clause-named : goal.returns-clause-named
returns-clause-named c = λ e m v kn inner p ground is sort found.
    let store = c.args.ground.now.subtypes.now in
    let whole = c.args.operand_name.now.is_whole in
    let of : Named = fresh (converting c.args.between_vectors c.args.mark v) m (conversion_known c.args.mark kn) inner in
    let own : IsName store e c.in_ok-made.made of = c.in_ok-made.ensures.named e m v kn inner ground sort found in
    let same = c.is_tied-is_tied.ensures ∙ ap (λ b. is_vector c.args.mark && b) (sym is.is_signal) in
    subst (λ x. IsName store e x (tied_through (is_vector c.args.mark && is_some p.prefix) p of)) (sym c.tied.ensures)
    (subst (λ b. IsName store e (Rattle.vd_static_parts.specs.Conversions.known_through c.is_tied-is_tied.result whole c.in_ok-made.made) (tied_through b p of)) same
    (tied_known store e c.in_ok-made.made of p own refl c.is_tied-is_tied.result whole is.is_whole))
