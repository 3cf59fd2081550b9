use Rattle.std.proofs.Common.{ap, subst, ◌∷◌, ◌∙◌}
use Rattle.std.specs.Prelude.{OnOk}
use Rattle.vd_forest.specs.Forest.{parts_of}
use Rattle.vd_known_designs.specs.Designs.{Knows}
use Rattle.vd_known_forms.proofs.FormLemmas.{at_part, ready_again}
use Rattle.vd_meaning.specs.Meanings.{made}
use Rattle.vd_meaning.specs.Names.{number_or}
use Rattle.vd_value_rules.specs.Declaring.{parameters_known, result_known}
use Rattle.vd_value_rules.specs.Knowledge.{meaning_at}
use Rattle.vd_known_forms.proofs.function_forms.generic_function_declared.Goals as goal

pub result_known-requires : goal.result_known-requires
result_known-requires c =
    let r = c.requires.ready in
    record { ready = ready_again r.design c.parameters_known.new.design _ r.round (c.in_ok-parameters_known.ensures.knows r.design r.now r.round r.knows) }

pub returns-clause-knows : goal.returns-clause-knows
returns-clause-knows c = λ d inner k ks knows.
    let parts = c.args.parts.now in
    let n = c.args.node.now in
    let number = number_or (made n (meaning_at d 1 parts)) in
    let mark = c.declaration_of.result in
    subst (λ q. OnOk c.result_known.result (Knows d c.result_known.new.design (q ∷ ks)))
    (ap (λ m. result_known m mark (parameters_known d c.parts.result k))
    (c.number_made-number.ensures d.table ∙ at_part (λ m. number_or (made n m)) d 1 parts c.skip-2.result c.skip-2.ensures)
    ∙ ap (λ m. result_known number m (parameters_known d c.parts.result k))
    (c.declaration_of.ensures d.table ∙ at_part (λ m. m.declaration) d 3 parts c.skip-3.result c.skip-3.ensures)
    ∙ ap (λ f. result_known number (meaning_at d 3 parts).declaration (parameters_known d f k)) (c.parts.ensures ∙ ap parts_of c.skip.ensures))
    (c.result_known.ensures.knows d (parameters_known d c.parts.result k) ks (c.in_ok-parameters_known.ensures.knows d k ks knows))
