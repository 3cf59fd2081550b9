use Rattle.std.proofs.Common.{refl, ap, ◌∙◌}
use Rattle.vd_name_rows.specs.Designs.{At}
use Rattle.vd_naming.specs.Functions.{written_function}
use Rattle.vd_name_functions.proofs.HeaderLemmas.{header_made, header_place}
use Rattle.vd_name_functions.proofs.results.end_header.Goals as goal

pub returns-clause-is : goal.returns-clause-is
returns-clause-is c =
    let at = c.args.at.now in
    λ store tree held. header_made at c.args.names.now c.header_ends_as.new.names c.in_ok-known.known c.in_ok-new.new tree c.args.made.first
    store c.args.made c.in_ok-known.ensures
    (c.in_ok-new.ensures ∙ ap (λ r. written_function (record { name = at.word; place = at.word_place }) at.mark r c.args.names.now) (ap (λ (a : At). a.region) c.at.view_is))
    c.in_ok-header_ends_as.ensures.design refl held

pub returns-clause-at : goal.returns-clause-at
returns-clause-at c =
    let at = c.args.at.now in
    λ tree. header_place at c.args.names.now c.header_ends_as.new.names c.in_ok-known.known c.in_ok-new.new tree c.args.made.first
    c.header_ends_as.new.at c.in_ok-known.ensures
    (c.in_ok-new.ensures ∙ ap (λ r. written_function (record { name = at.word; place = at.word_place }) at.mark r c.args.names.now) (ap (λ (a : At). a.region) c.at.view_is))
    c.in_ok-header_ends_as.ensures.at
