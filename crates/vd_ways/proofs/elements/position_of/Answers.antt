use Rattle.std.proofs.Common.{◌≡◌, ◌==◌, take, ap, ◌∙◌}
use Rattle.vd_visible.specs.Sights.{sight_from, parameters_of}
use Rattle.vd_ways.proofs.PositionLemmas.{no_place, some_place}
use Rattle.vd_ways.proofs.elements.position_of.Goals as goal

pub returns : goal.returns
returns c =
    let s = sight_from c.args.at.now in
    let same : c.first_ones-elements.result.now ≡ take 4294967296 (parameters_of s c.args.mark) =
    c.first_ones-elements.ensures.is ∙ ap (take 4294967296) (c.parameters_of.ensures ∙ ap (parameters_of s) c.declaration_of.ensures) in
    some_place (λ j. j == c.args.element) c.first_ones-elements.result.now (take 4294967296 (parameters_of s c.args.mark)) c.position_among.result
    c.in-Some.position c.in-Some.is c.position_among.ensures.is same

pub returns-in_default : goal.returns-in_default
returns-in_default c =
    let s = sight_from c.args.at.now in
    let same : c.first_ones-elements.result.now ≡ take 4294967296 (parameters_of s c.args.mark) =
    c.first_ones-elements.ensures.is ∙ ap (take 4294967296) (c.parameters_of.ensures ∙ ap (parameters_of s) c.declaration_of.ensures) in
    no_place (λ j. j == c.args.element) c.first_ones-elements.result.now (take 4294967296 (parameters_of s c.args.mark)) c.position_among.result
    c.in_default.is c.position_among.ensures.is same
