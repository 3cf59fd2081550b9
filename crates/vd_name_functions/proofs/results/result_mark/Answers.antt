use Rattle.std.proofs.Common.{refl, ap, ◌∙◌}
use Rattle.vd_naming.specs.Nodes.{named_to_fit}
use Rattle.vd_naming.specs.declared.fit.Fit.TheVariants as fit
use Rattle.vd_naming.specs.Paths.{mark, with_named}
use Rattle.vd_forest.specs.Forest.{nothing, more}
use Rattle.vd_name_functions.proofs.HeaderLemmas.{mark_made, mark_place}
use Rattle.vd_name_functions.proofs.results.result_mark.Goals as goal

pub returns-clause-is : goal.returns-clause-is
returns-clause-is c =
    let node = c.args.node.now in
    let found = c.in_ok-found.found in
    mark_made (named_to_fit fit.Mark c.args.at.now c.args.names.now node.place c.cursor-tree.result)
    (mark c.args.at.now c.args.names.now node.place (more node.form node.text.now node.place node.parts nothing))
    _ c.args.names.now c.end_header.new.names found.first c.named_as.new.out found.tree c.in_ok-ended.ended
    (ap (with_named found.named found.mark) c.at.view_is ∙ c.in_ok-found.ensures.at) refl c.in_ok-found.ensures.first
    (c.fits_are_tests.ensures.marks c.args.at.now c.args.names.now node.place c.cursor-tree.result
    ∙ ap (mark c.args.at.now c.args.names.now node.place) (c.cursor-tree.ensures ∙ c.in_ok-number.ensures.is))
    c.in_ok-found.ensures.tree c.in_ok-ended.ensures.is

pub returns-clause-at : goal.returns-clause-at
returns-clause-at c =
    let node = c.args.node.now in
    let found = c.in_ok-found.found in
    mark_place (named_to_fit fit.Mark c.args.at.now c.args.names.now node.place c.cursor-tree.result)
    (mark c.args.at.now c.args.names.now node.place (more node.form node.text.now node.place node.parts nothing))
    _ c.args.names.now c.end_header.new.names found.first c.end_header.new.at
    (ap (with_named found.named found.mark) c.at.view_is ∙ c.in_ok-found.ensures.at) refl c.in_ok-found.ensures.first
    (c.fits_are_tests.ensures.marks c.args.at.now c.args.names.now node.place c.cursor-tree.result
    ∙ ap (mark c.args.at.now c.args.names.now node.place) (c.cursor-tree.ensures ∙ c.in_ok-number.ensures.is))
    c.in_ok-ended.ensures.at
