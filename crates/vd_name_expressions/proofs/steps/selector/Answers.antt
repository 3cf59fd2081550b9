use Rattle.std.proofs.Common.{◌≡◌, refl, ap, ◌∙◌}
use Rattle.vd_forest.specs.Forest.{nothing, more}
use Rattle.vd_walks.specs.Least.{lesser}
use Rattle.vd_overloads.specs.declared.wanted.Wanted.TheVariants as wanted
use Rattle.vd_name_rows.specs.Designs.{sight}
use Rattle.vd_naming.specs.Expressions.{mark_of, read_as, not_selecting}
use Rattle.vd_name_expressions.proofs.steps.selector.Goals as goal

pub returns-clause-is : goal.returns-clause-is
returns-clause-is c =
    let node = c.args.node.now in
    let tree = more node.form node.text.now node.place node.parts nothing in
    let reading = (read_as c.args.at.now c.args.names.now wanted.Free tree).tree in
    let mark : c.mark_of-mark.result ≡ mark_of reading = c.mark_of-mark.ensures ∙ ap mark_of (c.cursor.ensures ∙ c.in_ok-made.ensures.is.holds.is) in
    let here = c.not_selecting-refused.ensures tree reading mark refl in
    record {
      holds = c.in_ok-made.ensures.is.holds;
      design = refl;
      first =
          c.lesser.ensures
          ∙ ap (lesser c.in_ok-made.made.first) here
          ∙ ap (λ r. lesser r (not_selecting c.args.at.now.is_matching (sight c.args.at.now c.args.names.now) tree reading)) c.in_ok-made.ensures.is.first;
    }
