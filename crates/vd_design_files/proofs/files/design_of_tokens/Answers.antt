use Rattle.std.proofs.Common.{◌≤◌, refl, ap, ◌∙◌, subst, arith}
use Rattle.vd_forest.specs.Forest.{tree_count}
use Rattle.vd_design_files.specs.Files.{IsAnswerOfTokens, IsRead, holds, token_count}
use Rattle.vd_design_files.specs.InOrder.{HaveEach}
use Rattle.vd_design_files.proofs.FileLemmas.{no_more}
use Rattle.vd_design_files.proofs.files.design_of_tokens.Goals as goal

pub returns-then-units-gt-MOST-clause-exact : goal.returns-then-units-gt-MOST-clause-exact
returns-then-units-gt-MOST-clause-exact c =
    let few = subst (λ ls. token_count ls ≤ 2000000) c.as_slice.ensures.value (no_more c.has_many_tokens.result 2000000 (token_count c.as_slice.result.now) c.has_many_tokens.ensures c.if-has_many_tokens.false) in
    let have = subst (λ ls. HaveEach IsRead ls c.in_ok-designs.designs.items) c.as_slice-2.ensures.value c.in_ok-designs.ensures.have in
    let same = ap tree_count (c.units.ensures.units ∙ c.in_ok-design.ensures) in
    let counted = c.count_units-units.ensures in
    let more = c.if-units-gt-MOST.true in
    IsAnswerOfTokens.many_units few c.in_ok-designs.designs.items have (omega (arith, same, counted, more)) refl

pub returns-clause-exact : goal.returns-clause-exact
returns-clause-exact c =
    let few = subst (λ ls. token_count ls ≤ 2000000) c.as_slice.ensures.value (no_more c.has_many_tokens.result 2000000 (token_count c.as_slice.result.now) c.has_many_tokens.ensures c.if-has_many_tokens.false) in
    let have = subst (λ ls. HaveEach IsRead ls c.in_ok-designs.designs.items) c.as_slice-2.ensures.value c.in_ok-designs.ensures.have in
    let same = ap tree_count (c.units.ensures.units ∙ c.in_ok-design.ensures) in
    let counted = c.count_units-units.ensures in
    let within = c.if-units-gt-MOST.false in
    IsAnswerOfTokens.read few c.in_ok-designs.designs.items have (omega (arith, same, counted, within)) (ap (λ f. holds f c.args.warnings) c.in_ok-design.ensures)
