use Rattle.std.proofs.Common.{ap, sym, ◌∙◌}
use Rattle.vd_meaning.specs.Facets.{nth}
use Rattle.vd_meaning.specs.Meanings.{meanings}
use Rattle.vd_meaning.specs.Statements.{comparison, comparison_by}
use Rattle.vd_meaning.specs.Tables.{sort_of}
use Rattle.vd_choice_rules.proofs.selectors.matching_of.Goals as goal

pub returns-clause-comparison : goal.returns-clause-comparison
returns-clause-comparison c = λ d k ks knows.
    let m = nth 0 (meanings d.table c.args.selector.now) in
    let after = c.in_ok-mark.ensures.knows d _ knows in
    ap (λ b. comparison d.table b m) c.if-not-is_matching.false ∙ ap (λ mark. comparison_by (sort_of d.table mark)) (c.in_ok-mark.ensures.mark d k ks knows)
    ∙ ap (λ t. comparison_by (sort_of t c.in_ok-mark.mark)) after.table ∙ sym (ap comparison_by (c.sort_of.ensures c.mark_of.new.design.revision))
    ∙ sym c.logic_of.ensures
