use Rattle.std.proofs.Common.{◌+◌, take, sym, subst}
use Rattle.vd_grammar19.specs.Grammar.{grammar}
use Rattle.vd_shapes.specs.Reading.{IsReadEnd}
use Rattle.vd_design_files.specs.Files.{IsRead, IsUnread}
use Rattle.vd_design_files.specs.InOrder.{HaveEach, IsFirstEnd}
use Rattle.vd_design_files.specs.Laws.{IsEnd}
use Rattle.vd_design_files.proofs.FileLemmas.{reading_ends}
use Rattle.vd_design_files.proofs.OrderLemmas.{have_more}
use Rattle.vd_design_files.proofs.reading.read.Goals as goal

pub returns-in-Err-clause-end : goal.returns-in-Err-clause-end
returns-in-Err-clause-end c =
    let lists = c.args.lists.now in
    let tokens = c.tokens-item.result in
    subst (IsEnd (IsFirstEnd IsRead IsUnread lists)) (sym c.end_of_grammar.ensures)
    (reading_ends lists c.loop-tokens.tokens-index tokens c.loop-tokens-test.true c.loop-tokens.designs.items c.loop-tokens.invariant c.in-Err.end
    (subst (λ ts. IsReadEnd grammar ts 200 c.in-Err.end) c.tokens-item.is c.in-Err.ensures))

pub loop-tokens-preserved : goal.loop-tokens-preserved
loop-tokens-preserved c =
    let lists = c.args.lists.now in
    let tokens = c.tokens-item.result in
    subst (HaveEach IsRead (take (c.loop-tokens.tokens-index + 1) lists)) (sym c.in-Ok-push.ensures.items)
    (have_more IsRead lists c.loop-tokens.tokens-index tokens c.loop-tokens.designs.items c.in-Ok.design c.loop-tokens-test.true c.loop-tokens.invariant (subst (λ ts. IsRead ts c.in-Ok.design) c.tokens-item.is c.in-Ok.ensures))
