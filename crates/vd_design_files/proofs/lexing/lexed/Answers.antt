use Rattle.std.proofs.Common.{◌+◌, take, sym, subst}
use Rattle.std.specs.List.{AllByRecursion}
use Rattle.vd_lex.specs.Lexis.{IsBreakOf}
use Rattle.vd_tokens.specs.Spellings.{EndsOnce, IsPossible}
use Rattle.vd_trees.specs.declared.revision.Revision.TheVariants.{V2019}
use Rattle.vd_design_files.specs.Files.{IsLexed, IsUnlexed}
use Rattle.vd_design_files.specs.InOrder.{HaveEach, IsFirstEnd}
use Rattle.vd_design_files.specs.Laws.{IsEnd}
use Rattle.vd_design_files.proofs.FileLemmas.{lexing_ends}
use Rattle.vd_design_files.proofs.OrderLemmas.{all_push, have_more}
use Rattle.vd_design_files.proofs.lexing.lexed.Goals as goal

pub returns-in-Err-clause-end : goal.returns-in-Err-clause-end
returns-in-Err-clause-end c =
    let texts = c.args.texts.now in
    let text = c.text-item.result in
    subst (IsEnd (IsFirstEnd IsLexed IsUnlexed texts)) (sym c.end_of_refusal.ensures)
    (lexing_ends texts c.loop-text.text-index text c.loop-text-test.true c.loop-text.lists.items c.loop-text.invariant.have c.in-Err.end
    (subst (λ t. IsBreakOf V2019 t c.in-Err.end) c.text-item.is c.in-Err.ensures.broken))

pub loop-text-preserved : goal.loop-text-preserved
loop-text-preserved c =
    let texts = c.args.texts.now in
    let text = c.text-item.result in
    let lists = c.loop-text.lists.items in
    let more = sym c.in-Ok-push.ensures.items in
    record {
      have =
          subst (HaveEach IsLexed (take (c.loop-text.text-index + 1) texts)) more
          (have_more IsLexed texts c.loop-text.text-index text lists c.in-Ok.tokens c.loop-text-test.true c.loop-text.invariant.have (subst (λ t. IsLexed t c.in-Ok.tokens) c.text-item.is c.in-Ok.ensures.read));
      end_once = subst (AllByRecursion EndsOnce) more (all_push EndsOnce lists c.in-Ok.tokens c.loop-text.invariant.end_once c.in-Ok.ensures.ends);
      possible =
          subst (AllByRecursion (AllByRecursion (IsPossible V2019))) more
          (all_push (AllByRecursion (IsPossible V2019)) lists c.in-Ok.tokens c.loop-text.invariant.possible c.in-Ok.ensures.possible);
    }
