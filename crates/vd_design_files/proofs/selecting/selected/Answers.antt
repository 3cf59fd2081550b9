use Rattle.std.proofs.Common.{◌≡◌, ◌<◌, ◌+◌, ◌^◌, [], length, Ok, Err, take, get_or, refl, sym, ◌∙◌, subst, arith}
use Rattle.std.proofs.lemmas.List.{take_all, get_or_read_under}
use Rattle.std.specs.List.{AllByRecursion}
use Rattle.vd_directives.specs.Lines.{ColumnsFit}
use Rattle.vd_directives.specs.Selection.{selection, IsAnswer}
use Rattle.vd_design_files.specs.Files.{numbered, IsSelected, IsUnselected}
use Rattle.vd_design_files.specs.InOrder.{HaveEach, IsFirstEnd}
use Rattle.vd_design_files.specs.Laws.{IsEnd}
use Rattle.vd_design_files.proofs.FileLemmas.{numbered_long, selecting_ends, selecting_more}
use Rattle.vd_design_files.proofs.OrderLemmas.{all_push}
use Rattle.vd_design_files.proofs.selecting.selected.Goals as goal

pub returns-in-Err-clause-end : goal.returns-in-Err-clause-end
returns-in-Err-clause-end c =
    let tool = c.args.settings.now.tool_type in
    let contents = c.args.contents.now in
    let i = c.loop-i.i in
    let inside : i < length contents = c.loop-i-test.true in
    let bytes : c.as_slice.result.now ≡ get_or contents i [] = c.as_slice.ensures ∙ get_or_read_under contents i (length contents) c.index-contents-i.result [] c.index-contents-i.is inside refl in
    subst (IsEnd (IsFirstEnd (IsSelected tool) (IsUnselected tool) (numbered 0 contents))) (sym c.end_of_refusal.ensures)
    (selecting_ends tool contents i inside c.loop-i.texts.items c.loop-i.invariant.have c.in-Err.end (subst (λ bs. IsAnswer (selection tool i bs) (Err c.in-Err.end)) bytes c.in-Err.ensures.exact))

pub loop-i-preserved : goal.loop-i-preserved
loop-i-preserved c =
    let tool = c.args.settings.now.tool_type in
    let contents = c.args.contents.now in
    let i = c.loop-i.i in
    let inside : i < length contents = c.loop-i-test.true in
    let bytes : c.as_slice.result.now ≡ get_or contents i [] = c.as_slice.ensures ∙ get_or_read_under contents i (length contents) c.index-contents-i.result [] c.index-contents-i.is inside refl in
    let short = c.requires.short i in
    let fits : length c.as_slice.result.now + 1 < 2 ^ 32 = subst (λ bs. length bs + 1 < 2 ^ 32) (sym bytes) (omega (arith, short)) in
    record {
      have =
          subst (HaveEach (IsSelected tool) (take (i + 1) (numbered 0 contents))) (sym c.in-Ok-push.ensures.items)
          (selecting_more tool contents i inside c.loop-i.texts.items c.loop-i.invariant.have c.in-Ok.text (subst (λ bs. selection tool i bs ≡ Ok c.in-Ok.text) bytes c.in-Ok.ensures.exact));
      fit = subst (AllByRecursion ColumnsFit) (sym c.in-Ok-push.ensures.items) (all_push ColumnsFit c.loop-i.texts.items c.in-Ok.text c.loop-i.invariant.fit (c.in-Ok.ensures.fits fits));
    }

pub returns-clause-have : goal.returns-clause-have
returns-clause-have c =
    let long = numbered_long 0 c.args.contents.now in
    let whole = take_all c.loop-i.i (numbered 0 c.args.contents.now) (omega (arith, long)) in
    subst (λ front. HaveEach (IsSelected c.args.settings.now.tool_type) front c.loop-i.texts.items) whole c.loop-i.invariant.have
