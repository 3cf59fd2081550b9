use Rattle.std.proofs.Common.{◌≡◌, ◌<◌, ◌∙◌, arith}
use Rattle.vd_directives.specs.Lines.{lines_of}
use Rattle.vd_directives.specs.Stacks.{is_nil}
use Rattle.vd_directives.proofs.SelectLemmas.{nil_length, first_short, selecting_more, selecting_breaks}
use Rattle.vd_directives.proofs.select.answer.Goals as goal

pub read_line-requires : goal.read_line-requires
read_line-requires c = record {
  short = omega (arith, first_short c.loop-rest.rest.now c.first_line.result.0.now (lines_of c.first_line.result.1.now) c.first_line.ensures.first);
}

pub returns-then-rule-ne0 : goal.returns-then-rule-ne0
returns-then-rule-ne0 c =
    let s = c.loop-rest.selecting in
    let some : 0 < c.in_ok-rule.rule = omega arith in
    let last : c.is_empty-is_last.result ≡ is_nil c.first_line.result.1.now = c.is_empty-is_last.ensures ∙ nil_length c.first_line.result.1.now in
    record {
      exact =
          selecting_breaks c.args.tool.now c.args.file c.args.bytes.now c.loop-rest.rest.now c.first_line.result.0.now c.first_line.result.1.now c.loop-rest.number
          c.is_empty-is_last.result s.groups s.lines.items s.warnings.items c.in_ok-rule.rule c.in_ok-rule.column c.loop-rest.invariant.selecting c.first_line.ensures.first last
          c.in_ok-rule.ensures.broken some;
    }

pub loop-rest-preserved : goal.loop-rest-preserved
loop-rest-preserved c =
    let s = c.loop-rest.selecting in
    let t = c.read_line.new.selecting in
    let none : c.in_ok-rule.rule ≡ 0 = omega arith in
    let last : c.is_empty-is_last.result ≡ is_nil c.first_line.result.1.now = c.is_empty-is_last.ensures ∙ nil_length c.first_line.result.1.now in
    record {
      selecting =
          selecting_more c.args.tool.now c.args.file c.args.bytes.now c.loop-rest.rest.now c.first_line.result.0.now c.first_line.result.1.now c.loop-rest.number
          c.is_empty-is_last.result s.groups t.groups s.lines.items t.lines.items s.warnings.items t.warnings.items c.in_ok-rule.rule c.in_ok-rule.column
          c.loop-rest.invariant.selecting c.first_line.ensures.first last c.in_ok-rule.ensures.broken none c.in_ok-rule.ensures.groups (c.in_ok-rule.ensures.kept none);
      numbers = omega (arith, c.first_line.ensures.shorter);
    }
