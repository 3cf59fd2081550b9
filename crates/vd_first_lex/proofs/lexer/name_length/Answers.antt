use Rattle.std.proofs.Common.{drop, sym, ap, ◌∙◌, arith}
use Rattle.std.proofs.lemmas.List.{take_rest}
use Rattle.vd_first_lex.specs.Scans.{goes_on}
use Rattle.vd_first_lex.proofs.NameLemmas.{rest_length-more, rest_length-stop, rest_length-all, longest_name}
use Rattle.vd_first_lex.proofs.lexer.name_length.Goals as goal

pub loop-n-preserved : goal.loop-n-preserved
loop-n-preserved c =
    let xs = c.args.rest.now in
    let more = rest_length-more xs c.loop-n.n c.loop-n-test.true (ap goes_on (sym (take_rest xs c.loop-n.n)) ∙ sym c.if-continues.ensures) in
    record { within = omega (arith, c.loop-n-test.true); counted = omega (arith, c.loop-n.invariant.counted, more) }

pub returns-else-continues : goal.returns-else-continues
returns-else-continues c =
    let xs = c.args.rest.now in
    let none = rest_length-stop (drop c.loop-n.n xs) (ap goes_on (sym (take_rest xs c.loop-n.n)) ∙ sym c.if-continues.ensures) in
    longest_name xs c.loop-n.n c.requires.some c.requires.letter (omega (arith, c.loop-n.invariant.counted, none))

pub returns-after-loop-n : goal.returns-after-loop-n
returns-after-loop-n c =
    let none = rest_length-all c.args.rest.now c.loop-n.n c.loop-n-test.false in
    longest_name c.args.rest.now c.loop-n.n c.requires.some c.requires.letter (omega (arith, c.loop-n.invariant.counted, none))
