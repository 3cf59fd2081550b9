use Rattle.std.proofs.Common.{arith}
use Rattle.vd_static_parts.proofs.BracketLemmas.{alone_found, many_not_local}
use Rattle.vd_static_parts.proofs.brackets.bracketed_value.Goals as goal

pub returns-then-parts-eq1 : goal.returns-then-parts-eq1
returns-then-parts-eq1 c = λ subtypes e ms mark given are local.
    alone_found subtypes e c.value_again.result c.args.parts.now c.index-parts-0.result ms mark given (omega arith) c.value_again.ensures are local

pub returns-else-parts-eq1 : goal.returns-else-parts-eq1
returns-else-parts-eq1 c = λ subtypes e ms mark given are local.
    absurd (many_not_local subtypes e c.args.parts.now ms (λ one. omega arith) are local)
