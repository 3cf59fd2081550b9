use Rattle.std.proofs.Common.{◌++◌, [], ◌∷◌, sym, ap, take, ◌∙◌, arith}
use Rattle.vd_shapes.specs.Reading.{symbols_in}
use Rattle.vd_shapes.proofs.SymbolLemmas.{symbols_more}
use Rattle.vd_shapes.proofs.symbols.symbols_of.Goals as goal

pub loop-number-preserved : goal.loop-number-preserved
loop-number-preserved c =
    let n = c.loop-number.number in
    let more = symbols_more c.args.tokens.now n _ c.loop-number.invariant.some (omega arith) c.get.ensures in
    record {
      some = omega arith;
      so_far = c.in_ok-push.ensures.items ∙ (ap (λ l. l ++ c.symbol_of.result ∷ []) c.loop-number.invariant.so_far ∙ (ap (λ s. symbols_in (take n c.args.tokens.now) ++ s ∷ []) c.symbol_of.ensures ∙ sym more));
    }
