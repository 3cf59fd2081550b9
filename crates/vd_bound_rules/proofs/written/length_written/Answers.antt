use Rattle.std.proofs.Common.{IfOk, subst, sym, ◌≡◌}
use Rattle.vd_bound_rules.specs.Written.{read_written}
use Rattle.vd_value_rules.specs.Bounds.{written_of}
use Rattle.vd_value_rules.specs.Lengths.{nth_shaping, shapings}
use Rattle.vd_bound_rules.proofs.written.length_written.Goals as goal

pub returns-in-Quoted-clause-is : goal.returns-in-Quoted-clause-is
returns-in-Quoted-clause-is c = λ d s ks knows.
    subst (λ f. IfOk c.own_length.result (λ w. read_written w ≡ written_of f d s (nth_shaping 0 (shapings d s.known c.args.tree.now)).shaped.length c.args.first.now.parts))
    (sym c.in-Quoted.is) (c.own_length.ensures.is d s.known ks knows)

pub returns-in-Bits-clause-is : goal.returns-in-Bits-clause-is
returns-in-Bits-clause-is c = λ d s ks knows.
    subst (λ f. IfOk c.own_length-in-Bits.result (λ w. read_written w ≡ written_of f d s (nth_shaping 0 (shapings d s.known c.args.tree.now)).shaped.length c.args.first.now.parts))
    (sym c.in-Bits.is) (c.own_length-in-Bits.ensures.is d s.known ks knows)

pub returns-in-Concatenate-clause-is : goal.returns-in-Concatenate-clause-is
returns-in-Concatenate-clause-is c = λ d s ks knows.
    subst (λ f. IfOk c.own_length-in-Concatenate.result (λ w. read_written w ≡ written_of f d s (nth_shaping 0 (shapings d s.known c.args.tree.now)).shaped.length c.args.first.now.parts))
    (sym c.in-Concatenate.is) (c.own_length-in-Concatenate.ensures.is d s.known ks knows)
