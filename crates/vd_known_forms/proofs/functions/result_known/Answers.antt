use Rattle.vd_known_forms.proofs.FunctionLemmas.{result_set}
use Rattle.vd_known_forms.proofs.functions.result_known.Goals as goal

pub all_bounds-requires : goal.all_bounds-requires
all_bounds-requires c =
    let r = c.requires.ready in
    (c.marked-of.ensures r.design r.now r.round r.knows).own.within

pub returns-clause-knows : goal.returns-clause-knows
returns-clause-knows c = λ d k ks knows.
    result_set d c.args.design.now k ks c.all_bounds.new.self c.set.new.self c.args.number c.number.result c.args.mark c.marked-of.result c.in_ok-value.value c.in_ok-bounds.bounds c.is_inside.result c.set.result
    c.in_ok-bounds.ensures.same c.number.ensures knows (c.marked-of.ensures d k ks knows) c.in_ok-bounds.ensures.bounds c.is_inside.ensures c.set.ensures.same c.set.ensures.known
