use Rattle.std.proofs.Common.{ap, ◌∙◌}
use Rattle.vd_value_rules.specs.Bounds.{differs_from_type}
use Rattle.vd_value_rules.specs.Knowledge.{at_mark}
use Rattle.vd_bound_rules.proofs.written.is_indefinite.Goals as goal

pub returns-clause-is : goal.returns-clause-is
returns-clause-is c = λ d s ks knows.
    let i = at_mark c.args.first.now.form.mark s.known.env in
    c.differs.ensures i (c.type_length-of_type.ensures d s.known ks knows) ∙ ap (differs_from_type i) (c.in_ok-written.ensures.is d s ks knows)
