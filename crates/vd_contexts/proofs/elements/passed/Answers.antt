use Rattle.std.proofs.Common.{◌&&◌, ◌∙◌, Bool, List, ap, drop, sym, ℕ}
use Rattle.vd_meaning.specs.Meanings.{meanings}
use Rattle.vd_contexts.proofs.PassedLemmas.{elements_end, elements_on}
use Rattle.vd_value_rules.specs.Standings.{is_bounded_formal, is_bounded_object, passed as all_passed}
use Rattle.vd_contexts.proofs.elements.passed.Goals as goal

pub loop-first-preserved : goal.loop-first-preserved
loop-first-preserved c = λ d k ks knows.
    let is : ℕ → Bool = λ n. c.args.gives_bounds && is_bounded_object k.env n in
    let f = c.in-Some.first in
    let ns : List ℕ = drop c.loop-first.at c.args.numbers.now in
    elements_on d is (all_passed is c.args.numbers.now (meanings d.table c.args.elements.now)) c.loop-first.rest f.form f.text.now f.place f.parts f.next c.in-Some.ensures
    c.loop-first.made.items c.push.new.self.items c.is_bounded_formal.result ns (drop c.behind_formal-at.result c.args.numbers.now) c.in_ok-push.ensures.items
    (c.is_bounded_formal.ensures d k ks knows ∙ ap (is_bounded_formal is) (c.formal_of_first-formal.ensures d.table ns c.next_formal.ensures))
    (sym c.behind_formal-at.ensures) (c.loop-first.invariant d k ks knows)

pub returns : goal.returns
returns c = λ d k ks knows.
    let is : ℕ → Bool = λ n. c.args.gives_bounds && is_bounded_object k.env n in
    elements_end d is (all_passed is c.args.numbers.now (meanings d.table c.args.elements.now)) c.loop-first.rest c.loop-first.made.items (drop c.loop-first.at c.args.numbers.now)
    c.in_default.ensures (c.loop-first.invariant d k ks knows)
