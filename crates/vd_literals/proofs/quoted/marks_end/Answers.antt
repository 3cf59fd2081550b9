use Rattle.std.proofs.Common.{◌≡◌, ◌+◌, drop, sym, ap, ◌∙◌, arith}
use Rattle.std.proofs.lemmas.List.{take_rest}
use Rattle.vd_literals.specs.declared.quoted.Role.TheVariants.{Goes, MayEnd, Doubled}
use Rattle.vd_literals.specs.Quoted.{role_of, shifted, first_some}
use Rattle.vd_literals.proofs.QuotedLemmas.{ends_at, next_end, may_end, doubled_end}
use Rattle.vd_literals.proofs.quoted.marks_end.Goals as goal

pub loop-i-preserved-in-Goes : goal.loop-i-preserved-in-Goes
loop-i-preserved-in-Goes c =
    let xs = c.args.rest.now in
    let i = c.loop-i.i in
    let role = ap (role_of c.args.single c.loop-i.before) (sym (take_rest xs i)) ∙ sym c.in-Goes.ensures in
    let here = ends_at c.args.single c.loop-i.before xs i (Goes c.in-Goes.next) c.loop-i-test.true role in
    record {
      end = c.loop-i.invariant.end ∙ (ap (λ o. first_some (shifted i o) c.loop-i.last) here ∙ next_end c.args.single c.in-Goes.next xs i c.loop-i.last);
      within = c.loop-i.invariant.within;
    }

pub loop-i-preserved-in-MayEnd : goal.loop-i-preserved-in-MayEnd
loop-i-preserved-in-MayEnd c =
    let xs = c.args.rest.now in
    let i = c.loop-i.i in
    let role = ap (role_of c.args.single c.loop-i.before) (sym (take_rest xs i)) ∙ sym c.in-MayEnd.ensures in
    let here = ends_at c.args.single c.loop-i.before xs i MayEnd c.loop-i-test.true role in
    record {
      end = c.loop-i.invariant.end ∙ (ap (λ o. first_some (shifted i o) c.loop-i.last) here ∙ may_end c.args.single xs i c.loop-i.last);
      within = (omega arith, omega (arith, c.loop-i-test.true));
    }

pub loop-i-preserved : goal.loop-i-preserved
loop-i-preserved c =
    let xs = c.args.rest.now in
    let i = c.loop-i.i in
    let role = ap (role_of c.args.single c.loop-i.before) (sym (take_rest xs i)) ∙ sym c.in-Doubled.ensures in
    let here = ends_at c.args.single c.loop-i.before xs i Doubled c.loop-i-test.true role in
    record {
      end = c.loop-i.invariant.end ∙ (ap (λ o. first_some (shifted i o) c.loop-i.last) here ∙ doubled_end c.args.single xs i c.loop-i.last);
      within = c.loop-i.invariant.within;
    }
