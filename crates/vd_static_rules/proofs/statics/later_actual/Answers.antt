use Rattle.std.proofs.Common.{◌≡◌, ◌&&◌, arith, false, not, sym, true, ◌∙◌}
use Rattle.vd_meaning.specs.Facets.{nth}
use Rattle.vd_meaning.specs.Meanings.{meanings}
use Rattle.vd_static_rules.proofs.StaticLemmas.{is_later, not_of_constant}
use Rattle.vd_static_rules.proofs.statics.later_actual.Goals.{else-not-actual, then-not-actual}
use Rattle.vd_static_rules.proofs.statics.later_actual.Goals as goal

pub returns-then-not-is_of_constant-clause-is : goal.returns-then-not-is_of_constant-clause-is
returns-then-not-is_of_constant-clause-is c = λ d k ks knows.
    let no : c.is_of_constant.result ≡ false = grind arith in
    not_of_constant d k.env (nth 0 (meanings d.table c.args.actual.now)) c.args.formal (sym (c.is_of_constant.ensures d _ knows) ∙ no)

pub returns-clause-is : goal.returns-clause-is
returns-clause-is c = λ d k ks knows.
    let yes : c.is_of_constant.result ≡ true = grind arith in
    let sense = (c.in_ok-actual.ensures.node d k ks knows).sense in
    let opened = c.in_ok-actual.actual.sense.is_open in
    let known = c.is_static-is_known.result in
    let result_is : c.if-not-actual.result ≡ (not opened && not known) =
    elim c.if-not-actual.branch [ then-not-actual w ↦ grind arith | else-not-actual w ↦ grind arith ] in
    is_later d k.env (nth 0 (meanings d.table c.args.actual.now)) c.args.formal c.if-not-actual.result opened known c.in_ok-actual.actual.sense.known
    (sym (c.is_of_constant.ensures d _ knows) ∙ yes) result_is (sym sense.is_open) c.is_static-is_known.ensures sense.known
