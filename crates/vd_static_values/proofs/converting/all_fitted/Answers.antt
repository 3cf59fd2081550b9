use Rattle.std.proofs.Common.{subst}
use Rattle.vd_value_rules.specs.Indicated.{indicated_in}
use Rattle.vd_meaning.specs.Names.{whole_converted}
use Rattle.vd_static_values.specs.Entries.{IsFound}
use Rattle.vd_static_values.proofs.LevelLemmas.{all_fits, one_fits, one_stops, whole_by_head}
use Rattle.vd_static_values.specs.Levels.{all_whole}
use Rattle.vd_subtypes.specs.Heads.{fit_head}
use Rattle.vd_static_values.proofs.converting.all_fitted.Goals as goal

pub loop-value-preserved : goal.loop-value-preserved
loop-value-preserved c =
    let s = (indicated_in c.args.subtype.now).subtype in
    let values = c.args.values.now in
    let value = c.value-item.result in
    let head = c.in_ok-head.head in
    let there : IsFound c.in_ok-fitted.field-0 (whole_converted s value) =
    whole_by_head s head value c.in_ok-fitted.field-0 c.in_ok-head.ensures (c.in_ok-fitted.ensures (fit_head head value) c.fit.ensures) in
    one_fits s values c.loop-value.value-index value c.in-Some.fitted c.loop-value.made.items c.push.new.self.items (all_whole s values) c.loop-value-test.true c.value-item.is
    (subst (λ x. IsFound x (whole_converted s value)) c.in-Some.is there) c.in_ok-push-in-Some.ensures.items c.loop-value.invariant

pub returns-in-None : goal.returns-in-None
returns-in-None c =
    let s = (indicated_in c.args.subtype.now).subtype in
    let values = c.args.values.now in
    let value = c.value-item.result in
    let head = c.in_ok-head.head in
    let there : IsFound c.in_ok-fitted.field-0 (whole_converted s value) =
    whole_by_head s head value c.in_ok-fitted.field-0 c.in_ok-head.ensures (c.in_ok-fitted.ensures (fit_head head value) c.fit.ensures) in
    one_stops s values c.loop-value.value-index value c.loop-value.made.items (all_whole s values) c.loop-value-test.true c.value-item.is
    (subst (λ x. IsFound x (whole_converted s value)) c.in-None.is there) c.loop-value.invariant

pub returns : goal.returns
returns c =
    let s = (indicated_in c.args.subtype.now).subtype in
    let values = c.args.values.now in
    all_fits s values c.loop-value.value-index c.loop-value.made.items (all_whole s values) c.loop-value-test.false c.loop-value.invariant
