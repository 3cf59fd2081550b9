use Rattle.std.proofs.Common.{◌≡◌, ◌+◌, ◌-◌, ◌<◌, ◌≤◌, ap, ap₂, arith, length, suc, sym, ◌∙◌}
use Rattle.vd_walks.specs.Least.{lesser}
use Rattle.vd_port_associations.proofs.PairLemmas.{no_pairs, none_left, one_level, one_start}
use Rattle.vd_port_associations.specs.Agreement.{all_rules, first_rule}
use Rattle.vd_port_modes.specs.Source.{design_in}
use Rattle.vd_value_rules.specs.Designs.{Design}
use Rattle.vd_port_associations.proofs.signals.refused_inside.Goals.{else-loop-left-test, then-loop-left-test+else-not-are_no_pairs}
use Rattle.vd_port_associations.proofs.signals.refused_inside.Goals as goal

pub loop-left-init : goal.loop-left-init
loop-left-init c =
    one_start (c.view_count.result + 2) (length (design_in c.args.interfaces.now).units.views) (design_in c.args.interfaces.now) c.args.place
    c.new-pairs.result.keys c.insert.new.self.keys c.args.pair c.new-pairs.ensures.empty c.in_ok-insert.ensures.keys (ap (λ n. n + 2) c.view_count.ensures)

pub loop-left-preserved : goal.loop-left-preserved
loop-left-preserved c =
    let d : Design = design_in c.args.interfaces.now in
    let some : 0 < c.loop-left.left = c.loop-left-test.true in
    let left : suc (c.loop-left.left - 1) ≡ c.loop-left.left = omega arith in
    ap (λ f. lesser f (first_rule c.args.place (all_rules (c.loop-left.left - 1) d c.refused_pairs.new.coming.keys))) c.lesser-found.ensures
    ∙ one_level (c.loop-left.left - 1) d c.args.place c.loop-left.pairs.keys c.refused_pairs.new.coming.keys c.loop-left.found c.in_ok-refused.refused
    (c.in_ok-refused.ensures (c.loop-left.left - 1)
    ∙ ap₂ (λ ks ps. lesser (first_rule c.args.place (all_rules (c.loop-left.left - 1) d ks)) (first_rule c.args.place (all_rules (suc (c.loop-left.left - 1)) d ps)))
    c.new-coming.ensures.empty c.as_slice.ensures.keys)
    ∙ ap (λ n. lesser c.loop-left.found (first_rule c.args.place (all_rules n d c.loop-left.pairs.keys))) left
    ∙ c.loop-left.invariant

pub returns : goal.returns
returns c =
    elim c.loop-left-test.branch [
      | then-loop-left-test+else-not-are_no_pairs w ↦
          sym (no_pairs c.loop-left.left (design_in c.args.interfaces.now) c.args.place c.loop-left.pairs.keys c.loop-left.found (w.are_no_pairs.ensures w.if-not-are_no_pairs.false)) ∙ c.loop-left.invariant
      | else-loop-left-test w ↦
          let few : c.loop-left.left ≤ 0 = w.loop-left-test.false in
          let none : c.loop-left.left ≡ 0 = omega arith in
          sym (none_left c.loop-left.left (design_in c.args.interfaces.now) c.args.place c.loop-left.pairs.keys c.loop-left.found none) ∙ c.loop-left.invariant
    ]
