use Rattle.std.proofs.Common.{◌≡◌, ◌+◌, ◌∷◌, List, ap, drop, false, get_or, suc, sym, ◌∙◌}
use Rattle.std.proofs.lemmas.List.{drop_more}
use Rattle.vd_walks.specs.Least.{lesser}
use Rattle.vd_port_associations.proofs.PairLemmas.{one_pair}
use Rattle.vd_port_associations.specs.Agreement.{all_rules, first_rule}
use Rattle.vd_port_associations.specs.declared.pairs.Pair.{Pair}
use Rattle.vd_port_associations.specs.declared.pairs.Side.{Side}
use Rattle.vd_port_modes.specs.Source.{design_in}
use Rattle.vd_value_rules.specs.Designs.{Design}
use Rattle.vd_port_associations.proofs.elements.refused_pairs.Goals as goal

pub loop-pair-preserved : goal.loop-pair-preserved
loop-pair-preserved c n =
    let items : List Pair = c.args.pairs.now in
    let none : Side = record { kind = 0; view = 0; is_converse = false; is_swapped = false } in
    let nothing : Pair = record { formal = none; actual = none } in
    let p : Pair = get_or items c.loop-pair.pair-index nothing in
    let behind : List Pair = drop (c.loop-pair.pair-index + 1) items in
    let split : drop c.loop-pair.pair-index items ≡ p ∷ behind =
    drop_more items c.loop-pair.pair-index nothing c.loop-pair-test.true in
    let d : Design = design_in c.args.interfaces.now in
    ap (λ f. lesser (lesser (first_rule c.args.place (all_rules n d c.refused_pair.new.coming.keys)) f) (first_rule c.args.place (all_rules (suc n) d behind)))
    c.lesser-found.ensures
    ∙ one_pair n d c.args.place c.loop-pair.coming.keys c.refused_pair.new.coming.keys behind p c.loop-pair.found c.in_ok-refused.refused (c.in_ok-refused.ensures n)
    ∙ ap (λ ys. lesser (lesser (first_rule c.args.place (all_rules n d c.loop-pair.coming.keys)) c.loop-pair.found) (first_rule c.args.place (all_rules (suc n) d ys)))
    (sym split)
    ∙ c.loop-pair.invariant n
