use Rattle.std.proofs.Common.{◌≡◌, ◌+◌, ◌∷◌, List, ap, drop, sym, ◌∙◌}
use Rattle.std.proofs.lemmas.List.{drop_all, drop_more}
use Rattle.vd_walks.proofs.OrderLaws.{lesser_right}
use Rattle.vd_walks.specs.Least.{lesser}
use Rattle.vd_port_associations.proofs.PairLemmas.{by_names, named_rules, one_element}
use Rattle.vd_port_associations.specs.Agreement.{all_rules, first_rule, read_side}
use Rattle.vd_port_lists.specs.declared.entries.ListedElement.{ListedElement}
use Rattle.vd_port_modes.specs.Source.{design_in}
use Rattle.vd_port_modes.specs.Tables.{names_listed}
use Rattle.vd_value_rules.specs.Actuals.{disagree_inside}
use Rattle.vd_value_rules.specs.Designs.{Design, Oriented, at_element, elements_of_view}
use Rattle.vd_port_associations.proofs.elements.add_elements.Goals as goal

pub loop-element-preserved : goal.loop-element-preserved
loop-element-preserved c n place =
    let items : List ListedElement = c.view_elements-element-items.result.now in
    let x : ListedElement = c.element-item.result in
    let behind : List ListedElement = drop (c.loop-element.element-index + 1) items in
    let d : Design = design_in c.args.interfaces.now in
    let formal : Oriented = read_side c.args.pair.formal in
    let actual : Oriented = read_side c.args.pair.actual in
    let split : drop c.loop-element.element-index items ≡ x ∷ behind =
    drop_more items c.loop-element.element-index x c.loop-element-test.true ∙ ap (λ y. y ∷ behind) (sym c.element-item.is) in
    one_element n d place c.loop-element.pairs.keys c.add_pair.new.pairs.keys c.at_element.result formal actual x.name (names_listed behind)
    (c.in_ok-add_pair.ensures n d place) (c.at_element.ensures.formal ∙ ap (at_element d formal) c.as_slice.ensures)
    (c.at_element.ensures.actual ∙ ap (at_element d actual) c.as_slice.ensures)
    ∙ ap (λ ys. lesser (first_rule place (all_rules n d c.loop-element.pairs.keys)) (first_rule place (named_rules (disagree_inside n d) d formal actual (names_listed ys))))
    (sym split)
    ∙ c.loop-element.invariant n place

pub returns : goal.returns
returns c n place =
    let items : List ListedElement = c.view_elements-element-items.result.now in
    let d : Design = design_in c.args.interfaces.now in
    let formal : Oriented = read_side c.args.pair.formal in
    let actual : Oriented = read_side c.args.pair.actual in
    sym (lesser_right (first_rule place (all_rules n d c.loop-element.pairs.keys)))
    ∙ ap (λ ys. lesser (first_rule place (all_rules n d c.loop-element.pairs.keys)) (first_rule place (named_rules (disagree_inside n d) d formal actual (names_listed ys))))
    (sym (drop_all c.loop-element.element-index items c.loop-element-test.false))
    ∙ c.loop-element.invariant n place
    ∙ ap (λ ns. lesser (first_rule place (all_rules n d c.args.pairs.now.keys)) (first_rule place ns))
    (ap (named_rules (disagree_inside n d) d formal actual) c.view_elements-element-items.ensures
    ∙ sym (by_names (disagree_inside n d) d formal actual (elements_of_view d c.args.view)))
