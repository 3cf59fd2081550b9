use Rattle.std.proofs.Common.{List, sym, ap, subst, ◌≡◌, ◌∙◌}
use Rattle.std.specs.List.{filter}
use Rattle.vd_forest.specs.Forest.{Forest, nothing, more}
use Rattle.vd_forms.specs.declared.form.Form.{Form}
use Rattle.vd_readings.specs.Readings.{readings_in}
use Rattle.vd_visible.specs.Kinds.{kind_of}
use Rattle.vd_visible.specs.Sights.{sight_from}
use Rattle.vd_states.specs.declared.states.Prefix.{Prefix}
use Rattle.vd_states.specs.declared.states.State.{State}
use Rattle.vd_overloads.specs.Goals.{is_possible, rules_of}
use Rattle.vd_overloads.proofs.PossibleLemmas.{left_out, name_kind, no_next}
use Rattle.vd_overloads.proofs.possible.possible_states.Goals as goal

pub returns : goal.returns
returns c =
    let s = sight_from c.args.at.now in
    let first = c.in-Some.first in
    let name = more first.form first.text.now first.place first.parts nothing in
    let tree_is : c.args.tree.now ≡ name =
    c.in-Some.ensures
    ∙ ap (more first.form first.text.now first.place first.parts) (no_next c.open-2.result first.next c.if-is_some.ensures c.open-2.ensures) in
    let found_is : c.in_ok-found.found.items ≡ filter (is_possible s c.in_ok-ends.ends.items) c.args.states.items =
    c.in_ok-found.ensures
    ∙ ap (λ (ends : List Prefix). filter (is_possible s ends) c.deref-2.result.now) c.deref.ensures.value
    ∙ ap (λ (states : List State). filter (is_possible s c.in_ok-ends.ends.items) states) c.deref-2.ensures.value in
    ap (λ (states : List State). readings_in (rules_of s) c.args.tree.now states) found_is
    ∙ subst (λ (f : Forest Form). readings_in (rules_of s) f (filter (is_possible s c.in_ok-ends.ends.items) c.args.states.items) ≡ readings_in (rules_of s) f c.args.states.items)
    (sym tree_is)
    (left_out s c.in_ok-ends.ends.items first.form first.text.now first.place first.parts (name_kind (kind_of first.form) (sym c.if-not-is_name.ensures))
    c.in_ok-ends.ensures c.args.states.items)
