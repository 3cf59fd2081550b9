use Rattle.std.proofs.Common.{◌≤◌, ◌∷◌, ap, ap₂, length, map, subst, sym, ◌∙◌}
use Rattle.vd_forest.proofs.StoreLemmas.{extends_trans}
use Rattle.vd_known_designs.specs.Designs.{AreIndicated}
use Rattle.vd_known_generics.proofs.InstanceLemmas.{instance_found, table_changed}
use Rattle.vd_known_generics.specs.Copied.{AreCopied}
use Rattle.vd_known_generics.specs.Inside.{inside_of}
use Rattle.vd_known_designs.specs.Contents.{or_nothing}
use Rattle.vd_meaning.specs.Meanings.{map_element, meanings}
use Rattle.vd_meaning.specs.Tables.{pairs}
use Rattle.vd_value_rules.specs.Declaring.{instance_result}
use Rattle.vd_value_rules.specs.Knowledge.{TwoIndicated, at_mark, meaning_at}
use Rattle.vd_known_generics.proofs.instances.instance_known.Goals as goal

pub inside-requires : goal.inside-requires
inside-requires c =
    let r = c.requires.ready in
    let x = c.args.design.now in
    record {
      ready = record {
        design = r.design;
        now = r.now;
        round = r.now ∷ r.round;
        knows = table_changed r.design x c.remember.new.self (r.now ∷ r.round) (r.now ∷ r.now ∷ r.round) c.in_ok-remember.ensures.same r.knows
            (λ table. c.in_ok-remember.ensures.known r.design.table r.now r.round table);
      };
    }

pub result_set-requires : goal.result_set-requires
result_set-requires c =
    let r = c.requires.ready in
    let x = c.args.design.now in
    let kept = table_changed r.design x c.remember.new.self (r.now ∷ r.round) (r.now ∷ r.now ∷ r.round) c.in_ok-remember.ensures.same r.knows
    (λ table. c.in_ok-remember.ensures.known r.design.table r.now r.round table) in
    let inside = c.in_ok-of.ensures.inside r.design r.now (r.now ∷ r.round) kept in
    record { own_in = subst (λ fs. c.in_ok-of.of.own ≤ length fs) (sym c.back.ensures.same) inside.result_is.own.within }

pub returns-clause-knows : goal.returns-clause-knows
returns-clause-knows c = λ d k ks knows.
    let x = c.args.design.now in
    let function = c.args.function in
    let instance = c.args.instance in
    let xs = map map_element (meanings d.table (or_nothing c.args.elements.now)) in
    let text = or_nothing c.function_text-text.result in
    let kept = table_changed d x c.remember.new.self (k ∷ ks) (k ∷ k ∷ ks) c.in_ok-remember.ensures.same knows (λ table. c.in_ok-remember.ensures.known d.table k ks table) in
    let inside = c.in_ok-of.ensures.inside d k (k ∷ ks) kept in
    let from = inside_of d function instance xs text k in
    let i : TwoIndicated = record { own = at_mark (meaning_at d 5 text).declaration from.env; choosing = at_mark (meaning_at d 5 text).declaration from.choosing } in
    let copied = c.in_ok-copied.ensures d from (k ∷ ks) inside.knows in
    let back = table_changed d c.inside.new.design c.back.new.self (from ∷ k ∷ ks) (k ∷ ks) c.back.ensures.same inside.knows (λ table. c.back.ensures.known d.table from k ks table) in
    let are = subst (λ fs. AreIndicated fs c.in_ok-of.of i) (sym c.back.ensures.same) inside.result_is in
    let set = c.in_ok-result_set.ensures.knows d i k ks back are in
    let copies = subst (λ fs. AreCopied fs d.table from c.in_ok-copied.copied.items c.deref.result.now) (sym (c.in_ok-result_set.ensures.same ∙ c.back.ensures.same)) copied in
    instance_found c.set_copies.result d c.set_copies.new.design function instance xs k ks text c.deref.result.now
    (c.function_text-text.ensures d.table k ks knows.known ∙ ap k.functions c.number-3.ensures)
    (c.deref.ensures.value ∙ c.in_ok-copies.ensures ∙ ap₂ pairs
    (c.parameters_of-parameters.ensures ∙ ap₂ (λ t n. (t.declared n).parameters) (sym knows.table) c.number.ensures)
    (c.parameters_of-copies.ensures ∙ ap₂ (λ t n. (t.declared n).parameters) (sym knows.table) c.number-2.ensures))
    (c.set_copies.ensures.knows d from (instance_result d instance (meaning_at d 5 text).declaration from k) ks c.deref.result.now copies set)
