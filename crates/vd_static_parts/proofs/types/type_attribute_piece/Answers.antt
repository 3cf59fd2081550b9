use Rattle.std.proofs.Common.{subst, ◌∙◌}
use Rattle.vd_environments.specs.Environments.{both}
use Rattle.vd_meaning.specs.Names.{TypeAttribute, type_attribute_value}
use Rattle.vd_static_parts.proofs.BoundLemmas.{not_known}
use Rattle.vd_static_parts.proofs.TypeLemmas.{same_attribute}
use Rattle.vd_static_values.specs.Entries.{IsFound}
use Rattle.vd_static_names.proofs.StopLemmas.{left_true, right_true}
use Rattle.vd_static_parts.proofs.types.type_attribute_piece.Goals as goal

pub returns-then-not-known-clause-named : goal.returns-then-not-known-clause-named
returns-then-not-known-clause-named c = λ e p a v m kn inner is callee sort found.
    let known = c.both-known.ensures ∙ (λ i. both (is.known i) (sort i)) in
    c.fresh.ensures.named c.args.ground.now.subtypes.now e (type_attribute_value a p v) m (λ f. both (p.known f) (kn f)) inner known
    (λ local. absurd (not_known c.both-known.result (both (p.known e) (kn e)) known c.if-not-known.true local))

pub returns-clause-named : goal.returns-clause-named
returns-clause-named c = λ e p a v m kn inner is callee sort found.
    let known = c.both-known.ensures ∙ (λ i. both (is.known i) (sort i)) in
    let same = same_attribute p a c.args.name.now.callee c.in-Some.attribute callee is.callee c.in-Some.is in
    c.fresh-2.ensures.named c.args.ground.now.subtypes.now e (type_attribute_value a p v) m (λ f. both (p.known f) (kn f)) inner known
    (λ local.
    subst (λ (b : TypeAttribute). IsFound c.in_ok-value.value (type_attribute_value b p v e)) same
    (c.in_ok-value.ensures e p v is (left_true (p.known e).is_local (kn e).is_local local) (found (right_true (p.known e).is_local (kn e).is_local local))))
