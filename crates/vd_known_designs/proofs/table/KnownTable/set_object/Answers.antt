use Rattle.std.proofs.Common.{subst, sym, ◌∙◌}
use Rattle.vd_forest.proofs.StoreLemmas.{extends_same, extends_trans}
use Rattle.vd_forest.specs.Store.{Extends, at}
use Rattle.vd_value_rules.specs.Indicated.{indicated_in, static_of}
use Rattle.vd_value_rules.specs.Made.{object_of}
use Rattle.vd_known_designs.proofs.DeclaredLemmas.{declared_same, same_entry, same_indicated}
use Rattle.vd_known_designs.proofs.KnownLemmas.{has_known_grown, indicates_grown}
use Rattle.vd_known_designs.specs.Denoted.{object_denoted, subtype_denoted}
use Rattle.vd_known_designs.specs.Tables.{declared_in}
use Rattle.vd_known_designs.proofs.table.KnownTable.set_object.Goals as goal

pub returns-clause-known : goal.returns-clause-known
returns-clause-known c = λ t i v k ks known own_is choosing_is is_value is_shape.
    let x = c.args.self.now in
    let is_inside = x.contents.is_inside in
    let static = static_of c.args.known in
    let first = c.subtype_of_object.new.subtypes in
    let second = c.subtype_of_object-2.new.subtypes in
    let last = c.object_entry.new.subtypes in
    let same = c.in_ok-entry.ensures.same in
    let grown : Extends x.subtypes last =
    subst (Extends x.subtypes) (sym same) (extends_trans x.subtypes first second c.in_ok-own.ensures.extends c.in_ok-choosing.ensures.extends) in
    let own = declared_in is_inside (object_of (indicated_in (at x.subtypes c.args.own))) in
    let own_same =
    (indicates_grown first second c.in_ok-own.own own c.in_ok-choosing.ensures.extends c.in_ok-own.ensures.indicates).is
    ∙ declared_same object_of x.subtypes x.subtypes c.args.own i.own is_inside k.env.is_inside (extends_same x.subtypes) own_is known.now.is_inside in
    let choosing_same =
    declared_same object_of x.subtypes first c.args.choosing i.choosing is_inside k.choosing.is_inside c.in_ok-own.ensures.extends choosing_is
    known.now.is_inside_choosing in
    c.set.ensures.known t (object_denoted k.env.is_inside i.own v static) (object_denoted k.choosing.is_inside i.choosing v static) k ks
    (has_known_grown t x.subtypes last x.contents x.log.items x.marks.items k ks grown known)
    (same_entry second last t c.in_ok-entry.entry (λ j. record (subtype_denoted j) { value = v; known = static })
    (indicated_in (at second c.in_ok-own.own)) (declared_in k.env.is_inside (object_of i.own)) same own_same
    (c.in_ok-entry.ensures.is t v is_value is_shape))
    (same_indicated second last c.in_ok-choosing.choosing (declared_in is_inside (object_of (indicated_in (at first c.args.choosing))))
    (declared_in k.choosing.is_inside (object_of i.choosing)) same choosing_same c.in_ok-choosing.ensures.indicates)
