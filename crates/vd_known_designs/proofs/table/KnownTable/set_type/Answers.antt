use Rattle.std.proofs.Common.{subst, sym, ◌∙◌}
use Rattle.vd_forest.proofs.StoreLemmas.{extends_same, extends_trans}
use Rattle.vd_forest.specs.Store.{Extends, at}
use Rattle.vd_value_rules.specs.Indicated.{indicated_in}
use Rattle.vd_known_designs.proofs.DeclaredLemmas.{declared_same, same_entry, same_indicated}
use Rattle.vd_known_designs.proofs.KnownLemmas.{has_known_grown, indicates_grown}
use Rattle.vd_known_designs.specs.Denoted.{subtype_denoted, type_denoted}
use Rattle.vd_known_designs.specs.Tables.{declared_in}
use Rattle.vd_known_designs.proofs.table.KnownTable.set_type.Goals as goal

pub returns-clause-known : goal.returns-clause-known
returns-clause-known c = λ t i k ks known own_is choosing_is.
    let x = c.args.self.now in
    let is_inside = x.contents.is_inside in
    let first = c.declared_in.new.self in
    let second = c.declared_in-2.new.self in
    let last = c.type_entry.new.subtypes in
    let same = c.in_ok-entry.ensures.same in
    let grown : Extends x.subtypes last =
    subst (Extends x.subtypes) (sym same) (extends_trans x.subtypes first second c.in_ok-own.ensures.extends c.in_ok-choosing.ensures.extends) in
    let own = declared_in is_inside (indicated_in (at x.subtypes c.args.own)) in
    let own_same =
    (indicates_grown first second c.in_ok-own.own own c.in_ok-choosing.ensures.extends c.in_ok-own.ensures.indicates).is
    ∙ declared_same (λ j. j) x.subtypes x.subtypes c.args.own i.own is_inside k.env.is_inside (extends_same x.subtypes) own_is known.now.is_inside in
    let choosing_same =
    declared_same (λ j. j) x.subtypes first c.args.choosing i.choosing is_inside k.choosing.is_inside c.in_ok-own.ensures.extends choosing_is
    known.now.is_inside_choosing in
    c.set.ensures.known t (type_denoted k.env.is_inside i.own) (type_denoted k.choosing.is_inside i.choosing) k ks
    (has_known_grown t x.subtypes last x.contents x.log.items x.marks.items k ks grown known)
    (same_entry second last t c.in_ok-entry.entry subtype_denoted (indicated_in (at second c.in_ok-own.own)) (declared_in k.env.is_inside i.own) same own_same
    (c.in_ok-entry.ensures.is t))
    (same_indicated second last c.in_ok-choosing.choosing (declared_in is_inside (indicated_in (at first c.args.choosing)))
    (declared_in k.choosing.is_inside i.choosing) same choosing_same c.in_ok-choosing.ensures.indicates)
