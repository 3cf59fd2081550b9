use Rattle.std.proofs.Common.{◌≤◌, ap, length, subst, sym}
use Rattle.vd_environments.specs.Environments.{Static}
use Rattle.vd_meaning.specs.Names.{stepped, to_slice}
use Rattle.vd_static_values.specs.Names.{IsName, number_in}
use Rattle.vd_static_names.proofs.PartLemmas.{slice_number, slice_part}
use Rattle.vd_static_names.proofs.StepLemmas.{stepped_named}
use Rattle.vd_static_names.proofs.steps.slice.Goals as goal

pub returns-clause-named : goal.returns-clause-named
returns-clause-named c = λ e m p rng kn inner is known found.
    let store = c.args.subtypes.now in
    let x = c.args.name in
    let part = c.slice_part-part.result in
    let made = c.slice_part-part.ensures in
    let within : number_in part.subtype ≤ length store =
    subst (λ n. n ≤ length store) (sym (slice_number part.subtype x.subtype c.args.range c.args.known made.subtype)) c.requires in
    subst (λ y. IsName store e y (stepped (to_slice rng kn inner) m p)) (sym c.part_of.ensures)
    (stepped_named store e (to_slice rng kn inner) m p x c.args.known c.args.known.is_local part is known (sym (ap (λ (s : Static). s.is_local) known)) within
    (slice_part store e x part c.args.range c.args.known rng kn inner made.subtype made.has made.shape made.no_shape known found))
