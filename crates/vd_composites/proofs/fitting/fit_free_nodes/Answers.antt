use Rattle.std.proofs.Common.{sym, ap, ◌∙◌}
use Rattle.vd_composites.specs.Nodes.{bounds_in}
use Rattle.vd_composites.proofs.ValueLemmas.{is_array, own_fits}
use Rattle.vd_composites.proofs.fitting.fit_free_nodes.Goals as goal

pub returns : goal.returns
returns c of =
    let a = is_array c.args.nodes.items c.in-Some.own c.requires (ap bounds_in (sym c.deref.ensures.value) ∙ sym c.bounds_at.ensures ∙ c.in-Some.is) in
    (c.requires, own_fits c.args.nodes.items c.in-Some.own c.args.index of a (sym c.covers.ensures ∙ c.if-not-covers.false))
