use Rattle.std.proofs.Common.{ap, sym, ◌∙◌}
use Rattle.vd_environments.specs.Environments.{own_bounds}
use Rattle.vd_value_rules.specs.Indicated.{static_of}
use Rattle.vd_static_values.specs.Names.{indicated_by}
use Rattle.vd_static_names.proofs.AlikeLemmas.{bounds_of_slice}
use Rattle.vd_static_names.proofs.subtypes.own_bounds.Goals as goal

pub returns-then-is_array : goal.returns-then-is_array
returns-then-is_array c =
    ap static_of c.sliced.ensures
    ∙ bounds_of_slice c.args.subtypes.now c.in-Slice.of c.in-Slice.bounds c.in-Slice.known c.own_bounds-then-is_array.result (sym c.is_array.ensures ∙ c.if-is_array.true)
    (c.own_bounds-then-is_array.ensures ∙ ap (λ f. own_bounds (Rattle.vd_value_rules.specs.Indicated.indicated_in f).make) c.cursor-then-is_array.ensures)
    ∙ ap (λ s. own_bounds (indicated_by c.args.subtypes.now s).make) (sym c.in-Slice.is)
