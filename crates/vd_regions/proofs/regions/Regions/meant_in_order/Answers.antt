use Rattle.std.proofs.Common.{◌≡◌, sym, subst, ◌∙◌}
use Rattle.std.specs.List.{Contains}
use Rattle.vd_regions.proofs.MeaningLemmas.{from_meanings, in_meanings}
use Rattle.vd_regions.proofs.regions.Regions.meant_in_order.Goals as goal

pub returns-clause-all : goal.returns-clause-all
returns-clause-all c = λ k.
    let s = c.args.self.now in
    let ids : c.in_ok-ids.ids.items ≡ c.put_in_order.new.found.items = c.in_ok-ids.ensures ∙ c.deref.ensures.value in
    let both = c.in_ok-put_in_order.ensures.same k in (
      λ m. from_meanings s c.args.some.now k (subst (λ xs. Contains xs k) c.in_ok-meanings.ensures (both.0 (subst (λ xs. Contains xs k) ids m))),
      λ is. subst (λ xs. Contains xs k) (sym ids) (both.1 (subst (λ xs. Contains xs k) (sym c.in_ok-meanings.ensures)
          (in_meanings s c.args.some.now k is))),
    )
