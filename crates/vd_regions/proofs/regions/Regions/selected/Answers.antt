use Rattle.std.proofs.Common.{◌≡◌, ◌++◌, sym, ap, subst, ◌∙◌}
use Rattle.std.specs.List.{Contains}
use Rattle.vd_regions.specs.Found.{selected_from}
use Rattle.vd_regions.specs.Visible.{IsSelected, IsMeant}
use Rattle.vd_regions.specs.InOrder.{selected_in_order}
use Rattle.vd_regions.proofs.ListLemmas.{lists_what_is_selected, lists_selected_in_order}
use Rattle.vd_regions.proofs.MeaningLemmas.{meant_of}
use Rattle.vd_regions.proofs.OrderLemmas.{same_in_order}
use Rattle.vd_regions.proofs.VisibleLemmas.{from_selected, in_selected}
use Rattle.vd_regions.proofs.regions.Regions.selected.Goals as goal

pub returns-clause-all : goal.returns-clause-all
returns-clause-all c = λ k.
    let s = c.args.self.now in
    let found : c.add_selected.new.found.items ≡ selected_from s c.args.place c.args.prefix c.args.name.now =
    c.in_ok-add_selected.ensures
    ∙ ap (λ xs. xs ++ selected_from s c.number.result c.number-2.result c.as_bytes.result.now) c.new-found.ensures.items
    ∙ ap (λ p. selected_from s p c.number-2.result c.as_bytes.result.now) c.number.ensures
    ∙ ap (λ p. selected_from s c.args.place p c.as_bytes.result.now) c.number-2.ensures
    ∙ ap (selected_from s c.args.place c.args.prefix) c.as_bytes.ensures.value in
    let seen = c.in_ok-ids.ensures.all k in (
      λ m. meant_of s (Contains c.add_selected.new.found.items) (IsSelected s c.args.place c.args.prefix c.args.name.now)
          (λ j found_j. from_selected s c.args.place c.args.prefix c.args.name.now j (subst (λ xs. Contains xs j) found found_j))
          k (subst (λ xs. IsMeant s (Contains xs) k) c.deref.ensures.value (seen.0 m)),
      λ is. seen.1 (subst (λ xs. IsMeant s (Contains xs) k) (sym c.deref.ensures.value)
          (meant_of s (IsSelected s c.args.place c.args.prefix c.args.name.now) (Contains c.add_selected.new.found.items)
          (λ j seen_j. subst (λ xs. Contains xs j) (sym found) (in_selected s c.args.place c.args.prefix c.args.name.now j seen_j)) k is)),
    )

pub returns-clause-is : goal.returns-clause-is
returns-clause-is c =
    let s = c.args.self.now in
    let place = c.args.place in
    let prefix = c.args.prefix in
    let name = c.args.name.now in
    same_in_order c.in_ok-ids.ids.items (selected_in_order s place prefix name) c.in_ok-ids.ensures.in_order (lists_selected_in_order s place prefix name)
    (λ k m. (lists_what_is_selected s place prefix name k).1 ((returns-clause-all c k).0 m))
    (λ k m. (returns-clause-all c k).1 ((lists_what_is_selected s place prefix name k).0 m))
