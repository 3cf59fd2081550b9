use Rattle.std.proofs.Common.{◌≡◌, ◌↔◌, ℕ, sym, subst, ◌∙◌}
use Rattle.std.specs.List.{Contains}
use Rattle.vd_regions.specs.Visible.{IsVisible, IsMeant}
use Rattle.vd_regions.specs.InOrder.{visible_in}
use Rattle.vd_regions.proofs.ListLemmas.{lists_what_is_visible, lists_visible_in_order}
use Rattle.vd_regions.proofs.MeaningLemmas.{meant_of}
use Rattle.vd_regions.proofs.OrderLemmas.{same_in_order}
use Rattle.vd_regions.proofs.regions.Regions.visible.Goals as goal

pub returns-clause-all : goal.returns-clause-all
returns-clause-all c = λ k.
    let s = c.args.self.now in
    let region = c.args.region in
    let name = c.args.name.now in
    let named : c.in_ok-key.key.name.items ≡ c.args.name.now = c.in_ok-key.ensures.1 ∙ c.as_bytes.ensures.value in
    let placed : c.in_ok-key.key.region ≡ c.args.region = c.in_ok-key.ensures.0 ∙ c.number.ensures in
    let each : (j : ℕ) → Contains c.in_ok-found.found.items j ↔ IsVisible s region name j =
    subst (λ r. (j : ℕ) → Contains c.in_ok-found.found.items j ↔ IsVisible c.args.self.now r c.args.name.now j) placed
    (subst (λ n. (j : ℕ) → Contains c.in_ok-found.found.items j ↔ IsVisible c.args.self.now c.in_ok-key.key.region n j) named c.in_ok-found.ensures) in
    let seen = c.in_ok-ids.ensures.all k in (
      λ m. meant_of s (Contains c.in_ok-found.found.items) (IsVisible s region name) (λ j. (each j).0) k
          (subst (λ xs. IsMeant s (Contains xs) k) c.deref.ensures.value (seen.0 m)),
      λ is. seen.1 (subst (λ xs. IsMeant s (Contains xs) k) (sym c.deref.ensures.value)
          (meant_of s (IsVisible s region name) (Contains c.in_ok-found.found.items) (λ j. (each j).1) k is)),
    )

pub returns-clause-is : goal.returns-clause-is
returns-clause-is c =
    let s = c.args.self.now in
    let region = c.args.region in
    let name = c.args.name.now in
    same_in_order c.in_ok-ids.ids.items (visible_in s region name) c.in_ok-ids.ensures.in_order (lists_visible_in_order s region name)
    (λ k m. (lists_what_is_visible s region name k).1 ((returns-clause-all c k).0 m))
    (λ k m. (returns-clause-all c k).1 ((lists_what_is_visible s region name k).0 m))
