-- What stands in the list of what a name means.
use Rattle.std.proofs.Common.{◌↔◌, ℕ, List, map}
use Rattle.std.specs.List.{Contains}
use Rattle.std.specs.List.Sorted.{IsStrictlyIncreasing}
use Rattle.vd_regions.specs.Scopes.{Scopes, meant, chain}
use Rattle.vd_regions.specs.Found.{given, selected_from}
use Rattle.vd_regions.specs.Visible.{IsVisible, IsSelected, IsMeant}
use Rattle.vd_regions.specs.InOrder.{in_order, visible_entries, visible_in, selected_in_order}
use Rattle.vd_regions.proofs.OrderLemmas.{from_order, to_order, order_rises}
use Rattle.vd_regions.proofs.MeaningLemmas.{from_meanings, in_meanings, meant_of}
use Rattle.vd_regions.proofs.VisibleLemmas.{from_visible, in_visible, from_given, in_given, from_selected, in_selected}

-- what some entries mean, in order, where these entries are those with a property
listed : (s : Scopes) (ks : List ℕ) (P : ℕ → Type 0) → ((j : ℕ) → Contains ks j → P j) → ((j : ℕ) → P j → Contains ks j)
    → (k : ℕ) → Contains (in_order (map (meant s) ks)) k ↔ IsMeant s P k
listed s ks P has all k = (
  λ c. meant_of s (Contains ks) P has k (from_meanings s ks k (from_order (map (meant s) ks) k c)),
  λ is. to_order (map (meant s) ks) k (in_meanings s ks k (meant_of s P (Contains ks) all k is)),
)

pub lists_what_is_visible : (s : Scopes) (region : ℕ) (name : List ℕ) (k : ℕ) → Contains (visible_in s region name) k ↔ IsMeant s (IsVisible s region name) k
unfolding visible_in
lists_what_is_visible s region name =
    listed s (visible_entries s region name) (IsVisible s region name)
    (from_visible s name region (given s name (chain s region)) (from_given s name region) (in_given s name region))
    (in_visible s name region (given s name (chain s region)) (from_given s name region) (in_given s name region))

pub lists_visible_in_order : (s : Scopes) (region : ℕ) (name : List ℕ) → IsStrictlyIncreasing (visible_in s region name)
unfolding visible_in
lists_visible_in_order s region name = order_rises (map (meant s) (visible_entries s region name))

pub lists_what_is_selected : (s : Scopes) (place prefix : ℕ) (name : List ℕ) (k : ℕ)
    → Contains (selected_in_order s place prefix name) k ↔ IsMeant s (IsSelected s place prefix name) k
unfolding selected_in_order
lists_what_is_selected s place prefix name =
    listed s (selected_from s place prefix name) (IsSelected s place prefix name)
    (from_selected s place prefix name) (in_selected s place prefix name)

pub lists_selected_in_order : (s : Scopes) (place prefix : ℕ) (name : List ℕ) → IsStrictlyIncreasing (selected_in_order s place prefix name)
unfolding selected_in_order
lists_selected_in_order s place prefix name = order_rises (map (meant s) (selected_from s place prefix name))
