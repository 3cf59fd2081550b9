-- What is said of the lists of InOrder.antt.
use Rattle.std.specs.Prelude.{◌↔◌, ℕ, List}
use Rattle.std.specs.List.{Contains}
use Rattle.std.specs.List.Sorted.{IsStrictlyIncreasing}
use Rattle.vd_regions.specs.Scopes.{Scopes}
use Rattle.vd_regions.specs.Visible.{IsVisible, IsSelected, IsMeant}
use Rattle.vd_regions.specs.InOrder.{visible_in, selected_in_order}

-- the list has exactly what is visible, in the order in which it was entered
abbrev pub ListsWhatIsVisible : Type 0
ListsWhatIsVisible = (s : Scopes) (region : ℕ) (name : List ℕ) (k : ℕ) → Contains (visible_in s region name) k ↔ IsMeant s (IsVisible s region name) k

abbrev pub ListsVisibleInOrder : Type 0
ListsVisibleInOrder = (s : Scopes) (region : ℕ) (name : List ℕ) → IsStrictlyIncreasing (visible_in s region name)

-- the list has exactly what a selected name means, in the order in which it was entered
abbrev pub ListsWhatIsSelected : Type 0
ListsWhatIsSelected =
    (s : Scopes) (place prefix : ℕ) (name : List ℕ) (k : ℕ) → Contains (selected_in_order s place prefix name) k ↔ IsMeant s (IsSelected s place prefix name) k

abbrev pub ListsSelectedInOrder : Type 0
ListsSelectedInOrder = (s : Scopes) (place prefix : ℕ) (name : List ℕ) → IsStrictlyIncreasing (selected_in_order s place prefix name)
