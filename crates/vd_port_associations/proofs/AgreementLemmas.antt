-- What a signal breaks as an actual is of no rule of names.
use Rattle.std.proofs.Common.{◌≡◌, ◌++◌, ◌∷◌, Bool, List, None, Option, Some, [], ap₂, false, if◌then◌else◌, nat_lt, refl, suc, true, zero, ℕ, ◌∙◌}
use Rattle.std.proofs.lemmas.List.Elements.{filter-append}
use Rattle.std.specs.List.{filter}
use Rattle.vd_bytes.specs.declared.places.Place.{Place}
use Rattle.vd_meaning.specs.Building.{BothWays, Input, Mode, Output}
use Rattle.vd_meaning.specs.NodeFacets.{ByMode, ByView, ElementMode, ViewElement}
use Rattle.vd_value_rules.specs.Actuals.{all_disagree, disagree, disagree_by, disagree_inside, each_element_disagrees, flat, refused_for, signal_broken}
use Rattle.vd_value_rules.specs.Designs.{Design, Oriented, at_element, elements_of_view}
use Rattle.vd_value_rules.specs.Reaching.{Reached, oriented}
use Rattle.vd_value_rules.specs.Rules.{is_of_names}

-- the rules of names among some
abbrev pub of_names : List ℕ → List ℕ
of_names ns = filter (λ n. nat_lt n 400) ns

modes_later : (m a : Mode) → of_names (disagree m a) ≡ []
modes_later Input Input = refl
modes_later Input Output = refl
modes_later Input BothWays = refl
modes_later Output Input = refl
modes_later Output Output = refl
modes_later Output BothWays = refl
modes_later BothWays Input = refl
modes_later BothWays Output = refl
modes_later BothWays BothWays = refl

each_later : (go : Oriented → Oriented → List ℕ) (d : Design) (formal actual : Oriented) (xs : List ViewElement)
    → ((f a : Oriented) → of_names (go f a) ≡ []) → of_names (flat (each_element_disagrees go d formal actual xs)) ≡ []
each_later go d formal actual [] none = refl
each_later go d formal actual (x ∷ xs) none =
    filter-append (λ n. nat_lt n 400) (go (at_element d formal x.name) (at_element d actual x.name)) (flat (each_element_disagrees go d formal actual xs))
    ∙ ap₂ (λ ms ns. ms ++ ns) (none (at_element d formal x.name) (at_element d actual x.name)) (each_later go d formal actual xs none)

by_later : (go : Oriented → Oriented → List ℕ) (d : Design) (formal actual : Oriented) (f a : ElementMode)
    → ((x y : Oriented) → of_names (go x y) ≡ []) → of_names (disagree_by go d formal actual f a) ≡ []
by_later go d formal actual (ByMode m) (ByMode a) none =
    modes_later (Rattle.vd_meaning.specs.Instances.conversed formal.is_swapped m) (Rattle.vd_meaning.specs.Instances.conversed actual.is_swapped a)
by_later go d formal actual (ByView view k) a none = each_later go d formal actual (elements_of_view d view) none
by_later go d formal actual (ByMode m) (ByView view k) none = each_later go d formal actual (elements_of_view d view) none

inside_later : (n : ℕ) (d : Design) (formal actual : Oriented) → of_names (disagree_inside n d formal actual) ≡ []
inside_later zero d formal actual = refl
inside_later (suc n) d formal actual = by_later (disagree_inside n d) d formal actual formal.mode actual.mode (inside_later n d)

all_later : (d : Design) (formal : Oriented) (o : Option Oriented) → of_names (all_disagree d formal o) ≡ []
all_later d formal None = refl
all_later d formal (Some actual) = inside_later (suc (suc (Rattle.std.proofs.Common.length d.units.views))) d formal actual

refused_later : (place : Place) (ns : List ℕ) → of_names ns ≡ [] → filter is_of_names (refused_for place ns) ≡ []
refused_later place [] none = refl
refused_later place (n ∷ ns) none = by_rule (nat_lt n 400) none (refused_later place ns)
  where
    by_rule : (b : Bool) → (if b then n ∷ of_names ns else of_names ns) ≡ [] → (of_names ns ≡ [] → filter is_of_names (refused_for place ns) ≡ [])
        → (if b then record { place = place; rule = n } ∷ filter is_of_names (refused_for place ns) else filter is_of_names (refused_for place ns)) ≡ []
    by_rule true none rest = absurd (cc)
    by_rule false none rest = rest none

-- none of the refusals is one of names
pub signal_of_rules : (d : Design) (formal : Oriented) (place : Place) (r : Reached) → filter is_of_names (signal_broken d formal place r) ≡ []
signal_of_rules d formal place r = refused_later place (all_disagree d formal (oriented d r)) (all_later d formal (oriented d r))
