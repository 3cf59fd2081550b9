-- Pairs of modes or views in memory, and what they break.
use Rattle.std.specs.Prelude.{◌++◌, ◌==◌, ◌∷◌, Bool, List, None, Option, Some, [], if◌then◌else◌, ℕ}
use Rattle.vd_bytes.specs.declared.answers.Refused.{Refused}
use Rattle.vd_bytes.specs.declared.places.Place.{Place}
use Rattle.vd_meaning.specs.Building.{BothWays, Input, Output}
use Rattle.vd_meaning.specs.NodeFacets.{ByMode, ByView, ElementMode}
use Rattle.vd_walks.specs.Least.{least_of}
use Rattle.vd_port_associations.specs.declared.pairs.Pair.{Pair}
use Rattle.vd_port_associations.specs.declared.pairs.Side.{Side}
use Rattle.vd_port_associations.specs.declared.pairs.Way.{Way}
use Rattle.vd_port_associations.specs.declared.pairs.Way.TheVariants.{Elements, Modes}
use Rattle.vd_port_lists.specs.Modes.{read_plain}
use Rattle.vd_value_rules.specs.Actuals.{disagree, disagree_inside, each_element_disagrees, flat, refused_for}
use Rattle.vd_value_rules.specs.Designs.{Design, Oriented, elements_of_view}

-- what numbers stand for
abbrev pub read_view : ℕ → ℕ → Option ℕ
read_view kind view = if kind == 3 then Some view else None

abbrev pub read_kind : ℕ → ℕ → Bool → ElementMode
read_kind kind view converse =
    if kind == 0 then ByMode Input
    else (if kind == 1 then ByMode Output else (if kind == 2 then ByMode BothWays else ByView (read_view kind view) converse))

abbrev pub read_side : Side → Oriented
read_side s = record { mode = read_kind s.kind s.view s.is_converse; is_swapped = s.is_swapped }

-- what is broken, by the way in which two are compared
abbrev pub by_way : (Oriented → Oriented → List ℕ) → Design → Oriented → Oriented → Way → List ℕ
by_way go d formal actual (Modes f a) = disagree (read_plain f) (read_plain a)
by_way go d formal actual (Elements view) = flat (each_element_disagrees go d formal actual (elements_of_view d view))

-- the rules that a pair breaks, where views stand at most so many inside one another
abbrev pub pair_rules : ℕ → Design → Pair → List ℕ
pair_rules n d p = disagree_inside n d (read_side p.formal) (read_side p.actual)

abbrev pub all_rules : ℕ → Design → List Pair → List ℕ
all_rules n d [] = []
all_rules n d (p ∷ ps) = pair_rules n d p ++ all_rules n d ps

-- the first of some rules at a place
abbrev pub first_rule : Place → List ℕ → Option Refused
first_rule place ns = least_of (refused_for place ns)
