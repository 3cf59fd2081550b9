use Rattle.std.proofs.Common.{◌*◌, ◌+◌, ◌∷◌, List, reverse}
use Rattle.vd_walks.proofs.PositionLemmas.{work_round}
use Rattle.vd_forest.specs.Forest.{size}
use Rattle.vd_known_units.proofs.WalkLemmas.{Walked}
use Rattle.vd_known_units.specs.Walking.{all_declared}
use Rattle.vd_known_designs.specs.Designs.{Knows}
use Rattle.vd_known_forms.specs.Views.{HasViews}
use Rattle.vd_value_rules.specs.Designs.{Design}
use Rattle.vd_value_rules.specs.Knowledge.{Known}
use Rattle.vd_known_units.proofs.walking.declare_all.Given as goal

abbrev pub invariant-loop-node : goal.invariant-loop-node
invariant-loop-node g l = record {
  walked : (d : Design) (k : Known) (ks : List Known) → HasViews d l.interfaces → Knows d l.fn.design (k ∷ ks)
      → Walked g.T.Declares.by d l.design (all_declared g.T.Declares.by d l.trees k) ks l.left (reverse l.round.items);
}

abbrev pub decreases-loop-node : goal.decreases-loop-node
decreases-loop-node g l = 2 * size l.left + work_round (reverse l.round.items)
