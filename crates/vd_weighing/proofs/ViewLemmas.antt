-- Elements of views and associations of ports, one after the other.
use Rattle.std.proofs.Common.{◌≡◌, ℕ, ◌+◌, ◌*◌, List, sym, ap, ◌∙◌}
use Rattle.vd_bytes.specs.declared.places.Place.{Place}
use Rattle.vd_declarations.specs.declared.declarations.Declaration.{Declaration}
use Rattle.vd_forest.specs.Forest.{Forest, more, parts_of, next_of, tree_count}
use Rattle.vd_resolved.specs.declared.node.Resolved.{Resolved}
use Rattle.vd_weighing.specs.Weights.{Known, own_weight, nodes, times_at, mode_count, element_count, formal_of, next_port, later_ports, elements}
use Rattle.vd_weighing.specs.Limits.{at_most}
use Rattle.vd_weighing.proofs.LimitLemmas.{at_most_plus_right, at_most_times, IsCounted, counted_more}

module _ (ds : List Declaration) (k : Known) (f parts next : Forest Resolved) (node : Resolved) (text : List ℕ) (place : Place) (opened : f ≡ more node text place parts next) (count made new want : ℕ) (new_is : new ≡ at_most (count + made)) where
  pub elements_more : (names each : ℕ) → names ≡ at_most (tree_count (parts_of parts)) → each ≡ mode_count ds (next_of parts) k → made ≡ at_most (names * each)
      → IsCounted count (element_count ds f k) want → IsCounted new (element_count ds next k) want
  elements_more names each names_are each_is made_is before =
      counted_more count (tree_count (parts_of parts) * mode_count ds (next_of parts) k) (element_count ds next k) (element_count ds f k) want made new
      before (ap (λ g. element_count ds g k) opened)
      (made_is ∙ ap (λ n. at_most (n * each)) names_are ∙ ap (λ n. at_most (at_most (tree_count (parts_of parts)) * n)) each_is
      ∙ at_most_times (tree_count (parts_of parts)) (mode_count ds (next_of parts) k))
      new_is

  pub associations_more : (ports later : List ℕ) (own inner here often : ℕ) → own ≡ own_weight node.form → inner ≡ at_most (nodes parts) → here ≡ at_most (own + inner)
      → often ≡ times_at (formal_of ds node.form parts (next_port ds ports)) k.views → made ≡ at_most (here * often) → later ≡ later_ports ds ports
      → IsCounted count (elements ds ports k f) want → IsCounted new (elements ds later k next) want
  associations_more ports later own inner here often own_is inner_is here_is often_is made_is later_is before =
      let weight = own_weight node.form + nodes parts in
      let times = times_at (formal_of ds node.form parts (next_port ds ports)) k.views in
      let whole : here ≡ at_most weight =
      here_is ∙ ap (λ n. at_most (n + inner)) own_is ∙ ap (λ n. at_most (own_weight node.form + n)) inner_is ∙ at_most_plus_right (own_weight node.form) (nodes parts) in
      counted_more count (weight * times) (elements ds later k next) (elements ds ports k f) want made new before
      (ap (elements ds ports k) opened ∙ ap (λ ps. weight * times + elements ds ps k next) (sym later_is))
      (made_is ∙ ap (λ n. at_most (n * often)) whole ∙ ap (λ n. at_most (at_most weight * n)) often_is ∙ at_most_times weight times)
      new_is
