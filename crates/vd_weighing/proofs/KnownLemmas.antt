-- What is known, as tables have it, and what it says of nodes. Where numbers are greater than the greatest one of 64 bits, both are cut off alike.
use Rattle.std.proofs.Common.{◌≡◌, ℕ, ◌+◌, ◌*◌, Bool, true, false, if◌then◌else◌, List, [], ◌∷◌, ◌++◌, Option, Some, None, option_map, is_some, refl, sym, ap, ◌∙◌, arith}
use Rattle.std.specs.Option.{unwrap_or}
use Rattle.vd_declarations.specs.declared.declarations.Declaration.{Declaration}
use Rattle.vd_forest.specs.Forest.{Forest, nothing, more, parts_of, next_of, tree_count}
use Rattle.vd_forms.specs.declared.form.Form.TheVariants as form
use Rattle.vd_forms.specs.Forms.{same_form}
use Rattle.vd_resolved.specs.declared.node.Resolved.{Resolved}
use Rattle.vd_weighing.specs.Weights.{Known, nothing_known, sum_at, has_entry, sum_for, times_at, has_entry_at, with_generic, with_view, with_copies, for_each, declared_at, declared_by, own_weight, nodes, nodes_of_first, part, mode_count, element_count, formal_of, next_port, later_ports, elements, port_map, entity_instance, sums_at}
use Rattle.vd_weighing.specs.Limits.{at_most}
use Rattle.vd_weighing.specs.Tables.{sum_found, with_sum, with_elements, with_ports, with_instance, sums_found}
use Rattle.vd_weighing.proofs.LimitLemmas.{at_most_small, at_most_twice, at_most_sum, at_most_times_right}
use Rattle.vd_weighing.proofs.TableLemmas.{times_are_found, entries_are_found}
use Rattle.vd_weighing.proofs.SeenLemmas.{look, AreViews, views_put, views_each, views_copied, AreSums, total_by, total_or_zero, sums_put, sums_copied}

-- both parts of a sum are cut off alike
sum_cut : (a b a' b' : ℕ) → at_most a ≡ at_most a' → at_most b ≡ at_most b' → at_most (a + b) ≡ at_most (a' + b')
sum_cut a b a' b' first second =
    sym (at_most_sum a b) ∙ ap (λ n. at_most (n + at_most b)) first ∙ ap (λ n. at_most (at_most a' + n)) second ∙ at_most_sum a' b'

-- ---- the tables stand for what is known

pub record IsSeen (seen known : Known) : Type 0 where
  pub sums : AreSums seen.generics known.generics
  pub views : AreViews seen.views known.views
  pub instances : seen.instances ≡ known.instances

pub seen_nothing : IsSeen nothing_known nothing_known
seen_nothing = record { sums = record { each = λ x. refl }; views = record { each = λ x. refl }; instances = refl }

module _ (d k : Known) (is : IsSeen d k) where
  pub seen_sum : (id : Option ℕ) (n m : ℕ) → m ≡ at_most n → IsSeen (with_sum id m d) (with_generic id n k)
  seen_sum None n m same = is
  seen_sum (Some x) n m same = record { sums = sums_put d.generics k.generics x n m is.sums same; views = is.views; instances = is.instances }

  pub seen_view : (id : Option ℕ) (n m : ℕ) → m ≡ at_most n → IsSeen (with_elements id m d) (with_view id n k)
  seen_view None n m same = is
  seen_view (Some x) n m same = record { sums = is.sums; views = views_put d.views k.views x n m is.views same; instances = is.instances }

  pub seen_ports : (ps : List ℕ) (n m : ℕ) → m ≡ at_most n → IsSeen (with_ports ps m d) (record k { views = for_each ps n ++ k.views })
  seen_ports ps n m same = record { sums = is.sums; views = views_each d.views k.views ps n m is.views same; instances = is.instances }

  pub seen_instance : (ds : List Declaration) (generic instance : Option ℕ)
      → IsSeen (with_instance generic (declared_by ds generic) (declared_by ds instance) d)
      (with_copies ds generic instance (record k { instances = generic ∷ k.instances }))
  seen_instance ds generic instance =
      let olds = declared_by ds generic in
      let news = declared_by ds instance in
      record {
        sums = sums_copied olds news d.generics k.generics d.generics k.generics is.sums is.sums;
        views = views_copied olds news d.views k.views d.views k.views is.views is.views;
        instances = ap (λ is. generic ∷ is) is.instances;
      }

  -- ---- what stands for a number

  pub times_seen : (id : Option ℕ) → times_at id d.views ≡ at_most (times_at id k.views)
  times_seen None = sym (at_most_small 1 (omega arith))
  times_seen (Some x) =
      times_are_found (Some x) d.views ∙ ap (λ o. unwrap_or o 1) (is.views.each x) ∙ by (look x k.views)
      ∙ ap at_most (sym (times_are_found (Some x) k.views))
    where
      by : (o : Option ℕ) → unwrap_or (option_map at_most o) 1 ≡ at_most (unwrap_or o 1)
      by None = sym (at_most_small 1 (omega arith))
      by (Some n) = refl

  pub sum_seen : (id : Option ℕ) → sum_found id d.generics ≡ at_most (sum_at id k.generics)
  sum_seen None = sym (at_most_small 0 (omega arith))
  sum_seen (Some x) = ap (λ o. unwrap_or o 0) (is.sums.each x) ∙ total_or_zero x k.generics

  pub entry_seen : (id : Option ℕ) → has_entry_at id d.generics ≡ has_entry_at id k.generics
  entry_seen None = refl
  entry_seen (Some x) =
      entries_are_found (Some x) d.generics ∙ ap is_some (is.sums.each x) ∙ by (has_entry x k.generics) (sum_for x k.generics)
    where
      by : (b : Bool) (n : ℕ) → is_some (total_by b n) ≡ b
      by true n = refl
      by false n = refl

  -- ---- nodes

  mode_seen : (ds : List Declaration) (f : Forest Resolved) → mode_count ds f d ≡ at_most (mode_count ds f k)
  mode_seen ds nothing = sym (at_most_small 0 (omega arith))
  mode_seen ds (more node text place parts next) = by (same_form node.form form.ViewMode)
    where
      by : (b : Bool) → (if b then times_at (declared_at parts) d.views else 1) ≡ at_most (if b then times_at (declared_at parts) k.views else 1)
      by true = times_seen (declared_at parts)
      by false = sym (at_most_small 1 (omega arith))

  pub elements_seen : (ds : List Declaration) (f : Forest Resolved) → at_most (element_count ds f d) ≡ at_most (element_count ds f k)
  elements_seen ds nothing = refl
  elements_seen ds (more node text place parts next) =
      let names = tree_count (parts_of parts) in
      let mode = next_of parts in
      sum_cut (names * mode_count ds mode d) (element_count ds next d) (names * mode_count ds mode k) (element_count ds next k)
      (ap (λ n. at_most (names * n)) (mode_seen ds mode) ∙ at_most_times_right names (mode_count ds mode k)) (elements_seen ds next)

  associations_seen : (ds : List Declaration) (ports : List ℕ) (f : Forest Resolved) → at_most (elements ds ports d f) ≡ at_most (elements ds ports k f)
  associations_seen ds ports nothing = refl
  associations_seen ds ports (more node text place parts next) =
      let weight = own_weight node.form + nodes parts in
      let port = formal_of ds node.form parts (next_port ds ports) in
      sum_cut (weight * times_at port d.views) (elements ds (later_ports ds ports) d next) (weight * times_at port k.views)
      (elements ds (later_ports ds ports) k next)
      (ap (λ n. at_most (weight * n)) (times_seen port) ∙ at_most_times_right weight (times_at port k.views))
      (associations_seen ds (later_ports ds ports) next)

  port_map_seen : (ds : List Declaration) (entity : Option ℕ) (f : Forest Resolved) → at_most (port_map ds entity d f) ≡ at_most (port_map ds entity k f)
  port_map_seen ds entity nothing = refl
  port_map_seen ds entity (more node text place parts next) =
      sum_cut (own_weight node.form) (elements ds (declared_by ds entity) d parts) (own_weight node.form) (elements ds (declared_by ds entity) k parts) refl
      (associations_seen ds (declared_by ds entity) parts)

  pub entity_seen : (ds : List Declaration) (parts : Forest Resolved)
      → at_most (entity_instance ds parts d).weight ≡ at_most (entity_instance ds parts k).weight
  entity_seen ds parts =
      let named = own_weight form.EntityInstantiation + nodes_of_first parts + nodes_of_first (part 1 parts) + nodes_of_first (part 2 parts) in
      sum_cut named (port_map ds (declared_at parts) d (part 3 parts)) named (port_map ds (declared_at parts) k (part 3 parts)) refl
      (port_map_seen ds (declared_at parts) (part 3 parts))

  pub sums_seen : (ds : List Declaration) (ids : List (Option ℕ)) → at_most (sums_found ids d.generics) ≡ at_most (sums_at ds ids k.generics)
  sums_seen ds [] = refl
  sums_seen ds (id ∷ ids) =
      sum_cut (sum_found id d.generics) (sums_found ids d.generics) (sum_at id k.generics) (sums_at ds ids k.generics)
      (ap at_most (sum_seen id) ∙ at_most_twice (sum_at id k.generics)) (sums_seen ds ids)
