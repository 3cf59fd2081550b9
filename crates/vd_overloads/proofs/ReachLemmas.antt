-- A name that has a reading comes, at its end, to what is wanted.
use Rattle.std.proofs.Common.{◌≡◌, ℕ, Bool, true, false, List, [], ◌∷◌, map, refl, sym, subst, if◌then◌else◌}
use Rattle.std.specs.List.{Contains, flat_map}
use Rattle.vd_bytes.specs.declared.places.Place.{Place}
use Rattle.vd_forest.specs.Forest.{Forest, nothing, more}
use Rattle.vd_forms.specs.declared.form.Form.{Form}
use Rattle.vd_readings.specs.Readings.{readings, resolved, with_node}
use Rattle.vd_readings.proofs.MemberLemmas.{no_member, in_flat_map, from_flat_map, in_map, from_map}
use Rattle.vd_resolved.specs.declared.node.Resolved.{Resolved}
use Rattle.vd_visible.specs.Sights.{Sight}
use Rattle.vd_states.specs.declared.states.Prefix.{Prefix}
use Rattle.vd_states.specs.declared.states.State.{State}
use Rattle.vd_states.specs.declared.states.State.TheVariants as state
use Rattle.vd_states.specs.declared.states.Want.{Want}
use Rattle.vd_states.specs.declared.ways.Way.{Way}
use Rattle.vd_ways.specs.Ways.{meets, ways}
use Rattle.vd_overloads.specs.Goals.{any_goal, behind, ends_behind, heads, prefix_of, rules_of, with_goal}
use Rattle.vd_overloads.specs.GoalLaws.{GoalsAreMet}
use Rattle.vd_overloads.proofs.GoalLemmas.{keeps_goals}

may_end : (b : Bool) (reading : Forest Resolved) → Contains (if b then nothing ∷ [] else []) reading → b ≡ true
may_end true reading c = refl
may_end false reading c = absurd (no_member reading c)

-- what stands behind a node of a reading
record IsBehind (rests : List (Forest Resolved)) : Type 0 where
  pub rest : Forest Resolved
  pub is : Contains rests rest

rest_of : (node : Resolved) (text : List ℕ) (place : Place) (inners rests : List (Forest Resolved)) (reading : Forest Resolved)
    → Contains (with_node node text place inners rests) reading → IsBehind rests
rest_of node text place inners rests reading c =
    let by_inner = from_flat_map (λ i. map (more node text place i) rests) inners reading c in
    let by_rest = from_map (more node text place by_inner.0) rests reading by_inner.2 in
    record { rest = by_rest.0; is = by_rest.1 }

module _ (s : Sight) (goal : Want) where
  -- the prefix that a node of a reading leads to, and what stands behind it
  record IsStep (any : List Way) (next : Forest Form) : Type 0 where
    pub prefix : Prefix
    pub is_prefix : Contains (map (λ way. prefix_of way.after) any) prefix
    pub rest : Forest Resolved
    pub is_rest : Contains (readings (rules_of s) next (state.Suffixes prefix goal)) rest

  stepped : (st : State) (any : List Way) (form : Form) (text : List ℕ) (place : Place) (parts next : Forest Form) (reading : Forest Resolved)
      → ways s st form text parts ≡ map (with_goal goal) any → Contains (readings (rules_of s) (more form text place parts next) st) reading → IsStep any next
  stepped st any form text place parts next reading same c =
      let by_way = from_flat_map (λ way. with_node (resolved form way) text place (readings (rules_of s) parts way.inside) (readings (rules_of s) next way.after))
      (ways s st form text parts) reading c in
      let by_rest = rest_of (resolved form by_way.0) text place (readings (rules_of s) parts by_way.0.inside) (readings (rules_of s) next by_way.0.after) reading by_way.2 in
      let by_any = from_map (with_goal goal) any by_way.0 (subst (λ list. Contains list by_way.0) same by_way.1) in
      record {
        prefix = prefix_of by_any.0.after;
        is_prefix = in_map (λ way. prefix_of way.after) any by_any.0 by_any.1;
        rest = by_rest.rest;
        is_rest = subst (λ (way : Way). Contains (readings (rules_of s) next way.after) by_rest.rest) (sym by_any.2) by_rest.is;
      }

  record IsEnd (ends : List Prefix) : Type 0 where
    pub end : Prefix
    pub is_end : Contains ends end
    pub meets : meets s goal end ≡ true

  reached : (ps : List Prefix) (q : Prefix) → Contains ps q → (pieces : Forest Form) (reading : Forest Resolved)
      → Contains (readings (rules_of s) pieces (state.Suffixes q goal)) reading → IsEnd (ends_behind s ps pieces)
  reached ps q within nothing reading c = record { end = q; is_end = within; meets = may_end (meets s goal q) reading c }
  reached ps q within (more form text place parts next) reading c =
      let by = stepped (state.Suffixes q goal) (ways s (state.Suffixes q any_goal) form text parts) form text place parts next reading
      ((keeps_goals s).suffix q goal form text parts) c in
      reached (flat_map (behind s form text parts) ps) by.prefix
      (in_flat_map (behind s form text parts) ps q by.prefix within by.is_prefix) next by.rest by.is_rest

pub goals_are_met : (s : Sight) → GoalsAreMet s
goals_are_met s goal nothing reading c = absurd (no_member reading c)
goals_are_met s goal (more form text place parts next) reading c =
    let by = stepped s goal (state.Head goal) (ways s (state.Head any_goal) form text parts) form text place parts next reading
    ((keeps_goals s).head goal form text parts) c in
    let at = reached s goal (heads s form text parts) by.prefix by.is_prefix next by.rest by.is_rest in
    record { end = at.end; is_end = at.is_end; meets = at.meets }
