-- The walk over a design comes to its weight.
use Rattle.std.proofs.Common.{◌≡◌, ℕ, ◌+◌, ◌*◌, Bool, true, false, if◌then◌else◌, ◌||◌, ◌&&◌, List, refl, sym, ap, subst, ◌∙◌, add-zero, zero-add, arith}
use Rattle.vd_bytes.specs.declared.places.Place.{Place}
use Rattle.vd_declarations.specs.declared.declarations.Declaration.{Declaration}
use Rattle.vd_forest.specs.Forest.{Forest, nothing, more, parts_of}
use Rattle.vd_forms.specs.declared.form.Form.{Form}
use Rattle.vd_forms.specs.declared.form.Form.TheVariants as form
use Rattle.vd_forms.specs.Forms.{same_form}
use Rattle.vd_resolved.specs.declared.node.Resolved.{Resolved}
use Rattle.vd_walks.specs.Walking.{Walked, Done, Inside, no_trees, through, walked}
use Rattle.vd_weighing.specs.Weights.{Known, Weighed, aside, nothing_known, has_generics, has_entry_at, declares, declared_at, numbers_of, name_in, part, own_weight, more_by, sum_at, times_at, element_count, if_generate, case_generate, entity_instance, by_form, by_generics, weighed_node, weighed, sums_at, weight_of}
use Rattle.vd_weighing.specs.Limits.{at_most}
use Rattle.vd_weighing.specs.Tables.{sum_found, sums_found, with_sum}
use Rattle.vd_weighing.specs.Weighing.{counts_aside, with_own, weight_by, known_by, entered, left, weigher}
use Rattle.vd_weighing.specs.declared.weigher.Kept.{Kept}
use Rattle.vd_weighing.proofs.LimitLemmas.{at_most_small, at_most_plus, at_most_sum, at_most_product}
use Rattle.vd_weighing.proofs.KnownLemmas.{IsSeen, seen_nothing, seen_sum, seen_view, seen_ports, seen_instance, times_seen, sum_seen, entry_seen, elements_seen, entity_seen, sums_seen}

-- ---- forms

entity_form : (f : Form) → same_form f form.EntityInstantiation ≡ true → f ≡ form.EntityInstantiation
entity_form form.EntityInstantiation same = refl
entity_form _ same = cc

body_form : (f : Form) → same_form f form.PackageBody ≡ true → f ≡ form.PackageBody
body_form form.PackageBody same = refl
body_form _ same = cc

module _ (ds : List Declaration) where
  -- the walk comes to what the definition says, behind so much
  pub record Agrees (n : ℕ) (o : Walked Form ℕ Known) (w : Weighed) : Type 0 where
    pub at : o.at ≡ at_most (n + w.weight)
    pub known : IsSeen o.design w.known

  -- ---- a node, given what its parts come to

  module _ (node : Resolved) (parts : Forest Resolved) (before d : Known) (w : Weighed) (m : ℕ) (weight_is : m ≡ at_most w.weight) (seen : IsSeen d w.known) where
    record Left (f : Form) : Type 0 where
      weight : weight_by ds f parts m d ≡ at_most (by_form ds f node parts before w).weight
      known : IsSeen (known_by ds f node parts d) (by_form ds f node parts before w).known

    left_by : (f : Form) → same_form f form.EntityInstantiation ≡ false
        → (same_form f form.PackageBody && has_entry_at (declares node parts) before.generics) ≡ false → Left f
    left_by form.PackageBody other inside = record {
      weight = weight_is ∙ ap (λ b. at_most (body_of b).weight) (sym inside);
      known = subst (λ b. IsSeen d (body_of b).known) (sym inside) seen;
    }
      where
        body_of : Bool → Weighed
        body_of b = if b then aside (declares node parts) w else w
    left_by form.PackageInstantiation other inside = record {
      weight = weight_is;
      known = seen_instance d w.known seen ds (declared_at (part 1 parts)) (declares node parts);
    }
    left_by form.FunctionInstantiation other inside =
        let function = declared_at (part 2 parts) in
        record {
          weight =
              ap (λ n. at_most (n + sum_found function d.generics)) weight_is
              ∙ ap (λ n. at_most (at_most w.weight + n)) (sum_seen d w.known seen function)
              ∙ at_most_sum w.weight (sum_at function w.known.generics);
          known = seen;
        }
    left_by form.ViewDeclaration other inside =
        let elements = parts_of (part 2 parts) in
        record {
          weight = weight_is;
          known =
              seen_view d w.known seen (declares node parts) (element_count ds elements w.known) (at_most (element_count ds elements d))
              (elements_seen d w.known seen ds elements);
        }
    left_by form.ViewPort other inside =
        let view = declared_at (part 2 parts) in
        record {
          weight =
              ap (λ n. at_most (n * times_at view d.views)) weight_is
              ∙ ap (λ n. at_most (at_most w.weight * n)) (times_seen d w.known seen view)
              ∙ at_most_product w.weight (times_at view w.known.views);
          known =
              seen_ports d w.known seen (numbers_of (parts_of (part 1 parts))) (times_at view w.known.views) (times_at view d.views)
              (times_seen d w.known seen view);
        }
    left_by form.EntityInstantiation other inside = cc
    left_by form.IfGenerate other inside = record {
      weight = ap (λ n. at_most (n + at_most (if_generate ds parts))) weight_is ∙ at_most_sum w.weight (if_generate ds parts);
      known = seen;
    }
    left_by form.CaseGenerate other inside = record {
      weight = ap (λ n. at_most (n + at_most (case_generate ds parts))) weight_is ∙ at_most_sum w.weight (case_generate ds parts);
      known = seen;
    }
    left_by _ other inside = record { weight = weight_is; known = seen }

    -- the node counts aside
    aside_by : (form_is : Form) → form_is ≡ node.form → (has : Bool) → has ≡ has_generics node.form parts
        → (has || (same_form form_is form.PackageBody && has_entry_at (declares node parts) before.generics)) ≡ true
        → by_generics ds has node parts before w ≡ aside (declares node (name_in node.form parts)) w
    aside_by f form_is true has_is counts = refl
    aside_by f form_is false has_is counts = by (same_form f form.PackageBody) refl counts
      where
        by : (b : Bool) → same_form f form.PackageBody ≡ b → (b && has_entry_at (declares node parts) before.generics) ≡ true
            → by_form ds node.form node parts before w ≡ aside (declares node (name_in node.form parts)) w
        by true is has =
            let body = sym form_is ∙ body_form f is in
            ap (λ g. by_form ds g node parts before w) body
            ∙ ap (λ b. if b then aside (declares node parts) w else w) has
            ∙ ap (λ g. aside (declares node (name_in g parts)) w) (sym body)
        by false is has = cc

  -- ---- a tree

  module _ (node : Resolved) (text : List ℕ) (place : Place) (parts : Forest Resolved) (n : ℕ) (d k : Known) (seen : IsSeen d k) (inner : ℕ → Known → Walked Form ℕ Known) (below : Known → Weighed) (inside : Agrees 0 (inner 0 d) (below k)) where
    abbrev own : Weighed
    own = more_by ds (own_weight node.form) (below k)

    own_is : with_own node.form (inner 0 d).at ≡ at_most own.weight
    own_is = ap (λ x. at_most (x + own_weight node.form)) (inside.at ∙ ap at_most (zero-add (below k).weight)) ∙ at_most_plus (below k).weight (own_weight node.form)

    counts_seen : counts_aside node parts d ≡ counts_aside node parts k
    counts_seen = ap (λ b. has_generics node.form parts || (same_form node.form form.PackageBody && b)) (entry_seen d k seen (declares node parts))

    abbrev kept_as : Bool → Kept
    kept_as b = record { before = at_most n; is_aside = b }

    tree_left : (b : Bool) → counts_aside node parts k ≡ b → same_form node.form form.EntityInstantiation ≡ false
        → Agrees n (left ds (kept_as b) node text place parts (inner 0 d)) (weighed_node ds node parts below k)
    tree_left true counts other =
        let all = aside_by node parts k (inner 0 d).design own (with_own node.form (inner 0 d).at) own_is inside.known node.form refl (has_generics node.form parts) refl counts in
        record {
          at = ap at_most (sym (add-zero n)) ∙ ap (λ w. at_most (n + w.weight)) (sym all);
          known = subst (λ w. IsSeen (with_sum (declares node (name_in node.form parts)) (with_own node.form (inner 0 d).at) (inner 0 d).design) w.known) (sym all)
              (seen_sum (inner 0 d).design (below k).known inside.known (declares node (name_in node.form parts)) own.weight (with_own node.form (inner 0 d).at) own_is);
        }
    tree_left false counts other = by (has_generics node.form parts) refl counts
      where
        by : (b : Bool) → has_generics node.form parts ≡ b
            → (b || (same_form node.form form.PackageBody && has_entry_at (declares node parts) k.generics)) ≡ false
            → Agrees n (left ds (kept_as false) node text place parts (inner 0 d)) (weighed_node ds node parts below k)
        by true has none = cc
        by false has none =
            let here = left_by node parts k (inner 0 d).design own (with_own node.form (inner 0 d).at) own_is inside.known node.form other none in
            let plain : weighed_node ds node parts below k ≡ by_form ds node.form node parts k own = ap (λ b. by_generics ds b node parts k own) has in
            record {
              at =
                  ap (λ x. at_most (at_most n + x)) here.weight
                  ∙ at_most_sum n (by_form ds node.form node parts k own).weight
                  ∙ ap (λ w. at_most (n + w.weight)) (sym plain);
              known = subst (λ w. IsSeen (known_by ds node.form node parts (inner 0 d).design) w.known) (sym plain) here.known;
            }

    abbrev tree : Bool → Walked Form ℕ Known
    tree b =
        through (weigher ds) node text place parts inner
        (if b then Done (no_trees (at_most (at_most n + at_most (entity_instance ds parts d).weight)) d)
        else Inside 0 d (record { before = at_most n; is_aside = counts_aside node parts d }))

    pub tree_agrees : Agrees n (through (weigher ds) node text place parts inner (entered ds node text place parts (at_most n) d)) (weighed_node ds node parts below k)
    tree_agrees = by (same_form node.form form.EntityInstantiation) refl
      where
        by : (b : Bool) → same_form node.form form.EntityInstantiation ≡ b
            → Agrees n (through (weigher ds) node text place parts inner (entered ds node text place parts (at_most n) d)) (weighed_node ds node parts below k)
        by true is =
            let entity = entity_form node.form is in
            let whole : weighed_node ds node parts below k ≡ entity_instance ds parts k =
            ap (λ f. by_generics ds (has_generics f parts) node parts k own) entity
            ∙ ap (λ f. by_form ds f node parts k own) entity in
            let here : Agrees n (tree true) (entity_instance ds parts k) = record {
              at =
                  ap (λ x. at_most (at_most n + x)) (entity_seen d k seen ds parts)
                  ∙ at_most_sum n (entity_instance ds parts k).weight;
              known = seen;
            } in
            subst (λ b. Agrees n (tree b) (weighed_node ds node parts below k)) (sym is) (subst (Agrees n (tree true)) (sym whole) here)
        by false is =
            subst (λ b. Agrees n (tree b) (weighed_node ds node parts below k)) (sym is)
            (subst (λ b. Agrees n (left ds (kept_as b) node text place parts (inner 0 d)) (weighed_node ds node parts below k)) (sym counts_seen)
            (tree_left (counts_aside node parts k) refl is))

  -- ---- a forest

  pub walk_agrees : (f : Forest Resolved) (n : ℕ) (d k : Known) → IsSeen d k → Agrees n (walked (weigher ds) f (at_most n) d) (weighed ds f k)
  walk_agrees nothing n d k seen = record { at = ap at_most (sym (add-zero n)); known = seen }
  walk_agrees (more node text place parts next) n d k seen =
      let zero_is : at_most 0 ≡ 0 = at_most_small 0 (omega arith) in
      let inside = subst (λ z. Agrees 0 (walked (weigher ds) parts z d) (weighed ds parts k)) zero_is (walk_agrees parts 0 d k seen) in
      let here = tree_agrees node text place parts n d k seen (walked (weigher ds) parts) (weighed ds parts) inside in
      let o = through (weigher ds) node text place parts (walked (weigher ds) parts) (entered ds node text place parts (at_most n) d) in
      let w = weighed_node ds node parts (weighed ds parts) k in
      let v = weighed ds next w.known in
      let rest = walk_agrees next (n + w.weight) o.design w.known here.known in
      record {
        at = ap (λ a. (walked (weigher ds) next a o.design).at) here.at ∙ rest.at ∙ ap at_most (omega arith);
        known = subst (λ a. IsSeen (walked (weigher ds) next a o.design).design v.known) (sym here.at) rest.known;
      }

  -- the weight, from what the walk comes to
  pub weight_is : (units : Forest Resolved) (at sums weight : ℕ) (d : Known) → at ≡ (walked (weigher ds) units 0 nothing_known).at
      → d ≡ (walked (weigher ds) units 0 nothing_known).design → sums ≡ at_most (sums_found d.instances d.generics) → weight ≡ at_most (at + sums)
      → weight ≡ at_most (weight_of ds units)
  weight_is units at sums weight d at_is design_is sums_are is =
      let zero_is : at_most 0 ≡ 0 = at_most_small 0 (omega arith) in
      let o = walked (weigher ds) units 0 nothing_known in
      let w = weighed ds units nothing_known in
      let all = subst (λ z. Agrees 0 (walked (weigher ds) units z nothing_known) w) zero_is (walk_agrees units 0 nothing_known nothing_known seen_nothing) in
      let known = subst (λ e. IsSeen e w.known) (sym design_is) all.known in
      let sums_all : sums ≡ at_most (sums_at ds w.known.instances w.known.generics) =
      sums_are ∙ ap (λ is. at_most (sums_found is d.generics)) known.instances ∙ sums_seen d w.known known ds w.known.instances in
      is ∙ ap (λ n. at_most (n + sums)) (at_is ∙ all.at ∙ ap at_most (zero-add w.weight)) ∙ ap (λ n. at_most (at_most w.weight + n)) sums_all
      ∙ at_most_sum w.weight (sums_at ds w.known.instances w.known.generics)
