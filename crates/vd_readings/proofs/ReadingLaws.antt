-- The readings of a forest are exactly the typed trees over it, and go with the language.
use Rattle.std.proofs.Common.{◌≡◌, ℕ, Bool, true, false, List, [], ◌∷◌, map, IsTrue, if◌then◌else◌, refl, sym, ap, subst, ◌∙◌, true≢false}
use Rattle.std.specs.List.{Contains, flat_map}
use Rattle.vd_bytes.specs.declared.places.Place.{Place}
use Rattle.vd_forest.specs.Forest.{Forest, nothing, more}
use Rattle.vd_resolved.specs.Trees.{syntax_of}
use Rattle.vd_resolved.specs.declared.node.Resolved.{Resolved}
use Rattle.vd_states.specs.declared.states.State.{State}
use Rattle.vd_readings.specs.Readings.{Rules, resolved, with_node, readings}
use Rattle.vd_readings.specs.Typed.{IsTyped, ReadingsAreTyped, TypedAreReadings, AgreeingReadAlike, WiderReadsMore}
use Rattle.vd_readings.proofs.MemberLemmas.{no_member, cons_here, single, in_flat_map, from_flat_map, flat_map_same, in_map, from_map}

-- ---- members of a node with lists of parts and of trees behind it

module _ (node : Resolved) (text : List ℕ) (place : Place) where
  in_with_node : (inners rests : List (Forest Resolved)) (inner rest : Forest Resolved) → Contains inners inner → Contains rests rest
      → Contains (with_node node text place inners rests) (more node text place inner rest)
  in_with_node inners rests inner rest c d =
      in_flat_map (λ i. map (more node text place i) rests) inners inner (more node text place inner rest) c
      (in_map (more node text place inner) rests rest d)

  record IsNode (inners rests : List (Forest Resolved)) (reading : Forest Resolved) : Type 0 where
    pub inner : Forest Resolved
    pub rest : Forest Resolved
    pub inside : Contains inners inner
    pub behind : Contains rests rest
    pub is : more node text place inner rest ≡ reading

  from_with_node : (inners rests : List (Forest Resolved)) (reading : Forest Resolved)
      → Contains (with_node node text place inners rests) reading → IsNode inners rests reading
  from_with_node inners rests reading c =
      let by_inner = from_flat_map (λ i. map (more node text place i) rests) inners reading c in
      let by_rest = from_map (more node text place by_inner.0) rests reading by_inner.2 in
      record { inner = by_inner.0; rest = by_rest.0; inside = by_inner.1; behind = by_rest.1; is = by_rest.2 }

-- ---- the empty forest

abbrev alone : List (Forest Resolved)
alone = nothing ∷ []

only_nothing : (ends : Bool) (reading : Forest Resolved) → Contains (if ends then alone else []) reading → IsTrue ends × (nothing ≡ reading)
only_nothing true reading c = (refl, single nothing reading c)
only_nothing false reading c = absurd (no_member reading c)

has_nothing : (ends : Bool) → IsTrue ends → Contains (if ends then alone else []) nothing
has_nothing true t = cons_here nothing []
has_nothing false t = absurd (true≢false (sym t))

-- ---- both ways

pub readings_typed : ReadingsAreTyped
readings_typed rules nothing state reading c =
    let is = only_nothing (rules.ends state) reading c in
    record { source = ap syntax_of (sym is.1); typed = subst (λ r. IsTyped rules r state) is.1 is.0 }
readings_typed rules (more form text place parts next) state reading c =
    let by_way = from_flat_map (λ way. with_node (resolved form way) text place (readings rules parts way.inside) (readings rules next way.after))
    (rules.ways state form text parts) reading c in
    let way = by_way.0 in
    let by = from_with_node (resolved form way) text place (readings rules parts way.inside) (readings rules next way.after) reading by_way.2 in
    let inside = readings_typed rules parts way.inside by.inner by.inside in
    let behind = readings_typed rules next way.after by.rest by.behind in
    record {
      source = ap syntax_of (sym by.is) ∙ ap (λ p. more form text place p (syntax_of by.rest)) inside.source ∙ ap (more form text place parts) behind.source;
      typed = subst (λ r. IsTyped rules r state) by.is
          (way, subst (λ p. Contains (rules.ways state form text p) way) (sym inside.source) by_way.1, refl, inside.typed, behind.typed);
    }

typed_readings_of : (rules : Rules) (reading : Forest Resolved) (state : State) → IsTyped rules reading state
    → Contains (readings rules (syntax_of reading) state) reading
typed_readings_of rules nothing state typed = has_nothing (rules.ends state) typed
typed_readings_of rules (more node text place parts next) state typed =
    let way = typed.0 in
    in_flat_map
    (λ v. with_node (resolved node.form v) text place (readings rules (syntax_of parts) v.inside) (readings rules (syntax_of next) v.after))
    (rules.ways state node.form text (syntax_of parts)) way (more node text place parts next) typed.1
    (subst (λ n. Contains (with_node (resolved node.form way) text place (readings rules (syntax_of parts) way.inside) (readings rules (syntax_of next) way.after)) (more n text place parts next))
    (sym typed.2)
    (in_with_node (resolved node.form way) text place (readings rules (syntax_of parts) way.inside) (readings rules (syntax_of next) way.after) parts next
    (typed_readings_of rules parts way.inside typed.3) (typed_readings_of rules next way.after typed.4)))

pub typed_readings : TypedAreReadings
typed_readings rules f state reading is =
    subst (λ g. Contains (readings rules g state) reading) is.source (typed_readings_of rules reading state is.typed)

-- ---- two languages

pub agreeing_alike : AgreeingReadAlike
agreeing_alike a b nothing state agree = ap (λ (e : Bool). if e then nothing ∷ [] else []) agree
agreeing_alike a b (more form text place parts next) state agree =
    flat_map_same (λ way. with_node (resolved form way) text place (readings a parts way.inside) (readings a next way.after))
    (λ way. with_node (resolved form way) text place (readings b parts way.inside) (readings b next way.after))
    (a.ways state form text parts)
    (λ way c. ap (λ is. with_node (resolved form way) text place is (readings a next way.after)) (agreeing_alike a b parts way.inside (agree.1 way c).0)
    ∙ ap (with_node (resolved form way) text place (readings b parts way.inside)) (agreeing_alike a b next way.after (agree.1 way c).1))
    ∙ ap (flat_map (λ way. with_node (resolved form way) text place (readings b parts way.inside) (readings b next way.after))) agree.0

pub wider_more : WiderReadsMore
wider_more a b nothing state reading within c =
    let is = only_nothing (a.ends state) reading c in
    subst (Contains (readings b nothing state)) is.1 (has_nothing (b.ends state) (within.ends state is.0))
wider_more a b (more form text place parts next) state reading within c =
    let by_way = from_flat_map (λ way. with_node (resolved form way) text place (readings a parts way.inside) (readings a next way.after))
    (a.ways state form text parts) reading c in
    let way = by_way.0 in
    let by = from_with_node (resolved form way) text place (readings a parts way.inside) (readings a next way.after) reading by_way.2 in
    in_flat_map (λ v. with_node (resolved form v) text place (readings b parts v.inside) (readings b next v.after))
    (b.ways state form text parts) way reading (within.ways state form text parts way by_way.1)
    (subst (Contains (with_node (resolved form way) text place (readings b parts way.inside) (readings b next way.after))) by.is
    (in_with_node (resolved form way) text place (readings b parts way.inside) (readings b next way.after) by.inner by.rest
    (wider_more a b parts way.inside by.inner within by.inside) (wider_more a b next way.after by.rest within by.behind)))
