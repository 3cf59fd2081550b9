-- What stands in front of alternatives may be cut off as it is counted.
use Rattle.std.proofs.Common.{◌≡◌, ℕ, ◌+◌, Bool, true, false, List, [], ◌∷◌, refl, sym, ap, ◌∙◌, zero-add, arith}
use Rattle.vd_bytes.specs.declared.places.Place.{Place}
use Rattle.vd_declarations.specs.declared.declarations.Declaration.{Declaration}
use Rattle.vd_forest.specs.Forest.{Forest, nothing, more, parts_of}
use Rattle.vd_forms.specs.declared.form.Form.TheVariants as form
use Rattle.vd_resolved.specs.declared.node.Resolved.{Resolved}
use Rattle.vd_weighing.specs.Weights.{form_is, part, nodes_of_first, conditions, in_front_of_branches, in_front_of_choices, if_generate, case_generate}
use Rattle.vd_weighing.specs.Limits.{at_most}
use Rattle.vd_weighing.proofs.LimitLemmas.{at_most_plus, at_most_plus_right, IsCounted, counted_more, counted_cut}

-- one of three numbers is cut off
in_the_middle : (x b r : ℕ) → at_most (x + (at_most b + r)) ≡ at_most (x + (b + r))
in_the_middle x b r =
    ap at_most (omega arith) ∙ at_most_plus b (x + r) ∙ ap at_most (omega arith)

module _ (ds : List Declaration) where
  pub branches_cut : (x b : ℕ) (ws : List ℕ) (has_else : Bool)
      → at_most (x + in_front_of_branches ds (at_most b) ws has_else) ≡ at_most (x + in_front_of_branches ds b ws has_else)
  branches_cut x b [] true = at_most_plus_right x b
  branches_cut x b [] false = refl
  branches_cut x b (w ∷ ws) has_else =
      let rest = λ (n : ℕ). in_front_of_branches ds n ws has_else in
      ap at_most (omega arith)
      ∙ sym (branches_cut (x + at_most b) (at_most b + w) ws has_else)
      ∙ ap (λ n. at_most (x + at_most b + rest n)) (at_most_plus b w)
      ∙ branches_cut (x + at_most b) (b + w) ws has_else
      ∙ ap at_most (omega arith)
      ∙ in_the_middle x b (rest (b + w))

  pub befores_cut : (x s b : ℕ) (f : Forest Resolved)
      → at_most (x + in_front_of_choices ds s (at_most b) f) ≡ at_most (x + in_front_of_choices ds s b f)
  befores_cut x s b nothing = refl
  befores_cut x s b (more node text place parts next) =
      let n = nodes_of_first parts in
      let rest = λ (m : ℕ). in_front_of_choices ds s m next in
      let gathered : at_most (at_most b + s + n) ≡ at_most (b + s + n) = ap at_most (omega arith) ∙ at_most_plus b (s + n) ∙ ap at_most (omega arith) in
      ap at_most (omega arith)
      ∙ sym (befores_cut (x + at_most b) s (at_most b + s + n) next)
      ∙ ap (λ m. at_most (x + at_most b + rest m)) gathered
      ∙ befores_cut (x + at_most b) s (b + s + n) next
      ∙ ap at_most (omega arith)
      ∙ in_the_middle x b (rest (b + s + n))

  pub selector_cut : (x s b : ℕ) (f : Forest Resolved)
      → at_most (x + in_front_of_choices ds (at_most s) b f) ≡ at_most (x + in_front_of_choices ds s b f)
  selector_cut x s b nothing = refl
  selector_cut x s b (more node text place parts next) =
      let n = nodes_of_first parts in
      let rest = λ (m : ℕ). in_front_of_choices ds s m next in
      let gathered : at_most (b + at_most s + n) ≡ at_most (b + s + n) = ap at_most (omega arith) ∙ at_most_plus s (b + n) ∙ ap at_most (omega arith) in
      ap at_most (omega arith)
      ∙ selector_cut (x + b) s (b + at_most s + n) next
      ∙ sym (befores_cut (x + b) s (b + at_most s + n) next)
      ∙ ap (λ m. at_most (x + b + rest m)) gathered
      ∙ befores_cut (x + b) s (b + s + n) next
      ∙ ap at_most (omega arith)

  module _ (f parts next : Forest Resolved) (node : Resolved) (text : List ℕ) (place : Place) (opened : f ≡ more node text place parts next) (weight before found want new later : ℕ) (found_is : found ≡ at_most (nodes_of_first parts)) (new_is : new ≡ at_most (weight + before)) (fits : at_most before ≡ before) where
    pub branches_more : (has_else : Bool) → later ≡ at_most (before + found)
        → IsCounted weight (in_front_of_branches ds before (conditions ds f) has_else) want
        → IsCounted new (in_front_of_branches ds later (conditions ds next) has_else) want
    branches_more has_else later_is counted =
        let n = nodes_of_first parts in
        let rest = λ (m : ℕ). in_front_of_branches ds m (conditions ds next) has_else in
        let later_all : later ≡ at_most (before + n) = later_is ∙ ap (λ m. at_most (before + m)) found_is ∙ at_most_plus_right before n in
        let next_counted = counted_more weight before (rest (before + n)) (in_front_of_branches ds before (conditions ds f) has_else) want before new counted
        (ap (λ g. in_front_of_branches ds before (conditions ds g) has_else) opened) (sym fits) new_is in
        counted_cut new (rest (before + n)) (rest later) want next_counted
        (ap (λ m. at_most (new + rest m)) later_all ∙ branches_cut new (before + n) (conditions ds next) has_else)

    pub choices_more : (selector : ℕ) → later ≡ at_most (at_most (before + selector) + found)
        → IsCounted weight (in_front_of_choices ds selector before f) want
        → IsCounted new (in_front_of_choices ds selector later next) want
    choices_more selector later_is counted =
        let n = nodes_of_first parts in
        let rest = λ (m : ℕ). in_front_of_choices ds selector m next in
        let later_all : later ≡ at_most (before + selector + n) =
        later_is ∙ ap (λ m. at_most (at_most (before + selector) + m)) found_is ∙ at_most_plus (before + selector) (at_most n) ∙ at_most_plus_right (before + selector) n in
        let next_counted = counted_more weight before (rest (before + selector + n)) (in_front_of_choices ds selector before f) want before new counted
        (ap (in_front_of_choices ds selector before) opened) (sym fits) new_is in
        counted_cut new (rest (before + selector + n)) (rest later) want next_counted
        (ap (λ m. at_most (new + rest m)) later_all ∙ befores_cut new selector (before + selector + n) next)

  -- ---- all alternatives

  pub if_generate_cut : (parts branches : Forest Resolved) (has_else : Bool) (first weight : ℕ)
      → first ≡ at_most (nodes_of_first parts) → branches ≡ parts_of (part 2 parts) → has_else ≡ form_is form.GenerateBody (part 3 parts)
      → weight ≡ at_most (in_front_of_branches ds first (conditions ds branches) has_else) → weight ≡ at_most (if_generate ds parts)
  if_generate_cut parts branches has_else first weight first_is branches_are else_is is =
      let n = nodes_of_first parts in
      let front = λ (m : ℕ). in_front_of_branches ds m (conditions ds (parts_of (part 2 parts))) (form_is form.GenerateBody (part 3 parts)) in
      is
      ∙ ap (λ bs. at_most (in_front_of_branches ds first (conditions ds bs) has_else)) branches_are
      ∙ ap (λ e. at_most (in_front_of_branches ds first (conditions ds (parts_of (part 2 parts))) e)) else_is
      ∙ ap (λ m. at_most (front m)) first_is
      ∙ ap at_most (sym (zero-add (front (at_most n))))
      ∙ branches_cut 0 n (conditions ds (parts_of (part 2 parts))) (form_is form.GenerateBody (part 3 parts))
      ∙ ap at_most (zero-add (front n))

  pub case_generate_cut : (parts alternatives : Forest Resolved) (selector weight : ℕ)
      → selector ≡ at_most (nodes_of_first parts) → alternatives ≡ parts_of (part 1 parts)
      → weight ≡ at_most (in_front_of_choices ds selector 0 alternatives) → weight ≡ at_most (case_generate ds parts)
  case_generate_cut parts alternatives selector weight selector_is alternatives_are is =
      let n = nodes_of_first parts in
      let front = λ (m : ℕ). in_front_of_choices ds m 0 (parts_of (part 1 parts)) in
      is
      ∙ ap (λ f. at_most (in_front_of_choices ds selector 0 f)) alternatives_are
      ∙ ap (λ m. at_most (front m)) selector_is
      ∙ ap at_most (sym (zero-add (front (at_most n))))
      ∙ selector_cut 0 n 0 (parts_of (part 1 parts))
      ∙ ap at_most (zero-add (front n))
