-- The ways of the pieces of a name are the same for each goal, up to the goal.
use Rattle.std.proofs.Common.{◌≡◌, ◌==◌, ℕ, Bool, true, false, List, [], ◌∷◌, map, Option, Some, None, option_map, refl, ap, ◌∙◌, if◌then◌else◌}
use Rattle.std.specs.List.{filter_map, cons_option}
use Rattle.std.specs.Option.{option_to_list}
use Rattle.vd_declarations.specs.declared.classes.Class.{Class}
use Rattle.vd_declarations.specs.declared.classes.Class.TheVariants as class
use Rattle.vd_forest.specs.Forest.{Forest, text_of}
use Rattle.vd_forms.specs.declared.form.Form.{Form}
use Rattle.vd_predefined.specs.declared.numbers.TheConstants.{BOOLEAN, TIME, STRING}
use Rattle.vd_states.specs.declared.states.State.{State}
use Rattle.vd_states.specs.declared.states.State.TheVariants as state
use Rattle.vd_states.specs.declared.states.Want.{Want}
use Rattle.vd_states.specs.declared.states.Prefix.{Prefix}
use Rattle.vd_states.specs.declared.states.Prefix.TheVariants as prefix
use Rattle.vd_states.specs.declared.ways.Way.{Way}
use Rattle.vd_visible.specs.declared.kinds.Kind.{Kind}
use Rattle.vd_visible.specs.declared.kinds.Kind.TheVariants as kind
use Rattle.vd_visible.specs.declared.attributes.Attribute.{Attribute}
use Rattle.vd_visible.specs.declared.attributes.Attribute.TheVariants as attribute
use Rattle.vd_visible.specs.declared.roles.Role.{Role}
use Rattle.vd_visible.specs.declared.roles.Role.TheVariants as role
use Rattle.vd_visible.specs.Kinds.{kind_of, attribute_named, role_of}
use Rattle.vd_visible.specs.Sights.{Sight, class_of, mark_of, parameters_of}
use Rattle.vd_visible.specs.Types.{index_of, is_scalar, sources, type_meant}
use Rattle.vd_visible.specs.Lists.{elements_named, fits_call, in_brackets}
use Rattle.vd_ways.specs.Ways as w
use Rattle.vd_overloads.specs.Goals.{any_goal, with_goal}
use Rattle.vd_overloads.specs.GoalLaws.{KeepsGoals}

-- ---- lists

and_option : (goal : Want) (o : Option Way) (xs ys : List Way) → xs ≡ map (with_goal goal) ys
    → cons_option (option_map (with_goal goal) o) xs ≡ map (with_goal goal) (cons_option o ys)
and_option goal None xs ys same = same
and_option goal (Some x) xs ys same = ap (λ zs. with_goal goal x ∷ zs) same

filtered : {A : Type 0} (goal : Want) (f h : A → Option Way) → ((a : A) → f a ≡ option_map (with_goal goal) (h a)) → (xs : List A)
    → filter_map f xs ≡ map (with_goal goal) (filter_map h xs)
filtered goal f h same [] = refl
filtered goal f h same (x ∷ xs) =
    ap (λ o. cons_option o (filter_map f xs)) (same x) ∙ and_option goal (h x) (filter_map f xs) (filter_map h xs) (filtered goal f h same xs)

mapped : {A : Type 0} (goal : Want) (f h : A → Way) → ((a : A) → f a ≡ with_goal goal (h a)) → (xs : List A) → map f xs ≡ map (with_goal goal) (map h xs)
mapped goal f h same [] = refl
mapped goal f h same (x ∷ xs) = ap (λ y. y ∷ map f xs) (same x) ∙ ap (λ ys. with_goal goal (h x) ∷ ys) (mapped goal f h same xs)

where_kept : (goal : Want) (b : Bool) (way : Way) → w.where_true b (with_goal goal way) ≡ map (with_goal goal) (w.where_true b way)
where_kept goal true way = refl
where_kept goal false way = refl

either : (goal : Want) (b : Bool) (xs xs' ys ys' : List Way) → xs ≡ map (with_goal goal) xs' → ys ≡ map (with_goal goal) ys'
    → (if b then xs else ys) ≡ map (with_goal goal) (if b then xs' else ys')
either goal true xs xs' ys ys' p q = p
either goal false xs xs' ys ys' p q = q

module _ (s : Sight) (goal : Want) where
  -- ---- the first piece

  valued : (t : Option ℕ) (k : ℕ) (signal : Bool) (inside : State)
      → w.valued_way t k signal goal inside ≡ option_map (with_goal goal) (w.valued_way t k signal any_goal inside)
  valued None k signal inside = refl
  valued (Some t) k signal inside = refl

  literal : (t : Option ℕ) (k : ℕ) (inside : State) → w.literal_way t k goal inside ≡ option_map (with_goal goal) (w.literal_way t k any_goal inside)
  literal None k inside = refl
  literal (Some t) k inside = refl

  function : (parameters : List ℕ) (k : ℕ) (inside : State)
      → w.function_way s parameters k goal inside ≡ option_map (with_goal goal) (w.function_way s parameters k any_goal inside)
  function [] k inside = valued (mark_of s k) k false inside
  function (parameter ∷ parameters) k inside = refl

  by_role : (r : Role) (k : ℕ) (inside : State) → w.role_way r s k goal inside ≡ option_map (with_goal goal) (w.role_way r s k any_goal inside)
  by_role role.Unit k inside = refl
  by_role role.Mark k inside = refl
  by_role role.Object k inside = valued (mark_of s k) k false inside
  by_role role.Signal k inside = valued (mark_of s k) k true inside
  by_role role.Literal k inside = literal (mark_of s k) k inside
  by_role role.Function k inside = function (parameters_of s k) k inside
  by_role role.Other k inside = refl

  declarations : (inside : State) (ks : List ℕ)
      → filter_map (w.declaration_way s goal inside) ks ≡ map (with_goal goal) (filter_map (w.declaration_way s any_goal inside) ks)
  declarations inside ks =
      filtered goal (w.declaration_way s goal inside) (w.declaration_way s any_goal inside) (λ k. by_role (role_of (class_of s k)) k inside) ks

  head : (k : Kind) (text : List ℕ) → w.head_ways k s goal text ≡ map (with_goal goal) (w.head_ways k s any_goal text)
  head kind.Identifier text = declarations state.Done (s.visible text)
  head kind.Quoted text = declarations state.Done (s.visible (w.symbol_name text))
  head _ text = refl

  -- ---- the suffixes

  unit_selection : (r : Role) (k : ℕ) (name : List ℕ)
      → w.unit_selection_ways r s k goal name ≡ map (with_goal goal) (w.unit_selection_ways r s k any_goal name)
  unit_selection role.Unit k name = declarations state.Leaf (s.selected k name)
  unit_selection _ k name = refl

  field_of : (u : Option ℕ) (t : ℕ) (signal : Bool) (k : ℕ)
      → w.field_way_of u s t signal goal k ≡ option_map (with_goal goal) (w.field_way_of u s t signal any_goal k)
  field_of None t signal k = refl
  field_of (Some u) t signal k = refl

  selection : (q : Prefix) (name : Option (List ℕ)) → w.selection_ways q s goal name ≡ map (with_goal goal) (w.selection_ways q s any_goal name)
  selection q None = refl
  selection (prefix.Named k) (Some name) = unit_selection (role_of (class_of s k)) k name
  selection (prefix.Valued t signal) (Some name) =
      filtered goal (w.field_way s t signal goal) (w.field_way s t signal any_goal) (λ k. field_of (mark_of s k) t signal k) (elements_named s t name)
  selection (prefix.Ranged t) (Some name) = refl
  selection (prefix.Attributed argument result) (Some name) = refl

  call : (t : Option ℕ) (f : ℕ) (parts : Forest Form) → w.call_ways t s f goal parts ≡ map (with_goal goal) (w.call_ways t s f any_goal parts)
  call None f parts = refl
  call (Some t) f parts = where_kept goal (fits_call s (parameters_of s f) parts) (w.chosen f t (state.Arguments f 0) (w.value_after t any_goal))

  conversion : (t : Option ℕ) (k : ℕ) → w.conversion_ways t s k goal ≡ map (with_goal goal) (w.conversion_ways t s k any_goal)
  conversion None k = refl
  conversion (Some t) k = mapped goal (w.conversion_way k t goal) (w.conversion_way k t any_goal) (λ u. refl) (sources s t)

  named_argument : (r : Role) (k : ℕ) (parts : Forest Form)
      → w.named_argument_ways r s k goal parts ≡ map (with_goal goal) (w.named_argument_ways r s k any_goal parts)
  named_argument role.Function k parts = call (mark_of s k) k parts
  named_argument role.Mark k parts = conversion (type_meant s k) k
  named_argument _ k parts = refl

  indexed : (c : Class) (t : ℕ) (signal : Bool) → w.indexed_ways c t signal goal ≡ map (with_goal goal) (w.indexed_ways c t signal any_goal)
  indexed (class.ArrayType index element mark) t signal = refl
  indexed _ t signal = refl

  bracket : (q : Prefix) (parts : Forest Form) → w.bracket_ways q s goal parts ≡ map (with_goal goal) (w.bracket_ways q s any_goal parts)
  bracket (prefix.Named k) parts = named_argument (role_of (class_of s k)) k parts
  bracket (prefix.Valued t signal) parts = indexed (class_of s t) t signal
  bracket (prefix.Ranged t) parts = refl
  bracket (prefix.Attributed argument result) parts = refl

  -- ---- attributes

  range_attribute : (index : Option ℕ) (inside : State)
      → w.range_attribute_ways index inside goal ≡ map (with_goal goal) (w.range_attribute_ways index inside any_goal)
  range_attribute None inside = refl
  range_attribute (Some index) inside = refl

  array_attribute : (a : Attribute) (index : Option ℕ) → w.array_attribute_ways a index goal ≡ map (with_goal goal) (w.array_attribute_ways a index any_goal)
  array_attribute a None = refl
  array_attribute attribute.Bound (Some index) = refl
  array_attribute attribute.Length (Some index) = refl
  array_attribute attribute.ReverseRange (Some index) = refl
  array_attribute _ (Some index) = refl

  scalar_attribute : (a : Attribute) (t : ℕ) → w.scalar_attribute_ways a t goal ≡ map (with_goal goal) (w.scalar_attribute_ways a t any_goal)
  scalar_attribute attribute.Bound t = refl
  scalar_attribute attribute.Position t = refl
  scalar_attribute attribute.ValueAt t = refl
  scalar_attribute attribute.Neighbour t = refl
  scalar_attribute attribute.Image t = either goal (t == TIME) [] [] (w.attributed t STRING goal) (w.attributed t STRING any_goal) refl refl
  scalar_attribute _ t = refl

  mark_attribute : (t : Option ℕ) (a : Attribute) → w.mark_attribute_ways t a s goal ≡ map (with_goal goal) (w.mark_attribute_ways t a s any_goal)
  mark_attribute None a = refl
  mark_attribute (Some t) a =
      either goal (is_scalar (class_of s t)) (w.scalar_attribute_ways a t goal) (w.scalar_attribute_ways a t any_goal)
      (w.array_attribute_ways a (index_of (class_of s t)) goal) (w.array_attribute_ways a (index_of (class_of s t)) any_goal) (scalar_attribute a t)
      (array_attribute a (index_of (class_of s t)))

  value_attribute : (a : Attribute) (t : ℕ) (signal : Bool)
      → w.value_attribute_ways a s t signal goal ≡ map (with_goal goal) (w.value_attribute_ways a s t signal any_goal)
  value_attribute attribute.Event t signal = where_kept goal signal (w.typed BOOLEAN state.Leaf (w.value_after BOOLEAN any_goal))
  value_attribute a t signal = array_attribute a (index_of (class_of s t))

  attribute_of : (q : Prefix) (a : Attribute) → w.attribute_ways q a s goal ≡ map (with_goal goal) (w.attribute_ways q a s any_goal)
  attribute_of (prefix.Named k) a = mark_attribute (type_meant s k) a
  attribute_of (prefix.Valued t signal) a = value_attribute a t signal
  attribute_of (prefix.Ranged t) a = refl
  attribute_of (prefix.Attributed argument result) a = refl

  -- ---- qualified expressions

  qualified : (t : Option ℕ) (k : ℕ) (parts : Forest Form) → w.qualified_ways t s k goal parts ≡ map (with_goal goal) (w.qualified_ways t s k any_goal parts)
  qualified None k parts = refl
  qualified (Some t) k parts =
      mapped goal (λ inside. w.chosen k t inside (w.value_after t goal)) (λ inside. w.chosen k t inside (w.value_after t any_goal)) (λ inside. refl)
      (option_to_list (in_brackets s t parts))

  qualification : (q : Prefix) (parts : Forest Form) → w.qualification_ways q s goal parts ≡ map (with_goal goal) (w.qualification_ways q s any_goal parts)
  qualification (prefix.Named k) parts = qualified (type_meant s k) k parts
  qualification (prefix.Valued t signal) parts = refl
  qualification (prefix.Ranged t) parts = refl
  qualification (prefix.Attributed argument result) parts = refl

  pub suffix : (k : Kind) (q : Prefix) (parts : Forest Form) → w.suffix_ways k s q goal parts ≡ map (with_goal goal) (w.suffix_ways k s q any_goal parts)
  suffix kind.Selection q parts = selection q (w.selection_name parts)
  suffix kind.Arguments q parts = bracket q parts
  suffix kind.Attribute q parts = attribute_of q (attribute_named (text_of parts))
  suffix kind.RangeAttribute q parts = range_attribute (w.prefix_index q s) state.Done
  suffix kind.Qualification q parts = qualification q parts
  suffix _ q parts = refl

pub keeps_goals : (s : Sight) → KeepsGoals s
keeps_goals s = record {
  head = λ goal form text parts. head s goal (kind_of form) text;
  suffix = λ p goal form text parts. suffix s goal (kind_of form) p parts;
}
