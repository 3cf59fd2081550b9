-- Each way of a node names what is declared, and leads to states that do.
use Rattle.std.proofs.Common.{◌+◌, ◌==◌, ℕ, Bool, true, false, List, [], ◌∷◌, map, Option, Some, None, option_map, slice_get, if◌then◌else◌}
use Rattle.std.specs.List.{AllByRecursion, filter_map, list_any}
use Rattle.std.specs.Option.{option_to_list}
use Rattle.vd_declarations.specs.Classes.{types_of}
use Rattle.vd_declarations.specs.declared.classes.Class.{Class}
use Rattle.vd_declarations.specs.declared.classes.Class.TheVariants as class
use Rattle.vd_forest.specs.Forest.{Forest, text_of}
use Rattle.vd_forms.specs.declared.form.Form.{Form}
use Rattle.vd_forms.specs.Validity.{forms_of, is_one_expression}
use Rattle.vd_predefined.specs.declared.numbers.TheConstants.{BOOLEAN, INTEGER, TIME, STRING}
use Rattle.vd_resolved.specs.Validity.{OnSome}
use Rattle.vd_states.specs.declared.states.State.{State}
use Rattle.vd_states.specs.declared.states.State.TheVariants as state
use Rattle.vd_states.specs.declared.states.Want.{Want}
use Rattle.vd_states.specs.declared.states.Want.TheVariants as want
use Rattle.vd_states.specs.declared.states.Prefix.{Prefix}
use Rattle.vd_states.specs.declared.states.Prefix.TheVariants as prefix
use Rattle.vd_states.specs.declared.ways.Way.{Way}
use Rattle.vd_visible.specs.declared.kinds.Kind.{Kind}
use Rattle.vd_visible.specs.declared.kinds.Kind.TheVariants as kind
use Rattle.vd_visible.specs.declared.attributes.Attribute.{Attribute}
use Rattle.vd_visible.specs.declared.attributes.Attribute.TheVariants as attribute
use Rattle.vd_visible.specs.declared.roles.Role.{Role}
use Rattle.vd_visible.specs.declared.roles.Role.TheVariants as role
use Rattle.vd_visible.specs.Kinds.{kind_of, symbol_of, attribute_named, role_of}
use Rattle.vd_visible.specs.Sights.{Sight, Standpoint, sight_from, class_of, mark_of, parameters_of}
use Rattle.vd_visible.specs.Types.{is_some_type, is_scalar, index_of, type_meant, position_in, letter_name, sources}
use Rattle.vd_visible.specs.Lists.{is_others, is_unmixed, left_elements, others_type, fields_with, aggregate_of, in_brackets, is_element, elements_named, first_mark, chosen_mark, choices_type, names_in, only_one, simple_name}
use Rattle.vd_ways.specs.Ways as w
use Rattle.vd_naming_laws.specs.Numbers.{IsDeclared, IsTypeIn, IsSound}
use Rattle.vd_naming_laws.proofs.Lists.{OnOption, some_if, list_if, all_of, all_map, all_filter, all_filter_map, all_option}
use Rattle.vd_naming_laws.proofs.Sights.{seen_own, behind_own, meant_type, sources_types, common_one}

module _ (p : Standpoint) where
  abbrev pub s : Sight
  s = sight_from p

  abbrev pub Own : ℕ → Type 0
  Own k = IsDeclared p.scopes k

  abbrev pub Typed : ℕ → Type 0
  Typed k = IsTypeIn p.scopes k

  -- ---- states that name what is declared

  abbrev pub WantIs : Want → Type 0
  WantIs (want.Value t) = Typed t
  WantIs (want.Range t) = Typed t
  WantIs (want.DiscreteRange t) = Typed t
  WantIs (want.Choice t) = Typed t
  WantIs (want.Mark t) = Unit {0}

  abbrev pub PrefixIs : Prefix → Type 0
  PrefixIs (prefix.Named k) = Own k
  PrefixIs (prefix.Valued t signal) = Typed t
  PrefixIs (prefix.Ranged t) = Unit {0}
  PrefixIs (prefix.Attributed argument result) = Typed argument × Typed result

  abbrev pub StateIs : State → Type 0
  StateIs (state.Only w) = WantIs w
  StateIs (state.Each w) = WantIs w
  StateIs (state.ConstrainedMark t) = Typed t
  StateIs (state.Association k) = Own k
  StateIs (state.Formal k) = Own k
  StateIs (state.Fields t index others) = OnSome Typed others
  StateIs (state.FieldAssociation t u) = Typed u
  StateIs (state.Suffixes prefix goal) = PrefixIs prefix
  StateIs _ = Unit {0}

  abbrev pub WayIs : Way → Type 0
  WayIs way = OnSome Own way.declaration × OnSome Typed way.mark × StateIs way.inside × StateIs way.after

  where_true : (b : Bool) (way : Way) → WayIs way → AllByRecursion WayIs (w.where_true b way)
  where_true b way is = list_if WayIs b (way ∷ []) [] (is, tt) tt

  if_true : (b : Bool) (way : Way) → WayIs way → OnOption WayIs (w.if_true b way)
  if_true b way is = some_if WayIs b way (λ e. is)

  module _ (sound : IsSound p.scopes) where
    -- ---- what stands in brackets

    state_if : (b : Bool) (x : Option State) → OnOption StateIs x → OnOption StateIs (if b then x else None)
    state_if true x is = is
    state_if false x is = tt

    with_others : (t : ℕ) (u : Option ℕ) → OnSome Typed u → OnOption StateIs (option_map (fields_with t) u)
    with_others t None is = tt
    with_others t (Some u) is = is

    others_typed : (t : ℕ) (parts : Forest Form) → OnSome Typed (others_type s t parts)
    others_typed t parts =
        common_one Typed (map (mark_of s) (left_elements s t parts))
        (all_map (mark_of s) (λ k. Unit {0}) (OnSome Typed) (λ k u. sound.marks k) (left_elements s t parts) (all_of (λ k. Unit {0}) (λ k. tt) (left_elements s t parts)))

    fields_if : (b : Bool) (t : ℕ) (parts : Forest Form) → OnOption StateIs (if b then option_map (fields_with t) (others_type s t parts) else Some (state.Fields t (Some 0) None))
    fields_if true t parts = with_others t (others_type s t parts) (others_typed t parts)
    fields_if false t parts = tt

    aggregate : (t : ℕ) (c : Class) (parts : Forest Form) → OnOption StateIs (aggregate_of s t c parts)
    aggregate t (class.ArrayType index element mark) parts = state_if (is_unmixed (forms_of parts)) (Some (state.Elements t)) tt
    aggregate t class.RecordType parts = fields_if (list_any is_others (forms_of parts)) t parts
    aggregate t _ parts = tt

    brackets_if : (b : Bool) (t : ℕ) (x : Option State) → Typed t → OnOption StateIs x → OnOption StateIs (if b then Some (state.Only (want.Value t)) else x)
    brackets_if true t x typed is = typed
    brackets_if false t x typed is = is

    brackets : (t : ℕ) (parts : Forest Form) → Typed t → OnOption StateIs (in_brackets s t parts)
    brackets t parts typed = brackets_if (is_one_expression parts) t _ typed (aggregate t (class_of s t) parts)

    -- ---- values

    letter : (t : ℕ) (after : State) (k : ℕ) (c : Class) → Typed t → StateIs after → Own k
        → OnOption WayIs (elim c [
          | class.EnumerationLiteral ↦ w.if_true (is_some_type t (mark_of s k)) (w.placed k (Some t) (position_in t k) state.Done after)
          | _ ↦ None
        ])
    letter t after k class.EnumerationLiteral typed is own = if_true _ (w.placed k (Some t) (position_in t k) state.Done after) (own, typed, tt, is)
    letter t after k _ typed is own = tt

    operator : (t : ℕ) (after : State) (k : ℕ) (r : Role) → Typed t → StateIs after → Own k
        → OnOption WayIs (elim r [
          | role.Function ↦ w.if_true (is_some_type t (mark_of s k)) (w.chosen k t (state.Arguments k 0) after)
          | _ ↦ None
        ])
    operator t after k role.Function typed is own = if_true _ (w.chosen k t (state.Arguments k 0) after) (own, typed, tt, is)
    operator t after k _ typed is own = tt

    text : (t : ℕ) (after : State) (name : List ℕ) → Typed t → StateIs after → AllByRecursion WayIs (w.text_ways s t after name)
    text t after name typed is = where_true _ (w.typed t state.Done after) (tt, typed, tt, is)

    pub value : (k : Kind) (t : ℕ) (after : State) (form : Form) (name : List ℕ) (parts : Forest Form) → Typed t → StateIs after
        → AllByRecursion WayIs (w.value_ways k s t after form name parts)
    value kind.Number t after form name parts typed is = where_true _ (w.typed t state.Done after) (tt, typed, tt, is)
    value kind.PhysicalLiteral t after form name parts typed is = where_true _ (w.typed t state.PhysicalValue after) (tt, typed, tt, is)
    value kind.Letter t after form name parts typed is =
        all_filter_map (w.letter_way s t after) Own WayIs (λ k own. letter t after k (class_of s k) typed is own) (s.visible (letter_name name)) (seen_own p sound (letter_name name))
    value kind.Quoted t after form name parts typed is = text t after name typed is
    value kind.Bits t after form name parts typed is = text t after name typed is
    value kind.Aggregate t after form name parts typed is =
        all_map (λ inside. w.typed t inside after) StateIs WayIs (λ inside in_is. (tt, typed, in_is, is)) (option_to_list (in_brackets s t parts))
        (all_option StateIs (in_brackets s t parts) (brackets t parts typed))
    value kind.Name t after form name parts typed is = ((tt, typed, tt, is), tt)
    value kind.OperatorName t after form name parts typed is = ((tt, typed, tt, is), tt)
    value kind.Operator t after form name parts typed is =
        all_filter_map (w.operator_way s t after) Own WayIs (λ k own. operator t after k (role_of (class_of s k)) typed is own) (s.visible (symbol_of form)) (seen_own p sound (symbol_of form))
    value _ t after form name parts typed is = tt

    -- ---- ranges, choices and marks

    range : (k : Kind) (t : ℕ) (after : State) → Typed t → StateIs after → AllByRecursion WayIs (w.range_ways k s t after)
    range kind.Bounds t after typed is = where_true _ (w.bounds_way t after) (tt, typed, typed, is)
    range kind.Name t after typed is = ((tt, typed, tt, is), tt)
    range _ t after typed is = tt

    discrete : (k : Kind) (t : ℕ) (after : State) → Typed t → StateIs after → AllByRecursion WayIs (w.discrete_range_ways k s t after)
    discrete kind.Bounds t after typed is = where_true _ (w.bounds_way t after) (tt, typed, typed, is)
    discrete kind.DiscreteSubtype t after typed is = where_true _ (w.typed t (state.ConstrainedMark t) after) (tt, typed, typed, is)
    discrete kind.Name t after typed is = ((tt, typed, tt, is), tt)
    discrete _ t after typed is = tt

    choice : (k : Kind) (t : ℕ) (after : State) (form : Form) (name : List ℕ) (parts : Forest Form) → Typed t → StateIs after
        → AllByRecursion WayIs (w.choice_ways k s t after form name parts)
    choice kind.Name t after form name parts typed is = ((tt, typed, tt, is), tt)
    choice kind.Bounds t after form name parts typed is = discrete kind.Bounds t after typed is
    choice kind.DiscreteSubtype t after form name parts typed is = discrete kind.DiscreteSubtype t after typed is
    choice k t after form name parts typed is = value k t after form name parts typed is

    mark : (k : Kind) (t : ℕ) (after : State) → StateIs after → AllByRecursion WayIs (w.mark_ways k t after)
    mark kind.Name t after is = ((tt, tt, tt, is), tt)
    mark _ t after is = tt

    wanted : (goal : Want) (after : State) (form : Form) (name : List ℕ) (parts : Forest Form) → WantIs goal → StateIs after
        → AllByRecursion WayIs (w.wanted_ways goal s after form name parts)
    wanted (want.Value t) after form name parts typed is = value (kind_of form) t after form name parts typed is
    wanted (want.Range t) after form name parts typed is = range (kind_of form) t after typed is
    wanted (want.DiscreteRange t) after form name parts typed is = discrete (kind_of form) t after typed is
    wanted (want.Choice t) after form name parts typed is = choice (kind_of form) t after form name parts typed is
    wanted (want.Mark t) after form name parts typed is = mark (kind_of form) t after is

    -- ---- physical literals

    number : (k : Kind) → AllByRecursion WayIs (w.number_ways k)
    number kind.Number = ((tt, sound.integer, tt, tt), tt)
    number _ = tt

    unit_case : (k : ℕ) (c : Class) → Own k → OnOption WayIs (elim c [ class.PhysicalUnit ↦ Some (w.naming k state.Done state.Done) | _ ↦ None ])
    unit_case k class.PhysicalUnit own = (own, tt, tt, tt)
    unit_case k _ own = tt

    unit : (k : Kind) (name : List ℕ) → AllByRecursion WayIs (w.unit_ways k s name)
    unit kind.Identifier name = all_filter_map (w.unit_way s) Own WayIs (λ k own. unit_case k (class_of s k) own) (s.visible name) (seen_own p sound name)
    unit _ name = tt

    -- ---- arguments

    parameters_own : (f : ℕ) (name : Option (List ℕ)) → AllByRecursion Own (w.parameters_named s f name)
    parameters_own f None = tt
    parameters_own f (Some name) = all_filter Own _ (parameters_of s f) (sound.parameters f)

    mark_some : (k : Option ℕ) → OnSome Typed (w.mark_of_some s k)
    mark_some None = tt
    mark_some (Some k) = sound.marks k

    value_in : (t : Option ℕ) (k : Kind) (after : State) (form : Form) (name : List ℕ) (parts : Forest Form) → OnSome Typed t → StateIs after
        → AllByRecursion WayIs (w.value_ways_in t k s after form name parts)
    value_in None k after form name parts typed is = tt
    value_in (Some t) k after form name parts typed is = value k t after form name parts typed is

    argument : (k : Kind) (f index : ℕ) (form : Form) (name : List ℕ) (parts : Forest Form) → AllByRecursion WayIs (w.argument_ways k s f index form name parts)
    argument kind.Association f index form name parts =
        all_map (w.association_way (state.Arguments f (index + 1))) Own WayIs (λ k own. (tt, tt, own, tt)) (w.parameters_named s f (only_one (names_in parts)))
        (parameters_own f (only_one (names_in parts)))
    argument k f index form name parts = value_in _ k (state.Arguments f (index + 1)) form name parts (mark_some (slice_get (parameters_of s f) index)) tt

    association : (k : Kind) (parameter : ℕ) → Own parameter → AllByRecursion WayIs (w.association_ways k s parameter)
    association kind.AssociationChoices parameter own =
        all_map (λ t. w.plain (state.Formal parameter) (state.Only (want.Value t))) Typed WayIs (λ t typed. (tt, tt, own, typed)) (option_to_list (mark_of s parameter))
        (typed_list (mark_of s parameter) (sound.marks parameter))
      where
        typed_list : (t : Option ℕ) → OnSome Typed t → AllByRecursion Typed (option_to_list t)
        typed_list None is = tt
        typed_list (Some t) is = (is, tt)
    association _ parameter own = tt

    formal : (k : Kind) (parameter : ℕ) → Own parameter → AllByRecursion WayIs (w.formal_ways k parameter)
    formal kind.Name parameter own = ((own, tt, tt, tt), tt)
    formal _ parameter own = tt

    -- ---- elements of arrays

    element : (k : Kind) (array t : ℕ) (form : Form) (name : List ℕ) (parts : Forest Form) → Typed t → AllByRecursion WayIs (w.element_ways k s array t form name parts)
    element kind.Association array t form name parts typed = ((tt, tt, tt, tt), tt)
    element kind.OthersAssociation array t form name parts typed = ((tt, tt, typed, tt), tt)
    element k array t form name parts typed = value k t (state.Elements array) form name parts typed tt

    elements : (c : Class) (k : Kind) (array : ℕ) (form : Form) (name : List ℕ) (parts : Forest Form) → AllByRecursion Typed (types_of c)
        → AllByRecursion WayIs (w.elements_ways c k s array form name parts)
    elements (class.ArrayType index t mark) k array form name parts types = element k array t form name parts types.1.0
    elements _ k array form name parts types = tt

    choices : (c : Class) → AllByRecursion Typed (types_of c) → AllByRecursion WayIs (w.choices_way c)
    choices (class.ArrayType index t mark) types = ((tt, tt, types.0, types.1.0), tt)
    choices _ types = tt

    element_association : (k : Kind) (array : ℕ) → AllByRecursion WayIs (w.element_association_ways k s array)
    element_association kind.AssociationChoices array = choices (class_of s array) (sound.types array)
    element_association _ array = tt

    -- ---- elements of records

    typed_list : (t : Option ℕ) → OnSome Typed t → AllByRecursion Typed (option_to_list t)
    typed_list None is = tt
    typed_list (Some t) is = (is, tt)

    positional : (index : Option ℕ) (k : Kind) (t : ℕ) (others : Option ℕ) (form : Form) (name : List ℕ) (parts : Forest Form) → OnSome Typed others
        → AllByRecursion WayIs (w.positional_ways index k s t others form name parts)
    positional None k t others form name parts typed = tt
    positional (Some index) k t others form name parts typed =
        value_in _ k (state.Fields t (Some (index + 1)) others) form name parts (mark_some (slice_get (parameters_of s t) index)) typed

    first_typed : (ks : List ℕ) → OnSome Typed (first_mark s ks)
    first_typed [] = tt
    first_typed (k ∷ ks) = sound.marks k

    chosen_typed : (t : ℕ) (name : Option (List ℕ)) → OnSome Typed (chosen_mark s t name)
    chosen_typed t None = tt
    chosen_typed t (Some name) = first_typed (elements_named s t name)

    choices_typed : (t : ℕ) (parts : Forest Form) → OnSome Typed (choices_type s t parts)
    choices_typed t parts =
        common_one Typed (map (chosen_mark s t) (names_in parts))
        (all_map (chosen_mark s t) (λ n. Unit {0}) (OnSome Typed) (λ n u. chosen_typed t n) (names_in parts) (all_of (λ n. Unit {0}) (λ n. tt) (names_in parts)))

    field : (k : Kind) (t : ℕ) (index others : Option ℕ) (form : Form) (name : List ℕ) (parts : Forest Form) → OnSome Typed others
        → AllByRecursion WayIs (w.field_ways k s t index others form name parts)
    field kind.Association t index others form name parts typed =
        all_map (λ u. w.plain (state.FieldAssociation t u) (state.Fields t None others)) Typed WayIs (λ u is. (tt, tt, is, typed)) (option_to_list (choices_type s t parts))
        (typed_list (choices_type s t parts) (choices_typed t parts))
    field kind.OthersAssociation t index others form name parts typed =
        all_map (λ u. w.plain (state.Only (want.Value u)) (state.Fields t None others)) Typed WayIs (λ u is. (tt, tt, is, typed)) (option_to_list others) (typed_list others typed)
    field k t index others form name parts typed = positional index k t others form name parts typed

    field_association : (k : Kind) (t u : ℕ) → Typed u → AllByRecursion WayIs (w.field_association_ways k t u)
    field_association kind.AssociationChoices t u typed = ((tt, tt, tt, typed), tt)
    field_association _ t u typed = tt

    elements_own : (t : ℕ) (name : List ℕ) → AllByRecursion Own (elements_named s t name)
    elements_own t name = all_filter Own (λ k. is_element (class_of s k)) (s.selected t name) (behind_own p sound t name)

    fields_own : (t : ℕ) (name : Option (List ℕ)) → AllByRecursion Own (w.fields_named s t name)
    fields_own t None = tt
    fields_own t (Some name) = elements_own t name

    field_name : (t : ℕ) (form : Form) (parts : Forest Form) → AllByRecursion WayIs (w.field_name_ways s t form parts)
    field_name t form parts =
        all_map (w.field_name_way s t) Own WayIs (λ k own. (own, tt, tt, tt)) (w.fields_named s t (simple_name form parts)) (fields_own t (simple_name form parts))

    -- ---- the first piece of a name

    valued : (t : Option ℕ) (k : ℕ) (signal : Bool) (goal : Want) (inside : State) → OnSome Typed t → Own k → StateIs inside
        → OnOption WayIs (w.valued_way t k signal goal inside)
    valued None k signal goal inside typed own is = tt
    valued (Some t) k signal goal inside typed own is = (own, typed, is, typed)

    literal : (t : Option ℕ) (k : ℕ) (goal : Want) (inside : State) → OnSome Typed t → Own k → StateIs inside → OnOption WayIs (w.literal_way t k goal inside)
    literal None k goal inside typed own is = tt
    literal (Some t) k goal inside typed own is = (own, typed, is, typed)

    function : (parameters : List ℕ) (k : ℕ) (goal : Want) (inside : State) → Own k → StateIs inside → OnOption WayIs (w.function_way s parameters k goal inside)
    function [] k goal inside own is = valued (mark_of s k) k false goal inside (sound.marks k) own is
    function (parameter ∷ parameters) k goal inside own is = (own, tt, is, own)

    by_role : (r : Role) (k : ℕ) (goal : Want) (inside : State) → Own k → StateIs inside → OnOption WayIs (w.role_way r s k goal inside)
    by_role role.Unit k goal inside own is = (own, tt, is, own)
    by_role role.Mark k goal inside own is = (own, tt, is, own)
    by_role role.Object k goal inside own is = valued (mark_of s k) k false goal inside (sound.marks k) own is
    by_role role.Signal k goal inside own is = valued (mark_of s k) k true goal inside (sound.marks k) own is
    by_role role.Literal k goal inside own is = literal (mark_of s k) k goal inside (sound.marks k) own is
    by_role role.Function k goal inside own is = function (parameters_of s k) k goal inside own is
    by_role role.Other k goal inside own is = tt

    declarations : (goal : Want) (inside : State) (ks : List ℕ) → AllByRecursion Own ks → StateIs inside → AllByRecursion WayIs (filter_map (w.declaration_way s goal inside) ks)
    declarations goal inside ks own is =
        all_filter_map (w.declaration_way s goal inside) Own WayIs (λ k k_own. by_role (role_of (class_of s k)) k goal inside k_own is) ks own

    head : (k : Kind) (goal : Want) (name : List ℕ) → AllByRecursion WayIs (w.head_ways k s goal name)
    head kind.Identifier goal name = declarations goal state.Done (s.visible name) (seen_own p sound name) tt
    head kind.Quoted goal name = declarations goal state.Done (s.visible (w.symbol_name name)) (seen_own p sound (w.symbol_name name)) tt
    head _ goal name = tt

    -- ---- the suffixes of a name

    unit_selection : (r : Role) (k : ℕ) (goal : Want) (name : List ℕ) → AllByRecursion WayIs (w.unit_selection_ways r s k goal name)
    unit_selection role.Unit k goal name = declarations goal state.Leaf (s.selected k name) (behind_own p sound k name) tt
    unit_selection _ k goal name = tt

    field_of : (u : Option ℕ) (t : ℕ) (signal : Bool) (goal : Want) (k : ℕ) → OnSome Typed u → Own k → OnOption WayIs (w.field_way_of u s t signal goal k)
    field_of None t signal goal k typed own = tt
    field_of (Some u) t signal goal k typed own = (own, typed, tt, typed)

    selection : (q : Prefix) (goal : Want) (name : Option (List ℕ)) → AllByRecursion WayIs (w.selection_ways q s goal name)
    selection q goal None = tt
    selection (prefix.Named k) goal (Some name) = unit_selection (role_of (class_of s k)) k goal name
    selection (prefix.Valued t signal) goal (Some name) =
        all_filter_map (w.field_way s t signal goal) Own WayIs (λ k own. field_of (mark_of s k) t signal goal k (sound.marks k) own) (elements_named s t name) (elements_own t name)
    selection (prefix.Ranged t) goal (Some name) = tt
    selection (prefix.Attributed argument result) goal (Some name) = tt

    call : (t : Option ℕ) (f : ℕ) (goal : Want) (parts : Forest Form) → OnSome Typed t → Own f → AllByRecursion WayIs (w.call_ways t s f goal parts)
    call None f goal parts typed own = tt
    call (Some t) f goal parts typed own = where_true _ (w.chosen f t (state.Arguments f 0) (w.value_after t goal)) (own, typed, tt, typed)

    conversion : (t : Option ℕ) (k : ℕ) (goal : Want) → OnSome Typed t → Own k → AllByRecursion WayIs (w.conversion_ways t s k goal)
    conversion None k goal typed own = tt
    conversion (Some t) k goal typed own =
        all_map (w.conversion_way k t goal) Typed WayIs (λ u is. (own, typed, is, typed)) (sources s t) (sources_types p sound t typed)

    named_argument : (r : Role) (k : ℕ) (goal : Want) (parts : Forest Form) → Own k → AllByRecursion WayIs (w.named_argument_ways r s k goal parts)
    named_argument role.Function k goal parts own = call (mark_of s k) k goal parts (sound.marks k) own
    named_argument role.Mark k goal parts own = conversion (type_meant s k) k goal (meant_type p sound k) own
    named_argument _ k goal parts own = tt

    indexed : (c : Class) (t : ℕ) (signal : Bool) (goal : Want) → AllByRecursion Typed (types_of c) → Typed t → AllByRecursion WayIs (w.indexed_ways c t signal goal)
    indexed (class.ArrayType index u mark) t signal goal types typed =
        ((tt, types.1.0, types.0, types.1.0), ((tt, typed, types.0, typed), tt))
    indexed _ t signal goal types typed = tt

    bracket : (q : Prefix) (goal : Want) (parts : Forest Form) → PrefixIs q → AllByRecursion WayIs (w.bracket_ways q s goal parts)
    bracket (prefix.Named k) goal parts is = named_argument (role_of (class_of s k)) k goal parts is
    bracket (prefix.Valued t signal) goal parts is = indexed (class_of s t) t signal goal (sound.types t) is
    bracket (prefix.Ranged t) goal parts is = tt
    bracket (prefix.Attributed argument result) goal parts is = ((tt, is.1, is.0, is.1), tt)

    -- ---- attributes

    range_attribute : (index : Option ℕ) (inside : State) (goal : Want) → OnSome Typed index → StateIs inside → AllByRecursion WayIs (w.range_attribute_ways index inside goal)
    range_attribute None inside goal typed is = tt
    range_attribute (Some index) inside goal typed is = ((tt, typed, is, tt), tt)

    array_attribute : (a : Attribute) (index : Option ℕ) (goal : Want) → OnSome Typed index → AllByRecursion WayIs (w.array_attribute_ways a index goal)
    array_attribute a None goal typed = tt
    array_attribute attribute.Bound (Some index) goal typed = ((tt, typed, tt, typed), tt)
    array_attribute attribute.Length (Some index) goal typed = ((tt, sound.integer, tt, sound.integer), tt)
    array_attribute attribute.ReverseRange (Some index) goal typed = range_attribute (Some index) state.Leaf goal typed tt
    array_attribute _ (Some index) goal typed = tt

    attributed : (a r : ℕ) (goal : Want) → Typed a → Typed r → AllByRecursion WayIs (w.attributed a r goal)
    attributed a r goal a_is r_is = ((tt, tt, tt, (a_is, r_is)), tt)

    scalar_attribute : (a : Attribute) (t : ℕ) (goal : Want) → Typed t → AllByRecursion WayIs (w.scalar_attribute_ways a t goal)
    scalar_attribute attribute.Bound t goal typed = ((tt, typed, tt, typed), tt)
    scalar_attribute attribute.Position t goal typed = attributed t INTEGER goal typed sound.integer
    scalar_attribute attribute.ValueAt t goal typed = attributed INTEGER t goal sound.integer typed
    scalar_attribute attribute.Neighbour t goal typed = attributed t t goal typed typed
    scalar_attribute attribute.Image t goal typed = list_if WayIs (t == TIME) [] (w.attributed t STRING goal) tt (attributed t STRING goal typed sound.string)
    scalar_attribute _ t goal typed = tt

    index_typed : (c : Class) → AllByRecursion Typed (types_of c) → OnSome Typed (index_of c)
    index_typed (class.ArrayType index u mark) types = types.0
    index_typed _ types = tt

    mark_attribute : (t : Option ℕ) (a : Attribute) (goal : Want) → OnSome Typed t → AllByRecursion WayIs (w.mark_attribute_ways t a s goal)
    mark_attribute None a goal typed = tt
    mark_attribute (Some t) a goal typed =
        list_if WayIs (is_scalar (class_of s t)) (w.scalar_attribute_ways a t goal) (w.array_attribute_ways a (index_of (class_of s t)) goal) (scalar_attribute a t goal typed)
        (array_attribute a (index_of (class_of s t)) goal (index_typed (class_of s t) (sound.types t)))

    value_attribute : (a : Attribute) (t : ℕ) (signal : Bool) (goal : Want) → AllByRecursion WayIs (w.value_attribute_ways a s t signal goal)
    value_attribute attribute.Event t signal goal = where_true signal (w.typed BOOLEAN state.Leaf (w.value_after BOOLEAN goal)) (tt, sound.boolean, tt, sound.boolean)
    value_attribute a t signal goal = array_attribute a (index_of (class_of s t)) goal (index_typed (class_of s t) (sound.types t))

    attribute_of : (q : Prefix) (a : Attribute) (goal : Want) → AllByRecursion WayIs (w.attribute_ways q a s goal)
    attribute_of (prefix.Named k) a goal = mark_attribute (type_meant s k) a goal (meant_type p sound k)
    attribute_of (prefix.Valued t signal) a goal = value_attribute a t signal goal
    attribute_of (prefix.Ranged t) a goal = tt
    attribute_of (prefix.Attributed argument result) a goal = tt

    index_some : (t : Option ℕ) → OnSome Typed (w.index_of_some s t)
    index_some None = tt
    index_some (Some t) = index_typed (class_of s t) (sound.types t)

    index_of_prefix : (q : Prefix) → OnSome Typed (w.prefix_index q s)
    index_of_prefix (prefix.Named k) = index_some (type_meant s k)
    index_of_prefix (prefix.Valued t signal) = index_typed (class_of s t) (sound.types t)
    index_of_prefix (prefix.Ranged t) = tt
    index_of_prefix (prefix.Attributed argument result) = tt

    -- ---- qualified expressions

    qualified : (t : Option ℕ) (k : ℕ) (goal : Want) (parts : Forest Form) → OnSome Typed t → Own k → AllByRecursion WayIs (w.qualified_ways t s k goal parts)
    qualified None k goal parts typed own = tt
    qualified (Some t) k goal parts typed own =
        all_map (λ inside. w.chosen k t inside (w.value_after t goal)) StateIs WayIs (λ inside is. (own, typed, is, typed)) (option_to_list (in_brackets s t parts))
        (all_option StateIs (in_brackets s t parts) (brackets t parts typed))

    qualification : (q : Prefix) (goal : Want) (parts : Forest Form) → PrefixIs q → AllByRecursion WayIs (w.qualification_ways q s goal parts)
    qualification (prefix.Named k) goal parts is = qualified (type_meant s k) k goal parts (meant_type p sound k) is
    qualification (prefix.Valued t signal) goal parts is = tt
    qualification (prefix.Ranged t) goal parts is = tt
    qualification (prefix.Attributed argument result) goal parts is = tt

    suffix : (k : Kind) (q : Prefix) (goal : Want) (parts : Forest Form) → PrefixIs q → AllByRecursion WayIs (w.suffix_ways k s q goal parts)
    suffix kind.Selection q goal parts is = selection q goal (w.selection_name parts)
    suffix kind.Arguments q goal parts is = bracket q goal parts is
    suffix kind.Attribute q goal parts is = attribute_of q (attribute_named (text_of parts)) goal
    suffix kind.RangeAttribute q goal parts is = range_attribute (w.prefix_index q s) state.Done goal (index_of_prefix q) tt
    suffix kind.Qualification q goal parts is = qualification q goal parts is
    suffix _ q goal parts is = tt

    -- ---- all

    pub all_ways : (st : State) (form : Form) (name : List ℕ) (parts : Forest Form) → StateIs st → AllByRecursion WayIs (w.ways s st form name parts)
    all_ways state.Done form name parts is = tt
    all_ways state.Leaf form name parts is = ((tt, tt, tt, tt), tt)
    all_ways (state.Only goal) form name parts is = wanted goal state.Done form name parts is tt
    all_ways (state.Each goal) form name parts is = wanted goal (state.Each goal) form name parts is is
    all_ways (state.ConstrainedMark t) form name parts is = mark (kind_of form) t (state.Only (want.Range t)) is
    all_ways state.PhysicalValue form name parts is = number (kind_of form)
    all_ways state.PhysicalUnit form name parts is = unit (kind_of form) name
    all_ways (state.Head goal) form name parts is = head (kind_of form) goal name
    all_ways (state.Suffixes q goal) form name parts is = suffix (kind_of form) q goal parts is
    all_ways (state.Arguments f index) form name parts is = argument (kind_of form) f index form name parts
    all_ways (state.Association k) form name parts is = association (kind_of form) k is
    all_ways (state.Formal k) form name parts is = formal (kind_of form) k is
    all_ways (state.Elements t) form name parts is = elements (class_of s t) (kind_of form) t form name parts (sound.types t)
    all_ways (state.ElementAssociation t) form name parts is = element_association (kind_of form) t
    all_ways (state.Fields t index others) form name parts is = field (kind_of form) t index others form name parts is
    all_ways (state.FieldAssociation t u) form name parts is = field_association (kind_of form) t u is
    all_ways (state.FieldNames t) form name parts is = field_name t form parts
