-- What an expression comes to names what is declared.
use Rattle.std.proofs.Common.{◌≡◌, ◌≤◌, ℕ, Bool, true, false, List, [], ◌∷◌, length, Option, Some, None, refl, sym, ap, subst, arith, if◌then◌else◌}
use Rattle.std.specs.List.{AllByRecursion}
use Rattle.vd_bytes.specs.declared.places.Place.{Place}
use Rattle.vd_declarations.specs.Classes.{types_of}
use Rattle.vd_declarations.specs.declared.classes.Class.{Class}
use Rattle.vd_declarations.specs.declared.classes.Class.TheVariants as class
use Rattle.vd_forest.specs.Forest.{Forest, nothing, more, parts_of, next_of}
use Rattle.vd_forms.specs.declared.form.Form.{Form}
use Rattle.vd_forms.specs.declared.form.Form.TheVariants as form
use Rattle.vd_regions.specs.Scopes.{Scopes, declaration_at}
use Rattle.vd_resolved.specs.declared.node.Resolved.{Resolved}
use Rattle.vd_resolved.specs.Validity.{OnSome}
use Rattle.vd_states.specs.declared.states.State.TheVariants as state
use Rattle.vd_states.specs.declared.states.Want.TheVariants as want
use Rattle.vd_visible.specs.Types.{all_types, index_of}
use Rattle.vd_overloads.specs.Environment.{rules_at, scene_at}
use Rattle.vd_overloads.specs.Interpretations.{alone, interpretations}
use Rattle.vd_overloads.specs.declared.wanted.Wanted.{Wanted}
use Rattle.vd_overloads.specs.declared.wanted.Wanted.TheVariants as wanted
use Rattle.vd_name_rows.specs.declared.steps.Want as step
use Rattle.vd_name_rows.specs.declared.steps.Want.TheVariants as places
use Rattle.vd_name_rows.specs.Designs.{At, Design, Outcome, standpoint, sight, gives}
use Rattle.vd_naming.specs.Expressions.{resolved, unresolved, only_reading, mark_of, read_as, mark_states, mark_readings, read_as_mark, last_declaration, mark_declared, type_declared, fits_wanted, with_node, bounds_as, bounds_if, bounds_of_type, narrowed, where_known, with_mark, index_type, wanted_at, is_absent, expression}
use Rattle.vd_naming_laws.specs.Numbers.{NamesDeclared, WantsType}
use Rattle.vd_naming_laws.proofs.Lists.{all_of, all_map}
use Rattle.vd_naming_laws.proofs.Growth.{Entries, Own, Typed}
use Rattle.vd_naming_laws.proofs.NumberReadings.{interpretations_named, readings_in_named}
use Rattle.vd_naming_laws.proofs.Ways.{StateIs}
use Rattle.vd_naming_laws.proofs.Paths.{type_is}
use Rattle.vd_naming_laws.proofs.States.{Number, TreeIs, unresolved_is, joined_is, named_is, DesignIs, AtIs, entries, Comes, comes, point_sound}

-- ---- the mark of a tree, and the declaration at its last piece

pub mark_of_is : (b : Bool) (n : ℕ) (es : Entries) (t : Forest Resolved) → TreeIs b n es t → OnSome (Typed es) (mark_of t)
mark_of_is b n es nothing is = tt
mark_of_is b n es (more node text place parts next) is = is.1

last_is : (n : ℕ) (es : Entries) (t : Forest Resolved) → TreeIs true n es t → OnSome (Number true n) (last_declaration t)
last_is n es nothing is = tt
last_is n es (more node text place parts nothing) is = is.0
last_is n es (more node text place parts (more node' text' place' parts' next)) is = last_is n es (more node' text' place' parts' next) is.3

parts_is : (b : Bool) (n : ℕ) (es : Entries) (t : Forest Resolved) → TreeIs b n es t → TreeIs b n es (parts_of t)
parts_is b n es nothing is = tt
parts_is b n es (more node text place parts next) is = is.2

own_number : (es : Entries) (k : Option ℕ) → OnSome (Number true (length es)) k → OnSome (Own es) k
own_number es None is = tt
own_number es (Some k) is = is

pub mark_declared_is : (es : Entries) (t : Forest Resolved) → TreeIs true (length es) es t → OnSome (Own es) (mark_declared t)
mark_declared_is es t is = own_number es (mark_declared t) (last_is (length es) es (parts_of t) (parts_is true (length es) es t is))

-- ---- trees that change nothing

pub record Reads (b : Bool) (at : At) (d : Design) (o : Outcome) : Type 0 where
  pub at_is : o.at ≡ at
  pub design_is : o.design ≡ d
  pub tree : (n : ℕ) → length (entries d) ≤ n → TreeIs b n (entries d) o.tree

pub reads_comes : (b : Bool) (at : At) (d : Design) (o : Outcome) → DesignIs d → AtIs (entries d) at → Reads b at d o → Comes b d o
reads_comes b at d o is a r =
    comes b d o (ap entries r.design_is) (subst DesignIs (sym r.design_is) is) (subst (AtIs (entries d)) (sym r.at_is) a) (λ n h _. r.tree n h)

reads_if : (b : Bool) (at : At) (d : Design) (c : Bool) (o p : Outcome) → Reads b at d o → Reads b at d p → Reads b at d (if c then o else p)
reads_if b at d true o p x y = x
reads_if b at d false o p x y = y

abbrev pub OnWanted : Scopes → Option Wanted → Type 0
OnWanted s None = Unit {0}
OnWanted s (Some w) = WantsType s w

module _ (b : Bool) (at : At) (d : Design) (is : DesignIs d) where
  abbrev Read : Outcome → Type 0
  Read o = Reads b at d o

  only_is : (tree : Forest Form) (all : List (Forest Resolved)) → AllByRecursion (NamesDeclared d.scopes) all → (c : Bool) (n : ℕ) → length (entries d) ≤ n
      → TreeIs c n (entries d) (only_reading tree all)
  only_is tree [] are c n h = unresolved_is c n (entries d) tree
  only_is tree (x ∷ []) are c n h = named_is c n d.scopes x h are.0
  only_is tree (x ∷ y ∷ xs) are c n h = unresolved_is c n (entries d) tree

  pub not_named : (t : Forest Form) → Read (gives at d (unresolved t) None)
  not_named t = record { at_is = refl; design_is = refl; tree = λ n h. unresolved_is b n (entries d) t }

  pub read_tree : (w : Wanted) (tree : Forest Form) → WantsType d.scopes w → (c : Bool) (n : ℕ) → length (entries d) ≤ n → TreeIs c n (entries d) (read_as at d w tree).tree
  read_tree w tree typed c n h =
      only_is tree (interpretations (rules_at (standpoint at d)) (scene_at (standpoint at d)) w (alone tree))
      (interpretations_named (standpoint at d) (point_sound at d is) w (alone tree) typed) c n h

  pub read_reads : (w : Wanted) (tree : Forest Form) → WantsType d.scopes w → Read (read_as at d w tree)
  read_reads w tree typed = record { at_is = refl; design_is = refl; tree = λ n h. read_tree w tree typed b n h }

  marks_named : (tree : Forest Form) → AllByRecursion (NamesDeclared d.scopes) (mark_readings at d tree)
  marks_named tree =
      readings_in_named (standpoint at d) (point_sound at d is) (alone tree) (mark_states (sight at d))
      (all_map (λ t. state.Only (want.Mark t)) (λ t. Unit {0}) (StateIs (standpoint at d)) (λ t u. tt) (all_types (sight at d)) (all_of (λ t. Unit {0}) (λ t. tt) (all_types (sight at d))))

  pub mark_tree : (tree : Forest Form) (c : Bool) (n : ℕ) → length (entries d) ≤ n → TreeIs c n (entries d) (only_reading tree (mark_readings at d tree))
  mark_tree tree c n h = only_is tree (mark_readings at d tree) (marks_named tree) c n h

  pub mark_reads : (tree : Forest Form) → Read (read_as_mark at d tree)
  mark_reads tree = record { at_is = refl; design_is = refl; tree = λ n h. mark_tree tree b n h }

  -- what a mark means is declared, and its type is a type
  pub marked_own : (tree : Forest Form) → OnSome (Own (entries d)) (mark_declared (read_as_mark at d tree).tree)
  marked_own tree = mark_declared_is (entries d) (read_as_mark at d tree).tree (mark_tree tree true (length (entries d)) (omega arith))

  pub marked_typed : (tree : Forest Form) → OnSome (Typed (entries d)) (type_declared (sight at d) (mark_declared (read_as_mark at d tree).tree))
  marked_typed tree = type_is (standpoint at d) (point_sound at d is) (mark_declared (read_as_mark at d tree).tree)

  -- ---- a mark with a range

  with_node_reads : (node : Resolved) (place : Place) (o p : Outcome) → OnSome (Typed (entries d)) node.mark → node.declaration ≡ None → Read o → Read p
      → Read (with_node node place o p)
  with_node_reads node place o p typed none x y = record {
    at_is = x.at_is;
    design_is = x.design_is;
    tree = λ n h. (subst (OnSome (Number b n)) (sym none) tt, typed, joined_is b n (entries d) o.tree p.tree (x.tree n h) (y.tree n h), tt);
  }

  bounds_read : (t : ℕ) (bounds : Forest Form) → Typed (entries d) t → Read (bounds_as at d t bounds)
  bounds_read t nothing typed = record { at_is = refl; design_is = refl; tree = λ n h. tt }
  bounds_read t (more f text place parts next) typed =
      with_node_reads (resolved f None (Some t)) place (read_as at d (wanted.OfType t) (alone parts)) (read_as at d (wanted.OfType t) (alone (next_of parts))) typed refl
      (read_reads (wanted.OfType t) (alone parts) typed) (read_reads (wanted.OfType t) (alone (next_of parts)) typed)

  bounds_if_read : (fits : Bool) (t : ℕ) (place : Place) (bounds : Forest Form) → Typed (entries d) t → Read (bounds_if fits at d t place bounds)
  bounds_if_read true t place bounds typed = bounds_read t bounds typed
  bounds_if_read false t place bounds typed = record { at_is = refl; design_is = refl; tree = λ n h. unresolved_is b n (entries d) bounds }

  bounds_of_read : (t : Option ℕ) (w : Wanted) (place : Place) (bounds : Forest Form) → OnSome (Typed (entries d)) t → Read (bounds_of_type t w at d place bounds)
  bounds_of_read None w place bounds typed = not_named bounds
  bounds_of_read (Some t) w place bounds typed = bounds_if_read (fits_wanted w (sight at d) t) t place bounds typed

  narrowed_reads : (w : Wanted) (place : Place) (parts : Forest Form) → Read (narrowed w at d place parts)
  narrowed_reads w place parts =
      let o = read_as_mark at d (alone parts) in
      let t = type_declared (sight at d) (mark_declared o.tree) in
      with_node_reads (resolved form.DiscreteSubtype None t) place o (bounds_of_type t w at d place (next_of parts)) (marked_typed (alone parts)) refl
      (mark_reads (alone parts)) (bounds_of_read t w place (next_of parts) (marked_typed (alone parts)))

  -- ---- what is wanted

  pub where_reads : (w : Option Wanted) (t : Forest Form) → OnWanted d.scopes w → Read (where_known w at d t)
  where_reads None t typed = record { at_is = refl; design_is = refl; tree = λ n h. unresolved_is b n (entries d) t }
  where_reads (Some w) nothing typed = read_reads w nothing typed
  where_reads (Some w) (more form.DiscreteSubtype text place parts next) typed = narrowed_reads w place parts
  where_reads (Some w) (more f text place parts next) typed = read_reads w (more f text place parts next) typed

  pub made_wanted : (make : ℕ → Wanted) → ((t : ℕ) → Typed (entries d) t → WantsType d.scopes (make t)) → (t : Option ℕ) → OnSome (Typed (entries d)) t
      → OnWanted d.scopes (with_mark make t)
  made_wanted make f None typed = tt
  made_wanted make f (Some t) typed = f t typed

  index_typed : (c : Class) → AllByRecursion (Typed (entries d)) (types_of c) → OnSome (Typed (entries d)) (index_of c)
  index_typed (class.ArrayType index element mark) types = types.0
  index_typed _ types = tt

  index_type_is : (t : Option ℕ) → OnSome (Typed (entries d)) (index_type (sight at d) t)
  index_type_is None = tt
  index_type_is (Some t) = index_typed (declaration_at d.scopes t).class (is.sound.fine t).types

  -- the types that rows name
  abbrev pub GivenIs : step.Want → Type 0
  GivenIs (places.Given t) = Typed (entries d) t
  GivenIs _ = Unit {0}

  module _ (a : AtIs (entries d) at) where
    pub wanted_is : (w : step.Want) → GivenIs w → OnWanted d.scopes (wanted_at w at d)
    wanted_is places.AtHand g = made_wanted wanted.OfType (λ t typed. typed) at.mark a.mark
    wanted_is (places.Given t) g = g
    wanted_is places.Condition g = tt
    wanted_is places.Free g = tt
    wanted_is places.Choice g = made_wanted wanted.Choice (λ t typed. typed) at.selector a.selector
    wanted_is places.Range g = made_wanted wanted.Range (λ t typed. typed) at.mark a.mark
    wanted_is places.Index g = made_wanted wanted.DiscreteRange (λ t typed. typed) (index_type (sight at d) at.mark) (index_type_is at.mark)
    wanted_is places.AnyRange g = tt

    pub expression_reads : (w : step.Want) → GivenIs w → (t : Forest Form) → Read (expression w at d t)
    expression_reads w g t =
        reads_if b at d (is_absent t) (gives at d (unresolved t) None) (where_known (wanted_at w at d) at d t) (not_named t) (where_reads (wanted_at w at d) t (wanted_is w g))
