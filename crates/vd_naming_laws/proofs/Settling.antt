-- What is settled names what is declared.
use Rattle.std.proofs.Common.{◌≡◌, ◌<◌, ℕ, zero, suc, List, [], ◌∷◌, map, length, Option, Some, None, refl, ap, ◌∙◌, arith, slice_index_or}
use Rattle.std.specs.List.{AllByRecursion, All}
use Rattle.vd_declarations.specs.Classes.{is_type, types_of, named_by}
use Rattle.vd_declarations.specs.declared.classes.Class.{Class}
use Rattle.vd_declarations.specs.declared.classes.Class.TheVariants as class
use Rattle.vd_declarations.specs.declared.declarations.Declaration.{Declaration}
use Rattle.vd_forest.specs.Forest.{Forest, nothing, more}
use Rattle.vd_predefined.specs.Given.{given_scopes}
use Rattle.vd_regions.specs.Scopes.{Scopes}
use Rattle.vd_regions.specs.declared.entries.Entered as code
use Rattle.vd_resolved.specs.declared.node.Resolved.{Resolved}
use Rattle.vd_resolved.specs.Validity.{IsOwn, IsType, OnSome, IsAmong, class_at}
use Rattle.vd_rewriting.specs.Forms.{with_forms}
use Rattle.vd_name_rows.specs.declared.notes.Taken.{Taken}
use Rattle.vd_naming.specs.Naming.{names_of}
use Rattle.vd_naming.specs.Settled.{settled, settled_some, settled_node, settled_class, settled_declaration}
use Rattle.vd_naming_laws.specs.Numbers.{MarksAreTypes, SettlesWell, MarksAreOf}
use Rattle.vd_naming_laws.specs.NumberLaws.{NamesAreAlmostResolved}
use Rattle.vd_naming_laws.proofs.Lists.{all_map}
use Rattle.vd_naming_laws.proofs.Growth.{Entries, at, Own, Typed, IsFine, AreSound, typed_own}
use Rattle.vd_naming_laws.proofs.NumberNaming.{given_sound, names_sound, entries_sound}

-- by index, and by recursion
by_index : {X : Type 0} (P : X → Type 0) (xs : List X) → AllByRecursion P xs → All P xs
by_index P [] are k d h = absurd (omega (arith, h))
by_index P (x ∷ xs) are zero d h = are.0
by_index P (x ∷ xs) are (suc k) d h = by_index P xs are.1 k d (omega (arith, h))

map_long : {X Y : Type 0} (f : X → Y) (xs : List X) → length (map f xs) ≡ length xs
map_long f [] = refl
map_long f (x ∷ xs) = ap suc (map_long f xs)

module _ (s : Scopes) (ts : List Taken) (well : SettlesWell s ts) (sound : AreSound s.entered) where
  abbrev es : Entries
  es = s.entered

  abbrev made : code.Entered → Declaration
  made e = settled_declaration ts (code.Entered.declaration e)

  abbrev ds : List Declaration
  ds = map made es

  long : length ds ≡ length es
  long = map_long made es

  own_is : (k : ℕ) → Own es k → IsOwn ds k
  own_is k own = omega (arith, own, long)

  type_stays : (c : Class) → is_type (settled_class ts c) ≡ is_type c
  type_stays (class.ArrayType index element mark) = refl
  type_stays (class.Subtype mark) = refl
  type_stays (class.ActualFunction actual) = refl
  type_stays _ = refl

  class_in : (xs : Entries) (k : ℕ) (d : Declaration) → k < length xs → (slice_index_or (map made xs) k d).class ≡ settled_class ts (at xs k).class
  class_in [] k d h = absurd (omega (arith, h))
  class_in (x ∷ xs) zero d h = refl
  class_in (x ∷ xs) (suc k) d h = class_in xs k d (omega (arith, h))

  class_there : (xs : Entries) (k : ℕ) → k < length xs → class_at (map made xs) k ≡ settled_class ts (at xs k).class
  class_there [] k h = absurd (omega (arith, h))
  class_there (x ∷ xs) k h = class_in (x ∷ xs) k (made x) h

  type_is : (k : ℕ) → Typed es k → IsType ds k
  type_is k typed =
      let own = typed_own es k typed in
      record {
        own = own_is k own;
        is = ap is_type (class_there es k own) ∙ type_stays (at es k).class ∙ typed;
      }

  some_type : (k : Option ℕ) → OnSome (Typed es) k → OnSome (IsType ds) (settled_some ts k)
  some_type None typed = tt
  some_type (Some k) typed = type_is (settled ts k) (well.types k typed)

  all_own : (ks : List ℕ) → AllByRecursion (Own es) ks → All (IsOwn ds) (map (settled ts) ks)
  all_own ks own =
      by_index (IsOwn ds) (map (settled ts) ks) (all_map (settled ts) (Own es) (IsOwn ds) (λ k k_own. own_is (settled ts k) (well.own k k_own)) ks own)

  named_is : (c : Class) → AllByRecursion (Own es) (named_by c) → AllByRecursion (IsOwn ds) (named_by (settled_class ts c))
  named_is (class.ArrayType index element mark) own = (own_is (settled ts mark) (well.own mark own.0), tt)
  named_is (class.Subtype mark) own = (own_is (settled ts mark) (well.own mark own.0), tt)
  named_is (class.ActualFunction actual) own = (own_is (settled ts actual) (well.own actual own.0), tt)
  named_is (class.LibraryName library) own = (own_is library own.0, tt)
  named_is _ own = tt

  types_are : (c : Class) → AllByRecursion (Typed es) (types_of c) → AllByRecursion (IsType ds) (types_of (settled_class ts c))
  types_are (class.ArrayType index element mark) types =
      (type_is (settled ts index) (well.types index types.0), (type_is (settled ts element) (well.types element types.1.0), tt))
  types_are (class.Subtype mark) types = tt
  types_are (class.ActualFunction actual) types = tt
  types_are _ types = tt

  fine_is : (d : Declaration) → IsFine es d → IsAmong ds (settled_declaration ts d)
  fine_is d x = record {
    mark = some_type d.mark x.mark;
    parameters = all_own d.parameters x.parameters;
    generics = all_own d.generics x.generics;
    named = by_index (IsOwn ds) (named_by (settled_class ts d.class)) (named_is d.class x.named);
    types = by_index (IsType ds) (types_of (settled_class ts d.class)) (types_are d.class x.types);
  }

  each_in : (xs : Entries) → ((k : ℕ) → k < length xs → IsFine es (at xs k)) → AllByRecursion (IsAmong ds) (map made xs)
  each_in [] fine = tt
  each_in (x ∷ xs) fine = (fine_is (code.Entered.declaration x) (fine 0 (omega arith)), each_in xs (λ k h. fine (suc k) (omega (arith, h))))

  pub settled_among : All (IsAmong ds) ds
  settled_among = by_index (IsAmong ds) ds (each_in es (λ k h. sound.fine k))

  pub settled_marks : (t : Forest Resolved) → MarksAreTypes s t → MarksAreOf ds (with_forms (settled_node ts) t)
  settled_marks nothing are = tt
  settled_marks (more node text place parts next) are = (some_type node.mark are.0, settled_marks parts are.1, settled_marks next are.2)

pub names_almost : NamesAreAlmostResolved
names_almost r units arrays well =
    let o = names_of r units in
    let y = names_sound (given_scopes r) r units (given_sound r) arrays in
    let sound = entries_sound o.design.scopes y.0 in
    record {
      marks = settled_marks o.design.scopes o.design.taken well sound o.tree y.1;
      declarations = settled_among o.design.scopes o.design.taken well sound;
    }
