-- The laws.
use Rattle.std.proofs.Common.{◌≡◌, ◌&&◌, nat_lt, ℕ, Bool, true, false, List, [], ◌∷◌, length, Option, Some, None, refl, arith, ltb-true}
use Rattle.std.proofs.lemmas.Bool.{and_parts, false≢true}
use Rattle.std.specs.List.{AllByRecursion, list_all}
use Rattle.vd_declarations.specs.Classes.{is_type, types_of, named_by}
use Rattle.vd_declarations.specs.declared.declarations.Declaration.{Declaration}
use Rattle.vd_forest.specs.Forest.{Forest, nothing, more}
use Rattle.vd_predefined.specs.Given.{given_scopes}
use Rattle.vd_predefined.specs.Table.{standard_types, standard_operators, logic_types, logic_operators}
use Rattle.vd_regions.specs.declared.entries.Entered as code
use Rattle.vd_regions.specs.Scopes.{Scopes}
use Rattle.vd_resolved.specs.Validity.{OnSome}
use Rattle.vd_resolved.specs.declared.node.Resolved.{Resolved}
use Rattle.vd_trees.specs.declared.revision.Revision.TheVariants.{V2019, V1993}
use Rattle.vd_name_rows.specs.Designs.{begin_design}
use Rattle.vd_naming.specs.Naming.{begin, names_from}
use Rattle.vd_naming_laws.specs.Numbers.{IsSound, MarksAreTypes}
use Rattle.vd_naming_laws.specs.NumberLaws.{GivenAreSound, NamesOnlyAppend, NamesStaySound}
use Rattle.vd_naming_laws.proofs.Growth.{Entries, at, Own, Typed, IsFine, AreSound, sound_scopes, fine_at, grows_not}
use Rattle.vd_naming_laws.proofs.Appending.{walk_appends}
use Rattle.vd_naming_laws.proofs.States.{TreeIs}
use Rattle.vd_naming_laws.proofs.Walking.{walk_goes}

-- ---- what is given, computed

abbrev own_holds : Entries → ℕ → Bool
own_holds es k = nat_lt k (length es)

abbrev typed_holds : Entries → ℕ → Bool
typed_holds es k = is_type (at es k).class

abbrev some_holds : (ℕ → Bool) → Option ℕ → Bool
some_holds test None = true
some_holds test (Some k) = test k

abbrev fine_holds : Entries → Declaration → Bool
fine_holds es d =
    some_holds (typed_holds es) d.mark
    && (list_all (own_holds es) d.parameters && (list_all (own_holds es) d.generics && (list_all (own_holds es) (named_by d.class) && list_all (typed_holds es) (types_of d.class))))

abbrev all_hold : Entries → Bool
all_hold es = list_all (λ e. fine_holds es (code.Entered.declaration e)) es

some_is : (es : Entries) (k : Option ℕ) → some_holds (typed_holds es) k ≡ true → OnSome (Typed es) k
some_is es None h = tt
some_is es (Some k) h = h

all_own : (es : Entries) (ks : List ℕ) → list_all (own_holds es) ks ≡ true → AllByRecursion (Own es) ks
all_own es [] h = tt
all_own es (k ∷ ks) h = let a = and_parts (own_holds es k) (list_all (own_holds es) ks) h in (ltb-true k (length es) a.0, all_own es ks a.1)

all_typed : (es : Entries) (ks : List ℕ) → list_all (typed_holds es) ks ≡ true → AllByRecursion (Typed es) ks
all_typed es [] h = tt
all_typed es (k ∷ ks) h = let a = and_parts (typed_holds es k) (list_all (typed_holds es) ks) h in (a.0, all_typed es ks a.1)

fine_is : (es : Entries) (d : Declaration) → fine_holds es d ≡ true → IsFine es d
fine_is es d h =
    let a = and_parts (some_holds (typed_holds es) d.mark) _ h in
    let b = and_parts (list_all (own_holds es) d.parameters) _ a.1 in
    let c = and_parts (list_all (own_holds es) d.generics) _ b.1 in
    let e = and_parts (list_all (own_holds es) (named_by d.class)) (list_all (typed_holds es) (types_of d.class)) c.1 in
    record {
      mark = some_is es d.mark a.0;
      parameters = all_own es d.parameters b.0;
      generics = all_own es d.generics c.0;
      named = all_own es (named_by d.class) e.0;
      types = all_typed es (types_of d.class) e.1;
    }

all_fine : (es xs : Entries) → list_all (λ e. fine_holds es (code.Entered.declaration e)) xs ≡ true → AllByRecursion (λ e. IsFine es (code.Entered.declaration e)) xs
all_fine es [] h = tt
all_fine es (x ∷ xs) h =
    let a = and_parts (fine_holds es (code.Entered.declaration x)) (list_all (λ e. fine_holds es (code.Entered.declaration e)) xs) h in
    (fine_is es (code.Entered.declaration x) a.0, all_fine es xs a.1)

held_2019 : all_hold (given_scopes V2019).entered ≡ true
unfolding standard_types standard_operators logic_types logic_operators
held_2019 = refl

held_1993 : all_hold (given_scopes V1993).entered ≡ true
unfolding standard_types standard_operators logic_types logic_operators
held_1993 = refl

sound_2019 : AreSound (given_scopes V2019).entered
unfolding standard_types standard_operators logic_types logic_operators
sound_2019 = record {
  fine = λ k. fine_at (given_scopes V2019).entered (given_scopes V2019).entered k (all_fine (given_scopes V2019).entered (given_scopes V2019).entered held_2019);
  boolean = refl;
  integer = refl;
  time = refl;
  string = refl;
  severity = refl;
}

sound_1993 : AreSound (given_scopes V1993).entered
unfolding standard_types standard_operators logic_types logic_operators
sound_1993 = record {
  fine = λ k. fine_at (given_scopes V1993).entered (given_scopes V1993).entered k (all_fine (given_scopes V1993).entered (given_scopes V1993).entered held_1993);
  boolean = refl;
  integer = refl;
  time = refl;
  string = refl;
  severity = refl;
}

pub given_sound : GivenAreSound
given_sound V2019 = sound_scopes (given_scopes V2019) sound_2019
given_sound V1993 = sound_scopes (given_scopes V1993) sound_1993

-- ---- names

pub names_append : NamesOnlyAppend
names_append s r units = let g = walk_appends units units (begin r) (begin_design s) in record { later = g.later; same = g.same }

pub entries_sound : (s : Scopes) → IsSound s → AreSound s.entered
entries_sound s x = record {
  fine = λ k. record { mark = x.marks k; parameters = x.parameters k; generics = x.generics k; named = x.named k; types = x.types k };
  boolean = x.boolean;
  integer = x.integer;
  time = x.time;
  string = x.string;
  severity = x.severity;
}

marks_are : (b : Bool) (n : ℕ) (s : Scopes) (t : Forest Resolved) → TreeIs b n s.entered t → MarksAreTypes s t
marks_are b n s nothing is = tt
marks_are b n s (more node text place parts next) is = (is.1, marks_are b n s parts is.2, marks_are b n s next is.3)

pub names_sound : NamesStaySound
names_sound s r units sound arrays =
    let o = names_from s r units in
    let start = entries_sound s sound in
    let y = walk_goes units o.design.scopes.entered arrays units (begin r) (begin_design s) (record { sound = start; spans = tt })
    (record { named = tt; mark = tt; selector = tt; result = tt; viewed = tt; actuals = tt; header_end = omega arith; function = tt })
    (record { left_ok = refl; others_ok = refl }) (grows_not o.design.scopes.entered) in (
      sound_scopes o.design.scopes y.design.sound,
      marks_are false (length o.design.scopes.entered) o.design.scopes o.tree (y.tree (length o.design.scopes.entered) (omega arith) (λ t. absurd (false≢true t))),
    )
