-- The first declaration of a region beside which a new one may not stand, as the tables give it.
use Rattle.std.proofs.Common.{◌≡◌, inl, inr, ℕ, zero, suc, Bool, true, false, ◌&&◌, ◌||◌, not, List, [], ◌∷◌, length, get_or, if◌then◌else◌, Option, Some, None, refl, sym, ap, ◌∙◌, true≢false}
use Rattle.std.specs.Bool.{beq}
use Rattle.std.specs.Option.{option_or}
use Rattle.std.proofs.lemmas.Bool.{cases_Bool, and_parts}
use Rattle.vd_declarations.specs.declared.classes.Class.{Class}
use Rattle.vd_declarations.specs.declared.classes.Class.TheVariants as class
use Rattle.vd_declarations.specs.declared.declarations.Declaration.{Declaration}
use Rattle.vd_declarations.specs.Classes.{is_overloadable, is_function, is_predefined, is_copy, library_of}
use Rattle.vd_regions.specs.declared.entries.Entered.{Entered}
use Rattle.vd_region_tables.specs.declared.keys.Sort.{Sort}
use Rattle.vd_regions.specs.Scopes.{Scopes, nothing_entered, stands_in}
use Rattle.vd_regions.specs.Homographs.{are_one, same_types, same_profile}
use Rattle.vd_regions.specs.Found.{entered_below, clashes_in, first_in, earlier}
use Rattle.vd_regions.specs.Links.{first_below}
use Rattle.vd_regions.specs.Indexes.{profile_among, has_sort, IsSortOf, stands_alone_in, first_by_sorts}
use Rattle.vd_regions.proofs.HomographLemmas.{first_either, first_same}
use Rattle.vd_regions.proofs.IndexLemmas.{beq_is}
use Rattle.vd_regions.proofs.LinkLemmas.{option_or_none, position_below}

-- ---- one by one

-- the last that passes a test
abbrev pub last_of : (ℕ → Bool) → List ℕ → Option ℕ
last_of p [] = None
last_of p (k ∷ ks) = option_or (last_of p ks) (if p k then Some k else None)

-- the declarations of a table stand newest first, so that the last one is the first that was entered
pub last_is_first : (table test : Entered → Bool) (es : List Entered) (n : ℕ)
    → last_of (λ k. test (get_or es k nothing_entered)) (entered_below table es n) ≡ first_below (λ e. table e && test e) es n
last_is_first table test es zero = refl
last_is_first table test es (suc n) = elim (cases_Bool (table (get_or es n nothing_entered))) [
  | inl t ↦
      ap (λ b. last_of (λ k. test (get_or es k nothing_entered)) (if b then n ∷ entered_below table es n else entered_below table es n)) t
      ∙ ap (λ o. option_or o (if test (get_or es n nothing_entered) then Some n else None)) (last_is_first table test es n)
      ∙ sym (ap (λ b. option_or (first_below (λ e. table e && test e) es n) (if b && test (get_or es n nothing_entered) then Some n else None)) t)
  | inr f ↦
      ap (λ b. last_of (λ k. test (get_or es k nothing_entered)) (if b then n ∷ entered_below table es n else entered_below table es n)) f
      ∙ last_is_first table test es n
      ∙ sym (ap (λ b. option_or (first_below (λ e. table e && test e) es n) (if b && test (get_or es n nothing_entered) then Some n else None)) f
      ∙ option_or_none (first_below (λ e. table e && test e) es n))
]

-- ---- kinds

plain_operator : (c : Class) → is_overloadable c ≡ false → is_predefined c ≡ false
plain_operator class.PredefinedOperator o = absurd (true≢false o)
plain_operator _ o = refl

plain_copy : (c : Class) → is_overloadable c ≡ false → is_copy c ≡ false
plain_copy class.InstanceFunction o = absurd (true≢false o)
plain_copy (class.ActualFunction actual) o = absurd (true≢false o)
plain_copy _ o = refl

plain_function : (c : Class) → is_overloadable c ≡ false → is_function c ≡ false
plain_function class.Function o = absurd (true≢false o)
plain_function class.UninstantiatedFunction o = absurd (true≢false o)
plain_function class.GenericFunction o = absurd (true≢false o)
plain_function class.InstanceFunction o = absurd (true≢false o)
plain_function (class.ActualFunction actual) o = absurd (true≢false o)
plain_function _ o = refl

no_copied_operator : (c : Class) → (is_predefined c && is_copy c) ≡ false
no_copied_operator class.PredefinedOperator = refl
no_copied_operator _ = refl

-- ---- tests on truth values, at each of them

each : (Bool → Bool) → Bool
each f = f true && f false

each_at : (f : Bool → Bool) → each f ≡ true → (b : Bool) → f b ≡ true
unfolding each
each_at f all true = (and_parts (f true) (f false) all).0
each_at f all false = (and_parts (f true) (f false) all).1

-- whether a new overloadable declaration clashes: it is a function or not, and a copy or not; the other stands in the table or not, is
-- overloadable or not, an operator or not, and a copy or not; and their profiles are the same or not
clash : (function copy stands over operator copied same : Bool) → Bool
clash function copy stands over operator copied same =
    stands && not ((over && (true && not same)) || ((function && operator) || ((copy && copied) || false)))

-- the same by the tables
by_tables : (function copy stands over operator copied same : Bool) → Bool
by_tables function copy stands over operator copied same =
    (stands && not over)
    || ((stands && (over && (beq operator false && (beq copied false && same))))
    || ((not function && (stands && (over && (beq operator true && (beq copied false && same)))))
    || (not copy && (stands && (over && (beq operator false && (beq copied true && same)))))))

-- operators and copies are overloadable, and none is both
possible : (over operator copied : Bool) → Bool
possible over operator copied = (over || (not operator && not copied)) && not (operator && copied)

all_agree : each (λ f. each (λ c. each (λ st. each (λ o. each (λ op. each (λ cp. each (λ sm.
    not (possible o op cp) || beq (clash f c st o op cp sm) (by_tables f c st o op cp sm)))))))) ≡ true
unfolding each clash by_tables possible
all_agree = refl

agree : (f c st o op cp sm : Bool) → possible o op cp ≡ true → clash f c st o op cp sm ≡ by_tables f c st o op cp sm
agree f c st o op cp sm fits =
    beq_is (clash f c st o op cp sm) (by_tables f c st o op cp sm)
    (sym (ap (λ b. not b || beq (clash f c st o op cp sm) (by_tables f c st o op cp sm)) fits)
    ∙ each_at (λ sm. not (possible o op cp) || beq (clash f c st o op cp sm) (by_tables f c st o op cp sm))
    (each_at (λ cp. each (λ sm. not (possible o op cp) || beq (clash f c st o op cp sm) (by_tables f c st o op cp sm)))
    (each_at (λ op. each (λ cp. each (λ sm. not (possible o op cp) || beq (clash f c st o op cp sm) (by_tables f c st o op cp sm))))
    (each_at (λ o. each (λ op. each (λ cp. each (λ sm. not (possible o op cp) || beq (clash f c st o op cp sm) (by_tables f c st o op cp sm)))))
    (each_at (λ st. each (λ o. each (λ op. each (λ cp. each (λ sm. not (possible o op cp) || beq (clash f c st o op cp sm) (by_tables f c st o op cp sm))))))
    (each_at (λ c. each (λ st. each (λ o. each (λ op. each (λ cp. each (λ sm. not (possible o op cp) || beq (clash f c st o op cp sm) (by_tables f c st o op cp sm)))))))
    (each_at (λ f. each (λ c. each (λ st. each (λ o. each (λ op. each (λ cp. each (λ sm. not (possible o op cp) || beq (clash f c st o op cp sm) (by_tables f c st o op cp sm))))))))
    all_agree f) c) st) o) op) cp) sm)

class_is_possible : (c : Class) → possible (is_overloadable c) (is_predefined c) (is_copy c) ≡ true
unfolding possible
class_is_possible c = elim (cases_Bool (is_overloadable c)) [
  | inl over ↦ rw (over, no_copied_operator c) refl
  | inr plain ↦ rw (plain, plain_operator c plain, plain_copy c plain) refl
]

no_library : (c : Class) → is_overloadable c ≡ true → library_of c ≡ None
no_library (class.LibraryName library) o = absurd (true≢false (sym o))
no_library _ o = refl

-- ---- the first

first_when : (b : Bool) (p : Entered → Bool) (es : List Entered) (n : ℕ) → first_below (λ e. b && p e) es n ≡ (if b then first_below p es n else None)
first_when true p es n = refl
first_when false p es zero = refl
first_when false p es (suc n) = ap (λ o. option_or o None) (first_when false p es n)

module _ (s : Scopes) (region : ℕ) (new : Declaration) where
  plain : (st o x p c : Bool) → (st && not ((o && (false && x)) || ((false && p) || ((false && c) || false)))) ≡ st
  plain true true x p c = refl
  plain true false x p c = refl
  plain false o x p c = refl

  -- a declaration that is not overloadable clashes with each of its name
  pub first_of_plain : is_overloadable new.class ≡ false → library_of new.class ≡ None
      → first_in s region new ≡ first_below (stands_in region new.name) s.entered (length s.entered)
  first_of_plain other none =
      position_below (clashes_in s region new) s.entered
      ∙ first_same (clashes_in s region new) (stands_in region new.name)
      (λ e.
      ap (λ b. stands_in region new.name e && not ((is_overloadable e.declaration.class && (b && not (same_profile s e.declaration new)))
      || ((is_function new.class && is_predefined e.declaration.class) || ((is_copy new.class && is_copy e.declaration.class)
      || are_one (library_of new.class) (library_of e.declaration.class))))) other
      ∙ ap (λ b. stands_in region new.name e && not ((is_overloadable e.declaration.class && (false && not (same_profile s e.declaration new)))
      || ((b && is_predefined e.declaration.class) || ((is_copy new.class && is_copy e.declaration.class)
      || are_one (library_of new.class) (library_of e.declaration.class))))) (plain_function new.class other)
      ∙ ap (λ b. stands_in region new.name e && not ((is_overloadable e.declaration.class && (false && not (same_profile s e.declaration new)))
      || ((false && is_predefined e.declaration.class) || ((b && is_copy e.declaration.class)
      || are_one (library_of new.class) (library_of e.declaration.class))))) (plain_copy new.class other)
      ∙ ap (λ l. stands_in region new.name e && not ((is_overloadable e.declaration.class && (false && not (same_profile s e.declaration new)))
      || ((false && is_predefined e.declaration.class) || ((false && is_copy e.declaration.class)
      || are_one l (library_of e.declaration.class))))) none
      ∙ plain (stands_in region new.name e) (is_overloadable e.declaration.class) (not (same_profile s e.declaration new))
      (is_predefined e.declaration.class) (is_copy e.declaration.class))
      s.entered (length s.entered)

  -- what a test of a declaration says that is overloadable
  tested : (region : ℕ) (name : List ℕ) (profile : List (Option ℕ)) → Entered → Bool
  tested region name profile e =
      clash (is_function new.class) (is_copy new.class) (stands_in region name e) (is_overloadable e.declaration.class)
      (is_predefined e.declaration.class) (is_copy e.declaration.class) (same_types (profile_among s.entered e.declaration) profile)

  -- an overloadable one clashes with what is not, and with one of its profile, of three kinds
  pub first_by_tables : (sort : Sort) → IsSortOf s.entered region new sort → is_overloadable new.class ≡ true
      → first_in s region new
      ≡ earlier (first_below (stands_alone_in region new.name) s.entered (length s.entered)) (first_by_sorts s.entered sort (is_function new.class) (is_copy new.class))
  unfolding tested clash by_tables
  first_by_tables sort is over =
      let es = s.entered in
      let n = length s.entered in
      let f = is_function new.class in
      let c = is_copy new.class in
      let alone : Entered → Bool = stands_alone_in sort.region sort.name.items in
      let written : Entered → Bool = has_sort s.entered (record sort { predefined = false; copy = false }) in
      let operators : Entered → Bool = has_sort s.entered (record sort { predefined = true; copy = false }) in
      let copies : Entered → Bool = has_sort s.entered (record sort { predefined = false; copy = true }) in
      position_below (clashes_in s region new) s.entered
      ∙ first_same (clashes_in s region new) (λ e. alone e || (written e || ((not f && operators e) || (not c && copies e))))
      (λ e.
      ap (λ b. stands_in region new.name e && not ((is_overloadable e.declaration.class && (b && not (same_profile s e.declaration new)))
      || ((is_function new.class && is_predefined e.declaration.class) || ((is_copy new.class && is_copy e.declaration.class)
      || are_one (library_of new.class) (library_of e.declaration.class))))) over
      ∙ ap (λ l. stands_in region new.name e && not ((is_overloadable e.declaration.class && (true && not (same_profile s e.declaration new)))
      || ((is_function new.class && is_predefined e.declaration.class) || ((is_copy new.class && is_copy e.declaration.class)
      || are_one l (library_of e.declaration.class))))) (no_library new.class over)
      ∙ ap (λ r. tested r new.name (profile_among s.entered new) e) (sym is.in_region)
      ∙ ap (λ name. tested sort.region name (profile_among s.entered new) e) (sym is.named)
      ∙ ap (λ ts. tested sort.region sort.name.items ts e) (sym is.typed)
      ∙ agree (is_function new.class) (is_copy new.class) (stands_in sort.region sort.name.items e) (is_overloadable e.declaration.class)
      (is_predefined e.declaration.class) (is_copy e.declaration.class) (same_types (profile_among s.entered e.declaration) sort.profile.items)
      (class_is_possible e.declaration.class))
      es n
      ∙ first_either alone (λ e. written e || ((not f && operators e) || (not c && copies e))) es n
      ∙ ap (earlier (first_below alone es n)) (first_either written (λ e. (not f && operators e) || (not c && copies e)) es n
      ∙ ap (earlier (first_below written es n)) (first_either (λ e. not f && operators e) (λ e. not c && copies e) es n
      ∙ ap (λ o. earlier o (first_below (λ e. not c && copies e) es n)) (first_when (not f) operators es n)
      ∙ ap (earlier (if not f then first_below operators es n else None)) (first_when (not c) copies es n)))
      ∙ ap (λ r. earlier (first_below (stands_alone_in r sort.name.items) es n) (first_by_sorts s.entered sort (is_function new.class) (is_copy new.class))) is.in_region
      ∙ ap (λ name. earlier (first_below (stands_alone_in region name) es n) (first_by_sorts s.entered sort (is_function new.class) (is_copy new.class))) is.named
