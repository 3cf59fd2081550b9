-- Declarations that are entered behind others: what named declarations and types goes on to do so.
use Rattle.std.proofs.Common.{◌≡◌, ◌<◌, ◌≤◌, ◌+◌, ◌-◌, ◌⊎◌, inl, inr, nat_lt, ℕ, zero, suc, Bool, true, false, List, [], ◌∷◌, ◌++◌, length, length-append, Option, Some, None, refl, sym, ap, ◌∙◌, subst, arith, slice_index_or, append_assoc, append-nil, ltb-true, ltb-false}
use Rattle.std.proofs.lemmas.List.{get_or_append_left, get_or-append-add}
use Rattle.std.proofs.lemmas.Bool.{false≢true}
use Rattle.std.specs.List.{AllByRecursion}
use Rattle.vd_declarations.specs.declared.declarations.Declaration.{Declaration}
use Rattle.vd_declarations.specs.Classes.{is_type, types_of, named_by}
use Rattle.vd_predefined.specs.declared.numbers.TheConstants.{BOOLEAN, INTEGER, TIME, STRING, SEVERITY_LEVEL}
use Rattle.vd_predefined.specs.Entries.{with_entry}
use Rattle.vd_regions.specs.declared.entries.Entered.{Entered}
use Rattle.vd_regions.specs.Scopes.{Scopes, nothing_entered, no_declaration}
use Rattle.vd_resolved.specs.Validity.{OnSome}
use Rattle.vd_naming_laws.specs.Numbers.{IsSound}
use Rattle.vd_naming_laws.proofs.Lists.{all_weaker}

abbrev pub Entries : Type 0
Entries = List Entered

abbrev pub at : Entries → ℕ → Declaration
at es k = (slice_index_or es k nothing_entered).declaration

abbrev pub Own : Entries → ℕ → Type 0
Own es k = k < length es

abbrev pub Typed : Entries → ℕ → Type 0
Typed es k = is_type (at es k).class ≡ true

-- it names what is declared
pub record IsFine (es : Entries) (d : Declaration) : Type 0 where
  pub mark : OnSome (Typed es) d.mark
  pub parameters : AllByRecursion (Own es) d.parameters
  pub generics : AllByRecursion (Own es) d.generics
  pub named : AllByRecursion (Own es) (named_by d.class)
  pub types : AllByRecursion (Typed es) (types_of d.class)

pub record AreSound (es : Entries) : Type 0 where
  pub fine : (k : ℕ) → IsFine es (at es k)
  pub boolean : Typed es BOOLEAN
  pub integer : Typed es INTEGER
  pub time : Typed es TIME
  pub string : Typed es STRING
  pub severity : Typed es SEVERITY_LEVEL

pub sound_scopes : (s : Scopes) → AreSound s.entered → IsSound s
sound_scopes s x = record {
  marks = λ k. (x.fine k).mark;
  parameters = λ k. (x.fine k).parameters;
  generics = λ k. (x.fine k).generics;
  named = λ k. (x.fine k).named;
  types = λ k. (x.fine k).types;
  boolean = x.boolean;
  integer = x.integer;
  time = x.time;
  string = x.string;
  severity = x.severity;
}

-- ---- growth

pub record Grows (es fs : Entries) : Type 0 where
  pub later : Entries
  pub same : fs ≡ es ++ later

pub grows_not : (es : Entries) → Grows es es
grows_not es = record { later = []; same = sym (append-nil es) }

pub grows_by : (es later : Entries) → Grows es (es ++ later)
grows_by es later = record { later = later; same = refl }

pub grows_both : {es fs gs : Entries} → Grows es fs → Grows fs gs → Grows es gs
grows_both {es} a b = record { later = a.later ++ b.later; same = b.same ∙ ap (λ xs. xs ++ b.later) a.same ∙ append_assoc es a.later b.later }

pub longer : {es fs : Entries} → Grows es fs → length es ≤ length fs
longer {es} g = let long = length-append es g.later in let same = ap (λ xs. length xs) g.same in omega (arith, long, same)

pub own_more : {es fs : Entries} → Grows es fs → (k : ℕ) → Own es k → Own fs k
own_more g k own = omega (arith, longer g, own)

-- ---- within, or behind

pub side : (k n : ℕ) (b : Bool) → nat_lt k n ≡ b → (k < n) ⊎ (n ≤ k)
side k n true h = inl (ltb-true k n h)
side k n false h = inr (ltb-false k n h)

pub behind : (es : Entries) (k : ℕ) → length es ≤ k → slice_index_or es k nothing_entered ≡ nothing_entered
behind [] k h = refl
behind (e ∷ es) zero h = absurd (omega (arith, h))
behind (e ∷ es) (suc k) h = behind es k (omega (arith, h))

pub typed_own : (es : Entries) (k : ℕ) → Typed es k → Own es k
typed_own es k t = elim (side k (length es) _ refl) [
  | inl own ↦ own
  | inr out ↦ absurd (false≢true (sym (ap (λ e. is_type e.declaration.class) (behind es k out)) ∙ t))
]

pub same_at : {es fs : Entries} → Grows es fs → (k : ℕ) → Own es k → at fs k ≡ at es k
same_at {es} g k own =
    ap (λ xs. at xs k) g.same ∙ ap (λ e. e.declaration) (get_or_append_left es g.later nothing_entered k own)

pub typed_more : {es fs : Entries} → Grows es fs → (k : ℕ) → Typed es k → Typed fs k
typed_more {es} g k t = ap (λ d. is_type d.class) (same_at g k (typed_own es k t)) ∙ t

pub own_some_more : {es fs : Entries} → Grows es fs → (k : Option ℕ) → OnSome (Own es) k → OnSome (Own fs) k
own_some_more g None own = tt
own_some_more g (Some k) own = own_more g k own

pub typed_some_more : {es fs : Entries} → Grows es fs → (k : Option ℕ) → OnSome (Typed es) k → OnSome (Typed fs) k
typed_some_more g None typed = tt
typed_some_more g (Some k) typed = typed_more g k typed

pub fine_more : {es fs : Entries} → Grows es fs → (d : Declaration) → IsFine es d → IsFine fs d
fine_more {es} {fs} g d x = record {
  mark = typed_some_more g d.mark x.mark;
  parameters = all_weaker (Own es) (Own fs) (own_more g) d.parameters x.parameters;
  generics = all_weaker (Own es) (Own fs) (own_more g) d.generics x.generics;
  named = all_weaker (Own es) (Own fs) (own_more g) (named_by d.class) x.named;
  types = all_weaker (Typed es) (Typed fs) (typed_more g) (types_of d.class) x.types;
}

-- ---- entries behind others

pub fine_none : (es : Entries) → IsFine es no_declaration
fine_none es = record { mark = tt; parameters = tt; generics = tt; named = tt; types = tt }

pub fine_at : (fs es : Entries) (k : ℕ) → AllByRecursion (λ e. IsFine fs e.declaration) es → IsFine fs (at es k)
fine_at fs [] k are = fine_none fs
fine_at fs (e ∷ es) zero are = are.0
fine_at fs (e ∷ es) (suc k) are = fine_at fs es k are.1

pub sound_more : {es : Entries} → AreSound es → (later : Entries) → AllByRecursion (λ e. IsFine (es ++ later) e.declaration) later → AreSound (es ++ later)
sound_more {es} x later are =
    let g = grows_by es later in
    record {
      fine = fine;
      boolean = typed_more g BOOLEAN x.boolean;
      integer = typed_more g INTEGER x.integer;
      time = typed_more g TIME x.time;
      string = typed_more g STRING x.string;
      severity = typed_more g SEVERITY_LEVEL x.severity;
    }
  where
    fine : (k : ℕ) → IsFine (es ++ later) (at (es ++ later) k)
    fine k = elim (side k (length es) _ refl) [
      | inl own ↦ subst (IsFine (es ++ later)) (sym (same_at (grows_by es later) k own)) (fine_more (grows_by es later) (at es k) (x.fine k))
      | inr out ↦
          let back : length es + (k - length es) ≡ k = omega (arith, out) in
          subst (IsFine (es ++ later)) (sym (ap (λ e. e.declaration) (get_or-append-add es later (k - length es) nothing_entered)) ∙ ap (at (es ++ later)) back)
          (fine_at (es ++ later) later (k - length es) are)
    ]

pub sound_same : {es fs : Entries} → es ≡ fs → AreSound es → AreSound fs
sound_same e x = subst AreSound e x

-- one more, which may name itself
pub entry_sound : (s : Scopes) (region : ℕ) (new : Declaration) → AreSound s.entered → IsFine s.entered new → AreSound (with_entry s region new).entered
entry_sound s region new x is =
    let g = grows_by s.entered (record { region = region; declaration = new } ∷ []) in
    sound_more x (record { region = region; declaration = new } ∷ []) (fine_more g new is, tt)

pub new_at : (s : Scopes) (region : ℕ) (new : Declaration) → at (with_entry s region new).entered (length s.entered) ≡ new
new_at s region new =
    ap (λ k. at (with_entry s region new).entered k) (omega arith)
    ∙ ap (λ e. e.declaration) (get_or-append-add s.entered (record { region = region; declaration = new } ∷ []) 0 nothing_entered)

pub new_own : (s : Scopes) (region : ℕ) (new : Declaration) → Own (with_entry s region new).entered (length s.entered)
new_own s region new = let long = length-append s.entered (record { region = region; declaration = new } ∷ []) in omega (arith, long)

pub entry_grows : (s : Scopes) (region : ℕ) (new : Declaration) → Grows s.entered (with_entry s region new).entered
entry_grows s region new = grows_by s.entered (record { region = region; declaration = new } ∷ [])
