-- What an instance declares again names what is declared.
use Rattle.std.proofs.Common.{◌≡◌, ◌⊎◌, inl, inr, ◌<◌, ◌≤◌, ◌+◌, ◌-◌, ◌==◌, nat_lt, ℕ, zero, suc, Bool, true, false, List, [], ◌∷◌, ◌++◌, drop, length, length-append, length-take, length-drop, Option, Some, None, option_map, refl, sym, ap, ◌∙◌, subst, arith, if◌then◌else◌, ltb-true, ltb-false}
use Rattle.std.proofs.lemmas.List.{get_or-take, get_or-drop, get_or-append-add}
use Rattle.std.specs.List.{AllByRecursion}
use Rattle.std.specs.Option.{unwrap_or}
use Rattle.vd_declarations.specs.Classes.{is_type, types_of, named_by}
use Rattle.vd_declarations.specs.declared.classes.Class.{Class}
use Rattle.vd_declarations.specs.declared.classes.Class.TheVariants as class
use Rattle.vd_declarations.specs.declared.declarations.Declaration.{Declaration}
use Rattle.vd_regions.specs.Scopes.{nothing_entered}
use Rattle.vd_regions.specs.declared.entries.Entered as code
use Rattle.vd_resolved.specs.Validity.{OnSome}
use Rattle.vd_name_rows.specs.declared.at.Actual.{Actual}
use Rattle.vd_name_rows.specs.declared.notes.Span.{Span}
use Rattle.vd_name_rows.specs.Designs.{At, Design, note_at, with_note, with_scopes, standpoint, sight}
use Rattle.vd_naming.specs.Associations.{is_among_numbers}
use Rattle.vd_naming.specs.Actuals.{actual_of, type_in}
use Rattle.vd_naming.specs.Expressions.{type_declared}
use Rattle.vd_naming.specs.Functions.{as_in}
use Rattle.vd_naming.specs.Copies.{Copying, copying, number_of_copy, number_behind, numbers_of_copies, type_of_copy, function_of_copy, is_own_generic, class_of_generic, class_of_other, class_of_copy, declaration_of_copy, entries_of_copies, span_of_copy, note_of_copy, with_noted_copies, some_of, scopes_with_copies, with_copies}
use Rattle.vd_naming_laws.proofs.Lists.{OnOption, all_map, all_weaker}
use Rattle.vd_naming_laws.proofs.Growth.{Entries, at as entry_at, Own, Typed, IsFine, AreSound, Grows, grows_by, own_more, typed_more, typed_some_more, sound_more}
use Rattle.vd_naming_laws.proofs.Entering.{Entered}
use Rattle.vd_naming_laws.proofs.Paths.{type_is}
use Rattle.vd_naming_laws.proofs.States.{DesignIs, note_is, noted, entries, point_sound}

-- ---- numbers

pub as_in_cases : (P : ℕ → Type 0) (first end other n : ℕ) → ((n < first) ⊎ (end ≤ n) → P n) → (first ≤ n → n < end → P ((n - first) + other)) → P (as_in first end other n)
as_in_cases P first end other n out within = by_first (nat_lt n first) refl
  where
    by_end : (c : Bool) → nat_lt n end ≡ c → first ≤ n → P (if c then (n - first) + other else n)
    by_end true e h = within h (ltb-true n end e)
    by_end false e h = out (inr (ltb-false n end e))

    by_first : (c : Bool) → nat_lt n first ≡ c → P (if c then n else (if nat_lt n end then (n - first) + other else n))
    by_first true e = out (inl (ltb-true n first e))
    by_first false e = by_end (nat_lt n end) refl (ltb-false n first e)

-- ---- classes

other_is_type : (c : Copying) (original : Class) → is_type (class_of_other c original) ≡ is_type original
other_is_type c class.Function = refl
other_is_type c (class.ArrayType index element mark) = refl
other_is_type c (class.Subtype mark) = refl
other_is_type c (class.ActualFunction actual) = refl
other_is_type c _ = refl

copy_at : (c : Copying) (n : ℕ) (xs : Entries) (j : ℕ) → j < length xs
    → entry_at (entries_of_copies c n xs) j ≡ declaration_of_copy c (n + j) (entry_at xs j)
copy_at c n [] j h = absurd (omega (arith, h))
copy_at c n (e ∷ es) zero h = ap (λ m. declaration_of_copy c m e.declaration) (omega arith)
copy_at c n (e ∷ es) (suc j) h = copy_at c (suc n) es j (omega (arith, h)) ∙ ap (λ m. declaration_of_copy c m (entry_at es j)) (omega arith)

copies_long : (c : Copying) (n : ℕ) (xs : Entries) → length (entries_of_copies c n xs) ≡ length xs
copies_long c n [] = refl
copies_long c n (e ∷ es) = ap suc (copies_long c (suc n) es)

some_long : (first end : ℕ) (es : Entries) → end ≤ length es → length (some_of first end es) ≡ end - first
some_long first end es h =
    let a = length-take (end - first) (drop first es) in
    let b = length-drop first es in
    omega (arith, a, b, h)

some_at : (first end : ℕ) (es : Entries) (j : ℕ) → j < end - first → entry_at (some_of first end es) j ≡ entry_at es (first + j)
some_at first end es j h =
    ap (λ e. e.declaration) (get_or-take (end - first) (drop first es) j nothing_entered h ∙ get_or-drop first es j nothing_entered)

pub record ClassIs (fs : Entries) (x : Class) : Type 0 where
  pub named : AllByRecursion (Own fs) (named_by x)
  pub types : AllByRecursion (Typed fs) (types_of x)

-- ---- an instance

module _ (at : At) (d : Design) (is : DesignIs d) (n outer : ℕ) (actuals : List Actual) (own_actuals : AllByRecursion (λ a. Own (entries d) (Actual.actual a)) actuals)
    (named : Own (entries d) n) where
  abbrev es : Entries
  es = entries d

  abbrev pub c : Copying
  c = copying n outer (sight at d) actuals d

  span_within : c.span.end ≤ length es
  span_within = within _ (note_is d n is.spans)
    where
      within : (x : Option Span) → OnOption (λ y. Span.end y ≤ n) x → (unwrap_or x (record { first = 0; end = 0; first_region = 0; end_region = 0 })).end ≤ length es
      within None h = omega arith
      within (Some y) h = omega (arith, h, named)

  abbrev later : Entries
  later = entries_of_copies c c.span.first (some_of c.span.first c.span.end es)

  abbrev fs : Entries
  fs = es ++ later

  later_long : length later ≡ c.span.end - c.span.first
  later_long = copies_long c c.span.first (some_of c.span.first c.span.end es) ∙ some_long c.span.first c.span.end es span_within

  all_long : length fs ≡ length es + (c.span.end - c.span.first)
  all_long = length-append es later ∙ ap (λ m. length es + m) later_long

  g : Grows es fs
  g = grows_by es later

  copy_own : (k : ℕ) → Own es k → Own fs (number_of_copy c k)
  copy_own k own =
      as_in_cases (Own fs) c.span.first c.span.end c.first k (λ out. own_more g k own) (λ low high. let long = all_long in omega (arith, low, high, long))

  -- the actual of a generic
  own_if : (e : Bool) (x y : Option ℕ) → OnSome (Own es) x → OnSome (Own es) y → OnSome (Own es) (if e then x else y)
  own_if true x y p q = p
  own_if false x y p q = q

  actual_own : (k : ℕ) (given : List Actual) → AllByRecursion (λ a. Own es (Actual.actual a)) given → OnSome (Own es) (actual_of k given)
  actual_own k [] own = tt
  actual_own k (a ∷ given) own = own_if (a.generic == k) (Some a.actual) (actual_of k given) own.0 (actual_own k given own.1)

  or_own : (k : ℕ) (x : Option ℕ) → OnSome (Own es) x → Own es k → Own es (unwrap_or x k)
  or_own k None x own = own
  or_own k (Some j) x own = x

  type_in_is : (t : ℕ) → Typed es t → OnSome (Typed es) (type_in c.known t)
  type_in_is t typed = typed_if (is_among_numbers c.known.generics t)
    where
      typed_if : (e : Bool) → OnSome (Typed es) (if e then type_declared c.known.sight (actual_of t c.known.types) else Some t)
      typed_if true = type_is (standpoint at d) (point_sound at d is) (actual_of t actuals)
      typed_if false = typed

  or_typed : (t : ℕ) (x : Option ℕ) → OnSome (Typed es) x → Typed es t → Typed fs (unwrap_or x t)
  or_typed t None x typed = typed_more g t typed
  or_typed t (Some u) x typed = typed_more g u x

  -- a copy of a type that is no generic of the instance is a type
  copied_class : (k : ℕ) (original : Declaration) → is_own_generic c k ≡ false → is_type original.class ≡ true → is_type (declaration_of_copy c k original).class ≡ true
  copied_class k original none typed =
      ap (λ e. is_type (if e then class_of_generic c k original.class else class_of_other c original.class)) none ∙ other_is_type c original.class ∙ typed

  copy_typed : (t : ℕ) → Typed es t → is_own_generic c t ≡ false → Typed fs (number_of_copy c t)
  copy_typed t typed none =
      as_in_cases (Typed fs) c.span.first c.span.end c.first t (λ out. typed_more g t typed)
      (λ low high.
      let j = t - c.span.first in
      let short : j < c.span.end - c.span.first = omega (arith, low, high) in
      let within : j < length (some_of c.span.first c.span.end es) = let long = some_long c.span.first c.span.end es span_within in omega (arith, short, long) in
      let back : c.span.first + j ≡ t = omega (arith, low) in
      let there : entry_at fs (length es + j) ≡ declaration_of_copy c (c.span.first + j) (entry_at (some_of c.span.first c.span.end es) j) =
      ap (λ e. e.declaration) (get_or-append-add es later j nothing_entered) ∙ copy_at c c.span.first (some_of c.span.first c.span.end es) j within in
      let from : entry_at (some_of c.span.first c.span.end es) j ≡ entry_at es t = some_at c.span.first c.span.end es j short ∙ ap (entry_at es) back in
      let whole : entry_at fs (j + c.first) ≡ declaration_of_copy c t (entry_at es t) =
      ap (entry_at fs) (omega arith) ∙ there ∙ ap (λ m. declaration_of_copy c m (entry_at (some_of c.span.first c.span.end es) j)) back ∙ ap (declaration_of_copy c t) from in
      ap (λ q. is_type q.class) whole ∙ copied_class t (entry_at es t) none typed)

  type_copy_typed : (t : ℕ) → Typed es t → Typed fs (type_of_copy c t)
  type_copy_typed t typed = typed_if (is_among_numbers c.generic.generics t) refl
    where
      typed_if : (e : Bool) → is_among_numbers c.generic.generics t ≡ e → Typed fs (if e then unwrap_or (type_in c.known t) t else number_of_copy c t)
      typed_if true h = or_typed t (type_in c.known t) (type_in_is t typed) typed
      typed_if false h = copy_typed t typed h

  pub some_copy_typed : (t : Option ℕ) → OnSome (Typed es) t → OnSome (Typed fs) (option_map (type_of_copy c) t)
  some_copy_typed None typed = tt
  some_copy_typed (Some t) typed = type_copy_typed t typed

  function_copy_own : (f : ℕ) → Own es f → Own fs (function_of_copy c f)
  function_copy_own f own = copied_if (is_among_numbers c.generic.generics f)
    where
      copied_if : (e : Bool) → Own fs (if e then unwrap_or (actual_of f c.actuals) f else number_of_copy c f)
      copied_if true = own_more g (unwrap_or (actual_of f actuals) f) (or_own f (actual_of f actuals) (actual_own f actuals own_actuals) own)
      copied_if false = copy_own f own

  pub copies_own : (ks : List ℕ) → AllByRecursion (Own es) ks → AllByRecursion (Own fs) (numbers_of_copies c ks)
  copies_own ks own = all_map (number_of_copy c) (Own es) (Own fs) copy_own ks own

  generic_class : (k : ℕ) (x : Class) → Own es k → AllByRecursion (Own es) (named_by x) → AllByRecursion (Typed es) (types_of x) → ClassIs fs (class_of_generic c k x)
  generic_class k class.GenericType own named types =
      record { named = (own_more g (unwrap_or (actual_of k actuals) k) (or_own k (actual_of k actuals) (actual_own k actuals own_actuals) own), tt); types = tt }
  generic_class k class.GenericFunction own named types =
      record { named = (own_more g (unwrap_or (actual_of k actuals) k) (or_own k (actual_of k actuals) (actual_own k actuals own_actuals) own), tt); types = tt }
  generic_class k x own named types = record { named = all_weaker (Own es) (Own fs) (own_more g) (named_by x) named; types = all_weaker (Typed es) (Typed fs) (typed_more g) (types_of x) types }

  other_class : (x : Class) → AllByRecursion (Own es) (named_by x) → AllByRecursion (Typed es) (types_of x) → ClassIs fs (class_of_other c x)
  other_class class.Function named types = record { named = tt; types = tt }
  other_class (class.ArrayType index element mark) named types =
      record { named = (copy_own mark named.0, tt); types = (type_copy_typed index types.0, (type_copy_typed element types.1.0, tt)) }
  other_class (class.Subtype mark) named types = record { named = (copy_own mark named.0, tt); types = tt }
  other_class (class.ActualFunction actual) named types = record { named = (function_copy_own actual named.0, tt); types = tt }
  other_class x named types = record { named = all_weaker (Own es) (Own fs) (own_more g) (named_by x) named; types = all_weaker (Typed es) (Typed fs) (typed_more g) (types_of x) types }

  copy_class : (k : ℕ) (x : Class) → Own es k → AllByRecursion (Own es) (named_by x) → AllByRecursion (Typed es) (types_of x) → ClassIs fs (class_of_copy c k x)
  copy_class k x own named types = class_if (is_own_generic c k)
    where
      class_if : (e : Bool) → ClassIs fs (if e then class_of_generic c k x else class_of_other c x)
      class_if true = generic_class k x own named types
      class_if false = other_class x named types

  generic_mark : (k : ℕ) → Typed es k → (e : Bool) → OnSome (Typed fs) (if e then type_in c.known k else None)
  generic_mark k typed true = typed_some_more g (type_in c.known k) (type_in_is k typed)
  generic_mark k typed false = tt

  mark_case : (k : ℕ) (x : Class) (m : Option ℕ) → (is_type x ≡ true → Typed es k) → OnSome (Typed es) m
      → OnSome (Typed fs) (elim x [
        | class.GenericType ↦ if is_own_generic c k then type_in c.known k else None
        | _ ↦ option_map (type_of_copy c) m
      ])
  mark_case k class.GenericType m typed m_is = generic_mark k (typed refl) (is_own_generic c k)
  mark_case k _ m typed m_is = some_copy_typed m m_is

  -- ---- copies

  copy_fine : (k : ℕ) → Own es k → IsFine fs (declaration_of_copy c k (entry_at es k))
  copy_fine k own =
      let x = is.sound.fine k in
      let cl = copy_class k (entry_at es k).class own x.named x.types in
      record {
        mark = mark_case k (entry_at es k).class (entry_at es k).mark (λ h. h) x.mark;
        parameters = copies_own (entry_at es k).parameters x.parameters;
        generics = copies_own (entry_at es k).generics x.generics;
        named = cl.named;
        types = cl.types;
      }

  copies_fine : (k : ℕ) (xs : Entries) → ((j : ℕ) → j < length xs → IsFine fs (declaration_of_copy c (k + j) (entry_at xs j)))
      → AllByRecursion (λ e. IsFine fs (code.Entered.declaration e)) (entries_of_copies c k xs)
  copies_fine k [] fine = tt
  copies_fine k (e ∷ xs) fine = (
    subst (λ m. IsFine fs (declaration_of_copy c m e.declaration)) (omega arith) (fine 0 (omega arith)),
    copies_fine (suc k) xs (λ j h. subst (λ m. IsFine fs (declaration_of_copy c m (entry_at xs j))) (omega arith) (fine (suc j) (omega (arith, h)))),
  )

  later_fine : AllByRecursion (λ e. IsFine fs (code.Entered.declaration e)) later
  later_fine =
      copies_fine c.span.first (some_of c.span.first c.span.end es)
      (λ j h.
      let long = some_long c.span.first c.span.end es span_within in
      let short : j < c.span.end - c.span.first = omega (arith, h, long) in
      subst (λ q. IsFine fs (declaration_of_copy c (c.span.first + j) q)) (sym (some_at c.span.first c.span.end es j short))
      (copy_fine (c.span.first + j) (let w = span_within in omega (arith, short, w))))

  copies_sound : AreSound fs
  copies_sound = sound_more is.sound later later_fine

  -- ---- notes

  number_within : (k : ℕ) → c.span.first ≤ k → k < c.span.end → number_of_copy c k ≡ (k - c.span.first) + c.first
  number_within k low high = as_in_cases (λ m. m ≡ (k - c.span.first) + c.first) c.span.first c.span.end c.first k
      (λ out. absurd (elim out [ inl l ↦ omega (arith, l, low) | inr h ↦ omega (arith, h, high) ])) (λ l h. refl)

  copy_span : (k : ℕ) (x : Option Span) → c.span.first ≤ k → k < c.span.end → OnOption (λ y. Span.end y ≤ k) x
      → OnOption (λ y. Span.end y ≤ number_of_copy c k) (option_map (span_of_copy c) x)
  copy_span k None low high h = tt
  copy_span k (Some y) low high h = let e = number_within k low high in omega (arith, low, high, h, e)

  notes_same : (k left : ℕ) (e : Design) → entries (with_noted_copies c k left e) ≡ entries e
  notes_same k zero e = refl
  notes_same k (suc left) e = notes_same (suc k) left (with_note (number_of_copy c k) (note_of_copy c e k) e)

  notes_are : (k left : ℕ) (e : Design) → c.span.first ≤ k → (0 < left → k + left ≤ c.span.end) → DesignIs e → DesignIs (with_noted_copies c k left e)
  notes_are k zero e low high e_is = e_is
  notes_are k (suc left) e low high e_is =
      let up = high (omega arith) in
      notes_are (suc k) left (with_note (number_of_copy c k) (note_of_copy c e k) e) (omega (arith, low)) (λ h. omega (arith, up))
      (noted (number_of_copy c k) (note_of_copy c e k) e e_is (copy_span k (note_at e k).span low (omega (arith, up)) (note_is e k e_is.spans)))

  -- ---- the design with the copies

  pub copies_same : entries (with_copies c d) ≡ fs
  copies_same = notes_same c.span.first (c.span.end - c.span.first) (with_scopes d (scopes_with_copies c d.scopes))

  pub copies_entered : Entered d (with_copies c d)
  copies_entered = record {
    grows = subst (Grows es) (sym copies_same) g;
    design = notes_are c.span.first (c.span.end - c.span.first) (with_scopes d (scopes_with_copies c d.scopes)) (omega arith) (λ h. omega (arith, h)) (record { sound = copies_sound; spans = is.spans });
  }

  -- the number behind the copies is the next one
  pub behind_is_next : number_behind c ≡ length (entries (with_copies c d))
  behind_is_next = sym all_long ∙ sym (ap (λ xs. length xs) copies_same)
