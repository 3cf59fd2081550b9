-- Copies that are added one by one.
use Rattle.std.proofs.Common.{◌≡◌, ◌<◌, ◌+◌, ◌-◌, ◌++◌, ℕ, suc, zero, List, [], ◌∷◌, length, take, drop, get_or, map, refl, sym, ap, ◌∙◌, append_assoc, append-nil, arith}
use Rattle.std.proofs.lemmas.List.{drop_more}
use Rattle.vd_regions.specs.Scopes.{Region, nothing_entered, no_region}
use Rattle.vd_regions.specs.declared.entries.Entered.{Entered}
use Rattle.vd_name_rows.specs.Designs.{Design, with_scopes}
use Rattle.vd_name_rows.specs.declared.at.Actual.{Actual}
use Rattle.vd_naming.specs.Copies.{Copying, some_of, with_copies, with_noted_copies, scopes_with_copies, entries_of_copies, region_for_copy, declaration_of_copy, copy_of_region, unseen_region}
use Rattle.vd_name_instances.specs.declared.adding.Copies.{Copies}
use Rattle.vd_name_instances.specs.declared.numbers.Offsets.{Offsets}
use Rattle.vd_name_instances.specs.Copied.{with_entries, with_regions, seen_region, AreCopies}
use Rattle.vd_name_instances.specs.Noted.{with_notes}
use Rattle.vd_name_instances.specs.Offsets.{offsets_of}

-- ---- a part of a list, one by one

take_first : {A : Type 0} → (n : ℕ) (xs ys : List A) (x : A) → n ≡ suc (n - 1) → xs ≡ x ∷ ys → take n xs ≡ x ∷ take (n - 1) ys
take_first n xs ys x more is = ap (λ m. take m xs) more ∙ ap (take (suc (n - 1))) is

pub some_more : {A : Type 0} → (next end : ℕ) (xs : List A) (d : A) → next < end → next < length xs
    → some_of next end xs ≡ get_or xs next d ∷ some_of (next + 1) end xs
some_more next end xs d before within =
    let less : end - next - 1 ≡ end - (next + 1) = omega arith in
    take_first (end - next) (drop next xs) (drop (next + 1) xs) (get_or xs next d) (omega (arith, before)) (drop_more xs next d within)
    ∙ ap (λ n. get_or xs next d ∷ take n (drop (next + 1) xs)) less

-- ---- copies of entries and regions

module _ (c : Copying) (next end : ℕ) (before : next < end) where
  pub entry_copied : (es copies copies' whole : List Entered) → next < length es
      → copies' ≡ copies ++ record {
        region = region_for_copy c next (get_or es next nothing_entered).region;
        declaration = declaration_of_copy c next (get_or es next nothing_entered).declaration;
      } ∷ []
      → copies ++ entries_of_copies c next (some_of next end es) ≡ whole
      → copies' ++ entries_of_copies c (next + 1) (some_of (next + 1) end es) ≡ whole
  entry_copied es copies copies' whole within is so_far =
      let x : Entered = record {
        region = region_for_copy c next (get_or es next nothing_entered).region;
        declaration = declaration_of_copy c next (get_or es next nothing_entered).declaration;
      } in
      let behind : next + 1 ≡ suc next = omega arith in
      ap (λ xs. xs ++ entries_of_copies c (next + 1) (some_of (next + 1) end es)) is
      ∙ append_assoc copies (x ∷ []) (entries_of_copies c (next + 1) (some_of (next + 1) end es))
      ∙ ap (λ n. copies ++ x ∷ entries_of_copies c n (some_of (next + 1) end es)) behind
      ∙ sym (ap (λ xs. copies ++ entries_of_copies c next xs) (some_more next end es nothing_entered before within))
      ∙ so_far

  pub region_copied : (rs copies copies' whole : List Region) → next < length rs
      → copies' ≡ copies ++ copy_of_region c (get_or rs next no_region) ∷ []
      → copies ++ map (copy_of_region c) (some_of next end rs) ≡ whole
      → copies' ++ map (copy_of_region c) (some_of (next + 1) end rs) ≡ whole
  region_copied rs copies copies' whole within is so_far =
      ap (λ xs. xs ++ map (copy_of_region c) (some_of (next + 1) end rs)) is
      ∙ append_assoc copies (copy_of_region c (get_or rs next no_region) ∷ []) (map (copy_of_region c) (some_of (next + 1) end rs))
      ∙ sym (ap (λ xs. copies ++ map (copy_of_region c) xs) (some_more next end rs no_region before within))
      ∙ so_far

-- ---- entries and regions

pub entry_more : (es : List Entered) (e : Entered) (d : Design) → with_entries (e ∷ []) (with_entries es d) ≡ with_entries (es ++ e ∷ []) d
entry_more es e d = ap (λ xs. with_scopes d (record d.scopes { entered = xs })) (append_assoc d.scopes.entered es (e ∷ []))

pub no_entries : (d : Design) → d ≡ with_entries [] d
no_entries d = ap (λ xs. with_scopes d (record d.scopes { entered = xs })) (sym (append-nil d.scopes.entered))

pub region_more : (rs : List Region) (r : Region) (d : Design) → with_regions rs (with_regions (r ∷ []) d) ≡ with_regions (r ∷ rs) d
region_more rs r d = ap (λ xs. with_scopes d (record d.scopes { regions = xs })) (append_assoc d.scopes.regions (r ∷ []) rs)

pub no_regions : (d : Design) → with_regions [] d ≡ d
no_regions d = ap (λ xs. with_scopes d (record d.scopes { regions = xs })) (append-nil d.scopes.regions)

-- ---- notes

pub note_more : (o : Offsets) (actuals : List Actual) (next : ℕ) (d d' : Design) → next < o.span.end → d' ≡ with_notes o actuals next 1 d
    → with_notes o actuals (next + 1) (o.span.end - (next + 1)) d' ≡ with_notes o actuals next (o.span.end - next) d
note_more o actuals next d d' before noted =
    let more : suc (o.span.end - (next + 1)) ≡ o.span.end - next = omega (arith, before) in
    let behind : next + 1 ≡ suc next = omega arith in
    ap (with_notes o actuals (next + 1) (o.span.end - (next + 1))) noted
    ∙ ap (λ n. with_notes o actuals n (o.span.end - (next + 1)) (with_notes o actuals next 1 d)) behind
    ∙ ap (λ n. with_notes o actuals next n d) more

noted_as : (c : Copying) (n left : ℕ) (d : Design) → with_notes (offsets_of c) c.actuals n left d ≡ with_noted_copies c n left d
noted_as c n zero d = refl
noted_as c n (suc left) d = noted_as c (suc n) left _

pub all_added : (made : Copies) (c : Copying) (d d1 d2 d3 : Design) → AreCopies made c d
    → d1 ≡ with_entries made.entries.items d → d2 ≡ with_regions (map seen_region made.regions.items) d1
    → d3 ≡ with_notes made.offsets made.generics.actuals made.offsets.span.first (made.offsets.span.end - made.offsets.span.first) d2
    → d3 ≡ with_copies c d
all_added made c d d1 d2 d3 are one two three =
    three
    ∙ ap (λ (o : Offsets). with_notes o made.generics.actuals o.span.first (o.span.end - o.span.first) d2) are.offsets
    ∙ ap (λ actuals. with_notes (offsets_of c) actuals c.span.first (c.span.end - c.span.first) d2) are.actuals
    ∙ ap (with_notes (offsets_of c) c.actuals c.span.first (c.span.end - c.span.first))
    (two ∙ ap (λ rs. with_regions rs d1) are.regions
    ∙ ap (with_regions (map (copy_of_region c) (some_of c.span.first_region c.span.end_region d.scopes.regions) ++ unseen_region c ∷ []))
    (one ∙ ap (λ es. with_entries es d) are.entries))
    ∙ noted_as c c.span.first (c.span.end - c.span.first) (with_scopes d (scopes_with_copies c d.scopes))
