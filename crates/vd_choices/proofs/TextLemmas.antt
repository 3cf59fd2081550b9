-- A set of the texts seen so far, and texts that stand twice.
use Rattle.std.proofs.Common.{◌≡◌, ℕ, ◌+◌, ◌<◌, ◌≤◌, List, [], ◌∷◌, ◌++◌, length, get_or, take, Bor, Bool, true, false, ◌||◌, if◌then◌else◌, refl, sym, ap, ap₂, subst, ◌∙◌, arith, ⊎_elim, true≢false, length-take, nat_eq, not, IsTrue, ◌↔◌, Contains, take_all}
use lib.Pointwise.{pointwise}
use Rattle.std.specs.Cmp.{unsigned_Decides}
use Rattle.std.specs.Bool.{Decides}
use Rattle.std.specs.List.{list_any}
use Rattle.indexmap.specs.IndexSet.{insert_key}
use Rattle.std.proofs.lemmas.Bool.{cases_lt, cases_Bool}
use Rattle.std.proofs.lemmas.List.{get_or-map, length-map, get_or-take}
use Rattle.std.proofs.lemmas.List.Folds.{list_any-append, list_any_more, Any-from_list_any, list_any_at}
use Rattle.std.proofs.lemmas.Slice.Eq.{slice_eq-Decides}
use Rattle.vd_choices.specs.declared.texts.Text.{Text}
use Rattle.vd_choices.specs.declared.intervals.Interval.{Interval}
use Rattle.vd_choices.specs.TextOrder.{has_text}
use Rattle.vd_choices.specs.Texts.{AreTextsCovered, IsWithin, texts_of, StandsEarlier, IsRepeatedText, IsFirstRepeatedText}

abbrev pub Key : Type 0
Key = Bor (List ℕ)

abbrev pub same : Key → Key → Bool
same x y = pointwise nat_eq x.now y.now

abbrev pub is_key : List ℕ → Key → Bool
is_key q k = pointwise nat_eq q k.now

abbrev pub is_choice : List ℕ → Text → Bool
is_choice q choice = pointwise nat_eq q choice.positions.items

decides : (xs ys : List ℕ) → Decides (pointwise nat_eq xs ys) (xs ≡ ys)
decides xs ys = slice_eq-Decides unsigned_Decides xs ys (pointwise nat_eq xs ys) refl

-- the set has the texts of the first n choices
abbrev pub IsSeen : List Key → List Text → ℕ → Type 0
IsSeen keys choices n = (q : List ℕ) → list_any (is_key q) keys ≡ list_any (is_choice q) (take n choices)

or-false : (b : Bool) → (b || false) ≡ b
or-false true = refl
or-false false = refl

or-true : (b : Bool) → (b || true) ≡ true
or-true true = refl
or-true false = refl

module _ (keys : List Key) (k : Key) (choices : List Text) (n : ℕ) (d : Text) (inside : n < length choices) (is : k.now ≡ (get_or choices n d).positions.items) (seen : IsSeen keys choices n) where
  grown : IsSeen (keys ++ k ∷ []) choices (n + 1)
  grown q =
      list_any-append (is_key q) keys (k ∷ [])
      ∙ ap₂ (λ a b. a || b) (seen q) (or-false (is_key q k) ∙ ap (pointwise nat_eq q) is)
      ∙ sym (list_any_more (is_choice q) choices n d inside)

  kept : list_any (same k) keys ≡ true → IsSeen keys choices (n + 1)
  kept old q =
      let x = get_or choices n d in
      let more = list_any_more (is_choice q) choices n d inside in
      ⊎_elim
      (λ (yes : is_choice q (get_or choices n d) ≡ true).
      let e : k.now ≡ q = is ∙ sym ((decides q (get_or choices n d).positions.items).0 yes) in
      subst (λ t. list_any (is_key t) keys ≡ true) e old ∙ sym (more ∙ ap (λ b. list_any (is_choice q) (take n choices) || b) yes ∙ or-true _))
      (λ (no : is_choice q (get_or choices n d) ≡ false).
      seen q ∙ sym (more ∙ ap (λ b. list_any (is_choice q) (take n choices) || b) no ∙ or-false _))
      (cases_Bool (is_choice q (get_or choices n d)))

  inserted : (b : Bool) → list_any (same k) keys ≡ b → IsSeen (if b then keys else keys ++ k ∷ []) choices (n + 1)
  inserted true e = kept e
  inserted false e = grown

  pub seen_more : (after : List Key) → after ≡ insert_key same keys k → IsSeen after choices (n + 1)
  seen_more after e = subst (λ ks. IsSeen ks choices (n + 1)) (sym e) (inserted _ refl)

  -- ---- a text that stands twice

  pub stands_earlier : list_any (same k) keys ≡ true → (j : ℕ) × (j < n) × (get_or (texts_of choices) j [] ≡ get_or (texts_of choices) n [])
  stands_earlier old =
      let some = Any-from_list_any (is_choice k.now) (take n choices) (sym (seen k.now) ∙ old) in
      let less : some.0 < n = omega (arith, some.2, length-take n choices) in
      let at_j : get_or (texts_of choices) some.0 [] ≡ (get_or choices some.0 some.1).positions.items = get_or-map (λ (c : Text). c.positions.items) choices some.0 some.1 [] (omega arith) in
      let at_n : get_or (texts_of choices) n [] ≡ (get_or choices n d).positions.items = get_or-map (λ (c : Text). c.positions.items) choices n d [] inside in
      let read : get_or choices some.0 some.1 ≡ some.1 = sym (get_or-take n choices some.0 some.1 less) ∙ some.3 in
      (some.0, less, at_j ∙ ap (λ (c : Text). c.positions.items) read ∙ sym ((decides k.now some.1.positions.items).0 some.4) ∙ is ∙ sym at_n)

  pub none_earlier : list_any (same k) keys ≡ false → (j : ℕ) → j < n → ¬ (get_or (texts_of choices) j [] ≡ get_or (texts_of choices) n [])
  none_earlier new j less e =
      let at_j : get_or (texts_of choices) j [] ≡ (get_or choices j d).positions.items = get_or-map (λ (c : Text). c.positions.items) choices j d [] (omega arith) in
      let at_n : get_or (texts_of choices) n [] ≡ (get_or choices n d).positions.items = get_or-map (λ (c : Text). c.positions.items) choices n d [] inside in
      let equal : k.now ≡ (get_or (take n choices) j d).positions.items = is ∙ sym at_n ∙ sym e ∙ at_j ∙ sym (ap (λ (c : Text). c.positions.items) (get_or-take n choices j d less)) in
      let found : list_any (is_choice k.now) (take n choices) ≡ true =
      list_any_at (is_choice k.now) (take n choices) j d (omega (arith, length-take n choices)) ((decides k.now (get_or (take n choices) j d).positions.items).1 equal) in
      true≢false (sym found ∙ sym (seen k.now) ∙ new)

-- the set has the first n choices, and none of them stands twice
pub record IsNew (keys : List Key) (choices : List Text) (n : ℕ) : Type 0 where
  pub seen : IsSeen keys choices n
  pub apart : (k : ℕ) → k < n → ¬ StandsEarlier (texts_of choices) k

pub new_start : (choices : List Text) → IsNew [] choices 0
new_start choices = record { seen = λ q. refl; apart = λ k less. absurd (omega arith) }

module _ (keys : List Key) (k : Key) (choices : List Text) (n : ℕ) (d : Text) (s : IsNew keys choices n) (inside : n < length choices) (is : k.now ≡ (get_or choices n d).positions.items) where
  pub new_more : (after : List Key) → after ≡ insert_key same keys k → list_any (same k) keys ≡ false → IsNew after choices (n + 1)
  new_more after e new = record {
    seen = seen_more keys k choices n d inside is s.seen after e;
    apart = λ j less h. ⊎_elim (λ before. s.apart j before h)
        (λ more. let at : j ≡ n = omega arith in
        none_earlier keys k choices n d inside is s.seen new h.0 (omega (arith, h.1)) (h.3 ∙ ap (λ i. get_or (texts_of choices) i []) at))
        (cases_lt j n);
  }

  pub first_here : list_any (same k) keys ≡ true → IsFirstRepeatedText (texts_of choices) n
  first_here old =
      let e = stands_earlier keys k choices n d inside is s.seen old in
      let within : n < length (texts_of choices) = omega (arith, length-map choices (λ (c : Text). c.positions.items)) in
      ((e.0, e.1, within, e.2), s.apart)

pub new_end : (keys : List Key) (choices : List Text) (n : ℕ) → IsNew keys choices n → length choices ≤ n → ¬ IsRepeatedText (texts_of choices)
new_end keys choices n s all r = s.apart r.0 (omega (arith, r.1.2, length-map choices (λ (c : Text). c.positions.items))) r.1

-- ---- what an insertion answers

pub old_from : (r b : Bool) → r ≡ not b → r ≡ false → b ≡ true
old_from r true e f = refl
old_from r false e f = absurd (true≢false (sym e ∙ f))

pub new_from : (r b : Bool) → r ≡ not b → r ≡ true → b ≡ false
new_from r false e f = refl
new_from r true e f = absurd (true≢false (sym f ∙ e))

-- ---- the set of all choices

found : (choices : List Text) (q : List ℕ) → list_any (is_choice q) choices ≡ true → Contains (texts_of choices) q
found choices q e =
    let some = Any-from_list_any (is_choice q) choices e in
    let at : get_or (texts_of choices) some.0 q ≡ (get_or choices some.0 some.1).positions.items = get_or-map (λ (c : Text). c.positions.items) choices some.0 some.1 q some.2 in
    let within : some.0 < length (texts_of choices) = omega (arith, some.2, length-map choices (λ (c : Text). c.positions.items)) in
    (some.0, within, at ∙ ap (λ (c : Text). c.positions.items) some.3 ∙ sym ((decides q some.1.positions.items).0 some.4))

sought : (choices : List Text) (q : List ℕ) → Contains (texts_of choices) q → list_any (is_choice q) choices ≡ true
sought [] q h = absurd (omega (arith, h.1))
sought (c ∷ cs) q h =
    let inside : h.0 < length (c ∷ cs) = omega (arith, h.1, length-map (c ∷ cs) (λ (c : Text). c.positions.items)) in
    let at : get_or (texts_of (c ∷ cs)) h.0 q ≡ (get_or (c ∷ cs) h.0 c).positions.items = get_or-map (λ (c : Text). c.positions.items) (c ∷ cs) h.0 c q inside in
    list_any_at (is_choice q) (c ∷ cs) h.0 c inside ((decides q (get_or (c ∷ cs) h.0 c).positions.items).1 (sym h.2 ∙ at))

pub covered_either : (within : Interval) (count : ℕ) (choices : List Text) (keys : List Key) (n m : ℕ) {b : Bool} → length choices ≤ n → IsSeen keys choices n → m ≡ count
    → (IsTrue b ↔ ((t : List ℕ) → length t ≡ m → IsWithin within t → IsTrue (has_text keys t))) → IsTrue b ↔ AreTextsCovered within count (texts_of choices)
covered_either within count choices keys n m all seen e h =
    let whole : take n choices ≡ choices = take_all n choices all in (
      (λ t text long w. found choices text (ap (list_any (is_choice text)) (sym whole) ∙ sym (seen text) ∙ h.0 t text (long ∙ sym e) w)),
      (λ covered. h.1 (λ text long w. seen text ∙ ap (list_any (is_choice text)) whole ∙ sought choices text (covered text (long ∙ e) w))),
    )

pub none_within : (within : Interval) (text : List ℕ) → 0 < length text → within.high < within.low → ¬ IsWithin within text
none_within within [] long null w = omega arith
none_within within (x ∷ xs) long null w = omega (arith, w.0.0, w.0.1)
