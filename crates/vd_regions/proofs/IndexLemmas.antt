-- What the tables hold when a declaration more is entered.
use Rattle.std.proofs.Common.{◌≡◌, ◌≤◌, ◌<◌, ◌==◌, nat_eq, nat_lt, inl, inr, ℕ, zero, suc, Bool, true, false, IsTrue, ◌&&◌, not, cond, List, [], ◌∷◌, ◌++◌, map, length, get_or, if◌then◌else◌, Option, Some, None, refl, sym, ap, subst, ◌∙◌, arith, true≢false}
use Rattle.std.specs.Bool.{beq}
use Rattle.std.specs.List.{Contains}
use Rattle.std.specs.Option.{option_eq, option_or, unwrap_or}
use Rattle.std.specs.Str.{bytes_eq}
use lib.Pointwise.{pointwise}
use Rattle.std.proofs.lemmas.Slice.Eq.{bytes_eq-Decides}
use Rattle.std.proofs.lemmas.Bool.{cases_Bool, cases_eq, and_parts, eqb-true, ltb-true}
use Rattle.std.proofs.lemmas.List.{get_or_append_left, get_or_at, length_push, map-append, length-map}
use Rattle.vd_declarations.specs.Classes.{is_overloadable, is_predefined, is_copy}
use Rattle.vd_region_tables.specs.Tables.{same_key, same_sort, AddsFirst}
use Rattle.vd_regions.specs.declared.entries.Entered.{Entered}
use Rattle.vd_region_tables.specs.declared.keys.Key.{Key}
use Rattle.vd_regions.specs.declared.entries.Link.{Link}
use Rattle.vd_region_tables.specs.declared.keys.Name.{Name}
use Rattle.vd_region_tables.specs.declared.keys.Sort.{Sort}
use Rattle.vd_region_tables.specs.declared.table.Table.{Table}
use Rattle.vd_regions.specs.Scopes.{nothing_entered, stands_in}
use Rattle.vd_regions.specs.Homographs.{same_types}
use Rattle.vd_regions.specs.Links.{newest_below, first_below, entered_of}
use Rattle.vd_region_tables.specs.Growth.{grown}
use Rattle.vd_regions.specs.Indexes.{AreHomes, type_among, profile_among, has_sort, IsSortOf, HasItsSort, knows, settled_below, is_settled, AreFirsts, no_table, stands_alone_in, IsTable, AreTables, IsIndexed}
use Rattle.vd_regions.proofs.LinkLemmas.{newest_is, newest_small, newest_pushed, linked_push, option_or_none}

-- ---- the first that passes a test

first_push : (p q : Entered → Bool) (es : List Entered) (e : Entered) (k : ℕ) → k ≤ length es
    → ((j : ℕ) → j < k → p (get_or es j nothing_entered) ≡ q (get_or es j nothing_entered))
    → first_below p (es ++ e ∷ []) k ≡ first_below q es k
first_push p q es e zero within same = refl
first_push p q es e (suc k) within same =
    let lt : k < length es = omega arith in
    let le : k ≤ length es = omega arith in
    ap (λ x. option_or (first_below p (es ++ e ∷ []) k) (if p x then Some k else None)) (get_or_append_left es (e ∷ []) nothing_entered k lt)
    ∙ ap (λ b. option_or (first_below p (es ++ e ∷ []) k) (if b then Some k else None)) (same k (omega arith))
    ∙ ap (λ o. option_or o (if q (get_or es k nothing_entered) then Some k else None)) (first_push p q es e k le (λ j below. same j (omega arith)))

pub first_pushed : (p q : Entered → Bool) (es : List Entered) (e : Entered)
    → ((j : ℕ) → j < length es → p (get_or es j nothing_entered) ≡ q (get_or es j nothing_entered))
    → first_below p (es ++ e ∷ []) (length (es ++ e ∷ [])) ≡ option_or (first_below q es (length es)) (if p e then Some (length es) else None)
first_pushed p q es e same =
    let all : length (es ++ e ∷ []) ≡ suc (length es) = omega (arith, length_push es e) in
    ap (first_below p (es ++ e ∷ [])) all
    ∙ ap (λ x. option_or (first_below p (es ++ e ∷ []) (length es)) (if p x then Some (length es) else None)) (get_or_at es e [] nothing_entered (length es) refl)
    ∙ ap (λ o. option_or o (if p e then Some (length es) else None)) (first_push p q es e (length es) (omega arith) same)

-- ---- tables

-- a table of a region and a name, when a declaration is entered that stands there or doesn't
table_push : (es : List Entered) (e : Entered) (region : ℕ) (name : List ℕ) (table : Table) → IsTable es region name table
    → IsTable (es ++ e ∷ []) region name (if stands_in region name e then grown table (length es) (is_overloadable e.declaration.class) else table)
table_push es e region name table is = go (stands_in region name e) refl (is_overloadable e.declaration.class) refl
  where
    all : length (es ++ e ∷ []) ≡ suc (length es)
    all = omega (arith, length_push es e)

    last : newest_below (stands_in region name) (es ++ e ∷ []) (length (es ++ e ∷ []))
        ≡ (if stands_in region name e then suc (length es) else newest_below (stands_in region name) es (length es))
    last = ap (newest_below (stands_in region name) (es ++ e ∷ [])) all ∙ newest_pushed (stands_in region name) es e

    go : (here : Bool) → stands_in region name e ≡ here → (over : Bool) → is_overloadable e.declaration.class ≡ over
        → IsTable (es ++ e ∷ []) region name (if here then grown table (length es) over else table)
    go true here over o = record {
      leads = sym (last ∙ ap (λ b. if b then suc (length es) else newest_below (stands_in region name) es (length es)) here);
      begins = sym (first_pushed (stands_in region name) (stands_in region name) es e (λ j within. refl)
          ∙ ap (λ b. option_or (first_below (stands_in region name) es (length es)) (if b then Some (length es) else None)) here
          ∙ ap (λ o. option_or o (Some (length es))) (sym is.begins));
      begins_alone = sym (first_pushed (stands_alone_in region name) (stands_alone_in region name) es e (λ j within. refl)
          ∙ ap (λ b. option_or (first_below (stands_alone_in region name) es (length es)) (if b && not (is_overloadable e.declaration.class) then Some (length es) else None)) here
          ∙ ap (λ b. option_or (first_below (stands_alone_in region name) es (length es)) (if not b then Some (length es) else None)) o
          ∙ ap (λ x. option_or x (if not over then Some (length es) else None)) (sym is.begins_alone)
          ∙ alone over);
    }
      where
        alone : (b : Bool) → option_or table.alone (if not b then Some (length es) else None) ≡ option_or table.alone (if b then None else Some (length es))
        alone true = refl
        alone false = refl
    go false here over o = record {
      leads = is.leads ∙ sym (last ∙ ap (λ b. if b then suc (length es) else newest_below (stands_in region name) es (length es)) here);
      begins = is.begins ∙ sym (first_pushed (stands_in region name) (stands_in region name) es e (λ j within. refl)
          ∙ ap (λ b. option_or (first_below (stands_in region name) es (length es)) (if b then Some (length es) else None)) here
          ∙ option_or_none (first_below (stands_in region name) es (length es)));
      begins_alone = is.begins_alone ∙ sym (first_pushed (stands_alone_in region name) (stands_alone_in region name) es e (λ j within. refl)
          ∙ ap (λ b. option_or (first_below (stands_alone_in region name) es (length es)) (if b && not (is_overloadable e.declaration.class) then Some (length es) else None)) here
          ∙ option_or_none (first_below (stands_alone_in region name) es (length es)));
    }

tables_push : (old new : Key → Option Table) (es : List Entered) (e : Entered) (own : Key) (table : Table)
    → own.region ≡ e.region → own.name.items ≡ e.declaration.name → IsTable es e.region e.declaration.name table → AreTables old es
    → ((q : Key) → new q ≡ cond (same_key own q) (Some (grown table (length es) (is_overloadable e.declaration.class))) (old q))
    → AreTables new (es ++ e ∷ [])
tables_push old new es e own table same_region same_name is tables updated q =
    let here : same_key own q ≡ stands_in q.region q.name.items e =
    ap (λ r. (r == q.region) && bytes_eq own.name.items q.name.items) same_region
    ∙ ap (λ n. (e.region == q.region) && bytes_eq n q.name.items) same_name in
    let grows = grown table (length es) (is_overloadable e.declaration.class) in
    elim (cases_Bool (stands_in q.region q.name.items e)) [
      | inl t ↦
          let parts = and_parts (e.region == q.region) (bytes_eq e.declaration.name q.name.items) t in
          let of_q : IsTable es q.region q.name.items table =
          subst (λ r. IsTable es r q.name.items table) (eqb-true e.region q.region parts.0)
          (subst (λ n. IsTable es e.region n table) ((bytes_eq-Decides e.declaration.name q.name.items).0 parts.1) is) in
          subst (IsTable (es ++ e ∷ []) q.region q.name.items)
          (ap (λ b. if b then grown table (length es) (is_overloadable e.declaration.class) else table) t
          ∙ sym (ap (λ o. unwrap_or o no_table) (updated q
          ∙ ap (λ b. cond b (Some (grown table (length es) (is_overloadable e.declaration.class))) (old q)) (here ∙ t))))
          (table_push es e q.region q.name.items table of_q)
      | inr f ↦
          subst (IsTable (es ++ e ∷ []) q.region q.name.items)
          (ap (λ b. if b then grown (unwrap_or (old q) no_table) (length es) (is_overloadable e.declaration.class) else unwrap_or (old q) no_table) f
          ∙ sym (ap (λ o. unwrap_or o no_table) (updated q
          ∙ ap (λ b. cond b (Some (grown table (length es) (is_overloadable e.declaration.class))) (old q)) (here ∙ f))))
          (table_push es e q.region q.name.items (unwrap_or (old q) no_table) (tables q))
    ]

-- ---- profiles don't change

types_stay : (es : List Entered) (e : Entered) (k : ℕ) → k ≤ length es → (ps : List ℕ) → knows k ps ≡ true
    → map (type_among (es ++ e ∷ [])) ps ≡ map (type_among es) ps
types_stay es e k within [] known = refl
types_stay es e k within (p ∷ ps) known =
    let parts = and_parts (nat_lt p k) (knows k ps) known in
    let lt : p < length es = omega (arith, ltb-true p k parts.0) in
    ap (λ (x : Entered). x.declaration.mark ∷ map (type_among (es ++ e ∷ [])) ps) (get_or_append_left es (e ∷ []) nothing_entered p lt)
    ∙ ap (λ ts. type_among es p ∷ ts) (types_stay es e k within ps parts.1)

sort_stays : (es : List Entered) (e : Entered) (k : ℕ) → k ≤ length es → (sort : Sort) (x : Entered) → knows k x.declaration.parameters ≡ true
    → has_sort (es ++ e ∷ []) sort x ≡ has_sort es sort x
sort_stays es e k within sort x known =
    ap (λ ts. stands_in sort.region sort.name.items x && (is_overloadable x.declaration.class && (beq (is_predefined x.declaration.class) sort.predefined
    && (beq (is_copy x.declaration.class) sort.copy && same_types (x.declaration.mark ∷ ts) sort.profile.items))))
    (types_stay es e k within x.declaration.parameters known)

settled_at : (es : List Entered) (k j : ℕ) → settled_below es k ≡ true → j < k → knows j (get_or es j nothing_entered).declaration.parameters ≡ true
settled_at es zero j settled below = absurd (omega (arith, below))
settled_at es (suc k) j settled below =
    let parts = and_parts (settled_below es k) (knows k (get_or es k nothing_entered).declaration.parameters) settled in
    elim (cases_eq j k) [
      | inl same ↦ subst (λ n. knows n (get_or es n nothing_entered).declaration.parameters ≡ true) (sym same) parts.1
      | inr other ↦ settled_at es k j parts.0 (omega arith)
    ]

settled_push : (es : List Entered) (e : Entered) (k : ℕ) → k ≤ length es → settled_below (es ++ e ∷ []) k ≡ settled_below es k
settled_push es e zero within = refl
settled_push es e (suc k) within =
    let lt : k < length es = omega arith in
    let le : k ≤ length es = omega arith in
    ap (λ (x : Entered). settled_below (es ++ e ∷ []) k && knows k x.declaration.parameters) (get_or_append_left es (e ∷ []) nothing_entered k lt)
    ∙ ap (λ b. b && knows k (get_or es k nothing_entered).declaration.parameters) (settled_push es e k le)

settled_pushed : (es : List Entered) (e : Entered) → is_settled (es ++ e ∷ []) ≡ (is_settled es && knows (length es) e.declaration.parameters)
settled_pushed es e =
    let all : length (es ++ e ∷ []) ≡ suc (length es) = omega (arith, length_push es e) in
    ap (settled_below (es ++ e ∷ [])) all
    ∙ ap (λ (x : Entered). settled_below (es ++ e ∷ []) (length es) && knows (length es) x.declaration.parameters) (get_or_at es e [] nothing_entered (length es) refl)
    ∙ ap (λ b. b && knows (length es) e.declaration.parameters) (settled_push es e (length es) (omega arith))

-- ---- the first of each sort

as_types : (ts us : List (Option ℕ)) → pointwise (option_eq nat_eq) ts us ≡ same_types ts us
as_types [] [] = refl
as_types [] (u ∷ us) = refl
as_types (t ∷ ts) [] = refl
as_types (None ∷ ts) (None ∷ us) = as_types ts us
as_types (None ∷ ts) (Some u ∷ us) = refl
as_types (Some t ∷ ts) (None ∷ us) = refl
as_types (Some t ∷ ts) (Some u ∷ us) = ap (λ b. (t == u) && b) (as_types ts us)

types_are : (ts us : List (Option ℕ)) → same_types ts us ≡ true → ts ≡ us
types_are [] [] t = refl
types_are [] (u ∷ us) t = absurd (true≢false (sym t))
types_are (t ∷ ts) [] e = absurd (true≢false (sym e))
types_are (None ∷ ts) (None ∷ us) t = ap (λ vs. None ∷ vs) (types_are ts us t)
types_are (None ∷ ts) (Some u ∷ us) t = absurd (true≢false (sym t))
types_are (Some t ∷ ts) (None ∷ us) e = absurd (true≢false (sym e))
types_are (Some t ∷ ts) (Some u ∷ us) e =
    let parts = and_parts (t == u) (same_types ts us) e in
    ap (λ n. Some n ∷ ts) (eqb-true t u parts.0) ∙ ap (λ vs. Some u ∷ vs) (types_are ts us parts.1)

pub beq_is : (a b : Bool) → beq a b ≡ true → a ≡ b
beq_is true true t = refl
beq_is true false t = absurd (true≢false (sym t))
beq_is false true t = absurd (true≢false (sym t))
beq_is false false t = refl

and_assoc : (a b c : Bool) → ((a && b) && c) ≡ (a && (b && c))
and_assoc true b c = refl
and_assoc false b c = refl

-- the comparison with the sort of a declaration says whether that declaration has the other sort
of_its_sort : (es : List Entered) (e : Entered) (own q : Sort) → is_overloadable e.declaration.class ≡ true → IsSortOf es e.region e.declaration own
    → has_sort es q e ≡ same_sort own q
of_its_sort es e own q over is =
    ap (λ b. stands_in q.region q.name.items e && (b && (beq (is_predefined e.declaration.class) q.predefined
    && (beq (is_copy e.declaration.class) q.copy && same_types (profile_among es e.declaration) q.profile.items)))) over
    ∙ and_assoc (e.region == q.region) (bytes_eq e.declaration.name q.name.items) (beq (is_predefined e.declaration.class) q.predefined
    && (beq (is_copy e.declaration.class) q.copy && same_types (profile_among es e.declaration) q.profile.items))
    ∙ ap (λ r. (r == q.region) && (bytes_eq e.declaration.name q.name.items && (beq (is_predefined e.declaration.class) q.predefined
    && (beq (is_copy e.declaration.class) q.copy && same_types (profile_among es e.declaration) q.profile.items)))) (sym is.in_region)
    ∙ ap (λ n. (own.region == q.region) && (bytes_eq n q.name.items && (beq (is_predefined e.declaration.class) q.predefined
    && (beq (is_copy e.declaration.class) q.copy && same_types (profile_among es e.declaration) q.profile.items)))) (sym is.named)
    ∙ ap (λ b. (own.region == q.region) && (bytes_eq own.name.items q.name.items && (beq b q.predefined
    && (beq (is_copy e.declaration.class) q.copy && same_types (profile_among es e.declaration) q.profile.items)))) (sym is.as_predefined)
    ∙ ap (λ b. (own.region == q.region) && (bytes_eq own.name.items q.name.items && (beq own.predefined q.predefined
    && (beq b q.copy && same_types (profile_among es e.declaration) q.profile.items)))) (sym is.as_copy)
    ∙ ap (λ b. (own.region == q.region) && (bytes_eq own.name.items q.name.items && (beq own.predefined q.predefined && (beq own.copy q.copy && b))))
    (ap (λ ts. same_types ts q.profile.items) (sym is.typed) ∙ sym (as_types own.profile.items q.profile.items))

first_alike : (p q : Entered → Bool) → ((x : Entered) → p x ≡ q x) → (es : List Entered) (k : ℕ) → first_below p es k ≡ first_below q es k
first_alike p q same es zero = refl
first_alike p q same es (suc k) =
    ap (λ o. option_or o (if p (get_or es k nothing_entered) then Some k else None)) (first_alike p q same es k)
    ∙ ap (λ b. option_or (first_below q es k) (if b then Some k else None)) (same (get_or es k nothing_entered))

-- two sorts that compare as the same are those of the same declarations
same_sorts : (es : List Entered) (a b : Sort) → same_sort a b ≡ true → (x : Entered) → has_sort es a x ≡ has_sort es b x
same_sorts es a b same x =
    let first = and_parts (a.region == b.region) _ same in
    let second = and_parts (bytes_eq a.name.items b.name.items) _ first.1 in
    let third = and_parts (beq a.predefined b.predefined) _ second.1 in
    let fourth = and_parts (beq a.copy b.copy) _ third.1 in
    ap (λ r. stands_in r a.name.items x && (is_overloadable x.declaration.class && (beq (is_predefined x.declaration.class) a.predefined
    && (beq (is_copy x.declaration.class) a.copy && same_types (profile_among es x.declaration) a.profile.items)))) (eqb-true a.region b.region first.0)
    ∙ ap (λ n. stands_in b.region n x && (is_overloadable x.declaration.class && (beq (is_predefined x.declaration.class) a.predefined
    && (beq (is_copy x.declaration.class) a.copy && same_types (profile_among es x.declaration) a.profile.items)))) ((bytes_eq-Decides a.name.items b.name.items).0 second.0)
    ∙ ap (λ c. stands_in b.region b.name.items x && (is_overloadable x.declaration.class && (beq (is_predefined x.declaration.class) c
    && (beq (is_copy x.declaration.class) a.copy && same_types (profile_among es x.declaration) a.profile.items)))) (beq_is a.predefined b.predefined third.0)
    ∙ ap (λ c. stands_in b.region b.name.items x && (is_overloadable x.declaration.class && (beq (is_predefined x.declaration.class) b.predefined
    && (beq (is_copy x.declaration.class) c && same_types (profile_among es x.declaration) a.profile.items)))) (beq_is a.copy b.copy fourth.0)
    ∙ ap (λ ts. stands_in b.region b.name.items x && (is_overloadable x.declaration.class && (beq (is_predefined x.declaration.class) b.predefined
    && (beq (is_copy x.declaration.class) b.copy && same_types (profile_among es x.declaration) ts))))
    (types_are a.profile.items b.profile.items (sym (as_types a.profile.items b.profile.items) ∙ fourth.1))

or_first : (o : Option ℕ) (n : ℕ) → Some (unwrap_or o n) ≡ option_or o (Some n)
or_first None n = refl
or_first (Some m) n = refl

firsts_push : (old new : Sort → Option ℕ) (es : List Entered) (e : Entered) (o : Option Sort)
    → is_settled es ≡ true → knows (length es) e.declaration.parameters ≡ true → AreFirsts old es → HasItsSort es e o
    → AddsFirst old new o (length es) → AreFirsts new (es ++ e ∷ [])
firsts_push old new es e o settled known firsts own added q =
    sym (first_pushed (has_sort (es ++ e ∷ []) q) (has_sort es q) es e
    (λ j within. sort_stays es e j (omega arith) q (get_or es j nothing_entered) (settled_at es (length es) j settled within))
    ∙ ap (λ b. option_or (first_below (has_sort es q) es (length es)) (if b then Some (length es) else None))
    (sort_stays es e (length es) (omega arith) q e known)
    ∙ go o own added)
  where
    go : (o : Option Sort) → HasItsSort es e o → AddsFirst old new o (length es)
        → option_or (first_below (has_sort es q) es (length es)) (if has_sort es q e then Some (length es) else None) ≡ new q
    go None other added =
        ap (λ b. option_or (first_below (has_sort es q) es (length es)) (if stands_in q.region q.name.items e && (b && (beq (is_predefined e.declaration.class) q.predefined
        && (beq (is_copy e.declaration.class) q.copy && same_types (profile_among es e.declaration) q.profile.items))) then Some (length es) else None)) other
        ∙ none (stands_in q.region q.name.items e)
        ∙ sym (firsts q) ∙ sym (added q)
      where
        none : (b : Bool) → option_or (first_below (has_sort es q) es (length es)) (if b && false then Some (length es) else None) ≡ first_below (has_sort es q) es (length es)
        none true = option_or_none (first_below (has_sort es q) es (length es))
        none false = option_or_none (first_below (has_sort es q) es (length es))
    go (Some own) is added =
        ap (λ b. option_or (first_below (has_sort es q) es (length es)) (if b then Some (length es) else None)) (of_its_sort es e own q is.0 is.1)
        ∙ elim (cases_Bool (same_sort own q)) [
          | inl t ↦
              ap (λ b. option_or (first_below (has_sort es q) es (length es)) (if b then Some (length es) else None)) t
              ∙ ap (λ x. option_or x (Some (length es))) (sym (first_alike (has_sort es own) (has_sort es q) (same_sorts es own q t) es (length es)) ∙ sym (firsts own))
              ∙ sym (or_first (old own) (length es))
              ∙ sym (added q ∙ ap (λ b. if b then Some (unwrap_or (old own) (length es)) else old q) t)
          | inr f ↦
              ap (λ b. option_or (first_below (has_sort es q) es (length es)) (if b then Some (length es) else None)) f
              ∙ option_or_none (first_below (has_sort es q) es (length es))
              ∙ sym (firsts q)
              ∙ sym (added q ∙ ap (λ b. if b then Some (unwrap_or (old own) (length es)) else old q) f)
        ]

-- ---- the regions of a name

homes_push : (old new : Name → List ℕ) (es : List Entered) (e : Entered) → AreHomes old es
    → ((name : Name) (r : ℕ) → Contains (old name) r → Contains (new name) r)
    → ((name : Name) → name.bytes.items ≡ e.declaration.name → Contains (new name) e.region)
    → AreHomes new (es ++ e ∷ [])
homes_push old new es e homes kept added name k within named = elim (cases_eq k (length es)) [
  | inl last ↦
      let here : get_or (es ++ e ∷ []) k nothing_entered ≡ e = get_or_at es e [] nothing_entered k (sym last) in
      subst (λ (x : Entered). Contains (new name) x.region) (sym here)
      (added name (sym (sym (ap (λ (x : Entered). x.declaration.name) here) ∙ named)))
  | inr other ↦
      let lt : k < length es = omega (arith, within, length_push es e) in
      let here : get_or (es ++ e ∷ []) k nothing_entered ≡ get_or es k nothing_entered = get_or_append_left es (e ∷ []) nothing_entered k lt in
      subst (λ (x : Entered). Contains (new name) x.region) (sym here)
      (kept name (get_or es k nothing_entered).region (homes name k lt (sym (ap (λ (x : Entered). x.declaration.name) here) ∙ named)))
]

-- a region that has a table under the name is kept already
kept_already : (homes : Name → List ℕ) (es : List Entered) (region : ℕ) (bytes : List ℕ) (table : Table) → AreHomes homes es → IsTable es region bytes table
    → (table.newest == 0) ≡ false → (name : Name) → name.bytes.items ≡ bytes → Contains (homes name) region
kept_already homes es region bytes table kept is some name same = go table.newest refl some
  where
    go : (n : ℕ) → table.newest ≡ n → (n == 0) ≡ false → Contains (homes name) region
    go zero e none = absurd (true≢false none)
    go (suc m) e none =
        let newest : newest_below (stands_in region bytes) es (length es) ≡ suc m = sym is.leads ∙ e in
        let within : m < length es = omega (arith, newest, newest_small (stands_in region bytes) es (length es)) in
        let parts = and_parts _ _ (newest_is (stands_in region bytes) es (length es) m newest) in
        subst (Contains (homes name)) (eqb-true _ _ parts.0) (kept name m within ((bytes_eq-Decides _ _).0 parts.1 ∙ sym same))

-- ---- all of them

-- the tables stay right where regions are kept that declare nothing
pub still_indexed : (links same_links : List Link) (tables same_tables : Key → Option Table) (firsts same_firsts : Sort → Option ℕ) (settled : Bool)
    (homes more_homes : Name → List ℕ) → IsIndexed links tables firsts settled homes → same_links ≡ links
    → ((key : Key) → same_tables key ≡ tables key) → ((sort : Sort) → same_firsts sort ≡ firsts sort)
    → ((name : Name) (r : ℕ) → Contains (homes name) r → Contains (more_homes name) r)
    → IsIndexed same_links same_tables same_firsts settled more_homes
still_indexed links same_links tables same_tables firsts same_firsts settled homes more_homes is as_links as_tables as_firsts kept =
    subst (λ ls. IsIndexed ls same_tables same_firsts settled more_homes) (sym as_links) (record {
      linked = is.linked;
      tabled = λ key. subst (λ o. IsTable (entered_of links) key.region key.name.items (unwrap_or o no_table)) (sym (as_tables key)) (is.tabled key);
      settles = is.settles;
      sorted = λ t sort. as_firsts sort ∙ is.sorted t sort;
      housed = λ name k within named. kept name (get_or (entered_of links) k nothing_entered).region (is.housed name k within named);
    })

-- with a declaration more, whose link leads to the one before it, whose table has grown, and whose region is kept for its name
pub now_indexed : (links : List Link) (link : Link) (tables new_tables : Key → Option Table) (firsts new_firsts : Sort → Option ℕ) (settled now_settled : Bool)
    (homes new_homes : Name → List ℕ) (own : Key) (table : Table) (sort : Option Sort) → IsIndexed links tables firsts settled homes
    → link.before ≡ table.newest → own.region ≡ link.entered.region → own.name.items ≡ link.entered.declaration.name
    → IsTable (entered_of links) link.entered.region link.entered.declaration.name table
    → ((q : Key) → new_tables q
    ≡ cond (same_key own q) (Some (grown table (length (entered_of links)) (is_overloadable link.entered.declaration.class))) (tables q))
    → now_settled ≡ (is_settled (entered_of links) && knows (length (entered_of links)) link.entered.declaration.parameters)
    → (IsTrue now_settled → HasItsSort (entered_of links) link.entered sort) → AddsFirst firsts new_firsts sort (length (entered_of links))
    → ((name : Name) (r : ℕ) → Contains (homes name) r → Contains (new_homes name) r)
    → ((table.newest == 0) ≡ true → (name : Name) → name.bytes.items ≡ link.entered.declaration.name → Contains (new_homes name) link.entered.region)
    → IsIndexed (links ++ link ∷ []) new_tables new_firsts now_settled new_homes
now_indexed links link tables new_tables firsts new_firsts settled now_settled homes new_homes own table sort is before same_region same_name tabled updated settles sorts added kept housed =
    let es : List Entered = entered_of links in
    let e : Entered = link.entered in
    let all : entered_of links ++ link.entered ∷ [] ≡ entered_of (links ++ link ∷ []) = sym (map-append (λ (l : Link). l.entered) links (link ∷ [])) in
    record {
      linked = linked_push links link is.linked (before ∙ tabled.leads
          ∙ ap (newest_below (stands_in link.entered.region link.entered.declaration.name) (entered_of links)) (length-map links (λ (l : Link). l.entered)));
      tabled = subst (AreTables new_tables) all (tables_push tables new_tables es e own table same_region same_name tabled is.tabled updated);
      settles = settles ∙ sym (settled_pushed es e) ∙ ap is_settled all;
      sorted = λ t.
          let parts = and_parts (is_settled (entered_of links)) (knows (length (entered_of links)) link.entered.declaration.parameters) (sym settles ∙ t) in
          subst (AreFirsts new_firsts) all
          (firsts_push firsts new_firsts es e sort parts.0 parts.1 (is.sorted (is.settles ∙ parts.0)) (sorts t) added);
      housed = subst (AreHomes new_homes) all (homes_push homes new_homes es e is.housed kept (λ name same. elim (cases_Bool (table.newest == 0)) [
        | inl first ↦ housed first name same
        | inr other ↦ kept name link.entered.region (kept_already homes es link.entered.region link.entered.declaration.name table is.housed tabled other name same)
      ]));
    }
