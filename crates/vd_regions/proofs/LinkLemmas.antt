-- What the links from declaration to declaration pass over.
use Rattle.std.proofs.Common.{◌≡◌, ◌≤◌, ◌<◌, ◌+◌, ◌-◌, not, nat_eq, nat_lt, inl, inr, ℕ, zero, suc, Bool, true, false, cond, List, [], ◌∷◌, ◌++◌, length, take, position, get_or, if◌then◌else◌, Option, Some, None, refl, sym, ap, subst, ◌∙◌, arith}
use Rattle.std.specs.Option.{option_or}
use Rattle.std.specs.List.{position_or_len}
use Rattle.std.proofs.Math.Seq.{take-suc}
use Rattle.std.proofs.lemmas.List.Folds.{position_or_len_push}
use Rattle.std.proofs.lemmas.List.Sums.{prefix_len-le-length}
use Rattle.std.proofs.lemmas.Slice.Eq.{bytes_eq-Decides}
use Rattle.std.proofs.lemmas.Bool.{cases_Bool, cases_eq, cases_lt, and_parts, eqb-true, eq-eqb, ne_eqb, lt-ltb, le-ltb}
use Rattle.std.proofs.lemmas.List.{append-nil, take_all, length-take-le, get_or_append_left, get_or_at, length_push, get_or_read, get_or-map, map-append, length-map}
use Rattle.vd_regions.specs.declared.entries.Entered.{Entered}
use Rattle.vd_regions.specs.declared.entries.Link.{Link}
use Rattle.vd_regions.specs.Scopes.{Scopes, nothing_entered, stands_in, continued, chain_of, region_at}
use Rattle.vd_regions.specs.Found.{entered_below}
use Rattle.vd_regions.specs.Links.{newest_below, first_below, table_of, entered_of, no_link, AreLinked}

module _ (test : Entered → Bool) (es : List Entered) where
  newest_in : (k : ℕ) → test (get_or es k nothing_entered) ≡ true → newest_below test es (suc k) ≡ suc k
  newest_in k e = ap (λ b. if b then suc k else newest_below test es k) e

  newest_out : (k : ℕ) → test (get_or es k nothing_entered) ≡ false → newest_below test es (suc k) ≡ newest_below test es k
  newest_out k e = ap (λ b. if b then suc k else newest_below test es k) e

  pub newest_small : (k : ℕ) → newest_below test es k ≤ k
  newest_small zero = omega arith
  newest_small (suc k) = elim (cases_Bool (test (get_or es k nothing_entered))) [
    | inl e ↦ omega (arith, newest_in k e)
    | inr e ↦ omega (arith, newest_out k e, newest_small k)
  ]

  -- the newest passes the test, and is the newest of those up to itself
  pub newest_is : (k m : ℕ) → newest_below test es k ≡ suc m → test (get_or es m nothing_entered) ≡ true
  newest_is zero m e = absurd (omega (arith, e))
  newest_is (suc k) m e = elim (cases_Bool (test (get_or es k nothing_entered))) [
    | inl t ↦ let same : k ≡ m = omega (arith, e, newest_in k t) in subst (λ n. test (get_or es n nothing_entered) ≡ true) same t
    | inr f ↦ newest_is k m (sym (newest_out k f) ∙ e)
  ]

  pub newest_again : (k : ℕ) → newest_below test es (newest_below test es k) ≡ newest_below test es k
  newest_again zero = refl
  newest_again (suc k) = elim (cases_Bool (test (get_or es k nothing_entered))) [
    | inl t ↦ ap (newest_below test es) (newest_in k t)
    | inr f ↦ ap (newest_below test es) (newest_out k f) ∙ newest_again k ∙ sym (newest_out k f)
  ]

  -- nothing that passes the test lies between
  pub entered_skip : (k : ℕ) → entered_below test es k ≡ entered_below test es (newest_below test es k)
  entered_skip zero = refl
  entered_skip (suc k) = elim (cases_Bool (test (get_or es k nothing_entered))) [
    | inl t ↦ ap (entered_below test es) (sym (newest_in k t))
    | inr f ↦ ap (λ b. if b then k ∷ entered_below test es k else entered_below test es k) f
        ∙ entered_skip k ∙ ap (entered_below test es) (sym (newest_out k f))
  ]

-- ---- one step of a walk from the newest declaration of a table down

-- what a link says at a place where the newest declaration of a table stands
pub record IsLink (es : List Entered) (region : ℕ) (name : List ℕ) (m : ℕ) (link : Link) : Type 0 where
  pub entered : get_or es m nothing_entered ≡ link.entered
  pub inside : stands_in region name link.entered ≡ true
  pub before : link.before ≡ newest_below (stands_in region name) es m

pub link_at : (links : List Link) → AreLinked links → (region : ℕ) (name : List ℕ) (m : ℕ) (link : Link) → m < length links
    → newest_below (stands_in region name) (entered_of links) (suc m) ≡ suc m → link ≡ get_or links m link
    → IsLink (entered_of links) region name m link
link_at links linked region name m link within newest read =
    let here : link ≡ get_or links m no_link = get_or_read links m link within read no_link in
    let entered : get_or (entered_of links) m nothing_entered ≡ link.entered =
    get_or-map (λ (l : Link). l.entered) links m no_link nothing_entered within ∙ ap (λ (l : Link). l.entered) (sym here) in
    let inside : stands_in region name link.entered ≡ true =
    subst (λ e. stands_in region name e ≡ true) entered (newest_is (stands_in region name) (entered_of links) (suc m) m newest) in
    let parts = and_parts _ _ inside in
    let same_region : link.entered.region ≡ region = eqb-true _ _ parts.0 in
    let same_name : link.entered.declaration.name ≡ name = (bytes_eq-Decides _ _).0 parts.1 in
    record {
      entered = entered;
      inside = inside;
      before = ap (λ (l : Link). l.before) here ∙ linked m within
          ∙ ap (λ (l : Link). newest_below (table_of l.entered) (entered_of links) m) (sym here)
          ∙ ap (λ r. newest_below (stands_in r link.entered.declaration.name) (entered_of links) m) same_region
          ∙ ap (λ n. newest_below (stands_in region n) (entered_of links) m) same_name;
    }

-- as the code meets a link, where the declarations are those of the links
pub link_in : (links : List Link) (es : List Entered) (region : ℕ) (name : List ℕ) (left : ℕ) (link : Link) → entered_of links ≡ es → AreLinked links
    → 0 < left → left ≤ length es → newest_below (stands_in region name) es left ≡ left → link ≡ get_or links (left - 1) link
    → IsLink es region name (left - 1) link
link_in links es region name left link same linked some within newest read =
    let at : suc (left - 1) ≡ left = omega arith in
    let lt : left - 1 < length links = omega (arith, ap length same, length-map links (λ (l : Link). l.entered)) in
    subst (λ fs. IsLink fs region name (left - 1) link) same
    (link_at links linked region name (left - 1) link lt
    (subst (λ fs. newest_below (stands_in region name) fs (suc (left - 1)) ≡ suc (left - 1)) (sym same)
    (ap (newest_below (stands_in region name) es) at ∙ newest ∙ sym at)) read)

-- a walk goes on at the link before
pub record GoesOn (es : List Entered) (region : ℕ) (name : List ℕ) (left before : ℕ) : Type 0 where
  pub smaller : before < left
  pub newest : newest_below (stands_in region name) es before ≡ before
  pub entered : entered_below (stands_in region name) es left ≡ (left - 1) ∷ entered_below (stands_in region name) es before

pub goes_on : (es : List Entered) (region : ℕ) (name : List ℕ) (left : ℕ) (link : Link) → 0 < left → IsLink es region name (left - 1) link
    → newest_below (stands_in region name) es left ≡ left → GoesOn es region name left link.before
goes_on es region name left link some is newest =
    let test : Entered → Bool = stands_in region name in
    let at : suc (left - 1) ≡ left = omega arith in
    let inside : stands_in region name (get_or es (left - 1) nothing_entered) ≡ true = ap (stands_in region name) is.entered ∙ is.inside in
    record {
      smaller = omega (arith, is.before, newest_small (stands_in region name) es (left - 1));
      newest = ap (newest_below (stands_in region name) es) is.before ∙ newest_again (stands_in region name) es (left - 1) ∙ sym is.before;
      entered = ap (entered_below (stands_in region name) es) (sym at)
          ∙ ap (λ b. if b then (left - 1) ∷ entered_below (stands_in region name) es (left - 1) else entered_below (stands_in region name) es (left - 1)) inside
          ∙ ap (λ ks. (left - 1) ∷ ks) (entered_skip (stands_in region name) es (left - 1) ∙ ap (entered_below (stands_in region name) es) (sym is.before));
    }

-- ---- the first clash

pub option_or_none : {X : Type 0} (o : Option X) → option_or o None ≡ o
option_or_none None = refl
option_or_none (Some x) = refl

placed : (n m : ℕ) → Option ℕ
placed n m = cond (nat_lt n m) (Some n) None

placed_push : (n m : ℕ) (b : Bool) → n ≤ m
    → placed (cond (nat_eq n m) (m + cond b 0 1) n) (m + 1) ≡ option_or (placed n m) (if b then Some m else None)
unfolding placed
placed_push n m b bound = elim (cases_eq n m) [
  | inl same ↦ rw same (at_end m b)
  | inr other ↦
      let apart_from : nat_eq n m ≡ false = ne_eqb n m other in
      rw apart_from (elim (cases_lt n m) [
        | inl less ↦
            let e : nat_lt n m ≡ true = lt-ltb n m less in
            let f : nat_lt n (m + 1) ≡ true = lt-ltb n (m + 1) (omega arith) in
            rw (e, f) refl
        | inr past ↦ absurd (other (omega arith))
      ])
]
  where
    at_end : (m : ℕ) (b : Bool) → cond (nat_lt (cond (nat_eq m m) (m + cond b 0 1) m) (m + 1)) (Some (cond (nat_eq m m) (m + cond b 0 1) m)) None
        ≡ option_or (cond (nat_lt m m) (Some m) None) (if b then Some m else None)
    at_end m true =
        let e : nat_eq m m ≡ true = eq-eqb m m refl in
        let f : nat_lt m m ≡ false = le-ltb m m (omega arith) in
        let z : m + 0 ≡ m = omega arith in
        let g : nat_lt m (m + 1) ≡ true = lt-ltb m (m + 1) (omega arith) in
        rw (e, f) (rw z (rw g refl))
    at_end m false =
        let e : nat_eq m m ≡ true = eq-eqb m m refl in
        let f : nat_lt m m ≡ false = le-ltb m m (omega arith) in
        let g : nat_lt (m + 1) (m + 1) ≡ false = le-ltb (m + 1) (m + 1) (omega arith) in
        rw (e, f) (rw g refl)

position_push : {X : Type 0} (p : X → Bool) (xs : List X) (y : X)
    → position p (xs ++ y ∷ []) ≡ option_or (position p xs) (if p y then Some (length xs) else None)
unfolding placed
position_push p xs y =
    ap (λ n. placed n (length (xs ++ y ∷ []))) (position_or_len_push p xs y)
    ∙ ap (placed (cond (nat_eq (position_or_len p xs) (length xs)) (length xs + cond (p y) 0 1) (position_or_len p xs))) (length_push xs y)
    ∙ placed_push (position_or_len p xs) (length xs) (p y) (prefix_len-le-length (λ x. not (p x)) xs)

pub position_below : (test : Entered → Bool) (es : List Entered) → position test es ≡ first_below test es (length es)
position_below test es = ap (position test) (sym (take_all (length es) es (omega arith))) ∙ below (length es) (omega arith)
  where
    below : (k : ℕ) → k ≤ length es → position test (take k es) ≡ first_below test es k
    below zero within = refl
    below (suc k) within =
        let lt : k < length es = omega arith in
        let le : k ≤ length es = omega arith in
        ap (position test) (take-suc es k nothing_entered lt)
        ∙ position_push test (take k es) (get_or es k nothing_entered)
        ∙ ap (λ o. option_or o (if test (get_or es k nothing_entered) then Some (length (take k es)) else None)) (below k le)
        ∙ ap (λ n. option_or (first_below test es k) (if test (get_or es k nothing_entered) then Some n else None)) (length-take-le k es le)

-- ---- a declaration more

newest_push : (test : Entered → Bool) (es : List Entered) (e : Entered) (k : ℕ) → k ≤ length es
    → newest_below test (es ++ e ∷ []) k ≡ newest_below test es k
newest_push test es e zero within = refl
newest_push test es e (suc k) within =
    let lt : k < length es = omega arith in
    let le : k ≤ length es = omega arith in
    ap (λ x. if test x then suc k else newest_below test (es ++ e ∷ []) k) (get_or_append_left es (e ∷ []) nothing_entered k lt)
    ∙ ap (λ n. if test (get_or es k nothing_entered) then suc k else n) (newest_push test es e k le)

pub newest_pushed : (test : Entered → Bool) (es : List Entered) (e : Entered)
    → newest_below test (es ++ e ∷ []) (suc (length es)) ≡ (if test e then suc (length es) else newest_below test es (length es))
newest_pushed test es e =
    ap (λ x. if test x then suc (length es) else newest_below test (es ++ e ∷ []) (length es)) (get_or_at es e [] nothing_entered (length es) refl)
    ∙ ap (λ n. if test e then suc (length es) else n) (newest_push test es e (length es) (omega arith))

pub linked_push : (links : List Link) (link : Link) → AreLinked links
    → link.before ≡ newest_below (table_of link.entered) (entered_of links) (length links)
    → AreLinked (links ++ link ∷ [])
linked_push links link linked before k within = elim (cases_eq k (length links)) [
  | inl last ↦
      let here : get_or (links ++ link ∷ []) k no_link ≡ link = get_or_at links link [] no_link k (sym last) in
      let le : k ≤ length (entered_of links) = omega (arith, last, length-map links (λ (l : Link). l.entered)) in
      ap (λ (l : Link). l.before) here ∙ before
      ∙ ap (λ n. newest_below (table_of link.entered) (entered_of links) n) (sym last)
      ∙ sym (newest_push (table_of link.entered) (entered_of links) link.entered k le)
      ∙ ap (λ es. newest_below (table_of link.entered) es k) (sym (map-append (λ (l : Link). l.entered) links (link ∷ [])))
      ∙ ap (λ (l : Link). newest_below (table_of l.entered) (entered_of (links ++ link ∷ [])) k) (sym here)
  | inr other ↦
      let lt : k < length links = omega (arith, within, length_push links link) in
      let here : get_or (links ++ link ∷ []) k no_link ≡ get_or links k no_link = get_or_append_left links (link ∷ []) no_link k lt in
      let le : k ≤ length (entered_of links) = omega (arith, lt, length-map links (λ (l : Link). l.entered)) in
      ap (λ (l : Link). l.before) here ∙ linked k lt
      ∙ sym (newest_push (table_of (get_or links k no_link).entered) (entered_of links) link.entered k le)
      ∙ ap (λ es. newest_below (table_of (get_or links k no_link).entered) es k) (sym (map-append (λ (l : Link). l.entered) links (link ∷ [])))
      ∙ ap (λ (l : Link). newest_below (table_of l.entered) (entered_of (links ++ link ∷ [])) k) (sym here)
]

-- ---- chains of regions

pub chain_step : (s : Scopes) (at left : ℕ) → 0 < left → (at ≡ 0 → ⊥)
    → chain_of left s at ≡ at ∷ (continued s at ++ chain_of (left - 1) s (region_at s at).outer)
chain_step s at left some inner =
    let e : suc (left - 1) ≡ left = omega arith in
    ap (λ n. chain_of n s at) (sym e)
    ∙ ap (λ b. at ∷ (continued s at ++ (if b then [] else chain_of (left - 1) s (region_at s at).outer))) (ne_eqb at 0 inner)

-- the region of the libraries is the last
pub chain_end : (s : Scopes) (at left : ℕ) → 0 < left → at ≡ 0 → chain_of left s at ≡ at ∷ continued s at
chain_end s at left some root =
    let e : suc (left - 1) ≡ left = omega arith in
    ap (λ n. chain_of n s at) (sym e)
    ∙ ap (λ b. at ∷ (continued s at ++ (if b then [] else chain_of (left - 1) s (region_at s at).outer))) (eq-eqb at 0 root)
    ∙ ap (λ rs. at ∷ rs) (append-nil (continued s at))
