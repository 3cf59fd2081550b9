-- An assignment, one old transaction after another.
use Rattle.std.proofs.Common.{◌≡◌, ℕ, ◌<◌, ◌≤◌, ◌+◌, Bool, true, false, cond, List, [], ◌∷◌, ◌++◌, length, take, get_or, refl, sym, ap, ◌∙◌, subst, arith, append-nil, get_or-take, length-take}
use Rattle.std.specs.Prelude.{◌||◌, ◌&&◌, nat_lt, nat_le, not, if◌then◌else◌}
use Rattle.std.specs.List.{list_all, filter, AllByRecursion}
use Rattle.std.proofs.lemmas.Bool.{lt-ltb, le-ltb, le-leb, lt-leb, ltb-true, ltb-false, and_parts}
use Rattle.std.proofs.lemmas.List.Elements.{filter-append, filter_agree, recursion_from_All, All-from_get_or, All-get_or, filter_passes}
use Rattle.std.proofs.lemmas.List.Kept.{AllPairs-filter}
use Rattle.std.proofs.lemmas.List.Quantifiers.{all_pairs_push}
use Rattle.std.proofs.lemmas.List.{take_more}
use Rattle.std.proofs.lemmas.List.Folds.{list_all-append}
use Rattle.vd_kernel.specs.declared.assignments.Transaction.{Transaction}
use Rattle.vd_kernel.specs.declared.assignments.Delay.{Delay}
use Rattle.vd_kernel.specs.declared.assignments.Delay.TheVariants.{Transport, Inertial}
use Rattle.vd_kernel.specs.Drivers.{is_same_value, leads_up_to, stays, assigned}
use Rattle.vd_kernel.specs.DriverLists.{IsAscending, breaks_run}

-- what stays of the first transactions
abbrev pub kept : Delay → Transaction → List Transaction → List Transaction
kept delay new old = filter (stays delay old new) old

and_true : (b : Bool) → (b && true) ≡ b
and_true true = refl
and_true false = refl

and_false : (b : Bool) → (b && false) ≡ false
and_false true = refl
and_false false = refl

or_true : (b : Bool) → (b || true) ≡ true
or_true true = refl
or_true false = refl

filter_none : {X : Type 0} (p : X → Bool) (xs : List X) → AllByRecursion (λ x. p x ≡ false) xs → filter p xs ≡ []
filter_none p [] a = refl
filter_none p (x ∷ xs) a = ap (λ b. cond b (x ∷ filter p xs) (filter p xs)) a.0 ∙ filter_none p xs a.1

all_true : {X : Type 0} (p : X → Bool) (xs : List X) → AllByRecursion (λ x. p x ≡ true) xs → list_all p xs ≡ true
all_true p [] a = refl
all_true p (x ∷ xs) a = let b = a.0 in let c = all_true p xs a.1 in cc

weaker : {X : Type 0} (P Q : X → Type 0) → ((x : X) → P x → Q x) → (xs : List X) → AllByRecursion P xs → AllByRecursion Q xs
weaker P Q h [] a = tt
weaker P Q h (x ∷ xs) a = (h x a.0, weaker P Q h xs a.1)

module _ (new : Transaction) (old : List Transaction) (t : Transaction) (late : AllByRecursion (λ u. u.time < t.time) old) where
  -- the test of the last one
  test : Transaction → Bool
  test s = nat_lt t.time s.time || (nat_le new.time t.time || is_same_value t.value new.value)

  agrees_more : (s : Transaction) → leads_up_to (old ++ t ∷ []) new s ≡ (leads_up_to old new s && test s)
  unfolding test
  agrees_more s = list_all-append _ old (t ∷ []) ∙ ap (λ b. leads_up_to old new s && b) (and_true (test s))

  -- where the last one breaks_run nothing
  same_if : ((s : Transaction) → test s ≡ true) → (s : Transaction) → stays Inertial (old ++ t ∷ []) new s ≡ stays Inertial old new s
  same_if h s = ap (λ b. nat_lt s.time new.time && b) (agrees_more s ∙ ap (λ b. leads_up_to old new s && b) (h s) ∙ and_true (leads_up_to old new s))

  itself : leads_up_to old new t ≡ true
  itself = all_true _ old (weaker _ _ (λ u h. ap (λ b. b || (nat_le new.time u.time || is_same_value u.value new.value)) (lt-ltb u.time t.time h)) old late)

  -- it isn't earlier than the new one
  inertial_later : new.time ≤ t.time → kept Inertial new (old ++ t ∷ []) ≡ kept Inertial new old
  unfolding test
  inertial_later le =
      let h : (s : Transaction) → test s ≡ true = λ s. ap (λ b. nat_lt t.time s.time || (b || is_same_value t.value new.value)) (le-leb new.time t.time le) ∙ or_true (nat_lt t.time s.time) in
      let e : stays Inertial (old ++ t ∷ []) new t ≡ false = ap (λ b. b && leads_up_to (old ++ t ∷ []) new t) (le-ltb t.time new.time le) in
      filter-append _ old (t ∷ [])
      ∙ ap (λ l. l ++ filter (stays Inertial (old ++ t ∷ []) new) (t ∷ [])) (filter_agree _ _ (same_if h) old)
      ∙ ap (λ b. kept Inertial new old ++ cond b (t ∷ []) []) e
      ∙ append-nil (kept Inertial new old)

  -- it has the new one's value
  inertial_equal : t.time < new.time → is_same_value t.value new.value ≡ true → kept Inertial new (old ++ t ∷ []) ≡ kept Inertial new old ++ t ∷ []
  unfolding test
  inertial_equal lt eq =
      let h : (s : Transaction) → test s ≡ true = λ s. ap (λ b. nat_lt t.time s.time || (nat_le new.time t.time || b)) eq ∙ ap (λ b. nat_lt t.time s.time || b) (or_true (nat_le new.time t.time)) ∙ or_true (nat_lt t.time s.time) in
      let e : stays Inertial (old ++ t ∷ []) new t ≡ true = same_if h t ∙ ap (λ b. b && leads_up_to old new t) (lt-ltb t.time new.time lt) ∙ itself in
      filter-append _ old (t ∷ [])
      ∙ ap (λ l. l ++ filter (stays Inertial (old ++ t ∷ []) new) (t ∷ [])) (filter_agree _ _ (same_if h) old)
      ∙ ap (λ b. kept Inertial new old ++ cond b (t ∷ []) []) e

  -- it has another value
  inertial_other : t.time < new.time → is_same_value t.value new.value ≡ false → kept Inertial new (old ++ t ∷ []) ≡ []
  unfolding test
  inertial_other lt ne =
      let le = lt-leb new.time t.time lt in
      let f : (s : Transaction) → nat_lt t.time s.time ≡ false → stays Inertial (old ++ t ∷ []) new s ≡ false = λ s h.
      let g : test s ≡ false = ap (λ b. b || (nat_le new.time t.time || is_same_value t.value new.value)) h ∙ ap (λ b. b || is_same_value t.value new.value) le ∙ ne in
      ap (λ b. nat_lt s.time new.time && b) (agrees_more s ∙ ap (λ b. leads_up_to old new s && b) g ∙ and_false (leads_up_to old new s))
      ∙ and_false (nat_lt s.time new.time) in
      let own : stays Inertial (old ++ t ∷ []) new t ≡ false = f t (le-ltb t.time t.time (omega arith)) in
      filter-append _ old (t ∷ [])
      ∙ ap (λ l. l ++ filter (stays Inertial (old ++ t ∷ []) new) (t ∷ [])) (filter_none _ old (weaker _ _ (λ u h. f u (le-ltb t.time u.time (omega arith))) old late))
      ∙ ap (λ b. cond b (t ∷ []) []) own

transport_more : (new : Transaction) (old : List Transaction) (t : Transaction) (b : Bool) → nat_lt t.time new.time ≡ b → kept Transport new (old ++ t ∷ []) ≡ (if b then kept Transport new old ++ t ∷ [] else kept Transport new old)
transport_more new old t true e =
    filter-append _ old (t ∷ []) ∙ ap (λ b. kept Transport new old ++ cond b (t ∷ []) []) e
transport_more new old t false e =
    filter-append _ old (t ∷ []) ∙ ap (λ b. kept Transport new old ++ cond b (t ∷ []) []) e ∙ append-nil (kept Transport new old)

inertial_more : (new : Transaction) (old : List Transaction) (t : Transaction) → AllByRecursion (λ u. u.time < t.time) old → (b c : Bool) → nat_lt t.time new.time ≡ b → (is_same_value t.value new.value) ≡ c → kept Inertial new (old ++ t ∷ []) ≡ (if b then (if not c then [] else kept Inertial new old ++ t ∷ []) else kept Inertial new old)
inertial_more new old t late true true e f = inertial_equal new old t late (ltb-true t.time new.time e) f
inertial_more new old t late true false e f = inertial_other new old t late (ltb-true t.time new.time e) f
inertial_more new old t late false c e f = inertial_later new old t late (ltb-false t.time new.time e)

-- one more transaction, later than those before
pub kept_more : (delay : Delay) (new : Transaction) (old : List Transaction) (t : Transaction) → AllByRecursion (λ u. u.time < t.time) old → kept delay new (old ++ t ∷ []) ≡ (if nat_lt t.time new.time then (if breaks_run delay t.value new.value then [] else kept delay new old ++ t ∷ []) else kept delay new old)
kept_more Transport new old t late = transport_more new old t (nat_lt t.time new.time) refl
kept_more Inertial new old t late = inertial_more new old t late (nat_lt t.time new.time) (is_same_value t.value new.value) refl refl

-- those before a place are earlier
before : (old : List Transaction) → IsAscending old → (i : ℕ) (d : Transaction) → i < length old → AllByRecursion (λ u. u.time < (get_or old i d).time) (take i old)
before old ascending i d h =
    let P : Transaction → Type 0 = λ u. u.time < (get_or old i d).time in
    recursion_from_All P (take i old) (All-from_get_or P (take i old) d (λ k l.
    let n : k < i = omega (arith, length-take i old) in
    subst P (sym (get_or-take i old k d n)) (ascending k i d n h)))

pub kept_next : (delay : Delay) (new : Transaction) (old : List Transaction) → IsAscending old → (i : ℕ) (d : Transaction) → i < length old → kept delay new (take (i + 1) old) ≡ (if nat_lt (get_or old i d).time new.time then (if breaks_run delay (get_or old i d).value new.value then [] else kept delay new (take i old) ++ get_or old i d ∷ []) else kept delay new (take i old))
kept_next delay new old ascending i d h =
    ap (kept delay new) (take_more old i d h) ∙ kept_more delay new (take i old) (get_or old i d) (before old ascending i d h)

-- the three ways on
module _ (delay : Delay) (new : Transaction) (old : List Transaction) (ascending : IsAscending old) (i : ℕ) (d : Transaction) (within : i < length old) where
  pub next_drops : (get_or old i d).time < new.time → breaks_run delay (get_or old i d).value new.value ≡ true → kept delay new (take (i + 1) old) ≡ []
  next_drops lt e =
      kept_next delay new old ascending i d within
      ∙ ap (λ b. if b then (if breaks_run delay (get_or old i d).value new.value then [] else kept delay new (take i old) ++ get_or old i d ∷ []) else kept delay new (take i old)) (lt-ltb _ _ lt)
      ∙ ap (λ b. if b then [] else kept delay new (take i old) ++ get_or old i d ∷ []) e

  pub next_stays : (get_or old i d).time < new.time → breaks_run delay (get_or old i d).value new.value ≡ false → kept delay new (take (i + 1) old) ≡ kept delay new (take i old) ++ get_or old i d ∷ []
  next_stays lt e =
      kept_next delay new old ascending i d within
      ∙ ap (λ b. if b then (if breaks_run delay (get_or old i d).value new.value then [] else kept delay new (take i old) ++ get_or old i d ∷ []) else kept delay new (take i old)) (lt-ltb _ _ lt)
      ∙ ap (λ b. if b then [] else kept delay new (take i old) ++ get_or old i d ∷ []) e

  pub next_later : new.time ≤ (get_or old i d).time → kept delay new (take (i + 1) old) ≡ kept delay new (take i old)
  next_later le =
      kept_next delay new old ascending i d within
      ∙ ap (λ b. if b then (if breaks_run delay (get_or old i d).value new.value then [] else kept delay new (take i old) ++ get_or old i d ∷ []) else kept delay new (take i old)) (le-ltb _ _ le)

-- what stays is earlier than the new one
early : (delay : Delay) (new : Transaction) (all : List Transaction) (t : Transaction) → stays delay all new t ≡ true → t.time < new.time
early Transport new all t e = ltb-true t.time new.time e
early Inertial new all t e = ltb-true t.time new.time (and_parts _ _ e).0

pub assigned_ascending : (delay : Delay) (new : Transaction) (old : List Transaction) → IsAscending old → IsAscending (assigned delay new old)
assigned_ascending delay new old ascending =
    all_pairs_push (λ t u. t.time < u.time) (kept delay new old) new
    (AllPairs-filter (λ t u. t.time < u.time) (stays delay old new) old ascending)
    (λ k d h. early delay new old _ (All-get_or (λ t. stays delay old new t ≡ true) (kept delay new old) k d h (filter_passes (stays delay old new) old)))
