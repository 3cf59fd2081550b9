-- Runs of regions, and what is found with them.
use Rattle.std.proofs.Common.{◌≡◌, ◌⊎◌, ◌↔◌, ◌<◌, ◌≤◌, ◌+◌, ◌-◌, ◌&&◌, inl, inr, ℕ, zero, suc, Bool, false, not, nat_lt, ◌==◌, List, [], ◌∷◌, ◌++◌, length, map, if◌then◌else◌, get_or, refl, sym, ap, subst, ◌∙◌, arith, true≢false}
use Rattle.std.specs.List.{Contains, filter, list_all}
use Rattle.std.specs.Option.{option_to_list}
use Rattle.std.proofs.lemmas.List.{append-nil, get_or_append_left, get_or_at, length_push, length-map}
use Rattle.std.proofs.Math.ListN.{get_or-map}
use Rattle.std.proofs.Math.Seq.{map-set_same}
use Rattle.std.proofs.lemmas.List.Elements.{Contains-append_left}
use Rattle.std.proofs.lemmas.Bool.{cases_Bool, cases_lt, and_parts, lt-ltb, le-ltb}
use lib.ListN.{set}
use Rattle.vd_declarations.specs.Classes.{is_overloadable}
use Rattle.vd_regions.specs.declared.entries.Space.{Space}
use Rattle.vd_regions.specs.Scopes.{Scopes, Region, no_region, region_at, entered_at, declaration_at, continued, chain, chain_of}
use Rattle.vd_regions.specs.Homographs.{apart}
use Rattle.vd_regions.specs.Found.{entered_in, declared_of, declared_in, round, apart_from, direct_from, given, is_alone, by_use_among}
use Rattle.vd_regions.specs.Visible.{IsGiven, IsVisible}
use Rattle.vd_regions.specs.Links.{region_of}
use Rattle.vd_regions.specs.Runs.{IsBehind, IsRun, no_space, run_at, AreRuns, BeginsAt, nearer, nearest, SeesAs}
use Rattle.vd_regions.proofs.LinkLemmas.{chain_step}
use Rattle.vd_regions.proofs.MemberLemmas.{no_member, cons_cases, cons_here, cons_there, from_all}
use Rattle.vd_regions.proofs.VisibleLemmas.{from_entered, from_visible, in_visible, from_given, in_given}

-- ---- runs

pub shorter : (rs : List Region) (first a b : ℕ) → IsRun rs first b → first ≤ a → a ≤ b → IsRun rs first a
shorter rs first a b run low high = record { within = low; behind = λ r from below. run.behind r from (omega (arith, below, high)) }

pub of_one : (rs : List Region) (a : ℕ) → IsRun rs a a
of_one rs a = record { within = omega arith; behind = λ r from below. absurd (omega (arith, from, below)) }

-- ---- with each region where its run begins

read_at : {B : Type 0} (g : Space → B) (ps qs : List Space) → map g qs ≡ map g ps → (r : ℕ) → g (get_or qs r no_space) ≡ g (get_or ps r no_space)
read_at g ps qs e r = sym (get_or-map g qs r no_space) ∙ ap (λ xs. get_or xs r (g no_space)) e ∙ get_or-map g ps r no_space

runs_kept : (ps qs : List Space) → map (λ (p : Space). p.outer) qs ≡ map (λ (p : Space). p.outer) ps
    → map (λ (p : Space). p.continues) qs ≡ map (λ (p : Space). p.continues) ps → map (λ (p : Space). p.run) qs ≡ map (λ (p : Space). p.run) ps
    → AreRuns ps → AreRuns qs
runs_kept ps qs outers singles runs are = λ r within.
    let run : run_at qs r ≡ run_at ps r = read_at (λ (p : Space). p.run) ps qs runs r in
    let old = are r (omega (arith, within, length-map qs (λ (p : Space). p.run), length-map ps (λ (p : Space). p.run), ap length runs)) in
    subst (λ m. IsRun (map region_of qs) m r) (sym run)
    (record {
      within = old.within;
      behind = λ t from below.
          let is = old.behind t from below in
          let before : get_or (map region_of ps) (suc t) no_region ≡ region_of (get_or ps (suc t) no_space) = get_or-map region_of ps (suc t) no_space in
          let after : get_or (map region_of qs) (suc t) no_region ≡ region_of (get_or qs (suc t) no_space) = get_or-map region_of qs (suc t) no_space in
          record {
            inside = ap (λ (r : Region). r.outer) after ∙ read_at (λ (p : Space). p.outer) ps qs outers (suc t)
                ∙ sym (ap (λ (r : Region). r.outer) before) ∙ is.inside;
            single = ap (λ (r : Region). r.continues) after ∙ read_at (λ (p : Space). p.continues) ps qs singles (suc t)
                ∙ sym (ap (λ (r : Region). r.continues) before) ∙ is.single;
          };
    })

-- a write of a region that stands where it stood
pub runs_written : (ps : List Space) (n : ℕ) (p q : Space) → p ≡ get_or ps n p → q.outer ≡ p.outer → q.continues ≡ p.continues → q.run ≡ p.run
    → AreRuns ps → AreRuns (set ps n q)
runs_written ps n p q read outer continues run =
    runs_kept ps (set ps n q)
    (map-set_same (λ (p : Space). p.outer) ps n q p (outer ∙ ap (λ (p : Space). p.outer) read))
    (map-set_same (λ (p : Space). p.continues) ps n q p (continues ∙ ap (λ (p : Space). p.continues) read))
    (map-set_same (λ (p : Space). p.run) ps n q p (run ∙ ap (λ (p : Space). p.run) read))

-- a region more
pub runs_pushed : (ps : List Space) (p : Space) → BeginsAt ps p.outer p.continues p.run → AreRuns ps → AreRuns (ps ++ p ∷ [])
runs_pushed ps p begins are = λ r within. elim (cases_lt r (length ps)) [
  | inl old ↦
      let is = are r old in
      let run : run_at (ps ++ p ∷ []) r ≡ run_at ps r = ap (λ (p : Space). p.run) (get_or_append_left ps (p ∷ []) no_space r old) in
      subst (λ m. IsRun (map region_of (ps ++ p ∷ [])) m r) (sym run)
      (record { within = is.within; behind = λ t from below. subst (λ x. IsBehind x t) (sym (below_last (suc t) (omega (arith, below, old)))) (is.behind t from below) })
  | inr new ↦
      let last : length ps ≡ r = omega (arith, new, within, length_push ps p) in
      let run : run_at (ps ++ p ∷ []) r ≡ p.run = ap (λ (p : Space). p.run) (get_or_at ps p [] no_space r last) in
      subst (λ m. IsRun (map region_of (ps ++ p ∷ [])) m r) (sym run) (go r last)
]
  where
    below_last : (t : ℕ) → t < length ps → get_or (map region_of (ps ++ p ∷ [])) t no_region ≡ get_or (map region_of ps) t no_region
    below_last t old =
        let after : get_or (map region_of (ps ++ p ∷ [])) t no_region ≡ region_of (get_or (ps ++ p ∷ []) t no_space) = get_or-map region_of (ps ++ p ∷ []) t no_space in
        let before : get_or (map region_of ps) t no_region ≡ region_of (get_or ps t no_space) = get_or-map region_of ps t no_space in
        after ∙ ap region_of (get_or_append_left ps (p ∷ []) no_space t old) ∙ sym before

    at_last : (t : ℕ) → length ps ≡ t → get_or (map region_of (ps ++ p ∷ [])) t no_region ≡ region_of p
    at_last t last =
        let after : get_or (map region_of (ps ++ p ∷ [])) t no_region ≡ region_of (get_or (ps ++ p ∷ []) t no_space) = get_or-map region_of (ps ++ p ∷ []) t no_space in
        after ∙ ap region_of (get_or_at ps p [] no_space t last)

    go : (r : ℕ) → length ps ≡ r → IsRun (map region_of (ps ++ p ∷ [])) p.run r
    go r last = elim begins [
      | inl e ↦ subst (λ m. IsRun (map region_of (ps ++ p ∷ [])) m r) (sym (e ∙ last)) (of_one (map region_of (ps ++ p ∷ [])) r)
      | inr in_last ↦
          let is = are p.outer (omega (arith, in_last.0)) in
          subst (λ m. IsRun (map region_of (ps ++ p ∷ [])) m r) (sym in_last.2)
          (record {
            within = omega (arith, is.within, in_last.0, last);
            behind = λ t from below. elim (cases_lt t p.outer) [
              | inl inner ↦ subst (λ x. IsBehind x t) (sym (below_last (suc t) (omega (arith, inner, in_last.0)))) (is.behind t from inner)
              | inr outer ↦
                  let same : p.outer ≡ t = omega (arith, outer, below, in_last.0, last) in
                  subst (λ x. IsBehind x t) (sym (at_last (suc t) (omega (arith, same, in_last.0))))
                  (record { inside = same; single = in_last.1 })
            ];
          })
    ]

-- ---- on the way outwards

empty_of : (ks : List ℕ) → ((k : ℕ) → Contains ks k → ⊥) → ks ≡ []
empty_of [] none = refl
empty_of (k ∷ ks) none = absurd (none k (cons_here k ks))

module _ (s : Scopes) (name : List ℕ) where
  pub sees_itself : (r : ℕ) → SeesAs s name r r
  sees_itself r = record { direct = λ inner. refl; around = refl }

  pub sees_on : (a b c : ℕ) → SeesAs s name a b → SeesAs s name b c → SeesAs s name a c
  sees_on a b c p q = record { direct = λ inner. p.direct inner ∙ q.direct inner; around = p.around ∙ q.around }

  chain_behind : (r : ℕ) → IsBehind (region_at s (suc r)) r → chain s (suc r) ≡ suc r ∷ chain s r
  chain_behind r is =
      let less : (suc (suc r) - 1) ≡ suc r = omega arith in
      chain_step s (suc r) (suc (suc r)) (omega arith) (λ e. omega (arith, e))
      ∙ ap (λ c. suc r ∷ (option_to_list c ++ chain_of (suc (suc r) - 1) s (region_at s (suc r)).outer)) is.single
      ∙ ap (λ n. suc r ∷ chain_of n s (region_at s (suc r)).outer) less
      ∙ ap (λ n. suc r ∷ chain_of (suc r) s n) is.inside

  sees_behind : (r : ℕ) → IsBehind (region_at s (suc r)) r → entered_in s (suc r) name ≡ [] → SeesAs s name (suc r) r
  sees_behind r is bare =
      let none : declared_in s name (suc r) ≡ [] = ap (declared_of s) bare in
      record {
        direct = λ inner. ap (direct_from s name inner) (chain_behind r is)
            ∙ ap (λ ks. filter (apart_from s inner) ks ++ direct_from s name (inner ++ ks) (chain s r)) none
            ∙ ap (λ ks. direct_from s name ks (chain s r)) (append-nil inner);
        around = ap (round s name) (chain_behind r is) ∙ ap (λ ks. ks ++ round s name (chain s r)) none;
      }

  sees_by_steps : (d a : ℕ) → IsRun s.regions a (d + a) → ((r : ℕ) → a < r → r ≤ d + a → entered_in s r name ≡ []) → SeesAs s name (d + a) a
  sees_by_steps zero a run bare = let e : a ≡ 0 + a = omega arith in subst (λ n. SeesAs s name n a) e (sees_itself a)
  sees_by_steps (suc d) a run bare =
      let e : suc (d + a) ≡ suc d + a = omega arith in
      subst (λ n. SeesAs s name n a) e
      (sees_on (suc (d + a)) (d + a) a
      (sees_behind (d + a) (run.behind (d + a) (omega arith) (omega arith)) (bare (suc (d + a)) (omega arith) (omega arith)))
      (sees_by_steps d a (shorter s.regions a (d + a) (suc d + a) run (omega arith) (omega arith)) (λ r low high. bare r low (omega (arith, high)))))

  -- in a run, past regions that declare nothing under the name
  pub sees_out : (first at region : ℕ) → IsRun s.regions first region → first ≤ at → at ≤ region
      → ((r : ℕ) → at < r → r ≤ region → entered_in s r name ≡ []) → SeesAs s name region at
  sees_out first at region run low high bare =
      let e : (region - at) + at ≡ region = omega (arith, high) in
      subst (λ n. SeesAs s name n at) e
      (sees_by_steps (region - at) at
      (record { within = omega arith; behind = λ r from below. run.behind r (omega (arith, low, from)) (omega (arith, below, high)) })
      (λ r below within. bare r below (omega (arith, within, high))))

  -- a region that isn't among those of the name
  pub bare_behind : (homes : List ℕ) → ((k : ℕ) → k < length s.entered → (declaration_at s k).name ≡ name → Contains homes (entered_at s k).region)
      → (r : ℕ) → (Contains homes r → ⊥) → entered_in s r name ≡ []
  bare_behind homes all r other =
      empty_of (entered_in s r name) (λ k c. let is = from_entered s name r k c in other (subst (Contains homes) is.here (all k is.known is.named)))

-- ---- the nearest of some regions

nearer_cases : (to from h : ℕ) → from ≤ to → (from ≤ nearer to from h) × (nearer to from h ≤ to) × ((h ≤ nearer to from h) ⊎ (to < h))
nearer_cases to from h within = elim (cases_lt from h) [
  | inl a ↦ elim (cases_lt to h) [
    | inl b ↦
        let e : nearer to from h ≡ from =
        ap (λ b. if b && not (nat_lt to h) then h else from) (lt-ltb from h a) ∙ ap (λ b. if not b then h else from) (lt-ltb to h b) in
        (omega (arith, e), omega (arith, e, within), inr b)
    | inr b ↦
        let e : nearer to from h ≡ h =
        ap (λ b. if b && not (nat_lt to h) then h else from) (lt-ltb from h a) ∙ ap (λ b. if not b then h else from) (le-ltb to h b) in
        (omega (arith, e, a), omega (arith, e, b), inl (omega (arith, e)))
  ]
  | inr a ↦
      let e : nearer to from h ≡ from = ap (λ b. if b && not (nat_lt to h) then h else from) (le-ltb from h a) in
      (omega (arith, e), omega (arith, e, within), inl (omega (arith, e, a)))
]

pub nearest_within : (to from : ℕ) (homes : List ℕ) → from ≤ to → (from ≤ nearest to from homes) × (nearest to from homes ≤ to)
nearest_within to from [] within = (omega arith, within)
nearest_within to from (h ∷ hs) within =
    let one = nearer_cases to from h within in
    let rest = nearest_within to (nearer to from h) hs one.1 in
    (omega (arith, one.0, rest.0), rest.1)

pub nearest_all : (to from : ℕ) (homes : List ℕ) → from ≤ to → (h : ℕ) → Contains homes h → (h ≤ nearest to from homes) ⊎ (to < h)
nearest_all to from [] within h c = absurd (no_member h c)
nearest_all to from (g ∷ gs) within h c =
    let one = nearer_cases to from g within in
    let rest = nearest_within to (nearer to from g) gs one.1 in
    elim (cons_cases g gs h c) [
      | inl e ↦ elim one.2 [
        | inl le ↦ inl (omega (arith, le, rest.0, e))
        | inr lt ↦ inr (omega (arith, lt, e))
      ]
      | inr there ↦ nearest_all to (nearer to from g) gs one.1 h there
    ]

-- one step in a run
pub one_shorter : (rs : List Region) (first region : ℕ) → IsRun rs first region → first < region → IsRun rs first (region - 1)
one_shorter rs first region run inner = shorter rs first (region - 1) region run (omega (arith, inner)) (omega (arith, inner))

pub sees_one : (s : Scopes) (name : List ℕ) (first region : ℕ) → IsRun s.regions first region → first < region → entered_in s region name ≡ []
    → SeesAs s name region (region - 1)
sees_one s name first region run inner bare =
    sees_out s name first (region - 1) region run (omega (arith, inner)) (omega (arith, inner))
    (λ r below within. let e : region ≡ r = omega (arith, below, within, inner) in subst (λ n. entered_in s n name ≡ []) e bare)

-- in a run, to the nearest region of those that declare the name
pub sees_nearest : (s : Scopes) (name homes : List ℕ)
    → ((k : ℕ) → k < length s.entered → (declaration_at s k).name ≡ name → Contains homes (entered_at s k).region)
    → (first region : ℕ) → IsRun s.regions first region → SeesAs s name region (nearest region first homes)
sees_nearest s name homes all first region run =
    let within = nearest_within region first homes run.within in
    sees_out s name first (nearest region first homes) region run within.0 within.1
    (λ r below inside. bare_behind s name homes all r (λ c. elim (nearest_all region first homes run.within r c) [
      | inl le ↦ omega (arith, le, below)
      | inr lt ↦ omega (arith, lt, inside)
    ]))

-- ---- what hides all the rest

module _ (s : Scopes) where
  pub alone_of : (ks : List ℕ) → list_all (λ k. is_overloadable (declaration_at s k).class) ks ≡ false
      → (j : ℕ) × Contains ks j × (is_overloadable (declaration_at s j).class ≡ false)
  alone_of [] f = absurd (true≢false f)
  alone_of (k ∷ ks) f = elim (cases_Bool (is_overloadable (declaration_at s k).class)) [
    | inl over ↦ let rest = alone_of ks (sym (rw over refl) ∙ f) in (rest.0, cons_there k ks rest.0 rest.1, rest.2)
    | inr alone ↦ (k, cons_here k ks, alone)
  ]

  none_apart : (others : List ℕ) (j : ℕ) → Contains others j → is_overloadable (declaration_at s j).class ≡ false → (k : ℕ) → apart_from s others k ≡ false
  none_apart others j c alone k = elim (cases_Bool (apart_from s others k)) [
    | inl t ↦ absurd (true≢false (sym (and_parts _ _ (and_parts _ _ (from_all (λ j. apart s (declaration_at s k) (declaration_at s j)) others t j c)).1).0 ∙ alone))
    | inr f ↦ f
  ]

  filter_none : (p : ℕ → Bool) → ((k : ℕ) → p k ≡ false) → (ks : List ℕ) → filter p ks ≡ []
  filter_none p none [] = refl
  filter_none p none (k ∷ ks) = rw (none k) (filter_none p none ks)

  filter_whole : (ks : List ℕ) → filter (apart_from s []) ks ≡ ks
  filter_whole [] = refl
  filter_whole (k ∷ ks) = ap (λ xs. k ∷ xs) (filter_whole ks)

  none_direct : (name inner : List ℕ) (j : ℕ) → Contains inner j → is_overloadable (declaration_at s j).class ≡ false
      → (regions : List ℕ) → direct_from s name inner regions ≡ []
  none_direct name inner j c alone [] = refl
  none_direct name inner j c alone (r ∷ regions) =
      ap (λ ks. ks ++ direct_from s name (inner ++ declared_in s name r) regions)
      (filter_none (apart_from s inner) (none_apart inner j c alone) (declared_in s name r))
      ∙ none_direct name (inner ++ declared_in s name r) j (Contains-append_left inner (declared_in s name r) j c) alone regions

  none_by_use : (around ks : List ℕ) (j : ℕ) → Contains around j → is_overloadable (declaration_at s j).class ≡ false → by_use_among s around ks ≡ []
  none_by_use around ks j c alone =
      filter_none (λ k. apart_from s around k && is_alone s ks k)
      (λ k. ap (λ b. b && is_alone s ks k) (none_apart around j c alone k)) ks

  module _ (name : List ℕ) (region start : ℕ) (same : SeesAs s name region start) where
    -- where these are what use clauses give
    module _ (ks : List ℕ) (has : (k : ℕ) → Contains ks k → IsGiven s region name k) (all : (k : ℕ) → IsGiven s region name k → Contains ks k) where
      pub visible_with : (found : List ℕ) → found ≡ direct_from s name [] (chain s start) ++ by_use_among s (round s name (chain s start)) ks
          → (k : ℕ) → Contains found k ↔ IsVisible s region name k
      visible_with found is k =
          let listed : found ≡ direct_from s name [] (chain s region) ++ by_use_among s (round s name (chain s region)) ks =
          is ∙ ap (λ xs. xs ++ by_use_among s (round s name (chain s start)) ks) (sym (same.direct []))
          ∙ ap (λ xs. direct_from s name [] (chain s region) ++ by_use_among s xs ks) (sym same.around) in (
            λ c. from_visible s name region ks has all k (subst (λ xs. Contains xs k) listed c),
            λ v. subst (λ xs. Contains xs k) (sym listed) (in_visible s name region ks has all k v),
          )

    pub visible_without : (found : List ℕ) → found ≡ direct_from s name [] (chain s start)
        → list_all (λ k. is_overloadable (declaration_at s k).class) (round s name (chain s start)) ≡ false
        → (k : ℕ) → Contains found k ↔ IsVisible s region name k
    visible_without found is some =
        let alone = alone_of (round s name (chain s start)) some in
        let ks = given s name (chain s region) in
        visible_with ks (from_given s name region) (in_given s name region) found
        (is ∙ sym (append-nil (direct_from s name [] (chain s start)))
        ∙ ap (λ xs. direct_from s name [] (chain s start) ++ xs) (sym (none_by_use (round s name (chain s start)) ks alone.0 alone.1 alone.2)))

    pub visible_at_once : (found : List ℕ) → found ≡ declared_in s name start
        → list_all (λ k. is_overloadable (declaration_at s k).class) found ≡ false
        → (k : ℕ) → Contains found k ↔ IsVisible s region name k
    visible_at_once found is some =
        let alone = alone_of found some in
        let ks = given s name (chain s region) in
        let rest = continued s start ++ (if start == 0 then [] else chain_of start s (region_at s start).outer) in
        let here : Contains (declared_in s name start) alone.0 = subst (λ xs. Contains xs alone.0) is alone.1 in
        let around : Contains (round s name (chain s start)) alone.0 =
        Contains-append_left (declared_in s name start) (round s name rest) alone.0 here in
        let direct : direct_from s name [] (chain s start) ≡ declared_in s name start =
        ap (λ xs. xs ++ direct_from s name (declared_in s name start) rest) (filter_whole (declared_in s name start))
        ∙ ap (λ xs. declared_in s name start ++ xs) (none_direct name (declared_in s name start) alone.0 here alone.2 rest)
        ∙ append-nil (declared_in s name start) in
        visible_with ks (from_given s name region) (in_given s name region) found
        (is ∙ sym direct ∙ sym (append-nil (direct_from s name [] (chain s start)))
        ∙ ap (λ xs. direct_from s name [] (chain s start) ++ xs) (sym (none_by_use (round s name (chain s start)) ks alone.0 around alone.2)))
