-- Literals of enumeration types, and tables of characters.
use Rattle.std.proofs.Common.{◌≡◌, ◌≢◌, ◌<◌, ◌-◌, ◌+◌, ℕ, zero, suc, ◌==◌, Bool, true, false, ◌||◌, List, [], ◌∷◌, length, get_or, set, refl, sym, ap, ◌∙◌, arith}
use Rattle.std.specs.List.{list_any}
use lib.ListN.{replicate}
use Rattle.std.proofs.lemmas.List.{get_or-set_same, get_or-set_other}
use Rattle.vd_visible.specs.Sights.{Sight}
use Rattle.vd_visible.specs.Types.{is_literal_of, is_character, has_character, literals_from}

-- ---- literals, one by one

no_literal : (s : Sight) (t n k : ℕ) → is_literal_of s t k ≡ false → literals_from s t n k ≡ []
no_literal s t zero k none = refl
no_literal s t (suc n) k none = ap (λ b. elim b [ true ↦ k ∷ literals_from s t n (k + 1) | false ↦ [] ]) none

some_literal : (s : Sight) (t n k : ℕ) → is_literal_of s t k ≡ true → literals_from s t (suc n) k ≡ k ∷ literals_from s t n (k + 1)
some_literal s t n k is = ap (λ b. elim b [ true ↦ k ∷ literals_from s t n (k + 1) | false ↦ [] ]) is

-- ---- marks in a table

or_true : (b : Bool) → (b || true) ≡ true
or_true true = refl
or_true false = refl

or_false : (b : Bool) → (b || false) ≡ b
or_false true = refl
or_false false = refl

or_assoc : (a b c : Bool) → ((a || b) || c) ≡ (a || (b || c))
or_assoc true b c = refl
or_assoc false b c = refl

-- a character is marked where it is one of a table in which that of a name is marked too
pub marked_character : (table : List Bool) (d c : ℕ) → d < length table
    → get_or (set table d true) c false ≡ (get_or table c false || (c == d))
marked_character table d c within = by_test (c == d) refl
  where
    by_test : (b : Bool) → (c == d) ≡ b → get_or (set table d true) c false ≡ (get_or table c false || b)
    by_test true e =
        let same : c ≡ d = grind (arith, e) in
        ap (λ i. get_or (set table d true) i false) same ∙ get_or-set_same table d true false within ∙ sym (or_true (get_or table c false))
    by_test false e =
        let other : c ≢ d = λ is. grind (arith, e, is) in
        get_or-set_other table d c true false other ∙ sym (or_false (get_or table c false))

pub not_marked : (table : List Bool) (c : ℕ) → get_or table c false ≡ (get_or table c false || false)
not_marked table c = sym (or_false (get_or table c false))

-- what is marked, and what stands among the literals from a number on, are together all characters of the type
abbrev pub AreMarked : Sight → ℕ → List Bool → ℕ → Type 0
AreMarked s t found next = (c : ℕ) → c < 256
    → (get_or found c false || list_any (is_character s c) (literals_from s t (4294967296 - next) next)) ≡ has_character s t c

pub none_marked : (s : Sight) (t : ℕ) (found : List Bool) → ((c : ℕ) → get_or found c false ≡ false) → AreMarked s t found (t + 1)
none_marked s t found none = λ c within. ap (λ b. b || has_character s t c) (none c)

pub one_more_marked : (s : Sight) (t : ℕ) (found found' : List Bool) (next : ℕ) → next < 4294967296 → is_literal_of s t next ≡ true
    → ((c : ℕ) → get_or found' c false ≡ (get_or found c false || is_character s c next)) → AreMarked s t found next
    → AreMarked s t found' (next + 1)
one_more_marked s t found found' next small is new marked = λ c within.
    let rest = 4294967296 - (next + 1) in
    let one : 4294967296 - next ≡ suc rest = omega arith in
    let tail = list_any (is_character s c) (literals_from s t rest (next + 1)) in
    let list : literals_from s t (4294967296 - next) next ≡ next ∷ literals_from s t rest (next + 1) =
    ap (λ n. literals_from s t n next) one ∙ some_literal s t rest next is in
    ap (λ b. b || tail) (new c) ∙ or_assoc (get_or found c false) (is_character s c next) tail
    ∙ ap (λ xs. get_or found c false || list_any (is_character s c) xs) (sym list) ∙ marked c within

pub all_marked : (s : Sight) (t : ℕ) (found : List Bool) (next : ℕ) → is_literal_of s t next ≡ false → AreMarked s t found next
    → (c : ℕ) → c < 256 → get_or found c false ≡ has_character s t c
all_marked s t found next none marked c within =
    sym (or_false (get_or found c false))
    ∙ ap (λ xs. get_or found c false || list_any (is_character s c) xs) (sym (no_literal s t (4294967296 - next) next none)) ∙ marked c within

pub all_passed : (s : Sight) (t : ℕ) (found : List Bool) (next : ℕ) → next ≡ 4294967296 → AreMarked s t found next
    → (c : ℕ) → c < 256 → get_or found c false ≡ has_character s t c
all_passed s t found next last marked c within =
    let none : 4294967296 - next ≡ 0 = omega arith in
    sym (or_false (get_or found c false))
    ∙ ap (λ n. get_or found c false || list_any (is_character s c) (literals_from s t n next)) (sym none) ∙ marked c within

pub ruleset marking = (none_marked, one_more_marked, all_marked, all_passed)

pub nothing_marked : (n c : ℕ) → get_or (replicate n false) c false ≡ false
nothing_marked zero c = refl
nothing_marked (suc n) zero = refl
nothing_marked (suc n) (suc c) = nothing_marked n c
