-- What stands in a region under a name: the newest first, and in the order in which it was entered.
use Rattle.std.proofs.Common.{◌≡◌, ◌<◌, ◌≤◌, ◌+◌, ◌++◌, ◌==◌, ◌&&◌, ℕ, zero, suc, true, false, Bool, List, [], ◌∷◌, length, take, drop, get_or, reverse, cond, refl, sym, ap, ◌∙◌, arith, append-nil}
use Rattle.std.specs.List.{filter}
use Rattle.std.specs.Str.{bytes_eq}
use Rattle.std.proofs.lemmas.Grind.{reverse_onto}
use Rattle.std.proofs.lemmas.List.{drop_more, take_all}
use Rattle.std.proofs.lemmas.List.Elements.{filter-append}
use Rattle.vd_regions.specs.Scopes.{nothing_entered, stands_in}
use Rattle.vd_regions.specs.Found.{entered_below, entered_in}
use Rattle.vd_regions.specs.declared.entries.Entered.{Entered}
use Rattle.vd_name_rows.proofs.MemberLemmas.{front, next_member}
use Rattle.vd_name_rows.specs.Designs.{Design}
use Rattle.vd_name_rows.specs.Members.{numbers_in}
use Rattle.vd_naming.specs.Units.{is_named, first_of}

-- one more at the end of what is turned round
pub turned_more : (xs : List ℕ) (m n d : ℕ) → n ≡ m + 1 → m < length xs → reverse (drop m xs) ≡ reverse (drop n xs) ++ get_or xs m d ∷ []
turned_more xs m n d next within =
    ap reverse (drop_more xs m d within) ∙ reverse_onto (drop (m + 1) xs) (get_or xs m d) []
    ∙ ap (λ k. reverse (drop k xs) ++ get_or xs m d ∷ []) (sym next)

-- one entry more, which stands in the region or doesn't, and has the name or doesn't
one_entry : (b n : Bool) (p : ℕ → Bool) (k : ℕ) (newest oldest : List ℕ) → p k ≡ n → reverse newest ≡ filter p oldest
    → reverse (cond (b && n) (k ∷ newest) newest) ≡ filter p (oldest ++ front b k [])
one_entry true true p k newest oldest named before =
    reverse_onto newest k [] ∙ ap (λ xs. xs ++ k ∷ []) before ∙ ap (λ c. filter p oldest ++ cond c (k ∷ []) []) (sym named)
    ∙ sym (filter-append p oldest (k ∷ []))
one_entry true false p k newest oldest named before =
    before ∙ sym (append-nil (filter p oldest)) ∙ ap (λ c. filter p oldest ++ cond c (k ∷ []) []) (sym named) ∙ sym (filter-append p oldest (k ∷ []))
one_entry false n p k newest oldest named before = before ∙ ap (filter p) (sym (append-nil oldest))

-- among the first entries
turned_below : (region : ℕ) (name : List ℕ) (es : List Entered) (k : ℕ) → k ≤ length es
    → reverse (entered_below (stands_in region name) es k)
    ≡ filter (λ j. bytes_eq (get_or es j nothing_entered).declaration.name name) (numbers_in region 0 (take k es))
turned_below region name es zero within = refl
turned_below region name es (suc k) within =
    one_entry ((get_or es k nothing_entered).region == region) (bytes_eq (get_or es k nothing_entered).declaration.name name)
    (λ j. bytes_eq (get_or es j nothing_entered).declaration.name name) k (entered_below (stands_in region name) es k) (numbers_in region 0 (take k es)) refl
    (turned_below region name es k (omega (arith, within)))
    ∙ ap (filter (λ j. bytes_eq (get_or es j nothing_entered).declaration.name name)) (sym (next_member region es k (omega (arith, within))))

-- the newest first, turned round
pub turned_in : (d : Design) (region : ℕ) (name : List ℕ)
    → reverse (entered_in d.scopes region name) ≡ filter (is_named d name) (numbers_in region 0 d.scopes.entered)
turned_in d region name =
    turned_below region name d.scopes.entered (length d.scopes.entered) (omega arith)
    ∙ ap (λ es. filter (is_named d name) (numbers_in region 0 es)) (take_all (length d.scopes.entered) d.scopes.entered (omega arith))

-- ---- two tests, in either order

front_swapped : (b c : Bool) (p q : ℕ → Bool) (x : ℕ) (xs ys : List ℕ) → p x ≡ b → q x ≡ c → filter p xs ≡ filter q ys
    → filter p (cond c (x ∷ xs) xs) ≡ filter q (cond b (x ∷ ys) ys)
front_swapped true true p q x xs ys is_p is_q before =
    ap (λ b. cond b (x ∷ filter p xs) (filter p xs)) is_p ∙ ap (λ zs. x ∷ zs) before ∙ ap (λ c. cond c (x ∷ filter q ys) (filter q ys)) (sym is_q)
front_swapped true false p q x xs ys is_p is_q before = before ∙ ap (λ c. cond c (x ∷ filter q ys) (filter q ys)) (sym is_q)
front_swapped false true p q x xs ys is_p is_q before = ap (λ b. cond b (x ∷ filter p xs) (filter p xs)) is_p ∙ before
front_swapped false false p q x xs ys is_p is_q before = before

filters_swap : (p q : ℕ → Bool) (xs : List ℕ) → filter p (filter q xs) ≡ filter q (filter p xs)
filters_swap p q [] = refl
filters_swap p q (x ∷ xs) = front_swapped (p x) (q x) p q x (filter q xs) (filter p xs) refl refl (filters_swap p q xs)

pub first_swapped : (p q : ℕ → Bool) (xs : List ℕ) → first_of (filter p (filter q xs)) ≡ first_of (filter q (filter p xs))
first_swapped p q xs = ap first_of (filters_swap p q xs)
