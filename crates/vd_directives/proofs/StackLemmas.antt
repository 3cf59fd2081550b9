-- A stack is kept with its innermost entry last.
use Rattle.std.proofs.Common.{◌≡◌, ◌<◌, ◌-◌, List, [], ◌∷◌, ◌++◌, length, get_or, reverse, Option, Some, None, refl, sym, ap, ◌∙◌, arith}
use Rattle.std.specs.Option.{is_none}
use Rattle.std.proofs.lemmas.List.{reverse-append, reverse-reverse, length-reverse, get_or_at}
use Rattle.vd_directives.specs.Stacks.{first_of, is_nil}

pub pushed : {T : Type 0} (items more : List T) (top : T) → more ≡ items ++ top ∷ [] → reverse more ≡ top ∷ reverse items
pushed items more top is = ap reverse is ∙ reverse-append items (top ∷ [])

pub nil_is : {T : Type 0} (xs : List T) (top : Option T) → top ≡ first_of xs → is_none top ≡ is_nil xs
nil_is [] top is = ap is_none is
nil_is (x ∷ xs) top is = ap is_none is

pub topped : {T : Type 0} (items : List T) (top : T) → 0 < length items → top ≡ get_or items (length items - 1) top → Some top ≡ first_of (reverse items)
topped {T} items top some read = by (reverse items) refl
  where
    by : (rs : List T) → reverse items ≡ rs → Some top ≡ first_of rs
    by [] is = absurd (omega (arith, length-reverse items, ap length is))
    by (y ∷ ys) is =
        let back : items ≡ reverse ys ++ y ∷ [] = sym (reverse-reverse items) ∙ ap reverse is ∙ reverse-append (y ∷ []) ys in
        let last : length items - 1 ≡ length (reverse ys) = omega (arith, length-reverse items, ap length is, length-reverse ys) in
        let e : get_or items (length items - 1) top ≡ y = ap (λ xs. get_or xs (length items - 1) top) back ∙ get_or_at (reverse ys) y [] top (length items - 1) (sym last) in
        ap Some (read ∙ e)

pub topped_none : {T : Type 0} (items : List T) → length items ≡ 0 → None ≡ first_of (reverse items)
topped_none [] none = refl
topped_none (x ∷ xs) none = absurd (omega arith)

pub popped_none : {T : Type 0} (items : List T) → length items ≡ 0 → reverse items ≡ []
popped_none [] none = refl
popped_none (x ∷ xs) none = absurd (omega arith)
