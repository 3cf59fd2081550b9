-- Where a text in marks ends.
use Rattle.std.proofs.Common.{◌≡◌, ℕ, suc, ◌+◌, ◌-◌, ◌<◌, ◌≤◌, Bool, true, false, cond, eqb, ◌&&◌, List, [], ◌∷◌, length, take, drop, get_or, Option, Some, None, refl, sym, ap, ◌∙◌, subst, arith}
use Rattle.std.proofs.lemmas.List.{drop_more, drop-drop, length-drop}
use Rattle.vd_literals.specs.declared.quoted.Before.{Before}
use Rattle.vd_literals.specs.declared.quoted.Before.TheVariants.{Start, Character, Underscore}
use Rattle.vd_literals.specs.declared.quoted.Role.{Role}
use Rattle.vd_literals.specs.declared.quoted.Role.TheVariants.{Stops, Ends, Goes, MayEnd, Doubled}
use Rattle.vd_literals.specs.Quoted.{marks_end, shifted, first_some, role_of}

-- an end that was met stands within the text
abbrev pub IsEnd : ℕ → Option ℕ → Type 0
IsEnd k None = Unit {0}
IsEnd k (Some n) = (0 < n) × (n ≤ k)

-- the end, by what the first byte is
abbrev pub by_role : Bool → List ℕ → Role → Option ℕ
by_role t bs Stops = None
by_role t bs Ends = Some 1
by_role t bs (Goes next) = shifted 1 (marks_end t next (drop 1 bs))
by_role t bs MayEnd = first_some (shifted 2 (marks_end t Character (drop 2 bs))) (Some 1)
by_role t bs Doubled = shifted 2 (marks_end t Character (drop 2 bs))

one_byte : (t : Bool) (b : ℕ) (r : Role) → (elim r as (λ _. Option ℕ) [ Stops ↦ None | Ends ↦ Some 1 | Goes next ↦ None | MayEnd ↦ Some 1 | Doubled ↦ None ]) ≡ by_role t (b ∷ []) r
one_byte t b Stops = refl
one_byte t b Ends = refl
one_byte t b (Goes next) = refl
one_byte t b MayEnd = refl
one_byte t b Doubled = refl

more_bytes : (t : Bool) (b c : ℕ) (cs : List ℕ) (r : Role)
    → (elim r as (λ _. Option ℕ) [
      | Stops ↦ None
      | Ends ↦ Some 1
      | Goes next ↦ shifted 1 (marks_end t next (c ∷ cs))
      | MayEnd ↦ first_some (shifted 2 (marks_end t Character cs)) (Some 1)
      | Doubled ↦ shifted 2 (marks_end t Character cs)
    ]) ≡ by_role t (b ∷ c ∷ cs) r
more_bytes t b c cs Stops = refl
more_bytes t b c cs Ends = refl
more_bytes t b c cs (Goes next) = refl
more_bytes t b c cs MayEnd = refl
more_bytes t b c cs Doubled = refl

pub marks_end-role : (t : Bool) (s : Before) (bs : List ℕ) → 0 < length bs → marks_end t s bs ≡ by_role t bs (role_of t s bs)
marks_end-role t s [] h = absurd (omega arith)
marks_end-role t s (b ∷ []) h = one_byte t b (role_of t s (b ∷ []))
marks_end-role t s (b ∷ c ∷ cs) h = more_bytes t b c cs (role_of t s (b ∷ c ∷ cs))

shifted_sum : (i k : ℕ) (o : Option ℕ) → shifted i (shifted k o) ≡ shifted (i + k) o
shifted_sum i k None = refl
shifted_sum i k (Some n) = ap Some (omega arith)

first_of_first : (i : ℕ) (o last : Option ℕ) → first_some (shifted i (first_some (shifted 2 o) (Some 1))) last ≡ first_some (shifted (i + 2) o) (Some (i + 1))
first_of_first i None last = refl
first_of_first i (Some n) last = ap Some (omega arith)

-- the end in what is left at a place, by what the byte there is
pub ends_at : (t : Bool) (s : Before) (xs : List ℕ) (i : ℕ) (r : Role) → i < length xs → role_of t s (drop i xs) ≡ r → marks_end t s (drop i xs) ≡ by_role t (drop i xs) r
ends_at t s xs i r h e = marks_end-role t s (drop i xs) (let d = length-drop i xs in omega (arith, d)) ∙ ap (by_role t (drop i xs)) e

pub next_end : (t : Bool) (next : Before) (xs : List ℕ) (i : ℕ) (last : Option ℕ)
    → first_some (shifted i (by_role t (drop i xs) (Goes next))) last ≡ first_some (shifted (i + 1) (marks_end t next (drop (i + 1) xs))) last
next_end t next xs i last =
    ap (λ o. first_some o last) (ap (λ ys. shifted i (shifted 1 (marks_end t next ys))) (drop-drop 1 i xs) ∙ shifted_sum i 1 (marks_end t next (drop (i + 1) xs)))

pub doubled_end : (t : Bool) (xs : List ℕ) (i : ℕ) (last : Option ℕ)
    → first_some (shifted i (by_role t (drop i xs) Doubled)) last ≡ first_some (shifted (i + 2) (marks_end t Character (drop (i + 2) xs))) last
doubled_end t xs i last =
    ap (λ o. first_some o last) (ap (λ ys. shifted i (shifted 2 (marks_end t Character ys))) (drop-drop 2 i xs) ∙ shifted_sum i 2 (marks_end t Character (drop (i + 2) xs)))

pub may_end : (t : Bool) (xs : List ℕ) (i : ℕ) (last : Option ℕ)
    → first_some (shifted i (by_role t (drop i xs) MayEnd)) last ≡ first_some (shifted (i + 2) (marks_end t Character (drop (i + 2) xs))) (Some (i + 1))
may_end t xs i last =
    ap (λ ys. first_some (shifted i (first_some (shifted 2 (marks_end t Character ys)) (Some 1))) last) (drop-drop 2 i xs)
    ∙ first_of_first i (marks_end t Character (drop (i + 2) xs)) last
