-- Lists of types.
use Rattle.std.proofs.Common.{◌≡◌, ◌≤◌, ◌+◌, ℕ, zero, suc, List, [], ◌∷◌, ◌++◌, length, refl, sym, ap, ◌∙◌, arith}
use Rattle.std.proofs.lemmas.List.Elements.{filter-append}
use Rattle.std.proofs.lemmas.List.{get_or_append_left}
use Rattle.vd_declarations.specs.Classes.{is_type}
use Rattle.vd_regions.specs.declared.entries.Entered.{Entered}
use Rattle.vd_regions.specs.Scopes.{Scopes, declaration_at, nothing_entered}
use Rattle.vd_visible.specs.Types.{numbers_below}
use Rattle.std.specs.Bool.{if◌then◌else◌}
use Rattle.vd_visible.specs.TypeLists.{types_below, type_at}

-- one declaration more
pub types_more : (s : Scopes) (n : ℕ) → types_below s (suc n) ≡ types_below s n ++ type_at s n
types_more s n = filter-append (λ k. is_type (declaration_at s k).class) (numbers_below n) (n ∷ [])

pub types_one_more : (s : Scopes) (n : ℕ) → types_below s (n + 1) ≡ types_below s n ++ type_at s n
types_one_more s n = let one : n + 1 ≡ suc n = omega arith in ap (types_below s) one ∙ types_more s n

pub types_stay_below : (s : Scopes) (later : List Entered) (n : ℕ) → n ≤ length s.entered
    → types_below (record s { entered = s.entered ++ later }) n ≡ types_below s n
types_stay_below s later zero within = refl
types_stay_below s later (suc n) within =
    let grown : Scopes = record s { entered = s.entered ++ later } in
    let same : declaration_at grown n ≡ declaration_at s n = ap (λ e. e.declaration) (get_or_append_left s.entered later nothing_entered n (omega (arith, within))) in
    types_more grown n
    ∙ ap (λ xs. xs ++ type_at grown n) (types_stay_below s later n (omega (arith, within)))
    ∙ ap (λ d. types_below s n ++ (if is_type d.class then n ∷ [] else [])) same
    ∙ sym (types_more s n)
