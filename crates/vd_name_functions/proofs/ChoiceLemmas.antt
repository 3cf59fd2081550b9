-- The declaration that a body belongs to, where those of its name are asked.
use Rattle.std.proofs.Common.{◌≡◌, ℕ, Bool, true, false, cond, ◌&&◌, List, [], ◌∷◌, Option, Some, None, option_to_list, refl, sym, ap, ◌∙◌}
use Rattle.std.specs.List.{filter}
use Rattle.std.specs.Option.{option_or}
use Rattle.vd_declarations.specs.declared.declarations.Declaration.{Declaration}
use Rattle.vd_regions.specs.Scopes.{declaration_at, region_at}
use Rattle.vd_name_rows.specs.declared.sorts.Sort.TheVariants as sort
use Rattle.vd_name_rows.specs.Designs.{At, Design}
use Rattle.vd_name_rows.specs.Members.{numbers_in, is_of, next_number}
use Rattle.vd_naming.specs.Functions.{first_that, round_of, first_in_regions, declaration_of_body}
use Rattle.vd_naming.specs.Units.{is_named}
use Rattle.vd_name_functions.specs.Headers.{is_open_for, is_open_function, first_open, first_open_in}

-- ---- the first that is of a kind, has a name and passes: those of the name are asked for the kind, or those of the kind for the name

abbrev choose : ℕ → Option ℕ → Bool → Option ℕ
choose k other b = cond b (Some k) other

chosen : (w n r : Bool) (k : ℕ) (t u : ℕ → Bool) (xs ys : List ℕ) → first_that t xs ≡ first_that u ys → t k ≡ (w && r) → u k ≡ (n && r)
    → first_that t (cond n (k ∷ xs) xs) ≡ first_that u (cond w (k ∷ ys) ys)
chosen true true true k t u xs ys again by_t by_u = ap (choose k (first_that t xs)) by_t ∙ sym (ap (choose k (first_that u ys)) by_u)
chosen true true false k t u xs ys again by_t by_u = ap (choose k (first_that t xs)) by_t ∙ again ∙ sym (ap (choose k (first_that u ys)) by_u)
chosen true false r k t u xs ys again by_t by_u = again ∙ sym (ap (choose k (first_that u ys)) by_u)
chosen false true r k t u xs ys again by_t by_u = ap (choose k (first_that t xs)) by_t ∙ again
chosen false false r k t u xs ys again by_t by_u = again

first_filtered : (written named rest : ℕ → Bool) (ks : List ℕ)
    → first_that (λ k. written k && rest k) (filter named ks) ≡ first_that (λ k. named k && rest k) (filter written ks)
first_filtered written named rest [] = refl
first_filtered written named rest (k ∷ ks) =
    chosen (written k) (named k) (rest k) k (λ j. written j && rest j) (λ j. named j && rest j) (filter named ks) (filter written ks)
    (first_filtered written named rest ks) refl refl

-- where those of the name in a region are asked
pub first_of_named : (d : Design) (first end : ℕ) (body : Declaration) (region : ℕ) (ks : List ℕ)
    → ks ≡ filter (is_named d body.name) (numbers_in region 0 d.scopes.entered)
    → first_that (is_open_function d first end body) ks ≡ first_open d first end body region
first_of_named d first end body region ks named =
    ap (first_that (is_open_function d first end body)) named
    ∙ first_filtered (λ k. is_of sort.WrittenFunction (declaration_at d.scopes k).class) (is_named d body.name) (is_open_for d first end body)
    (numbers_in region 0 d.scopes.entered)

-- ---- in a region, or else in what it continues

nothing_behind : (a : Option ℕ) → option_or a None ≡ a
nothing_behind None = refl
nothing_behind (Some k) = refl

module _ (at : At) (d : Design) (body : Declaration) where
  abbrev by_region : ℕ → Option ℕ
  by_region r = first_open d at.header (next_number d) body r

  behind : (continues : Option ℕ) → first_open_in d at.header (next_number d) body continues ≡ first_in_regions at d body (option_to_list continues)
  behind None = refl
  behind (Some r) = sym (nothing_behind (by_region r))

  pub by_regions : option_or (by_region (round_of d at.region)) (first_open_in d at.header (next_number d) body (region_at d.scopes (round_of d at.region)).continues)
      ≡ declaration_of_body at d body
  by_regions = ap (option_or (by_region (round_of d at.region))) (behind (region_at d.scopes (round_of d at.region)).continues)
