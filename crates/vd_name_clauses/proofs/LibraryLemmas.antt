-- Clauses of contexts that stand once more where those are named.
use Rattle.std.proofs.Common.{◌≡◌, ℕ, List, [], ◌∷◌, Some, slice_index_or, refl, ap, ◌∙◌}
use Rattle.vd_regions.specs.Scopes.{declaration_at, no_region, region_at, with_clauses}
use Rattle.vd_name_rows.specs.Designs.{Design, with_scopes}
use Rattle.vd_name_rows.specs.Entering.{entering}
use Rattle.vd_name_rows.specs.Members.{declared_in}
use Rattle.vd_name_rows.specs.declared.sorts.Sort.TheVariants as sort
use Rattle.vd_naming.specs.Units.{entering_libraries, clauses_again}

-- no region is changed where libraries are entered
regions_kept : (region : ℕ) (ks : List ℕ) (d : Design) → (entering_libraries region ks d).design.scopes.regions ≡ d.scopes.regions
regions_kept region [] d = refl
regions_kept region (k ∷ ks) d = regions_kept region ks (entering region (declaration_at d.scopes k) d).design

abbrev pub with_libraries : ℕ → ℕ → Design → Design
with_libraries region context d = (entering_libraries region (declared_in context sort.Any d) d).design

abbrev pub with_uses : ℕ → ℕ → Design → Design
with_uses region context d = with_scopes d (with_clauses region (region_at d.scopes context).uses d.scopes)

pub again_is : (region context : ℕ) (d e f : Design) → e ≡ with_libraries region context d → f ≡ with_uses region context e
    → f ≡ clauses_again region (Some context) d
again_is region context d e f entered repeated =
    let again : Design = with_libraries region context d in
    repeated ∙ ap (with_uses region context) entered
    ∙ ap (λ regions. with_scopes again (with_clauses region (slice_index_or regions context no_region).uses again.scopes))
    (regions_kept region (declared_in context sort.Any d) d)
