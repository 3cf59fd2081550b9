-- Types of parameters.
use Rattle.std.proofs.Common.{◌≡◌, ℕ, false, List, map, length, sym, ◌∙◌}
use Rattle.std.proofs.lemmas.List.{length-map}
use Rattle.vd_regions.specs.Scopes.{Scopes}
use Rattle.vd_regions.specs.Homographs.{type_of}
use Rattle.vd_regions.proofs.ProfileLemmas.{of_other_lengths as profiles_of_other_lengths}
use Rattle.vd_naming.specs.Functions.{mark_as_in}
use Rattle.vd_name_functions.specs.Headers.{same_types_as}

-- lists of other lengths aren't the same
pub of_other_lengths : (first end other : ℕ) (s : Scopes) (one two : List ℕ) → (length one ≡ length two → ⊥) → same_types_as first end other s one two ≡ false
of_other_lengths first end other s one two differ =
    profiles_of_other_lengths (mark_as_in first end other) (type_of s) (map (type_of s) one) two (λ e. differ (sym (length-map one (type_of s)) ∙ e))
