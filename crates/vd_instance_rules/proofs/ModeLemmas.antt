-- Conversions of signals as actuals.
use Rattle.std.proofs.Common.{◌&&◌, ◌==◌, ◌≡◌, ◌∙◌, ◌∷◌, Bool, Bor, List, [], ap, false, if◌then◌else◌, length, not, refl, suc, sym, true, ℕ}
use Rattle.vd_bytes.specs.declared.places.Place.{Place}
use Rattle.vd_meaning.specs.Building.{Mode}
use Rattle.vd_instance_rules.specs.Instances.{converted_output}
use Rattle.vd_meaning.specs.Tables.{is_vector}
use Rattle.vd_port_modes.specs.Readings.{read_fields, read_reached}
use Rattle.vd_port_modes.specs.declared.reaching.Reached.{Reached as WrittenReached}
use Rattle.vd_value_rules.specs.Groups.{firsts_of}
use Rattle.vd_value_rules.specs.Actuals.{is_part_of_view, takes_conversion}
use Rattle.vd_value_rules.specs.Designs.{Design}
use Rattle.vd_value_rules.specs.Judging.{refused_if}
use Rattle.vd_value_rules.specs.Names.{may_be_driven, names_view_port}
use Rattle.vd_value_rules.specs.Reaching.{Reached}

module _ (d : Design) (m : Mode) (mark : ℕ) (place : Place) (r : Reached) (association : Place) (b : Bool) (is : b ≡ (takes_conversion d.revision m && is_vector mark)) where
  pub of_conversion : b ≡ true → firsts_of (refused_if (not (may_be_driven d r)) place 402) ≡ firsts_of (converted_output d m mark place r association)
  of_conversion holds =
      ap (λ c. firsts_of (if c then refused_if (not (may_be_driven d r)) place 402 else refused_if true association 310)) (sym holds ∙ is)

  pub of_no_conversion : b ≡ false → firsts_of (refused_if true association 310) ≡ firsts_of (converted_output d m mark place r association)
  of_no_conversion holds =
      ap (λ c. firsts_of (if c then refused_if (not (may_be_driven d r)) place 402 else refused_if true association 310)) (sym holds ∙ is)

-- ---- names with fields

read_length : (xs : List (Bor (List ℕ))) → length (read_fields xs) ≡ length xs
read_length [] = refl
read_length (x ∷ xs) = ap suc (read_length xs)

-- a name with a view has fields where it has some as it is written
pub part_of_view : (d : Design) (r : WrittenReached) (viewed empty : Bool) → viewed ≡ names_view_port d (read_reached r) → viewed ≡ true
    → empty ≡ (length r.fields.items == 0) → not empty ≡ is_part_of_view d (read_reached r)
part_of_view d r viewed empty viewed_is holds empty_is =
    ap not (empty_is ∙ ap (λ n. n == 0) (sym (read_length r.fields.items)))
    ∙ ap (λ b. b && not (length (read_fields r.fields.items) == 0)) (sym holds ∙ viewed_is)
