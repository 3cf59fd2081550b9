-- Heads decide.
use Rattle.std.proofs.Common.{◌≡◌, ℕ, zero, suc, refl, ap, Some, None}
use Rattle.vd_values.specs.declared.scalar.Scalar.{Scalar}
use Rattle.vd_composites.specs.Composites.{Value, One, Array, Fields}
use Rattle.vd_composites.specs.Subtypes.{Subtype, Scalars, Arrays, Records, Subtypes, no_more, and_more, number_of, fit}
use Rattle.vd_subtypes.specs.Heads.{head_of, fit_head}

pub fits_by_head : (s : Subtype) (v : Value Scalar) → fit s v ≡ fit_head (head_of s) v
fits_by_head (Scalars s) (One x) = refl
fits_by_head (Scalars s) (Array b vs) = refl
fits_by_head (Scalars s) (Fields vs) = refl
fits_by_head (Arrays index None e) (One x) = refl
fits_by_head (Arrays index None e) (Array b vs) = refl
fits_by_head (Arrays index None e) (Fields vs) = refl
fits_by_head (Arrays index (Some b) e) (One x) = refl
fits_by_head (Arrays index (Some b) e) (Array c vs) = refl
fits_by_head (Arrays index (Some b) e) (Fields vs) = refl
fits_by_head (Records fields) (One x) = refl
fits_by_head (Records fields) (Array b vs) = refl
fits_by_head (Records fields) (Fields vs) = refl

-- record subtypes of so many fields, and some index
abbrev pub fields_of : ℕ → Subtypes
fields_of zero = no_more
fields_of (suc n) = and_more (Records no_more) (fields_of n)

pub fields_long : (n : ℕ) → number_of (fields_of n) ≡ n
fields_long zero = refl
fields_long (suc n) = ap suc (fields_long n)
