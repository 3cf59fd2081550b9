-- One file alone.
use Rattle.std.proofs.Common.{ℕ, suc, zero, ◌<◌, [], ◌∷◌, get_or, arith}
use Rattle.vd_first_lex.specs.declared.selected.Selected.{Selected}
use Rattle.vd_first_lex.specs.Lexings.{ColumnsFit}

-- what is so of it is so of each of the files
pub fits_alone : (s : Selected) → ColumnsFit s → (k : ℕ) (d : Selected) → k < 1 → ColumnsFit (get_or (s ∷ []) k d)
fits_alone s fits zero d within = fits
fits_alone s fits (suc k) d within = absurd (omega (arith, within))
