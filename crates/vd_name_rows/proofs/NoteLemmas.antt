-- Notes at their numbers.
use Rattle.std.proofs.Common.{◌≡◌, ◌<◌, ◌≤◌, ◌++◌, ℕ, zero, suc, List, [], ◌∷◌, length, refl, ap, arith}
use lib.ListN.{set}
use Rattle.vd_name_rows.specs.declared.notes.Note.{Note}
use Rattle.vd_name_rows.specs.Designs.{put_note, no_note}

-- where there is room, the note is set
pub put_within : (k : ℕ) (note : Note) (ns : List Note) → k < length ns → put_note k note ns ≡ set ns k note
put_within k note [] within = absurd (omega (arith, within))
put_within zero note (n ∷ ns) within = refl
put_within (suc k) note (n ∷ ns) within = ap (λ ms. n ∷ ms) (put_within k note ns (omega (arith, within)))

-- what stands behind the last note is none
pub put_behind : (k : ℕ) (note : Note) (ns : List Note) → length ns ≤ k → put_note k note (ns ++ no_note ∷ []) ≡ put_note k note ns
put_behind zero note [] within = refl
put_behind (suc k) note [] within = refl
put_behind zero note (n ∷ ns) within = absurd (omega (arith, within))
put_behind (suc k) note (n ∷ ns) within = ap (λ ms. n ∷ ms) (put_behind k note ns (omega (arith, within)))
