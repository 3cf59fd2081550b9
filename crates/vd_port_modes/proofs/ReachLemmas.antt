-- Fields of names.
use Rattle.std.proofs.Common.{◌≡◌, ◌++◌, Bor, List, [], ◌∷◌, refl, ap, ℕ}
use Rattle.vd_port_modes.specs.Readings.{read_fields}

pub fields_behind : (xs : List (Bor (List ℕ))) (x : Bor (List ℕ)) → read_fields (xs ++ x ∷ []) ≡ read_fields xs ++ x.now ∷ []
fields_behind [] x = refl
fields_behind (y ∷ ys) x = ap (λ zs. y.now ∷ zs) (fields_behind ys x)
