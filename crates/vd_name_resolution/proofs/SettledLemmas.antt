-- The declarations of a design, settled one by one.
use Rattle.std.proofs.Common.{◌≡◌, ◌<◌, ◌+◌, ◌++◌, ℕ, List, [], ◌∷◌, length, drop, get_or, map, sym, ap, ◌∙◌, append_assoc}
use Rattle.std.proofs.lemmas.List.{drop_more}
use Rattle.vd_declarations.specs.declared.declarations.Declaration.{Declaration}
use Rattle.vd_regions.specs.Scopes.{nothing_entered}
use Rattle.vd_regions.specs.declared.entries.Entered.{Entered}
use Rattle.vd_name_rows.specs.declared.notes.Taken.{Taken}
use Rattle.vd_naming.specs.Settled.{settled_declaration}

abbrev pub settle : List Taken → Entered → Declaration
settle ts e = settled_declaration ts e.declaration

pub settled_step : (ts : List Taken) (next : ℕ) (es : List Entered) (made made' whole : List Declaration) → next < length es
    → made' ≡ made ++ settled_declaration ts (get_or es next nothing_entered).declaration ∷ []
    → made ++ map (λ e. settled_declaration ts e.declaration) (drop next es) ≡ whole
    → made' ++ map (λ e. settled_declaration ts e.declaration) (drop (next + 1) es) ≡ whole
settled_step ts next es made made' whole within is so_far =
    let x = settle ts (get_or es next nothing_entered) in
    ap (λ xs. xs ++ map (settle ts) (drop (next + 1) es)) is
    ∙ append_assoc made (x ∷ []) (map (settle ts) (drop (next + 1) es))
    ∙ sym (ap (λ xs. made ++ map (settle ts) xs) (drop_more es next nothing_entered within))
    ∙ so_far
