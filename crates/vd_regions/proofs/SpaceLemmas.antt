-- Writes to one region.
use Rattle.std.proofs.Common.{◌≡◌, ◌<◌, ℕ, List, map, length, get_or, sym, ap, subst, ◌∙◌, arith, Result, Ok, Err, OnErr}
use Rattle.std.proofs.lemmas.List.{get_or-map, map-set, length-map, set-get_or}
use lib.ListN.{set}
use Rattle.vd_regions.specs.declared.entries.Entered.{Entered}
use Rattle.vd_regions.specs.declared.entries.Space.{Space}
use Rattle.vd_regions.specs.Scopes.{Scopes, Region, region_at, no_region}
use Rattle.vd_regions.specs.Links.{region_of}

-- what contracts see of these declarations and regions
abbrev pub seen : List Entered → List Space → Scopes
seen es spaces = record { entered = es; regions = map region_of spaces }

pub written : (es : List Entered) (spaces : List Space) (s : Scopes) (r : ℕ) (p q : Space) (change : Region → Region)
    → seen es spaces ≡ s → r < length spaces → p ≡ get_or spaces r p → region_of q ≡ change (region_of p)
    → (let w : Scopes = record { entered = s.entered; regions = set s.regions r (change (region_at s r)) } in seen es (set spaces r q) ≡ w)
written es spaces s r p q change view within read changed =
    let P : Scopes → Type 0 = λ s.
    (let w : Scopes = record { entered = s.entered; regions = set s.regions r (change (region_at s r)) } in seen es (set spaces r q) ≡ w) in
    subst P view
    (ap (λ rs. let v : Scopes = record { entered = es; regions = rs } in v)
    (map-set region_of spaces r q
    ∙ ap (set (map region_of spaces) r)
    (changed ∙ ap change (ap region_of read ∙ sym (get_or-map region_of spaces r p no_region within)))))

pub within_spaces : (es : List Entered) (spaces : List Space) (s : Scopes) (r : ℕ) → seen es spaces ≡ s → r < length s.regions → r < length spaces
within_spaces es spaces s r view within = omega (arith, within, ap (λ (s : Scopes). length s.regions) view, length-map spaces region_of)

-- a write of what was there
pub rewritten : (es : List Entered) (spaces : List Space) (s : Scopes) (r : ℕ) (p q : Space)
    → seen es spaces ≡ s → r < length spaces → p ≡ get_or spaces r p → region_of q ≡ region_of p → seen es (set spaces r q) ≡ s
rewritten es spaces s r p q view within read same =
    written es spaces s r p q (λ x. x) view within read same
    ∙ ap (λ rs. let v : Scopes = record { entered = s.entered; regions = rs } in v) (set-get_or s.regions r no_region)

-- as the code writes, with the number that it read
pub written_at : (es : List Entered) (spaces : List Space) (s : Scopes) (r n : ℕ) (p q : Space) (change : Region → Region)
    → seen es spaces ≡ s → r < length s.regions → n ≡ r → p ≡ get_or spaces n p → region_of q ≡ change (region_of p)
    → (let w : Scopes = record { entered = s.entered; regions = set s.regions r (change (region_at s r)) } in seen es (set spaces n q) ≡ w)
written_at es spaces s r n p q change view within same read changed =
    ap (λ m. seen es (set spaces m q)) same
    ∙ written es spaces s r p q change view (within_spaces es spaces s r view within) (read ∙ ap (λ m. get_or spaces m p) same) changed

pub rewritten_at : (es : List Entered) (spaces : List Space) (s : Scopes) (r n : ℕ) (p q : Space)
    → seen es spaces ≡ s → r < length s.regions → n ≡ r → p ≡ get_or spaces n p → region_of q ≡ region_of p → seen es (set spaces n q) ≡ s
rewritten_at es spaces s r n p q view within same read is =
    ap (λ m. seen es (set spaces m q)) same
    ∙ rewritten es spaces s r p q view (within_spaces es spaces s r view within) (read ∙ ap (λ m. get_or spaces m p) same) is

-- what holds anyway holds on an Err
pub on_err : {T E P : Type 0} (r : Result T E) → P → OnErr r P
on_err (Ok x) p = tt
on_err (Err e) p = p
