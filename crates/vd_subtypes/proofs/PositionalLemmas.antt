-- Values made values of a subtype one after another.
use Rattle.std.proofs.Common.{◌≡◌, ◌<◌, ℕ, suc, ◌+◌, List, ◌∷◌, get_or, length, drop, ◌≤◌, true, false, drop_of_length-le, refl, sym, ap, ◌∙◌, arith}
use Rattle.std.proofs.Math.Seq.{drop-cons}
use Rattle.std.specs.Prelude.{Ok, Err, ◌&&◌, if◌then◌else◌}
use Rattle.std.specs.List.{list_all}
use Rattle.vd_values.specs.declared.scalar.StopKind.TheVariants.{Index}
use Rattle.vd_composites.specs.declared.ranges.Bounds.{Bounds}
use Rattle.vd_composites.specs.Ranges.{lies_within}
use Rattle.vd_composites.specs.Aggregates.{bounds_with_others}
use Rattle.vd_values.specs.declared.scalar.Scalar.{Scalar}
use Rattle.vd_composites.specs.declared.ends.ValueEnd.{ValueEnd}
use Rattle.vd_composites.specs.declared.ends.ValueEnd.TheVariants.{Stop, Memory}
use Rattle.vd_composites.specs.Answers.{Ends}
use Rattle.vd_composites.specs.Stops.{OrStop, ◌>>=◌}
use Rattle.vd_composites.specs.Composites.{Value, Items, none, item, items_of, joined}
use Rattle.vd_composites.specs.Subtypes.{Subtype}
use Rattle.vd_composites.specs.Concatenations.{fit_each}
use Rattle.vd_composites.proofs.ItemLemmas.{joined_assoc, joined_none}
use Rattle.vd_subtypes.specs.declared.heads.SubtypeHead.{SubtypeHead}
use Rattle.vd_subtypes.specs.Heads.{head_of, fit_head}
use Rattle.vd_subtypes.specs.Positional.{fit_each_head}
use Rattle.vd_subtypes.proofs.HeadLemmas.{fits_by_head}

pub each_by_head : (s : Subtype) (vs : Items Scalar) → fit_each s vs ≡ fit_each_head (head_of s) vs
each_by_head s none = refl
each_by_head s (item v vs) = (λ i. fits_by_head s v i >>= λ w. fit_each s vs >>= λ ws. Ok (item w ws)) ∙ ap (λ g. fit_head (head_of s) v >>= λ w. g >>= λ ws. Ok (item w ws)) (each_by_head s vs)

split : (vs : List (Value Scalar)) (i : ℕ) (v : Value Scalar) → i < length vs → v ≡ get_or vs i v → drop i vs ≡ v ∷ drop (i + 1) vs
split vs i v below here = let same : suc i ≡ i + 1 = omega arith in drop-cons vs i v below ∙ (λ j. sym here j ∷ drop (same j) vs)

more_of : (g : OrStop (Items Scalar)) (made : Items Scalar) (w : Value Scalar) → ((g >>= λ ws. Ok (item w ws)) >>= λ ws. Ok (joined made ws)) ≡ (g >>= λ ws. Ok (joined (joined made (item w none)) ws))
more_of (Ok ws) made w = λ i. Ok (sym (joined_assoc made (item w none) ws) i)
more_of (Err e) made w = refl

-- one value more was made
pub one_fitted : (head : SubtypeHead) (made more : Items Scalar) (vs : List (Value Scalar)) (i : ℕ) (v w : Value Scalar) → i < length vs → v ≡ get_or vs i v → fit_head head v ≡ Ok w → more ≡ joined made (item w none) →
    (fit_each_head head (items_of (drop i vs)) >>= λ ws. Ok (joined made ws)) ≡ (fit_each_head head (items_of (drop (i + 1) vs)) >>= λ ws. Ok (joined more ws))
one_fitted head made more vs i v w below here e is =
    ap (λ us. fit_each_head head (items_of us) >>= λ ws. Ok (joined made ws)) (split vs i v below here)
    ∙ ap (λ g. (g >>= λ x. fit_each_head head (items_of (drop (i + 1) vs)) >>= λ ws. Ok (item x ws)) >>= λ ws. Ok (joined made ws)) e
    ∙ more_of (fit_each_head head (items_of (drop (i + 1) vs))) made w
    ∙ ap (λ us. fit_each_head head (items_of (drop (i + 1) vs)) >>= λ ws. Ok (joined us ws)) (sym is)

-- a value that stops, or memory that runs out
pub one_ends : (head : SubtypeHead) (made : Items Scalar) (vs : List (Value Scalar)) (i : ℕ) (v : Value Scalar) (end : ValueEnd) (all : OrStop (Items Scalar)) → i < length vs → v ≡ get_or vs i v → Ends end (fit_head head v) →
    (fit_each_head head (items_of (drop i vs)) >>= λ ws. Ok (joined made ws)) ≡ all → Ends end all
one_ends head made vs i v Memory all below here e same = tt
one_ends head made vs i v (Stop k) all below here e same =
    sym same ∙ ap (λ us. fit_each_head head (items_of us) >>= λ ws. Ok (joined made ws)) (split vs i v below here)
    ∙ ap (λ g. (g >>= λ x. fit_each_head head (items_of (drop (i + 1) vs)) >>= λ ws. Ok (item x ws)) >>= λ ws. Ok (joined made ws)) e

pub all_fitted : (head : SubtypeHead) (made : Items Scalar) (vs : List (Value Scalar)) (i : ℕ) (all : OrStop (Items Scalar)) → length vs ≤ i →
    (fit_each_head head (items_of (drop i vs)) >>= λ ws. Ok (joined made ws)) ≡ all → all ≡ Ok made
all_fitted head made vs i all end same =
    sym same ∙ ap (λ us. fit_each_head head (items_of us) >>= λ ws. Ok (joined made ws)) (drop_of_length-le vs end) ∙ (λ j. Ok (joined_none made j))

-- ---- choices

pub one_choice : (known : Bounds) (cs : List Bounds) (i : ℕ) (c : Bounds) → i < length cs → c ≡ get_or cs i c → lies_within known c ≡ true → bounds_with_others known (drop i cs) ≡ bounds_with_others known (drop (i + 1) cs)
one_choice known cs i c below here t = ap (bounds_with_others known) (drop-cons cs i c below ∙ (λ j. sym here j ∷ drop (suc i) cs) ∙ ap (λ k. c ∷ drop k cs) (let e : suc i ≡ i + 1 = omega arith in e))
    ∙ ap (λ b. if b && list_all (lies_within known) (drop (i + 1) cs) then Ok known else Err Index) t

pub wrong_choice : (known : Bounds) (cs : List Bounds) (i : ℕ) (c : Bounds) → i < length cs → c ≡ get_or cs i c → lies_within known c ≡ false → bounds_with_others known (drop i cs) ≡ Err Index
wrong_choice known cs i c below here t = ap (bounds_with_others known) (drop-cons cs i c below ∙ (λ j. sym here j ∷ drop (suc i) cs))
    ∙ ap (λ b. if b && list_all (lies_within known) (drop (suc i) cs) then Ok known else Err Index) t

pub no_choice : (known : Bounds) (cs : List Bounds) (i : ℕ) → length cs ≤ i → bounds_with_others known (drop i cs) ≡ Ok known
no_choice known cs i end = ap (bounds_with_others known) (drop_of_length-le cs end)
