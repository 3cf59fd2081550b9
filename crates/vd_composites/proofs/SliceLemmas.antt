-- Slices as code takes them.
use Rattle.std.proofs.Common.{◌≡◌, ◌<◌, ◌≤◌, ℕ, zero, suc, ◌+◌, ◌-◌, true, false, List, [], ◌∷◌, length, take, drop, Some, refl, sym, ap, ◌∙◌, subst, arith}
use Rattle.std.proofs.lemmas.Bool.Decides.{nat_tests}
use Rattle.std.specs.Prelude.{Ok, Err, ◌==◌, if◌then◌else◌}
use Rattle.vd_values.specs.declared.scalar.Scalar.{Scalar}
use Rattle.vd_values.specs.declared.scalar.StopKind.TheVariants.{Range, Index}
use Rattle.vd_composites.specs.declared.ranges.Bounds.{Bounds}
use Rattle.vd_composites.specs.declared.nodes.Node.{Node}
use Rattle.vd_composites.specs.declared.nodes.Node.TheVariants.{Array as ArrayNode, Right}
use Rattle.vd_composites.specs.Ranges.{length_of, place_of}
use Rattle.vd_composites.specs.Composites.{Array, Items, count, without, first_of}
use Rattle.vd_composites.specs.Parts.{array_of, is_slice, AtSlice, part}
use Rattle.vd_composites.specs.Nodes.{read, after, value_in, slice_start}
use Rattle.vd_composites.specs.Answers.{HasItems}
use Rattle.vd_composites.proofs.ItemLemmas.{first_all}
use Rattle.vd_composites.proofs.NodeLemmas.{counted}
use Rattle.vd_composites.proofs.NodeSteps.{tail_of}
use Rattle.vd_composites.proofs.PartLaws.{lies}
use Rattle.vd_composites.proofs.StopLemmas.{if_true, same_test}
use Rattle.vd_composites.proofs.ValueLemmas.{IsArray}

start_by : (n p m : ℕ) → (0 < n → p + n ≤ m) → (if n == 0 then 0 else p) + n ≤ m
start_by zero p m h = omega arith
start_by (suc n) p m h = let e : (suc n == 0) ≡ false = grind (arith, nat_tests) in subst (λ b. (if b then 0 else p) + suc n ≤ m) (sym e) (h (omega arith))

pub start_fits : (b s : Bounds) → is_slice b s ≡ true → slice_start b s + length_of s ≤ length_of b
start_fits b s h = start_by (length_of s) (place_of b s.left) (length_of b) (lies b s h).ends

start_same : (n p : ℕ) (vs : Items Scalar) → first_of n (without (if n == 0 then 0 else p) vs) ≡ first_of n (without p vs)
start_same zero p vs = refl
start_same (suc n) p vs = let e : (suc n == 0) ≡ false = grind (arith, nat_tests) in ap (λ b. first_of (suc n) (without (if b then 0 else p) vs)) e

-- the nodes of the slice
pub slice_made : (ns : List Node) (b s : Bounds) (start items : ℕ) (made : List Node) → IsArray ns b → is_slice b s ≡ true → start ≡ slice_start b s → items ≡ length_of s →
    HasItems (ArrayNode s.left s.down ∷ Right s.right ∷ []) (take (length ns - 2) (drop 2 ns)) start items made → (after 1 made ≡ Some 0) × (part (AtSlice s) (value_in (read ns)) ≡ Ok (value_in (read made)))
slice_made ns b s start items made a is begin many h =
    let n = length_of s in
    let zero_more : n + 0 ≡ n = omega arith in
    let whole : after n h.body ≡ Some 0 = ap (λ m. after m h.body) (sym many) ∙ h.whole in
    let full : count (read h.body) ≡ n = counted n h.body whole in
    let vs = read (drop 2 ns) in
    let are : read h.body ≡ first_of n (without (place_of b s.left) vs) =
    h.are ∙ ap (λ m. first_of m (without start (read (take (length ns - 2) (drop 2 ns))))) many
    ∙ ap (λ m. first_of n (without m (read (take (length ns - 2) (drop 2 ns))))) begin
    ∙ ap (λ xs. first_of n (without (slice_start b s) (read xs))) (tail_of 2 ns)
    ∙ start_same n (place_of b s.left) vs in
    let made_is : value_in (read made) ≡ Array s (read h.body) = ap (λ xs. value_in (read xs)) h.behind ∙ ap (Array s) (first_all n (read h.body) (omega arith)) in (
      ap (after 1) h.behind ∙ ap (λ m. after m h.body) zero_more ∙ whole,
      ap (part (AtSlice s)) a.is
          ∙ if_true (is_slice b s) (array_of s (first_of n (without (place_of b s.left) vs))) (Err Index) is
          ∙ ap (array_of s) (sym are)
          ∙ if_true (count (read h.body) == n) (Ok (Array s (read h.body))) (Err Range) (same_test (count (read h.body)) n full)
          ∙ ap (λ v. Ok v) (sym made_is),
    )
