-- The earliest timeout of one process more.
use Rattle.std.proofs.Common.{◌≡◌, ℕ, ◌+◌, ◌<◌, List, [], ◌∷◌, ◌++◌, length, take, get_or, Option, Some, None, map, refl, sym, ap, ◌∙◌, append-nil}
use Rattle.std.specs.Prelude.{flat_map, option_to_list}
use Rattle.std.proofs.lemmas.List.{take_more, map-append}
use Rattle.std.proofs.lemmas.Grind.{flat_map-append}
use Rattle.vd_kernel.specs.Models.{Paused}
use Rattle.vd_kernel.specs.Cycles.{least}
use Rattle.vd_kernel.specs.Simulated.{earlier_of}
use Rattle.vd_kernel.proofs.EarliestTimes.{least_append}

least_one : (o : Option ℕ) → least (option_to_list o) ≡ o
least_one None = refl
least_one (Some t) = refl

module _ {A S : Type 0} (pa : A → Paused S) where
  abbrev timeouts : List (Paused S) → List ℕ
  timeouts ps = flat_map (λ p. option_to_list p.timeout) ps

  pub timeouts_more : (i : ℕ) (ws : List A) (w : A) → i < length ws → w ≡ get_or ws i w → earlier_of (least (timeouts (map pa (take i ws)))) (pa w).timeout ≡ least (timeouts (map pa (take (i + 1) ws)))
  timeouts_more i ws w h at =
      let o = (pa w).timeout in
      let before = timeouts (map pa (take i ws)) in
      ap (earlier_of (least before)) (sym (least_one o))
      ∙ sym (least_append before (option_to_list o))
      ∙ ap (λ ts. least (before ++ ts)) (sym (append-nil (option_to_list o)))
      ∙ ap least (sym (flat_map-append (λ p. option_to_list p.timeout) (map pa (take i ws)) (pa w ∷ [])))
      ∙ ap (λ ps. least (timeouts ps)) (sym (map-append pa (take i ws) (w ∷ [])))
      ∙ ap (λ x. least (timeouts (map pa (take i ws ++ x ∷ [])))) at
      ∙ ap (λ xs. least (timeouts (map pa xs))) (sym (take_more ws i w h))
