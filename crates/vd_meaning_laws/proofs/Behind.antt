-- Declarations behind those of a tree keep its traces.
use Rattle.std.proofs.Common.{◌≡◌, ◌<◌, ℕ, nat_lt, ◌==◌, ◌&&◌, Bool, true, false, List, [], ◌∷◌, ◌++◌, length, map, refl, sym, ap, ◌∙◌, subst, if◌then◌else◌, true≢false}
use Rattle.std.specs.List.{All}
use Rattle.vd_values.specs.declared.scalar.Scalar.{Scalar}
use Rattle.vd_declarations.specs.declared.declarations.Declaration.{Declaration}
use Rattle.vd_resolved.specs.Validity.{IsOwn}
use Rattle.vd_composites.specs.Composites.{Value}
use Rattle.vd_environments.specs.Environments.{Indicated, nothing_denoted}
use Rattle.vd_meaning.specs.Given.{denoted_in, marks}
use Rattle.vd_meaning.specs.Elaborations.{beginning, elaboration}
use Rattle.vd_meaning_laws.specs.Agreement.{Link}
use Rattle.vd_meaning_laws.specs.Appending.{moved, appended}
use Rattle.vd_meaning_laws.proofs.Appending.{stays, same_number, small, head_of, rest_of, some_given, is_apart, same_tables, own_trees}
use Rattle.vd_meaning_laws.specs.LawsOfElaboration.{generic_in, AlikeElaborations, KeepsGiven, DeclarationsBehindKeepTraces}
use Rattle.vd_meaning_laws.proofs.Trees.{all_elaborations}
use Rattle.vd_meaning_laws.proofs.Designs.{top_traces}

-- ---- the given marks are among the first declarations

abbrev are_small : List (ℕ × Indicated) → Bool
are_small [] = true
are_small (m ∷ ms) = nat_lt m.0 387 && are_small ms

first_of : (b c : Bool) → (b && c) ≡ true → b ≡ true
first_of true c h = refl
first_of false c h = h

then_of : (b c : Bool) → (b && c) ≡ true → c ≡ true
then_of true c h = h
then_of false c h = absurd (true≢false (sym h))

module _ (n m : ℕ) (far : (b : ℕ) → nat_lt b 387 ≡ true → b < n) where
  under : (b : ℕ) → nat_lt b 387 ≡ true → (k : ℕ) → (b == moved n m k) ≡ (b == k)
  under b h k = ap (λ j. j == moved n m k) (sym (stays n m b (far b h))) ∙ same_number n m b k

  denoted_same : (ms : List (ℕ × Indicated)) → are_small ms ≡ true → (k : ℕ) → denoted_in ms (moved n m k) ≡ denoted_in ms k
  denoted_same [] h k = refl
  denoted_same (x ∷ ms) h k =
      λ i. if under x.0 (first_of _ _ h) k i then record nothing_denoted { subtype = x.1.subtype; make = x.1.make } else denoted_same ms (then_of (nat_lt x.0 387) _ h) k i

  given_kept : KeepsGiven (appended n m (λ _. false) beginning.env.denotes)
  given_kept = record { same = λ i. record beginning.env { denotes = λ k. denoted_same marks refl k i }; keeps = λ k h. refl }

generics_stay : (ds : List Declaration) (l : Link) → ((k : ℕ) → k < length ds → l.number k ≡ k) → (gs : List (ℕ × Value Scalar)) → All (λ g. IsOwn ds g.0) gs → map (generic_in l) gs ≡ gs
generics_stay ds l stay [] h = refl
generics_stay ds l stay (g ∷ gs) h =
    λ i. (stay g.0 (head_of (λ g. IsOwn ds g.0) g gs h) i, g.1) ∷ generics_stay ds l stay gs (rest_of (λ g. IsOwn ds g.0) g gs h) i

pub kept_traces : DeclarationsBehindKeepTraces
kept_traces r tree new resolved counted top own given cycles =
    let ds = tree.declarations in
    let l = appended (length ds) (length new) (λ _. false) beginning.env.denotes in
    let numbers = is_apart (length ds) (length new) (λ _. false) beginning.env.denotes (some_given r (length ds) counted) in
    let after = record tree { declarations = ds ++ new } in
    top_traces l numbers (elaboration r tree top) (elaboration r after top)
    (subst (λ gs. AlikeElaborations l (elaboration r tree top) (elaboration r after (record top { generics = gs }))) (generics_stay ds l (λ k h. stays (length ds) (length new) k h) top.generics own)
    (all_elaborations l numbers
    (given_kept (length ds) (length new) (small r ds new (λ _. false) beginning.env.denotes counted resolved.declarations r (length ds) counted))
    r r tree after
    (same_tables r ds new (λ _. false) beginning.env.denotes counted resolved.declarations)
    (sym (own_trees ds (length new) (λ _. false) beginning.env.denotes tree.units resolved.nodes)) top))
    given cycles
