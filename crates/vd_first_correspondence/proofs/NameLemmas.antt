-- Names that are declared once stand at one place.
use Rattle.std.proofs.Common.{◌≡◌, ℕ, zero, suc, List, [], ◌∷◌, ◌++◌, map, Some, refl, sym, ap, subst}
use Rattle.std.specs.Prelude.{slice_get, Contains}
use Rattle.std.proofs.lemmas.List.{map-append}
use Rattle.std.proofs.lemmas.List.Elements.{Contains-append_left, Contains-push}
use Rattle.vd_first_lex.specs.declared.tokens.Token.{Token}
use Rattle.vd_first_grammar.specs.Derivations.{File, ports_of}
use Rattle.vd_first_grammar.specs.Conditions.{texts_of, port_names as declared_names, taken_names, AreNew, MeetsConditions}
use Rattle.vd_first_elaboration.specs.Ports.{Port}
use Rattle.vd_first_correspondence.proofs.WholeMapLemmas.{HaveOwnNames, same_some, element_there}

not_before : (before ts : List (List ℕ)) → AreNew before ts → (k : ℕ) (x : List ℕ) → slice_get ts k ≡ Some x → Contains before x → ⊥
not_before before [] n k x e c = cc
not_before before (t ∷ ts) n zero x e c = n.0 (subst (Contains before) (sym (same_some t x e)) c)
not_before before (t ∷ ts) n (suc k) x e c = not_before (before ++ t ∷ []) ts n.1 k x e (Contains-append_left before (t ∷ []) x c)

-- behind a name it doesn't stand again
not_again : (before : List (List ℕ)) (t : List ℕ) (ts : List (List ℕ)) → AreNew (before ++ t ∷ []) ts → (k : ℕ) (x : List ℕ) → t ≡ x → slice_get ts k ≡ Some x → ⊥
not_again before t ts n k x same e = not_before (before ++ t ∷ []) ts n k x e (subst (Contains (before ++ t ∷ [])) same (Contains-push before t))

at_one_place : (before ts : List (List ℕ)) → AreNew before ts → (i j : ℕ) (x : List ℕ) → slice_get ts i ≡ Some x → slice_get ts j ≡ Some x → i ≡ j
at_one_place before [] n i j x d e = cc
at_one_place before (t ∷ ts) n zero zero x d e = refl
at_one_place before (t ∷ ts) n zero (suc j) x d e = absurd (not_again before t ts n.1 j x (same_some t x d) e)
at_one_place before (t ∷ ts) n (suc i) zero x d e = absurd (not_again before t ts n.1 i x (same_some t x e) d)
at_one_place before (t ∷ ts) n (suc i) (suc j) x d e = ap suc (at_one_place (before ++ t ∷ []) ts n.1 i j x d e)

new_front : (before xs ys : List (List ℕ)) → AreNew before (xs ++ ys) → AreNew before xs
new_front before [] ys n = tt
new_front before (x ∷ xs) ys n = (n.0, new_front (before ++ x ∷ []) xs ys n.1)

own_if_new : (before : List (List ℕ)) (ports : List Port) → AreNew before (map (λ (p : Port). p.name) ports) → HaveOwnNames ports
own_if_new before ports n i j a b d e same =
    at_one_place before (map (λ (p : Port). p.name) ports) n i j a.name
    (element_there (λ (p : Port). p.name) ports i a d)
    (subst (λ x. slice_get (map (λ (p : Port). p.name) ports) j ≡ Some x) (sym same) (element_there (λ (p : Port). p.name) ports j b e))

-- the ports of a file that meets the conditions have names that differ
pub own_names : (f : File) → MeetsConditions f → (ports : List Port) → map (λ (p : Port). p.name) ports ≡ texts_of (declared_names (ports_of f)) → HaveOwnNames ports
own_names f m ports e =
    let before = taken_names ++ f.entity.text ∷ [] in
    let all : AreNew before (texts_of (declared_names (ports_of f)) ++ f.architecture.text ∷ []) =
    subst (AreNew before) (map-append (λ (t : Token). t.text) (declared_names (ports_of f)) (f.architecture ∷ [])) m.declared.1 in
    own_if_new before ports (subst (AreNew before) (sym e) (new_front before (texts_of (declared_names (ports_of f))) (f.architecture.text ∷ []) all))
