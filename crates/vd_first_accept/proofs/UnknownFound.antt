-- What the search for an unknown name finds in a derivation.
use Rattle.std.proofs.Common.{◌≡◌, ℕ, Bool, true, false, List, [], ◌∷◌, ◌++◌, Option, Some, None, refl, sym, ap, ◌∙◌, subst}
use Rattle.std.specs.Prelude.{if◌then◌else◌, ◌||◌}
use Rattle.std.specs.List.{AllByRecursion}
use Rattle.std.specs.Str.{bytes_eq}
use Rattle.std.proofs.lemmas.Slice.Eq.{bytes_eq-Decides}
use Rattle.std.proofs.lemmas.List.Folds.{list_any-append}
use Rattle.std.proofs.lemmas.Map.Views.{list_any-from_Contains, Contains-from_any}
use Rattle.vd_bytes.specs.declared.places.Place.{Place}
use Rattle.vd_forest.specs.Texts.{with_text}
use Rattle.vd_first_lex.specs.declared.tokens.Token.{Token}
use Rattle.vd_first_grammar.specs.Derivations.{File, ports_of}
use Rattle.vd_first_grammar.specs.Conditions.{texts_of, port_names}
use Rattle.vd_first_grammar.specs.Refusals.{object_names, IsPortName, AllNamesKnown, IsFirstUnknown}
use Rattle.vd_first_grammar.specs.Shapes.{name_nodes, file_shape}
use Rattle.std.specs.Cmp.{IsEquivalence}
use Rattle.vd_first_passes.specs.Lowering.{names_in, is_among}
use Rattle.vd_first_accept.specs.Unknown.{with_all, first_outside, first_unknown}
use Rattle.vd_first_accept.proofs.UnknownLaws.{file_named, file_listed}

same_bytes : (x y : List ℕ) → bytes_eq x y ≡ true → x ≡ y
same_bytes x y e = (bytes_eq-Decides x y).0 e

-- a text that goes in is there, and the others are there as before
among_one : (b : Bool) (ts : List (List ℕ)) (x t : List ℕ) → is_among ts x ≡ b → is_among (if b then ts else ts ++ x ∷ []) t ≡ (is_among ts t || bytes_eq t x)
among_one false ts x t e = list_any-append (bytes_eq t) ts (x ∷ []) ∙ ap (λ b. is_among ts t || b) (or_false (bytes_eq t x))
  where
    or_false : (b : Bool) → (b || false) ≡ b
    or_false true = refl
    or_false false = refl
among_one true ts x t e = there (bytes_eq t x) refl
  where
    or_same : (a : Bool) → a ≡ (a || false)
    or_same true = refl
    or_same false = refl

    there : (b : Bool) → bytes_eq t x ≡ b → is_among ts t ≡ (is_among ts t || b)
    there true h = let g : is_among ts t ≡ true = subst (λ y. is_among ts y ≡ true) (sym (same_bytes t x h)) e in g ∙ sym (ap (λ a. a || true) g)
    there false h = or_same (is_among ts t)

or_assoc : (a b c : Bool) → ((a || b) || c) ≡ (a || (b || c))
or_assoc true b c = refl
or_assoc false b c = refl

or_none : (a : Bool) → (a || false) ≡ a
or_none true = refl
or_none false = refl

among_all : (ts us : List (List ℕ)) (t : List ℕ) → is_among (with_all ts us) t ≡ (is_among ts t || is_among us t)
among_all ts [] t = sym (or_none (is_among ts t))
among_all ts (u ∷ us) t =
    among_all (with_text ts u) us t ∙ ap (λ b. b || is_among us t) (among_one (is_among ts u) ts u t refl) ∙ or_assoc (is_among ts t) (bytes_eq t u) (is_among us t)

-- the first name outside
pub record FoundIn (known : List (List ℕ)) (ts : List Token) (p : Place) : Type 0 where
  pub before : List Token
  pub name : Token
  pub after : List Token
  pub split : ts ≡ before ++ name ∷ after
  pub known_before : AllByRecursion (λ t. is_among known t.text ≡ true) before
  pub unknown : is_among known name.text ≡ false
  pub place : p ≡ name.place

found_at : (known : List (List ℕ)) (t : Token) (ts : List Token) (p : Place) (b : Bool) → is_among known t.text ≡ b → (if b then first_outside known (name_nodes ts) else Some t.place) ≡ Some p → (first_outside known (name_nodes ts) ≡ Some p → FoundIn known ts p) → FoundIn known (t ∷ ts) p
found_at known t ts p true e h later =
    let f = later h in
    record { before = t ∷ f.before; name = f.name; after = f.after; split = ap (λ us. t ∷ us) f.split; known_before = (e, f.known_before); unknown = f.unknown; place = f.place }
found_at known t ts p false e h later = record { before = []; name = t; after = ts; split = refl; known_before = tt; unknown = e; place = cc }

pub found : (known : List (List ℕ)) (ts : List Token) (p : Place) → first_outside known (name_nodes ts) ≡ Some p → FoundIn known ts p
found known [] p h = cc
found known (t ∷ ts) p h = found_at known t ts p (is_among known t.text) refl h (found known ts p)

none_at : (known : List (List ℕ)) (t : Token) (ts : List Token) (b : Bool) → is_among known t.text ≡ b → (if b then first_outside known (name_nodes ts) else Some t.place) ≡ None → (first_outside known (name_nodes ts) ≡ None → AllByRecursion (λ t. is_among known t.text ≡ true) ts) → AllByRecursion (λ t. is_among known t.text ≡ true) (t ∷ ts)
none_at known t ts true e h later = (e, later h)
none_at known t ts false e h later = cc

pub none_found : (known : List (List ℕ)) (ts : List Token) → first_outside known (name_nodes ts) ≡ None → AllByRecursion (λ t. is_among known t.text ≡ true) ts
none_found known [] h = tt
none_found known (t ∷ ts) h = none_at known t ts (is_among known t.text) refl h (none_found known ts)

-- ---- texts are the same where their bytes are

symm_at : (x y : List ℕ) (b c : Bool) → bytes_eq x y ≡ b → bytes_eq y x ≡ c → b ≡ c
symm_at x y true true e h = refl
symm_at x y false false e h = refl
symm_at x y true false e h = let s = same_bytes x y e in sym e ∙ ap (λ w. bytes_eq w y) s ∙ ap (bytes_eq y) (sym s) ∙ h
symm_at x y false true e h = let s = same_bytes y x h in sym e ∙ ap (bytes_eq x) s ∙ ap (λ w. bytes_eq w x) (sym s) ∙ h

bytes_equivalence : IsEquivalence bytes_eq
bytes_equivalence = record {
  refl = λ x. (bytes_eq-Decides x x).1 refl;
  symm = λ x y. symm_at x y (bytes_eq x y) (bytes_eq y x) refl refl;
  congr = λ x y z h. ap (λ w. bytes_eq w z) (same_bytes x y h);
}

-- ---- the names of a derivation

abbrev ports_known : File → List (List ℕ)
ports_known f = with_all [] (texts_of (port_names (ports_of f)))

port_known : (f : File) (t : Token) → is_among (ports_known f) t.text ≡ true → IsPortName f t
port_known f t h = Contains-from_any same_bytes t.text (texts_of (port_names (ports_of f))) (sym (among_all [] (texts_of (port_names (ports_of f))) t.text) ∙ h)

no_port : (f : File) (t : Token) → is_among (ports_known f) t.text ≡ false → IsPortName f t → ⊥
no_port f t h is_port =
    let there = among_all [] (texts_of (port_names (ports_of f))) t.text ∙ list_any-from_Contains bytes_equivalence t.text (texts_of (port_names (ports_of f))) is_port in
    cc

all_ports : (f : File) (ts : List Token) → AllByRecursion (λ t. is_among (ports_known f) t.text ≡ true) ts → AllByRecursion (IsPortName f) ts
all_ports f [] h = tt
all_ports f (t ∷ ts) h = (port_known f t h.0, all_ports f ts h.1)

searched : (f : File) → first_unknown (file_shape f) ≡ first_outside (ports_known f) (name_nodes (object_names f))
searched f = ap (λ k. first_outside (with_all [] k) (names_in (file_shape f))) (file_listed f) ∙ ap (first_outside (ports_known f)) (file_named f)

-- where the search finds none, every name is a port
pub names_known : (f : File) → first_unknown (file_shape f) ≡ None → AllNamesKnown f
names_known f h = all_ports f (object_names f) (none_found (ports_known f) (object_names f) (sym (searched f) ∙ h))

-- what it finds is the first name that is no port
pub record IsUnknownAt (f : File) (p : Place) : Type 0 where
  pub name : Token
  pub first : IsFirstUnknown f name
  pub place : p ≡ name.place

pub names_unknown : (f : File) (p : Place) → first_unknown (file_shape f) ≡ Some p → IsUnknownAt f p
names_unknown f p h =
    let u = found (ports_known f) (object_names f) p (sym (searched f) ∙ h) in
    record {
      name = u.name;
      first = record { before = u.before; after = u.after; names = u.split; known = all_ports f u.before u.known_before; unknown = no_port f u.name u.unknown };
      place = u.place;
    }

-- ---- and what the first such name is, the search finds

is_known : (f : File) (t : Token) → IsPortName f t → is_among (ports_known f) t.text ≡ true
is_known f t p =
    among_all [] (texts_of (port_names (ports_of f))) t.text
    ∙ list_any-from_Contains bytes_equivalence t.text (texts_of (port_names (ports_of f))) p

outside_here : (f : File) (t : Token) (rest : Option Place) (b : Bool) → is_among (ports_known f) t.text ≡ b → (IsPortName f t → ⊥) → (if b then rest else Some t.place) ≡ Some t.place
outside_here f t rest true e u = absurd (u (port_known f t e))
outside_here f t rest false e u = refl

found_again : (f : File) (before : List Token) (t : Token) (after : List Token) → AllByRecursion (IsPortName f) before → (IsPortName f t → ⊥) → first_outside (ports_known f) (name_nodes (before ++ t ∷ after)) ≡ Some t.place
found_again f [] t after k u = outside_here f t (first_outside (ports_known f) (name_nodes after)) (is_among (ports_known f) t.text) refl u
found_again f (b ∷ bs) t after k u =
    ap (λ c. if c then first_outside (ports_known f) (name_nodes (bs ++ t ∷ after)) else Some b.place) (is_known f b k.0)
    ∙ found_again f bs t after k.1 u

none_again : (f : File) (ts : List Token) → AllByRecursion (IsPortName f) ts → first_outside (ports_known f) (name_nodes ts) ≡ None
none_again f [] k = refl
none_again f (t ∷ ts) k =
    ap (λ c. if c then first_outside (ports_known f) (name_nodes ts) else Some t.place) (is_known f t k.0)
    ∙ none_again f ts k.1

pub finds_unknown : (f : File) (t : Token) → IsFirstUnknown f t → first_unknown (file_shape f) ≡ Some t.place
finds_unknown f t u =
    searched f ∙ ap (λ ts. first_outside (ports_known f) (name_nodes ts)) u.names
    ∙ found_again f u.before t u.after u.known u.unknown

pub finds_none : (f : File) → AllNamesKnown f → first_unknown (file_shape f) ≡ None
finds_none f k = searched f ∙ none_again f (object_names f) k
