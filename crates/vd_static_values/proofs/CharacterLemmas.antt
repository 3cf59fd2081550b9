-- The places of characters among the literals of a type.
use Rattle.std.proofs.Common.{Bool, List, None, Ok, Option, Some, [], ap, arith, false, get_or, length, refl, replicate, set, subst, suc, sym, true, ℕ, ◌+◌, ◌<◌, ◌≢◌, ◌∙◌, ◌∷◌, ◌≡◌}
use Rattle.std.specs.Prelude.{bytes_eq, if◌then◌else◌, is_some}
use Rattle.std.proofs.Math.ListN.{length-set}
use Rattle.std.proofs.lemmas.List.{get_or-replicate, get_or_default, get_or-set_other, get_or-set_same, length-replicate}
use Rattle.std.proofs.lemmas.Slice.Eq.{bytes_eq-Decides}
use Rattle.vd_environments.specs.Got.{Got, senseless}
use Rattle.vd_meaning.specs.Literals.{character, position_from}
use Rattle.vd_plain_values.specs.Strings.{place_found}
use Rattle.vd_static_values.specs.Characters.{HasCharacters, IsCharacter, IsEntered, literal_or, place_in, place_or}

-- ---- literals that are characters

pub same_text : (text : List ℕ) (c : ℕ) → bytes_eq text (character c) ≡ true → text ≡ character c
same_text text c is = (bytes_eq-Decides text (character c)).0 is

not_true : (b : Bool) → (b ≡ true → ⊥) → b ≡ false
not_true true refuted = absurd (refuted refl)
not_true false refuted = refl

same_code : (c d : ℕ) → character d ≡ character c → d ≡ c
same_code c d same = ap (λ text. get_or text 1 0) same

pub short_text : (text : List ℕ) → length text < 2 → IsCharacter text None
short_text text short =
    λ c. not_true (bytes_eq text (character c)) (λ is. let long : length text ≡ 3 = ap length (same_text text c is) in absurd (omega arith))

pub other_text : (text : List ℕ) (d : ℕ) → d ≡ get_or text 1 0 → bytes_eq text (character d) ≡ false → IsCharacter text None
other_text text d here not =
    λ c. not_true (bytes_eq text (character c))
    (λ is.
    let same : d ≡ c = here ∙ ap (λ t. get_or t 1 0) (same_text text c is) in
    let differs : bytes_eq text (character c) ≡ false = subst (λ n. bytes_eq text (character n) ≡ false) same not in
    absurd cc)

-- ---- one literal more in a table

pub entered_not : (table : List (Option ℕ)) (text : List ℕ) (place : ℕ) → IsCharacter text None → IsEntered table table text place
entered_not table text place is = record {
  size = refl;
  places = λ c h further. ap (λ b. place_or (place_in table c) (if b then Ok place else further)) (sym (is c));
}

kept_at : (table : List (Option ℕ)) (text : List ℕ) (c d n place : ℕ) (further : Got ℕ) (b : Bool) → text ≡ character d → place_in table d ≡ Some n
    → bytes_eq text (character c) ≡ b → place_or (place_in table c) further ≡ place_or (place_in table c) (if b then Ok place else further)
kept_at table text c d n place further true is there same =
    let here : place_in table c ≡ Some n = ap (place_in table) (sym (same_code c d (sym is ∙ same_text text c same))) ∙ there in
    ap (λ t. place_or t further) here ∙ sym (ap (λ t. place_or t (Ok place)) here)
kept_at table text c d n place further false is there same = refl

pub entered_kept : (table : List (Option ℕ)) (text : List ℕ) (d n place : ℕ) → text ≡ character d → place_in table d ≡ Some n → IsEntered table table text place
entered_kept table text d n place is there = record {
  size = refl;
  places = λ c h further. kept_at table text c d n place further (bytes_eq text (character c)) is there refl;
}

new_at : (table : List (Option ℕ)) (text : List ℕ) (c d place : ℕ) (further : Got ℕ) (b : Bool) → text ≡ character d → d < length table → place_in table d ≡ None
    → bytes_eq text (character c) ≡ b
    → place_or (place_in (set table d (Some place)) c) further ≡ place_or (place_in table c) (if b then Ok place else further)
new_at table text c d place further true is within none same =
    let equal : d ≡ c = same_code c d (sym is ∙ same_text text c same) in
    let new : place_in (set table d (Some place)) c ≡ Some place = ap (place_in (set table d (Some place))) (sym equal) ∙ get_or-set_same table d (Some place) None within in
    let old : place_in table c ≡ None = ap (place_in table) (sym equal) ∙ none in
    ap (λ t. place_or t further) new ∙ sym (ap (λ t. place_or t (Ok place)) old)
new_at table text c d place further false is within none same =
    let other : c ≢ d = λ equal. let differs : bytes_eq (character d) (character d) ≡ false = subst (λ t. bytes_eq t (character d) ≡ false) is (subst (λ n. bytes_eq text (character n) ≡ false) equal same) in
    let itself : bytes_eq (character d) (character d) ≡ true = (bytes_eq-Decides (character d) (character d)).1 refl in absurd cc in
    ap (λ t. place_or t further) (get_or-set_other table d c (Some place) None other)

pub entered_new : (table new : List (Option ℕ)) (text : List ℕ) (d place : ℕ) → text ≡ character d → d < length table → place_in table d ≡ None → new ≡ set table d (Some place)
    → IsEntered table new text place
entered_new table new text d place is within none made = record {
  size = ap length made ∙ length-set table d (Some place);
  places = λ c h further.
      ap (λ t. place_or (place_in t c) further) made ∙ new_at table text c d place further (bytes_eq text (character c)) is within none refl;
}

-- ---- all literals

-- a table of the first literals, with those that are left
pub record IsSoFar (table : List (Option ℕ)) (place : ℕ) (left literals : List (List ℕ)) : Type 0 where
  pub size : length table ≡ 256
  pub places : (c : ℕ) → c < 256 → place_or (place_in table c) (position_from place left (character c)) ≡ position_from 0 literals (character c)

pub so_far_none : (n : ℕ) (table : List (Option ℕ)) (literals : List (List ℕ)) → n ≡ 256 → table ≡ replicate n None → IsSoFar table 0 literals literals
so_far_none n table literals all is =
    let empty : Option ℕ = None in
    record {
      size = ap length is ∙ length-replicate n empty ∙ all;
      places = λ c h.
          let below : c < n = omega arith in
          ap (λ t. place_or (place_in t c) (position_from 0 literals (character c))) is
          ∙ ap (λ t. place_or t (position_from 0 literals (character c))) (get_or-replicate n c empty empty below);
    }

pub so_far_more : (old new : List (Option ℕ)) (place : ℕ) (text : List ℕ) (left literals : List (List ℕ)) → IsSoFar old place (text ∷ left) literals → IsEntered old new text place
    → IsSoFar new (place + 1) left literals
so_far_more old new place text left literals before entered = record {
  size = entered.size ∙ before.size;
  places = λ c h.
      let next : place + 1 ≡ suc place = omega arith in
      entered.places c h (position_from (place + 1) left (character c))
      ∙ ap (λ n. place_or (place_in old c) (literal_or text place c (position_from n left (character c)))) next ∙ before.places c h;
}

at_end : (t : Option ℕ) → place_found t ≡ place_or t senseless
at_end None = refl
at_end (Some n) = refl

pub so_far_all : (table : List (Option ℕ)) (place : ℕ) (literals : List (List ℕ)) → IsSoFar table place [] literals → HasCharacters table literals
so_far_all table place literals known = record {
  size = known.size;
  places = λ c h. at_end (place_in table c) ∙ known.places c h;
}

-- ---- places of characters

pub known_place : (table : List (Option ℕ)) (ls : List (List ℕ)) (c n : ℕ) → HasCharacters table ls → c < 256 → place_in table c ≡ Some n → Ok n ≡ position_from 0 ls (character c)
known_place table ls c n has below is = sym (ap place_found is) ∙ has.places c below

pub unknown_place : (table : List (Option ℕ)) (ls : List (List ℕ)) (c : ℕ) → HasCharacters table ls → c < 256 → place_in table c ≡ None → senseless ≡ position_from 0 ls (character c)
unknown_place table ls c has below is = sym (ap place_found is) ∙ has.places c below

-- what a table has at a place that was read
pub none_there : (table : List (Option ℕ)) (c : ℕ) (x : Option ℕ) → c < length table → x ≡ get_or table c x → is_some x ≡ false → place_in table c ≡ None
none_there table c None within here none = sym here
none_there table c (Some n) within here none = absurd cc

pub some_there : (table : List (Option ℕ)) (c : ℕ) (x : Option ℕ) → c < length table → x ≡ get_or table c x → is_some x ≡ true → (n : ℕ) × (place_in table c ≡ Some n)
some_there table c None within here some = absurd cc
some_there table c (Some n) within here some = (n, get_or_default table c None (Some n) within ∙ sym here)
