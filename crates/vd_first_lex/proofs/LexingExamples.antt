-- The worked lines.
use Rattle.std.proofs.Common.{◌≡◌, ◌≢◌, ℕ, List, [], ◌∷◌, ◌++◌, slice_index, None, refl, ap, subst}
use Rattle.vd_trees.specs.declared.revision.Revision.TheVariants.{V2019}
use Rattle.vd_first_lex.specs.Lexis.{Spot, place_at, spacing, token, kind_of}
use Rattle.vd_first_lex.specs.LexingExample.{ReadsWorkedLine, BreaksWorkedLine}

-- a byte of the first line
at : ℕ → ℕ → Spot
at b column = record { byte = b; place = place_at 0 1 column }

-- a token that the byte behind it ends
ended : (text after : List ℕ) (b : ℕ) → ((ms : List ℕ) → kind_of V2019 (text ++ b ∷ ms) ≡ None) → (more rest : List ℕ) → b ∷ after ≡ more ++ rest → more ≢ [] → kind_of V2019 (text ++ more) ≡ None
ended text after b h [] rest e some = absurd (some refl)
ended text after b h (m ∷ ms) rest e some = subst (λ x. kind_of V2019 (text ++ x ∷ ms) ≡ None) (ap (λ xs. slice_index xs 0) e) (h ms)

pub reads_worked_line : ReadsWorkedLine
unfolding at
reads_worked_line = record {
  pieces =
      token (at 89 1) [] ∷ spacing (at 32 2) ∷ token (at 60 3) (at 61 4 ∷ []) ∷ spacing (at 32 5) ∷ token (at 97 6) [] ∷ token (at 59 7) [] ∷ spacing (at 10 8) ∷ [];
  cut = refl;
  are_pieces = (
    record { is_token = refl; longest = ended (89 ∷ []) _ 32 (λ ms. refl) },
    (
      refl,
      (
        record { is_token = refl; longest = ended (60 ∷ 61 ∷ []) _ 32 (λ ms. refl) },
        (
          refl,
          (
            record { is_token = refl; longest = ended (97 ∷ []) _ 59 (λ ms. refl) },
            (
              record { is_token = refl; longest = ended (59 ∷ []) _ 10 (λ ms. refl) },
              (refl, tt),
            ),
          ),
        ),
      ),
    ),
  );
  tokens = refl;
}

none_at_underscore : (front rest : List ℕ) → 95 ∷ 95 ∷ 98 ∷ 10 ∷ [] ≡ front ++ rest → kind_of V2019 front ≡ None
none_at_underscore [] rest e = refl
none_at_underscore (f ∷ fs) rest e = subst (λ x. kind_of V2019 (x ∷ fs) ≡ None) (ap (λ xs. slice_index xs 0) e) refl

name_ends : (more rest : List ℕ) → 95 ∷ 95 ∷ 98 ∷ 10 ∷ [] ≡ more ++ rest → more ≢ [] → kind_of V2019 (97 ∷ more) ≡ None
name_ends [] rest e some = absurd (some refl)
name_ends (m ∷ []) rest e some = subst (λ x. kind_of V2019 (97 ∷ x ∷ []) ≡ None) (ap (λ xs. slice_index xs 0) e) refl
name_ends (m ∷ n ∷ ms) rest e some =
    subst (λ x. kind_of V2019 (97 ∷ x ∷ n ∷ ms) ≡ None) (ap (λ xs. slice_index xs 0) e) (subst (λ y. kind_of V2019 (97 ∷ 95 ∷ y ∷ ms) ≡ None) (ap (λ xs. slice_index xs 1) e) refl)

pub breaks_worked_line : BreaksWorkedLine
unfolding at
breaks_worked_line = record {
  pieces = token (at 97 1) [] ∷ [];
  spot = at 95 2;
  after = at 95 3 ∷ at 98 4 ∷ at 10 5 ∷ [];
  cut = refl;
  are_pieces = (record { is_token = refl; longest = name_ends }, tt);
  no_spacing = refl;
  no_token = none_at_underscore;
  place = refl;
}
