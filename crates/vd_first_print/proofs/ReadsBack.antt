-- The bytes of a layout are read as its tokens.
use Rattle.std.proofs.Common.{◌≡◌, ℕ, zero, suc, ◌*◌, Bool, true, false, eqb, not, ◌&&◌, ◌||◌, ⊎_elim, List, [], ◌∷◌, ◌++◌, replicate, refl, sym, ap, ◌∙◌, subst, true≢false}
use Rattle.std.specs.Prelude.{if◌then◌else◌, slice_index_or}
use Rattle.std.specs.List.{AllByRecursion}
use Rattle.std.proofs.lemmas.List.{map-append}
use Rattle.std.proofs.lemmas.Bool.{or_cases}
use Rattle.std.proofs.lemmas.Bool.Decides.{Decides-eqb}
use Rattle.vd_trees.specs.declared.revision.Revision.{Revision}
use Rattle.vd_first_lex.specs.declared.tokens.Kind.{Kind}
use Rattle.vd_first_lex.specs.declared.tokens.Kind.TheVariants.{Mark}
use Rattle.vd_first_lex.specs.declared.tokens.Token.{Token}
use Rattle.vd_first_lex.specs.Lexis.{spots_of, marks, all_tokens, end_token}
use Rattle.vd_first_lex.specs.Lexings.{plain_of}
use Rattle.vd_first_lex.specs.Spellings.{spelling_of}
use Rattle.vd_first_print.specs.Layout.{is_spaced, ends_line, level_of, line_start, gap, laid_after, layout_of}
use Rattle.vd_first_print.specs.ReadingBack.{IsGiven, placeless, all_placeless, placeless_end, ReadsBack, LayoutReadsBack}
use Rattle.vd_first_print.proofs.CutLemmas.{IsSpacing, IsCut, IsRead, read_nothing, read_spacing, read_token}
use Rattle.vd_first_print.proofs.GivenLemmas.{MayFollow, IsWritten, written}
use Rattle.vd_first_print.proofs.LaidLines.{IsNoReturn, KeepsLines, keeps_end, keeps_front, bytes_kept}
use Rattle.vd_first_print.proofs.SpelledTexts.{ends_name}

-- ---- what stands between two tokens

-- the byte is spacing that a layout has
abbrev IsGapByte : ℕ → Type 0
IsGapByte b = IsSpacing b × IsNoReturn b

blanks : (n : ℕ) → AllByRecursion IsGapByte (replicate n 32)
blanks zero = tt
blanks (suc n) = ((refl, refl), blanks n)

abbrev gap_of : Bool → ℕ → Bool → List ℕ
gap_of ends level spaced = if ends then line_start level else (if spaced then 32 ∷ [] else [])

gap_bytes : (ends : Bool) (level : ℕ) (spaced : Bool) → AllByRecursion IsGapByte (gap_of ends level spaced)
gap_bytes true level spaced = ((refl, refl), blanks (2 * level))
gap_bytes false level true = ((refl, refl), tt)
gap_bytes false level false = tt

all_spacing : (bs : List ℕ) → AllByRecursion IsGapByte bs → AllByRecursion IsSpacing bs
all_spacing [] h = tt
all_spacing (b ∷ bs) h = (h.0.0, all_spacing bs h.1)

all_no_return : (bs : List ℕ) → AllByRecursion IsGapByte bs → AllByRecursion IsNoReturn bs
all_no_return [] h = tt
all_no_return (b ∷ bs) h = (h.0.1, all_no_return bs h.1)

-- ---- what follows a token

may_follow : (k : Kind) (after : List ℕ) → ends_name after ≡ true → MayFollow k after
may_follow (Mark n) after h = tt
may_follow _ after h = h

-- one of the marks before which no space stands
mark_ends : (n : ℕ) (rest : List ℕ) → eqb n 11 || (eqb n 6 || (eqb n 3 || (eqb n 8 || eqb n 2))) ≡ true → ends_name (slice_index_or marks n [] ++ rest) ≡ true
mark_ends n rest h =
    ⊎_elim (is 11 refl)
    (λ h. ⊎_elim (is 6 refl)
    (λ h. ⊎_elim (is 3 refl)
    (λ h. ⊎_elim (is 8 refl) (is 2 refl) (or_cases (eqb n 8) _ h)) (or_cases (eqb n 3) _ h)) (or_cases (eqb n 6) _ h)) (or_cases (eqb n 11) _ h)
  where
    is : (m : ℕ) → ends_name (slice_index_or marks m [] ++ rest) ≡ true → eqb n m ≡ true → ends_name (slice_index_or marks n [] ++ rest) ≡ true
    is m ends e = subst (λ k. ends_name (slice_index_or marks k [] ++ rest) ≡ true) (sym ((Decides-eqb n m).0 e)) ends

unspaced_mark : (a b c d e l : Bool) → (not (a || (b || (c || d))) && (true && not (e && l))) ≡ false → a || (b || (c || (d || e))) ≡ true
unspaced_mark true b c d e l h = refl
unspaced_mark false true c d e l h = refl
unspaced_mark false false true d e l h = refl
unspaced_mark false false false true e l h = refl
unspaced_mark false false false false true l h = refl
unspaced_mark false false false false false l h = absurd (true≢false h)

-- where no space stands, none is needed
unspaced : (left right : Kind) (text rest : List ℕ) → is_spaced left right ≡ false → MayFollow left (spelling_of right text ++ rest)
unspaced (Mark n) right text rest h = tt
unspaced left (Mark n) text rest h = mark_ends n rest (unspaced_mark (eqb n 11) (eqb n 6) (eqb n 3) (eqb n 8) (eqb n 2) _ h)
unspaced left right text rest h = absurd (true≢false h)

gap_follows : (left right : Kind) (text rest : List ℕ) (ends : Bool) (level : ℕ) (spaced : Bool) → is_spaced left right ≡ spaced
    → MayFollow left (gap_of ends level spaced ++ (spelling_of right text ++ rest))
gap_follows left right text rest true level spaced e = may_follow left _ refl
gap_follows left right text rest false level true e = may_follow left _ refl
gap_follows left right text rest false level false e = unspaced left right text rest e

module _ (r : Revision) where
  -- some bytes are read as some tokens, and so are their lines
  record IsReadable (bytes : List ℕ) (ts : List Token) : Type 0 where
    lines : KeepsLines bytes
    read : IsRead r bytes ts

  readable_end : IsReadable (10 ∷ []) []
  readable_end = record { lines = keeps_end; read = read_spacing r (10 ∷ []) [] [] (refl, tt) (read_nothing r) }

  readable_gap : (front rest : List ℕ) (ts : List Token) → AllByRecursion IsGapByte front → IsReadable rest ts → IsReadable (front ++ rest) ts
  readable_gap front rest ts h a = record {
    lines = keeps_front front rest (all_no_return front h) a.lines;
    read = read_spacing r front rest ts (all_spacing front h) a.read;
  }

  readable_token : (t : Token) (after : List ℕ) (ts : List Token) → IsWritten r t → MayFollow t.kind after → IsReadable after ts → IsReadable (spelling_of t.kind t.text ++ after) (t ∷ ts)
  readable_token t after ts w h a = subst (λ bs. IsReadable (bs ++ after) (t ∷ ts)) (sym w.spelled) (record {
    lines = keeps_front (w.first ∷ w.others) after w.no_return a.lines;
    read = read_token r t w.first w.others after (w.begins after h) ts a.read;
  })

  -- what stands behind a token can follow it, and is read
  readable_after : (before : List Token) (last : Token) (ts : List Token) → AllByRecursion (IsGiven r) ts
      → MayFollow last.kind (laid_after before last ts) × IsReadable (laid_after before last ts) ts
  readable_after before last [] h = (may_follow last.kind (10 ∷ []) refl, readable_end)
  readable_after before last (t ∷ ts) h =
      let behind = readable_after (before ++ last ∷ []) t ts h.1 in
      let after = laid_after (before ++ last ∷ []) t ts in
      let ends = ends_line before last in
      let level = level_of (before ++ last ∷ []) t in (
        gap_follows last.kind t.kind t.text after ends level (is_spaced last.kind t.kind) refl,
        readable_gap (gap before last t) (spelling_of t.kind t.text ++ after) (t ∷ ts) (gap_bytes ends level (is_spaced last.kind t.kind))
            (readable_token t after ts (written r t h.0) behind.0 behind.1),
      )

  -- ---- the whole file

  module _ (file : ℕ) (bytes : List ℕ) (ts : List Token) where
    ended : (last : Token) (us : List Token) → placeless last ≡ placeless_end → all_placeless us ≡ all_placeless ts → all_placeless (us ++ last ∷ []) ≡ all_placeless ts ++ placeless_end ∷ []
    ended last us e f = map-append placeless us (last ∷ []) ∙ (ap (λ vs. vs ++ placeless last ∷ []) f ∙ ap (λ v. all_placeless ts ++ v ∷ []) e)

    read_file : IsCut r (spots_of file (plain_of file bytes).lines) ts → ReadsBack r file bytes ts
    read_file c = record {
      tokens = all_tokens r c.pieces ++ end_token file (plain_of file bytes).lines ∷ [];
      is_list = record { pieces = c.pieces; cut = c.cut; are_pieces = c.are_pieces; tokens = refl };
      same = ended (end_token file (plain_of file bytes).lines) (all_tokens r c.pieces) refl c.same;
    }

    read_lines : IsReadable bytes ts → ReadsBack r file bytes ts
    read_lines a = read_file (a.read (spots_of file (plain_of file bytes).lines) (bytes_kept file bytes a.lines))

pub layout_reads_back : LayoutReadsBack
layout_reads_back r file [] h = read_file r file [] [] (read_nothing r [] refl)
layout_reads_back r file (t ∷ ts) h =
    let behind = readable_after r [] t ts h.1 in
    read_lines r file (layout_of (t ∷ ts)) (t ∷ ts) (readable_token r t (laid_after [] t ts) ts (written r t h.0) behind.0 behind.1)
