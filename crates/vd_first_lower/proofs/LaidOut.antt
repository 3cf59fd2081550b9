-- The layout of tokens doesn't depend on their places.
use Rattle.std.proofs.Common.{◌≡◌, Bool, List, [], ◌∷◌, ◌++◌, refl, sym, ap, ◌∙◌}
use Rattle.std.proofs.lemmas.List.{map-append}
use Rattle.std.proofs.lemmas.List.Sums.{sum_by-cons}
use Rattle.std.specs.Prelude.{count_by, if◌then◌else◌, ◌+◌}
use Rattle.vd_first_lex.specs.declared.tokens.Kind.{Kind}
use Rattle.vd_first_lex.specs.declared.tokens.TheConstants.{IS, END, OPENING, CLOSING}
use Rattle.vd_first_lex.specs.declared.tokens.Token.{Token}
use Rattle.vd_first_print.specs.Layout.{is_word, is_mark, count_words, gap, laid_after, layout_of}
use Rattle.vd_first_print.specs.ReadingBack.{placeless, all_placeless}
use Rattle.vd_first_lex.specs.Spellings.{spelling_of}

-- tokens that are the same but for their places, and one behind them
pub record IsSplit (us ds : List Token) : Type 0 where
  pub front : List Token
  pub last : Token
  pub whole : us ≡ front ++ last ∷ []
  pub same : all_placeless front ≡ all_placeless ds

no_more : {A : Type 0} (x : A) (xs ys : List A) (y : A) → [] ≡ xs ++ y ∷ ys → ⊥
no_more x [] ys y e = cc
no_more x (z ∷ zs) ys y e = cc

tail_same : {A : Type 0} (x y : A) (xs ys : List A) → x ∷ xs ≡ y ∷ ys → xs ≡ ys
tail_same x y xs ys e = cc

head_same : {A : Type 0} (x y : A) (xs ys : List A) → x ∷ xs ≡ y ∷ ys → x ≡ y
head_same x y xs ys e = cc

pub split_last : (us ds : List Token) (end : Token) → all_placeless us ≡ all_placeless ds ++ end ∷ [] → IsSplit us ds
split_last [] ds end e = absurd (no_more end (all_placeless ds) [] end e)
split_last (u ∷ us) [] end e = last_alone u us (tail_same (placeless u) end (all_placeless us) [] e)
  where
    last_alone : (u : Token) (us : List Token) → all_placeless us ≡ [] → IsSplit (u ∷ us) []
    last_alone u [] e = record { front = []; last = u; whole = refl; same = refl }
    last_alone u (v ∷ vs) e = cc
split_last (u ∷ us) (d ∷ ds) end e =
    let rest = split_last us ds end (tail_same (placeless u) (placeless d) (all_placeless us) (all_placeless ds ++ end ∷ []) e) in
    let first = head_same (placeless u) (placeless d) (all_placeless us) (all_placeless ds ++ end ∷ []) e in
    record {
      front = u ∷ rest.front;
      last = rest.last;
      whole = ap (λ xs. u ∷ xs) rest.whole;
      same = ap (λ x. x ∷ all_placeless rest.front) first ∙ ap (λ xs. placeless d ∷ xs) rest.same;
    }

-- ---- the layout

counted : (p : Kind → Bool) (ts : List Token) → count_by (λ (t : Token). p t.kind) ts ≡ count_by (λ (t : Token). p t.kind) (all_placeless ts)
counted p [] = refl
counted p (t ∷ ts) =
    let number = λ (u : Token). if p u.kind then 1 else 0 in
    sum_by-cons number t ts ∙ ap (λ n. number t + n) (counted p ts) ∙ sym (sum_by-cons number (placeless t) (all_placeless ts))

gap_placeless : (before : List Token) (last t : Token) → gap before last t ≡ gap (all_placeless before) (placeless last) (placeless t)
gap_placeless before last t =
    let all = map-append placeless before (last ∷ []) in
    let opening = counted (is_mark OPENING) before in
    let closing = counted (is_mark CLOSING) before in
    let is_words = counted (is_word IS) (before ++ last ∷ []) ∙ ap (count_words IS) all in
    let end_words = counted (is_word END) (before ++ last ∷ []) ∙ ap (count_words END) all in
    cc

laid_placeless : (before : List Token) (last : Token) (ts : List Token) → laid_after before last ts ≡ laid_after (all_placeless before) (placeless last) (all_placeless ts)
laid_placeless before last [] = refl
laid_placeless before last (t ∷ ts) =
    let first = gap_placeless before last t in
    let rest = laid_placeless (before ++ last ∷ []) t ts ∙ ap (λ b. laid_after b (placeless t) (all_placeless ts)) (map-append placeless before (last ∷ [])) in
    ap (λ g. g ++ (spelling_of t.kind t.text ++ laid_after (before ++ last ∷ []) t ts)) first
    ∙ ap (λ l. gap (all_placeless before) (placeless last) (placeless t) ++ (spelling_of t.kind t.text ++ l)) rest

layout_placeless : (ts : List Token) → layout_of ts ≡ layout_of (all_placeless ts)
layout_placeless [] = refl
layout_placeless (t ∷ ts) = ap (λ l. spelling_of t.kind t.text ++ l) (laid_placeless [] t ts)

-- tokens that differ in places alone have one layout
pub same_layout : (ts us : List Token) → all_placeless ts ≡ all_placeless us → layout_of ts ≡ layout_of us
same_layout ts us e = layout_placeless ts ∙ ap layout_of e ∙ sym (layout_placeless us)
