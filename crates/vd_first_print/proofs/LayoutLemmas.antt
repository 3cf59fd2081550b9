-- The layout, token by token.
use Rattle.std.proofs.Common.{◌≡◌, ℕ, ◌+◌, ◌-◌, Bool, true, false, cond, List, [], ◌∷◌, ◌++◌, refl, sym, ap, ◌∙◌, append_assoc, arith}
use Rattle.std.specs.Prelude.{◌&&◌, ◌||◌, ◌==◌, if◌then◌else◌, count_by}
use Rattle.std.proofs.lemmas.List.Sums.{sum_by-append}
use Rattle.vd_first_lex.specs.declared.tokens.Kind.{Kind}
use Rattle.vd_first_lex.specs.declared.tokens.Token.{Token}
use Rattle.vd_first_lex.specs.declared.tokens.TheConstants.{IS, END, BEGIN, OPENING, CLOSING, SEMICOLON}
use Rattle.vd_first_print.specs.declared.layout.Counts.{Counts}
use Rattle.vd_first_print.specs.Layout.{is_word, is_mark, is_spaced, line_start, level_of, gap, laid_after, layout_of}
use Rattle.vd_first_lex.specs.Spellings.{spelling_of}
use Rattle.vd_first_print.specs.Counts.{counts_of, counted_with}

count_by-push : {X : Type 0} (p : X → Bool) (xs : List X) (x : X) (b : Bool) → p x ≡ b → count_by p (xs ++ x ∷ []) ≡ (if b then count_by p xs + 1 else count_by p xs)
count_by-push p xs x true h = let a = sum_by-append (λ y. cond {A = ℕ} (p y) 1 0) xs (x ∷ []) in let one : cond (p x) 1 0 ≡ 1 = ap (λ (b : Bool). cond {A = ℕ} b 1 0) h in omega (arith, a, one)
count_by-push p xs x false h = let a = sum_by-append (λ y. cond {A = ℕ} (p y) 1 0) xs (x ∷ []) in let none : cond (p x) 1 0 ≡ 0 = ap (λ (b : Bool). cond {A = ℕ} b 1 0) h in omega (arith, a, none)

-- with one more token
pub counts_of-push : (before : List Token) (t : Token) → counts_of (before ++ t ∷ []) ≡ counted_with (counts_of before) t.kind
counts_of-push before t =
    let a = count_by-push (λ u. is_mark OPENING u.kind) before t (is_mark OPENING t.kind) refl in
    let b = count_by-push (λ u. is_mark CLOSING u.kind) before t (is_mark CLOSING t.kind) refl in
    let c = count_by-push (λ u. is_word IS u.kind) before t (is_word IS t.kind) refl in
    let d = count_by-push (λ u. is_word END u.kind) before t (is_word END t.kind) refl in
    cc

-- the bytes so far, and those of what is left, are the whole
pub record IsLaid (out whole : List ℕ) (counts : Counts) (last : Token) (rest : List Token) : Type 0 where
  pub before : List Token
  pub counted : counts ≡ counts_of before
  pub same : out ++ laid_after before last rest ≡ whole

pub starts : (none : Counts) (first : Token) (others : List Token) → none ≡ counts_of [] → IsLaid (spelling_of first.kind first.text) (layout_of (first ∷ others)) none first others
starts none first others e = record { before = []; counted = e; same = refl }

-- what is pushed between the last token and the next one
abbrev gap_of : Bool → ℕ → Kind → Kind → List ℕ
gap_of ends level left right = if ends then line_start level else (if is_spaced left right then 32 ∷ [] else [])

pub steps : (out whole : List ℕ) (counts next : Counts) (last t : Token) (ts : List Token) (ends : Bool) (level : ℕ) (gapped done : List ℕ)
    → IsLaid out whole counts last (t ∷ ts)
    → ends ≡ ((is_mark SEMICOLON last.kind && (counts.opening == counts.closing)) || (is_word IS last.kind || is_word BEGIN last.kind))
    → next ≡ counted_with counts last.kind
    → level ≡ (if is_word BEGIN t.kind || is_word END t.kind then (next.is_words - next.end_words) - 1 else next.is_words - next.end_words)
    → gapped ≡ out ++ gap_of ends level last.kind t.kind
    → done ≡ gapped ++ spelling_of t.kind t.text
    → IsLaid done whole next t ts
steps out whole counts next last t ts ends level gapped done laid e n l g d =
    let before = laid.before ++ last ∷ [] in
    let counted : next ≡ counts_of before = n ∙ ap (λ c. counted_with c last.kind) laid.counted ∙ sym (counts_of-push laid.before last) in
    let rest = laid_after before t ts in
    let gap_is : gap laid.before last t ≡ gap_of ends level last.kind t.kind =
    ap (λ b. gap_of b (level_of before t) last.kind t.kind) (sym (e ∙ ap (λ (c : Counts). (is_mark SEMICOLON last.kind && (c.opening == c.closing)) || (is_word IS last.kind || is_word BEGIN last.kind)) laid.counted))
    ∙ ap (λ n. gap_of ends n last.kind t.kind) (sym (l ∙ ap (λ (c : Counts). if is_word BEGIN t.kind || is_word END t.kind then (c.is_words - c.end_words) - 1 else c.is_words - c.end_words) counted)) in
    record {
      before = before;
      counted = counted;
      same =
          ap (λ o. o ++ rest) (d ∙ ap (λ o. o ++ spelling_of t.kind t.text) g)
          ∙ append_assoc (out ++ gap_of ends level last.kind t.kind) (spelling_of t.kind t.text) rest
          ∙ append_assoc out (gap_of ends level last.kind t.kind) (spelling_of t.kind t.text ++ rest)
          ∙ ap (λ x. out ++ (x ++ (spelling_of t.kind t.text ++ rest))) (sym gap_is)
          ∙ laid.same;
    }

pub ended : (out whole done : List ℕ) (counts : Counts) (last : Token) (rest : List Token) → IsLaid out whole counts last rest → rest ≡ [] → done ≡ out ++ 10 ∷ [] → done ≡ whole
ended out whole done counts last rest laid none d = d ∙ sym (ap (λ r. out ++ laid_after laid.before last r) none) ∙ laid.same
