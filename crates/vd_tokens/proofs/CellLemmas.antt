-- The texts of tokens stay where more bytes come behind.
use Rattle.std.proofs.Common.{◌≡◌, ℕ, ◌+◌, ◌<◌, ◌≤◌, List, Result, Ok, Err, OnErr, get_or, [], ◌∷◌, ◌++◌, length, take, drop, map, refl, ap, ◌∙◌, arith, length-append}
use Rattle.std.proofs.lemmas.List.{drop-append-le, take-append-le, at_drop_more, length-drop, map-append}
use Rattle.std.proofs.Math.Seq.{drop-append_seam}
use Rattle.std.specs.List.{AllByRecursion}
use Rattle.vd_tokens.specs.declared.tokens.Cell.{Cell}
use Rattle.vd_tokens.specs.Spellings.{doubled}
use Rattle.vd_tokens.specs.Cells.{lexeme_in, IsWithin, KeepsBytes}

same_lexeme : (bytes behind : List ℕ) (c : Cell) → IsWithin (length bytes) c → lexeme_in (bytes ++ behind) c ≡ lexeme_in bytes c
same_lexeme bytes behind c h =
    ap (λ t. record { kind = c.kind; text = t; place = c.place })
    (ap (take c.length) (drop-append-le c.start bytes behind (omega arith)) ∙ take-append-le c.length (drop c.start bytes) behind (let d = length-drop c.start bytes in omega (arith, d)))

same_lexemes : (bytes behind : List ℕ) (cs : List Cell) → AllByRecursion (IsWithin (length bytes)) cs → map (lexeme_in (bytes ++ behind)) cs ≡ map (lexeme_in bytes) cs
same_lexemes bytes behind [] h = refl
same_lexemes bytes behind (c ∷ cs) h = ap (λ x. x ∷ map (lexeme_in (bytes ++ behind)) cs) (same_lexeme bytes behind c h.0) ∙ ap (λ xs. lexeme_in bytes c ∷ xs) (same_lexemes bytes behind cs h.1)

pub still_lexemes : (old new : List ℕ) (cs : List Cell) → KeepsBytes old new → AllByRecursion (IsWithin (length old)) cs → map (lexeme_in new) cs ≡ map (lexeme_in old) cs
still_lexemes old new cs k h = ap (λ bs. map (lexeme_in bs) cs) k.are ∙ same_lexemes old k.behind cs h

within_more : (n m : ℕ) (cs : List Cell) → n ≤ m → AllByRecursion (IsWithin n) cs → AllByRecursion (IsWithin m) cs
within_more n m [] le h = tt
within_more n m (c ∷ cs) le h = (omega (arith, h.0), within_more n m cs le h.1)

pub still_within : (old new : List ℕ) (cs : List Cell) → KeepsBytes old new → AllByRecursion (IsWithin (length old)) cs → AllByRecursion (IsWithin (length new)) cs
still_within old new cs k h = within_more (length old) (length new) cs (let e = ap length k.are ∙ length-append old k.behind in omega (arith, e)) h

all_push : (P : Cell → Type 0) (cs : List Cell) (c : Cell) → AllByRecursion P cs → P c → AllByRecursion P (cs ++ c ∷ [])
all_push P [] c h p = (p, tt)
all_push P (x ∷ cs) c h p = (h.0, all_push P cs c h.1 p)

module _ (old text : List ℕ) (cs : List Cell) (c : Cell) (h : AllByRecursion (IsWithin (length old)) cs) (start : c.start ≡ length old) (len : c.length ≡ length text) where
  pub pushed_within : AllByRecursion (IsWithin (length (old ++ text))) (cs ++ c ∷ [])
  pushed_within =
      let e = length-append old text in
      all_push (IsWithin (length (old ++ text))) cs c (within_more (length old) (length (old ++ text)) cs (omega (arith, e)) h) (omega (arith, e, start, len))

  new_text : take c.length (drop c.start (old ++ text)) ≡ text
  new_text = rw (start, len, drop-append_seam old text) (let e = take-append-le (length text) text [] (omega arith) in take_whole text)
    where
      take_whole : (xs : List ℕ) → take (length xs) xs ≡ xs
      take_whole [] = refl
      take_whole (x ∷ xs) = ap (λ ys. x ∷ ys) (take_whole xs)

  pub pushed_lexemes : map (lexeme_in (old ++ text)) (cs ++ c ∷ []) ≡ map (lexeme_in old) cs ++ record { kind = c.kind; text = text; place = c.place } ∷ []
  pushed_lexemes =
      map-append (lexeme_in (old ++ text)) cs (c ∷ [])
      ∙ (ap (λ xs. xs ++ lexeme_in (old ++ text) c ∷ []) (same_lexemes old text cs h)
      ∙ ap (λ t. map (lexeme_in old) cs ++ record { kind = c.kind; text = t; place = c.place } ∷ []) new_text)

pub keeps_behind : (old new text : List ℕ) → new ≡ old ++ text → KeepsBytes old new
keeps_behind old new text e = record { behind = text; are = e }

pub on_err : {T E P : Type 0} (r : Result T E) → P → OnErr r P
on_err (Ok x) h = tt
on_err (Err e) h = h

-- ---- doubled marks

pub doubled-more : (text : List ℕ) (i : ℕ) → i < length text → doubled (drop i text) ≡ doubled (get_or text i 0 ∷ drop (i + 1) text)
doubled-more text i h = at_drop_more doubled text i 0 h
