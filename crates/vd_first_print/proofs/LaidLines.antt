-- The lines of bytes that end in a line feed and have no carriage return are these bytes again.
use Rattle.std.proofs.Common.{◌≡◌, ℕ, ◌+◌, Bool, true, false, eqb, List, [], ◌∷◌, ◌++◌, refl, sym, ap, ◌∙◌, append_assoc}
use Rattle.std.specs.List.{AllByRecursion}
use Rattle.std.proofs.lemmas.List.{map-append}
use Rattle.std.proofs.lemmas.Bool.Decides.{Decides-eqb}
use Rattle.vd_first_lex.specs.Lexis.{Spot, line_spots, spots_of, bytes_of}
use Rattle.vd_first_lex.specs.Lexings.{lines_of, numbered}

-- the byte is no carriage return
abbrev pub IsNoReturn : ℕ → Type 0
IsNoReturn b = eqb b 13 ≡ false

-- the bytes of some lines, each with its end
unfoldable joined : List (List ℕ) → List ℕ
joined [] = []
joined (l ∷ ls) = l ++ 10 ∷ joined ls

bytes_of-line : (file number column : ℕ) (l : List ℕ) → bytes_of (line_spots file number column l) ≡ l ++ 10 ∷ []
bytes_of-line file number column [] = refl
bytes_of-line file number column (b ∷ bs) = ap (λ xs. b ∷ xs) (bytes_of-line file number (column + 1) bs)

bytes_of-lines : (file number : ℕ) (ls : List (List ℕ)) → bytes_of (spots_of file (numbered number ls)) ≡ joined ls
unfolding joined
bytes_of-lines file number [] = refl
bytes_of-lines file number (l ∷ ls) =
    map-append (λ (s : Spot). s.byte) (line_spots file number 1 l) (spots_of file (numbered (number + 1) ls))
    ∙ (ap (λ xs. xs ++ bytes_of (spots_of file (numbered (number + 1) ls))) (bytes_of-line file number 1 l)
    ∙ (append_assoc l (10 ∷ []) (bytes_of (spots_of file (numbered (number + 1) ls)))
    ∙ ap (λ xs. l ++ 10 ∷ xs) (bytes_of-lines file (number + 1) ls)))

-- some bytes have a line, and their lines are these bytes
pub record KeepsLines (bytes : List ℕ) : Type 0 where
  line : List ℕ
  lines : List (List ℕ)
  are : lines_of bytes ≡ line ∷ lines
  same : joined (line ∷ lines) ≡ bytes

pub keeps_end : KeepsLines (10 ∷ [])
unfolding joined
keeps_end = record { line = []; lines = []; are = refl; same = refl }

keeps_more : (b : ℕ) (bs : List ℕ) → IsNoReturn b → KeepsLines bs → KeepsLines (b ∷ bs)
unfolding joined
keeps_more b bs other h = by (eqb b 10) refl
  where
    by : (t : Bool) → eqb b 10 ≡ t → KeepsLines (b ∷ bs)
    by true e = record {
      line = [];
      lines = h.line ∷ h.lines;
      are = rw (e, h.are) refl;
      same = ap (λ xs. 10 ∷ xs) h.same ∙ ap (λ x. x ∷ bs) (sym ((Decides-eqb b 10).0 e));
    }
    by false e = record {
      line = b ∷ h.line;
      lines = h.lines;
      are = rw (e, other, h.are) refl;
      same = ap (λ xs. b ∷ xs) h.same;
    }

-- more bytes in front
pub keeps_front : (front bs : List ℕ) → AllByRecursion IsNoReturn front → KeepsLines bs → KeepsLines (front ++ bs)
keeps_front [] bs other h = h
keeps_front (b ∷ front) bs other h = keeps_more b (front ++ bs) other.0 (keeps_front front bs other.1 h)

-- the spots of a file's lines are its bytes
pub bytes_kept : (file : ℕ) (bytes : List ℕ) → KeepsLines bytes → bytes_of (spots_of file (numbered 1 (lines_of bytes))) ≡ bytes
bytes_kept file bytes h = bytes_of-lines file 1 (lines_of bytes) ∙ (ap joined h.are ∙ h.same)
