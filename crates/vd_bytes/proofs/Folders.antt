-- Facts about a list of named files.
use Rattle.std.proofs.Common.{◌≡◌, ℕ, ◌<◌, ◌≤◌, suc, true, false, List, [], ◌∷◌, length, drop, get_or, bytes_eq, None, Some, slice_get, string_bytes, String, Vec, refl, sym, ◌∙◌, ap, arith}
use Rattle.std.proofs.Math.Seq.{drop-cons}
use Rattle.std.proofs.lemmas.List.{drop_all}
use Rattle.std.proofs.lemmas.Option.{slice_get_read, slice_get_past}
use Rattle.std.proofs.lemmas.Slice.Eq.{bytes_eq-Decides}
use Rattle.std.specs.declared.alloc.Global.{Global}
use Rattle.vd_bytes.specs.declared.folder.NamedFile.{NamedFile}
use Rattle.vd_bytes.specs.Trays.{content_of, has_file}
use Rattle.vd_bytes.specs.Folder.{paired, files_from, told_of, content_at, name_at}

-- files made of names and contents are told as these
pub told_of-files_from : (names : List (String Global)) (contents : List (Vec ℕ Global)) → told_of (files_from names contents) ≡ paired names contents
told_of-files_from [] contents = refl
told_of-files_from (n ∷ ns) [] = refl
told_of-files_from (n ∷ ns) (c ∷ cs) = ap (λ rest. (string_bytes n, c.items) ∷ rest) (told_of-files_from ns cs)

-- no file stands past the last
pub content_past : (files : List NamedFile) (i : ℕ) (name : List ℕ) → length files ≤ i → content_of (told_of (drop i files)) name ≡ content_at files (length files)
content_past files i name past =
    let none : slice_get files (length files) ≡ None = slice_get_past files (length files) (omega arith) in
    rw (drop_all i files past, none) refl

-- nor a name
pub name_past : (files : List NamedFile) (i : ℕ) (name : List ℕ) → length files ≤ i → (has_file (told_of (drop i files)) name ≡ false) × (name_at files (length files) ≡ None)
name_past files i name past =
    let none : slice_get files (length files) ≡ None = slice_get_past files (length files) (omega arith) in
    (rw (drop_all i files past) refl, rw none refl)

module _ (files : List NamedFile) (i : ℕ) (f : NamedFile) (name : List ℕ) (inside : i < length files) (read : f ≡ get_or files i f) where
  at_place : slice_get files i ≡ Some f
  at_place = slice_get_read files (length files) i f refl inside read

  front : drop i files ≡ f ∷ drop (suc i) files
  front = drop-cons files i f inside ∙ ap (λ x. x ∷ drop (suc i) files) (sym read)

  -- a file that has the name gives its bytes
  pub content_found : bytes_eq (string_bytes f.name) name ≡ true → content_of (told_of (drop i files)) name ≡ content_at files i
  content_found same = rw (front, at_place, same) refl

  -- is among those that have it
  pub has_found : bytes_eq (string_bytes f.name) name ≡ true → has_file (told_of (drop i files)) name ≡ true
  has_found same = rw (front, same) refl

  -- and is told under it
  pub name_found : bytes_eq (string_bytes f.name) name ≡ true → name_at files i ≡ Some name
  name_found same = rw at_place (ap Some ((bytes_eq-Decides (string_bytes f.name) name).0 same))
