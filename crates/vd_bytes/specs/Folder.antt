-- The files of a folder in memory, and the one that is open.
use Rattle.std.specs.Prelude.{ℕ, if◌then◌else◌, None, Some, List, [], map, drop, Option, option_map, option_and_then, unwrap_or, slice_get, string_bytes, zip, String, Vec}
use Rattle.std.specs.declared.alloc.Global.{Global}
use Rattle.vd_bytes.specs.declared.folder.NamedFile.{NamedFile}
use Rattle.vd_bytes.specs.declared.folder.Position.{Position}
use Rattle.vd_bytes.specs.Trays.{content_of, has_file}

-- what contracts see of a folder: its files, and of the one that is open the name, if the folder has it, and what is left
pub record Files : Type 0 where
  pub told : List (List ℕ × List ℕ)
  pub name : Option (List ℕ)
  pub left : Option (List ℕ)

-- names with contents, one by one
abbrev pub paired : List (String Global) → List (Vec ℕ Global) → List (List ℕ × List ℕ)
paired names contents = map (λ p. (string_bytes p.0, p.1.items)) (zip names contents)

-- the files of these names and contents, one by one
abbrev pub files_from : List (String Global) → List (Vec ℕ Global) → List NamedFile
files_from names contents = map (λ p. record { name = p.0; content = p.1 }) (zip names contents)

-- the files as pairs
abbrev pub told_of : List NamedFile → List (List ℕ × List ℕ)
told_of files = map (λ f. (string_bytes f.name, f.content.items)) files

-- the bytes of the file at that place, and none past the last
abbrev pub content_at : List NamedFile → ℕ → List ℕ
content_at files i = unwrap_or (option_map (λ f. f.content.items) (slice_get files i)) []

-- the name of the file at that place
abbrev pub name_at : List NamedFile → ℕ → Option (List ℕ)
name_at files i = option_map (λ f. string_bytes f.name) (slice_get files i)

-- what a folder shows
abbrev pub files_of : List NamedFile → Option Position → Files
files_of files open_file = record {
  told = told_of files;
  name = option_and_then (λ p. name_at files p.file) open_file;
  left = option_map (λ p. drop p.taken (content_at files p.file)) open_file;
}

-- a file of that name is open at its front; its own name is told where the folder has it
abbrev pub after_open : Files → List ℕ → Files
after_open files name = record files { name = if has_file files.told name then Some name else None; left = Some (content_of files.told name) }

-- no file is open
abbrev pub after_close : Files → Files
after_close files = record files { name = None; left = None }

-- n bytes were taken off the front of what was left
abbrev pub after_taking : ℕ → Files → Files
after_taking n files = record files { left = option_map (drop n) files.left }
