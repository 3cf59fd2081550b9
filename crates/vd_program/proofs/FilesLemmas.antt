-- How far the files have been read, and what is due for them.
use Rattle.std.proofs.Common.{◌≡◌, ◌<◌, ◌≤◌, ◌+◌, ℕ, suc, zero, String, string_bytes, List, [], ◌∷◌, ◌++◌, length, map, take, get_or, replicate, refl, sym, ap, ◌∙◌, subst, arith, Option, Some, None, IfSome}
use Rattle.std.proofs.lemmas.List.{map_more, take-map, get_or-map, length-map, length-replicate}
use Rattle.std.proofs.lemmas.List.Sums.{sum_by_more_le, sum_by-cons}
use Rattle.std.proofs.lemmas.Option.{IfSome_then}
use Rattle.std.specs.declared.alloc.Global.{Global}
use Rattle.vd_words.specs.Words.{texts_of}
use Rattle.vd_bytes.specs.declared.answers.Limit.TheVariants as limits
use Rattle.vd_bytes.specs.Trays.{content_of}
use Rattle.vd_program.specs.Dues.{Due, limit_number, limit_passed, read_fault}
use Rattle.vd_program.specs.Outcomes.{contents_of, total_length, IsFilesOutcome, IsOutcomeOfFiles}

pub IfSome-always : {F : Type 0} (told : Option F) (P : F → Type 0) → ((files : F) → P files) → IfSome told P
IfSome-always None P h = tt
IfSome-always (Some files) P h = h files

pub IfSome-both : {F : Type 0} (told : Option F) (P Q R : F → Type 0) → IfSome told P → IfSome told Q → ((files : F) → P files → Q files → R files) → IfSome told R
IfSome-both None P Q R p q h = tt
IfSome-both (Some files) P Q R p q h = h files p q

module _ (files : List (List ℕ × List ℕ)) (names : List (List ℕ)) (i : ℕ) (inside : i < length names) where
  -- one more file
  pub contents_more : contents_of files (take (i + 1) names) ≡ contents_of files (take i names) ++ content_of files (get_or names i []) ∷ []
  contents_more = map_more (content_of files) names i [] inside

  -- the files so far and the next one have no more bytes than all
  pub total_more : total_length (contents_of files (take i names)) + length (content_of files (get_or names i [])) ≤ total_length (contents_of files names)
  total_more =
      let fits : i < length (contents_of files names) = simp length-map inside in
      let at : get_or (contents_of files names) i [] ≡ content_of files (get_or names i []) = get_or-map (content_of files) names i [] [] inside in
      let front : take i (contents_of files names) ≡ contents_of files (take i names) = take-map (content_of files) i names in
      subst (λ x. total_length (contents_of files (take i names)) + length x ≤ total_length (contents_of files names)) at
      (subst (λ x. total_length x + length (get_or (contents_of files names) i []) ≤ total_length (contents_of files names)) front
      (sum_by_more_le length (contents_of files names) i [] fits))

-- the text of a word
pub named : (names : List (String Global)) (i : ℕ) (name : String Global) → i < length names → name ≡ get_or names i name → (text : List ℕ) → text ≡ string_bytes name → text ≡ get_or (texts_of names) i []
named names i name inside at text is = is ∙ ap string_bytes at ∙ sym (get_or-map string_bytes names i name [] inside)

-- the file that is too long with the ones before it makes all too long
pub too_long_by : (told other : Option (List (List ℕ × List ℕ))) → other ≡ told → (names : List (List ℕ)) (i : ℕ) → i < length names → (front : List (List ℕ)) → front ≡ take i names → (name : List ℕ) → name ≡ get_or names i [] → (contents : List (List ℕ)) → IfSome told (λ files. contents ≡ contents_of files front) → (left : ℕ) → left + total_length contents ≡ 8388608 → IfSome other (λ files. left < length (content_of files name)) → IfSome told (λ files. 8388608 < total_length (contents_of files names))
too_long_by told other same names i inside front is_front name is_name contents so_far left sum long =
    IfSome-both told (λ files. contents ≡ contents_of files front) (λ files. left < length (content_of files name)) (λ files. 8388608 < total_length (contents_of files names)) so_far
    (subst (λ t. IfSome t (λ files. left < length (content_of files name))) same long)
    (λ files are longer.
    let here : total_length contents ≡ total_length (contents_of files (take i names)) = ap total_length are ∙ ap (λ f. total_length (contents_of files f)) is_front in
    let more = total_more files names i inside in
    let longer_here : left < length (content_of files (get_or names i [])) = subst (λ n. left < length (content_of files n)) is_name longer in
    omega (arith, here, more, longer_here, sum))

-- the files before the one that failed are within the limit
pub before_fault : (told : Option (List (List ℕ × List ℕ))) (names : List (List ℕ)) (i : ℕ) (front : List (List ℕ)) → front ≡ take i names → (contents : List (List ℕ)) → IfSome told (λ files. contents ≡ contents_of files front) → (left : ℕ) → left + total_length contents ≡ 8388608 → IfSome told (λ files. total_length (contents_of files (take i names)) ≤ 8388608)
before_fault told names i front is_front contents so_far left sum =
    IfSome_then told so_far (λ files are.
    let here : total_length contents ≡ total_length (contents_of files (take i names)) = ap total_length are ∙ ap (λ f. total_length (contents_of files f)) is_front in
    omega (arith, here, sum))

-- ---- the lines of faults

pub lines_as_many : (lines names : List (String Global)) → map string_bytes lines ≡ map (λ name. (read_fault (string_bytes name)).console) names → length lines ≡ length names
lines_as_many lines names same = sym (length-map lines string_bytes) ∙ ap length same ∙ length-map names (λ name. (read_fault (string_bytes name)).console)

pub line_at : (lines names : List (String Global)) → map string_bytes lines ≡ map (λ name. (read_fault (string_bytes name)).console) names → (i : ℕ) → i < length names → (line : String Global) → line ≡ get_or lines i line → string_bytes line ≡ (read_fault (get_or (texts_of names) i [])).console
line_at lines names same i inside line at =
    let there : i < length lines = omega (arith, lines_as_many lines names same, inside) in
    ap string_bytes at
    ∙ sym (get_or-map string_bytes lines i line [] there)
    ∙ ap (λ l. get_or l i []) same
    ∙ get_or-map (λ name. (read_fault (string_bytes name)).console) names i line [] inside
    ∙ ap (λ t. (read_fault t).console) (sym (get_or-map string_bytes names i line [] inside))

-- ---- the outcome of the reading

module _ (says : List (List ℕ) → List (List ℕ) → Due → Type 0) (names : List (List ℕ)) (due : Due) where
  outcome_by : (told : Option (List (List ℕ × List ℕ))) (contents : List (List ℕ)) → length contents ≡ length names → IfSome told (λ files. contents ≡ contents_of files names) → IsFilesOutcome says names contents due → IsOutcomeOfFiles says told names due
  outcome_by told contents as_many are_told outcome = record { contents = contents; as_many = as_many; are_told = are_told; outcome = outcome }

  -- some contents, where none are told: nothing in each file
  pub outcome_of_many : (told : Option (List (List ℕ × List ℕ))) → limit_number limits.Files < length names → due ≡ limit_passed limits.Files → IsOutcomeOfFiles says told names due
  outcome_of_many None many e = outcome_by None (replicate (length names) []) (length-replicate (length names) []) tt (IsFilesOutcome.many_files many e)
  outcome_of_many (Some files) many e = outcome_by (Some files) (contents_of files names) (length-map names (content_of files)) refl (IsFilesOutcome.many_files many e)

  pub outcome_said : (told : Option (List (List ℕ × List ℕ))) (contents : List (List ℕ)) → length contents ≡ length names → IfSome told (λ files. contents ≡ contents_of files names) → length names ≤ limit_number limits.Files → total_length contents ≤ limit_number limits.Input → says names contents due → IsOutcomeOfFiles says told names due
  outcome_said told contents as_many are_told few within said = outcome_by told contents as_many are_told (IsFilesOutcome.said few within said)

-- contents of so many files, of which the first is longer than the limit
long_contents : (limit n : ℕ) → 0 < n → (contents : List (List ℕ)) × (length contents ≡ n) × (limit < total_length contents)
long_contents limit zero more = absurd (omega arith)
long_contents limit (suc n) more =
    let first : List ℕ = replicate (limit + 1) 0 in
    let rest : List (List ℕ) = replicate n [] in
    let size : length first ≡ limit + 1 = length-replicate (limit + 1) 0 in
    (first ∷ rest, simp length-replicate refl, omega (arith, sum_by-cons length first rest, size))

module _ (says : List (List ℕ) → List (List ℕ) → Due → Type 0) (names : List (List ℕ)) (due : Due) (limit : ℕ) (is : limit ≡ limit_number limits.Input) (few : length names ≤ limit_number limits.Files) (some : 0 < length names) (e : due ≡ limit_passed limits.Input) where
  long_outcome : (told : Option (List (List ℕ × List ℕ))) (contents : List (List ℕ)) → length contents ≡ length names → IfSome told (λ files. contents ≡ contents_of files names) → limit < total_length contents → IsOutcomeOfFiles says told names due
  long_outcome told contents as_many are_told long = outcome_by says names due told contents as_many are_told (IsFilesOutcome.long_input few (subst (λ n. n < total_length contents) is long) e)

  pub outcome_of_long : (told : Option (List (List ℕ × List ℕ))) → IfSome told (λ files. limit < total_length (contents_of files names)) → IsOutcomeOfFiles says told names due
  outcome_of_long None long =
      let c = long_contents limit (length names) some in
      long_outcome None c.0 c.1 tt c.2
  outcome_of_long (Some files) long = long_outcome (Some files) (contents_of files names) (length-map names (content_of files)) refl long
