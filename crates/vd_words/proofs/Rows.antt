-- What the matches hold of an argument after one more value.
use Rattle.std.proofs.Common.{◌≡◌, ℕ, Bool, true, false, List, [], ◌∷◌, ◌++◌, Some, refl, sym, ap, ◌∙◌, bytes_eq}
use Rattle.std.proofs.lemmas.Slice.Eq.{bytes_eq-Decides}
use Rattle.clap.specs.Facts.{parser_of_value}
use Rattle.clap.specs.Values.{reading_of}
use Rattle.clap.specs.Walk.{Row, with_values}
use Rattle.clap.specs.declared.builder.value_parser.ValueParser.TheVariants as parsers
use Rattle.clap.specs.declared.parser.matches.ValueSource.TheVariants.{CommandLine}
use Rattle.vd_words.specs.Given.{values_in}

-- one more value of an argument that takes texts
abbrev pub add : List ℕ → List ℕ → List Row → List Row
add id value rows = with_values id (reading_of (parser_of_value (Some parsers.String))) CommandLine (value ∷ []) rows

pub same_text : (text : List ℕ) → bytes_eq text text ≡ true
same_text text = (bytes_eq-Decides text text).1 refl

pub added_same : (id value : List ℕ) (rows : List Row) → values_in id (add id value rows) ≡ values_in id rows ++ value ∷ []
added_same id value [] = rw (same_text id) refl
added_same id value (r ∷ rs) = by_test (added_same id value rs) (bytes_eq r.id id) refl
  where
    by_test : values_in id (add id value rs) ≡ values_in id rs ++ value ∷ [] → (b : Bool) → bytes_eq r.id id ≡ b → values_in id (add id value (r ∷ rs)) ≡ values_in id (r ∷ rs) ++ value ∷ []
    by_test later true e = rw (e, e) refl
    by_test later false e = rw (e, e) later

pub added_other : (id other value : List ℕ) (rows : List Row) → bytes_eq id other ≡ false → values_in other (add id value rows) ≡ values_in other rows
added_other id other value [] differs = rw differs refl
added_other id other value (r ∷ rs) differs = by_test (added_other id other value rs differs) (bytes_eq r.id id) refl (bytes_eq r.id other) refl
  where
    by_test : values_in other (add id value rs) ≡ values_in other rs → (b : Bool) → bytes_eq r.id id ≡ b → (c : Bool) → bytes_eq r.id other ≡ c → values_in other (add id value (r ∷ rs)) ≡ values_in other (r ∷ rs)
    by_test later true e c f =
        let is : r.id ≡ id = (bytes_eq-Decides r.id id).0 e in
        let no : bytes_eq r.id other ≡ false = ap (λ t. bytes_eq t other) is ∙ differs in
        rw (e, no) refl
    by_test later false e true f = rw (e, f) refl
    by_test later false e false f = rw (e, f) later
