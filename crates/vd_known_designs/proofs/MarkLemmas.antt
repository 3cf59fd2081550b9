-- Literals in a store that grows, and marks one after the other.
use Rattle.std.proofs.Common.{◌≡◌, ◌==◌, ◌<◌, List, ◌∷◌, ap, arith, cond, drop, drop-cons, get_or, length, map, suc, sym, ℕ, ◌∙◌}
use Rattle.std.proofs.Math.Seq.{drop-length}
use Rattle.std.proofs.lemmas.Bool.Decides.{nat_tests}
use Rattle.vd_environments.specs.Environments.{Denotation, Indicated, nothing_denoted, with_entry}
use Rattle.vd_forest.specs.Forest.{Forest}
use Rattle.vd_forest.specs.Store.{Extends}
use Rattle.vd_value_rules.specs.Indicated.{texts_in}
use Rattle.vd_value_rules.specs.declared.forms.IndicatedForm.{IndicatedForm}
use Rattle.vd_known_designs.specs.Marks.{HasTexts, mark_of, marks_known}
use Rattle.vd_known_designs.specs.declared.marks.Mark.{Mark}
use Rattle.vd_known_designs.specs.Known.{none_known}
use Rattle.vd_meaning.specs.Given.{denoted_in}
use Rattle.vd_value_rules.specs.Declaring.{type_known}

pub texts_grown : (fs gs : List (Forest IndicatedForm)) (n : ℕ) (texts : List (List ℕ)) → Extends fs gs → HasTexts fs n texts → HasTexts gs n texts
texts_grown fs gs n texts grown has = record {
  within = omega (arith, grown.grows, has.within);
  are = ap texts_in (grown.keeps n has.within) ∙ has.are;
}

-- ---- marks

turned : (m n : ℕ) → (m == n) ≡ (n == m)
turned m n = grind (arith, nat_tests)

-- one mark more
pub marks_more : (n : ℕ) (i : Indicated) (ms : List (ℕ × Indicated)) → type_known n i i (marks_known ms) ≡ marks_known ((n, i) ∷ ms)
marks_more n i ms = λ j. record {
  env = record (marks_known ms).env { denotes = λ m. denotes m j };
  choosing = record (marks_known ms).choosing { denotes = λ m. denotes m j };
  packages = (marks_known ms).packages;
  functions = (marks_known ms).functions;
}
  where
    d : Denotation
    d = record nothing_denoted { subtype = i.subtype; make = i.make }

    denotes : (m : ℕ) → with_entry n d (denoted_in ms) m ≡ denoted_in ((n, i) ∷ ms) m
    denotes m = ap (λ b. cond b d (denoted_in ms m)) (turned m n)

-- behind the last one there are none, and before each there is one more
pub marks_at_end : (rows : List Mark) → none_known ≡ marks_known (map mark_of (drop (length rows) rows))
marks_at_end rows = sym (ap (λ rs. marks_known (map mark_of rs)) (drop-length rows))

pub marks_from : (rows : List Mark) (n k : ℕ) (other : Mark) → k ≡ suc n → n < length rows
    → mark_of (get_or rows n other) ∷ map mark_of (drop k rows) ≡ map mark_of (drop n rows)
marks_from rows n k other next within =
    ap (λ j. mark_of (get_or rows n other) ∷ map mark_of (drop j rows)) next ∙ ap (map mark_of) (sym (drop-cons rows n other within))
