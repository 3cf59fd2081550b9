-- Texts that come and go. No name has a dash, so that a caller can name each in `#[tactic(auto, using(..))]`.
use Rattle.std.proofs.Common.{◌≡◌, Bool, List, Option, Some, [], ap, arith, cond, false, nat_eq, refl, sym, true, ℕ, ◌++◌, subst, ◌==◌, ◌∙◌, ◌∷◌}
use Rattle.std.proofs.lemmas.Bool.Decides.{nat_tests}
use Rattle.vd_body_rules.specs.Texts.{AreLinked, IsTable, behind, known_texts, or_nothing, text_of, texts_of}
use Rattle.vd_body_rules.specs.declared.texts.Entry.{Entry}
use Rattle.vd_environments.specs.Environments.{with_entry}
use Rattle.vd_forest.specs.Forest.{Forest, nothing}
use Rattle.vd_resolved.specs.declared.node.Resolved.{Resolved}

pub behind_both : (known : ℕ → Forest Resolved) (xs ys : List (ℕ × Forest Resolved)) → behind known (xs ++ ys) ≡ behind (behind known xs) ys
behind_both known [] ys = refl
behind_both known (x ∷ xs) ys = behind_both (with_entry x.0 x.1 known) xs ys

texts_pushed : (es : List Entry) (e : Entry) → texts_of (es ++ e ∷ []) ≡ texts_of es ++ text_of e ∷ []
texts_pushed [] e = refl
texts_pushed (f ∷ es) e = ap (λ xs. text_of f ∷ xs) (texts_pushed es e)

known_pushed : (es : List Entry) (e : Entry) → known_texts (texts_of (es ++ e ∷ [])) ≡ with_entry e.number e.text (known_texts (texts_of es))
known_pushed es e = ap known_texts (texts_pushed es e) ∙ behind_both (λ _. nothing) (texts_of es) (text_of e ∷ [])

links_pushed : (known : ℕ → Forest Resolved) (es : List Entry) (e : Entry) → AreLinked known es → or_nothing e.before ≡ behind known (texts_of es) e.number
    → AreLinked known (es ++ e ∷ [])
links_pushed known [] e linked is = (is, tt)
links_pushed known (f ∷ es) e linked is = (linked.0, links_pushed (with_entry f.number f.text known) es e linked.1 is)

links_popped : (known : ℕ → Forest Resolved) (es : List Entry) (e : Entry) → AreLinked known (es ++ e ∷ [])
    → AreLinked known es × (or_nothing e.before ≡ behind known (texts_of es) e.number)
links_popped known [] e linked = (tt, linked.0)
links_popped known (f ∷ es) e linked =
    let rest = links_popped (with_entry f.number f.text known) es e linked.1 in ((linked.0, rest.0), rest.1)

turned : (m n : ℕ) → nat_eq m n ≡ (n == m)
turned m n = grind (arith, nat_tests)

same_number : (m n : ℕ) → (m == n) ≡ true → m ≡ n
same_number m n is = grind (arith, nat_tests)

pub table_pushed : (es : List Entry) (e : Entry) (latest latest' : ℕ → Option (Forest Resolved)) → IsTable es latest → e.before ≡ latest e.number
    → ((k : ℕ) → latest' k ≡ cond (nat_eq e.number k) (Some e.text) (latest k)) → IsTable (es ++ e ∷ []) latest'
table_pushed es e latest latest' table before put = record {
  last = λ k.
      ap or_nothing (put k) ∙ ap (λ b. or_nothing (cond b (Some e.text) (latest k))) (turned e.number k) ∙ by (k == e.number) k
      ∙ sym (ap (λ g. g k) (known_pushed es e));
  linked = links_pushed (λ _. nothing) es e table.linked (ap or_nothing before ∙ table.last e.number);
}
  where
    by : (b : Bool) (k : ℕ) → or_nothing (cond b (Some e.text) (latest k)) ≡ cond b e.text (known_texts (texts_of es) k)
    by true k = refl
    by false k = table.last k

pub table_popped : (us es : List Entry) (e : Entry) (latest latest' : ℕ → Option (Forest Resolved)) → IsTable us latest → us ≡ es ++ e ∷ []
    → ((k : ℕ) → latest' k ≡ cond (nat_eq e.number k) e.before (latest k)) → IsTable es latest'
table_popped us es e latest latest' table popped put =
    let linked = links_popped (λ _. nothing) es e (all_linked us table.linked popped) in
    record {
      last = λ k. ap or_nothing (put k) ∙ ap (λ b. or_nothing (cond b e.before (latest k))) (turned e.number k) ∙ by linked.1 (k == e.number) k refl;
      linked = linked.0;
    }
  where
    all_linked : (vs : List Entry) → AreLinked (λ _. nothing) vs → vs ≡ es ++ e ∷ [] → AreLinked (λ _. nothing) (es ++ e ∷ [])
    all_linked vs linked is = subst (AreLinked (λ _. nothing)) is linked

    by : or_nothing e.before ≡ known_texts (texts_of es) e.number → (b : Bool) (k : ℕ) → (k == e.number) ≡ b
        → or_nothing (cond b e.before (latest k)) ≡ known_texts (texts_of es) k
    by before true k is = before ∙ ap (known_texts (texts_of es)) (sym (same_number k e.number is))
    by before false k is =
        table.last k ∙ ap (λ vs. known_texts (texts_of vs) k) popped ∙ ap (λ g. g k) (known_pushed es e)
        ∙ ap (λ b. cond b e.text (known_texts (texts_of es) k)) is
