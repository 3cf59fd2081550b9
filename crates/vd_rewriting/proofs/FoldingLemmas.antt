-- The table of a fold: what each number means.
use Rattle.std.proofs.Common.{◌≡◌, ◌<◌, ◌≤◌, ℕ, ◌+◌, ◌-◌, List, [], ◌∷◌, ◌++◌, length, get_or, refl, sym, ap, ◌∙◌, subst, arith, append_assoc, length-append, below_more}
use Rattle.std.proofs.lemmas.List.{append-nil, get_or_append_left, get_or_at}
use Rattle.vd_bytes.specs.declared.places.Place.{Place}
use Rattle.vd_forest.specs.Forest.{Forest, more, next_of}
use Rattle.vd_forest.specs.Store.{at}
use Rattle.vd_rewriting.specs.Folding.{Meaning, folded, AreMeanings}

module _ {F M : Type 0} (meaning : Meaning F M) (fs : List (Forest F)) where
  pub meanings_none : AreMeanings meaning fs []
  meanings_none = record { each = λ n m within. absurd (omega arith) }

  pub meanings_more : (table list : List M) (k a b : ℕ) (m : M) (form : F) (text : List ℕ) (place : Place)
      → AreMeanings meaning fs table → k ≡ length table + 1 → at fs k ≡ more form text place (at fs a) (at fs b)
      → list ≡ folded meaning (at fs a) → m ≡ meaning form text place list → AreMeanings meaning fs (table ++ m ∷ [])
  meanings_more table list k a b m form text place all last opened gathered is =
      let opened' : at fs (length table + 1) ≡ more form text place (at fs a) (at fs b) = ap (at fs) (sym last) ∙ opened in
      let is' : m ≡ meaning form text place (folded meaning (at fs a)) = is ∙ ap (meaning form text place) gathered in
      record {
        each = λ n d within.
            below_more (λ j. folded meaning (at fs (j + 1)) ≡ get_or (table ++ m ∷ []) j d ∷ folded meaning (next_of (at fs (j + 1)))) (length table)
            (λ j below. all.each j d below ∙ ap (λ x. x ∷ folded meaning (next_of (at fs (j + 1)))) (sym (get_or_append_left table (m ∷ []) d j below)))
            (ap (folded meaning) opened'
            ∙ ap (λ x. x ∷ folded meaning (at fs b)) (sym is' ∙ sym (get_or_at table m [] d (length table) refl))
            ∙ ap (λ f. get_or (table ++ m ∷ []) (length table) d ∷ folded meaning f) (sym (ap next_of opened')))
            n (omega (arith, length-append table (m ∷ [])));
      }

  -- one tree's meaning more is gathered
  pub gathered_more : (table list : List M) (k next : ℕ) (m : M) (want : List M) → AreMeanings meaning fs table → 0 < k → k ≤ length table
      → m ≡ get_or table (k - 1) m → at fs next ≡ next_of (at fs k)
      → list ++ folded meaning (at fs k) ≡ want → (list ++ m ∷ []) ++ folded meaning (at fs next) ≡ want
  gathered_more table list k next m want all some within read after wanted =
      let below : k - 1 < length table = omega arith in
      let e : k - 1 + 1 ≡ k = omega arith in
      let first = subst (λ j. folded meaning (at fs j) ≡ get_or table (k - 1) m ∷ folded meaning (next_of (at fs j))) e (all.each (k - 1) m below) in
      append_assoc list (m ∷ []) (folded meaning (at fs next))
      ∙ ap (λ r. list ++ r) (ap (λ f. m ∷ folded meaning f) after ∙ ap (λ x. x ∷ folded meaning (next_of (at fs k))) read ∙ sym first)
      ∙ wanted

  pub gathered_all : (list : List M) (k : ℕ) (want : List M) → k ≤ 0 → list ++ folded meaning (at fs k) ≡ want → list ≡ want
  gathered_all list k want none wanted =
      let e : k ≡ 0 = omega arith in sym (append-nil list) ∙ ap (λ j. list ++ folded meaning (at fs j)) (sym e) ∙ wanted

pub ruleset folding_steps = (meanings_none, meanings_more)

pub ruleset gathering_steps = (gathered_more, gathered_all)
