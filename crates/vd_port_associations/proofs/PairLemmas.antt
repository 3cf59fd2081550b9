-- What pairs break together.
use Rattle.std.proofs.Common.{◌≡◌, ◌+◌, ◌++◌, ◌||◌, ◌∷◌, Bool, List, None, Option, Some, [], ap, ap₂, arith, false, if◌then◌else◌, refl, rules, suc, sym, true, true≢false, ℕ, ◌∙◌}
use Rattle.std.proofs.lemmas.Bool.{and_parts}
use Rattle.std.proofs.lemmas.List.{append_assoc, append-nil}
use Rattle.std.specs.List.{list_any}
use Rattle.indexmap.specs.IndexSet.{insert_key}
use Rattle.vd_bytes.specs.declared.answers.Refused.{Refused}
use Rattle.vd_bytes.specs.declared.places.Place.{Place}
use Rattle.vd_walks.proofs.LeastLaws.{least_of_append}
use Rattle.vd_walks.proofs.OrderLaws.{lesser_brackets, lesser_right}
use Rattle.vd_meaning.specs.NodeFacets.{ViewElement}
use Rattle.vd_walks.specs.Least.{is_less, lesser}
use Rattle.vd_port_associations.specs.Agreement.{all_rules, first_rule, pair_rules, read_side}
use Rattle.vd_port_associations.specs.contracts.pairs.PairPartialEq.TheImpl as pairs
use Rattle.vd_port_associations.specs.contracts.pairs.SidePartialEq.TheImpl as sides
use Rattle.vd_port_associations.specs.declared.pairs.Pair.{Pair}
use Rattle.vd_port_associations.specs.declared.pairs.Side.{Side}
use Rattle.vd_port_modes.specs.Tables.{names_of}
use Rattle.vd_value_rules.proofs.FirstLemmas.{lesser_either}
use Rattle.vd_value_rules.specs.Actuals.{disagree_inside, each_element_disagrees, flat, refused_for}
use Rattle.vd_value_rules.specs.Designs.{Design, Oriented, at_element}

refused_both : (place : Place) (ms ns : List ℕ) → refused_for place (ms ++ ns) ≡ refused_for place ms ++ refused_for place ns
refused_both place [] ns = refl
refused_both place (m ∷ ms) ns = ap (λ rs. record { place = place; rule = m } ∷ rs) (refused_both place ms ns)

pub first_both : (place : Place) (ms ns : List ℕ) → first_rule place (ms ++ ns) ≡ lesser (first_rule place ms) (first_rule place ns)
first_both place ms ns = ap Rattle.vd_walks.specs.Least.least_of (refused_both place ms ns) ∙ least_of_append (refused_for place ms) (refused_for place ns)

all_both : (n : ℕ) (d : Design) (ps qs : List Pair) → all_rules n d (ps ++ qs) ≡ all_rules n d ps ++ all_rules n d qs
all_both n d [] qs = refl
all_both n d (p ∷ ps) qs =
    ap (λ ns. pair_rules n d p ++ ns) (all_both n d ps qs) ∙ sym (append_assoc (pair_rules n d p) (all_rules n d ps) (all_rules n d qs))

same_side : (a b : Side) → (sides.eq-value).it a b ≡ true → a ≡ b
same_side a b h = search rules

same_pair : (p q : Pair) → (pairs.eq-value).it p q ≡ true → p ≡ q
same_pair p q h =
    let parts = and_parts ((sides.eq-value).it p.formal q.formal) ((sides.eq-value).it p.actual q.actual) h in
    ap₂ (λ f a. record { formal = f; actual = a }) (same_side p.formal q.formal parts.0) (same_side p.actual q.actual parts.1)

either_one : (b : Bool) (a : Refused) → (if b then a else a) ≡ a
either_one true a = refl
either_one false a = refl

lesser_same : (a : Option Refused) → lesser a a ≡ a
lesser_same None = refl
lesser_same (Some a) = ap Some (either_one (is_less a a) a)

-- one that is among some adds nothing to them
first_among : (a b : Option Refused) → lesser (lesser a b) a ≡ lesser a b
first_among a b = ap (λ x. lesser x a) (lesser_either a b) ∙ lesser_brackets b a a ∙ ap (lesser b) (lesser_same a) ∙ lesser_either b a

module _ (n : ℕ) (d : Design) (place : Place) where
  there_already : (ps : List Pair) (p : Pair) → list_any ((pairs.eq-value).it p) ps ≡ true
      → first_rule place (all_rules n d ps) ≡ lesser (first_rule place (all_rules n d ps)) (first_rule place (pair_rules n d p))
  there_already [] p h = absurd (true≢false (sym h))
  there_already (q ∷ ps) p h = by_first ((pairs.eq-value).it p q) refl h (there_already ps p)
    where
      whole : first_rule place (all_rules n d (q ∷ ps)) ≡ lesser (first_rule place (pair_rules n d q)) (first_rule place (all_rules n d ps))
      whole = first_both place (pair_rules n d q) (all_rules n d ps)

      by_first : (b : Bool) → (pairs.eq-value).it p q ≡ b → (b || list_any ((pairs.eq-value).it p) ps) ≡ true
          → (list_any ((pairs.eq-value).it p) ps ≡ true
          → first_rule place (all_rules n d ps) ≡ lesser (first_rule place (all_rules n d ps)) (first_rule place (pair_rules n d p)))
          → first_rule place (all_rules n d (q ∷ ps)) ≡ lesser (first_rule place (all_rules n d (q ∷ ps))) (first_rule place (pair_rules n d p))
      by_first true same h before =
          whole ∙ sym (first_among (first_rule place (pair_rules n d q)) (first_rule place (all_rules n d ps)))
          ∙ ap₂ lesser (sym whole) (ap (λ x. first_rule place (pair_rules n d x)) (sym (same_pair p q same)))
      by_first false other h before =
          whole ∙ ap (lesser (first_rule place (pair_rules n d q))) (before h)
          ∙ sym (lesser_brackets (first_rule place (pair_rules n d q)) (first_rule place (all_rules n d ps)) (first_rule place (pair_rules n d p)))
          ∙ ap (λ x. lesser x (first_rule place (pair_rules n d p))) (sym whole)

  put_last : (ps : List Pair) (p : Pair)
      → first_rule place (all_rules n d (ps ++ p ∷ [])) ≡ lesser (first_rule place (all_rules n d ps)) (first_rule place (pair_rules n d p))
  put_last ps p =
      ap (first_rule place) (all_both n d ps (p ∷ []) ∙ ap (λ ns. all_rules n d ps ++ ns) (append-nil (pair_rules n d p)))
      ∙ first_both place (all_rules n d ps) (pair_rules n d p)

  -- a pair is put to some where it isn't among them
  pub added : (old new : List Pair) (p : Pair) → new ≡ insert_key (pairs.eq-value).it old p
      → first_rule place (all_rules n d new) ≡ lesser (first_rule place (all_rules n d old)) (first_rule place (pair_rules n d p))
  added old new p is = ap (λ ps. first_rule place (all_rules n d ps)) is ∙ by_test (list_any ((pairs.eq-value).it p) old) refl
    where
      by_test : (b : Bool) → list_any ((pairs.eq-value).it p) old ≡ b
          → first_rule place (all_rules n d (if b then old else old ++ p ∷ [])) ≡ lesser (first_rule place (all_rules n d old)) (first_rule place (pair_rules n d p))
      by_test true h = there_already old p h
      by_test false h = put_last old p

-- ---- elements

-- what pairs at elements of these names break
abbrev pub named_rules : (Oriented → Oriented → List ℕ) → Design → Oriented → Oriented → List (List ℕ) → List ℕ
named_rules go d formal actual [] = []
named_rules go d formal actual (name ∷ names) = go (at_element d formal name) (at_element d actual name) ++ named_rules go d formal actual names

pub by_names : (go : Oriented → Oriented → List ℕ) (d : Design) (formal actual : Oriented) (xs : List ViewElement)
    → flat (each_element_disagrees go d formal actual xs) ≡ named_rules go d formal actual (names_of xs)
by_names go d formal actual [] = refl
by_names go d formal actual (x ∷ xs) = ap (λ ns. go (at_element d formal x.name) (at_element d actual x.name) ++ ns) (by_names go d formal actual xs)

-- the pair at one element more
pub one_element : (n : ℕ) (d : Design) (place : Place) (old new : List Pair) (child : Pair) (formal actual : Oriented) (name : List ℕ) (names : List (List ℕ))
    → first_rule place (all_rules n d new) ≡ lesser (first_rule place (all_rules n d old)) (first_rule place (pair_rules n d child))
    → read_side child.formal ≡ at_element d formal name → read_side child.actual ≡ at_element d actual name
    → lesser (first_rule place (all_rules n d new)) (first_rule place (named_rules (disagree_inside n d) d formal actual names))
    ≡ lesser (first_rule place (all_rules n d old)) (first_rule place (named_rules (disagree_inside n d) d formal actual (name ∷ names)))
one_element n d place old new child formal actual name names is of_formal of_actual =
    let rest : Option Refused = first_rule place (named_rules (disagree_inside n d) d formal actual names) in
    let own : Option Refused = first_rule place (disagree_inside n d (at_element d formal name) (at_element d actual name)) in
    ap (λ x. lesser x rest) (is ∙ ap₂ (λ f a. lesser (first_rule place (all_rules n d old)) (first_rule place (disagree_inside n d f a))) of_formal of_actual)
    ∙ lesser_brackets (first_rule place (all_rules n d old)) own rest
    ∙ ap (lesser (first_rule place (all_rules n d old)))
    (sym (first_both place (disagree_inside n d (at_element d formal name) (at_element d actual name)) (named_rules (disagree_inside n d) d formal actual names)))

-- ---- levels

in_order : (k r f rest p before : Option Refused) → lesser k r ≡ lesser before p → lesser (lesser k (lesser f r)) rest ≡ lesser (lesser before f) (lesser p rest)
in_order k r f rest p before is =
    ap (λ x. lesser x rest)
    (ap (lesser k) (lesser_either f r) ∙ sym (lesser_brackets k r f) ∙ ap (λ x. lesser x f) is ∙ lesser_brackets before p f
    ∙ ap (lesser before) (lesser_either p f) ∙ sym (lesser_brackets before f p))
    ∙ lesser_brackets (lesser before f) p rest

-- one pair more of a level
pub one_pair : (n : ℕ) (d : Design) (place : Place) (before after rest : List Pair) (p : Pair) (found refused : Option Refused)
    → lesser (first_rule place (all_rules n d after)) refused ≡ lesser (first_rule place (all_rules n d before)) (first_rule place (pair_rules (suc n) d p))
    → lesser (lesser (first_rule place (all_rules n d after)) (lesser found refused)) (first_rule place (all_rules (suc n) d rest))
    ≡ lesser (lesser (first_rule place (all_rules n d before)) found) (first_rule place (all_rules (suc n) d (p ∷ rest)))
one_pair n d place before after rest p found refused is =
    in_order (first_rule place (all_rules n d after)) refused found (first_rule place (all_rules (suc n) d rest)) (first_rule place (pair_rules (suc n) d p))
    (first_rule place (all_rules n d before)) is
    ∙ ap (lesser (lesser (first_rule place (all_rules n d before)) found)) (sym (first_both place (pair_rules (suc n) d p) (all_rules (suc n) d rest)))

-- one level more
pub one_level : (n : ℕ) (d : Design) (place : Place) (level coming : List Pair) (found refused : Option Refused)
    → lesser (first_rule place (all_rules n d coming)) refused ≡ lesser None (first_rule place (all_rules (suc n) d level))
    → lesser (lesser found refused) (first_rule place (all_rules n d coming)) ≡ lesser found (first_rule place (all_rules (suc n) d level))
one_level n d place level coming found refused is =
    lesser_brackets found refused (first_rule place (all_rules n d coming))
    ∙ ap (lesser found) (lesser_either refused (first_rule place (all_rules n d coming)) ∙ is)

none_inside : (d : Design) (ps : List Pair) → all_rules 0 d ps ≡ []
none_inside d [] = refl
none_inside d (p ∷ ps) = none_inside d ps

-- where no view is looked into, or no pair is left
pub none_left : (n : ℕ) (d : Design) (place : Place) (ps : List Pair) (found : Option Refused) → n ≡ 0
    → lesser found (first_rule place (all_rules n d ps)) ≡ found
none_left n d place ps found is =
    ap (λ k. lesser found (first_rule place (all_rules k d ps))) is ∙ ap (λ ns. lesser found (first_rule place ns)) (none_inside d ps) ∙ lesser_right found

pub no_pairs : (n : ℕ) (d : Design) (place : Place) (ps : List Pair) (found : Option Refused) → ps ≡ []
    → lesser found (first_rule place (all_rules n d ps)) ≡ found
no_pairs n d place ps found is = ap (λ qs. lesser found (first_rule place (all_rules n d qs))) is ∙ lesser_right found

-- where the first pair is put
pub one_start : (n m : ℕ) (d : Design) (place : Place) (start keys : List Pair) (p : Pair) → start ≡ [] → keys ≡ insert_key (pairs.eq-value).it start p → n ≡ m + 2
    → first_rule place (all_rules n d keys) ≡ first_rule place (pair_rules (suc (suc m)) d p)
one_start n m d place start keys p none is count =
    ap (λ ks. first_rule place (all_rules n d ks)) (is ∙ ap (λ ks. insert_key (pairs.eq-value).it ks p) none)
    ∙ ap (first_rule place) (append-nil (pair_rules n d p))
    ∙ ap (λ k. first_rule place (pair_rules k d p)) (count ∙ two)
  where
    two : m + 2 ≡ suc (suc m)
    two = omega arith
