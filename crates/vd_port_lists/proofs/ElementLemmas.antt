-- Modes of elements by their names. No name has a dash, so that a caller can name each in `#[tactic(auto, using(..))]`.
use Rattle.std.proofs.Common.{◌≡◌, ◌<◌, ◌+◌, ℕ, Bool, true, false, cond, List, [], ◌∷◌, Option, Some, None, map, length, get_or, drop, refl, sym, ap, ◌∙◌}
use Rattle.std.proofs.lemmas.Bool.{false≢true}
use Rattle.std.proofs.lemmas.List.{drop_more}
use Rattle.std.proofs.lemmas.Slice.Eq.{bytes_eq-Decides}
use Rattle.std.specs.Str.{bytes_eq}
use Rattle.indexmap.specs.IndexMap.{insert_entry}
use Rattle.vd_meaning.specs.Building.{Input}
use Rattle.vd_meaning.specs.NodeFacets.{ByMode, ElementMode}
use Rattle.vd_meaning.specs.Instances.{element_mode}
use Rattle.vd_port_lists.specs.Listed.{read_element}
use Rattle.vd_port_lists.specs.Modes.{read_mode}
use Rattle.vd_port_lists.specs.Named.{first_named, value_named}
use Rattle.vd_port_lists.specs.declared.entries.ListedElement.{ListedElement}
use Rattle.vd_port_lists.specs.declared.modes.PortMode.{PortMode}

abbrev pub read_or_input : Option PortMode → ElementMode
read_or_input None = ByMode Input
read_or_input (Some mode) = read_mode mode

-- the mode of an element of a list is that of the first one of its name
first_read : (b : Bool) (mode : PortMode) (rest : Option PortMode) (read : ElementMode) → read ≡ read_or_input rest
    → cond b (read_mode mode) read ≡ read_or_input (cond b (Some mode) rest)
first_read true mode rest read before = refl
first_read false mode rest read before = before

pub modes_are_read : (xs : List ListedElement) (name : List ℕ) → element_mode (map read_element xs) name ≡ read_or_input (first_named xs name)
modes_are_read [] name = refl
modes_are_read (x ∷ xs) name = first_read (bytes_eq x.name name) x.mode (first_named xs name) (element_mode (map read_element xs) name) (modes_are_read xs name)

same_texts : (a b : List ℕ) → bytes_eq a b ≡ true → a ≡ b
same_texts a b h = (bytes_eq-Decides a b).0 h

-- ---- one more name put

refl_texts : (a : List ℕ) → bytes_eq a a ≡ true
refl_texts a = (bytes_eq-Decides a a).1 refl

-- texts that are equal are both equal to a name, or both not
same_tests : (name a b : List ℕ) → bytes_eq a b ≡ true → bytes_eq name a ≡ bytes_eq name b
same_tests name a b same = ap (bytes_eq name) (same_texts a b same)

-- no name is equal to two texts that aren't equal
both_tests : (name a b : List ℕ) → bytes_eq name a ≡ true → bytes_eq a b ≡ false → bytes_eq name b ≡ true → false ≡ true
both_tests name a b first other second = sym other ∙ ap (λ x. bytes_eq x b) (sym (same_texts name a first)) ∙ second

module _ {K X : Type 0} (read : K → List ℕ) (k : K) (x : X) (name : List ℕ) where
  abbrev eq : K → K → Bool
  eq a b = bytes_eq (read a) (read b)

  put_behind : (e : K × X) (es : List (K × X)) (a b : Bool) → bytes_eq name (read e.0) ≡ a → bytes_eq name (read k) ≡ b
      → bytes_eq (read k) (read e.0) ≡ false → value_named (insert_entry eq es k x) read name ≡ cond b (Some x) (value_named es read name)
      → cond a (Some e.1) (value_named (insert_entry eq es k x) read name) ≡ cond b (Some x) (cond a (Some e.1) (value_named es read name))
  put_behind e es true true is_a is_b other before = absurd (false≢true (both_tests name (read k) (read e.0) is_b other is_a))
  put_behind e es true false is_a is_b other before = refl
  put_behind e es false b is_a is_b other before = before

  put_here : (e : K × X) (rest : Option X) (a : Bool) → bytes_eq name (read k) ≡ a → bytes_eq name (read e.0) ≡ a
      → cond a (Some x) rest ≡ cond a (Some x) (cond a (Some e.1) rest)
  put_here e rest true is_k is_e = refl
  put_here e rest false is_k is_e = refl

  put_by_key : (e : K × X) (es : List (K × X)) (b : Bool) → bytes_eq (read k) (read e.0) ≡ b
      → value_named (insert_entry eq es k x) read name ≡ cond (bytes_eq name (read k)) (Some x) (value_named es read name)
      → value_named (cond b ((e.0, x) ∷ es) (e ∷ insert_entry eq es k x)) read name ≡ cond (bytes_eq name (read k)) (Some x) (value_named (e ∷ es) read name)
  put_by_key e es true same before =
      ap (λ b. cond b (Some x) (value_named es read name)) (sym (same_tests name (read k) (read e.0) same))
      ∙ put_here e (value_named es read name) (bytes_eq name (read k)) refl (sym (same_tests name (read k) (read e.0) same))
      ∙ ap (λ b. cond (bytes_eq name (read k)) (Some x) (cond b (Some e.1) (value_named es read name))) (same_tests name (read k) (read e.0) same)
  put_by_key e es false other before = put_behind e es (bytes_eq name (read e.0)) (bytes_eq name (read k)) refl refl other before

  pub named_put : (es : List (K × X)) → value_named (insert_entry eq es k x) read name ≡ cond (bytes_eq name (read k)) (Some x) (value_named es read name)
  named_put [] = refl
  named_put (e ∷ es) = put_by_key e es (bytes_eq (read k) (read e.0)) refl (named_put es)

-- the element in front of others
pub swapped_tests : (a b : List ℕ) → bytes_eq a b ≡ bytes_eq b a
swapped_tests a b = by_test (bytes_eq a b) (bytes_eq b a) refl refl
  where
    by_test : (p q : Bool) → bytes_eq a b ≡ p → bytes_eq b a ≡ q → p ≡ q
    by_test true true is_p is_q = refl
    by_test false false is_p is_q = refl
    by_test true false is_p is_q = absurd (false≢true (sym is_q ∙ ap (λ x. bytes_eq x a) (sym (same_texts a b is_p)) ∙ refl_texts a))
    by_test false true is_p is_q = absurd (false≢true (sym is_p ∙ ap (λ x. bytes_eq x b) (sym (same_texts b a is_q)) ∙ refl_texts b))

pub element_in_front : (xs : List ListedElement) (left : ℕ) (x : ListedElement) (name : List ℕ) → left < length xs → x ≡ get_or xs left x
    → first_named (drop left xs) name ≡ cond (bytes_eq name x.name) (Some x.mode) (first_named (drop (left + 1) xs) name)
element_in_front xs left x name inside is =
    ap (λ ys. first_named ys name) (drop_more xs left x inside)
    ∙ ap (λ y. cond (bytes_eq y.name name) (Some y.mode) (first_named (drop (left + 1) xs) name)) (sym is)
    ∙ ap (λ b. cond b (Some x.mode) (first_named (drop (left + 1) xs) name)) (swapped_tests x.name name)

-- the table with one more element in front
pub name_put : {K : Type 0} (read : K → List ℕ) (k : K) (x : ListedElement) (xs : List ListedElement) (left : ℕ) (old new : List (K × PortMode)) (name : List ℕ)
    → left < length xs → x ≡ get_or xs left x → read k ≡ x.name → new ≡ insert_entry (λ a b. bytes_eq (read a) (read b)) old k x.mode
    → value_named old read name ≡ first_named (drop (left + 1) xs) name → value_named new read name ≡ first_named (drop left xs) name
name_put read k x xs left old new name inside is is_name put before =
    ap (λ es. value_named es read name) put
    ∙ named_put read k x.mode name old
    ∙ ap (λ rest. cond (bytes_eq name (read k)) (Some x.mode) rest) before
    ∙ ap (λ a. cond (bytes_eq name a) (Some x.mode) (first_named (drop (left + 1) xs) name)) is_name
    ∙ sym (element_in_front xs left x name inside is)
