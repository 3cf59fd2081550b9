-- The first refusal of some kind: of lists one after the other, and of lists that have none of it. No name has a dash, so that a caller
-- can name each in `#[tactic(auto, using(..))]`.
use Rattle.std.proofs.Common.{◌≡◌, Bool, true, false, not, cond, if◌then◌else◌, List, [], ◌∷◌, ◌++◌, Option, Some, None, refl, sym, ap, ◌∙◌}
use Rattle.std.specs.List.{filter}
use Rattle.std.proofs.lemmas.List.Elements.{filter-append}
use Rattle.vd_bytes.specs.declared.answers.Refused.{Refused}
use Rattle.vd_walks.specs.Least.{is_less, lesser_of, lesser, least_of}
use Rattle.vd_walks.proofs.OrderLaws.{not_both_less, same_where_neither_less, lesser_brackets}
use Rattle.vd_walks.proofs.LeastLaws.{least_of_append}

-- ---- the lesser of two hangs neither on their order nor on brackets

either_refusal : (a b : Refused) → lesser_of a b ≡ lesser_of b a
either_refusal a b = by_which (is_less b a) (is_less a b) refl refl
  where
    by_which : (ba ab : Bool) → is_less b a ≡ ba → is_less a b ≡ ab → lesser_of a b ≡ lesser_of b a
    by_which true true ba ab = let both : true ≡ false = sym ab ∙ not_both_less b a ba in cc
    by_which true false ba ab = ap (λ t. cond t b a) ba ∙ sym (ap (λ t. cond t a b) ab)
    by_which false true ba ab = ap (λ t. cond t b a) ba ∙ sym (ap (λ t. cond t a b) ab)
    by_which false false ba ab =
        ap (λ t. cond t b a) ba ∙ same_where_neither_less a b ab ba ∙ sym (ap (λ t. cond t a b) ab)

pub lesser_either : (a b : Option Refused) → lesser a b ≡ lesser b a
lesser_either None None = refl
lesser_either None (Some b) = refl
lesser_either (Some a) None = refl
lesser_either (Some a) (Some b) = ap Some (either_refusal a b)

-- four in another order
pub lesser_crossed : (a b c d : Option Refused) → lesser (lesser a b) (lesser c d) ≡ lesser (lesser a c) (lesser b d)
lesser_crossed a b c d =
    lesser_brackets a b (lesser c d) ∙ ap (lesser a) (sym (lesser_brackets b c d) ∙ ap (λ o. lesser o d) (lesser_either b c) ∙ lesser_brackets c b d)
    ∙ sym (lesser_brackets a c (lesser b d))

-- ---- the first of some kind

abbrev pub first_of_kind : (Refused → Bool) → List Refused → Option Refused
first_of_kind p rs = least_of (filter p rs)

pub first_of_both : (p : Refused → Bool) (rs qs : List Refused) → first_of_kind p (rs ++ qs) ≡ lesser (first_of_kind p rs) (first_of_kind p qs)
first_of_both p rs qs = ap least_of (filter-append p rs qs) ∙ least_of_append (filter p rs) (filter p qs)

-- ---- lists that have one kind alone

not_nothing : (r : Refused) (rs : List Refused) → r ∷ rs ≡ [] → true ≡ false
not_nothing r rs is = cc

all_others_more : (p : Refused → Bool) (r : Refused) (rs : List Refused) (b : Bool) → p r ≡ b
    → (filter p rs ≡ [] → filter (λ x. not (p x)) rs ≡ rs) → filter p (r ∷ rs) ≡ [] → filter (λ x. not (p x)) (r ∷ rs) ≡ r ∷ rs
all_others_more p r rs true is rest none =
    let no : true ≡ false = not_nothing r (filter p rs) (sym (ap (λ b. if b then r ∷ filter p rs else filter p rs) is) ∙ none) in cc
all_others_more p r rs false is rest none =
    ap (λ b. if not b then r ∷ filter (λ x. not (p x)) rs else filter (λ x. not (p x)) rs) is
    ∙ ap (λ l. r ∷ l) (rest (sym (ap (λ b. if b then r ∷ filter p rs else filter p rs) is) ∙ none))

pub all_others : (p : Refused → Bool) (rs : List Refused) → filter p rs ≡ [] → filter (λ r. not (p r)) rs ≡ rs
all_others p [] none = refl
all_others p (r ∷ rs) none = all_others_more p r rs (p r) refl (λ k. all_others p rs k) none

none_others_more : (p : Refused → Bool) (r : Refused) (rs others : List Refused) (b : Bool) → p r ≡ b → others ≡ filter (λ x. not (p x)) rs
    → (others ≡ [] → filter p rs ≡ rs) → filter (λ x. not (p x)) (r ∷ rs) ≡ [] → filter p (r ∷ rs) ≡ r ∷ rs
none_others_more p r rs others true is same rest none =
    ap (λ b. if b then r ∷ filter p rs else filter p rs) is
    ∙ ap (λ l. r ∷ l) (rest (same ∙ sym (ap (λ b. if not b then r ∷ filter (λ x. not (p x)) rs else filter (λ x. not (p x)) rs) is) ∙ none))
none_others_more p r rs others false is same rest none =
    let no : true ≡ false =
    not_nothing r (filter (λ x. not (p x)) rs) (sym (ap (λ b. if not b then r ∷ filter (λ x. not (p x)) rs else filter (λ x. not (p x)) rs) is) ∙ none) in cc

pub none_others : (p : Refused → Bool) (rs : List Refused) → filter (λ r. not (p r)) rs ≡ [] → filter p rs ≡ rs
none_others p [] none = refl
none_others p (r ∷ rs) none = none_others_more p r rs (filter (λ x. not (p x)) rs) (p r) refl refl (λ k. none_others p rs k) none
