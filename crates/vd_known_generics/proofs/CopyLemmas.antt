-- What is copied, one after the other.
use Rattle.std.proofs.Common.{◌≡◌, ◌≤◌, ◌∷◌, ◌++◌, ◌<◌, ◌∙◌, Bor, List, None, Option, Some, [], ap, ap₂, arith, drop, drop-cons, get_or, length, length-drop, min, refl, subst, suc, sym, take, ℕ}
use Rattle.std.proofs.Math.Seq.{take-suc}
use Rattle.std.specs.Prelude.{MatchOption, option_copied}
use Rattle.vd_environments.specs.Environments.{Denotation}
use Rattle.vd_forest.specs.Forest.{Forest}
use Rattle.vd_value_rules.specs.declared.forms.IndicatedForm.{IndicatedForm}
use Rattle.vd_value_rules.specs.Made.{Indicates}
use Rattle.vd_known_designs.specs.Designs.{Knows}
use Rattle.vd_known_designs.specs.declared.design.KnownDesign.{KnownDesign}
use Rattle.vd_known_generics.specs.Copied.{AreCopied, IsCopied, or_no_entry}
use Rattle.vd_known_generics.specs.declared.copies.Copied.{Copied}
use Rattle.vd_meaning.specs.Tables.{Table, pairs}
use Rattle.vd_static_values.specs.Entries.{IsEntry, no_entry}
use Rattle.vd_static_values.specs.declared.entries.Entry.{Entry}
use Rattle.vd_value_rules.specs.Declaring.{taken_known}
use Rattle.vd_value_rules.specs.Designs.{Design}
use Rattle.vd_value_rules.specs.Knowledge.{Known, denoted, indicated_of}

module _ (fs : List (Forest IndicatedForm)) (t : Table) (k : Known) where
  pub copied_more : (xs : List Copied) (cs : List (ℕ × ℕ)) (x : Copied) (c : ℕ × ℕ) → AreCopied fs t k xs cs → IsCopied fs t k x c
      → AreCopied fs t k (xs ++ x ∷ []) (cs ++ c ∷ [])
  copied_more [] [] x c are is = (is, tt)
  copied_more [] (d ∷ cs) x c are is = absurd are
  copied_more (y ∷ xs) [] x c are is = absurd are
  copied_more (y ∷ xs) (d ∷ cs) x c are is = (are.0, copied_more xs cs x c are.1 is)

-- ---- entries that may not be there

pub entry_of : (fs : List (Forest IndicatedForm)) (t : Table) (d : Denotation) (o : Option (Bor Entry))
    → MatchOption o (IsEntry fs t no_entry d) (λ x. IsEntry fs t x.now d) → IsEntry fs t (or_no_entry (option_copied o)) d
entry_of fs t d None is = is
entry_of fs t d (Some x) is = is

-- ---- pairs

pairs_here : (xs ys : List ℕ) → min (length xs) (length ys) ≡ 0 → pairs xs ys ≡ []
pairs_here [] ys h = refl
pairs_here (x ∷ xs) [] h = refl
pairs_here (x ∷ xs) (y ∷ ys) h = absurd (omega arith)

pub pairs_end : (at : ℕ) (xs ys : List ℕ) → min (length xs) (length ys) ≤ at → pairs (drop at xs) (drop at ys) ≡ []
pairs_end at xs ys h = pairs_here (drop at xs) (drop at ys) (omega (arith, length-drop at xs, length-drop at ys))

pub pairs_step : (at later x y : ℕ) (xs ys : List ℕ) → at < length xs → at < length ys → later ≡ suc at → x ≡ get_or xs at x → y ≡ get_or ys at y
    → pairs (drop at xs) (drop at ys) ≡ (x, y) ∷ pairs (drop later xs) (drop later ys)
pairs_step at later x y xs ys in_xs in_ys next is_x is_y =
    ap₂ pairs (drop-cons xs at x in_xs ∙ ap (λ n. n ∷ drop (suc at) xs) (sym is_x)) (drop-cons ys at y in_ys ∙ ap (λ n. n ∷ drop (suc at) ys) (sym is_y))
    ∙ ap (λ n. (x, y) ∷ pairs (drop n xs) (drop n ys)) (sym next)

-- one more that is copied
pub copied_step : (fs : List (Forest IndicatedForm)) (t : Table) (k : Known) (xs ys : List Copied) (x : Copied) (cs : List (ℕ × ℕ)) (at later : ℕ) (c other : ℕ × ℕ)
    → AreCopied fs t k xs (take at cs) → IsCopied fs t k x c → c ≡ get_or cs at other → at < length cs → later ≡ suc at → ys ≡ xs ++ x ∷ [] → AreCopied fs t k ys (take later cs)
copied_step fs t k xs ys x cs at later c other are is copy inside next more =
    subst (λ l. AreCopied fs t k l (take later cs)) (sym more)
    (subst (AreCopied fs t k (xs ++ x ∷ [])) (ap (λ z. take at cs ++ z ∷ []) copy ∙ sym (take-suc cs at other inside) ∙ ap (λ n. take n cs) (sym next))
    (copied_more fs t k xs (take at cs) x c are is))

-- so far, what comes to all where the rest is copied too
pub record CopiedSoFar (d : Design) (x : KnownDesign) (from : Known) (rest : List Copied) (ks : List Known) (all : Known) : Type 0 where
  pub so_far : Known
  pub left : List (ℕ × ℕ)
  pub knows : Knows d x (so_far ∷ ks)
  pub are_left : AreCopied x.table.subtypes d.table from rest left
  pub comes_to : taken_known left from so_far ≡ all

-- one more that is set
set_of_next : (d : Design) (x y : KnownDesign) (from : Known) (first : Copied) (rest : List Copied) (ks : List Known) (all k : Known) (cs : List (ℕ × ℕ))
    → Knows d x (k ∷ ks) → AreCopied x.table.subtypes d.table from (first ∷ rest) cs → taken_known cs from k ≡ all → y.table.subtypes ≡ x.table.subtypes
    → ((own c : Denotation) → IsEntry x.table.subtypes d.table first.entry own → Indicates x.table.subtypes first.choosing (indicated_of c)
    → Knows d y (denoted first.number own c k ∷ ks)) → CopiedSoFar d y from rest ks all
set_of_next d x y from first rest ks all k [] knows are is same step = absurd are
set_of_next d x y from first rest ks all k (c ∷ cs) knows are is same step = record {
  so_far = denoted c.1 (from.env.denotes c.0) (from.choosing.denotes c.0) k;
  left = cs;
  knows = subst (λ n. Knows d y (denoted n (from.env.denotes c.0) (from.choosing.denotes c.0) k ∷ ks)) are.0.number_is
      (step (from.env.denotes c.0) (from.choosing.denotes c.0) are.0.entry_is are.0.choosing_is);
  are_left = subst (λ fs. AreCopied fs d.table from rest cs) (sym same) are.1;
  comes_to = is;
}

pub set_step : (d : Design) (x y : KnownDesign) (from : Known) (first : Copied) (left rest : List Copied) (ks : List Known) (all : Known) → left ≡ first ∷ rest
    → CopiedSoFar d x from left ks all → y.table.subtypes ≡ x.table.subtypes
    → ((own c : Denotation) (k : Known) → IsEntry x.table.subtypes d.table first.entry own → Indicates x.table.subtypes first.choosing (indicated_of c) → Knows d x (k ∷ ks)
    → Knows d y (denoted first.number own c k ∷ ks)) → CopiedSoFar d y from rest ks all
set_step d x y from first left rest ks all is so_far same step =
    set_of_next d x y from first rest ks all so_far.so_far so_far.left so_far.knows
    (subst (λ l. AreCopied x.table.subtypes d.table from l so_far.left) is so_far.are_left) so_far.comes_to same
    (λ own c entry choosing. step own c so_far.so_far entry choosing so_far.knows)

none_to_set : (d : Design) (x : KnownDesign) (from k all : Known) (ks : List Known) (cs : List (ℕ × ℕ)) → Knows d x (k ∷ ks)
    → AreCopied x.table.subtypes d.table from [] cs → taken_known cs from k ≡ all → Knows d x (all ∷ ks)
none_to_set d x from k all ks [] knows are is = subst (λ l. Knows d x (l ∷ ks)) is knows
none_to_set d x from k all ks (c ∷ cs) knows are is = absurd are

pub all_set : (d : Design) (x : KnownDesign) (from all : Known) (left : List Copied) (ks : List Known) → left ≡ [] → CopiedSoFar d x from left ks all → Knows d x (all ∷ ks)
all_set d x from all left ks none so_far =
    none_to_set d x from so_far.so_far all ks so_far.left so_far.knows (subst (λ l. AreCopied x.table.subtypes d.table from l so_far.left) none so_far.are_left) so_far.comes_to
