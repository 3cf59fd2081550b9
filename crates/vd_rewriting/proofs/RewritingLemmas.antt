-- The table of a rewriting: what each number has become.
use Rattle.std.proofs.Common.{◌≡◌, ◌<◌, ℕ, zero, suc, List, [], ◌∷◌, ◌++◌, length, get_or, refl, sym, ap, ◌∙◌, subst, arith, length-append, below_more}
use Rattle.std.proofs.lemmas.List.{get_or_append_left, get_or_at, get_or_default}
use Rattle.vd_bytes.specs.declared.places.Place.{Place}
use Rattle.vd_forest.specs.Forest.{Forest, more}
use Rattle.vd_forest.specs.Store.{at, Holds, Extends}
use Rattle.vd_forest.proofs.StoreLemmas.{extends_same, extends_trans, kept, holds_nothing}
use Rattle.vd_rewriting.specs.Rewriting.{Pass, rewritten}

module _ {F G : Type 0} where
  -- each entry stands for what its index is rewritten to
  pub record IsTable (pass : Pass F G) (fs : List (Forest F)) (gs : List (Forest G)) (table : List ℕ) : Type 0 where
    pub each : (n : ℕ) → n < length table → Holds gs (get_or table n 0) (rewritten pass (at fs n))

  first_entry : (pass : Pass F G) (fs : List (Forest F)) (gs : List (Forest G)) (n : ℕ) → n < 1
      → Holds gs (get_or (0 ∷ []) n 0) (rewritten pass (at fs n))
  first_entry pass fs gs zero within = holds_nothing gs
  first_entry pass fs gs (suc n) within = absurd (omega arith)

  pub table_none : (pass : Pass F G) (fs : List (Forest F)) (gs : List (Forest G)) → IsTable pass fs gs (0 ∷ [])
  table_none pass fs gs = record { each = first_entry pass fs gs }

  -- an entry that is read: its number is one of the store's, and stands for what it should
  pub record IsEntry (pass : Pass F G) (fs : List (Forest F)) (gs : List (Forest G)) (n entry : ℕ) : Type 0 where
    pub holds : Holds gs entry (rewritten pass (at fs n))

  pub entry_is : (pass : Pass F G) (fs : List (Forest F)) (gs : List (Forest G)) (table : List ℕ) (n entry : ℕ) → IsTable pass fs gs table
      → n < length table → entry ≡ get_or table n entry → IsEntry pass fs gs n entry
  entry_is pass fs gs table n entry all within read = record {
    holds = subst (λ e. Holds gs e (rewritten pass (at fs n))) (sym (read ∙ get_or_default table n entry 0 within)) (all.each n within);
  }

  pub table_more : (pass : Pass F G) (fs : List (Forest F)) (gs hs : List (Forest G)) (table : List ℕ) (k a b x y made : ℕ) (form : F) (text : List ℕ) (place : Place) (parts : Forest F)
      → IsTable pass fs gs table → Extends gs hs → k ≡ length table
      → IsEntry pass fs gs a x → IsEntry pass fs gs b y
      → at fs k ≡ more form text place (at fs a) (at fs b) → parts ≡ at fs a
      → Holds hs made (pass form text place parts (at gs x) (at gs y))
      → IsTable pass fs hs (table ++ made ∷ [])
  table_more pass fs gs hs table k a b x y made form text place parts all grown last p q opened parts_is held =
      let e : pass form text place parts (at gs x) (at gs y) ≡ rewritten pass (at fs k) =
      ap (λ r. pass form text place r (at gs x) (at gs y)) parts_is
      ∙ ap (λ r. pass form text place (at fs a) r (at gs y)) p.holds.is
      ∙ ap (pass form text place (at fs a) (rewritten pass (at fs a))) q.holds.is
      ∙ ap (rewritten pass) (sym opened) in
      let new : Holds hs made (rewritten pass (at fs (length table))) =
      subst (λ n. Holds hs made (rewritten pass (at fs n))) last (subst (Holds hs made) e held) in
      record {
        each = λ n within.
            below_more (λ m. Holds hs (get_or (table ++ made ∷ []) m 0) (rewritten pass (at fs m))) (length table)
            (λ m below.
            subst (λ r. Holds hs r (rewritten pass (at fs m))) (sym (get_or_append_left table (made ∷ []) 0 m below))
            (kept gs hs (get_or table m 0) (rewritten pass (at fs m)) grown (all.each m below)))
            (subst (λ r. Holds hs r (rewritten pass (at fs (length table)))) (sym (get_or_at table made [] 0 (length table) refl)) new)
            n (omega (arith, length-append table (made ∷ [])));
      }

pub ruleset rewriting_steps = (extends_same, extends_trans, table_none, table_more, entry_is)
