-- The actuals of an instance, one after the other, and in a store of subtypes that grows.
use Rattle.std.proofs.Common.{◌≡◌, ◌≤◌, ◌<◌, ◌+◌, ◌∙◌, ◌∷◌, List, Option, Some, [], ap, arith, drop, drop-cons, get_or, length, length-drop, min, refl, subst, sym, suc, zero, ℕ}
use Rattle.vd_environments.specs.Environments.{Env}
use Rattle.vd_forest.specs.Forest.{Forest}
use Rattle.vd_forest.specs.Store.{Extends}
use Rattle.vd_value_rules.specs.declared.forms.IndicatedForm.{IndicatedForm}
use Rattle.vd_known_generics.specs.Actuals.{AreActuals, IsActual, actual_at}
use Rattle.vd_known_generics.specs.Elements.{IsGiven}
use Rattle.vd_known_generics.specs.declared.actuals.Actual.{Actual}
use Rattle.vd_known_generics.specs.declared.elements.Given.{Given}
use Rattle.vd_known_designs.proofs.DesignLemmas.{indicated_grown}
use Rattle.vd_known_designs.specs.Designs.{AreIndicated}
use Rattle.vd_known_designs.specs.declared.indications.TwoSubtypes.{TwoSubtypes}
use Rattle.vd_meaning.specs.Facets.{MapElement}
use Rattle.vd_meaning.specs.Generics.{actuals_of, element_for, value_in, value_known}
use Rattle.vd_meaning.specs.Tables.{Table, actual_mark}
use Rattle.vd_value_rules.specs.Declaring.{TwoActuals, two_actuals}
use Rattle.vd_value_rules.specs.Designs.{Design}
use Rattle.vd_value_rules.specs.Knowledge.{Known, TwoIndicated, at_mark}

-- ---- one actual

pub is_actual : (fs : List (Forest IndicatedForm)) (d : Design) (k : Known) (ys : List MapElement) (place generic copy mark : ℕ) (given : Option Given) (of : TwoSubtypes)
    → IsGiven given (value_in (element_for place generic ys) k.env) (value_known (element_for place generic ys) k.env) → mark ≡ actual_mark d.table copy
    → AreIndicated fs of (record { own = at_mark (Some mark) k.env; choosing = at_mark (Some mark) k.choosing })
    → IsActual fs d.table (record { given = given; indicated = of; copy = copy }) (actual_at d k ys place generic copy)
is_actual fs d k ys place generic copy mark given of gives same are = record {
  given_is = gives;
  indicated_is = subst (λ m. AreIndicated fs of (record { own = at_mark (Some m) k.env; choosing = at_mark (Some m) k.choosing })) same are;
  copy_is = refl;
}

-- ---- a store of subtypes that grows

pub actual_grown : (fs gs : List (Forest IndicatedForm)) (t : Table) (x : Actual) (a : TwoActuals) → Extends fs gs → IsActual fs t x a → IsActual gs t x a
actual_grown fs gs t x a grown is = record {
  given_is = is.given_is;
  indicated_is = indicated_grown fs gs x.indicated (record { own = a.own.indicated; choosing = a.choosing.indicated }) grown is.indicated_is;
  copy_is = is.copy_is;
}

pub actuals_grown : (fs gs : List (Forest IndicatedForm)) (t : Table) (xs : List Actual) (as' : List TwoActuals) → Extends fs gs → AreActuals fs t xs as' → AreActuals gs t xs as'
actuals_grown fs gs t [] [] grown are = tt
actuals_grown fs gs t [] (a ∷ as') grown are = absurd are
actuals_grown fs gs t (x ∷ xs) [] grown are = absurd are
actuals_grown fs gs t (x ∷ xs) (a ∷ as') grown are = (actual_grown fs gs t x a grown are.0, actuals_grown fs gs t xs as' grown are.1)

-- ---- one actual more

module _ (d : Design) (k : Known) (ys : List MapElement) where
  -- the actuals of generics of which the first one has a place
  abbrev pub all_from : ℕ → (generics copies : List ℕ) → List TwoActuals
  all_from at gs cs = two_actuals (actuals_of d.table at gs cs ys k.env) (actuals_of d.table at gs cs ys k.choosing) cs

  module _ (fs : List (Forest IndicatedForm)) where
    pub one_more : (at later g c : ℕ) (gs cs : List ℕ) (x : Actual) (xs : List Actual) → at < length gs → at < length cs → later ≡ suc at → g ≡ get_or gs at g → c ≡ get_or cs at c
        → IsActual fs d.table x (actual_at d k ys at g c) → AreActuals fs d.table xs (all_from later (drop later gs) (drop later cs))
        → AreActuals fs d.table (x ∷ xs) (all_from at (drop at gs) (drop at cs))
    one_more at later g c gs cs x xs in_gs in_cs next is_g is_c is are =
        let rest : AreActuals fs d.table xs (all_from (suc at) (drop (suc at) gs) (drop (suc at) cs)) =
        subst (λ n. AreActuals fs d.table xs (all_from n (drop n gs) (drop n cs))) next are in
        let generics : (g ∷ drop (suc at) gs) ≡ drop at gs = ap (λ n. n ∷ drop (suc at) gs) is_g ∙ sym (drop-cons gs at g in_gs) in
        let copies : (c ∷ drop (suc at) cs) ≡ drop at cs = ap (λ n. n ∷ drop (suc at) cs) is_c ∙ sym (drop-cons cs at c in_cs) in
        subst (λ l. AreActuals fs d.table (x ∷ xs) (all_from at l (drop at cs))) generics
        (subst (λ l. AreActuals fs d.table (x ∷ xs) (all_from at (g ∷ drop (suc at) gs) l)) copies (is, rest))

    none_left : (at : ℕ) (zs ws : List ℕ) → min (length zs) (length ws) ≡ 0 → AreActuals fs d.table [] (all_from at zs ws)
    none_left at [] ws h = tt
    none_left at (z ∷ zs) [] h = tt
    none_left at (z ∷ zs) (w ∷ ws) h = absurd (omega arith)

    -- behind the last generic
    pub none_behind : (at : ℕ) (gs cs : List ℕ) → min (length gs) (length cs) ≤ at → AreActuals fs d.table [] (all_from at (drop at gs) (drop at cs))
    none_behind at gs cs h = none_left at (drop at gs) (drop at cs) (omega (arith, length-drop at gs, length-drop at cs))
