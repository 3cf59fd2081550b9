-- The parts of valid trees, at the places of a row.
use Rattle.std.proofs.Common.{◌≡◌, ℕ, zero, suc, Bool, true, false, not, nat_lt, List, [], ◌∷◌, length, drop, Option, refl, sym, ap, ◌∙◌, subst, arith}
use Rattle.std.proofs.lemmas.Bool.{and_parts, false≢true}
use Rattle.vd_trees.specs.declared.revision.Revision.TheVariants.{V1993}
use Rattle.vd_gram.specs.declared.tables.Table.{Table}
use Rattle.vd_forest.specs.Forest.{Forest, nothing, more, form_of}
use Rattle.vd_forms.specs.declared.form.Form.{Form}
use Rattle.vd_forms.specs.Forms.{form_number, is_among, forms_of_2019_alone}
use Rattle.vd_forms.specs.Slots.{Slot, One, Many}
use Rattle.vd_forms.specs.Validity.{forms_of, fits, is_form_of, AreValid}
use Rattle.vd_shapes.specs.declared.actions.Action.{Action}
use Rattle.vd_derivations.specs.Rows.{Template, done, rest, step, token, own, hole, each, Standpoint, point, stands, stands_as, is_laid, laid, put}
use Rattle.vd_derivations.specs.Checks.{member_at, slot_at, has_parts, behind_first, left_of, is_late, is_keeper, can_be_there, all_stand, places_stand, holes_stand, self_alone, has, wants}
use Rattle.vd_derivations.proofs.FillingLemmas.{AllStandBare, HolesFit, tree_at, fact_list, fact_first, fact_next, first_is}
use Rattle.vd_derivations.proofs.FormNumbers.{all_hold, late_is}

-- the trees of a forest, each alone
abbrev pub single : Forest Form → List (Forest Form)
single nothing = []
single (more f t p a b) = more f t p a nothing ∷ single b

abbrev pub AreOf93 : Forest Form → Type 0
AreOf93 nothing = Unit {0}
AreOf93 (more f t p a b) = (is_form_of V1993 f ≡ true) × AreOf93 b

pub valid_of_93 : (keep : Bool) (a : Forest Form) → AreValid V1993 keep a → AreOf93 a
valid_of_93 keep nothing h = tt
valid_of_93 keep (more f t p a b) h = (h.0, valid_of_93 keep b h.5)

may_stand : (late b u l : Bool) → elim late [ true ↦ true | false ↦ elim b [ true ↦ elim u [ true ↦ not l | false ↦ true ] | false ↦ false ] ] ≡ true → late ≡ false → (b ≡ true) × (u ≡ true → l ≡ false)
may_stand true b u l h e = absurd (false≢true (sym e))
may_stand false true true true h e = absurd (false≢true h)
may_stand false true true false h e = (refl, λ _. refl)
may_stand false true false l h e = (refl, λ q. absurd (false≢true q))
may_stand false false u l h e = absurd (false≢true h)

not_late : (g : Form) → is_form_of V1993 g ≡ true → is_late (form_number g) ≡ false
not_late g e = late_is g ∙ not_is (is_among forms_of_2019_alone g) e
  where
    not_is : (b : Bool) → not b ≡ true → b ≡ false
    not_is true h = absurd (false≢true h)
    not_is false h = refl

module _ (t : Table) (rows : List (List ℕ)) (actions : List Action) (standpoints : List Standpoint) (f : Form) where
  stands_there : (unlaid : Bool) (s : ℕ) (fs : List Form) (g : Form) → all_stand t rows actions standpoints f unlaid s fs ≡ true → is_among fs g ≡ true → is_form_of V1993 g ≡ true
      → (stands standpoints s g ≡ true) × (unlaid ≡ true → is_laid (point standpoints s).state g ≡ false)
  stands_there unlaid s fs g h e of =
      may_stand (is_late (form_number g)) (stands standpoints s g) unlaid (is_laid (point standpoints s).state g)
      (all_hold (can_be_there t rows actions standpoints f unlaid s) fs g h e) (not_late g of)

  bare : (b : Bool) (x : Forest Form) → b ≡ false → laid b x ≡ x
  bare true x e = absurd (false≢true (sym e))
  bare false x e = refl

  -- each part at its place
  abbrev pub PutsFit : List ℕ → List (Forest Form) → Type 0
  PutsFit [] xs = Unit {0}
  PutsFit (p ∷ ps) [] = ⊥
  PutsFit (p ∷ ps) (x ∷ xs) = (stands_as standpoints p (form_of x) ≡ true) × (is_keeper f ≡ true → put (point standpoints p).state x ≡ x) × PutsFit ps xs

  pub puts_fit : (ss : List Slot) (ps : List ℕ) (many : Bool) (a : Forest Form) → has_parts ss ps many ≡ true → places_stand t rows actions standpoints f ss ps ≡ true
      → fits ss (forms_of a) ≡ true → AreOf93 a → PutsFit ps (single a)
  puts_fit [] [] many a h u e of = tt
  puts_fit [] (p ∷ ps) many a h u e of = absurd (false≢true h)
  puts_fit (One fs ∷ ss) [] many a h u e of = absurd (false≢true h)
  puts_fit (One fs ∷ ss) (p ∷ ps) many nothing h u e of = absurd (false≢true e)
  puts_fit (One fs ∷ ss) (p ∷ ps) many (more g t' p' b n) h u e of =
      let both = and_parts (is_among fs g) (fits ss (forms_of n)) e in
      let us = and_parts (all_stand t rows actions standpoints f (is_keeper f) p fs) (places_stand t rows actions standpoints f ss ps) u in
      let st = stands_there (is_keeper f) p fs g us.0 both.0 of.0 in
      (st.0, λ q. bare (is_laid (point standpoints p).state g) (more g t' p' b nothing) (st.1 q), puts_fit ss ps many n h us.1 both.1 of.1)
  puts_fit (Many fs ∷ []) [] many a h u e of = tt
  puts_fit (Many fs ∷ []) (p ∷ ps) many a h u e of = absurd (false≢true h)
  puts_fit (Many fs ∷ s ∷ ss) ps many a h u e of = absurd (false≢true h)

  pub all_bare : (fs : List Form) (s : ℕ) (a : Forest Form) → all_stand t rows actions standpoints f true s fs ≡ true → fits (Many fs ∷ []) (forms_of a) ≡ true → AreOf93 a
      → AllStandBare t actions standpoints s (single a)
  all_bare fs s nothing u e of = tt
  all_bare fs s (more g t' p' b n) u e of =
      let both = and_parts (is_among fs g) (fits (Many fs ∷ []) (forms_of n)) e in
      let st = stands_there true s fs g u both.0 of.0 in
      (st.0, bare (is_laid (point standpoints s).state g) (more g t' p' b nothing) (st.1 refl), all_bare fs s n u both.1 of.1)

  -- the parts behind those places
  pub bare_behind : (ss : List Slot) (ps : List ℕ) (many : Bool) (a : Forest Form) (s j : ℕ) → j ≡ length ps → has_parts ss ps many ≡ true
      → all_stand t rows actions standpoints f true s (slot_at ss j) ≡ true → fits ss (forms_of a) ≡ true → AreOf93 a → AllStandBare t actions standpoints s (drop j (single a))
  bare_behind [] [] many nothing s zero l h u e of = tt
  bare_behind [] [] many nothing s (suc j) l h u e of = tt
  bare_behind [] [] many (more g t' p' b n) s j l h u e of = absurd (false≢true e)
  bare_behind [] (p ∷ ps) many a s j l h u e of = absurd (false≢true h)
  bare_behind (One fs ∷ ss) [] many a s j l h u e of = absurd (false≢true h)
  bare_behind (One fs ∷ ss) (p ∷ ps) many a s zero l h u e of = absurd (none_left l)
    where
      none_left : zero ≡ length (p ∷ ps) → ⊥
      none_left q = omega arith
  bare_behind (One fs ∷ ss) (p ∷ ps) many nothing s (suc j) l h u e of = tt
  bare_behind (One fs ∷ ss) (p ∷ ps) many (more g t' p' b n) s (suc j) l h u e of =
      let both = and_parts (is_among fs g) (fits ss (forms_of n)) e in
      let k : j ≡ length ps = omega arith in
      bare_behind ss ps many n s j k h u both.1 of.1
  bare_behind (Many fs ∷ []) [] many a s zero l h u e of = all_bare fs s a u e of
  bare_behind (Many fs ∷ []) [] many a s (suc j) l h u e of = absurd (some_left l)
    where
      some_left : suc j ≡ 0 → ⊥
      some_left q = omega arith
  bare_behind (Many fs ∷ []) (p ∷ ps) many a s j l h u e of = absurd (false≢true h)
  bare_behind (Many fs ∷ x ∷ ss) ps many a s j l h u e of = absurd (false≢true h)

  fit_at : (ps : List ℕ) (xs : List (Forest Form)) (i s : ℕ) → s ∷ [] ≡ member_at ps i → PutsFit ps xs → stands_as standpoints s (form_of (tree_at xs i)) ≡ true
  fit_at [] xs i s e h = absurd (no e)
    where
      no : s ∷ [] ≡ [] → ⊥
      no q = cc
  fit_at (p ∷ ps) [] i s e h = absurd h
  fit_at (p ∷ ps) (x ∷ xs) zero s e h = subst (λ q. stands_as standpoints q (form_of x) ≡ true) (sym (first_is s p [] [] e)) h.0
  fit_at (p ∷ ps) (x ∷ xs) (suc i) s e h = fit_at ps xs i s e h.2

  member_behind : (ps : List ℕ) (i s : ℕ) → s ∷ [] ≡ member_at ps (suc i) → s ∷ [] ≡ member_at (behind_first ps) i
  member_behind [] i s e = absurd (no e)
    where
      no : s ∷ [] ≡ [] → ⊥
      no q = cc
  member_behind (p ∷ ps) i s e = e

  length_behind : (ps : List ℕ) (j : ℕ) → suc j ≡ length ps → j ≡ length (behind_first ps)
  length_behind [] j e = absurd (no e)
    where
      no : suc j ≡ 0 → ⊥
      no q = omega arith
  length_behind (p ∷ ps) j e = omega arith

  -- the holes of a template for parts
  pub parts_fit : (tail : Option ℕ) (places : List ℕ) (slots : List Slot) (xs : List (Forest Form)) (m : Template) → PutsFit (behind_first places) xs
      → ((s j : ℕ) → j ≡ length (behind_first places) → all_stand t rows actions standpoints f true s (slot_at slots j) ≡ true → AllStandBare t actions standpoints s (drop j xs))
      → holes_stand t rows actions standpoints f slots m ≡ true → has t rows actions standpoints tail places m ≡ wants t rows actions standpoints tail places m → HolesFit t actions standpoints 0 nothing xs m
  parts_fit tail places slots xs done h all u e = tt
  parts_fit tail places slots xs rest h all u e = tt
  parts_fit tail places slots xs (step q a b) h all u e =
      let both = and_parts (holes_stand t rows actions standpoints f slots a) (holes_stand t rows actions standpoints f slots b) u in
      (parts_fit tail places slots xs a h all both.0 (ap fact_first e), parts_fit tail places slots xs b h all both.1 (ap fact_next e))
  parts_fit tail places slots xs (token c b) h all u e = parts_fit tail places slots xs b h all u (ap fact_next e)
  parts_fit tail places slots xs (own c b) h all u e = parts_fit tail places slots xs b h all u (ap fact_next e)
  parts_fit tail places slots xs (hole zero s d b) h all u e = absurd (false≢true u)
  parts_fit tail places slots xs (hole (suc i) s d b) h all u e =
      let both = and_parts (holes_stand t rows actions standpoints f slots d) (holes_stand t rows actions standpoints f slots b) u in (
        fit_at (behind_first places) xs i s (member_behind places i s (ap fact_list e)) h,
        parts_fit tail places slots xs d h all both.0 (ap (λ q. fact_next (fact_first q)) e),
        parts_fit tail places slots xs b h all both.1 (ap fact_next e),
      )
  parts_fit tail places slots xs (each j s pc sep pn b) h all u e =
      let both = and_parts (all_stand t rows actions standpoints f true s (slot_at slots j)) (holes_stand t rows actions standpoints f slots b) u in
      (all s j (length_behind places j (first_is _ _ _ _ (ap fact_list e))) both.0, parts_fit tail places slots xs b h all both.1 (ap fact_next e))

  -- the holes of a template for the tree itself
  self_place : (places : List ℕ) (s : ℕ) → s ∷ [] ≡ member_at places 0 → left_of places ≡ s
  self_place [] s e = absurd (no e)
    where
      no : s ∷ [] ≡ [] → ⊥
      no q = cc
  self_place (p ∷ ps) s e = sym (first_is s p [] [] e)

  pub itself_fits : (tail : Option ℕ) (places : List ℕ) (n : ℕ) (x : Forest Form) (xs : List (Forest Form)) (m : Template) → nat_lt (point standpoints (left_of places)).level n ≡ true
      → stands_as standpoints (left_of places) (form_of x) ≡ true → self_alone t rows actions standpoints m ≡ true
      → has t rows actions standpoints tail places m ≡ wants t rows actions standpoints tail places m → HolesFit t actions standpoints n x xs m
  itself_fits tail places n x xs done l h u e = tt
  itself_fits tail places n x xs rest l h u e = tt
  itself_fits tail places n x xs (step q a b) l h u e =
      let both = and_parts (self_alone t rows actions standpoints a) (self_alone t rows actions standpoints b) u in
      (itself_fits tail places n x xs a l h both.0 (ap fact_first e), itself_fits tail places n x xs b l h both.1 (ap fact_next e))
  itself_fits tail places n x xs (token c b) l h u e = itself_fits tail places n x xs b l h u (ap fact_next e)
  itself_fits tail places n x xs (own c b) l h u e = itself_fits tail places n x xs b l h u (ap fact_next e)
  itself_fits tail places n x xs (hole zero s d b) l h u e =
      let both = and_parts (self_alone t rows actions standpoints d) (self_alone t rows actions standpoints b) u in
      let is = self_place places s (ap fact_list e) in (
        subst (λ q. nat_lt (point standpoints q).level n ≡ true) is l,
        subst (λ q. stands_as standpoints q (form_of x) ≡ true) is h,
        itself_fits tail places n x xs d l h both.0 (ap (λ q. fact_next (fact_first q)) e),
        itself_fits tail places n x xs b l h both.1 (ap fact_next e),
      )
  itself_fits tail places n x xs (hole (suc r) s d b) l h u e = absurd (false≢true u)
  itself_fits tail places n x xs (each j s pc sep pn b) l h u e = absurd (false≢true u)
