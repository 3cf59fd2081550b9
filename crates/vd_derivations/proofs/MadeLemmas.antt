-- A node that is made of its parts, as they are read, has the parts themselves.
use Rattle.std.proofs.Common.{◌≡◌, ◌≤◌, ◌<◌, ℕ, zero, suc, Bool, true, false, ◌&&◌, ◌||◌, not, if◌then◌else◌, List, [], ◌∷◌, length, drop, refl, sym, ap, ◌∙◌, subst, arith, drop-cons, drop_of_length-le}
use Rattle.std.proofs.lemmas.Bool.{and_parts, or_parts, false≢true}
use Rattle.vd_bytes.specs.declared.places.Place.{Place}
use Rattle.vd_trees.specs.declared.revision.Revision.TheVariants.{V1993}
use Rattle.vd_gram.specs.declared.tables.Table.{Table}
use Rattle.vd_forest.specs.Forest.{Forest, nothing, more, turned, reversed, with_next, no_place}
use Rattle.vd_forest.proofs.ForestLemmas.{reversed_reversed}
use Rattle.vd_forms.specs.declared.form.Form.{Form}
use Rattle.vd_forms.specs.declared.form.Form.TheVariants as form
use Rattle.vd_forms.specs.Forms.{is_among, expressions}
use Rattle.vd_forms.specs.Slots.{Slot, One, Many}
use Rattle.vd_forms.specs.Validity.{forms_of, fits, is_bracketed, holders_of_actuals, keeps_brackets, AreValid}
use Rattle.vd_shapes.specs.declared.actions.Action.{Action}
use Rattle.vd_shapes.specs.Shapes.{without_brackets, unbracketed, settled, with_node}
use Rattle.vd_derivations.specs.Drafts.{Draft}
use Rattle.vd_derivations.specs.Rows.{Standpoint, point, is_operand, bare_forms, is_laid, laid}
use Rattle.vd_derivations.specs.Checks.{from, first_parts, has_parts, is_keeper}
use Rattle.vd_derivations.proofs.FillingLemmas.{puts, pushed, meant}
use Rattle.vd_derivations.proofs.PartLemmas.{single, PutsFit}

-- ---- trees in a list

abbrev pub planted : List (Forest Form) → Forest Form
planted [] = nothing
planted (x ∷ xs) = with_next x (planted xs)

pub planted_single : (a : Forest Form) → planted (single a) ≡ a
planted_single nothing = refl
planted_single (more f t p a b) = ap (more f t p a) (planted_single b)

turned_planted : (zs : List (Forest Form)) (g : Forest Form) → turned (planted zs) g ≡ pushed zs g
turned_planted [] g = refl
turned_planted (nothing ∷ zs) g = turned_planted zs g
turned_planted (more f t p a b ∷ zs) g = turned_planted zs (more f t p a g)

pub reversed_pushed : (zs : List (Forest Form)) → reversed (pushed zs nothing) ≡ planted zs
reversed_pushed zs = ap reversed (sym (turned_planted zs nothing)) ∙ reversed_reversed (planted zs)

-- ---- all parts

module _ (actions : List Action) (text : List ℕ) (k : Draft) (y : Forest Form) (zs : List (Forest Form)) (start : Forest Form) where
  parts_so_far : (c : ℕ) → c ≤ length zs → pushed (drop c zs) (meant actions text k (y ∷ zs) start (first_parts c)) ≡ pushed zs nothing
  parts_so_far zero l = refl
  parts_so_far (suc c) l =
      let m : c < length zs = omega arith in
      let d = meant actions text k (y ∷ zs) start (first_parts c) in
      let q : c ≤ length zs = omega arith in
      ap (λ us. pushed us d) (sym (drop-cons zs c nothing m)) ∙ parts_so_far c q

  pub parts_meant : (many : Bool) (c : ℕ) → c ≤ length zs → (many ≡ false → length zs ≤ c)
      → meant actions text k (y ∷ zs) start (if many then from c (first_parts c) else first_parts c) ≡ pushed zs nothing
  parts_meant true c l m = parts_so_far c l
  parts_meant false c l m =
      let d = meant actions text k (y ∷ zs) start (first_parts c) in
      sym (ap (λ us. pushed us d) (drop_of_length-le zs (m refl))) ∙ parts_so_far c l

-- so many parts are there
pub counted : (ss : List Slot) (ps : List ℕ) (many : Bool) (a : Forest Form) → has_parts ss ps many ≡ true → fits ss (forms_of a) ≡ true
    → (length ps ≤ length (single a)) × (many ≡ false → length (single a) ≤ length ps)
counted [] [] many nothing h e = (omega arith, λ _. omega arith)
counted [] [] many (more g t p b n) h e = absurd (false≢true e)
counted [] (p ∷ ps) many a h e = absurd (false≢true h)
counted (One fs ∷ ss) [] many a h e = absurd (false≢true h)
counted (One fs ∷ ss) (p ∷ ps) many nothing h e = absurd (false≢true e)
counted (One fs ∷ ss) (p ∷ ps) many (more g t p' b n) h e =
    let rec = counted ss ps many n h (and_parts (is_among fs g) (fits ss (forms_of n)) e).1 in
    let l = rec.0 in
    (omega arith, λ q. let m = rec.1 q in omega arith)
counted (Many fs ∷ []) [] many a h e = (omega arith, λ q. absurd (false≢true (sym q ∙ h)))
counted (Many fs ∷ []) (p ∷ ps) many a h e = absurd (false≢true h)
counted (Many fs ∷ s ∷ ss) ps many a h e = absurd (false≢true h)

-- ---- brackets

unbracketed_node : (b : Bool) (f : Form) (t : List ℕ) (p : Place) (a n : Forest Form) → b ≡ false → without_brackets b f t p a n ≡ more f t p a n
unbracketed_node true f t p a n e = absurd (false≢true (sym e))
unbracketed_node false f t p a n e = refl

not_true : (b : Bool) → (false || not b) ≡ true → b ≡ false
not_true true e = absurd (false≢true e)
not_true false e = refl

unbracketed_valid : (a : Forest Form) → AreValid V1993 false a → unbracketed a ≡ a
unbracketed_valid nothing h = refl
unbracketed_valid (more f t p a b) h =
    unbracketed_node (is_bracketed f a) f t p a (unbracketed b) (not_true (is_bracketed f a) h.3) ∙ ap (more f t p a) (unbracketed_valid b h.5)

settled_valid : (keep : Bool) (a : Forest Form) → AreValid V1993 keep a → settled keep a ≡ a
settled_valid true a h = refl
settled_valid false a h = unbracketed_valid a h

-- what is written in brackets is an expression
pub laid_expression : (state : ℕ) (f : Form) → is_laid state f ≡ true → is_among expressions f ≡ true
laid_expression state f e = go (is_operand state) e
  where
    go : (b : Bool) → elim b [ true ↦ is_among expressions f && not (is_among (bare_forms state) f) | false ↦ false ] ≡ true → is_among expressions f ≡ true
    go true h = (and_parts (is_among expressions f) (not (is_among (bare_forms state) f)) h).0
    go false h = absurd (false≢true h)

module _ (t : Table) (actions : List Action) (standpoints : List Standpoint) where
  length_puts : (ps : List ℕ) (xs : List (Forest Form)) → length (puts t actions standpoints ps xs) ≡ length xs
  length_puts [] xs = refl
  length_puts (p ∷ ps) [] = refl
  length_puts (p ∷ ps) (x ∷ xs) = omega (arith, length_puts ps xs)

  puts_same : (rows : List (List ℕ)) (f : Form) (ps : List ℕ) (xs : List (Forest Form)) → PutsFit t rows actions standpoints f ps xs → is_keeper f ≡ true → puts t actions standpoints ps xs ≡ xs
  puts_same rows f [] xs h q = refl
  puts_same rows f (p ∷ ps) [] h q = absurd h
  puts_same rows f (p ∷ ps) (x ∷ xs) h q = λ i. h.1 q i ∷ puts_same rows f ps xs h.2 q i

  -- one tree in front, that may have got brackets
  one_put : (state : ℕ) (f : Form) (u : List ℕ) (p : Place) (a rest : Forest Form) → is_bracketed f a ≡ false → (b : Bool) → is_laid state f ≡ b
      → unbracketed (with_next (laid b (more f u p a nothing)) rest) ≡ more f u p a (unbracketed rest)
  one_put state f u p a rest e true l =
      ap (λ b. without_brackets b form.Aggregate [] no_place (more f u p a nothing) (unbracketed rest)) (laid_expression state f l)
  one_put state f u p a rest e false l = unbracketed_node (is_bracketed f a) f u p a (unbracketed rest) e

  unbracketed_puts : (ps : List ℕ) (a : Forest Form) → AreValid V1993 false a → unbracketed (planted (puts t actions standpoints ps (single a))) ≡ a
  unbracketed_puts [] a h = ap unbracketed (planted_single a) ∙ unbracketed_valid a h
  unbracketed_puts (p ∷ ps) nothing h = refl
  unbracketed_puts (p ∷ ps) (more f u pl a n) h =
      one_put (point standpoints p).state f u pl a (planted (puts t actions standpoints ps (single n))) (not_true (is_bracketed f a) h.3) (is_laid (point standpoints p).state f) refl
      ∙ ap (more f u pl a) (unbracketed_puts ps n h.5)

  no_keeper : (f : Form) (a : Forest Form) → is_keeper f ≡ false → keeps_brackets f a ≡ false
  no_keeper f a e =
      let both = or_parts (is_among holders_of_actuals f) (is_among (form.Aggregate ∷ form.Qualification ∷ []) f) e in cc

  settled_puts : (rows : List (List ℕ)) (f : Form) (ps : List ℕ) (a : Forest Form) → PutsFit t rows actions standpoints f ps (single a) → AreValid V1993 (keeps_brackets f a) a → (b : Bool) → is_keeper f ≡ b
      → settled (keeps_brackets f (planted (puts t actions standpoints ps (single a)))) (planted (puts t actions standpoints ps (single a))) ≡ a
  settled_puts rows f ps a h v true e =
      ap (λ xs. settled (keeps_brackets f (planted xs)) (planted xs)) (puts_same rows f ps (single a) h e) ∙ ap (λ x. settled (keeps_brackets f x) x) (planted_single a) ∙ settled_valid (keeps_brackets f a) a v
  settled_puts rows f ps a h v false e =
      ap (λ keep. settled keep (planted (puts t actions standpoints ps (single a)))) (no_keeper f (planted (puts t actions standpoints ps (single a))) e)
      ∙ unbracketed_puts ps a (subst (λ keep. AreValid V1993 keep a) (no_keeper f a e) v)

  -- the node that is made of the parts
  pub made_again : (rows : List (List ℕ)) (text : List ℕ) (k : Draft) (y start : Forest Form) (f : Form) (ss : List Slot) (ps : List ℕ) (many : Bool) (a next : Forest Form)
      → has_parts ss ps many ≡ true → fits ss (forms_of a) ≡ true → PutsFit t rows actions standpoints f ps (single a) → AreValid V1993 (keeps_brackets f a) a
      → with_node actions [] f 0 (meant actions text k (y ∷ puts t actions standpoints ps (single a)) start (if many then from (length ps) (first_parts (length ps)) else first_parts (length ps))) next
      ≡ more f [] no_place a next
  made_again rows text k y start f ss ps many a next h e fit v =
      let zs = puts t actions standpoints ps (single a) in
      let c = counted ss ps many a h e in
      let c0 = c.0 in
      let l : length ps ≤ length zs = omega (arith, length_puts ps (single a)) in
      let m : (many ≡ false → length zs ≤ length ps) = λ q. let c1 = c.1 q in omega (arith, length_puts ps (single a)) in
      ap (λ x. more f [] no_place (settled (keeps_brackets f x) x) next) (ap reversed (parts_meant actions text k y zs start many (length ps) l m) ∙ reversed_pushed zs)
      ∙ ap (λ x. more f [] no_place x next) (settled_puts rows f ps a fit v (is_keeper f) refl)
