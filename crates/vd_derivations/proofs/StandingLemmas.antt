-- Valid trees stand where their rows say.
use Rattle.std.proofs.Common.{◌≡◌, ℕ, zero, suc, Bool, true, false, ◌&&◌, ◌||◌, not, nat_eq, nat_lt, is_some, List, [], ◌∷◌, ◌++◌, length, map, Option, Some, None, slice_index_or, refl, sym, ap, ◌∙◌, subst, arith, append-nil}
use Rattle.std.proofs.lemmas.Bool.{and_parts, false≢true}
use Rattle.vd_trees.specs.declared.revision.Revision.TheVariants.{V1993}
use Rattle.vd_tokens.specs.declared.kinds.Kind.{Kind}
use Rattle.vd_gram.specs.declared.tables.Table.{Table}
use Rattle.vd_gram.specs.Derivations.{Derive}
use Rattle.vd_forest.specs.Forest.{Forest, nothing, more, joined, with_next, erased, no_place}
use Rattle.vd_forms.specs.declared.form.Form.{Form}
use Rattle.vd_forms.specs.declared.form.Form.TheVariants as form
use Rattle.vd_forms.specs.Forms.{same_form, is_among, expressions}
use Rattle.vd_forms.specs.Slots.{Slot, One, Many, slots_of}
use Rattle.vd_forms.specs.Validity.{forms_of, fits, is_one_expression, leaf_kind, HasText, IsTextAt, keeps_brackets, AreValid}
use Rattle.vd_shapes.specs.declared.actions.Action.{Action}
use Rattle.vd_shapes.specs.Shapes.{without_brackets, settled}
use Rattle.vd_shapes.specs.Rows.{plain as plain_row}
use Rattle.vd_templates.specs.Templates.{Written, written, tokens_in, tree_items}
use Rattle.vd_derivations.specs.Drafts.{Draft, plain, lexemes, grows}
use Rattle.vd_derivations.specs.Rows.{Row, Standpoint, nowhere, found, point, stands, is_laid, laid, put, finished}
use Rattle.vd_derivations.specs.Checks.{Bit, bits_of, bits_within, bits_opened, Named, nil, base, made, left_of, has_parts, behind_first, all_parts, made_or_leaf, round_or_not, brackets_fit, has_first, leaf_fits, tail_bits, symbols, has, wants, left_by, bits, self_alone, place_within, row_writes, wanted_bits, places_stand, holes_stand, fits_parts, fits_row, is_one, row_fits, tree_name, wanted_name, answer, wanted_answer, row_answer, wanted_row_answer, answers_at, wanted_at}
use Rattle.vd_derivations.proofs.WritingLemmas.{bits_tokens, bits_append, tree_tokens, within_tokens, opened_tokens}
use Rattle.vd_derivations.proofs.FillingLemmas.{puts, meant, Follows, IsDrafted, CanStand, CanStandBelow, CanAllStand, cannot, HolesFit, filled}
use Rattle.vd_derivations.proofs.FormNumbers.{same_is, all_same}
use Rattle.vd_derivations.proofs.PartLemmas.{single, valid_of_93, PutsFit, puts_fit, bare_behind, parts_fit, itself_fits}
use Rattle.vd_derivations.proofs.MadeLemmas.{laid_expression, made_again}

first_same : {X : Type 0} (x y : X) (xs ys : List X) → x ∷ xs ≡ y ∷ ys → x ≡ y
first_same x y xs ys e = cc

rest_same : {X : Type 0} (x y : X) (xs ys : List X) → x ∷ xs ≡ y ∷ ys → xs ≡ ys
rest_same x y xs ys e = cc

none_some : {X : Type 0} (x : X) → None ≡ Some x → ⊥
none_some x e = cc

some_same : {X : Type 0} (x y : X) → Some x ≡ Some y → x ≡ y
some_same x y e = cc

level_below : (a b n : ℕ) → nat_lt a b ≡ true → nat_lt b (suc n) ≡ true → nat_lt a n ≡ true
level_below a b n e h = grind arith

next_level : (n : ℕ) → nat_lt n (suc n) ≡ true
next_level n = grind arith

no_level : (n : ℕ) → nat_lt n 0 ≡ true → ⊥
no_level n e = grind arith

suc_no : (j : ℕ) → nat_eq (suc j) 0 ≡ true → ⊥
suc_no j e = grind arith

module _ (t : Table) (rows : List (List ℕ)) (actions : List Action) (standpoints : List Standpoint) where
  -- ---- the row of a form

  pub record IsLead (s : Standpoint) (r : Row) (f : Form) : Type 0 where
    pub member : is_among r.forms f ≡ true
    pub derives : symbols t rows actions standpoints s.tail r.places r.template ≡ s.head ∷ []
    pub facts : has t rows actions standpoints s.tail r.places r.template ≡ wants t rows actions standpoints s.tail r.places r.template
    pub leaves : left_by t rows actions standpoints r.template base ≡ wanted_name t rows actions standpoints s.tail r
    pub row_fit : row_fits t rows actions standpoints s r ≡ true
    pub writes : row_writes t rows actions standpoints f s r ≡ wanted_bits t rows actions standpoints f s r
    pub fit : fits_row t rows actions standpoints f s r ≡ true

  lead_of : (s : Standpoint) (r : Row) (f : Form) → row_answer t rows actions standpoints s r ≡ wanted_row_answer t rows actions standpoints s r → is_among r.forms f ≡ true → IsLead s r f
  lead_of s r f e m =
      let a = all_same (answer t rows actions standpoints s r) (wanted_answer t rows actions standpoints s r) r.forms f (ap (λ x. x.answers) e) m in
      record {
        member = m;
        derives = ap (λ x. x.derives) e;
        facts = ap (λ x. x.facts) e;
        leaves = ap (λ x. x.leaves) e;
        row_fit = ap (λ x. x.fits) e;
        writes = ap (λ x. x.writes) a;
        fit = ap (λ x. x.fits) a;
      }

  lead_found : (s : Standpoint) (rs : List Row) (f : Form) (r : Row) → map (row_answer t rows actions standpoints s) rs ≡ map (wanted_row_answer t rows actions standpoints s) rs
      → found rs f ≡ Some r → IsLead s r f
  lead_found s [] f r h e = absurd (none_some r e)
  lead_found s (x ∷ rs) f r h e = go (is_among x.forms f) refl e (lead_found s rs f r (rest_same _ _ _ _ h))
    where
      go : (b : Bool) → is_among x.forms f ≡ b → elim b [ true ↦ Some x | false ↦ found rs f ] ≡ Some r → (found rs f ≡ Some r → IsLead s r f) → IsLead s r f
      go true q w later = subst (λ y. IsLead s y f) (some_same x r w) (lead_of s x f (first_same _ _ _ _ h) q)
      go false q w later = later w

  answers_same : (qs : List Standpoint) (s : ℕ) → map (answers_at t rows actions standpoints) qs ≡ map (wanted_at t rows actions standpoints) qs
      → answers_at t rows actions standpoints (slice_index_or qs s nowhere) ≡ wanted_at t rows actions standpoints (slice_index_or qs s nowhere)
  answers_same [] s h = refl
  answers_same (q ∷ qs) zero h = first_same _ _ _ _ h
  answers_same (q ∷ qs) (suc s) h = answers_same qs s (rest_same _ _ _ _ h)

  module _ (are : map plain_row t.productions.now ≡ rows) (checked : map (answers_at t rows actions standpoints) standpoints ≡ map (wanted_at t rows actions standpoints) standpoints) where
    -- ---- a tree, whose parts may stand

    module _ (f : Form) (text : List ℕ) (a : Forest Form) (ws : List Written) (fitting : fits (slots_of V1993 f) (forms_of a) ≡ true) (has_text : HasText V1993 f text) (valid : AreValid V1993 (keeps_brackets f a) a)
        (can : CanAllStand t actions standpoints ws (single a)) where
      abbrev tree : Forest Form
      tree = more f text no_place a nothing

      abbrev items : Written
      items = tree_items f text ws

      tail_tokens : (o : Option ℕ) (k : Draft) → Follows t actions standpoints o k → bits_tokens f text ws k (tail_bits o) ≡ lexemes k
      tail_tokens None k e = ap lexemes (sym e)
      tail_tokens (Some c) k e = append-nil (lexemes k)

      with_tail : (s : Standpoint) (k : Draft) (bs : List Bit) → Follows t actions standpoints s.tail k → tokens_in (items s.state) ≡ bits_tokens f text ws k bs
          → bits_tokens f text ws k (bs ++ tail_bits s.tail) ≡ tokens_in (items s.state) ++ lexemes k
      with_tail s k bs follows e =
          bits_append f text ws k bs (tail_bits s.tail) ∙ ap (λ ls. ls ++ bits_tokens f text ws k (tail_bits s.tail)) (sym e)
          ∙ ap (λ ls. tokens_in (items s.state) ++ ls) (tail_tokens s.tail k follows)

      -- the row writes what is to be written
      row_tokens_are : (s : Standpoint) (k : Draft) (r : Row) → Follows t actions standpoints s.tail k → row_writes t rows actions standpoints f s r ≡ wanted_bits t rows actions standpoints f s r → (b : Bool) → r.up ≡ b
          → bits_tokens f text ws k (bits t rows actions standpoints r.template) ≡ tokens_in (items s.state) ++ lexemes k
      row_tokens_are s k r follows e true q =
          let within = (place_within t rows actions standpoints r).state in
          let w : bits_opened s.state f (bits t rows actions standpoints r.template) ≡ bits_within within s.state f ++ tail_bits s.tail =
          subst (λ b. elim b [ true ↦ bits_opened s.state f (bits t rows actions standpoints r.template) | false ↦ bits t rows actions standpoints r.template ]
          ≡ elim b [ true ↦ bits_within within s.state f | false ↦ bits_of s.state f ] ++ tail_bits s.tail) q e in
          sym (opened_tokens f text ws k s.state (bits t rows actions standpoints r.template)) ∙ ap (bits_tokens f text ws k) w
          ∙ with_tail s k (bits_within within s.state f) follows (within_tokens f text ws k within s.state)
      row_tokens_are s k r follows e false q =
          let within = (place_within t rows actions standpoints r).state in
          let w : bits t rows actions standpoints r.template ≡ bits_of s.state f ++ tail_bits s.tail =
          subst (λ b. elim b [ true ↦ bits_opened s.state f (bits t rows actions standpoints r.template) | false ↦ bits t rows actions standpoints r.template ]
          ≡ elim b [ true ↦ bits_within within s.state f | false ↦ bits_of s.state f ] ++ tail_bits s.tail) q e in
          ap (bits_tokens f text ws k) w ∙ with_tail s k (bits_of s.state f) follows (tree_tokens f text ws k s.state)

      -- the names of the row for this form
      one_form : (fs : List Form) → is_one t rows actions standpoints fs ≡ true → is_among fs f ≡ true → fs ≡ f ∷ []
      one_form [] e m = absurd (false≢true e)
      one_form (g ∷ []) e m = ap (λ x. x ∷ []) (sym (same_is f g (left_one (same_form f g) m)))
        where
          left_one : (b : Bool) → (b || false) ≡ true → b ≡ true
          left_one true q = refl
          left_one false q = absurd (false≢true q)
      one_form (g ∷ h ∷ fs) e m = absurd (false≢true e)

      up_name : (r : Row) (fs : List Form) (m : Named) → is_among fs f ≡ true → r.up ≡ true → tree_name t rows actions standpoints r fs m ≡ round_or_not r.round m
      up_name r [] m e q = absurd (false≢true e)
      up_name r (g ∷ gs) m e q = ap (λ b. elim b [ true ↦ round_or_not r.round m | false ↦ made_or_leaf g (leaf_kind g) (all_parts r) m ]) q

      down_name : (r : Row) (m : Named) → r.forms ≡ f ∷ [] → r.up ≡ false → tree_name t rows actions standpoints r r.forms m ≡ made_or_leaf f (leaf_kind f) (all_parts r) m
      down_name r m e q =
          ap (λ fs. tree_name t rows actions standpoints r fs m) e
          ∙ ap (λ b. elim b [ true ↦ round_or_not r.round m | false ↦ made_or_leaf f (leaf_kind f) (all_parts r) m ]) q

      stacked : (tail : Option ℕ) (k : Draft) (y start : Forest Form) (r : Row) (put_tree : Forest Form)
          → ((start' : Forest Form) (n : Named) → meant actions text k (puts t actions standpoints r.places (y ∷ single a)) start' (tree_name t rows actions standpoints r r.forms n) ≡ with_next put_tree (meant actions text k (puts t actions standpoints r.places (y ∷ single a)) start' n))
          → meant actions text k (puts t actions standpoints r.places (y ∷ single a)) start (wanted_name t rows actions standpoints tail r) ≡ finished actions tail k put_tree start
      stacked None k y start r p h = h start base
      stacked (Some c) k y start r p h = ap (λ x. joined (grows actions k x) start) (h start nil)

      drafted : (s : ℕ) (k : Draft) (r : Row) (n : ℕ) (y : Forest Form) (itself : CanStandBelow t actions standpoints n items y) → Follows t actions standpoints (point standpoints s).tail k → IsLead (point standpoints s) r f
          → HolesFit t actions standpoints n y (single a) r.template
          → ((start : Forest Form) (m : Named) → meant actions text k (puts t actions standpoints r.places (y ∷ single a)) start (tree_name t rows actions standpoints r r.forms m)
          ≡ with_next (put (point standpoints s).state tree) (meant actions text k (puts t actions standpoints r.places (y ∷ single a)) start m))
          → IsDrafted t actions standpoints s items tree k
      drafted s k r n y itself follows lead holes made_is =
          let i = filled t rows actions standpoints are f text k (point standpoints s).tail follows r.places n y ws (single a) itself can r.template lead.facts holes in
          record {
            draft = i.draft;
            derived = subst (λ ss. Derive t ss (plain i.draft)) lead.derives i.derived;
            tokens = i.tokens ∙ row_tokens_are (point standpoints s) k r follows lead.writes r.up refl;
            grown = λ start.
                i.grown start base
                ∙ ap (meant actions text k (puts t actions standpoints r.places (y ∷ single a)) start) lead.leaves
                ∙ stacked (point standpoints s).tail k y start r (put (point standpoints s).state tree) made_is;
          }

      -- ---- a row that makes the tree

      bare : (b : Bool) → b ≡ false → laid b tree ≡ tree
      bare true e = absurd (false≢true (sym e))
      bare false e = refl

      no_parts : (ss : List Slot) (ps : List ℕ) (many : Bool) (b : Forest Form) → has_parts ss ps many ≡ true → nat_eq (length ps) 0 ≡ true → many ≡ false → fits ss (forms_of b) ≡ true → b ≡ nothing
      no_parts [] [] many nothing h l m e = refl
      no_parts [] [] many (more g u p c d) h l m e = absurd (false≢true e)
      no_parts [] (p ∷ ps) many b h l m e = absurd (false≢true h)
      no_parts (One fs ∷ ss) [] many b h l m e = absurd (false≢true h)
      no_parts (One fs ∷ ss) (p ∷ ps) many b h l m e = absurd (suc_no (length ps) l)
      no_parts (Many fs ∷ []) [] many b h l m e = absurd (false≢true (sym m ∙ h))
      no_parts (Many fs ∷ []) (p ∷ ps) many b h l m e = absurd (false≢true h)
      no_parts (Many fs ∷ s ∷ ss) ps many b h l m e = absurd (false≢true h)

      not_is : (b : Bool) → not b ≡ true → b ≡ false
      not_is true e = absurd (false≢true e)
      not_is false e = refl

      made_tree : (r : Row) (k : Draft) (y start : Forest Form) (n : Named) → fits_parts t rows actions standpoints f r ≡ true → PutsFit t rows actions standpoints f (behind_first r.places) (single a) → (o : Option Kind) → leaf_kind f ≡ o
          → (zs : List (Forest Form)) → zs ≡ puts t actions standpoints (behind_first r.places) (single a) → (x : Forest Form)
          → meant actions text k (x ∷ zs) start (made_or_leaf f o (all_parts r) n) ≡ more f text no_place a (meant actions text k (x ∷ zs) start n)
      made_tree r k y start n u fit None q zs is x =
          let p0 = and_parts (has_parts (slots_of V1993 f) (behind_first r.places) r.many) (places_stand t rows actions standpoints f (slots_of V1993 f) (behind_first r.places) && (holes_stand t rows actions standpoints f (slots_of V1993 f) r.template && leaf_fits (leaf_kind f) r)) u in
          let no_text : text ≡ [] = subst (λ o. IsTextAt V1993 o text) q has_text in
          subst (λ us. meant actions text k (x ∷ us) start (made f (all_parts r) n) ≡ more f text no_place a (meant actions text k (x ∷ us) start n)) (sym is)
          (made_again t actions standpoints rows text k x start f (slots_of V1993 f) (behind_first r.places) r.many a (meant actions text k (x ∷ puts t actions standpoints (behind_first r.places) (single a)) start n) p0.0 fitting fit valid
          ∙ ap (λ u. more f u no_place a (meant actions text k (x ∷ puts t actions standpoints (behind_first r.places) (single a)) start n)) (sym no_text))
      made_tree r k y start n u fit (Some c) q zs is x =
          let p0 = and_parts (has_parts (slots_of V1993 f) (behind_first r.places) r.many) (places_stand t rows actions standpoints f (slots_of V1993 f) (behind_first r.places) && (holes_stand t rows actions standpoints f (slots_of V1993 f) r.template && leaf_fits (leaf_kind f) r)) u in
          let p1 = and_parts (places_stand t rows actions standpoints f (slots_of V1993 f) (behind_first r.places)) (holes_stand t rows actions standpoints f (slots_of V1993 f) r.template && leaf_fits (leaf_kind f) r) p0.1 in
          let p2 = and_parts (holes_stand t rows actions standpoints f (slots_of V1993 f) r.template) (leaf_fits (leaf_kind f) r) p1.1 in
          let leaf_fit : leaf_fits (Some c) r ≡ true = subst (λ o. leaf_fits o r ≡ true) q p2.1 in
          let p3 = and_parts (nat_eq (length (behind_first r.places)) 0) (not r.many) leaf_fit in
          ap (λ b. more f text no_place b (meant actions text k (x ∷ zs) start n)) (sym (no_parts (slots_of V1993 f) (behind_first r.places) r.many a p0.0 p3.0 (not_is r.many p3.1) fitting))

      puts_nothing : (places : List ℕ) (xs : List (Forest Form)) → (x : Forest Form) × (puts t actions standpoints places (nothing ∷ xs) ≡ x ∷ puts t actions standpoints (behind_first places) xs)
      puts_nothing [] xs = (nothing, refl)
      puts_nothing (p ∷ ps) xs = (nothing, refl)

      -- the tree of a row, where it isn't that of another place
      down : (s : ℕ) (k : Draft) (r : Row) → Follows t actions standpoints (point standpoints s).tail k → IsLead (point standpoints s) r f → r.up ≡ false → IsDrafted t actions standpoints s items tree k
      down s k r follows lead e =
          let u : (fits_parts t rows actions standpoints f r && not (is_laid (point standpoints s).state f)) ≡ true =
          subst (λ b. elim b [
            | true ↦ stands standpoints (left_of r.places) f && brackets_fit f r.round (is_laid (point standpoints s).state f) (is_laid (place_within t rows actions standpoints r).state f)
            | false ↦ fits_parts t rows actions standpoints f r && not (is_laid (point standpoints s).state f)
          ] ≡ true) e lead.fit in
          let one : is_one t rows actions standpoints r.forms ≡ true =
          subst (λ b. elim b [
            | true ↦ has_first r.places && (nat_lt (place_within t rows actions standpoints r).level (point standpoints s).level && self_alone t rows actions standpoints r.template)
            | false ↦ is_one t rows actions standpoints r.forms
          ] ≡ true) e lead.row_fit in
          let forms = one_form r.forms one lead.member in
          let q = and_parts (fits_parts t rows actions standpoints f r) (not (is_laid (point standpoints s).state f)) u in
          let p0 = and_parts (has_parts (slots_of V1993 f) (behind_first r.places) r.many) (places_stand t rows actions standpoints f (slots_of V1993 f) (behind_first r.places) && (holes_stand t rows actions standpoints f (slots_of V1993 f) r.template && leaf_fits (leaf_kind f) r)) q.0 in
          let p1 = and_parts (places_stand t rows actions standpoints f (slots_of V1993 f) (behind_first r.places)) (holes_stand t rows actions standpoints f (slots_of V1993 f) r.template && leaf_fits (leaf_kind f) r) p0.1 in
          let p2 = and_parts (holes_stand t rows actions standpoints f (slots_of V1993 f) r.template) (leaf_fits (leaf_kind f) r) p1.1 in
          let of = valid_of_93 (keeps_brackets f a) a valid in
          let fit = puts_fit t rows actions standpoints f (slots_of V1993 f) (behind_first r.places) r.many a p0.0 p1.0 fitting of in
          let holes = parts_fit t rows actions standpoints f (point standpoints s).tail r.places (slots_of V1993 f) (single a) r.template fit
          (λ p j l h. bare_behind t rows actions standpoints f (slots_of V1993 f) (behind_first r.places) r.many a p j l p0.0 h fitting of) p2.0 lead.facts in
          let there = puts_nothing r.places (single a) in
          drafted s k r 0 nothing (cannot t actions standpoints 0 items) follows lead holes
          (λ start m.
          ap (meant actions text k (puts t actions standpoints r.places (nothing ∷ single a)) start) (down_name r m forms e)
          ∙ subst (λ us. meant actions text k us start (made_or_leaf f (leaf_kind f) (all_parts r) m) ≡ more f text no_place a (meant actions text k us start m)) (sym there.1)
          (made_tree r k nothing start m q.0 fit (leaf_kind f) refl (puts t actions standpoints (behind_first r.places) (single a)) refl there.0)
          ∙ ap (λ x. with_next x (meant actions text k (puts t actions standpoints r.places (nothing ∷ single a)) start m)) (sym (bare (is_laid (point standpoints s).state f) (not_is _ q.1))))

      -- ---- a row by which the tree stands as it does at another place

      up_tree : (k : Draft) (zs : List (Forest Form)) (start : Forest Form) (m : Named) (round b c : Bool) → brackets_fit f round b c ≡ true → (b ≡ true → is_among expressions f ≡ true)
          → meant actions text k (laid c tree ∷ zs) start (round_or_not round m) ≡ with_next (laid b tree) (meant actions text k (laid c tree ∷ zs) start m)
      up_tree k zs start m true true false e x =
          ap (λ y. more form.Aggregate [] no_place (settled (not y) tree) (meant actions text k (tree ∷ zs) start m)) (x refl)
          ∙ ap (λ y. more form.Aggregate [] no_place (without_brackets (y && is_one_expression a) f text no_place a nothing) (meant actions text k (tree ∷ zs) start m)) (not_is (same_form f form.Aggregate) e)
      up_tree k zs start m false true true e x = refl
      up_tree k zs start m false false false e x = refl
      up_tree k zs start m true true true e x = absurd (false≢true e)
      up_tree k zs start m true false c e x = absurd (false≢true e)
      up_tree k zs start m false true false e x = absurd (false≢true e)
      up_tree k zs start m false false true e x = absurd (false≢true e)

      up_puts : (k : Draft) (places : List ℕ) (start : Forest Form) (m : Named) (round b : Bool) → has_first places ≡ true → brackets_fit f round b (is_laid (point standpoints (left_of places)).state f) ≡ true → (b ≡ true → is_among expressions f ≡ true)
          → meant actions text k (puts t actions standpoints places (tree ∷ single a)) start (round_or_not round m)
          ≡ with_next (laid b tree) (meant actions text k (puts t actions standpoints places (tree ∷ single a)) start m)
      up_puts k [] start m round b h e x = absurd (false≢true h)
      up_puts k (p ∷ ps) start m round b h e x = up_tree k (puts t actions standpoints ps (single a)) start m round b (is_laid (point standpoints p).state f) e x

      up : (s : ℕ) (k : Draft) (r : Row) (n : ℕ) → CanStandBelow t actions standpoints n items tree → Follows t actions standpoints (point standpoints s).tail k → IsLead (point standpoints s) r f → r.up ≡ true
          → nat_lt (point standpoints s).level (suc n) ≡ true → IsDrafted t actions standpoints s items tree k
      up s k r n itself follows lead e level =
          let u : (stands standpoints (left_of r.places) f && brackets_fit f r.round (is_laid (point standpoints s).state f) (is_laid (place_within t rows actions standpoints r).state f)) ≡ true =
          subst (λ b. elim b [
            | true ↦ stands standpoints (left_of r.places) f && brackets_fit f r.round (is_laid (point standpoints s).state f) (is_laid (place_within t rows actions standpoints r).state f)
            | false ↦ fits_parts t rows actions standpoints f r && not (is_laid (point standpoints s).state f)
          ] ≡ true) e lead.fit in
          let q = and_parts (stands standpoints (left_of r.places) f) (brackets_fit f r.round (is_laid (point standpoints s).state f) (is_laid (place_within t rows actions standpoints r).state f)) u in
          let v : (has_first r.places && (nat_lt (place_within t rows actions standpoints r).level (point standpoints s).level && self_alone t rows actions standpoints r.template)) ≡ true =
          subst (λ b. elim b [
            | true ↦ has_first r.places && (nat_lt (place_within t rows actions standpoints r).level (point standpoints s).level && self_alone t rows actions standpoints r.template)
            | false ↦ is_one t rows actions standpoints r.forms
          ] ≡ true) e lead.row_fit in
          let v0 = and_parts (has_first r.places) (nat_lt (place_within t rows actions standpoints r).level (point standpoints s).level && self_alone t rows actions standpoints r.template) v in
          let v1 = and_parts (nat_lt (place_within t rows actions standpoints r).level (point standpoints s).level) (self_alone t rows actions standpoints r.template) v0.1 in
          let holes = itself_fits t rows actions standpoints f (point standpoints s).tail r.places n tree (single a) r.template
          (level_below (place_within t rows actions standpoints r).level (point standpoints s).level n v1.0 level) q.0 v1.1 lead.facts in
          drafted s k r n tree itself follows lead holes
          (λ start m.
          ap (meant actions text k (puts t actions standpoints r.places (tree ∷ single a)) start) (up_name r r.forms m lead.member e)
          ∙ up_puts k r.places start m r.round (is_laid (point standpoints s).state f) v0.0 q.1 (laid_expression (point standpoints s).state f))

      -- ---- wherever it may stand

      stand : (n s : ℕ) (k : Draft) → nat_lt (point standpoints s).level n ≡ true → stands standpoints s f ≡ true → Follows t actions standpoints (point standpoints s).tail k → IsDrafted t actions standpoints s items tree k
      stand zero s k l e follows = absurd (no_level (point standpoints s).level l)
      stand (suc n) s k l e follows = by_row (found (point standpoints s).rows f) refl e (record { at = λ p j l h g. stand n p j l h g })
        where
          by_up : (r : Row) (b : Bool) → r.up ≡ b → IsLead (point standpoints s) r f → CanStandBelow t actions standpoints n items tree → IsDrafted t actions standpoints s items tree k
          by_up r true q lead c = up s k r n c follows lead q l
          by_up r false q lead c = down s k r follows lead q

          by_row : (o : Option Row) → found (point standpoints s).rows f ≡ o → is_some o ≡ true → CanStandBelow t actions standpoints n items tree → IsDrafted t actions standpoints s items tree k
          by_row None q h c = absurd (false≢true h)
          by_row (Some r) q h c = by_up r r.up refl (lead_found (point standpoints s) (point standpoints s).rows f r (answers_same standpoints s checked) q) c

      pub tree_can : CanStand t actions standpoints items tree
      tree_can = record { at = λ s k e follows. stand (suc (point standpoints s).level) s k (next_level (point standpoints s).level) e follows }

    -- each tree of a valid forest
    pub all_can : (trees : Forest Form) (keep : Bool) → AreValid V1993 keep (erased trees) → CanAllStand t actions standpoints (written trees) (single (erased trees))
    all_can nothing keep h = tt
    all_can (more f text place parts next) keep h =
        (tree_can f text (erased parts) (written parts) h.1 h.2 h.4 (all_can parts (keeps_brackets f (erased parts)) h.4), all_can next keep h.5)
