-- What symbols and productions do to the trees that stand side by side.
use Rattle.std.proofs.Common.{◌≡◌, ℕ, Bool, true, false, ◌&&◌, List, [], ◌∷◌, ◌++◌, Option, Some, None, is_none, refl, sym, ap, subst, ◌∙◌, append-nil, append_assoc}
use Rattle.std.proofs.lemmas.Bool.{and_parts, false≢true}
use Rattle.vd_trees.specs.declared.revision.Revision.{Revision}
use Rattle.vd_tokens.specs.Lexemes.{Lexeme}
use Rattle.vd_gram.specs.declared.tables.Table.{Table}
use Rattle.vd_forest.specs.Forest.{Forest, nothing, more, joined, turned, reversed}
use Rattle.vd_forms.specs.declared.form.Form.{Form}
use Rattle.vd_forms.specs.Slots.{Slot, slots_of}
use Rattle.vd_forms.specs.Validity.{forms_of, fits, is_form_of, leaf_kind, IsTextAt, HasText, keeps_brackets, AreValid}
use Rattle.vd_forms.proofs.DesignLemmas.{turned_twice}
use Rattle.vd_shapes.specs.declared.actions.Action.{Action}
use Rattle.vd_shapes.specs.declared.actions.Action.TheVariants.{Splice, Make, Wrap, Group}
use Rattle.vd_shapes.specs.Shapes.{with_node, acted}
use Rattle.vd_valid_shapes.specs.Effects.{are_covered, brackets_can_go, one_of, with_behind, Effect, Push, Turn, effect_of, can_happen, can_follow, makes_valid, does_as_claimed}
use Rattle.vd_valid_shapes.proofs.SlotLemmas.{covered, one_fits, behind}
use Rattle.vd_valid_shapes.proofs.BracketLemmas.{settled_valid, settled_fits}

-- ---- the forms of the trees so far, the oldest first

abbrev pub stack : Forest Form → List Form
stack nothing = []
stack (more f t p parts next) = stack next ++ f ∷ []

forms_turned : (f g : Forest Form) → forms_of (turned f g) ≡ stack f ++ forms_of g
forms_turned nothing g = refl
forms_turned (more f t p parts next) g =
    forms_turned next (more f t p parts g) ∙ sym (append_assoc (stack next) (f ∷ []) (forms_of g))

pub forms_reversed : (f : Forest Form) → forms_of (reversed f) ≡ stack f
forms_reversed f = forms_turned f nothing ∙ append-nil (stack f)

stack_joined : (f g : Forest Form) → stack (joined f g) ≡ stack g ++ stack f
stack_joined nothing g = sym (append-nil (stack g))
stack_joined (more f t p parts next) g =
    ap (λ l. l ++ f ∷ []) (stack_joined next g) ∙ append_assoc (stack g) (stack next) (f ∷ [])

module _ (r : Revision) where
  pub valid_turned : (keep : Bool) (f g : Forest Form) → AreValid r keep f → AreValid r keep g → AreValid r keep (turned f g)
  valid_turned keep nothing g v w = w
  valid_turned keep (more f t p parts next) g v w = valid_turned keep next (more f t p parts g) v.5 (v.0, v.1, v.2, v.3, v.4, w)

  valid_joined : (f g : Forest Form) → AreValid r true f → AreValid r true g → AreValid r true (joined f g)
  valid_joined f g v w =
      subst (AreValid r true) (turned_twice f g) (valid_turned true (turned f nothing) g (valid_turned true f nothing v tt) w)

  -- ---- effects

  -- more trees stand there
  pub record Pushes (added : List Slot) (x y : Forest Form) : Type 0 where
    pub new : List Form
    pub stands : stack y ≡ stack x ++ new
    pub fit : fits added new ≡ true
    pub valid : AreValid r true y

  -- these trees stand there alone
  pub record Turns (after : List Slot) (y : Forest Form) : Type 0 where
    pub fit : fits after (stack y) ≡ true
    pub valid : AreValid r true y

  abbrev pub Does : Effect → (Forest Form → Forest Form) → Type 0
  Does (Push added) step = (x : Forest Form) → AreValid r true x → Pushes added x (step x)
  Does (Turn before after) step = (x : Forest Form) → AreValid r true x → fits before (stack x) ≡ true → Turns after (step x)

  -- trees of these slots stand there behind some old ones, and alone where it is so said
  pub record Stand (alone : Bool) (old : List Form) (ss : List Slot) (x : Forest Form) : Type 0 where
    pub new : List Form
    pub is : stack x ≡ old ++ new
    pub fit : fits ss new ≡ true
    pub valid : AreValid r true x
    pub none : alone ≡ true → old ≡ []

  pub record Said (alone : Bool) (old : List Form) (said : List Slot → Bool) (x : Forest Form) : Type 0 where
    pub slots : List Slot
    pub stand : Stand alone old slots x
    pub so : said slots ≡ true

  pub happens : (e : Effect) (step : Forest Form → Forest Form) → Does e step → (t : Table) (effects : List (ℕ × Effect)) (alone : Bool) (old : List Form) (ss : List Slot)
      (said : List Slot → Bool) (x : Forest Form) → Stand alone old ss x → can_happen t effects alone e ss said ≡ true → Said alone old said (step x)
  happens (Push added) step does t effects alone old ss said x s h =
      let p = does x s.valid in
      let b = behind ss added said s.new p.new s.fit p.fit h in
      record {
        slots = b.0;
        stand = record {
          new = s.new ++ p.new;
          is = p.stands ∙ (ap (λ l. l ++ p.new) s.is ∙ append_assoc old s.new p.new);
          fit = b.1;
          valid = p.valid;
          none = s.none;
        };
        so = b.2;
      }
  happens (Turn before after) step does t effects alone old ss said x s h =
      let a = and_parts alone (are_covered ss before && said after) h in
      let b = and_parts (are_covered ss before) (said after) a.1 in
      let none = s.none a.0 in
      let fit = covered ss before s.new b.0 s.fit in
      let all : stack x ≡ s.new = s.is ∙ ap (λ l. l ++ s.new) none in
      let q = does x s.valid (subst (λ l. fits before l ≡ true) (sym all) fit) in
      record {
        slots = after;
        stand = record {
          new = stack (step x);
          is = sym (ap (λ l. l ++ stack (step x)) none);
          fit = q.fit;
          valid = q.valid;
          none = s.none;
        };
        so = b.1;
      }

  -- nothing stands there
  nothing_stands : Stand true [] [] nothing
  nothing_stands = record { new = []; is = refl; fit = refl; valid = tt; none = λ e. refl }

  -- nothing stands there yet behind what does
  nothing_behind : (x : Forest Form) → AreValid r true x → Stand false (stack x) [] x
  nothing_behind x v = record { new = []; is = sym (append-nil (stack x)); fit = refl; valid = v; none = λ e. absurd (false≢true e) }

  alone_stands : (ss : List Slot) (x : Forest Form) → AreValid r true x → fits ss (stack x) ≡ true → Stand true [] ss x
  alone_stands ss x v h = record { new = stack x; is = refl; fit = h; valid = v; none = λ e. refl }

  alone_fits : (ss : List Slot) (x : Forest Form) → Stand true [] ss x → fits ss (stack x) ≡ true
  alone_fits ss x s = subst (λ l. fits ss l ≡ true) (sym s.is) s.fit

  no_text : (f : Form) → is_none (leaf_kind f) ≡ true → HasText r f []
  no_text f h = go (leaf_kind f) h
    where
      go : (k : Option _) → is_none k ≡ true → IsTextAt r k []
      go None e = refl
      go (Some k) e = absurd (false≢true e)

  module _ (t : Table) (effects : List (ℕ × Effect)) (actions : List Action) (tokens : List Lexeme) where
    abbrev pub Follow : List ℕ → (Forest Form → Forest Form) → Type 0
    Follow xs step =
        (alone : Bool) (old : List Form) (ss : List Slot) (said : List Slot → Bool) (x : Forest Form) → Stand alone old ss x
        → can_follow t effects alone xs ss said ≡ true → Said alone old said (step x)

    pub follow_more : (x : ℕ) (xs : List ℕ) (first others : Forest Form → Forest Form) → Does (effect_of t effects x) first → Follow xs others
        → Follow (x ∷ xs) (λ y. others (first y))
    follow_more x xs first others does follow = λ alone old ss said y s h.
        let q = happens (effect_of t effects x) first does t effects alone old ss (λ rs. can_follow t effects alone xs rs said) y s h in
        follow alone old q.slots said (first y) q.stand q.so

    -- a node of such parts
    node : (f : Form) (start : ℕ) (ss : List Slot) (parts so_far : Forest Form) → makes_valid t effects r f ss ≡ true → AreValid r true parts
        → fits ss (stack parts) ≡ true → AreValid r true so_far → AreValid r true (with_node actions tokens f start parts so_far)
    node f start ss parts so_far h v fit w =
        let a = and_parts (is_form_of r f) (is_none (leaf_kind f) && (brackets_can_go (slots_of r f) && are_covered ss (slots_of r f))) h in
        let b = and_parts (is_none (leaf_kind f)) (brackets_can_go (slots_of r f) && are_covered ss (slots_of r f)) a.1 in
        let c = and_parts (brackets_can_go (slots_of r f)) (are_covered ss (slots_of r f)) b.1 in
        let fit_forms : fits (slots_of r f) (forms_of (reversed parts)) ≡ true =
        subst (λ l. fits (slots_of r f) l ≡ true) (sym (forms_reversed parts)) (covered ss (slots_of r f) (stack parts) c.1 fit) in
        let rest : AreValid r true (reversed parts) = valid_turned true parts nothing v tt in
        (a.0, settled_fits (keeps_brackets f (reversed parts)) (reversed parts) (slots_of r f) c.0 fit_forms, no_text f b.0, refl, settled_valid r f (reversed parts) rest, w)

    -- ---- productions

    module _ (start : ℕ) (right : List ℕ) (inner : Forest Form → Forest Form) (follow : Follow right inner) where
      pub acts : (e : Effect) (a : Action) → does_as_claimed t effects r e a right ≡ true → Does e (acted actions tokens a start inner)
      acts (Push added) Splice h = λ x v.
          let q = follow false (stack x) [] (λ ss. are_covered ss added) x (nothing_behind x v) h in
          record { new = q.stand.new; stands = q.stand.is; fit = covered q.slots added q.stand.new q.so q.stand.fit; valid = q.stand.valid }
      acts (Push added) (Make f) h = λ x v.
          let q = follow true [] [] (λ ss. makes_valid t effects r f ss && are_covered (one_of f) added) nothing nothing_stands h in
          let p = and_parts (makes_valid t effects r f q.slots) (are_covered (one_of f) added) q.so in
          record {
            new = f ∷ [];
            stands = refl;
            fit = covered (one_of f) added (f ∷ []) p.1 (one_fits f);
            valid = node f start q.slots (inner nothing) x p.0 q.stand.valid (alone_fits q.slots (inner nothing) q.stand) v;
          }
      acts (Push added) (Wrap f) h = absurd (false≢true h)
      acts (Push added) Group h = λ x v.
          let q = follow true [] [] (λ ss. are_covered ss added) nothing nothing_stands h in
          record {
            new = stack (inner nothing);
            stands = stack_joined (inner nothing) x;
            fit = covered q.slots added (stack (inner nothing)) q.so (alone_fits q.slots (inner nothing) q.stand);
            valid = valid_joined (inner nothing) x q.stand.valid v;
          }
      acts (Turn before after) Splice h = λ x v fit.
          let q = follow true [] before (λ ss. are_covered ss after) x (alone_stands before x v fit) h in
          record {
            fit = covered q.slots after (stack (inner x)) q.so (alone_fits q.slots (inner x) q.stand);
            valid = q.stand.valid;
          }
      acts (Turn before after) (Make f) h = λ x v fit.
          let q = follow true [] [] (λ ss. makes_valid t effects r f ss && with_behind before (one_of f) (λ rs. are_covered rs after)) nothing nothing_stands h in
          let p = and_parts (makes_valid t effects r f q.slots) (with_behind before (one_of f) (λ rs. are_covered rs after)) q.so in
          let b = behind before (one_of f) (λ rs. are_covered rs after) (stack x) (f ∷ []) fit (one_fits f) p.1 in
          record {
            fit = covered b.0 after (stack x ++ f ∷ []) b.2 b.1;
            valid = node f start q.slots (inner nothing) x p.0 q.stand.valid (alone_fits q.slots (inner nothing) q.stand) v;
          }
      acts (Turn before after) (Wrap f) h = λ x v fit.
          let q = follow true [] before (λ ss. makes_valid t effects r f ss && are_covered (one_of f) after) x (alone_stands before x v fit) h in
          let p = and_parts (makes_valid t effects r f q.slots) (are_covered (one_of f) after) q.so in
          record {
            fit = covered (one_of f) after (f ∷ []) p.1 (one_fits f);
            valid = node f start q.slots (inner x) nothing p.0 q.stand.valid (alone_fits q.slots (inner x) q.stand) tt;
          }
      acts (Turn before after) Group h = λ x v fit.
          let q = follow true [] [] (λ ss. with_behind before ss (λ rs. are_covered rs after)) nothing nothing_stands h in
          let b = behind before q.slots (λ rs. are_covered rs after) (stack x) (stack (inner nothing)) fit (alone_fits q.slots (inner nothing) q.stand) q.so in
          record {
            fit = subst (λ l. fits after l ≡ true) (sym (stack_joined (inner nothing) x)) (covered b.0 after (stack x ++ stack (inner nothing)) b.2 b.1);
            valid = valid_joined (inner nothing) x q.stand.valid v;
          }
