-- Open productions, and the trees among which they stand.
use Rattle.std.proofs.Common.{◌≡◌, ℕ, ◌≤◌, Bool, true, false, List, [], ◌∷◌, ◌++◌, length, take, drop, reverse, refl, sym, ap, subst, ◌∙◌, arith, append_assoc, append-nil, length-append}
use Rattle.std.proofs.lemmas.List.{reverse-append, reverse-reverse}
use Rattle.std.proofs.Math.Seq.{take-append_seam, drop-append_seam}
use Rattle.vd_tokens.specs.Lexemes.{Lexeme}
use Rattle.vd_forest.specs.Forest.{Forest, nothing, more, joined, turned, reversed}
use Rattle.vd_forms.specs.declared.form.Form.{Form}
use Rattle.vd_forms.specs.Validity.{keeps_brackets}
use Rattle.vd_shapes.specs.declared.actions.Action.{Action}
use Rattle.vd_shapes.specs.declared.actions.Action.TheVariants.{Splice, Make, Wrap, Group}
use Rattle.vd_shapes.specs.declared.growing.Frame.{Frame}
use Rattle.vd_shapes.specs.Shapes.{place_at, settled, with_node}
use Rattle.vd_shapes.specs.Machine.{Open, closed, inner_start}
use Rattle.vd_shapes.specs.Standing.{Tree, planted, planted_all, sets_aside, base_of, start_in, IsFrame, Inside, AreFrames}

-- ---- lists of trees

pub joined_planted : (xs ys : List Tree) → joined (planted_all xs) (planted_all ys) ≡ planted_all (xs ++ ys)
joined_planted [] ys = refl
joined_planted (x ∷ xs) ys = ap (planted x) (joined_planted xs ys)

reverse_more : (x : Tree) (xs : List Tree) → reverse (x ∷ xs) ≡ reverse xs ++ x ∷ []
reverse_more x xs = reverse-append (x ∷ []) xs

turned_planted : (xs ys : List Tree) → turned (planted_all xs) (planted_all ys) ≡ planted_all (reverse xs ++ ys)
turned_planted [] ys = refl
turned_planted (x ∷ xs) ys =
    turned_planted xs (x ∷ ys)
    ∙ ap planted_all (sym (append_assoc (reverse xs) (x ∷ []) ys) ∙ ap (λ l. l ++ ys) (sym (reverse_more x xs)))

-- the trees so far in the order of the text
pub reversed_planted : (xs : List Tree) → reversed (planted_all (reverse xs)) ≡ planted_all xs
reversed_planted xs =
    turned_planted (reverse xs) [] ∙ ap planted_all (append-nil (reverse (reverse xs)) ∙ reverse-reverse xs)

pub planted_last : (xs : List Tree) (t : Tree) → planted_all (reverse (xs ++ t ∷ [])) ≡ planted t (planted_all (reverse xs))
planted_last xs t = ap planted_all (reverse-append xs (t ∷ []))

-- ---- the innermost make or group

-- its trees can be any others
pub record SplitOf (R : List Tree → Forest Form → Type 0) (base : ℕ) (trees : List Tree) (so_far : Forest Form) : Type 0 where
  pub below : List Tree
  pub now : List Tree
  pub trees_are : trees ≡ below ++ now
  pub base_is : base ≡ length below
  pub so_far_is : so_far ≡ planted_all (reverse now)
  pub again : (others : List Tree) → R (below ++ others) (planted_all (reverse others))

inside_split : (b : Bool) (base round : ℕ) (trees : List Tree) (so_far outer : Forest Form) (Round : List Tree → Forest Form → Type 0)
    → ((ts : List Tree) (s : Forest Form) → Round ts s → SplitOf Round round ts s) → Inside b base round trees so_far outer Round
    → SplitOf (λ ts s. Inside b base round ts s outer Round) base trees so_far
inside_split true base round trees so_far outer Round splits h =
    record { below = h.0; now = h.1; trees_are = h.2; base_is = h.3; so_far_is = h.4; again = λ others. (h.0, others, refl, h.3, refl, h.5) }
inside_split false base round trees so_far outer Round splits h =
    let r = splits trees so_far h.1 in
    record { below = r.below; now = r.now; trees_are = r.trees_are; base_is = h.0 ∙ r.base_is; so_far_is = r.so_far_is; again = λ others. (h.0, r.again others) }

pub split : (fs : List Frame) (os : List Open) (trees : List Tree) (so_far : Forest Form) → AreFrames fs os trees so_far
    → SplitOf (λ ts s. AreFrames fs os ts s) (base_of fs) trees so_far
split [] [] trees so_far h =
    record { below = []; now = trees; trees_are = refl; base_is = refl; so_far_is = h; again = λ others. refl }
split [] (o ∷ os) trees so_far h = absurd h
split (f ∷ fs) [] trees so_far h = absurd h
split (f ∷ fs) (o ∷ os) trees so_far h =
    let r = inside_split (sets_aside f.action) f.base (base_of fs) trees so_far o.outer (λ ts s. AreFrames fs os ts s) (λ ts s k. split fs os ts s k) h.1 in
    record { below = r.below; now = r.now; trees_are = r.trees_are; base_is = r.base_is; so_far_is = r.so_far_is; again = λ others. (h.0, r.again others) }

-- one tree more
pub one_more_tree : (fs : List Frame) (os : List Open) (trees : List Tree) (so_far : Forest Form) (t : Tree) → AreFrames fs os trees so_far
    → AreFrames fs os (trees ++ t ∷ []) (planted t so_far)
one_more_tree fs os trees so_far t h =
    let r = split fs os trees so_far h in
    let ts : r.below ++ (r.now ++ t ∷ []) ≡ trees ++ t ∷ [] = sym (append_assoc r.below r.now (t ∷ [])) ∙ ap (λ l. l ++ t ∷ []) (sym r.trees_are) in
    let s : planted_all (reverse (r.now ++ t ∷ [])) ≡ planted t so_far = planted_last r.now t ∙ ap (planted t) (sym r.so_far_is) in
    subst (λ x. AreFrames fs os x (planted t so_far)) ts (subst (AreFrames fs os (r.below ++ (r.now ++ t ∷ []))) s (r.again (r.now ++ t ∷ [])))

pub start_is : (fs : List Frame) (os : List Open) (trees : List Tree) (so_far : Forest Form) → AreFrames fs os trees so_far → inner_start os ≡ start_in fs
start_is [] [] trees so_far h = refl
start_is [] (o ∷ os) trees so_far h = absurd h
start_is (f ∷ fs) [] trees so_far h = absurd h
start_is (f ∷ fs) (o ∷ os) trees so_far h = h.0.start

pub base_within : (fs : List Frame) (os : List Open) (trees : List Tree) (so_far : Forest Form) → AreFrames fs os trees so_far → base_of fs ≤ length trees
base_within fs os trees so_far h =
    let r = split fs os trees so_far h in
    omega (arith, r.base_is, ap length r.trees_are, length-append r.below r.now)

-- ---- a production begins

pub frame_with : (f : Frame) (o : Open) (fs : List Frame) (os : List Open) (trees : List Tree) (so_far : Forest Form) → sets_aside f.action ≡ false → IsFrame f o
    → f.base ≡ base_of fs → AreFrames fs os trees so_far → AreFrames (f ∷ fs) (o ∷ os) trees so_far
frame_with f o fs os trees so_far e is base h =
    (is, subst (λ b. Inside b f.base (base_of fs) trees so_far o.outer (λ ts s. AreFrames fs os ts s)) (sym e) (base, h))

pub frame_apart : (f : Frame) (o : Open) (fs : List Frame) (os : List Open) (trees : List Tree) (so_far : Forest Form) → sets_aside f.action ≡ true → IsFrame f o
    → f.base ≡ length trees → o.outer ≡ so_far → AreFrames fs os trees so_far → AreFrames (f ∷ fs) (o ∷ os) trees nothing
frame_apart f o fs os trees so_far e is base outer h = (
  is,
  subst (λ b. Inside b f.base (base_of fs) trees nothing o.outer (λ ts s. AreFrames fs os ts s)) (sym e)
      (trees, [], sym (append-nil trees), base, refl, subst (AreFrames fs os trees) (sym outer) h),
)

-- ---- a production ends

-- what stands there in the place of the trees from a base on
abbrev pub made_tree : List Lexeme → Form → ℕ → List Tree → Tree
made_tree tokens f start parts =
    record { form = f; text = []; place = place_at tokens start; parts = settled (keeps_brackets f (planted_all parts)) (planted_all parts) }

taken_below : (trees below now : List Tree) (base : ℕ) → trees ≡ below ++ now → base ≡ length below → take base trees ≡ below
taken_below trees below now base e b = (λ i. take (b i) (e i)) ∙ take-append_seam below now

dropped_now : (trees below now : List Tree) (base : ℕ) → trees ≡ below ++ now → base ≡ length below → drop base trees ≡ now
dropped_now trees below now base e b = (λ i. drop (b i) (e i)) ∙ drop-append_seam below now

-- the node of these trees
node_is : (actions : List Action) (tokens : List Lexeme) (f : Form) (start : ℕ) (now : List Tree) (so_far outer : Forest Form) → so_far ≡ planted_all (reverse now)
    → planted (made_tree tokens f start now) outer ≡ with_node actions tokens f start so_far outer
node_is actions tokens f start now so_far outer e =
    let r : reversed so_far ≡ planted_all now = ap reversed e ∙ reversed_planted now in
    λ i. more f [] (place_at tokens start) (settled (keeps_brackets f (sym r i)) (sym r i)) outer

module _ (actions : List Action) (tokens : List Lexeme) (f : Frame) (o : Open) (fs : List Frame) (os : List Open) (trees : List Tree) (so_far : Forest Form)
    (h : AreFrames (f ∷ fs) (o ∷ os) trees so_far) where
  inside : (b : Bool) → sets_aside f.action ≡ b → Inside b f.base (base_of fs) trees so_far o.outer (λ ts s. AreFrames fs os ts s)
  inside b e = subst (λ b. Inside b f.base (base_of fs) trees so_far o.outer (λ ts s. AreFrames fs os ts s)) e h.1

  abbrev Closes : List Tree → Type 0
  Closes new = AreFrames fs os new (closed actions tokens o.action o.start o.outer so_far)

  closing : (new : List Tree) (a : Action) → f.action ≡ a → AreFrames fs os new (closed actions tokens a o.start o.outer so_far) → Closes new
  closing new a e = subst (λ x. AreFrames fs os new (closed actions tokens x o.start o.outer so_far)) (sym (h.0.action ∙ e))

  pub closes_splice : f.action ≡ Splice → Closes trees
  closes_splice e = closing trees Splice e (inside false (ap sets_aside e)).1

  pub closes_group : f.action ≡ Group → Closes trees
  closes_group e =
      let i = inside true (ap sets_aside e) in
      let r = split fs os i.0 o.outer i.5 in
      let ts : r.below ++ (r.now ++ i.1) ≡ trees = sym (append_assoc r.below r.now i.1) ∙ (ap (λ l. l ++ i.1) (sym r.trees_are) ∙ sym i.2) in
      let s : planted_all (reverse (r.now ++ i.1)) ≡ joined so_far o.outer =
      ap planted_all (reverse-append r.now i.1) ∙ (sym (joined_planted (reverse i.1) (reverse r.now)) ∙ (λ j. joined (sym i.4 j) (sym r.so_far_is j))) in
      closing trees Group e
      (subst (λ x. AreFrames fs os x (joined so_far o.outer)) ts (subst (AreFrames fs os (r.below ++ (r.now ++ i.1))) s (r.again (r.now ++ i.1))))

  pub closes_make : (form : Form) → f.action ≡ Make form → Closes (take f.base trees ++ made_tree tokens form f.start (drop f.base trees) ∷ [])
  closes_make form e =
      let i = inside true (ap sets_aside e) in
      let below = taken_below trees i.0 i.1 f.base i.2 i.3 in
      let now = dropped_now trees i.0 i.1 f.base i.2 i.3 in
      let t = made_tree tokens form o.start i.1 in
      let ts : i.0 ++ t ∷ [] ≡ take f.base trees ++ made_tree tokens form f.start (drop f.base trees) ∷ [] =
      λ j. sym below j ++ made_tree tokens form (h.0.start j) (sym now j) ∷ [] in
      let grown = subst (AreFrames fs os (i.0 ++ t ∷ [])) (node_is actions tokens form o.start i.1 so_far o.outer i.4) (one_more_tree fs os i.0 o.outer t i.5) in
      closing (take f.base trees ++ made_tree tokens form f.start (drop f.base trees) ∷ []) (Make form) e
      (subst (λ x. AreFrames fs os x (with_node actions tokens form o.start so_far o.outer)) ts grown)

  pub closes_wrap : (form : Form) → f.action ≡ Wrap form → Closes (take f.base trees ++ made_tree tokens form f.start (drop f.base trees) ∷ [])
  closes_wrap form e =
      let i = inside false (ap sets_aside e) in
      let r = split fs os trees so_far i.1 in
      let below = taken_below trees r.below r.now f.base r.trees_are (i.0 ∙ r.base_is) in
      let now = dropped_now trees r.below r.now f.base r.trees_are (i.0 ∙ r.base_is) in
      let t = made_tree tokens form o.start r.now in
      let ts : r.below ++ t ∷ [] ≡ take f.base trees ++ made_tree tokens form f.start (drop f.base trees) ∷ [] =
      λ j. sym below j ++ made_tree tokens form (h.0.start j) (sym now j) ∷ [] in
      let grown = subst (AreFrames fs os (r.below ++ t ∷ [])) (node_is actions tokens form o.start r.now so_far nothing r.so_far_is) (r.again (t ∷ [])) in
      closing (take f.base trees ++ made_tree tokens form f.start (drop f.base trees) ∷ []) (Wrap form) e
      (subst (λ x. AreFrames fs os x (with_node actions tokens form o.start so_far nothing)) ts grown)

  pub base_popped : f.base ≤ length trees
  base_popped = base_within (f ∷ fs) (o ∷ os) trees so_far h
