-- What a copy has still to make of the trees that are open.
use Rattle.std.proofs.Common.{◌≡◌, ◌<◌, ◌≤◌, ℕ, ◌+◌, ◌*◌, List, [], ◌∷◌, ◌++◌, length, refl, sym, ap, ◌∙◌, subst, arith}
use Rattle.vd_bytes.specs.declared.places.Place.{Place}
use Rattle.vd_forest.specs.declared.copying.Open.{Open}
use Rattle.vd_forest.specs.Forest.{Forest, nothing, more, next_of, size, turned}
use Rattle.vd_forest.specs.Store.{at, Holds, Extends}
use Rattle.vd_forest.proofs.StoreLemmas.{extends_trans}

module _ {F : Type 0} where
  -- the first tree with other parts
  abbrev pub with_parts : Forest F → Forest F → Forest F
  with_parts nothing parts = nothing
  with_parts (more form text place old next) parts = more form text place parts next

  -- the list in which an open tree stands, once its parts are copied
  abbrev pub closed : List (Forest F) → List (Forest F) → Open → Forest F → Forest F
  closed fs gs tree parts = turned (at gs tree.made) (with_parts (at fs tree.number) parts)

  -- what the copy comes to, once the list at hand is copied. The first open tree is the outermost
  abbrev pub copied : List (Forest F) → List (Forest F) → List Open → Forest F → Forest F
  copied fs gs [] f = f
  copied fs gs (tree ∷ trees) f = closed fs gs tree (copied fs gs trees f)

  -- each open tree is one of the store that is read, and what stands before it is copied
  abbrev pub AreOpen : List (Forest F) → List (Forest F) → List Open → Type 0
  AreOpen fs gs [] = Unit {0}
  AreOpen fs gs (tree ∷ trees) = (0 < tree.number) × (tree.number ≤ length fs) × (tree.made ≤ length gs) × AreOpen fs gs trees

  -- the steps that are still to come for what stands after the open trees
  abbrev pub waiting : List (Forest F) → List Open → ℕ
  waiting fs [] = 0
  waiting fs (tree ∷ trees) = 2 * size (next_of (at fs tree.number)) + 1 + waiting fs trees

  -- ---- one open tree more

  copied_more : (fs gs : List (Forest F)) (trees : List Open) (tree : Open) (f : Forest F)
      → copied fs gs (trees ++ tree ∷ []) f ≡ copied fs gs trees (closed fs gs tree f)
  copied_more fs gs [] tree f = refl
  copied_more fs gs (first ∷ trees) tree f = ap (closed fs gs first) (copied_more fs gs trees tree f)

  open_more : (fs gs : List (Forest F)) (trees : List Open) (tree : Open) → AreOpen fs gs trees → 0 < tree.number
      → tree.number ≤ length fs → tree.made ≤ length gs → AreOpen fs gs (trees ++ tree ∷ [])
  open_more fs gs [] tree all some within made = (some, within, made, tt)
  open_more fs gs (first ∷ trees) tree all some within made = (all.0, all.1, all.2, open_more fs gs trees tree all.3 some within made)

  open_front : (fs gs : List (Forest F)) (trees : List Open) (tree : Open) → AreOpen fs gs (trees ++ tree ∷ []) → AreOpen fs gs trees
  open_front fs gs [] tree all = tt
  open_front fs gs (first ∷ trees) tree all = (all.0, all.1, all.2, open_front fs gs trees tree all.3)

  pub record IsOpen (fs gs : List (Forest F)) (tree : Open) : Type 0 where
    pub some : 0 < tree.number
    pub within : tree.number ≤ length fs
    pub made_in : tree.made ≤ length gs

  open_last : (fs gs : List (Forest F)) (trees : List Open) (tree : Open) → AreOpen fs gs (trees ++ tree ∷ []) → IsOpen fs gs tree
  open_last fs gs [] tree all = record { some = all.0; within = all.1; made_in = all.2 }
  open_last fs gs (first ∷ trees) tree all = open_last fs gs trees tree all.3

  waiting_more : (fs : List (Forest F)) (trees : List Open) (tree : Open)
      → waiting fs (trees ++ tree ∷ []) ≡ waiting fs trees + 2 * size (next_of (at fs tree.number)) + 1
  waiting_more fs [] tree = omega arith
  waiting_more fs (first ∷ trees) tree = omega (arith, waiting_more fs trees tree)

  -- ---- the copy grows

  open_grown : (fs gs hs : List (Forest F)) (trees : List Open) → Extends gs hs → AreOpen fs gs trees → AreOpen fs hs trees
  open_grown fs gs hs [] grown all = tt
  open_grown fs gs hs (tree ∷ trees) grown all =
      (all.0, all.1, omega (arith, all.2, grown.grows), open_grown fs gs hs trees grown all.3)

  copied_grown : (fs gs hs : List (Forest F)) (trees : List Open) (f : Forest F) → Extends gs hs → AreOpen fs gs trees
      → copied fs hs trees f ≡ copied fs gs trees f
  copied_grown fs gs hs [] f grown all = refl
  copied_grown fs gs hs (tree ∷ trees) f grown all =
      ap (λ g. turned g (with_parts (at fs tree.number) (copied fs hs trees f))) (grown.keeps tree.made all.2)
      ∙ ap (closed fs gs tree) (copied_grown fs gs hs trees f grown all.3)

  -- ---- the steps of the loop

  -- the tree at `left` is opened
  pub record IsOpened (fs gs : List (Forest F)) (trees : List Open) (left made parts : ℕ) (want : Forest F) : Type 0 where
    pub open_in : AreOpen fs gs (trees ++ record { number = left; made = made } ∷ [])
    pub same : copied fs gs (trees ++ record { number = left; made = made } ∷ []) (turned (at gs 0) (at fs parts)) ≡ want
    pub less : 2 * size (at fs parts) + waiting fs (trees ++ record { number = left; made = made } ∷ []) < 2 * size (at fs left) + waiting fs trees

  pub is_opened : (fs gs : List (Forest F)) (trees : List Open) (left made a b : ℕ) (form : F) (text : List ℕ) (place : Place) (want : Forest F)
      → AreOpen fs gs trees → 0 < left → left ≤ length fs → made ≤ length gs → at fs left ≡ more form text place (at fs a) (at fs b)
      → copied fs gs trees (turned (at gs made) (at fs left)) ≡ want → IsOpened fs gs trees left made a want
  is_opened fs gs trees left made a b form text place want all some within made_in opened wanted =
      let tree : Open = record { number = left; made = made } in
      record {
        open_in = open_more fs gs trees tree all some within made_in;
        same =
            copied_more fs gs trees tree (at fs a)
            ∙ ap (λ f. copied fs gs trees (turned (at gs made) (with_parts f (at fs a)))) opened
            ∙ ap (λ f. copied fs gs trees (turned (at gs made) f)) (sym opened)
            ∙ wanted;
        less = omega (arith, waiting_more fs trees tree, ap size opened, ap (λ f. size (next_of f)) opened);
      }

  -- the list at hand is done, and with it the last open tree
  pub closed_copied : (fs gs hs ks : List (Forest F)) (olds trees : List Open) (tree : Open) (left made parts a b new : ℕ) (form : F) (text : List ℕ) (place : Place) (want : Forest F)
      → olds ≡ trees ++ tree ∷ [] → AreOpen fs gs olds → Extends gs hs → Extends hs ks → left ≤ 0
      → Holds hs parts (turned (at gs made) (at gs 0)) → at fs tree.number ≡ more form text place (at fs a) (at fs b)
      → Holds ks new (more form text place (at hs parts) (at hs tree.made))
      → copied fs gs olds (turned (at gs made) (at fs left)) ≡ want → copied fs ks trees (turned (at ks new) (at fs b)) ≡ want
  closed_copied fs gs hs ks olds trees tree left made parts a b new form text place want popped all first second none held opened added wanted =
      let all' = subst (AreOpen fs gs) popped all in
      let last = open_last fs gs trees tree all' in
      let z : left ≡ 0 = omega arith in
      let list = turned (at gs made) nothing in
      copied_grown fs gs ks trees (turned (at ks new) (at fs b)) (extends_trans gs hs ks first second) (open_front fs gs trees tree all')
      ∙ ap (λ f. copied fs gs trees (turned f (at fs b))) added.is
      ∙ ap (λ f. copied fs gs trees (turned f (more form text place (at hs parts) (at fs b)))) (first.keeps tree.made last.made_in)
      ∙ ap (λ f. copied fs gs trees (turned (at gs tree.made) (more form text place f (at fs b)))) held.is
      ∙ ap (λ f. copied fs gs trees (turned (at gs tree.made) (with_parts f list))) (sym opened)
      ∙ sym (copied_more fs gs trees tree list)
      ∙ ap (λ trees. copied fs gs trees list) (sym popped)
      ∙ ap (λ n. copied fs gs olds (turned (at gs made) (at fs n))) (sym z)
      ∙ wanted

  pub closed_open : (fs gs hs ks : List (Forest F)) (olds trees : List Open) (tree : Open) → olds ≡ trees ++ tree ∷ [] → AreOpen fs gs olds
      → Extends gs hs → Extends hs ks → AreOpen fs ks trees
  closed_open fs gs hs ks olds trees tree popped all first second =
      open_grown fs gs ks trees (extends_trans gs hs ks first second) (open_front fs gs trees tree (subst (AreOpen fs gs) popped all))

  pub popped_open : (fs gs : List (Forest F)) (olds trees : List Open) (tree : Open) → olds ≡ trees ++ tree ∷ [] → AreOpen fs gs olds → IsOpen fs gs tree
  popped_open fs gs olds trees tree popped all = open_last fs gs trees tree (subst (AreOpen fs gs) popped all)

  pub closed_less : (fs : List (Forest F)) (olds trees : List Open) (tree : Open) (left a b : ℕ) (form : F) (text : List ℕ) (place : Place)
      → olds ≡ trees ++ tree ∷ [] → at fs tree.number ≡ more form text place (at fs a) (at fs b)
      → 2 * size (at fs b) + waiting fs trees < 2 * size (at fs left) + waiting fs olds
  closed_less fs olds trees tree left a b form text place popped opened =
      omega (arith, waiting_more fs trees tree, ap (waiting fs) popped, ap (λ f. size (next_of f)) opened)

  pub copied_all : (fs gs hs : List (Forest F)) (trees : List Open) (left made number : ℕ) (want : Forest F) → left ≤ 0 → length trees ≤ 0
      → Holds hs number (turned (at gs made) (at gs 0)) → copied fs gs trees (turned (at gs made) (at fs left)) ≡ want → Holds hs number want
  copied_all fs gs hs [] left made number want none closed held wanted =
      let z : left ≡ 0 = omega arith in
      record { within = held.within; is = held.is ∙ ap (λ n. turned (at gs made) (at fs n)) (sym z) ∙ wanted }
  copied_all fs gs hs (tree ∷ trees) left made number want none closed held wanted = absurd (omega arith)

pub ruleset copying_steps = (is_opened, closed_copied, closed_open, popped_open, closed_less, copied_all)
