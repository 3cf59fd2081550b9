-- The code's lists stand where the machine does.
use Rattle.std.proofs.Common.{◌≡◌, ℕ, ◌-◌, ◌≤◌, Bool, true, false, List, [], ◌∷◌, ◌++◌, length, take, drop, reverse, Some, refl, sym, ap, subst, ◌∙◌}
use Rattle.std.specs.List.{AllByRecursion}
use Rattle.std.proofs.lemmas.List.{take-map, drop-map, map-append, reverse-append}
use Rattle.vd_tokens.specs.Lexemes.{Lexeme}
use Rattle.vd_forest.specs.Forest.{Forest}
use Rattle.vd_forest.specs.Store.{at, Holds, Extends}
use Rattle.vd_forms.specs.declared.form.Form.{Form}
use Rattle.vd_forms.specs.Validity.{keeps_brackets}
use Rattle.vd_shapes.specs.declared.entries.Entry.{Entry}
use Rattle.vd_shapes.specs.declared.actions.Action.{Action}
use Rattle.vd_shapes.specs.declared.growing.Frame.{Frame}
use Rattle.vd_shapes.specs.Shapes.{place_at, settled, leaf_form, with_leaf}
use Rattle.vd_shapes.specs.Machine.{Open}
use Rattle.vd_shapes.specs.Standing.{Tree, planted, planted_all, tree_of, trees_of, IsEntryOf, AreFrames}
use Rattle.vd_shapes.proofs.EntryLemmas.{all_of_both, all_taken, entries_more, trees_kept}
use Rattle.vd_shapes.proofs.FrameLemmas.{made_tree, one_more_tree}

-- entries from a base on became parts, and a new entry stands there
pub within_made : (old new : List (Forest Form)) (es es1 es2 : List Entry) (e : Entry) (base : ℕ) → AllByRecursion (IsEntryOf (length old)) es
    → es1 ≡ take base es → Extends old new → e.parts ≤ length new → es2 ≡ es1 ++ e ∷ [] → AllByRecursion (IsEntryOf (length new)) es2
within_made old new es es1 es2 e base within taken x parts added =
    let below = entries_more (length old) (length new) (take base es) x.grows (all_taken (IsEntryOf (length old)) base es within) in
    subst (AllByRecursion (IsEntryOf (length new))) (sym (added ∙ ap (λ l. l ++ e ∷ []) taken))
    (all_of_both (IsEntryOf (length new)) (take base es) (e ∷ []) below (parts, tt))

pub trees_made : (old new : List (Forest Form)) (tokens : List Lexeme) (es es1 es2 : List Entry) (f : Form) (base start parts : ℕ) (keep : Bool)
    → AllByRecursion (IsEntryOf (length old)) es
    → es1 ≡ take base es → Extends old new → Holds new parts (settled keep (planted_all (trees_of old tokens (drop base es))))
    → keep ≡ keeps_brackets f (planted_all (trees_of old tokens (drop base es)))
    → es2 ≡ es1 ++ record { form = f; first = start; is_leaf = false; parts = parts } ∷ []
    → trees_of new tokens es2 ≡ take base (trees_of old tokens es) ++ made_tree tokens f start (drop base (trees_of old tokens es)) ∷ []
trees_made old new tokens es es1 es2 f base start parts keep within taken x h keeps added =
    let e : Entry = record { form = f; first = start; is_leaf = false; parts = parts } in
    let kept : trees_of new tokens (take base es) ≡ take base (trees_of old tokens es) =
    trees_kept old new tokens (take base es) x (all_taken (IsEntryOf (length old)) base es within) ∙ sym (take-map (tree_of old tokens) base es) in
    let inner : planted_all (trees_of old tokens (drop base es)) ≡ planted_all (drop base (trees_of old tokens es)) = ap planted_all (sym (drop-map (tree_of old tokens) base es)) in
    let made : at new parts ≡ settled (keeps_brackets f (planted_all (drop base (trees_of old tokens es)))) (planted_all (drop base (trees_of old tokens es))) =
    h.is ∙ (ap (λ k. settled k (planted_all (trees_of old tokens (drop base es)))) keeps ∙ ap (λ p. settled (keeps_brackets f p) p) inner) in
    let one : tree_of new tokens e ≡ made_tree tokens f start (drop base (trees_of old tokens es)) =
    λ i. record { form = f; text = []; place = place_at tokens start; parts = made i } in
    ap (trees_of new tokens) (added ∙ ap (λ l. l ++ e ∷ []) taken)
    ∙ (map-append (tree_of new tokens) (take base es) (e ∷ []) ∙ (λ i. kept i ++ one i ∷ []))

-- a frame put on others
pub reverse_last : {A : Type 0} (xs : List A) (x : A) → reverse (xs ++ x ∷ []) ≡ x ∷ reverse xs
reverse_last xs x = reverse-append xs (x ∷ [])

-- a token with a text was taken
pub leaf_taken : (actions : List Action) (tokens : List Lexeme) (store : List (Forest Form)) (fs : List Frame) (os : List Open) (es es2 : List Entry) (f : Form) (n k s : ℕ)
    (so_far : Forest Form) → AreFrames fs os (trees_of store tokens es) so_far
    → es2 ≡ es ++ record { form = f; first = n; is_leaf = true; parts = 0 } ∷ [] → n ≡ k → leaf_form s ≡ Some f
    → AreFrames fs os (trees_of store tokens es2) (with_leaf actions tokens (leaf_form s) k so_far)
leaf_taken actions tokens store fs os es es2 f n k s so_far h added is leaf =
    let e : Entry = record { form = f; first = n; is_leaf = true; parts = 0 } in
    let trees : trees_of store tokens es ++ tree_of store tokens e ∷ [] ≡ trees_of store tokens es2 =
    sym (ap (trees_of store tokens) added ∙ map-append (tree_of store tokens) es (e ∷ [])) in
    let grown : planted (tree_of store tokens e) so_far ≡ with_leaf actions tokens (leaf_form s) k so_far =
    ap (λ j. with_leaf actions tokens (Some f) j so_far) is ∙ ap (λ o. with_leaf actions tokens o k so_far) (sym leaf) in
    subst (λ ts. AreFrames fs os ts (with_leaf actions tokens (leaf_form s) k so_far)) trees
    (subst (AreFrames fs os (trees_of store tokens es ++ tree_of store tokens e ∷ [])) grown (one_more_tree fs os (trees_of store tokens es) so_far (tree_of store tokens e) h))

-- the innermost open production
pub record HasInnermost (f : Frame) (fs : List Frame) (os : List Open) (trees : List Tree) (so_far : Forest Form) : Type 0 where
  pub open_one : Open
  pub others : List Open
  pub are : os ≡ open_one ∷ others
  pub frames : AreFrames (f ∷ fs) (open_one ∷ others) trees so_far

pub innermost : (f : Frame) (fs gs : List Frame) (os : List Open) (trees : List Tree) (so_far : Forest Form) → gs ≡ f ∷ fs → AreFrames gs os trees so_far
    → HasInnermost f fs os trees so_far
innermost f fs gs os trees so_far e h = go os (subst (λ x. AreFrames x os trees so_far) e h)
  where
    go : (os : List Open) → AreFrames (f ∷ fs) os trees so_far → HasInnermost f fs os trees so_far
    go [] k = absurd k
    go (o ∷ os) k = record { open_one = o; others = os; are = refl; frames = k }

pub none_open : (gs : List Frame) (os : List Open) (trees : List Tree) (so_far : Forest Form) → gs ≡ [] → AreFrames gs os trees so_far → os ≡ []
none_open gs os trees so_far e h = go os (subst (λ x. AreFrames x os trees so_far) e h)
  where
    go : (os : List Open) → AreFrames [] os trees so_far → os ≡ []
    go [] k = refl
    go (o ∷ os) k = absurd k

-- one part of it stands there
pub one_less : (f : Frame) (o : Open) (fs : List Frame) (os : List Open) (trees : List Tree) (so_far : Forest Form) (less : ℕ) → less ≡ f.left - 1
    → AreFrames (f ∷ fs) (o ∷ os) trees so_far → AreFrames (record f { left = less } ∷ fs) (record o { left = o.left - 1 } ∷ os) trees so_far
one_less f o fs os trees so_far less e h =
    (record { action = h.0.action; left = ap (λ n. n - 1) h.0.left ∙ sym e; start = h.0.start }, h.1)
