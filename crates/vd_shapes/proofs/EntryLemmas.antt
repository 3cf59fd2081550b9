-- Entries and their trees.
use Rattle.std.proofs.Common.{◌≡◌, ℕ, zero, suc, ◌+◌, ◌<◌, ◌≤◌, Bool, true, false, not, ◌&&◌, List, [], ◌∷◌, ◌++◌, length, take, drop, get_or, refl, sym, ap, subst, ◌∙◌, arith, append_assoc, length-append, length-drop}
use Rattle.std.specs.List.{AllByRecursion}
use Rattle.std.proofs.lemmas.List.{drop_more, drop_all, take-append-drop}
use Rattle.std.proofs.Math.Seq.{take-append_seam, drop-append_seam}
use Rattle.vd_bytes.specs.declared.places.Place.{Place}
use Rattle.vd_tokens.specs.Lexemes.{Lexeme}
use Rattle.vd_forest.specs.Forest.{Forest, nothing, more, with_next}
use Rattle.vd_forest.specs.Store.{at, Holds, Extends}
use Rattle.vd_forest.proofs.StoreLemmas.{extends_trans}
use Rattle.vd_forms.specs.declared.form.Form.{Form}
use Rattle.vd_forms.specs.Forms.{is_among, expressions}
use Rattle.vd_forms.specs.Validity.{is_bracketed, is_one_expression}
use Rattle.vd_shapes.specs.declared.entries.Entry.{Entry}
use Rattle.vd_shapes.specs.Shapes.{place_at, without_brackets, settled}
use Rattle.vd_shapes.specs.Standing.{Tree, planted, planted_all, tree_of, trees_of, IsEntryOf}

-- ---- one entry

pub relinked_without : (b : Bool) (s : List (Forest Form)) (n : ℕ) (f : Form) (t : List ℕ) (p : Place) (ps next : Forest Form) → b ≡ true
    → Holds s n (with_next ps next) → Holds s n (without_brackets b f t p ps next)
relinked_without b s n f t p ps next e h = subst (λ c. Holds s n (without_brackets c f t p ps next)) (sym e) h

pub added_with : (b : Bool) (s : List (Forest Form)) (n : ℕ) (f : Form) (t : List ℕ) (p : Place) (ps next : Forest Form) → b ≡ false
    → Holds s n (more f t p ps next) → Holds s n (without_brackets b f t p ps next)
added_with b s n f t p ps next e h = subst (λ c. Holds s n (without_brackets c f t p ps next)) (sym e) h

pub ruleset planting = (relinked_without, added_with)

-- a tree in front of settled ones
pub settled_first : (keep : Bool) (t : Tree) (next : Forest Form)
    → settled keep (planted t next) ≡ without_brackets (not keep && is_bracketed t.form t.parts) t.form t.text t.place t.parts (settled keep next)
settled_first true t next = refl
settled_first false t next = refl

pub settled_nothing : (keep : Bool) → settled keep nothing ≡ nothing
settled_nothing true = refl
settled_nothing false = refl

-- ---- parts that stand in a store

module _ {A : Type 0} (P : A → Type 0) where
  pub all_in_front : (xs ys : List A) → AllByRecursion P (xs ++ ys) → AllByRecursion P xs
  all_in_front [] ys h = tt
  all_in_front (x ∷ xs) ys h = (h.0, all_in_front xs ys h.1)

  pub all_behind : (xs ys : List A) → AllByRecursion P (xs ++ ys) → AllByRecursion P ys
  all_behind [] ys h = h
  all_behind (x ∷ xs) ys h = all_behind xs ys h.1

  pub all_of_both : (xs ys : List A) → AllByRecursion P xs → AllByRecursion P ys → AllByRecursion P (xs ++ ys)
  all_of_both [] ys h k = k
  all_of_both (x ∷ xs) ys h k = (h.0, all_of_both xs ys h.1 k)

  pub all_at : (xs : List A) (i : ℕ) (x : A) → i < length xs → AllByRecursion P xs → P (get_or xs i x)
  all_at [] i x within h = absurd (omega (arith, within))
  all_at (y ∷ ys) zero x within h = h.0
  all_at (y ∷ ys) (suc i) x within h = all_at ys i x (omega (arith, within)) h.1

  pub all_taken : (n : ℕ) (xs : List A) → AllByRecursion P xs → AllByRecursion P (take n xs)
  all_taken zero xs h = tt
  all_taken (suc n) [] h = tt
  all_taken (suc n) (x ∷ xs) h = (h.0, all_taken n xs h.1)

pub entries_more : (n m : ℕ) (es : List Entry) → n ≤ m → AllByRecursion (IsEntryOf n) es → AllByRecursion (IsEntryOf m) es
entries_more n m [] le h = tt
entries_more n m (e ∷ es) le h = (omega (arith, le, h.0), entries_more n m es le h.1)

-- a store that grows keeps the trees of entries
pub trees_kept : (old new : List (Forest Form)) (tokens : List Lexeme) (es : List Entry) → Extends old new
    → AllByRecursion (IsEntryOf (length old)) es → trees_of new tokens es ≡ trees_of old tokens es
trees_kept old new tokens [] x h = refl
trees_kept old new tokens (e ∷ es) x h = λ i.
    record { form = e.form; text = (tree_of old tokens e).text; place = place_at tokens e.first; parts = x.keeps e.parts h.0 i } ∷ trees_kept old new tokens es x h.1 i

-- ---- entries taken off

whole : (es rest : List Entry) (e : Entry) (k : ℕ) → take k es ≡ rest ++ e ∷ [] → es ≡ rest ++ (e ∷ drop k es)
whole es rest e k split = sym (take-append-drop k es) ∙ (ap (λ l. l ++ drop k es) split ∙ append_assoc rest (e ∷ []) (drop k es))

last_dropped : (es rest : List Entry) (e : Entry) (k : ℕ) → take k es ≡ rest ++ e ∷ [] → drop (length rest) es ≡ e ∷ drop k es
last_dropped es rest e k split = ap (drop (length rest)) (whole es rest e k split) ∙ drop-append_seam rest (e ∷ drop k es)

last_kept : (es rest : List Entry) (e : Entry) (k : ℕ) → take k es ≡ rest ++ e ∷ [] → rest ≡ take (length rest) es
last_kept es rest e k split = sym (ap (take (length rest)) (whole es rest e k split) ∙ take-append_seam rest (e ∷ drop k es))

last_within : (n : ℕ) (es rest : List Entry) (e : Entry) (k : ℕ) → take k es ≡ rest ++ e ∷ [] → AllByRecursion (IsEntryOf n) es → e.parts ≤ n
last_within n es rest e k split h = (all_behind (IsEntryOf n) rest (e ∷ drop k es) (subst (AllByRecursion (IsEntryOf n)) (whole es rest e k split) h)).0

-- one entry more is taken off and planted
pub record IsPlanted (start new : List (Forest Form)) (tokens : List Lexeme) (keep : Bool) (es rest : List Entry) (made : ℕ) : Type 0 where
  pub long : length rest ≤ length es
  pub kept : rest ≡ take (length rest) es
  pub extends : Extends start new
  pub holds : Holds new made (settled keep (planted_all (trees_of start tokens (drop (length rest) es))))

pub one_planted : (start mid new : List (Forest Form)) (tokens : List Lexeme) (keep : Bool) (es now rest : List Entry) (e : Entry) (made made' : ℕ)
    → AllByRecursion (IsEntryOf (length start)) es → length now ≤ length es → now ≡ take (length now) es → now ≡ rest ++ e ∷ []
    → Extends start mid → Holds mid made (settled keep (planted_all (trees_of start tokens (drop (length now) es))))
    → Extends mid new
    → Holds new made' (without_brackets (not keep && is_bracketed e.form (at mid e.parts)) e.form (tree_of mid tokens e).text (place_at tokens e.first) (at mid e.parts) (at mid made))
    → IsPlanted start new tokens keep es rest made'
one_planted start mid new tokens keep es now rest e made made' within long is split x h y planted_there =
    let cut : take (length now) es ≡ rest ++ e ∷ [] = sym is ∙ split in
    let more_one : length now ≡ length rest + 1 = ap length split ∙ length-append rest (e ∷ []) in
    let parts_same = x.keeps e.parts (last_within (length start) es rest e (length now) cut within) in
    let tree_is : without_brackets (not keep && is_bracketed e.form (at mid e.parts)) e.form (tree_of mid tokens e).text (place_at tokens e.first) (at mid e.parts) (at mid made)
    ≡ settled keep (planted_all (trees_of start tokens (drop (length rest) es))) =
    (λ i. without_brackets (not keep && is_bracketed e.form (parts_same i)) e.form (tree_of start tokens e).text (place_at tokens e.first) (parts_same i) (h.is i))
    ∙ (sym (settled_first keep (tree_of start tokens e) (planted_all (trees_of start tokens (drop (length now) es))))
    ∙ ap (λ l. settled keep (planted_all (trees_of start tokens l))) (sym (last_dropped es rest e (length now) cut))) in
    record {
      long = omega (arith, long, more_one);
      kept = last_kept es rest e (length now) cut;
      extends = extends_trans start mid new x y;
      holds = subst (Holds new made') tree_is planted_there;
    }

-- nothing was taken off yet
pub none_planted : (start : List (Forest Form)) (tokens : List Lexeme) (keep : Bool) (es : List Entry) (k : ℕ) → k ≡ length es
    → Holds start 0 (settled keep (planted_all (trees_of start tokens (drop k es))))
none_planted start tokens keep es k e =
    let none : drop k es ≡ [] = ap (λ n. drop n es) e ∙ drop_all (length es) es (omega arith) in
    record {
      within = omega arith;
      is = sym (ap (λ l. settled keep (planted_all (trees_of start tokens l))) none ∙ settled_nothing keep);
    }

pub ruleset gathering = (none_planted)

-- ---- one entry alone

pub one_alone : (store : List (Forest Form)) (tokens : List Lexeme) (es : List Entry) (base : ℕ) (e : Entry) → length es ≡ base + 1 → e ≡ get_or es base e
    → is_one_expression (planted_all (trees_of store tokens (drop base es))) ≡ is_among expressions e.form
one_alone store tokens es base e long is =
    let cut : drop base es ≡ e ∷ drop (base + 1) es = drop_more es base e (omega (arith, long)) ∙ ap (λ x. x ∷ drop (base + 1) es) (sym is) in
    let none : drop (base + 1) es ≡ [] = drop_all (base + 1) es (omega (arith, long)) in
    ap (λ l. is_one_expression (planted_all (trees_of store tokens l))) (cut ∙ ap (λ r. e ∷ r) none)

none_alone : (store : List (Forest Form)) (tokens : List Lexeme) (ds : List Entry) → (length ds ≡ 1 → ⊥)
    → is_one_expression (planted_all (trees_of store tokens ds)) ≡ false
none_alone store tokens [] other = refl
none_alone store tokens (d ∷ []) other = absurd (other (omega arith))
none_alone store tokens (d ∷ e ∷ ds) other = refl

pub others_not_alone : (store : List (Forest Form)) (tokens : List Lexeme) (es : List Entry) (base : ℕ) → base ≤ length es → (length es ≡ base + 1 → ⊥)
    → is_one_expression (planted_all (trees_of store tokens (drop base es))) ≡ false
others_not_alone store tokens es base within other =
    none_alone store tokens (drop base es) (λ one. other (omega (arith, one, length-drop base es, within)))
