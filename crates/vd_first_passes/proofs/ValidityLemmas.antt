-- What is written for a valid 2019 tree is a valid 1993 tree.
use Rattle.std.proofs.Common.{◌≡◌, ◌<◌, ℕ, zero, suc, replicate, ◌+◌, inl, inr, Some, None, arith, length-append, Bool, true, false, cond, List, [], ◌∷◌, ◌++◌, length, refl, sym, ap, subst, ◌∙◌}
use Rattle.std.specs.Prelude.{◌&&◌, ◌||◌, not, is_none, ◌==◌, if◌then◌else◌}
use Rattle.std.specs.List.{list_any, list_all, position, position_or_len, prefix_len}
use Rattle.std.specs.Str.{bytes_eq}
use Rattle.std.specs.Cmp.Derive.{both_true}
use Rattle.vd_bytes.specs.declared.places.Place.{Place}
use Rattle.vd_forest.specs.Forest.{Forest, nothing, more, text_of, next_of, joined}
use Rattle.vd_forest.specs.Texts.{with_text}
use Rattle.vd_trees.specs.declared.revision.Revision.{Revision}
use Rattle.vd_trees.specs.declared.revision.Revision.TheVariants.{V2019, V1993}
use Rattle.vd_first_trees.specs.declared.form.Form.{Form}
use Rattle.vd_first_trees.specs.declared.form.Form.TheVariants as form
use Rattle.vd_first_trees.specs.Forms.{form_number, same_form}
use Rattle.vd_trees.specs.Words.{words_1993, words_added}
use Rattle.vd_trees.specs.Identifiers.{is_name, lowered as lowered_text, place_among}
use Rattle.std.proofs.lemmas.Bool.{eqb-true, cases_lt, lt-ltb, le-ltb}
use Rattle.vd_first_trees.specs.Validity.{Slot, one, many, some, expressions, slots_of, slots_left, has_text, is_valid}
use Rattle.vd_first_passes.specs.Lowering.{names_in, read_names, firsts, unless, is_among}

pub both : (a b : Bool) → (a && b) ≡ true → (a ≡ true) × (b ≡ true)
both true true h = (refl, refl)
both true false h = cc
both false b h = cc

all_true : (a b c d : Bool) → a ≡ true → b ≡ true → c ≡ true → d ≡ true → (a && (b && (c && d))) ≡ true
all_true true true true true h i j k = refl
all_true true true true false h i j k = k
all_true true true false d h i j k = j
all_true true false c d h i j k = i
all_true false b c d h i j k = h

-- a tree stands in the first of some slots, and others in those that are left
pub record Stands (r : Revision) (s : Slot) (slots : List Slot) (f : Form) (t : List ℕ) (parts next : Forest Form) : Type 0 where
  pub allowed : list_any (same_form f) s.forms ≡ true
  pub text : has_text r f t ≡ true
  pub inner : is_valid r (slots_of r f) parts ≡ true
  pub after : is_valid r (slots_left s slots) next ≡ true

pub stands : (r : Revision) (s : Slot) (slots : List Slot) (f : Form) (t : List ℕ) (p : Place) (parts next : Forest Form) → is_valid r (s ∷ slots) (more f t p parts next) ≡ true → Stands r s slots f t parts next
stands r s slots f t p parts next h =
    let a = both (list_any (same_form f) s.forms) (has_text r f t && (is_valid r (slots_of r f) parts && is_valid r (slots_left s slots) next)) h in
    let b = both (has_text r f t) (is_valid r (slots_of r f) parts && is_valid r (slots_left s slots) next) a.1 in
    let c = both (is_valid r (slots_of r f) parts) (is_valid r (slots_left s slots) next) b.1 in
    record { allowed = a.0; text = b.0; inner = c.0; after = c.1 }

pub valid : (r : Revision) (s : Slot) (slots : List Slot) (f : Form) (t : List ℕ) (p : Place) (parts next : Forest Form) → Stands r s slots f t parts next → is_valid r (s ∷ slots) (more f t p parts next) ≡ true
valid r s slots f t p parts next h =
    all_true (list_any (same_form f) s.forms) (has_text r f t) (is_valid r (slots_of r f) parts) (is_valid r (slots_left s slots) next) h.allowed h.text h.inner h.after

-- ---- lists of names

abbrev pub names : List Slot
names = many (form.Name ∷ []) ∷ []

abbrev pub some_names : List Slot
some_names = some (form.Name ∷ []) ∷ []

-- a list, and another behind it
pub many_joined : (r : Revision) (fs : List Form) (f g : Forest Form) → is_valid r (many fs ∷ []) f ≡ true → is_valid r (many fs ∷ []) g ≡ true → is_valid r (many fs ∷ []) (joined f g) ≡ true
many_joined r fs nothing g h i = i
many_joined r fs (more f t p parts next) g h i =
    let s = stands r (many fs) [] f t p parts next h in
    valid r (many fs) [] f t p parts (joined next g) (record { allowed = s.allowed; text = s.text; inner = s.inner; after = many_joined r fs next g s.after i })

pub some_joined : (r : Revision) (fs : List Form) (f g : Forest Form) → is_valid r (some fs ∷ []) f ≡ true → is_valid r (many fs ∷ []) g ≡ true → is_valid r (some fs ∷ []) (joined f g) ≡ true
some_joined r fs nothing g h i = cc
some_joined r fs (more f t p parts next) g h i =
    let s = stands r (some fs) [] f t p parts next h in
    valid r (some fs) [] f t p parts (joined next g) (record { allowed = s.allowed; text = s.text; inner = s.inner; after = many_joined r fs next g s.after i })

pub many_some : (r : Revision) (fs : List Form) (f : Forest Form) → is_valid r (some fs ∷ []) f ≡ true → is_valid r (many fs ∷ []) f ≡ true
many_some r fs nothing h = cc
many_some r fs (more f t p parts next) h = h

-- ---- forms that hold no process: all but DesignUnit, ArchitectureBody, StatementPart and ProcessStatement

abbrev pub is_plain : ℕ → Bool
is_plain n = not (n == 0) && (not (n == 14) && (not (n == 15) && not (n == 16)))

abbrev pub plain_form : Form → Bool
plain_form f = is_plain (form_number f)

abbrev pub plain_slots : List Slot → Bool
plain_slots slots = list_all (λ s. list_all plain_form s.forms) slots

plain_here : (f g : Form) (fs : List Form) (b : Bool) → same_form f g ≡ b → list_any (same_form f) (g ∷ fs) ≡ true → plain_form g ≡ true → (list_any (same_form f) fs ≡ true → plain_form f ≡ true) → plain_form f ≡ true
plain_here f g fs true e a h others = ap is_plain (eqb-true (form_number f) (form_number g) e) ∙ h
plain_here f g fs false e a h others = others (ap (λ b. b || list_any (same_form f) fs) (sym e) ∙ a)

pub plain_among : (f : Form) (fs : List Form) → list_any (same_form f) fs ≡ true → list_all plain_form fs ≡ true → plain_form f ≡ true
plain_among f [] a h = cc
plain_among f (g ∷ fs) a h =
    let hs = both (plain_form g) (list_all plain_form fs) h in
    plain_here f g fs (same_form f g) refl a hs.0 (λ x. plain_among f fs x hs.1)

-- ---- what has no process is as valid in the one revision as in the other

prefix_front : {X : Type 0} (q : X → Bool) (b : Bool) (x : X) (xs ys : List X) → q x ≡ b → (prefix_len q xs < length xs → prefix_len q (xs ++ ys) ≡ prefix_len q xs) → prefix_len q (x ∷ xs) < length (x ∷ xs) → prefix_len q (x ∷ (xs ++ ys)) ≡ prefix_len q (x ∷ xs)
prefix_front q true x xs ys e ih h =
    let f = ap (λ b. cond {A = ℕ} b (1 + prefix_len q xs) 0) e in
    let g : prefix_len q xs < length xs = omega (arith, f, h) in
    ap (λ b. cond {A = ℕ} b (1 + prefix_len q (xs ++ ys)) 0) e ∙ ap (λ n. 1 + n) (ih g) ∙ sym f
prefix_front q false x xs ys e ih h = ap (λ b. cond {A = ℕ} b (1 + prefix_len q (xs ++ ys)) 0) e ∙ sym (ap (λ b. cond {A = ℕ} b (1 + prefix_len q xs) 0) e)

prefix_len-front : {X : Type 0} (q : X → Bool) (xs ys : List X) → prefix_len q xs < length xs → prefix_len q (xs ++ ys) ≡ prefix_len q xs
prefix_len-front q [] ys h = absurd (omega arith)
prefix_len-front q (x ∷ xs) ys h = prefix_front q (q x) x xs ys refl (prefix_len-front q xs ys) h

none_front : {X : Type 0} (p : X → Bool) (xs ys : List X) → is_none (position p (xs ++ ys)) ≡ true → is_none (position p xs) ≡ true
none_front p xs ys h =
    elim (cases_lt (position_or_len p xs) (length xs)) [
      | inl lt ↦
          let e = prefix_len-front (λ x. not (p x)) xs ys lt in
          let more : position_or_len p (xs ++ ys) < length (xs ++ ys) = omega (arith, e, lt, length-append xs ys) in
          let some = ap (λ b. is_none (cond b (Some (position_or_len p (xs ++ ys))) None)) (lt-ltb (position_or_len p (xs ++ ys)) (length (xs ++ ys)) more) in
          cc
      | inr ge ↦ ap (λ b. is_none (cond b (Some (position_or_len p xs)) None)) (le-ltb (position_or_len p xs) (length xs) ge)
    ]

pub text_kept : (f : Form) (t : List ℕ) → has_text V2019 f t ≡ true → has_text V1993 f t ≡ true
text_kept form.Identifier t h =
    let a = both (is_name t) (bytes_eq (lowered_text t) t && is_none (place_among (words_1993 ++ words_added) t)) h in
    let b = both (bytes_eq (lowered_text t) t) (is_none (place_among (words_1993 ++ words_added) t)) a.1 in
    both_true a.0 (both_true b.0 (none_front (bytes_eq t) words_1993 words_added b.1))
text_kept _ t h = h

pub slots_plain : (f : Form) → plain_form f ≡ true → plain_slots (slots_of V2019 f) ≡ true
slots_plain form.DesignUnit h = cc
slots_plain form.ArchitectureBody h = cc
slots_plain form.StatementPart h = cc
slots_plain form.ProcessStatement h = cc
slots_plain _ h = refl

pub slots_same : (f : Form) → plain_form f ≡ true → slots_of V2019 f ≡ slots_of V1993 f
slots_same form.ProcessStatement h = cc
slots_same _ h = refl

pub left_plain : (b : Bool) (fs : List Form) (slots : List Slot) → list_all plain_form fs ≡ true → plain_slots slots ≡ true → plain_slots (if b then many fs ∷ slots else slots) ≡ true
left_plain true fs slots h i = both_true h i
left_plain false fs slots h i = i

pub kept : (slots : List Slot) (f : Forest Form) → plain_slots slots ≡ true → is_valid V2019 slots f ≡ true → is_valid V1993 slots f ≡ true
kept slots nothing q h = h
kept [] (more f t p parts next) q h = cc
kept (s ∷ slots) (more f t p parts next) q h =
    let st = stands V2019 s slots f t p parts next h in
    let qs = both (list_all plain_form s.forms) (plain_slots slots) q in
    let plain = plain_among f s.forms st.allowed qs.0 in
    let inner = kept (slots_of V2019 f) parts (slots_plain f plain) st.inner in
    valid V1993 s slots f t p parts next (record {
      allowed = st.allowed;
      text = text_kept f t st.text;
      inner = subst (λ ss. is_valid V1993 ss parts ≡ true) (slots_same f plain) inner;
      after = kept (slots_left s slots) next (left_plain s.repeats s.forms slots qs.0 qs.1) st.after;
    })

-- ---- the names of expressions

-- a name of an expression stands in a list of names
pub name_stands : (r : Revision) (s : Slot) (f : Form) (t : List ℕ) (p : Place) (parts rest : Forest Form) → list_any (same_form f) s.forms ≡ true → has_text r f t ≡ true → is_valid r (slots_of r f) parts ≡ true → is_valid r (slots_left s []) rest ≡ true → is_valid r (s ∷ []) (more f t p parts rest) ≡ true
name_stands r s f t p parts rest a b c d = valid r s [] f t p parts rest (record { allowed = a; text = b; inner = c; after = d })

-- the names of n expressions are names, and there is one where there is an expression
pub names_valid : (n : ℕ) (f : Forest Form) → is_valid V2019 (replicate n (one expressions)) f ≡ true → is_valid V2019 names (names_in f) ≡ true
names_valid n nothing h = refl
names_valid zero (more f t p parts next) h = cc
names_valid (suc n) (more form.Name t p parts next) h =
    let st = stands V2019 (one expressions) (replicate n (one expressions)) form.Name t p parts next h in
    name_stands V2019 (many (form.Name ∷ [])) form.Name t p parts (names_in next) refl st.text st.inner (names_valid n next st.after)
names_valid (suc n) (more form.Not t p parts next) h =
    let st = stands V2019 (one expressions) (replicate n (one expressions)) form.Not t p parts next h in
    many_joined V2019 (form.Name ∷ []) (names_in parts) (names_in next) (names_valid 1 parts st.inner) (names_valid n next st.after)
names_valid (suc n) (more form.And t p parts next) h =
    let st = stands V2019 (one expressions) (replicate n (one expressions)) form.And t p parts next h in
    many_joined V2019 (form.Name ∷ []) (names_in parts) (names_in next) (names_valid 2 parts st.inner) (names_valid n next st.after)
names_valid (suc n) (more _ t p parts next) h = cc

pub names_some : (n : ℕ) (f : Forest Form) → is_valid V2019 (replicate (suc n) (one expressions)) f ≡ true → is_valid V2019 some_names (names_in f) ≡ true
names_some n nothing h = cc
names_some n (more form.Name t p parts next) h =
    let st = stands V2019 (one expressions) (replicate n (one expressions)) form.Name t p parts next h in
    name_stands V2019 (some (form.Name ∷ [])) form.Name t p parts (names_in next) refl st.text st.inner (names_valid n next st.after)
names_some n (more form.Not t p parts next) h =
    let st = stands V2019 (one expressions) (replicate n (one expressions)) form.Not t p parts next h in
    some_joined V2019 (form.Name ∷ []) (names_in parts) (names_in next) (names_some 0 parts st.inner) (names_valid n next st.after)
names_some n (more form.And t p parts next) h =
    let st = stands V2019 (one expressions) (replicate n (one expressions)) form.And t p parts next h in
    some_joined V2019 (form.Name ∷ []) (names_in parts) (names_in next) (names_some 1 parts st.inner) (names_valid n next st.after)
names_some n (more _ t p parts next) h = cc

-- the value of an assignment
value_stands : (parts : Forest Form) → is_valid V2019 (slots_of V2019 form.SignalAssignment) parts ≡ true → is_valid V2019 (one expressions ∷ []) (next_of parts) ≡ true
value_stands nothing h = cc
value_stands (more f t p parts next) h = (stands V2019 (one (form.Name ∷ [])) (one expressions ∷ []) f t p parts next h).after

reads_many : (f : Forest Form) → is_valid V2019 (many (form.SignalAssignment ∷ []) ∷ []) f ≡ true → is_valid V2019 names (read_names f) ≡ true
reads_many nothing h = refl
reads_many (more form.SignalAssignment t p parts next) h =
    let st = stands V2019 (many (form.SignalAssignment ∷ [])) [] form.SignalAssignment t p parts next h in
    many_joined V2019 (form.Name ∷ []) (names_in (next_of parts)) (read_names next) (names_valid 1 (next_of parts) (value_stands parts st.inner)) (reads_many next st.after)
reads_many (more _ t p parts next) h = cc

pub reads_some : (f : Forest Form) → is_valid V2019 (some (form.SignalAssignment ∷ []) ∷ []) f ≡ true → is_valid V2019 some_names (read_names f) ≡ true
reads_some nothing h = cc
reads_some (more form.SignalAssignment t p parts next) h =
    let st = stands V2019 (some (form.SignalAssignment ∷ [])) [] form.SignalAssignment t p parts next h in
    some_joined V2019 (form.Name ∷ []) (names_in (next_of parts)) (read_names next) (names_some 0 (next_of parts) (value_stands parts st.inner)) (reads_many next st.after)
reads_some (more _ t p parts next) h = cc

-- each name once
unless_many : (v : Bool) (f : Form) (t : List ℕ) (p : Place) (parts rest : Forest Form) → list_any (same_form f) (form.Name ∷ []) ≡ true → has_text V2019 f t ≡ true → is_valid V2019 (slots_of V2019 f) parts ≡ true → is_valid V2019 names rest ≡ true → is_valid V2019 names (unless v f t p parts rest) ≡ true
unless_many true f t p parts rest a b c d = d
unless_many false f t p parts rest a b c d = name_stands V2019 (many (form.Name ∷ [])) f t p parts rest a b c d

firsts_many : (b : List (List ℕ)) (f : Forest Form) → is_valid V2019 names f ≡ true → is_valid V2019 names (firsts b f) ≡ true
firsts_many b nothing h = refl
firsts_many b (more f t p parts next) h =
    let st = stands V2019 (many (form.Name ∷ [])) [] f t p parts next h in
    unless_many (is_among b (text_of parts)) f t p parts (firsts (with_text b (text_of parts)) next) st.allowed st.text st.inner (firsts_many (with_text b (text_of parts)) next st.after)

pub read_set_some : (f : Forest Form) → is_valid V2019 some_names f ≡ true → is_valid V2019 some_names (firsts [] f) ≡ true
read_set_some nothing h = cc
read_set_some (more f t p parts next) h =
    let st = stands V2019 (some (form.Name ∷ [])) [] f t p parts next h in
    name_stands V2019 (some (form.Name ∷ [])) f t p parts (firsts (text_of parts ∷ []) next) st.allowed st.text st.inner (firsts_many (text_of parts ∷ []) next st.after)
