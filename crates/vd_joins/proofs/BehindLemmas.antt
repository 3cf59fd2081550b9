-- What stands behind names with dots between them. No name has a dash, so that a caller can name each in `#[tactic(auto, using(..))]`.
use Rattle.std.proofs.Common.{◌≡◌, ℕ, List, [], ◌∷◌, ◌++◌, Option, Some, None, Bool, true, false, length, refl, sym, ap, ◌∙◌, arith, append_assoc}
use Rattle.std.specs.Prelude.{◌==◌, ◌&&◌, bytes_eq, codes, option_and_then, if◌then◌else◌}
use Rattle.std.proofs.lemmas.List.{append-nil}
use Rattle.vd_trees.specs.declared.paths.Label.{Label}
use Rattle.vd_trees.specs.declared.paths.Level.{Level}
use Rattle.vd_trees.specs.Paths.{dotted}
use Rattle.vd_first_names.specs.Joins.{architecture_unit, label_names}
use Rattle.vd_joins.specs.Behind.{behind, behind_labels}

-- ---- the loop over bytes

pub name_ends : (left rest : List ℕ) (want : Option (List ℕ)) → length left ≡ 0 → behind left rest ≡ want → Some rest ≡ want
name_ends [] rest want none before = before
name_ends (c ∷ cs) rest want none before = absurd (omega (arith, none))

pub text_short : (left rest cs : List ℕ) (c : ℕ) (want : Option (List ℕ)) → left ≡ c ∷ cs → length rest ≡ 0 → behind left rest ≡ want → None ≡ want
text_short left [] cs c want is none before = ap (λ n. behind n []) (sym is) ∙ before
text_short left (b ∷ bs) cs c want is none before = absurd (omega (arith, none))

pub ruleset behind_bytes = (name_ends, text_short)

-- ---- one name behind another

pub behind_append : (one two text : List ℕ) → behind (one ++ two) text ≡ option_and_then (behind two) (behind one text)
behind_append [] two text = refl
behind_append (c ∷ cs) two [] = refl
behind_append (c ∷ cs) two (b ∷ bs) =
    elim (b == c) as (λ v. (if v then behind (cs ++ two) bs else None) ≡ option_and_then (behind two) (if v then behind cs bs else None))
    [ true ↦ behind_append cs two bs | false ↦ refl ]

pub dot_missing : (text name : List ℕ) → None ≡ behind (46 ∷ []) text → None ≡ behind (46 ∷ name) text
dot_missing text name e = ap (option_and_then (behind name)) e ∙ sym (behind_append (46 ∷ []) name text)

pub dot_passed : (text name rest : List ℕ) (r : Option (List ℕ)) → Some rest ≡ behind (46 ∷ []) text → r ≡ behind name rest → r ≡ behind (46 ∷ name) text
dot_passed text name rest r e is = is ∙ ap (option_and_then (behind name)) e ∙ sym (behind_append (46 ∷ []) name text)

pub ruleset behind_dot = (dot_missing, dot_passed)

-- ---- the loop over labels

pub labels_ended : (left : List Label) (rest : List ℕ) (want : Option (List ℕ)) → length left ≡ 0 → behind_labels left rest ≡ want → Some rest ≡ want
labels_ended [] rest want none before = before
labels_ended (l ∷ ls) rest want none before = absurd (omega (arith, none))

pub label_passed : (left ls : List Label) (l : Label) (rest first second : List ℕ) (want : Option (List ℕ)) → left ≡ l ∷ ls → Some first ≡ behind l.name rest → Some second ≡ behind (46 ∷ []) first
    → behind_labels left rest ≡ want → behind_labels ls second ≡ want
label_passed left ls l rest first second want is one two before =
    ap (option_and_then (behind_labels ls)) two
    ∙ ap (λ o. option_and_then (behind_labels ls) (option_and_then (behind (46 ∷ [])) o)) one ∙ ap (λ xs. behind_labels xs rest) (sym is) ∙ before

pub label_missing : (left ls : List Label) (l : Label) (rest : List ℕ) (want : Option (List ℕ)) → left ≡ l ∷ ls → None ≡ behind l.name rest → behind_labels left rest ≡ want → None ≡ want
label_missing left ls l rest want is one before =
    ap (λ o. option_and_then (behind_labels ls) (option_and_then (behind (46 ∷ [])) o)) one ∙ ap (λ xs. behind_labels xs rest) (sym is) ∙ before

pub label_ends : (left ls : List Label) (l : Label) (rest first : List ℕ) (want : Option (List ℕ)) → left ≡ l ∷ ls → Some first ≡ behind l.name rest → None ≡ behind (46 ∷ []) first
    → behind_labels left rest ≡ want → None ≡ want
label_ends left ls l rest first want is one two before =
    ap (option_and_then (behind_labels ls)) two
    ∙ ap (λ o. option_and_then (behind_labels ls) (option_and_then (behind (46 ∷ [])) o)) one ∙ ap (λ xs. behind_labels xs rest) (sym is) ∙ before

pub ruleset behind_each = (labels_ended, label_passed, label_missing, label_ends)

-- ---- labels with a dot behind each

abbrev pub trailing : List Label → List ℕ
trailing [] = []
trailing (l ∷ ls) = l.name ++ 46 ∷ trailing ls

and_then_same : (o : Option (List ℕ)) (f g : List ℕ → Option (List ℕ)) → ((x : List ℕ) → f x ≡ g x) → option_and_then f o ≡ option_and_then g o
and_then_same None f g same = refl
and_then_same (Some x) f g same = same x

dot_first : (ls : List Label) → ((x : List ℕ) → behind_labels ls x ≡ behind (trailing ls) x) → (o : Option (List ℕ))
    → option_and_then (behind_labels ls) (option_and_then (behind (46 ∷ [])) o) ≡ option_and_then (behind (46 ∷ trailing ls)) o
dot_first ls same None = refl
dot_first ls same (Some x) = and_then_same (behind (46 ∷ []) x) (behind_labels ls) (behind (trailing ls)) same ∙ sym (behind_append (46 ∷ []) (trailing ls) x)

pub behind_trailing : (ls : List Label) (text : List ℕ) → behind_labels ls text ≡ behind (trailing ls) text
behind_trailing [] text = refl
behind_trailing (l ∷ ls) text = dot_first ls (behind_trailing ls) (behind l.name text) ∙ sym (behind_append l.name (46 ∷ trailing ls) text)

-- ---- texts that are a name and what stands behind it

abbrev pub ends : Option (List ℕ) → List ℕ → Bool
ends None tail = false
ends (Some rest) tail = bytes_eq rest tail

pub eq_behind : (text name tail : List ℕ) → bytes_eq text (name ++ tail) ≡ ends (behind name text) tail
eq_behind text [] tail = refl
eq_behind [] (c ∷ cs) tail = refl
eq_behind (b ∷ bs) (c ∷ cs) tail =
    elim (b == c) as (λ v. (v && bytes_eq bs (cs ++ tail)) ≡ ends (if v then behind cs bs else None) tail)
    [ true ↦ eq_behind bs cs tail | false ↦ refl ]

pub is_behind : (text name tail rest : List ℕ) → Some rest ≡ behind name text → bytes_eq rest tail ≡ bytes_eq text (name ++ tail)
is_behind text name tail rest e = ap (λ o. ends o tail) e ∙ sym (eq_behind text name tail)

pub isnt_behind : (text name tail : List ℕ) → None ≡ behind name text → false ≡ bytes_eq text (name ++ tail)
isnt_behind text name tail e = ap (λ o. ends o tail) e ∙ sym (eq_behind text name tail)

-- ---- labels with dots between them

pub dotted_object : (ls : List Label) (o : List ℕ) → dotted (label_names ls ++ o ∷ []) ≡ trailing ls ++ o
dotted_object [] o = refl
dotted_object (l ∷ []) o = sym (append_assoc l.name (46 ∷ []) o)
dotted_object (l ∷ m ∷ ms) o = ap (λ t. l.name ++ 46 ∷ t) (dotted_object (m ∷ ms) o) ∙ sym (append_assoc l.name (46 ∷ trailing (m ∷ ms)) o)

names_last : (ls : List Label) (last : Label) → label_names (ls ++ last ∷ []) ≡ label_names ls ++ last.name ∷ []
names_last [] last = refl
names_last (l ∷ ls) last = ap (λ ns. l.name ∷ ns) (names_last ls last)

dotted_last : (ls : List Label) (last : Label) (labels : List Label) → labels ≡ ls ++ last ∷ [] → dotted (label_names labels) ≡ trailing ls ++ last.name
dotted_last ls last labels is = ap (λ xs. dotted (label_names xs)) is ∙ ap dotted (names_last ls last) ∙ dotted_object ls last.name

pub labels_end : (text rest : List ℕ) (ls : List Label) (last : Label) (labels : List Label) → labels ≡ ls ++ last ∷ [] → Some rest ≡ behind_labels ls text
    → bytes_eq rest last.name ≡ bytes_eq text (dotted (label_names labels))
labels_end text rest ls last labels is e =
    is_behind text (trailing ls) last.name rest (e ∙ behind_trailing ls text) ∙ ap (bytes_eq text) (sym (dotted_last ls last labels is))

pub labels_dont : (text : List ℕ) (ls : List Label) (last : Label) (labels : List Label) → labels ≡ ls ++ last ∷ [] → None ≡ behind_labels ls text
    → false ≡ bytes_eq text (dotted (label_names labels))
labels_dont text ls last labels is e =
    isnt_behind text (trailing ls) last.name (e ∙ behind_trailing ls text) ∙ ap (bytes_eq text) (sym (dotted_last ls last labels is))

pub no_labels : (text : List ℕ) (labels : List Label) → length labels ≡ 0 → bytes_eq text [] ≡ bytes_eq text (dotted (label_names labels))
no_labels text [] none = refl
no_labels text (l ∷ ls) none = absurd (omega (arith, none))

pub ruleset dotted_labels = (labels_end, labels_dont, no_labels)

-- ---- the unit of an architecture

pub unit_is : (text opened inside rest : List ℕ) (level : Level) → Some opened ≡ behind level.entity text → Some inside ≡ behind (40 ∷ []) opened → Some rest ≡ behind level.architecture inside
    → bytes_eq rest (41 ∷ []) ≡ bytes_eq text (architecture_unit level)
unit_is text opened inside rest level one two three =
    is_behind inside level.architecture (41 ∷ []) rest three
    ∙ is_behind opened (40 ∷ []) (level.architecture ++ 41 ∷ []) inside two
    ∙ is_behind text level.entity (40 ∷ level.architecture ++ 41 ∷ []) opened one

pub entity_isnt : (text : List ℕ) (level : Level) → None ≡ behind level.entity text → false ≡ bytes_eq text (architecture_unit level)
entity_isnt text level one = isnt_behind text level.entity (40 ∷ level.architecture ++ 41 ∷ []) one

pub bracket_isnt : (text opened : List ℕ) (level : Level) → Some opened ≡ behind level.entity text → None ≡ behind (40 ∷ []) opened → false ≡ bytes_eq text (architecture_unit level)
bracket_isnt text opened level one two =
    isnt_behind opened (40 ∷ []) (level.architecture ++ 41 ∷ []) two ∙ is_behind text level.entity (40 ∷ level.architecture ++ 41 ∷ []) opened one

pub architecture_isnt : (text opened inside : List ℕ) (level : Level) → Some opened ≡ behind level.entity text → Some inside ≡ behind (40 ∷ []) opened → None ≡ behind level.architecture inside
    → false ≡ bytes_eq text (architecture_unit level)
architecture_isnt text opened inside level one two three =
    isnt_behind inside level.architecture (41 ∷ []) three
    ∙ is_behind opened (40 ∷ []) (level.architecture ++ 41 ∷ []) inside two
    ∙ is_behind text level.entity (40 ∷ level.architecture ++ 41 ∷ []) opened one

pub ruleset unit_named = (unit_is, entity_isnt, bracket_isnt, architecture_isnt)
