-- What a text declares, found step by step. No name has a dash, so that a caller can name each in `#[tactic(auto, using(..))]`.
use Rattle.std.proofs.Common.{◌≡◌, ◌<◌, ℕ, ◌+◌, ◌*◌, List, [], ◌∷◌, ◌++◌, Option, refl, sym, ap, ◌∙◌, arith, append_assoc}
use Rattle.std.specs.Prelude.{Some, option_to_list}
use Rattle.std.proofs.lemmas.List.{append-nil}
use Rattle.vd_bytes.specs.declared.places.Place.{Place}
use Rattle.vd_forest.specs.Forest.{Forest, more, nothing, size}
use Rattle.vd_resolved.specs.declared.node.Resolved.{Resolved}
use Rattle.vd_notes.specs.declared.entries.Entry.{Entry}
use Rattle.vd_notes.specs.declared.entries.Left.{Left}
use Rattle.vd_notes.specs.Entries.{all_of, entries, home_in, mark_in, named, one_of, own_entries}
use Rattle.vd_notes.specs.Lefts.{all_left, work}
use Rattle.vd_notes.specs.Rows.{row_of}

-- ---- the names of a list

pub added_first : (found want : List Entry) (home mark : Option ℕ) (trees rest : Forest Resolved) → rest ≡ trees → found ++ all_of home mark trees ≡ want → found ++ all_of home mark rest ≡ want
added_first found want home mark trees rest is before = ap (λ f. found ++ all_of home mark f) is ∙ before

pub added_one : (found added want : List Entry) (home mark : Option ℕ) (rest parts next : Forest Resolved) (n : Resolved) (text : List ℕ) (place : Place)
    → rest ≡ more n text place parts next → added ≡ found ++ one_of home mark n.declaration
    → found ++ all_of home mark rest ≡ want → added ++ all_of home mark next ≡ want
added_one found added want home mark rest parts next n text place opened is before =
    ap (λ es. es ++ all_of home mark next) is ∙ append_assoc found (one_of home mark n.declaration) (all_of home mark next)
    ∙ ap (λ f. found ++ all_of home mark f) (sym opened) ∙ before

pub added_all : (found want : List Entry) (home mark : Option ℕ) (rest : Forest Resolved) → rest ≡ nothing → found ++ all_of home mark rest ≡ want → found ≡ want
added_all found want home mark rest is before = sym (append-nil found) ∙ ap (λ f. found ++ all_of home mark f) (sym is) ∙ before

pub next_smaller : (rest parts next : Forest Resolved) (n : Resolved) (text : List ℕ) (place : Place) → rest ≡ more n text place parts next → size next < size rest
next_smaller rest parts next n text place opened = let s = ap size opened in omega (arith, s)

pub ruleset adding = (added_first, added_one, added_all, next_smaller)

-- ---- what waits

left_last : (ls : List Left) (l : Left) → all_left (ls ++ l ∷ []) ≡ entries l.home l.trees ++ all_left ls
left_last [] l = sym (append-nil (entries l.home l.trees))
left_last (k ∷ ks) l = ap (λ es. es ++ entries k.home k.trees) (left_last ks l) ∙ append_assoc (entries l.home l.trees) (all_left ks) (entries k.home k.trees)

work_last : (ls : List Left) (l : Left) → work (ls ++ l ∷ []) ≡ work ls + (2 * size l.trees + 1)
work_last [] l = refl
work_last (k ∷ ks) l = let e = work_last ks l in omega (arith, e)

-- ---- a first tree is opened

pub opened_found : (f parts next : Forest Resolved) (n : Resolved) (text : List ℕ) (place : Place) (home here mark : Option ℕ) (old between new : List Left) (found added : List Entry)
    → f ≡ more n text place parts next → here ≡ home_in (row_of n.form) home n parts → mark ≡ mark_in (row_of n.form).mark parts
    → added ≡ found ++ named (row_of n.form).names here mark n parts
    → between ≡ old ++ record { trees = next; home = home } ∷ [] → new ≡ between ++ record { trees = parts; home = here } ∷ []
    → added ++ all_left new ≡ found ++ (entries home f ++ all_left old)
opened_found f parts next n text place home here mark old between new found added opened here_is mark_is is first second =
    let whole = home_in (row_of n.form) home n parts in
    let own = own_entries (row_of n.form) whole n parts in
    let inner = entries whole parts in
    let behind = entries home next in
    let waits : all_left new ≡ inner ++ (behind ++ all_left old) =
    ap all_left second ∙ left_last between (record { trees = parts; home = here })
    ∙ (λ i. entries (here_is i) parts ++ (ap all_left first ∙ left_last old (record { trees = next; home = home })) i) in
    let made : added ≡ found ++ own = is ∙ (λ i. found ++ named (row_of n.form).names (here_is i) (mark_is i) n parts) in
    (λ i. made i ++ waits i)
    ∙ append_assoc found own (inner ++ (behind ++ all_left old))
    ∙ ap (λ es. found ++ (own ++ es)) (sym (append_assoc inner behind (all_left old)))
    ∙ ap (λ es. found ++ es) (sym (append_assoc own (inner ++ behind) (all_left old)))
    ∙ ap (λ g. found ++ (entries home g ++ all_left old)) (sym opened)

pub opened_fewer : (f parts next : Forest Resolved) (n : Resolved) (text : List ℕ) (place : Place) (home here : Option ℕ) (old between new : List Left)
    → f ≡ more n text place parts next
    → between ≡ old ++ record { trees = next; home = home } ∷ [] → new ≡ between ++ record { trees = parts; home = here } ∷ []
    → work new < work old + (2 * size f + 1)
opened_fewer f parts next n text place home here old between new opened first second =
    let a = ap work second ∙ work_last between (record { trees = parts; home = here }) in
    let b = ap work first ∙ work_last old (record { trees = next; home = home }) in
    let s = ap size opened in
    omega (arith, a, b, s)

pub opened_nothing : (f : Forest Resolved) (home : Option ℕ) (old : List Left) (found : List Entry) → f ≡ nothing
    → found ++ all_left old ≡ found ++ (entries home f ++ all_left old)
opened_nothing f home old found is = ap (λ g. found ++ (entries home g ++ all_left old)) (sym is)

pub ruleset opening = (opened_found, opened_fewer, opened_nothing)

-- ---- the loop

pub walked_first : (left : List Left) (home : Option ℕ) (f text : Forest Resolved) → left ≡ [] ++ record { trees = f; home = home } ∷ [] → f ≡ text
    → [] ++ all_left left ≡ entries home text
walked_first left home f text pushed is = ap all_left pushed ∙ ap (entries home) is

pub walked_more : (left rest new : List Left) (found added want : List Entry) (l : Left) → left ≡ rest ++ option_to_list (Some l)
    → added ++ all_left new ≡ found ++ (entries l.home l.trees ++ all_left rest) → found ++ all_left left ≡ want → added ++ all_left new ≡ want
walked_more left rest new found added want l popped opened before =
    opened ∙ ap (λ es. found ++ es) (sym (left_last rest l) ∙ ap all_left (sym popped)) ∙ before

pub walked_fewer : (left rest new : List Left) (l : Left) → left ≡ rest ++ option_to_list (Some l) → work new < work rest + (2 * size l.trees + 1) → work new < work left
walked_fewer left rest new l popped fewer = let a = ap work popped ∙ work_last rest l in omega (arith, a)

pub walked_all : (left : List Left) (found want : List Entry) → left ≡ [] → found ++ all_left left ≡ want → found ≡ want
walked_all left found want none before = sym (append-nil found) ∙ ap (λ ls. found ++ all_left ls) (sym none) ∙ before

pub ruleset walking = (walked_first, walked_more, walked_fewer, walked_all)
