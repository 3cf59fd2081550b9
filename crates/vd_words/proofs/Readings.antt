-- The matches of `clap` tell what the words say, and it fails exactly where they say nothing.
use Rattle.std.proofs.Common.{◌≡◌, ◌≢◌, ◌⊎◌, inl, inr, ℕ, Bool, true, false, not, ◌&&◌, ◌||◌, ◌==◌, List, [], ◌∷◌, ◌++◌, Option, Some, None, option_map, fold, refl, sym, ap, ◌∙◌, subst, bytes_eq, append_assoc}
use Rattle.std.proofs.lemmas.List.{append-nil}
use Rattle.std.proofs.lemmas.Slice.Eq.{bytes_eq-Decides}
use Rattle.std.specs.List.{list_any}
use Rattle.clap.specs.Kinds.{Kinds, or_else}
use Rattle.clap.specs.Walk.{Row, Waiting, Walk, Text, settled, settled_rows, walked}
use Rattle.clap.specs.Faults.{settle_fault, turn_fault, walk_fault}
use Rattle.vd_words.specs.Words.{Said, said_after, begins_with_dash, is_option_name, is_equals, cut, only_files, with_option, with_file, values_of, option_said, if_option, word_said, option_given, value_said}
use Rattle.vd_words.specs.Given.{file_id, values_in, is_short, wants_next, is_dash, dash_first, is_plain_line}
use Rattle.vd_words.proofs.Rows.{add, same_text, added_same, added_other}
use Rattle.vd_words.proofs.Walks.{rules, shape, IsKnown, IsUnknown, known_or_not, IsFileWord, IsLongWord, Form, form_of}
use Rattle.vd_words.proofs.Steps.{Pending, held, at, turn, after, Clean, settles, settled_are, unsettled, trailing_turn, trailing_after, escape_turn, escape_after, IsFree, file_turn, file_after, unknown_turn, apart_turn, apart_after, joined_turn, joined_after, value_turn, value_after}

abbrev pub end : Walk → List Text → Walk
end w words = fold (walked rules []) w words

-- what a walk over the words fails by
abbrev pub faults : Walk → List Text → Kinds
faults w words = or_else (walk_fault shape [] w words) (settle_fault rules false (end w words).held)

-- the rows came to hold what was said, behind what they held before
pub record Gets (before : List Row) (said : Said) (rows : List Row) : Type 0 where
  pub options : (name : Text) → bytes_eq file_id name ≡ false → values_in name rows ≡ values_in name before ++ values_of name said
  pub files : values_in file_id rows ≡ values_in file_id before ++ said.files

abbrev pub Follows : Option Said → List Row → Walk → List Text → Type 0
Follows None before w words = faults w words ≡ [] → ⊥
Follows (Some said) before w words = (faults w words ≡ []) × Gets before said (settled rules (end w words).held).rows

-- ---- steps

or_else_assoc : (a b c : Kinds) → or_else (or_else a b) c ≡ or_else a (or_else b c)
or_else_assoc [] b c = refl
or_else_assoc (k ∷ ks) b c = refl

first_none : (a b : Kinds) → or_else a b ≡ [] → a ≡ []
first_none [] b h = refl
first_none (k ∷ ks) b h = h

faults_step : (w : Walk) (word : Text) (words : List Text) → faults w (word ∷ words) ≡ or_else (turn w word) (faults (after w word) words)
unfolding walk_fault
faults_step w word words = or_else_assoc (turn w word) (walk_fault shape [] (after w word) words) (settle_fault rules false (end (after w word) words).held)

goes_on : (o : Option Said) (before : List Row) (w v : Walk) (word : Text) (words : List Text) → turn w word ≡ [] → after w word ≡ v → Follows o before v words → Follows o before w (word ∷ words)
goes_on None before w v word words passes is h = λ all.
    h (subst (λ x. faults x words ≡ []) is (subst (λ t. or_else t (faults (after w word) words) ≡ []) passes (sym (faults_step w word words) ∙ all)))
goes_on (Some said) before w v word words passes is h = (
  faults_step w word words ∙ ap (λ t. or_else t (faults (after w word) words)) passes ∙ ap (λ x. faults x words) is ∙ h.0,
  subst (λ x. Gets before said (settled rules (end x words).held).rows) (sym is) h.1,
)

stops : (before : List Row) (w : Walk) (word : Text) (words : List Text) → (turn w word ≡ [] → ⊥) → Follows None before w (word ∷ words)
stops before w word words bad all = bad (first_none (turn w word) (faults (after w word) words) (sym (faults_step w word words) ∙ all))

-- an option with its value was met
met_option : (name value : Text) → IsKnown name → (o : Option Said) (before : List Row) (w : Walk) (words : List Text) → Follows o (add name value before) w words → Follows (option_map (with_option name value) o) before w words
met_option name value k None before w words h = h
met_option name value k (Some said) before w words h = (
  h.0,
  record {
    options = λ other apart. h.1.options other apart ∙ by_test other (bytes_eq name other) refl;
    files = h.1.files ∙ ap (λ x. x ++ said.files) (added_other name file_id value before k.other);
  },
)
  where
    by_test : (other : Text) (b : Bool) → bytes_eq name other ≡ b → values_in other (add name value before) ++ values_of other said ≡ values_in other before ++ values_of other (with_option name value said)
    by_test other true e =
        let is : name ≡ other = (bytes_eq-Decides name other).0 e in
        let more : values_in other (add name value before) ≡ values_in other before ++ value ∷ [] = subst (λ n. values_in n (add name value before) ≡ values_in n before ++ value ∷ []) is (added_same name value before) in
        rw e (ap (λ x. x ++ values_of other said) more ∙ append_assoc (values_in other before) (value ∷ []) (values_of other said))
    by_test other false e = rw e (ap (λ x. x ++ values_of other said) (added_other name other value before e))

-- a FILE was met
met_file : (value : Text) (o : Option Said) (before : List Row) (w : Walk) (words : List Text) → Follows o (add file_id value before) w words → Follows (option_map (with_file value) o) before w words
met_file value None before w words h = h
met_file value (Some said) before w words h = (
  h.0,
  record {
    options = λ other apart. h.1.options other apart ∙ ap (λ x. x ++ values_of other said) (added_other file_id other value before apart);
    files = h.1.files ∙ ap (λ x. x ++ said.files) (added_same file_id value before) ∙ append_assoc (values_in file_id before) (value ∷ []) said.files;
  },
)

-- ---- behind `--`

gets_nothing : (before rows : List Row) → rows ≡ before → Gets before (only_files []) rows
gets_nothing before rows is = record {
  options = λ name apart. ap (values_in name) is ∙ sym (append-nil (values_in name before));
  files = ap (values_in file_id) is ∙ sym (append-nil (values_in file_id before));
}

ends_clean : (rows before : List Row) (p : Pending) (waiting : Waiting) (trailing : Bool) → Clean rows p before → Follows (Some (only_files [])) before (at rows p waiting trailing) []
unfolding walk_fault
ends_clean rows before p waiting trailing c = (settles rows before p c, gets_nothing before (settled_rows rules p rows) (settled_are rows before p c))

files_follow : (words : List Text) (rows before : List Row) (p : Pending) (waiting : Waiting) → Clean rows p before → Follows (Some (only_files words)) before (at rows p waiting true) words
files_follow [] rows before p waiting c = ends_clean rows before p waiting true c
files_follow (word ∷ words) rows before p waiting c =
    goes_on (Some (only_files (word ∷ words))) before (at rows p waiting true) (at before (Some (file_id, word ∷ [])) Waiting.positional true) word words
    (trailing_turn rows p waiting word ∙ settles rows before p c)
    (trailing_after rows p waiting word ∙ ap (λ r. at r (Some (file_id, word ∷ [])) Waiting.positional true) (settled_are rows before p c))
    (met_file word (Some (only_files words)) before (at before (Some (file_id, word ∷ [])) Waiting.positional true) words
    (files_follow words before (add file_id word before) (Some (file_id, word ∷ [])) Waiting.positional (Clean.one_file before word)))

-- an option that still waits
waits_on : (words : List Text) (rows before : List Row) (name : Text) (waiting : Waiting) → IsKnown name → Follows None before (at rows (Some (name, [])) waiting true) words
unfolding walk_fault
waits_on [] rows before name waiting k = unsettled rows name k
waits_on (word ∷ words) rows before name waiting k = stops before (at rows (Some (name, [])) waiting true) word words (λ h. unsettled rows name k (sym (trailing_turn rows (Some (name, [])) waiting word) ∙ h))

-- ---- where no option waits, and where one does

module _ (rows before : List Row) (p : Pending) (c : Clean rows p before) (words : List Text) where
  passed : (t : Kinds) → t ≡ settle_fault rules false (held rows p) → t ≡ []
  passed t is = is ∙ settles rows before p c

  -- a FILE
  file_follows : (word : Text) (waiting : Waiting) → IsFree waiting → IsFileWord word → (next : Option Said) → Follows next (add file_id word before) (at before (Some (file_id, word ∷ [])) Waiting.positional false) words
      → Follows (option_map (with_file word) next) before (at rows p waiting false) (word ∷ words)
  file_follows word waiting free f next later =
      goes_on (option_map (with_file word) next) before (at rows p waiting false) (at before (Some (file_id, word ∷ [])) Waiting.positional false) word words
      (passed _ (file_turn rows p word waiting free f))
      (file_after rows p word waiting free f ∙ ap (λ r. at r (Some (file_id, word ∷ [])) Waiting.positional false) (settled_are rows before p c))
      (met_file word next before (at before (Some (file_id, word ∷ [])) Waiting.positional false) words later)

  -- an option with its value in the same word
  joined_follows : (word text : Text) (f : IsLongWord word text) (k : IsKnown (cut text).0) (waiting : Waiting) (value : Text) → (cut text).1 ≡ Some value → (next : Option Said)
      → Follows next (add (cut text).0 value before) (at (add (cut text).0 value before) None Waiting.idle false) words
      → Follows (option_map (with_option (cut text).0 value) next) before (at rows p waiting false) (word ∷ words)
  joined_follows word text f k waiting value e next later =
      goes_on (option_map (with_option (cut text).0 value) next) before (at rows p waiting false) (at (add (cut text).0 value before) None Waiting.idle false) word words
      (passed _ (joined_turn rows p word text f k waiting value e))
      (joined_after rows p word text f k waiting value e ∙ ap (λ r. at (add (cut text).0 value r) None Waiting.idle false) (settled_are rows before p c))
      (met_option (cut text).0 value k next before (at (add (cut text).0 value before) None Waiting.idle false) words later)

  -- an option that waits for its value
  apart_follows : (word text : Text) (f : IsLongWord word text) (k : IsKnown (cut text).0) (waiting : Waiting) → (cut text).1 ≡ None → (next : Option Said)
      → Follows next before (at before (Some ((cut text).0, [])) (Waiting.option (cut text).0) false) words
      → Follows next before (at rows p waiting false) (word ∷ words)
  apart_follows word text f k waiting e next later =
      goes_on next before (at rows p waiting false) (at before (Some ((cut text).0, [])) (Waiting.option (cut text).0) false) word words
      (passed _ (apart_turn rows p word text f k waiting e))
      (apart_after rows p word text f k waiting e ∙ ap (λ r. at r (Some ((cut text).0, [])) (Waiting.option (cut text).0) false) (settled_are rows before p c))
      later

-- the value of an option that waits
value_follows : (rows : List Row) (name word : Text) (k : IsKnown name) (words : List Text) → IsFileWord word → (next : Option Said)
    → Follows next (add name word rows) (at rows (Some (name, word ∷ [])) Waiting.idle false) words
    → Follows (option_map (with_option name word) next) rows (at rows (Some (name, [])) (Waiting.option name) false) (word ∷ words)
value_follows rows name word k words f next later =
    goes_on (option_map (with_option name word) next) rows (at rows (Some (name, [])) (Waiting.option name) false) (at rows (Some (name, word ∷ [])) Waiting.idle false) word words
    (value_turn rows name word k f) (value_after rows name word k f)
    (met_option name word k next rows (at rows (Some (name, word ∷ [])) Waiting.idle false) words later)

-- no option's name is a value
no_value : (rows : List Row) (name word text : Text) (k : IsKnown name) (words : List Text) → IsLongWord word text → IsKnown (cut text).0 ⊎ IsUnknown (cut text).0 → (o : Option Text) → (cut text).1 ≡ o
    → Follows None rows (at rows (Some (name, [])) (Waiting.option name) false) (word ∷ words)
no_value rows name word text k words f (inr u) o e = stops rows _ word words (unknown_turn rows (Some (name, [])) word text f (Waiting.option name) u)
no_value rows name word text k words f (inl l) None e = stops rows _ word words (λ h. unsettled rows name k (sym (apart_turn rows (Some (name, [])) word text f l (Waiting.option name) e) ∙ h))
no_value rows name word text k words f (inl l) (Some value) e = stops rows _ word words (λ h. unsettled rows name k (sym (joined_turn rows (Some (name, [])) word text f l (Waiting.option name) value e) ∙ h))

-- ---- all words

pub record Both (words : List Text) : Type 0 where
  pub free : (rows before : List Row) (p : Pending) (waiting : Waiting) → Clean rows p before → IsFree waiting → Follows (said_after None words) before (at rows p waiting false) words
  pub wait : dash_first words ≡ false → (rows : List Row) (name : Text) → IsKnown name → Follows (said_after (Some name) words) rows (at rows (Some (name, [])) (Waiting.option name) false) words

no_words : Both []
unfolding walk_fault
no_words = record {
  free = λ rows before p waiting c free. ends_clean rows before p waiting false c;
  wait = λ none rows name k. unsettled rows name k;
}

escape_both : (words : List Text) → Both ((45 ∷ 45 ∷ []) ∷ words)
escape_both words = record {
  free = λ rows before p waiting c free. goes_on (Some (only_files words)) before (at rows p waiting false) (at rows p waiting true) (45 ∷ 45 ∷ []) words (escape_turn rows p waiting) (escape_after rows p waiting) (files_follow words rows before p waiting c);
  wait = λ none rows name k. goes_on None rows (at rows (Some (name, [])) (Waiting.option name) false) (at rows (Some (name, [])) (Waiting.option name) true) (45 ∷ 45 ∷ []) words (escape_turn rows (Some (name, [])) (Waiting.option name)) (escape_after rows (Some (name, [])) (Waiting.option name)) (waits_on words rows rows name (Waiting.option name) k);
}

as_said : (a b : Option Said) (before : List Row) (w : Walk) (words : List Text) → a ≡ b → Follows b before w words → Follows a before w words
as_said a b before w words is h = subst (λ o. Follows o before w words) (sym is) h

file_both : (word : Text) (words : List Text) → IsFileWord word → Both words → Both (word ∷ words)
file_both word words f later = record {
  free = λ rows before p waiting c free. as_said (said_after None (word ∷ words)) (option_map (with_file word) (said_after None words)) before (at rows p waiting false) (word ∷ words) (rw (f.escape, f.no_option) refl)
      (file_follows rows before p c words word waiting free f (said_after None words) (later.free before (add file_id word before) (Some (file_id, word ∷ [])) Waiting.positional (Clean.one_file before word) IsFree.is_positional));
  wait = λ none rows name k. as_said (said_after (Some name) (word ∷ words)) (option_map (with_option name word) (said_after None words)) rows (at rows (Some (name, [])) (Waiting.option name) false) (word ∷ words) (rw (f.no_dash none) refl)
      (value_follows rows name word k words f (said_after None words) (later.free rows (add name word rows) (Some (name, word ∷ [])) Waiting.idle (Clean.one_option rows name word k) IsFree.is_idle));
}

-- an option without a value in its word isn't followed by a dash alone
no_dash_next : (text : Text) (wants dash : Bool) → wants ≡ not (list_any is_equals text) → not (wants && dash) ≡ true → (cut text).1 ≡ None → dash ≡ false
no_dash_next text wants false is h e = refl
no_dash_next text wants true is h e = by_test (list_any is_equals text) refl
  where
    by_test : (b : Bool) → list_any is_equals text ≡ b → true ≡ false
    by_test true t = let e' = rw t at e in cc
    by_test false t = let yes : wants ≡ true = is ∙ rw t refl in let h' = rw yes at h in cc

module _ (word text : Text) (words : List Text) (f : IsLongWord word text) (later : Both words) (looked : not (wants_next word && dash_first words) ≡ true) where
  long_free : IsKnown (cut text).0 ⊎ IsUnknown (cut text).0 → (o : Option Text) → (cut text).1 ≡ o → (rows before : List Row) (p : Pending) (waiting : Waiting) → Clean rows p before → Follows (said_after None (word ∷ words)) before (at rows p waiting false) (word ∷ words)
  long_free (inr u) o e rows before p waiting c =
      as_said (said_after None (word ∷ words)) None before (at rows p waiting false) (word ∷ words) (rw (f.escape, f.is_option, f.option, u.unknown) refl)
      (stops before (at rows p waiting false) word words (unknown_turn rows p word text f waiting u))
  long_free (inl k) (Some value) e rows before p waiting c =
      as_said (said_after None (word ∷ words)) (option_map (with_option (cut text).0 value) (said_after None words)) before (at rows p waiting false) (word ∷ words) (rw (f.escape, f.is_option, f.option, k.known, e) refl)
      (joined_follows rows before p c words word text f k waiting value e (said_after None words) (later.free (add (cut text).0 value before) (add (cut text).0 value before) None Waiting.idle (Clean.nothing (add (cut text).0 value before)) IsFree.is_idle))
  long_free (inl k) None e rows before p waiting c =
      as_said (said_after None (word ∷ words)) (said_after (Some (cut text).0) words) before (at rows p waiting false) (word ∷ words) (rw (f.escape, f.is_option, f.option, k.known, e) refl)
      (apart_follows rows before p c words word text f k waiting e (said_after (Some (cut text).0) words) (later.wait (no_dash_next text (wants_next word) (dash_first words) f.next looked e) before (cut text).0 k))

  long_both : Both (word ∷ words)
  long_both = record {
    free = λ rows before p waiting c free. long_free (known_or_not (cut text).0) (cut text).1 refl rows before p waiting c;
    wait = λ none rows name k. as_said (said_after (Some name) (word ∷ words)) None rows (at rows (Some (name, [])) (Waiting.option name) false) (word ∷ words) (rw f.dash refl)
        (no_value rows name word text k words f (known_or_not (cut text).0) (cut text).1 refl);
  }

both_parts : (a b : Bool) → (a && b) ≡ true → (a ≡ true) × (b ≡ true)
both_parts true true h = (refl, refl)
both_parts true false h = cc
both_parts false b h = cc

not_true : (b : Bool) → not b ≡ true → b ≡ false
not_true true h = cc
not_true false h = refl

one_more : (word : Text) (words : List Text) → (is_plain_line words ≡ true → Both words) → is_plain_line (word ∷ words) ≡ true → Both (word ∷ words)
one_more word words later h = by_escape (bytes_eq word (45 ∷ 45 ∷ [])) refl
  where
    by_form : (is_short word ≡ false) × (not (wants_next word && dash_first words) ≡ true) × (is_plain_line words ≡ true) → Form word → Both (word ∷ words)
    by_form x (Form.escape is) = subst (λ w. Both (w ∷ words)) (sym is) (escape_both words)
    by_form x (Form.file f) = file_both word words f (later x.2)
    by_form x (Form.long text f) = long_both word text words f (later x.2) x.1

    by_escape : (b : Bool) → bytes_eq word (45 ∷ 45 ∷ []) ≡ b → Both (word ∷ words)
    by_escape true e = subst (λ w. Both (w ∷ words)) (sym ((bytes_eq-Decides word (45 ∷ 45 ∷ [])).0 e)) (escape_both words)
    by_escape false e =
        let rest : (not (is_short word) && (not (wants_next word && dash_first words) && is_plain_line words)) ≡ true = rw e at h in
        let x = both_parts (not (is_short word)) (not (wants_next word && dash_first words) && is_plain_line words) rest in
        let y = both_parts (not (wants_next word && dash_first words)) (is_plain_line words) x.1 in
        by_form (not_true (is_short word) x.0, y.0, y.1) (form_of word (not_true (is_short word) x.0))

pub follows : (words : List Text) → is_plain_line words ≡ true → Both words
follows [] h = no_words
follows (word ∷ words) h = one_more word words (follows words) h

-- ---- what is looked at first

dash_says_none : (words : List Text) (name : Text) → dash_first words ≡ true → said_after (Some name) words ≡ None
dash_says_none [] name h = cc
dash_says_none (word ∷ words) name h = let is : word ≡ 45 ∷ [] = (bytes_eq-Decides word (45 ∷ [])).0 h in rw is refl

-- words that are refused before `clap` reads them say nothing
pub record IsSilent (words : List Text) : Type 0 where
  pub free : said_after None words ≡ None
  pub wait : (name : Text) → said_after (Some name) words ≡ None

module _ (word : Text) (words : List Text) (no_escape : bytes_eq word (45 ∷ 45 ∷ []) ≡ false) where
  silent_short : is_short word ≡ true → IsSilent (word ∷ words)
  silent_short h = by_word word no_escape h
    where
      by_word : (w : Text) → bytes_eq w (45 ∷ 45 ∷ []) ≡ false → is_short w ≡ true → IsSilent (w ∷ words)
      by_word [] e s = cc
      by_word (b ∷ []) e s = cc
      by_word (b ∷ c ∷ cs) e s =
          let x = both_parts (b == 45) (not (c == 45)) s in
          let no = not_true (c == 45) x.1 in
          record { free = rw (e, x.0, no) refl; wait = λ name. rw x.0 refl }

  silent_file : IsFileWord word → IsSilent words → IsSilent (word ∷ words)
  silent_file f later = record {
    free = rw (f.escape, f.no_option, later.free) refl;
    wait = λ name. by_test name (begins_with_dash word) refl;
  }
    where
      by_test : (name : Text) (b : Bool) → begins_with_dash word ≡ b → said_after (Some name) (word ∷ words) ≡ None
      by_test name true e = rw e refl
      by_test name false e = rw (e, later.free) refl

  silent_long : (text : Text) → IsLongWord word text → ((value : Text) → (cut text).1 ≡ Some value → said_after None words ≡ None) → ((cut text).1 ≡ None → (name : Text) → said_after (Some name) words ≡ None) → IsSilent (word ∷ words)
  silent_long text f joined apart = record {
    free = by_name (known_or_not (cut text).0) (cut text).1 refl;
    wait = λ name. rw f.dash refl;
  }
    where
      by_name : IsKnown (cut text).0 ⊎ IsUnknown (cut text).0 → (o : Option Text) → (cut text).1 ≡ o → said_after None (word ∷ words) ≡ None
      by_name (inr u) o e = rw (f.escape, f.is_option, f.option, u.unknown) refl
      by_name (inl k) (Some value) e = rw (f.escape, f.is_option, f.option, k.known, e) (ap (option_map (with_option (cut text).0 value)) (joined value e))
      by_name (inl k) None e = rw (f.escape, f.is_option, f.option, k.known, e) (apart e (cut text).0)

-- an option with its value in the same word doesn't want the next one
joined_wants_none : (text value : Text) (wants : Bool) → wants ≡ not (list_any is_equals text) → (cut text).1 ≡ Some value → wants ≡ false
joined_wants_none text value wants is e = by_test (list_any is_equals text) refl
  where
    by_test : (b : Bool) → list_any is_equals text ≡ b → wants ≡ false
    by_test true t = is ∙ rw t refl
    by_test false t = let e' = rw t at e in cc

silent_more : (word : Text) (words : List Text) → (is_plain_line words ≡ false → IsSilent words) → is_plain_line (word ∷ words) ≡ false → IsSilent (word ∷ words)
silent_more word words later h = by_escape (bytes_eq word (45 ∷ 45 ∷ [])) refl
  where
    by_form : bytes_eq word (45 ∷ 45 ∷ []) ≡ false → (b : Bool) → (wants_next word && dash_first words) ≡ b → (not b && is_plain_line words) ≡ false → Form word → IsSilent (word ∷ words)
    by_form e b t r (Form.escape is) = absurd (let yes : bytes_eq word (45 ∷ 45 ∷ []) ≡ true = (bytes_eq-Decides word (45 ∷ 45 ∷ [])).1 is in cc)
    by_form e true t r (Form.file f) = absurd (let no : wants_next word ≡ false = f.next in let x = both_parts (wants_next word) (dash_first words) t in let yes : wants_next word ≡ true = x.0 in cc)
    by_form e false t r (Form.file f) = silent_file word words e f (later r)
    by_form e true t r (Form.long text f) =
        let x = both_parts (wants_next word) (dash_first words) t in
        silent_long word words e text f
        (λ value is. absurd (let no = joined_wants_none text value (wants_next word) f.next is in let yes : wants_next word ≡ true = x.0 in cc))
        (λ is name. dash_says_none words name x.1)
    by_form e false t r (Form.long text f) = silent_long word words e text f (λ value is. (later r).free) (λ is name. (later r).wait name)

    by_short : bytes_eq word (45 ∷ 45 ∷ []) ≡ false → (b : Bool) → is_short word ≡ b → (not b && (not (wants_next word && dash_first words) && is_plain_line words)) ≡ false → IsSilent (word ∷ words)
    by_short e true t r = silent_short word words e t
    by_short e false t r = by_form e (wants_next word && dash_first words) refl r (form_of word t)

    by_escape : (b : Bool) → bytes_eq word (45 ∷ 45 ∷ []) ≡ b → IsSilent (word ∷ words)
    by_escape true e = absurd (let h' = rw e at h in cc)
    by_escape false e = by_short e (is_short word) refl (rw e at h)

pub silent : (words : List Text) → is_plain_line words ≡ false → IsSilent words
silent [] h = absurd (cc)
silent (word ∷ words) h = silent_more word words (silent words) h
