-- One step of the walk of `clap`, by the form of the word and by what is pending.
use Rattle.std.proofs.Common.{◌≡◌, ◌≢◌, ℕ, Bool, true, false, not, ◌&&◌, List, [], ◌∷◌, Option, Some, None, refl, sym, ap, ◌∙◌, subst, bytes_eq}
use Rattle.std.specs.Option.{option_map_or}
use Rattle.clap.specs.Lexer.{long_of, short_of}
use Rattle.clap.specs.Kinds.{Kinds, or_else}
use Rattle.clap.specs.Walk.{Held, Row, Rule, Waiting, idle, option, positional, Walk, Text, Names, arg_by_id, arg_by_long, is_pending, settled_rows, walked}
use Rattle.clap.specs.Faults.{settle_fault, turn_fault}
use Rattle.vd_words.specs.Words.{cut}
use Rattle.vd_words.specs.Given.{file_id}
use Rattle.vd_words.proofs.Rows.{add, same_text}
use Rattle.vd_words.proofs.Walks.{opt, file_rule, rules, shape, IsKnown, IsUnknown, IsFileWord, IsLongWord}

abbrev pub Pending : Type 0
Pending = Option (Text × List Text)

abbrev pub held : List Row → Pending → Held
held rows pending = record { rows = rows; pending = pending; skip = 0 }

abbrev pub at : List Row → Pending → Waiting → Bool → Walk
at rows pending waiting trailing = record { held = held rows pending; waiting = waiting; position = 1; is_trailing = trailing; stopped = None }

abbrev pub turn : Walk → Text → Kinds
turn w word = turn_fault shape [] w word

abbrev pub after : Walk → Text → Walk
after w word = walked rules [] w word

-- nothing is pending, or an argument with its value
pub data Clean : List Row → Pending → List Row → Type 0 where
  nothing : (rows : List Row) → Clean rows None rows
  one_option : (rows : List Row) (name value : List ℕ) → IsKnown name → Clean rows (Some (name, value ∷ [])) (add name value rows)
  one_file : (rows : List Row) (value : List ℕ) → Clean rows (Some (file_id, value ∷ [])) (add file_id value rows)

pub settles : (rows settled : List Row) (p : Pending) → Clean rows p settled → settle_fault rules false (held rows p) ≡ []
settles rows settled p (Clean.nothing r) = refl
settles rows settled p (Clean.one_option r name value k) = rw k.id refl
settles rows settled p (Clean.one_file r value) = refl

pub settled_are : (rows settled : List Row) (p : Pending) → Clean rows p settled → settled_rows rules p rows ≡ settled
settled_are rows settled p (Clean.nothing r) = refl
settled_are rows settled p (Clean.one_option r name value k) = rw k.id refl
settled_are rows settled p (Clean.one_file r value) = refl

-- an option without its value doesn't settle
pub unsettled : (rows : List Row) (name : List ℕ) → IsKnown name → settle_fault rules false (held rows (Some (name, []))) ≡ [] → ⊥
unsettled rows name k h = let h' = rw k.id at h in cc

never_several : (p : Pending) → (is_pending file_rule p && false) ≡ false
never_several None = refl
never_several (Some q) = by_test (bytes_eq q.0 file_id)
  where
    by_test : (b : Bool) → (b && false) ≡ false
    by_test true = refl
    by_test false = refl

-- nothing comes behind what passes
no_more : (a : Kinds) → or_else a [] ≡ a
no_more [] = refl
no_more (k ∷ ks) = refl

no_more_twice : (a : Kinds) → or_else (or_else a []) [] ≡ a
no_more_twice [] = refl
no_more_twice (k ∷ ks) = refl

-- ---- behind `--`

pub trailing_turn : (rows : List Row) (p : Pending) (waiting : Waiting) (word : Text) → turn (at rows p waiting true) word ≡ settle_fault rules false (held rows p)
trailing_turn rows p waiting word = rw (never_several p) refl

pub trailing_after : (rows : List Row) (p : Pending) (waiting : Waiting) (word : Text) → after (at rows p waiting true) word ≡ at (settled_rows rules p rows) (Some (file_id, word ∷ [])) positional true
unfolding walked
trailing_after rows p waiting word = rw (never_several p) refl

-- ---- `--`

pub escape_turn : (rows : List Row) (p : Pending) (waiting : Waiting) → turn (at rows p waiting false) (45 ∷ 45 ∷ []) ≡ []
escape_turn rows p idle = refl
escape_turn rows p (Waiting.option name) = refl
escape_turn rows p positional = refl

pub escape_after : (rows : List Row) (p : Pending) (waiting : Waiting) → after (at rows p waiting false) (45 ∷ 45 ∷ []) ≡ at rows p waiting true
unfolding walked
escape_after rows p idle = refl
escape_after rows p (Waiting.option name) = refl
escape_after rows p positional = refl

-- ---- where no option waits

pub data IsFree : Waiting → Type 0 where
  is_idle : IsFree Waiting.idle
  is_positional : IsFree Waiting.positional

module _ (rows : List Row) (p : Pending) (word : Text) where
  pub file_turn : (waiting : Waiting) → IsFree waiting → IsFileWord word → turn (at rows p waiting false) word ≡ settle_fault rules false (held rows p)
  file_turn waiting IsFree.is_idle f = rw (f.escape, f.long, f.short, never_several p) refl
  file_turn waiting IsFree.is_positional f = rw (f.escape, f.long, f.short, never_several p) refl

  pub file_after : (waiting : Waiting) → IsFree waiting → IsFileWord word → after (at rows p waiting false) word ≡ at (settled_rows rules p rows) (Some (file_id, word ∷ [])) positional false
  unfolding walked
  file_after waiting IsFree.is_idle f = rw (f.escape, f.long, f.short, never_several p) refl
  file_after waiting IsFree.is_positional f = rw (f.escape, f.long, f.short, never_several p) refl

  -- an option that stands by its name alone
  module _ (text : Text) (f : IsLongWord word text) where
    pub unknown_turn : (waiting : Waiting) → IsUnknown (cut text).0 → turn (at rows p waiting false) word ≡ [] → ⊥
    unknown_turn Waiting.idle u h = let h' = rw (f.escape, f.long, u.long) at h in cc
    unknown_turn (Waiting.option name) u h = let h' = rw (f.escape, f.long, u.long) at h in cc
    unknown_turn Waiting.positional u h = let h' = rw (f.escape, f.long, u.long) at h in cc

    module _ (k : IsKnown (cut text).0) where
      pub apart_turn : (waiting : Waiting) → (cut text).1 ≡ None → turn (at rows p waiting false) word ≡ settle_fault rules false (held rows p)
      apart_turn Waiting.idle e = rw (f.escape, f.long, k.long, e) (no_more _)
      apart_turn (Waiting.option name) e = rw (f.escape, f.long, k.long, e) (no_more _)
      apart_turn Waiting.positional e = rw (f.escape, f.long, k.long, e) (no_more _)

      pub apart_after : (waiting : Waiting) → (cut text).1 ≡ None → after (at rows p waiting false) word ≡ at (settled_rows rules p rows) (Some ((cut text).0, [])) (Waiting.option (cut text).0) false
      unfolding walked
      apart_after Waiting.idle e = rw (f.escape, f.long, k.long, e) refl
      apart_after (Waiting.option name) e = rw (f.escape, f.long, k.long, e) refl
      apart_after Waiting.positional e = rw (f.escape, f.long, k.long, e) refl

      pub joined_turn : (waiting : Waiting) (value : Text) → (cut text).1 ≡ Some value → turn (at rows p waiting false) word ≡ settle_fault rules false (held rows p)
      joined_turn Waiting.idle value e = rw (f.escape, f.long, k.long, e) (no_more_twice _)
      joined_turn (Waiting.option name) value e = rw (f.escape, f.long, k.long, e) (no_more_twice _)
      joined_turn Waiting.positional value e = rw (f.escape, f.long, k.long, e) (no_more_twice _)

      pub joined_after : (waiting : Waiting) (value : Text) → (cut text).1 ≡ Some value → after (at rows p waiting false) word ≡ at (add (cut text).0 value (settled_rows rules p rows)) None Waiting.idle false
      unfolding walked
      joined_after Waiting.idle value e = rw (f.escape, f.long, k.long, e) refl
      joined_after (Waiting.option name) value e = rw (f.escape, f.long, k.long, e) refl
      joined_after Waiting.positional value e = rw (f.escape, f.long, k.long, e) refl

-- ---- where an option waits for its value

module _ (rows : List Row) (name word : Text) (k : IsKnown name) where
  pub value_turn : IsFileWord word → turn (at rows (Some (name, [])) (Waiting.option name) false) word ≡ []
  value_turn f = rw (f.escape, f.long, f.short) refl

  pub value_after : IsFileWord word → after (at rows (Some (name, [])) (Waiting.option name) false) word ≡ at rows (Some (name, word ∷ [])) Waiting.idle false
  unfolding walked
  value_after f = rw (f.escape, f.long, f.short, k.id, same_text name) refl
