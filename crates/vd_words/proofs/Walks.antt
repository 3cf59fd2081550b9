-- The walk of `clap` over the words of the command line, and what the words say.
use Rattle.std.proofs.Common.{◌≡◌, ◌≢◌, ◌⊎◌, inl, inr, ℕ, Bool, true, false, not, ◌&&◌, ◌||◌, ◌==◌, List, [], ◌∷◌, ◌++◌, Option, Some, None, fold, codes, refl, sym, ap, ◌∙◌, subst, bytes_eq}
use Rattle.std.specs.List.{list_any, before_first, after_first}
use Rattle.std.proofs.lemmas.Bool.Decides.{Decides-eqb}
use Rattle.std.proofs.lemmas.Slice.Eq.{bytes_eq-Decides}
use Rattle.clap.specs.Lexer.{long_of, short_of}
use Rattle.clap.specs.Kinds.{Kinds, or_else}
use Rattle.clap.specs.Simple.{Shape, built}
use Rattle.clap.specs.Words.{new_rule}
use Rattle.clap.specs.Walk.{Held, Row, Rule, Waiting, idle, option, positional, Walk, Text, arg_by_id, arg_by_long, settled, settled_rows, walked}
use Rattle.clap.specs.Faults.{settle_fault, turn_fault, walk_fault}
use Rattle.clap.specs.declared.builder.action.ArgAction.TheVariants.{Append}
use Rattle.clap.specs.declared.builder.value_parser.ValueParser.TheVariants as parsers
use Rattle.vd_words.specs.Words.{Said, said_after, option_names, is_option_name, is_escape, begins_with_dash, is_option_word, is_equals, cut, if_option, option_in, only_files, with_option, with_file, values_of}
use Rattle.vd_words.specs.Given.{line, file_id, values_in, is_short, wants_next, is_dash, dash_first, is_plain_line}
use Rattle.vd_words.proofs.Rows.{add, same_text, added_same, added_other}

-- ---- the command line, built

abbrev filled : List ℕ → Rule
filled id = record (new_rule id) { action = Some Append; parser = Some parsers.String; range = Some (record { start_inclusive = 1; end_inclusive = 1 }) }

abbrev pub opt : List ℕ → Rule
opt name = record (filled name) { long = Some name }

abbrev pub file_rule : Rule
file_rule = record (filled file_id) { index = Some 1 }

abbrev pub rules : List Rule
rules = opt (codes "do") ∷ opt (codes "top") ∷ opt (codes "cycles") ∷ opt (codes "units") ∷ opt (codes "tool-type") ∷ file_rule ∷ []

abbrev pub shape : Shape
shape = record (built line).top { rules = rules }

pub rules_are : (built line).top.rules ≡ rules
rules_are = refl

pub shape_is : (built line).top ≡ shape
shape_is = refl

-- ---- looking up an option

-- what the name of an option finds, where there is one
pub record IsKnown (name : List ℕ) : Type 0 where
  pub known : is_option_name name ≡ true
  pub long : arg_by_long rules name ≡ Some (opt name)
  pub id : arg_by_id rules name ≡ Some (opt name)
  pub other : bytes_eq name file_id ≡ false
  pub another : bytes_eq file_id name ≡ false

pub record IsUnknown (name : List ℕ) : Type 0 where
  pub unknown : is_option_name name ≡ false
  pub long : arg_by_long rules name ≡ None

same_known : (known name : List ℕ) → bytes_eq known name ≡ true → IsKnown known → IsKnown name
same_known known name e h = subst IsKnown ((bytes_eq-Decides known name).0 e) h

known_do : IsKnown (codes "do")
known_do = record { known = refl; long = refl; id = refl; other = refl; another = refl }

known_top : IsKnown (codes "top")
known_top = record { known = refl; long = refl; id = refl; other = refl; another = refl }

known_cycles : IsKnown (codes "cycles")
known_cycles = record { known = refl; long = refl; id = refl; other = refl; another = refl }

known_units : IsKnown (codes "units")
known_units = record { known = refl; long = refl; id = refl; other = refl; another = refl }

known_tool_type : IsKnown (codes "tool-type")
known_tool_type = record { known = refl; long = refl; id = refl; other = refl; another = refl }

by_names : (name : List ℕ) (a b c d e : Bool) → bytes_eq (codes "do") name ≡ a → bytes_eq (codes "top") name ≡ b → bytes_eq (codes "cycles") name ≡ c → bytes_eq (codes "units") name ≡ d → bytes_eq (codes "tool-type") name ≡ e → IsKnown name ⊎ IsUnknown name
by_names name true b c d e p q r s t = inl (same_known (codes "do") name p known_do)
by_names name false true c d e p q r s t = inl (same_known (codes "top") name q known_top)
by_names name false false true d e p q r s t = inl (same_known (codes "cycles") name r known_cycles)
by_names name false false false true e p q r s t = inl (same_known (codes "units") name s known_units)
by_names name false false false false true p q r s t = inl (same_known (codes "tool-type") name t known_tool_type)
by_names name false false false false false p q r s t = inr (record { unknown = rw (p, q, r, s, t) refl; long = rw (p, q, r, s, t) refl })

pub known_or_not : (name : List ℕ) → IsKnown name ⊎ IsUnknown name
known_or_not name = by_names name _ _ _ _ _ refl refl refl refl refl

-- ---- forms of a word

-- a word that is a FILE where no option waits for its value
pub record IsFileWord (word : List ℕ) : Type 0 where
  pub escape : bytes_eq word (45 ∷ 45 ∷ []) ≡ false
  pub long : long_of word ≡ None
  pub short : short_of word ≡ None
  pub no_option : is_option_word word ≡ false
  pub no_dash : is_dash word ≡ false → begins_with_dash word ≡ false
  pub next : wants_next word ≡ false

-- an option, by the text behind its dashes
pub record IsLongWord (word text : List ℕ) : Type 0 where
  pub escape : bytes_eq word (45 ∷ 45 ∷ []) ≡ false
  pub long : long_of word ≡ Some (cut text)
  pub is_option : is_option_word word ≡ true
  pub option : option_in word ≡ if_option (cut text)
  pub dash : begins_with_dash word ≡ true
  pub next : wants_next word ≡ not (list_any is_equals text)

pub data Form (word : List ℕ) : Type 0 where
  escape : word ≡ 45 ∷ 45 ∷ [] → Form word
  file : IsFileWord word → Form word
  long : (text : List ℕ) → IsLongWord word text → Form word

differ : (b c : ℕ) (bs cs : List ℕ) → (b == c) ≡ false → bytes_eq (b ∷ bs) (c ∷ cs) ≡ false
differ b c bs cs ne = rw ne refl

-- a word that has no dash, or two, is of one of the forms
pub form_of : (word : List ℕ) → is_short word ≡ false → Form word
form_of [] h = Form.file (record { escape = refl; long = refl; short = refl; no_option = refl; no_dash = λ _. refl; next = refl })
form_of (b ∷ []) h = by_dash (b == 45) refl
  where
    by_dash : (x : Bool) → (b == 45) ≡ x → Form (b ∷ [])
    by_dash true e = Form.file (record { escape = rw e refl; long = rw e refl; short = rw e refl; no_option = refl; no_dash = λ none. absurd (let yes : is_dash (b ∷ []) ≡ true = rw e refl in cc); next = refl })
    by_dash false e = Form.file (record { escape = rw e refl; long = rw e refl; short = rw e refl; no_option = refl; no_dash = λ _. e; next = refl })
form_of (b ∷ c ∷ cs) h = by_dash (b == 45) refl (c == 45) refl cs
  where
    by_dash : (x : Bool) → (b == 45) ≡ x → (y : Bool) → (c == 45) ≡ y → (ds : List ℕ) → Form (b ∷ c ∷ ds)
    by_dash false e y f [] = Form.file (record { escape = rw e refl; long = rw e refl; short = rw e refl; no_option = e; no_dash = λ _. e; next = refl })
    by_dash false e y f (d ∷ ds) = Form.file (record { escape = rw e refl; long = rw e refl; short = rw e refl; no_option = e; no_dash = λ _. e; next = rw e refl })
    by_dash true e false f ds = absurd (let yes : is_short (b ∷ c ∷ cs) ≡ true = rw (e, f) refl in cc)
    by_dash true e true f [] = Form.escape (let p : b ≡ 45 = (Decides-eqb b 45).0 e in let q : c ≡ 45 = (Decides-eqb c 45).0 f in cc)
    by_dash true e true f (d ∷ ds) = Form.long (d ∷ ds) (record { escape = rw (e, f) refl; long = rw (e, f) refl; is_option = e; option = rw (e, f) refl; dash = e; next = rw (e, f) refl })
