-- What is known, in memory, and what is known again behind each mark.
use Rattle.std.specs.Prelude.{◌≡◌, ◌≤◌, List, [], ◌∷◌, drop, length, reverse, ℕ}
use Rattle.vd_composites.specs.Subtypes.{Subtype}
use Rattle.vd_environments.specs.Environments.{Env, nothing_denoted}
use Rattle.vd_forest.specs.Forest.{Forest}
use Rattle.vd_forest.specs.Store.{at}
use Rattle.vd_value_rules.specs.Indicated.{indicated_in}
use Rattle.vd_value_rules.specs.declared.forms.IndicatedForm.{IndicatedForm}
use Rattle.vd_value_rules.specs.Made.{Indicates}
use Rattle.vd_known_designs.specs.Contents.{AreRestorable, Content, content_of, lengths_of, undone}
use Rattle.vd_known_designs.specs.declared.contents.Contents.{Contents}
use Rattle.vd_known_designs.specs.declared.contents.Replaced.{Replaced}
use Rattle.vd_known_designs.specs.declared.table.KnownTable.{KnownTable}
use Rattle.vd_meaning.specs.Tables.{Table}
use Rattle.vd_static_values.specs.Entries.{IsEntry}
use Rattle.vd_value_rules.specs.Knowledge.{Known, both_changed, indicated_of, nothing_known}

-- A content has what is known: of the environment for choices the subtypes alone.
pub record IsKnown (t : Table) (subtypes : List (Forest IndicatedForm)) (c : Content) (k : Known) : Type 0 where
  pub entries : (n : ℕ) → IsEntry subtypes t (c.entries n) (k.env.denotes n)
  pub choosing : (n : ℕ) → Indicates subtypes (c.choosing n) (indicated_of (k.choosing.denotes n))
  pub packages : (n : ℕ) → k.packages n ≡ c.packages n
  pub functions : (n : ℕ) → k.functions n ≡ c.functions n
  pub is_inside : k.env.is_inside ≡ c.is_inside
  pub is_inside_choosing : k.choosing.is_inside ≡ c.is_inside
  pub result_within : c.result ≤ length subtypes
  pub result : k.env.result ≡ (indicated_in (at subtypes c.result)).subtype

-- what a content was when the log was so long
abbrev pub content_at : Contents → List Replaced → ℕ → Content
content_at x log n = undone (drop n log) (content_of x)

-- what was known at marks, the last one first, where each of them isn't behind the one before
abbrev pub WereKnown : Table → List (Forest IndicatedForm) → (ℕ → Content) → ℕ → List ℕ → List Known → Type 0
WereKnown t subtypes had top [] [] = Unit {0}
WereKnown t subtypes had top (mark ∷ marks) (k ∷ ks) =
    (mark ≤ top) × IsKnown t subtypes (had mark) k × WereKnown t subtypes had mark marks ks
WereKnown t subtypes had top _ _ = ⊥

-- what is known now, and what was known at marks
pub record HasKnown (t : Table) (subtypes : List (Forest IndicatedForm)) (x : Contents) (log : List Replaced) (marks : List ℕ) (k : Known) (ks : List Known) : Type 0 where
  pub now : IsKnown t subtypes (content_of x) k
  pub before : WereKnown t subtypes (content_at x log) (length log) (reverse marks) ks
  pub restorable : AreRestorable (lengths_of x) log

-- The first is known now, and each further one is known again when the table has gone back to one mark more.
abbrev pub AreKnown : Table → KnownTable → List Known → Type 0
AreKnown t x [] = ⊥
AreKnown t x (k ∷ ks) = HasKnown t x.subtypes x.contents x.log.items x.marks.items k ks

-- ---- going back

pub record CanGoBack (x : Contents) (log : List Replaced) (mark : ℕ) : Type 0 where
  pub within : mark ≤ length log
  pub restorable : AreRestorable (lengths_of x) log

pub record GoesBack (x y : Contents) (log left : List Replaced) : Type 0 where
  pub had : (n : ℕ) → n ≤ length left → content_at y left n ≡ content_at x log n
  pub restorable : AreRestorable (lengths_of y) left

-- ---- where nothing is declared, and in a function

abbrev pub nothing_denoted_in : Env → Env
nothing_denoted_in e = record e { denotes = λ _. nothing_denoted }

abbrev pub none_known : Known
none_known = both_changed nothing_denoted_in nothing_known

-- the result of the function has this subtype
abbrev pub with_result : Subtype → Known → Known
with_result s k = both_changed (λ e. record e { result = s }) k
