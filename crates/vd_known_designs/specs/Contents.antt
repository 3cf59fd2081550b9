-- What a table has, and how a change of it is taken back.
use Rattle.std.specs.Prelude.{◌≡◌, ◌<◌, ◌≤◌, Bool, false, List, None, Option, Some, [], ◌∷◌, vec_len, ℕ}
use Rattle.vd_environments.specs.Environments.{with_entry}
use Rattle.vd_forest.specs.Forest.{Forest, nothing}
use Rattle.vd_known_designs.specs.Slots.{by_number}
use Rattle.vd_known_designs.specs.declared.contents.Contents.{Contents}
use Rattle.vd_known_designs.specs.declared.contents.Replaced.{Replaced}
use Rattle.vd_known_designs.specs.declared.contents.Replaced.TheVariants as replaced
use Rattle.vd_resolved.specs.declared.node.Resolved.{Resolved}
use Rattle.vd_static_values.specs.Entries.{entry_at, no_entry}
use Rattle.vd_static_values.specs.declared.entries.Entry.{Entry}

-- by the numbers of declarations; the subtype of the result is that with the number
pub record Content : Type 0 where
  pub entries : ℕ → Entry
  pub choosing : ℕ → ℕ
  pub packages : ℕ → Forest Resolved
  pub functions : ℕ → Forest Resolved
  pub is_inside : Bool
  pub result : ℕ

abbrev pub or_nothing : Option (Forest Resolved) → Forest Resolved
or_nothing None = nothing
or_nothing (Some text) = text

abbrev pub text_at : List (Option (Forest Resolved)) → ℕ → Forest Resolved
text_at texts n = or_nothing (by_number None texts n)

abbrev pub content_of : Contents → Content
content_of x =
    record {
      entries = entry_at x.entries.items;
      choosing = by_number 0 x.choosing.items;
      packages = text_at x.packages.items;
      functions = text_at x.functions.items;
      is_inside = x.is_inside;
      result = x.result;
    }

-- where nothing is known
abbrev pub no_content : Content
no_content =
    record { entries = λ n. no_entry; choosing = λ n. 0; packages = λ n. nothing; functions = λ n. nothing; is_inside = false; result = 0 }

-- ---- changes

abbrev pub with_denoted : ℕ → Entry → ℕ → Content → Content
with_denoted n entry choosing c = record c { entries = with_entry n entry c.entries; choosing = with_entry n choosing c.choosing }

abbrev pub with_package_text : ℕ → Forest Resolved → Content → Content
with_package_text n text c = record c { packages = with_entry n text c.packages }

abbrev pub with_function_text : ℕ → Forest Resolved → Content → Content
with_function_text n text c = record c { functions = with_entry n text c.functions }

abbrev pub with_surroundings : Bool → ℕ → Content → Content
with_surroundings is_inside result c = record c { is_inside = is_inside; result = result }

-- what was there before a change
abbrev pub undo : Replaced → Content → Content
undo (replaced.Denoted n entry choosing) c = with_denoted n entry choosing c
undo (replaced.Package n text) c = with_package_text n (or_nothing text) c
undo (replaced.Function n text) c = with_function_text n (or_nothing text) c
undo (replaced.Surroundings is_inside result) c = with_surroundings is_inside result c

-- before some changes, of which the last one is taken back first
abbrev pub undone : List Replaced → Content → Content
undone [] c = c
undone (r ∷ rs) c = undo r (undone rs c)

-- ---- a change can be taken back where the lists have its number

pub record Lengths : Type 0 where
  pub entries : ℕ
  pub choosing : ℕ
  pub packages : ℕ
  pub functions : ℕ

abbrev pub lengths_of : Contents → Lengths
lengths_of x =
    record {
      entries = vec_len x.entries;
      choosing = vec_len x.choosing;
      packages = vec_len x.packages;
      functions = vec_len x.functions;
    }

abbrev pub IsRestorable : Lengths → Replaced → Type 0
IsRestorable l (replaced.Denoted n entry choosing) = (n < l.entries) × (n < l.choosing)
IsRestorable l (replaced.Package n text) = n < l.packages
IsRestorable l (replaced.Function n text) = n < l.functions
IsRestorable l (replaced.Surroundings is_inside result) = Unit {0}

abbrev pub AreRestorable : Lengths → List Replaced → Type 0
AreRestorable l [] = Unit {0}
AreRestorable l (r ∷ rs) = IsRestorable l r × AreRestorable l rs

pub record IsLonger (old new : Lengths) : Type 0 where
  pub entries : old.entries ≤ new.entries
  pub choosing : old.choosing ≤ new.choosing
  pub packages : old.packages ≤ new.packages
  pub functions : old.functions ≤ new.functions

-- A change that gives this content, and what it replaced.
pub record Replaces (old new : Contents) (r : Replaced) (c : Content) : Type 0 where
  pub has : content_of new ≡ c
  pub undoes : undo r (content_of new) ≡ content_of old
  pub restorable : IsRestorable (lengths_of new) r
  pub longer : IsLonger (lengths_of old) (lengths_of new)
