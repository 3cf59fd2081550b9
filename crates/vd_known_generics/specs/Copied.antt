-- What an instance declares, as it is copied where its generics stand for the actuals.
use Rattle.std.specs.Prelude.{◌≡◌, ◌∷◌, List, None, Option, Some, [], ℕ}
use Rattle.vd_forest.specs.Forest.{Forest}
use Rattle.vd_value_rules.specs.declared.forms.IndicatedForm.{IndicatedForm}
use Rattle.vd_value_rules.specs.Made.{Indicates}
use Rattle.vd_known_generics.specs.declared.copies.Copied.{Copied}
use Rattle.vd_meaning.specs.Tables.{Table}
use Rattle.vd_static_values.specs.Entries.{IsEntry, no_entry}
use Rattle.vd_static_values.specs.declared.entries.Entry.{Entry}
use Rattle.vd_value_rules.specs.Knowledge.{Known, indicated_of}

abbrev pub or_no_entry : Option Entry → Entry
or_no_entry None = no_entry
or_no_entry (Some x) = x

-- what stands for the first of two numbers, for the second one
pub record IsCopied (subtypes : List (Forest IndicatedForm)) (t : Table) (k : Known) (x : Copied) (c : ℕ × ℕ) : Type 0 where
  pub number_is : x.number ≡ c.1
  pub entry_is : IsEntry subtypes t x.entry (k.env.denotes c.0)
  pub choosing_is : Indicates subtypes x.choosing (indicated_of (k.choosing.denotes c.0))

abbrev pub AreCopied : List (Forest IndicatedForm) → Table → Known → List Copied → List (ℕ × ℕ) → Type 0
AreCopied subtypes t k [] [] = Unit {0}
AreCopied subtypes t k (x ∷ xs) (c ∷ cs) = IsCopied subtypes t k x c × AreCopied subtypes t k xs cs
AreCopied subtypes t k _ _ = ⊥
