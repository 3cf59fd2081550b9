-- Regions, the declarations in them, and their use clauses, in the order in which they were entered. This is all that contracts see
-- of `Regions`. A region and a declaration are numbers, and the region round another is older than it.
use Rattle.std.specs.Prelude.{ℕ, zero, suc, ◌==◌, ◌&&◌, ◌++◌, Bool, false, List, [], ◌∷◌, Option, None, if◌then◌else◌, slice_index_or, option_to_list}
use Rattle.std.specs.Option.{unwrap_or}
use Rattle.std.specs.Str.{bytes_eq}
use lib.ListN.{set as slice_set_at}
use Rattle.vd_bytes.specs.declared.places.Place.{Place}
use Rattle.vd_declarations.specs.declared.declarations.Declaration.{Declaration}
use Rattle.vd_declarations.specs.declared.classes.Class.TheVariants as class
use Rattle.vd_declarations.specs.declared.classes.Made.TheVariants as made
use Rattle.vd_declarations.specs.Classes.{meaning}
use Rattle.vd_regions.specs.declared.entries.Entered.{Entered}

-- a use clause: all declarations of a region, or those of a name
pub record Clause : Type 0 where
  pub from : ℕ
  pub name : Option (List ℕ)

-- a region: the one round it, the one that it continues, whether its end is reached, and its use clauses. An architecture body
-- continues its entity declaration, and a package body its package declaration: the two together are one declarative region of the
-- standard, whose second part is seen in the body alone.
pub record Region : Type 0 where
  pub outer : ℕ
  pub continues : Option ℕ
  pub closed : Bool
  pub uses : List Clause

pub record Scopes : Type 0 where
  pub entered : List Entered
  pub regions : List Region

abbrev pub no_region : Region
no_region = record { outer = 0; continues = None; closed = false; uses = [] }

abbrev pub first_place : Place
first_place = record { file = 0; line = 1; column = 1 }

abbrev pub no_declaration : Declaration
no_declaration =
    record { class = class.Label; name = []; mark = None; parameters = []; generics = []; inside = None; place = first_place; made = made.Written; wanted = [] }

abbrev pub nothing_entered : Entered
nothing_entered = record { region = 0; declaration = no_declaration }

abbrev pub region_at : Scopes → ℕ → Region
region_at s r = slice_index_or s.regions r no_region

abbrev pub entered_at : Scopes → ℕ → Entered
entered_at s k = slice_index_or s.entered k nothing_entered

abbrev pub declaration_at : Scopes → ℕ → Declaration
declaration_at s k = (entered_at s k).declaration

-- what a name means that stands for this entry: mostly the entry itself
abbrev pub meant : Scopes → ℕ → ℕ
meant s k = unwrap_or (meaning (declaration_at s k).class) k

-- it stands in the region under the name
abbrev pub stands_in : ℕ → List ℕ → Entered → Bool
stands_in region name e = (e.region == region) && bytes_eq e.declaration.name name

-- what a region continues
abbrev pub continued : Scopes → ℕ → List ℕ
continued s region = option_to_list (region_at s region).continues

-- the region and those round it, from the innermost outwards, each with what it continues; no more than so many
abbrev pub chain_of : ℕ → Scopes → ℕ → List ℕ
chain_of zero s region = []
chain_of (suc n) s region = region ∷ (continued s region ++ (if region == 0 then [] else chain_of n s (region_at s region).outer))

-- each region round another has a smaller number, so that there are no more than the region's number says, and the region of the
-- libraries
abbrev pub chain : Scopes → ℕ → List ℕ
chain s region = chain_of (suc region) s region

-- ---- regions that get use clauses

abbrev pub with_clause : Scopes → ℕ → Clause → Scopes
with_clause s region clause =
    record s { regions = slice_set_at s.regions region (record (region_at s region) { uses = (region_at s region).uses ++ clause ∷ [] }) }

abbrev pub with_clauses : ℕ → List Clause → Scopes → Scopes
with_clauses region [] s = s
with_clauses region (c ∷ cs) s = with_clauses region cs (with_clause s region c)
