-- What an instance declares, in words of contracts.
use Rattle.std.specs.Prelude.{◌≡◌, ◌++◌, List, [], ◌∷◌, map, option_map}
use Rattle.vd_regions.specs.Scopes.{Region}
use Rattle.vd_regions.specs.declared.entries.Entered.{Entered}
use Rattle.vd_name_rows.specs.Designs.{Design, with_scopes}
use Rattle.vd_naming.specs.Copies.{Copying, number_behind, numbers_of_copies, type_of_copy, entries_of_copies, copy_of_region, unseen_region, some_of}
use Rattle.vd_name_instances.specs.Offsets.{offsets_of}
use Rattle.vd_name_instances.specs.declared.adding.Copies.{Copies}
use Rattle.vd_name_instances.specs.declared.regions.RegionCopy.{RegionCopy}
use Rattle.vd_name_instances.specs.declared.instances.Instance.{Instance}

-- a region without use clauses
abbrev pub seen_region : RegionCopy → Region
seen_region r = record { outer = r.outer; continues = r.continues; closed = r.closed; uses = [] }

-- a design with these entries and regions behind its own
abbrev pub with_entries : List Entered → Design → Design
with_entries es d = with_scopes d (record d.scopes { entered = d.scopes.entered ++ es })

abbrev pub with_regions : List Region → Design → Design
with_regions rs d = with_scopes d (record d.scopes { regions = d.scopes.regions ++ rs })

-- what the declaration of the instance takes from that of the package or function: its number behind the copies, the copies of its parameters and
-- of its generics, the region of the first copies, and its type
pub record IsInstance (made : Instance) (c : Copying) : Type 0 where
  pub number : made.number ≡ number_behind c
  pub parameters : made.parameters ≡ numbers_of_copies c c.generic.parameters
  pub generics : made.generics ≡ numbers_of_copies c c.generic.generics
  pub inside : made.inside ≡ c.first_region
  pub mark : made.mark ≡ option_map (type_of_copy c) c.generic.mark

-- all copies, which aren't in the design yet
pub record AreCopies (made : Copies) (c : Copying) (d : Design) : Type 0 where
  pub entries : made.entries.items ≡ entries_of_copies c c.span.first (some_of c.span.first c.span.end d.scopes.entered)
  pub regions : map seen_region made.regions.items ≡ map (copy_of_region c) (some_of c.span.first_region c.span.end_region d.scopes.regions) ++ unseen_region c ∷ []
  pub offsets : made.offsets ≡ offsets_of c
  pub actuals : made.generics.actuals ≡ c.actuals
  pub instance : IsInstance made.instance c
