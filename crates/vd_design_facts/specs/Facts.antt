-- What designs of revision 2019 show when they run. The texts of the designs stand in front of their trees.
use Rattle.std.specs.Prelude.{◌≡◌, [], ◌∷◌, codes}
use Rattle.vd_trees.specs.declared.revision.Revision.TheVariants.{V2019}
use Rattle.vd_elaboration_facts.specs.Designs.{lines}
use Rattle.vd_design_facts.specs.Designs.{traced}
use Rattle.vd_design_facts.specs.Once as once
use Rattle.vd_design_facts.specs.Matching as matching
use Rattle.vd_design_facts.specs.FirstChoice as first_choice
use Rattle.vd_design_facts.specs.Delayed as delayed
use Rattle.vd_design_facts.specs.Overflow as overflow
use Rattle.vd_design_facts.specs.Elements as elements
use Rattle.vd_design_facts.specs.BoundsOfSlices as bounds
use Rattle.vd_design_facts.specs.Pulses as pulses

pub record ProcessFacts : Type 0 where
  -- a process that is sensitive to all that it reads, and reads nothing, runs once
  pub nothing_read : traced V2019 once.design (codes "p") 100
      ≡ lines (codes "cycle 0 0 0" ∷ codes "report 0 0 note once" ∷ codes "quiet" ∷ [])
  -- `unaffected` leaves the transaction that stands before it
  pub unaffected : traced V2019 delayed.design (codes "w") 100
      ≡ lines (codes "cycle 0 0 0" ∷ codes "w.s = '0'" ∷ codes "w.c = false"
      ∷ codes "cycle 1 5000000 0" ∷ codes "w.s = '1'" ∷ codes "quiet" ∷ [])
  -- a sum that is no INTEGER stops the run
  pub overflow : traced V2019 overflow.design (codes "o") 100
      ≡ lines (codes "cycle 0 0 0" ∷ codes "o.c = 2147483645" ∷ codes "cycle 1 0 1" ∷ codes "o.c = 2147483646"
      ∷ codes "cycle 2 0 2" ∷ codes "stop Overflow 0 2 o" ∷ [])
  -- an assignment drops what isn't earlier; inertial delay drops what is earlier and has another value, and transport delay keeps it
  pub pulses : traced V2019 pulses.design (codes "d") 100
      ≡ lines (codes "cycle 0 0 0" ∷ codes "d.s = '0'" ∷ codes "d.q = '0'" ∷ codes "d.r = '0'" ∷ codes "cycle 1 1000000 0"
      ∷ codes "cycle 2 2000000 0" ∷ codes "cycle 3 5000000 0" ∷ codes "cycle 4 7000000 0" ∷ codes "d.s = '1'" ∷ codes "cycle 5 8000000 0"
      ∷ codes "d.s = '0'" ∷ codes "cycle 6 9000000 0" ∷ codes "d.r = '1'" ∷ codes "cycle 7 10000000 0" ∷ codes "d.r = '0'" ∷ codes "quiet" ∷ [])
  -- a parameter without bounds of its own has those of its actual, a slice from 7 on
  pub bounds : traced V2019 bounds.design (codes "b") 100
      ≡ lines (codes "cycle 0 0 0" ∷ codes "b.s(7) = 'U'" ∷ codes "b.s(6) = 'U'" ∷ codes "b.s(5) = 'U'" ∷ codes "b.s(4) = 'U'" ∷ codes "b.s(3) = 'U'"
      ∷ codes "b.s(2) = 'U'" ∷ codes "b.s(1) = 'U'" ∷ codes "b.s(0) = 'U'" ∷ codes "b.n = 0" ∷ codes "cycle 1 0 1" ∷ codes "b.n = 7" ∷ codes "quiet" ∷ [])
  -- a conversion makes each element one of its subtype in the new array type, which has other bounds
  pub element_bounds : traced V2019 elements.design (codes "t") 100
      ≡ lines (codes "cycle 0 0 0" ∷ codes "t.r = 0" ∷ codes "t.l = '0'" ∷ codes "cycle 1 0 1" ∷ codes "t.r = 4" ∷ codes "t.l = '1'" ∷ codes "quiet" ∷ [])
  -- or another length, and then it stops
  pub other_length : traced V2019 elements.design (codes "v") 100 ≡ lines (codes "cycle 0 0 0" ∷ codes "stop Length 0 0 v" ∷ [])

pub record MatchingFacts : Type 0 where
  -- the selector of a matching case that holds '-' is a failure
  pub dash : traced V2019 matching.design (codes "m") 100
      ≡ lines (codes "cycle 0 0 0" ∷ codes "report 0 0 failure vdown: matching case selector holds '-'" ∷ codes "stop Failure 0 0 m" ∷ [])
  -- and "1X0" has the first choice, "1--"
  pub first : traced V2019 first_choice.design (codes "m") 100
      ≡ lines (codes "cycle 0 0 0" ∷ codes "report 0 0 note first"
      ∷ codes "m.sel(2) = '1'" ∷ codes "m.sel(1) = 'X'" ∷ codes "m.sel(0) = '0'" ∷ codes "quiet" ∷ [])
