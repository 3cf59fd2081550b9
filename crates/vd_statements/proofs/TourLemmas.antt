-- Where a walk begins that knows nothing. No name has a dash, so that a caller can name it in `#[tactic(auto, using(..))]`.
use Rattle.std.proofs.Common.{◌≡◌, ◌<◌, ℕ, List, [], length, ap, arith}
use Rattle.vd_bytes.specs.declared.places.Place.{Place}
use Rattle.vd_forest.specs.Forest.{Forest, more, size}
use Rattle.vd_forest.specs.Store.{Extends}
use Rattle.vd_forest.proofs.StoreLemmas.{extends_same}
use Rattle.vd_notes.specs.declared.noted.Noted.{Noted}
use Rattle.vd_resolved.specs.declared.node.Resolved.{Resolved}
use Rattle.vd_statements.specs.Lists.{AreWithin}
use Rattle.vd_tours.specs.Tours.{IsAtEnd, IsAtPlace}
use Rattle.vd_walks.specs.Positions.{Tree}

pub at_start : (store : List (Forest Resolved)) → IsAtPlace {F = Resolved} (λ before ps. Unit {0}) store
at_start store = record { before = store; grown = extends_same store; here = []; round = []; known = tt }

pub at_start_noted : (store : List (Forest Noted)) → IsAtPlace {F = Noted} (λ before ps. Unit {0}) store
at_start_noted store = record { before = store; grown = extends_same store; here = []; round = []; known = tt }

-- and where one begins whose table has numbers of any store
pub at_start_within : (store : List (Forest Noted)) (numbers : List ℕ) → ((size : ℕ) → AreWithin size numbers) → IsAtPlace {F = Noted} (λ before ps. AreWithin (length before) numbers) store
at_start_within store numbers within = record { before = store; grown = extends_same store; here = []; round = []; known = within (length store) }

pub next_smaller : (rest parts next : Forest Noted) (n : Noted) (text : List ℕ) (place : Place) → rest ≡ more n text place parts next → size next < size rest
next_smaller rest parts next n text place opened = let s = ap size opened in omega (arith, s)

-- ---- numbers of a store that grows

pub within_grown : (old new : List (Forest Noted)) (numbers : List ℕ) → Extends old new → AreWithin (length old) numbers → AreWithin (length new) numbers
within_grown old new numbers grown within = λ k. let one = within k in let more = grown.grows in omega (arith, one, more)

pub within_place : (store : List (Forest Noted)) (numbers : List ℕ) → IsAtPlace {F = Noted} (λ before ps. AreWithin (length before) numbers) store → AreWithin (length store) numbers
within_place store numbers place = within_grown place.before store numbers place.grown place.known

pub within_end : (store : List (Forest Noted)) (numbers : List ℕ) (x : Tree Noted) → IsAtEnd {F = Noted} (λ before ps. AreWithin (length before) numbers) store x → AreWithin (length store) numbers
within_end store numbers x end = within_grown end.before store numbers end.grown end.known

pub ruleset touring = (within_grown, within_place, within_end)
