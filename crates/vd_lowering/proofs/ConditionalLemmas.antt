-- The branches of a chain of conditions, from the last on. No name has a dash, so that a caller can name each in `#[tactic(auto, using(..))]`.
use Rattle.std.proofs.Common.{◌≡◌, ◌≤◌, ℕ, Bool, true, false, if◌then◌else◌, List, length, refl, sym, ap, ◌∙◌}
use Rattle.vd_bytes.specs.declared.places.Place.{Place}
use Rattle.vd_forest.specs.Forest.{Forest, nothing, more, next_of, turned}
use Rattle.vd_forest.specs.Store.{at, Holds, Extends}
use Rattle.vd_forest.proofs.StoreLemmas.{extends_same, extends_trans, within_more, at_more, kept}
use Rattle.vd_notes.specs.declared.noted.Noted.{Noted}
use Rattle.vd_lowering.specs.Conditionals.{elsif, elsifs, is_chain, is_conditional, last_value}
use Rattle.vd_lowering.specs.declared.assignments.Taking.{Taking}

-- ---- the value at the end

pub last_behind : (f : Forest Noted) → last_value 0 (next_of (next_of f)) ≡ last_value 2 f
last_behind nothing = refl
last_behind (more n text place parts nothing) = refl
last_behind (more n text place parts (more m words spot inner next)) = refl

pub last_link : (f : Forest Noted) (n : Noted) (text : List ℕ) (link : Place) (inner next : Forest Noted)
    → f ≡ more n text link inner next → is_chain f ≡ true → last_value 0 f ≡ last_value 2 inner
last_link f n text link inner next opened chain =
    ap (last_value 0) opened ∙ ap (λ b. if b then last_value 2 inner else more n text link inner next) (ap is_chain (sym opened) ∙ chain)

pub last_end : (f : Forest Noted) → is_chain f ≡ false → last_value 0 f ≡ f
last_end nothing ended = refl
last_end (more n text link inner next) ended = ap (λ b. if b then last_value 2 inner else more n text link inner next) ended

pub last_step : (fs gs : List (Forest Noted)) (left rest inner next : ℕ) (want : Forest Noted) (n : Noted) (text : List ℕ) (link : Place)
    → at fs left ≡ more n text link (at fs inner) (at fs next) → is_chain (at fs left) ≡ true → at fs rest ≡ next_of (next_of (at fs inner))
    → Extends fs gs → rest ≤ length fs → last_value 0 (at fs left) ≡ want → last_value 0 (at gs rest) ≡ want
last_step fs gs left rest inner next want n text link opened chain after grown within before =
    ap (last_value 0) (grown.keeps rest within ∙ after) ∙ last_behind (at fs inner)
    ∙ sym (last_link (at fs left) n text link (at fs inner) (at fs next) opened chain) ∙ before

-- ---- the branches

module _ (to : Taking) (statement : Noted) (place : Place) (parts : Forest Noted) where
  pub elsifs_behind : (f : Forest Noted) → elsifs to statement place parts 0 (next_of (next_of f)) ≡ elsifs to statement place parts 2 f
  elsifs_behind nothing = refl
  elsifs_behind (more n text place parts nothing) = refl
  elsifs_behind (more n text place parts (more m words spot inner next)) = refl

  pub elsifs_link : (f : Forest Noted) (n : Noted) (text : List ℕ) (link : Place) (inner next : Forest Noted)
      → f ≡ more n text link inner next → is_chain f ≡ true
      → elsifs to statement place parts 0 f ≡ elsif to statement place parts link inner (elsifs to statement place parts 2 inner)
  elsifs_link f n text link inner next opened chain =
      ap (elsifs to statement place parts 0) opened
      ∙ ap (λ b. if b then elsif to statement place parts link inner (elsifs to statement place parts 2 inner) else nothing)
      (ap is_chain (sym opened) ∙ chain)

  pub elsifs_end : (f : Forest Noted) → is_chain f ≡ false → elsifs to statement place parts 0 f ≡ nothing
  elsifs_end nothing ended = refl
  elsifs_end (more n text link inner next) ended =
      ap (λ b. if b then elsif to statement place parts link inner (elsifs to statement place parts 2 inner) else nothing) ended

  pub elsifs_step : (own : Forest Noted) (fs gs : List (Forest Noted)) (left rest inner next made new : ℕ) (want : Forest Noted)
      (n : Noted) (text : List ℕ) (link : Place)
      → at fs left ≡ more n text link (at fs inner) (at fs next) → is_chain (at fs left) ≡ true → at fs rest ≡ next_of (next_of (at fs inner))
      → Extends fs gs → rest ≤ length fs → own ≡ parts
      → Holds gs new (elsif to statement place own link (at fs inner) (at fs made))
      → turned (at fs made) (elsifs to statement place parts 0 (at fs left)) ≡ want
      → turned (at gs new) (elsifs to statement place parts 0 (at gs rest)) ≡ want
  elsifs_step own fs gs left rest inner next made new want n text link opened chain after grown within same held before =
      ap (λ f. turned f (elsifs to statement place parts 0 (at gs rest)))
      (held.is ∙ ap (λ q. elsif to statement place q link (at fs inner) (at fs made)) same)
      ∙ ap (λ f. turned (at fs made) (elsif to statement place parts link (at fs inner) (elsifs to statement place parts 0 f)))
      (grown.keeps rest within ∙ after)
      ∙ ap (λ f. turned (at fs made) (elsif to statement place parts link (at fs inner) f)) (elsifs_behind (at fs inner))
      ∙ ap (turned (at fs made)) (sym (elsifs_link (at fs left) n text link (at fs inner) (at fs next) opened chain))
      ∙ before

  -- the branches so far, turned where the chain ends
  pub elsifs_all : (fs gs : List (Forest Noted)) (left made new : ℕ) (want : Forest Noted)
      → is_chain (at fs left) ≡ false → Holds gs new (turned (at fs made) nothing)
      → turned (at fs made) (elsifs to statement place parts 0 (at fs left)) ≡ want → Holds gs new want
  elsifs_all fs gs left made new want ended held before = record {
    within = held.within;
    is = held.is ∙ ap (turned (at fs made)) (sym (elsifs_end (at fs left) ended)) ∙ before;
  }

pub ruleset chaining = (extends_same, extends_trans, within_more, at_more, kept, last_behind, last_end, last_step, elsifs_behind, elsifs_step, elsifs_all)
