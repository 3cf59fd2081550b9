-- What is known of a design up to a place of its text, and what is known at the place. (IEEE 1076, design units and their analysis; scope and
-- visibility)
use Rattle.std.specs.Prelude.{ℕ, zero, suc, Bool, false, List, [], ◌∷◌, Option, None, slice_index_or}
use Rattle.vd_bytes.specs.declared.answers.Refused.{Refused}
use Rattle.vd_bytes.specs.declared.places.Place.{Place}
use Rattle.vd_forest.specs.Forest.{Forest}
use Rattle.vd_regions.specs.Scopes.{Scopes}
use Rattle.vd_resolved.specs.declared.node.Resolved.{Resolved}
use Rattle.vd_visible.specs.Sights.{Sight, Standpoint, sight_from}
use Rattle.vd_trees.specs.declared.revision.Revision.{Revision}
use Rattle.vd_walks.specs.Walking.{Walked}
use Rattle.vd_walks.specs.Least.{lesser}
use Rattle.vd_name_rows.specs.declared.at.Actual.{Actual}
use Rattle.vd_name_rows.specs.declared.notes.Note.{Note}
use Rattle.vd_name_rows.specs.declared.notes.Taken.{Taken}
use Rattle.vd_name_rows.specs.declared.steps.Step.{Step}

-- ---- a design: the declarations and regions so far, what is noted of declarations beside, and the headers of bodies that stand for others

pub record Design : Type 0 where
  pub scopes : Scopes
  pub notes : List Note
  pub taken : List Taken

-- nothing is noted of most declarations
abbrev pub no_note : Note
no_note = record { has_body = false; is_instance = false; is_bounded = false; is_loop = false; formal = None; span = None; tied = None }

abbrev pub note_at : Design → ℕ → Note
note_at d k = slice_index_or d.notes k no_note

-- a note at a number, over what stands there
abbrev pub put_note : ℕ → Note → List Note → List Note
put_note zero note [] = note ∷ []
put_note zero note (n ∷ ns) = note ∷ ns
put_note (suc k) note [] = no_note ∷ put_note k note []
put_note (suc k) note (n ∷ ns) = n ∷ put_note k note ns

abbrev pub with_note : ℕ → Note → Design → Design
with_note k note d = record d { notes = put_note k note d.notes }

abbrev pub with_scopes : Design → Scopes → Design
with_scopes d s = record d { scopes = s }

-- ---- a place

pub record At : Type 0 where
  pub revision : Revision
  -- the number of the unit of the place
  pub unit : ℕ
  -- the region of the place, and whether it is that of a package declaration
  pub region : ℕ
  pub is_package : Bool
  -- the region of the ports that are looked up first
  pub ports : Option ℕ
  -- the name that was read last, and the place of it
  pub word : List ℕ
  pub word_place : Place
  pub label_place : Place
  -- whether the label that is read is that of a loop
  pub is_loop : Bool
  -- the declaration that a selected name named last, and the type that is at hand: of a mark, a target, a range
  pub named : Option ℕ
  pub mark : Option ℕ
  -- the type of the selector round the place, whether its choices are matched by `?=`, and the type of the result of the function round it
  pub selector : Option ℕ
  pub is_matching : Bool
  pub result : Option ℕ
  -- the record type of the view round the place
  pub viewed : Option ℕ
  -- the actuals of types and functions in a generic map that was read
  pub actuals : List Actual
  -- the number of the first declaration of the header round the place, those of the first declaration and region behind it, and the function whose body is
  -- round the place, where it was declared before
  pub header : ℕ
  pub header_end : ℕ
  pub header_regions : ℕ
  pub function : Option ℕ
  -- the number that the next name of a list gets
  pub next : ℕ
  -- what is done with the trees from here on, and then with all others
  pub steps : List Step
  pub rest : Step

abbrev pub standpoint : At → Design → Standpoint
standpoint at d = record { revision = at.revision; scopes = d.scopes; region = at.region; ports = at.ports }

abbrev pub sight : At → Design → Sight
sight at d = sight_from (standpoint at d)

-- what trees come to: resolved trees, what is known behind them, and the first rule that is broken
abbrev pub Outcome : Type 0
Outcome = Walked Resolved At Design

-- the outcome of trees that change nothing of the design
abbrev pub gives : At → Design → Forest Resolved → Option Refused → Outcome
gives at d tree first = record { tree = tree; at = at; design = d; first = first }

-- another refusal beside those of an outcome
abbrev pub refused_too : Option Refused → Outcome → Outcome
refused_too other o = record o { first = lesser other o.first }

-- where some declarations are given
abbrev pub begin_design : Scopes → Design
begin_design s = record { scopes = s; notes = []; taken = [] }
