-- What the lists of the code that makes trees stand for.
use Rattle.std.specs.Prelude.{ℕ, ◌≡◌, ◌≤◌, Bool, true, false, ◌&&◌, ◌||◌, not, if◌then◌else◌, List, [], ◌∷◌, ◌++◌, length, take, drop, map, reverse}
use Rattle.std.specs.List.{AllByRecursion}
use Rattle.vd_bytes.specs.declared.places.Place.{Place}
use Rattle.vd_tokens.specs.Lexemes.{Lexeme}
use Rattle.vd_gram.specs.declared.steps.Step.{Step}
use Rattle.vd_forest.specs.Forest.{Forest, nothing, more}
use Rattle.vd_forest.specs.Store.{at}
use Rattle.vd_forms.specs.declared.form.Form.{Form}
use Rattle.vd_forms.specs.declared.form.Form.TheVariants as form
use Rattle.vd_forms.specs.Forms.{is_among}
use Rattle.vd_forms.specs.Validity.{holders_of_actuals, keeps_brackets}
use Rattle.vd_shapes.specs.declared.actions.Action.{Action}
use Rattle.vd_shapes.specs.declared.actions.Action.TheVariants.{Splice, Make, Wrap, Group}
use Rattle.vd_shapes.specs.declared.entries.Entry.{Entry}
use Rattle.vd_shapes.specs.declared.growing.Frame.{Frame}
use Rattle.vd_shapes.specs.declared.growing.Growing.{Growing}
use Rattle.vd_shapes.specs.Shapes.{text_at, place_at, settled}
use Rattle.vd_shapes.specs.Machine.{Open, Machine, run, begun}

-- a tree, with nothing behind it
pub record Tree : Type 0 where
  pub form : Form
  pub text : List ℕ
  pub place : Place
  pub parts : Forest Form

abbrev pub planted : Tree → Forest Form → Forest Form
planted t next = more t.form t.text t.place t.parts next

-- the trees, the first of the list first
abbrev pub planted_all : List Tree → Forest Form
planted_all [] = nothing
planted_all (t ∷ ts) = planted t (planted_all ts)

module _ (store : List (Forest Form)) (tokens : List Lexeme) where
  -- the tree of an entry. Only a leaf has a text
  abbrev pub tree_of : Entry → Tree
  tree_of e = record {
    form = e.form;
    text = if e.is_leaf then text_at tokens e.first else [];
    place = place_at tokens e.first;
    parts = at store e.parts;
  }

  abbrev pub trees_of : List Entry → List Tree
  trees_of es = map tree_of es

-- the parts of an entry stand in a store of so many forests
abbrev pub IsEntryOf : ℕ → Entry → Type 0
IsEntryOf n e = e.parts ≤ n

-- ---- open productions

abbrev pub sets_aside : Action → Bool
sets_aside Splice = false
sets_aside (Make f) = true
sets_aside (Wrap f) = false
sets_aside Group = true

-- where the trees of the innermost make or group begin
abbrev pub base_of : List Frame → ℕ
base_of [] = 0
base_of (f ∷ fs) = f.base

pub record IsFrame (f : Frame) (o : Open) : Type 0 where
  pub action : o.action ≡ f.action
  pub left : o.left ≡ f.left
  pub start : o.start ≡ f.start

-- where the trees of an open production stand: its own ones behind those that a make or a group set aside, and else with
-- those round it
abbrev pub Inside : Bool → ℕ → ℕ → List Tree → Forest Form → Forest Form → (List Tree → Forest Form → Type 0) → Type 0
Inside true base round trees so_far outer Round =
    (below : List Tree) × (now : List Tree) × (trees ≡ below ++ now) × (base ≡ length below) × (so_far ≡ planted_all (reverse now)) × Round below outer
Inside false base round trees so_far outer Round = (base ≡ round) × Round trees so_far

-- The frames are those of the open productions, with the trees so far, the last one first. `trees` are all trees that stand
-- there, the first one first
abbrev pub AreFrames : List Frame → List Open → List Tree → Forest Form → Type 0
AreFrames [] [] trees so_far = so_far ≡ planted_all (reverse trees)
AreFrames [] (o ∷ os) trees so_far = ⊥
AreFrames (f ∷ fs) [] trees so_far = ⊥
AreFrames (f ∷ fs) (o ∷ os) trees so_far =
    IsFrame f o × Inside (sets_aside f.action) f.base (base_of fs) trees so_far o.outer (λ below outer. AreFrames fs os below outer)

-- where the innermost make or group began, among the tokens
abbrev pub start_in : List Frame → ℕ
start_in [] = 0
start_in (f ∷ fs) = f.start

-- the code stands where the machine does
pub record StandsAt (g : Growing) (m : Machine) : Type 0 where
  pub within : AllByRecursion (IsEntryOf (length g.store)) g.entries.items
  pub taken : g.taken ≡ m.taken
  pub frames : AreFrames (reverse g.frames.items) m.open_ones (trees_of g.store g.tokens.now g.entries.items) m.so_far

pub record IsStanding (g : Growing) : Type 0 where
  pub machine : Machine
  pub stands : StandsAt g machine

-- the same, but that the innermost open production was taken off
pub record PoppedAt (g : Growing) (f : Frame) (o : Open) (m : Machine) : Type 0 where
  pub within : AllByRecursion (IsEntryOf (length g.store)) g.entries.items
  pub taken : g.taken ≡ m.taken
  pub frames : AreFrames (f ∷ reverse g.frames.items) (o ∷ m.open_ones) (trees_of g.store g.tokens.now g.entries.items) m.so_far

pub record IsPopped (g : Growing) (f : Frame) : Type 0 where
  pub open_one : Open
  pub machine : Machine
  pub stands : PoppedAt g f open_one machine

-- the tables and the tokens are the same
pub record HasSameTables (old new : Growing) : Type 0 where
  pub actions : new.actions ≡ old.actions
  pub tokens : new.tokens ≡ old.tokens

-- ---- a node is made

-- whether a form keeps brackets, given whether its parts are one expression
abbrev pub keeps_by : Form → Bool → Bool
keeps_by f one = is_among holders_of_actuals f || (is_among (form.Aggregate ∷ form.Qualification ∷ []) f && not one)

pub record IsMakeable (g : Growing) (base : ℕ) : Type 0 where
  pub base_in : base ≤ length g.entries.items
  pub within : AllByRecursion (IsEntryOf (length g.store)) g.entries.items

-- a node of the entries from a base on stands in their place
pub record IsMade (old new : Growing) (f : Form) (base start : ℕ) : Type 0 where
  pub tables : HasSameTables old new
  pub same_frames : new.frames ≡ old.frames
  pub same_taken : new.taken ≡ old.taken
  pub within : AllByRecursion (IsEntryOf (length new.store)) new.entries.items
  pub trees : trees_of new.store new.tokens.now new.entries.items
      ≡ take base (trees_of old.store old.tokens.now old.entries.items)
      ++ record {
        form = f;
        text = [];
        place = place_at old.tokens.now start;
        parts =
            settled (keeps_brackets f (planted_all (drop base (trees_of old.store old.tokens.now old.entries.items))))
            (planted_all (drop base (trees_of old.store old.tokens.now old.entries.items)));
      } ∷ []

-- the code was told these steps
pub record IsGrown (g : Growing) (steps : List Step) : Type 0 where
  pub stands : StandsAt g (run g.actions.now g.tokens.now begun steps)
