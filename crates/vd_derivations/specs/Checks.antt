-- When rows lead back: what a template derives, leaves and writes is computed with names in place of the parts, and has to be what is
-- wanted. So the check is one equation of lists for a whole table.
use Rattle.std.specs.Prelude.{ℕ, zero, suc, Bool, true, false, ◌&&◌, ◌||◌, not, nat_eq, nat_lt, List, [], ◌∷◌, ◌++◌, length, map, Option, Some, None, is_none, slice_index_or, if◌then◌else◌}
use Rattle.std.specs.List.{list_all}
use Rattle.vd_trees.specs.declared.revision.Revision.TheVariants.{V1993}
use Rattle.vd_tokens.specs.declared.kinds.Kind.{Kind}
use Rattle.vd_gram.specs.declared.tables.Table.{Table}
use Rattle.vd_gram.specs.Claims.{is_terminal}
use Rattle.vd_forms.specs.declared.form.Form.{Form}
use Rattle.vd_forms.specs.declared.form.Form.TheVariants as form
use Rattle.vd_forms.specs.Forms.{form_number, same_form, is_among}
use Rattle.vd_forms.specs.Slots.{Slot, One, Many, slots_of}
use Rattle.vd_forms.specs.Validity.{leaf_kind, holders_of_actuals}
use Rattle.vd_shapes.specs.declared.actions.Action.{Action}
use Rattle.vd_shapes.specs.declared.actions.Action.TheVariants.{Splice, Make, Wrap, Group}
use Rattle.vd_shapes.specs.Shapes.{leaf_form, action_of}
use Rattle.vd_shapes.specs.Reading.{symbol_of}
use Rattle.vd_templates.specs.declared.pieces.Piece.{Piece}
use Rattle.vd_templates.specs.declared.pieces.Piece.TheVariants.{Of, AnyOther, Token, Own, Itself, Part, Listed, Parts, Nothing, EndLine, Inward, Outward}
use Rattle.vd_templates.specs.declared.states.TheConstants.{AS_IT_IS}
use Rattle.vd_templates.specs.Templates.{row_of, kind_at}
use Rattle.vd_derivations.specs.Rows.{Template, done, rest, step, token, own, hole, each, Row, Standpoint, point, stands, is_laid}

-- ---- what is written

-- a piece without the lines: a token, the own text, a part in a state, the parts from one on, the tree itself in a state, what follows in
-- the chain
pub data Bit : Type 0 where
  token_bit : (symbol : ℕ) → Bit
  own_bit : (kind : Option Kind) → Bit
  part_bit : (number : ℕ) → (state : ℕ) → Bit
  parts_bit : (from : ℕ) → (separators : List ℕ) → Bit
  self_bit : (state : ℕ) → Bit
  rest_bit : Bit

-- the bits of a row, with those of the tree as it is in the place of `Itself`
abbrev pub bits_with : Form → List Bit → List Piece → List Bit
bits_with f itself [] = []
bits_with f itself (Of _ _ ∷ ps) = bits_with f itself ps
bits_with f itself (AnyOther _ ∷ ps) = bits_with f itself ps
bits_with f itself (Token n ∷ ps) = token_bit n ∷ bits_with f itself ps
bits_with f itself (Own ∷ ps) = own_bit (leaf_kind f) ∷ bits_with f itself ps
bits_with f itself (Itself ∷ ps) = itself ++ bits_with f itself ps
bits_with f itself (Part i s ∷ ps) = part_bit i s ∷ bits_with f itself ps
bits_with f itself (Listed j n ∷ ps) = parts_bit j (n ∷ []) ∷ bits_with f itself ps
bits_with f itself (Parts j ∷ ps) = parts_bit j [] ∷ bits_with f itself ps
bits_with f itself (Nothing ∷ ps) = bits_with f itself ps
bits_with f itself (EndLine ∷ ps) = bits_with f itself ps
bits_with f itself (Inward ∷ ps) = bits_with f itself ps
bits_with f itself (Outward ∷ ps) = bits_with f itself ps

-- all that is written in a state
abbrev pub bits_of : ℕ → Form → List Bit
bits_of state f =
    elim (nat_eq state AS_IT_IS) [ true ↦ bits_with f [] (row_of AS_IT_IS f) | false ↦ bits_with f (bits_with f [] (row_of AS_IT_IS f)) (row_of state f) ]

-- the same with the tree as it is
abbrev pub bits_round : ℕ → Form → List Bit
bits_round state f = elim (nat_eq state AS_IT_IS) [ true ↦ self_bit AS_IT_IS ∷ [] | false ↦ bits_with f (self_bit AS_IT_IS ∷ []) (row_of state f) ]

-- what a tree in one state is, where another state is left as it stands
abbrev pub bits_within : ℕ → ℕ → Form → List Bit
bits_within kept state f = elim (nat_eq state kept) [ true ↦ self_bit state ∷ [] | false ↦ bits_round state f ]

abbrev pub bits_opened : ℕ → Form → List Bit → List Bit
bits_opened kept f [] = []
bits_opened kept f (self_bit state ∷ bs) = bits_within kept state f ++ bits_opened kept f bs
bits_opened kept f (b ∷ bs) = b ∷ bits_opened kept f bs

-- ---- what is left among the trees so far

-- trees that aren't known, the last one first: those of the holes, nodes and leaves that are made, all parts from one on, what is left
-- behind trees by what follows in the chain
pub data Named : Type 0 where
  nil : Named
  base : Named
  ref : (number : ℕ) → (next : Named) → Named
  made : (form : Form) → (parts : Named) → (next : Named) → Named
  leaf : (form : Form) → (next : Named) → Named
  from : (number : ℕ) → (next : Named) → Named
  after : (before : Named) → (next : Named) → Named
  both : (first : Named) → (next : Named) → Named

abbrev pub joined_names : Named → Named → Named
joined_names nil m = m
joined_names base m = both base m
joined_names (ref r n) m = ref r (joined_names n m)
joined_names (made f a n) m = made f a (joined_names n m)
joined_names (leaf f n) m = leaf f (joined_names n m)
joined_names (from j n) m = from j (joined_names n m)
joined_names (after a n) m = after a (joined_names n m)
joined_names (both a n) m = both a (joined_names n m)

abbrev pub acted_names : Action → (Named → Named) → Named → Named
acted_names Splice inner x = inner x
acted_names (Make f) inner x = made f (inner nil) x
acted_names (Wrap f) inner x = made f (inner x) nil
acted_names Group inner x = joined_names (inner nil) x

abbrev pub leaf_name : Option Form → Named → Named
leaf_name None x = x
leaf_name (Some f) x = leaf f x

abbrev pub hole_name : Option ℕ → ℕ → (Named → Named) → Named → Named
hole_name None r inner x = ref r x
hole_name (Some c) r inner x = joined_names (inner (ref r nil)) x

-- the first holes for parts, the last one first
abbrev pub first_parts : ℕ → Named
first_parts zero = nil
first_parts (suc i) = ref (suc i) (first_parts i)

-- ---- what is derived

-- lists that have to be equal
pub data Facts : Type 0 where
  no_facts : Facts
  fact : (list : List ℕ) → (first : Facts) → (next : Facts) → Facts

abbrev pub flag : Bool → ℕ
flag true = 1
flag false = 0

abbrev pub is_splice : Action → Bool
is_splice Splice = true
is_splice (Make f) = false
is_splice (Wrap f) = false
is_splice Group = false

abbrev pub tail_symbols : Option ℕ → List ℕ
tail_symbols None = []
tail_symbols (Some c) = c ∷ []

abbrev pub is_done : Template → Bool
is_done done = true
is_done rest = false
is_done (step q a b) = false
is_done (token n b) = false
is_done (own k b) = false
is_done (hole r s d b) = false
is_done (each j s pc sep pn b) = false

-- the symbols of a chain, or what a hole without a chain must not have
abbrev pub chain_symbols : Option ℕ → List ℕ → Bool → List ℕ
chain_symbols None symbols bare = flag bare ∷ []
chain_symbols (Some c) symbols bare = symbols

abbrev pub chain_wanted : Option ℕ → List ℕ
chain_wanted None = 1 ∷ []
chain_wanted (Some c) = c ∷ []

abbrev pub left_of : List ℕ → ℕ
left_of [] = 0
left_of (x ∷ xs) = x

-- the one member with a number, as a list
abbrev pub member_at : List ℕ → ℕ → List ℕ
member_at [] i = []
member_at (x ∷ xs) zero = x ∷ []
member_at (x ∷ xs) (suc i) = member_at xs i

abbrev pub symbols_at : List ℕ → List ℕ
symbols_at ns = map (λ n. symbol_of (kind_at n)) ns

-- ---- parts and slots

-- the forms that a part may have
abbrev pub slot_at : List Slot → ℕ → List Form
slot_at [] i = []
slot_at (One fs ∷ ss) zero = fs
slot_at (One fs ∷ ss) (suc i) = slot_at ss i
slot_at (Many fs ∷ ss) i = fs

-- so many parts, and perhaps any number more
abbrev pub has_parts : List Slot → List ℕ → Bool → Bool
has_parts [] [] many = not many
has_parts [] (p ∷ ps) many = false
has_parts (One fs ∷ ss) [] many = false
has_parts (One fs ∷ ss) (p ∷ ps) many = has_parts ss ps many
has_parts (Many fs ∷ []) [] many = many
has_parts (Many fs ∷ []) (p ∷ ps) many = false
has_parts (Many fs ∷ s ∷ ss) ps many = false

abbrev pub behind_first : List ℕ → List ℕ
behind_first [] = []
behind_first (p ∷ ps) = ps

-- the numbers of forms that revision 2019 alone has
abbrev pub is_late : ℕ → Bool
is_late n =
    elim (nat_lt n 93) [ true ↦ elim (nat_lt n 49) [ true ↦ elim (nat_lt n 22) [ true ↦ elim (nat_lt n 9) [ true ↦ elim (nat_lt n 4) [ true ↦ false | false ↦ true ] | false ↦ elim (nat_lt n 21) [ true ↦ false | false ↦ true ] ] | false ↦ elim (nat_lt n 32) [ true ↦ elim (nat_lt n 27) [ true ↦ false | false ↦ elim (nat_lt n 29) [ true ↦ true | false ↦ elim (nat_lt n 31) [ true ↦ false | false ↦ true ] ] ] | false ↦ elim (nat_lt n 41) [ true ↦ false | false ↦ elim (nat_lt n 42) [ true ↦ true | false ↦ false ] ] ] ] | false ↦ elim (nat_lt n 64) [ true ↦ elim (nat_lt n 53) [ true ↦ true | false ↦ elim (nat_lt n 62) [ true ↦ false | false ↦ true ] ] | false ↦ elim (nat_lt n 78) [ true ↦ false | false ↦ elim (nat_lt n 81) [ true ↦ true | false ↦ false ] ] ] ] | false ↦ elim (nat_lt n 130) [ true ↦ elim (nat_lt n 112) [ true ↦ elim (nat_lt n 103) [ true ↦ elim (nat_lt n 98) [ true ↦ elim (nat_lt n 94) [ true ↦ true | false ↦ elim (nat_lt n 97) [ true ↦ false | false ↦ true ] ] | false ↦ false ] | false ↦ elim (nat_lt n 104) [ true ↦ true | false ↦ false ] ] | false ↦ elim (nat_lt n 117) [ true ↦ elim (nat_lt n 114) [ true ↦ elim (nat_lt n 113) [ true ↦ true | false ↦ false ] | false ↦ true ] | false ↦ elim (nat_lt n 129) [ true ↦ false | false ↦ true ] ] ] | false ↦ elim (nat_lt n 148) [ true ↦ elim (nat_lt n 142) [ true ↦ false | false ↦ true ] | false ↦ elim (nat_lt n 165) [ true ↦ false | false ↦ elim (nat_lt n 171) [ true ↦ true | false ↦ false ] ] ] ] ]

-- a form that may keep brackets of its parts
abbrev pub is_keeper : Form → Bool
is_keeper f = is_among holders_of_actuals f || is_among (form.Aggregate ∷ form.Qualification ∷ []) f

-- all parts of the row, the last one first
abbrev pub all_parts : Row → Named
all_parts r = if r.many then from (length (behind_first r.places)) (first_parts (length (behind_first r.places))) else first_parts (length (behind_first r.places))

abbrev pub made_or_leaf : Form → Option Kind → Named → Named → Named
made_or_leaf f None parts next = made f parts next
made_or_leaf f (Some k) parts next = leaf f next

abbrev pub round_or_not : Bool → Named → Named
round_or_not true next = made form.Aggregate (ref 0 nil) next
round_or_not false next = ref 0 next

-- a tree that is written in brackets at this place alone gets them here
abbrev pub brackets_fit : Form → Bool → Bool → Bool → Bool
brackets_fit f true true false = not (same_form f form.Aggregate)
brackets_fit f false true true = true
brackets_fit f false false false = true
brackets_fit f true true true = false
brackets_fit f true false c = false
brackets_fit f false true false = false
brackets_fit f false false true = false

-- the tree itself has a place
abbrev pub has_first : List ℕ → Bool
has_first [] = false
has_first (p ∷ ps) = true

-- a leaf has no parts
abbrev pub leaf_fits : Option Kind → Row → Bool
leaf_fits None r = true
leaf_fits (Some k) r = nat_eq (length (behind_first r.places)) 0 && not r.many

-- what is wanted in front of the end of a chain
abbrev pub tail_bits : Option ℕ → List Bit
tail_bits None = []
tail_bits (Some c) = rest_bit ∷ []

module _ (t : Table) (rows : List (List ℕ)) (actions : List Action) (standpoints : List Standpoint) where
  abbrev pub production_at : ℕ → List ℕ
  production_at q = slice_index_or rows q []

  -- words and marks, which leave nothing
  abbrev pub is_silent : ℕ → Bool
  is_silent n = is_terminal t (symbol_of (kind_at n)) && is_none (leaf_form (symbol_of (kind_at n)))

  -- the template is run on the trees so far
  abbrev pub left_by : Template → Named → Named
  left_by done x = x
  left_by rest x = after x nil
  left_by (step q a b) x = left_by b (acted_names (action_of actions [] q) (left_by a) x)
  left_by (token n b) x = left_by b x
  left_by (own k b) x = left_by b (leaf_name (leaf_form (symbol_of k)) x)
  left_by (hole r s d b) x = left_by b (hole_name (point standpoints s).tail r (left_by d) x)
  left_by (each j s pc sep pn b) x = left_by b (from j x)

  module _ (tail : Option ℕ) (places : List ℕ) where
    -- the symbols that it derives
    abbrev pub symbols : Template → List ℕ
    symbols done = []
    symbols rest = tail_symbols tail
    symbols (step q a b) = left_of (production_at q) ∷ symbols b
    symbols (token n b) = symbol_of (kind_at n) ∷ symbols b
    symbols (own k b) = symbol_of k ∷ symbols b
    symbols (hole r s d b) = (point standpoints s).head ∷ symbols b
    symbols (each j s pc sep pn b) = left_of (production_at pn) ∷ symbols b

    abbrev pub has : Template → Facts
    has done = no_facts
    has rest = no_facts
    has (step q a b) = fact (left_of (production_at q) ∷ symbols a) (has a) (has b)
    has (token n b) = fact (flag (is_silent n) ∷ []) no_facts (has b)
    has (own k b) = fact (flag (is_terminal t (symbol_of k)) ∷ []) no_facts (has b)
    has (hole r s d b) = fact (s ∷ []) (fact (chain_symbols (point standpoints s).tail (symbols d) (is_done d)) no_facts (has d)) (has b)
    has (each j s pc sep pn b) =
        fact
        (suc j ∷ (point standpoints s).state ∷ flag (is_none (point standpoints s).tail) ∷ flag (is_splice (action_of actions [] pc)) ∷ flag (is_splice (action_of actions [] pn))
        ∷ flag (list_all is_silent sep) ∷ [])
        (fact (production_at pc) no_facts (fact (production_at pn) no_facts no_facts)) (has b)

    abbrev pub wants : Template → Facts
    wants done = no_facts
    wants rest = no_facts
    wants (step q a b) = fact (production_at q) (wants a) (wants b)
    wants (token n b) = fact (1 ∷ []) no_facts (wants b)
    wants (own k b) = fact (1 ∷ []) no_facts (wants b)
    wants (hole r s d b) = fact (member_at places r) (fact (chain_wanted (point standpoints s).tail) no_facts (wants d)) (wants b)
    wants (each j s pc sep pn b) =
        fact (length places ∷ AS_IT_IS ∷ 1 ∷ 1 ∷ 1 ∷ 1 ∷ [])
        (fact (left_of (production_at pn) ∷ symbols_at sep ++ (point standpoints s).head ∷ left_of (production_at pn) ∷ []) no_facts
        (fact (left_of (production_at pn) ∷ []) no_facts no_facts))
        (wants b)

  -- what it writes
  abbrev pub hole_bits : ℕ → ℕ → List Bit
  hole_bits zero state = self_bit state ∷ []
  hole_bits (suc i) state = part_bit i state ∷ []

  abbrev pub bits : Template → List Bit
  bits done = []
  bits rest = rest_bit ∷ []
  bits (step q a b) = bits a ++ bits b
  bits (token n b) = token_bit n ∷ bits b
  bits (own k b) = own_bit (Some k) ∷ bits b
  bits (hole r s d b) = hole_bits r (point standpoints s).state ++ (bits d ++ bits b)
  bits (each j s pc sep pn b) = parts_bit j sep ∷ bits b

  -- the tree itself has the only holes
  abbrev pub self_alone : Template → Bool
  self_alone done = true
  self_alone rest = true
  self_alone (step q x y) = self_alone x && self_alone y
  self_alone (token n y) = self_alone y
  self_alone (own k y) = self_alone y
  self_alone (hole zero s d y) = self_alone d && self_alone y
  self_alone (hole (suc r) s d y) = false
  self_alone (each j s pc sep pn y) = false

  -- where the tree itself stands
  abbrev pub place_within : Row → Standpoint
  place_within r = point standpoints (left_of r.places)

  -- ---- a row for a form

  module _ (f : Form) where
    -- a form of the revision may stand there, and has no brackets there where none may be written
    abbrev pub can_be_there : Bool → ℕ → Form → Bool
    can_be_there unlaid s g =
        elim (is_late (form_number g)) [
          | true ↦ true
          | false ↦
              elim (stands standpoints s g) [ true ↦ elim unlaid [ true ↦ not (is_laid (point standpoints s).state g) | false ↦ true ] | false ↦ false ]
        ]

    abbrev pub all_stand : Bool → ℕ → List Form → Bool
    all_stand unlaid s fs = list_all (can_be_there unlaid s) fs

    abbrev pub holes_stand : List Slot → Template → Bool
    holes_stand slots done = true
    holes_stand slots rest = true
    holes_stand slots (step q a b) = holes_stand slots a && holes_stand slots b
    holes_stand slots (token n b) = holes_stand slots b
    holes_stand slots (own k b) = holes_stand slots b
    holes_stand slots (hole zero s d b) = false
    holes_stand slots (hole (suc i) s d b) = holes_stand slots d && holes_stand slots b
    holes_stand slots (each j s pc sep pn b) = all_stand true s (slot_at slots j) && holes_stand slots b

    -- each part may stand at its place
    abbrev pub places_stand : List Slot → List ℕ → Bool
    places_stand [] ps = true
    places_stand (One fs ∷ ss) [] = true
    places_stand (One fs ∷ ss) (p ∷ ps) = all_stand (is_keeper f) p fs && places_stand ss ps
    places_stand (Many fs ∷ ss) ps = true

    abbrev pub fits_parts : Row → Bool
    fits_parts r =
        has_parts (slots_of V1993 f) (behind_first r.places) r.many
        && (places_stand (slots_of V1993 f) (behind_first r.places) && (holes_stand (slots_of V1993 f) r.template && leaf_fits (leaf_kind f) r))

    abbrev pub fits_row : Standpoint → Row → Bool
    fits_row s r =
        elim r.up [
          | true ↦ stands standpoints (left_of r.places) f && brackets_fit f r.round (is_laid s.state f) (is_laid (place_within r).state f)
          | false ↦ fits_parts r && not (is_laid s.state f)
        ]

    abbrev pub row_writes : Standpoint → Row → List Bit
    row_writes s r = elim r.up [ true ↦ bits_opened s.state f (bits r.template) | false ↦ bits r.template ]

    abbrev pub wanted_bits : Standpoint → Row → List Bit
    wanted_bits s r = elim r.up [ true ↦ bits_within (place_within r).state s.state f | false ↦ bits_of s.state f ] ++ tail_bits s.tail

  abbrev pub tree_name : Row → List Form → Named → Named
  tree_name r [] next = nil
  tree_name r (f ∷ fs) next = elim r.up [ true ↦ round_or_not r.round next | false ↦ made_or_leaf f (leaf_kind f) (all_parts r) next ]

  abbrev pub wanted_name : Option ℕ → Row → Named
  wanted_name None r = tree_name r r.forms base
  wanted_name (Some c) r = after (tree_name r r.forms nil) base

  abbrev pub is_one : List Form → Bool
  is_one [] = false
  is_one (f ∷ []) = true
  is_one (f ∷ g ∷ fs) = false

  abbrev pub row_fits : Standpoint → Row → Bool
  row_fits s r = elim r.up [ true ↦ has_first r.places && (nat_lt (place_within r).level s.level && self_alone r.template) | false ↦ is_one r.forms ]

  -- what is computed of a row and a form, and what is wanted
  pub record Answer : Type 0 where
    pub writes : List Bit
    pub fits : Bool

  abbrev pub answer : Standpoint → Row → Form → Answer
  answer s r f = record { writes = row_writes f s r; fits = fits_row f s r }

  abbrev pub wanted_answer : Standpoint → Row → Form → Answer
  wanted_answer s r f = record { writes = wanted_bits f s r; fits = true }

  -- what is computed of a row
  pub record RowAnswer : Type 0 where
    pub derives : List ℕ
    pub facts : Facts
    pub leaves : Named
    pub fits : Bool
    pub answers : List Answer

  abbrev pub row_answer : Standpoint → Row → RowAnswer
  row_answer s r = record {
    derives = symbols s.tail r.places r.template;
    facts = has s.tail r.places r.template;
    leaves = left_by r.template base;
    fits = row_fits s r;
    answers = map (answer s r) r.forms;
  }

  abbrev pub wanted_row_answer : Standpoint → Row → RowAnswer
  wanted_row_answer s r = record {
    derives = s.head ∷ [];
    facts = wants s.tail r.places r.template;
    leaves = wanted_name s.tail r;
    fits = true;
    answers = map (wanted_answer s r) r.forms;
  }

  abbrev pub answers_at : Standpoint → List RowAnswer
  answers_at s = map (row_answer s) s.rows

  abbrev pub wanted_at : Standpoint → List RowAnswer
  wanted_at s = map (wanted_row_answer s) s.rows
