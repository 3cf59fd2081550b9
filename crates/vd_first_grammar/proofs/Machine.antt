-- The grammar as items that are still to come: each token opens the first item, and puts others in its place. What
-- opens an item, how deep its token stands and what is asked of a name there depend on that item alone. Where the
-- revisions differ, the items do.
use Rattle.std.proofs.Common.{ℕ, ◌+◌, Bool, true, false, ltb, List, [], ◌∷◌, ◌++◌, Option, Some, None}
use Rattle.std.specs.Prelude.{if◌then◌else◌, ◌&&◌, not, map}
use Rattle.std.specs.Str.{bytes_eq}
use Rattle.vd_trees.specs.declared.revision.Revision.{Revision}
use Rattle.vd_trees.specs.declared.revision.Revision.TheVariants.{V2019, V1993}
use Rattle.vd_first_lex.specs.declared.tokens.Token.{Token}
use Rattle.vd_first_lex.specs.declared.tokens.TheConstants.{ALL, AND, ARCHITECTURE, BEGIN, END, ENTITY, IS, NOT, OF, PROCESS, OPENING, CLOSING, COMMA, COLON, SEMICOLON, ARROW}
use Rattle.vd_first_grammar.specs.Symbols.{Symbol, word, mark, named, ending}
use Rattle.vd_first_grammar.specs.Derivations.{std_ulogic, head_symbols, ports_head_symbols, body_symbols}
use Rattle.vd_first_grammar.specs.Reader.{is, is_name, is_mode, among, Known, no_names, take_name, with_mode, Outcome, got, stuck, deep}

pub data Item : Type 0 where
  fixed : (depth : ℕ) → (s : Symbol) → Item
  entity_name : Item
  port_name : Item
  next_port_name : Item
  -- a further name, or the colon
  names_end : Item
  mode : Item
  -- a further port, or the closing bracket
  ports_end : Item
  -- the name of the entity or of the architecture that ends, or the semicolon
  unit_end : (of_entity : Bool) → Item
  architecture_name : Item
  entity_again : Item
  -- a further process, or the end
  processes_end : (r : Revision) → Item
  -- a name of a sensitivity list
  listed_name : Item
  -- a further one, or the closing bracket
  listed_end : Item
  -- the word `is`, or the word `begin`
  process_begin : Item
  target : Item
  -- a factor, or a primary alone
  operand : (depth : ℕ) → (signed : Bool) → Item
  -- a further operand one deeper, or the mark
  expression_end : (depth : ℕ) → (n : ℕ) → Item

abbrev pub fixed_all : ℕ → List Symbol → List Item
fixed_all d ss = map (fixed d) ss

abbrev pub port_items : List Item
port_items = port_name ∷ names_end ∷ mode ∷ fixed 0 (named std_ulogic) ∷ ports_end ∷ []

abbrev pub sensitivity_items : Revision → List Item
sensitivity_items V2019 = fixed 1 (word ALL) ∷ fixed 1 (mark CLOSING) ∷ []
sensitivity_items V1993 = listed_name ∷ listed_end ∷ []

abbrev pub begin_item : Revision → Item
begin_item V2019 = fixed 1 (word BEGIN)
begin_item V1993 = process_begin

abbrev pub assignment_items : List Item
assignment_items =
    target ∷ fixed 2 (mark ARROW) ∷ operand 3 true ∷ expression_end 2 SEMICOLON
    ∷ fixed 1 (word END) ∷ fixed 1 (word PROCESS) ∷ fixed 1 (mark SEMICOLON) ∷ []

abbrev pub process_items : Revision → List Item
process_items r = fixed 1 (mark OPENING) ∷ (sensitivity_items r ++ (begin_item r ∷ (assignment_items ++ processes_end r ∷ [])))

-- ) ; end entity, behind the bracket
abbrev pub rest_of_ports_foot : List Symbol
rest_of_ports_foot = mark SEMICOLON ∷ word END ∷ word ENTITY ∷ []

-- what may close a unit
abbrev pub closing_item : Revision → Bool → Item
closing_item V2019 of_entity = fixed 0 (mark SEMICOLON)
closing_item V1993 of_entity = unit_end of_entity

abbrev pub file_items : Revision → List Item
file_items r =
    fixed_all 0 head_symbols
    ++ (entity_name
    ∷ (fixed_all 0 ports_head_symbols
    ++ (port_items
    ++ (fixed_all 0 rest_of_ports_foot
    ++ (closing_item r true ∷ fixed 0 (word ARCHITECTURE)
    ∷ architecture_name ∷ fixed 0 (word OF) ∷ entity_again
    ∷ (fixed_all 0 body_symbols
    ++ (processes_end r ∷ fixed 0 (word ARCHITECTURE)
    ∷ closing_item r false ∷ fixed 0 ending ∷ [])))))))

-- the items that stand in the place of one behind the token that opens it
abbrev pub opened : Item → Token → Option (List Item)
opened (fixed d s) t = if is s t then Some [] else None
opened entity_name t = if is_name t then Some [] else None
opened port_name t = if is_name t then Some [] else None
opened next_port_name t = if is_name t then Some [] else None
opened names_end t = if is (mark COMMA) t then Some (next_port_name ∷ names_end ∷ []) else (if is (mark COLON) t then Some [] else None)
opened mode t = if is_mode t then Some [] else None
opened ports_end t = if is (mark SEMICOLON) t then Some port_items else (if is (mark CLOSING) t then Some [] else None)
opened (unit_end of_entity) t = if is_name t then Some (fixed 0 (mark SEMICOLON) ∷ []) else (if is (mark SEMICOLON) t then Some [] else None)
opened architecture_name t = if is_name t then Some [] else None
opened entity_again t = if is_name t then Some [] else None
opened (processes_end r) t = if is (word PROCESS) t then Some (process_items r) else (if is (word END) t then Some [] else None)
opened listed_name t = if is_name t then Some [] else None
opened listed_end t = if is (mark COMMA) t then Some (listed_name ∷ listed_end ∷ []) else (if is (mark CLOSING) t then Some [] else None)
opened process_begin t = if is (word IS) t then Some (fixed 1 (word BEGIN) ∷ []) else (if is (word BEGIN) t then Some [] else None)
opened target t = if is_name t then Some [] else None
opened (operand d signed) t =
    if is_name t then Some []
    else (if is (mark OPENING) t then Some (operand (d + 1) true ∷ expression_end d CLOSING ∷ [])
    else (if signed && is (word NOT) t then Some (operand d false ∷ []) else None))
opened (expression_end d n) t =
    if is (word AND) t then Some (operand (d + 1) true ∷ expression_end d n ∷ []) else (if is (mark n) t then Some [] else None)

-- the depth of the token that opens an item
abbrev pub depth : Item → Token → ℕ
depth (fixed d s) t = d
depth (processes_end r) t = if is (word PROCESS) t then 1 else 0
depth listed_name t = 1
depth listed_end t = 1
depth process_begin t = 1
depth target t = 2
depth (operand d signed) t = d
depth (expression_end d n) t = if is (word AND) t then d + 1 else d
depth _ t = 0

-- what is known of names: the entity's and the architecture's, all that are taken and those of ports, and those of the
-- port that is read
pub record Memory : Type 0 where
  pub entity : List ℕ
  pub architecture : List ℕ
  pub known : Known
  pub texts : List (List ℕ)

abbrev pub no_memory : Bool → Memory
no_memory guarded = record { entity = []; architecture = []; known = no_names guarded; texts = [] }

abbrev pub remember : Memory → Item → Token → Memory
remember m entity_name t = record m { entity = t.text; known = take_name t.text m.known }
remember m port_name t = record m { known = take_name t.text m.known; texts = t.text ∷ [] }
remember m next_port_name t = record m { known = take_name t.text m.known; texts = m.texts ++ t.text ∷ [] }
remember m mode t = record m { known = with_mode m.known m.texts t; texts = [] }
remember m architecture_name t = record m { architecture = t.text }
remember m _ t = m

-- the name of the unit that ends
abbrev pub unit_name : Memory → Bool → List ℕ
unit_name m true = m.entity
unit_name m false = m.architecture

-- what is asked of a name
abbrev pub meets : Memory → Item → Token → Bool
meets m entity_name t = not (among m.known.taken t.text)
meets m port_name t = not (among m.known.taken t.text)
meets m next_port_name t = not (among m.known.taken t.text)
meets m (unit_end of_entity) t = if is_name t then bytes_eq t.text (unit_name m of_entity) else true
meets m architecture_name t = not (among m.known.taken t.text)
meets m entity_again t = bytes_eq t.text m.entity
meets m listed_name t = not (among m.known.outs t.text)
meets m target t = not (among m.known.ins t.text)
meets m (operand d signed) t = if is_name t then not (among m.known.outs t.text) else true
meets m _ t = true

-- ---- reading on until no item is left, or to the first token that does not fit, is too deep or meets no condition

unfoldable pub scan : ℕ → Memory → List Item → List Token → Outcome Memory
scan limit m [] ts = got (m, ts)
scan limit m (i ∷ is) [] = stuck []
scan limit m (i ∷ is) (t ∷ ts) =
    elim (opened i t) [
      | None ↦ stuck (t ∷ ts)
      | Some body ↦ if ltb limit (depth i t) then deep (t ∷ ts) else (if meets m i t then scan limit (remember m i t) (body ++ is) ts else stuck (t ∷ ts))
    ]

-- ---- reading on whatever the depths and conditions: the items that are left, the depths, and whether all conditions hold

pub record Run : Type 0 where
  pub left : Option (List Item)
  pub depths : List ℕ
  pub fair : Bool

abbrev pub misfit : Run
misfit = record { left = None; depths = []; fair = true }

abbrev pub before : List ℕ → Bool → Run → Run
before ds b r = record { left = r.left; depths = ds ++ r.depths; fair = b && r.fair }

unfoldable pub run : Memory → List Item → List Token → Run
run m is [] = record { left = Some is; depths = []; fair = true }
run m [] (t ∷ ts) = misfit
run m (i ∷ is) (t ∷ ts) =
    elim (opened i t) [
      | None ↦ misfit
      | Some body ↦ before (depth i t ∷ []) (meets m i t) (run (remember m i t) (body ++ is) ts)
    ]
