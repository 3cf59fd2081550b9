-- The worked example as a derivation, and what the definitions alone make of it.
use Rattle.std.specs.Prelude.{◌≡◌, ◌==◌, ℕ, List, [], ◌∷◌, ◌++◌, map, codes, None, if◌then◌else◌}
use Rattle.std.specs.List.{flat_map}
use Rattle.vd_bytes.specs.declared.places.Place.{Place}
use Rattle.vd_first_lex.specs.declared.tokens.Kind.{Kind}
use Rattle.vd_first_lex.specs.declared.tokens.Kind.TheVariants.{Name, Word, Mark, End}
use Rattle.vd_first_lex.specs.declared.tokens.Token.{Token}
use Rattle.vd_first_lex.specs.declared.tokens.TheConstants.{ALL, AND, ARCHITECTURE, BEGIN, END, ENTITY, IN, IS, LIBRARY, OF, OUT, PORT, PROCESS, USE, OPENING, CLOSING, COMMA, POINT, COLON, SEMICOLON, ARROW}
use Rattle.vd_first_grammar.specs.Derivations.{File, Port, Process, name, conjoined, every}

-- places are left out, as nothing that is written depends on them
abbrev pub nowhere : Place
nowhere = record { file = 0; line = 1; column = 1 }

abbrev pub leaf : Kind → List ℕ → Token
leaf k text = record { kind = k; text = text; place = nowhere }

abbrev pub w : ℕ → Token
w n = leaf (Word n) []

abbrev pub m : ℕ → Token
m n = leaf (Mark n) []

abbrev pub n : List ℕ → Token
n text = leaf Name text

-- a, b : in std_ulogic
abbrev pub inputs : Port
inputs = record {
  names = record { first = n (codes "a"); others = record { sign = m COMMA; item = n (codes "b") } ∷ [] };
  colon = m COLON;
  mode = w IN;
  subtype = n (codes "std_ulogic");
}

-- y : out std_ulogic
abbrev pub output : Port
output = record {
  names = record { first = n (codes "y"); others = [] };
  colon = m COLON;
  mode = w OUT;
  subtype = n (codes "std_ulogic");
}

-- process (all) begin y <= a and b; end process;
abbrev pub body : Process
body = record {
  head = w PROCESS ∷ m OPENING ∷ [];
  sensitivity = every (w ALL);
  closing = m CLOSING;
  is_word = None;
  begin_word = w BEGIN;
  target = n (codes "y");
  arrow = m ARROW;
  value = conjoined (name (n (codes "a"))) (w AND) (name (n (codes "b")));
  foot = m SEMICOLON ∷ w END ∷ w PROCESS ∷ m SEMICOLON ∷ [];
}

abbrev pub example : File
example = record {
  head =
      w LIBRARY ∷ n (codes "ieee") ∷ m SEMICOLON
      ∷ w USE ∷ n (codes "ieee") ∷ m POINT ∷ n (codes "std_logic_1164") ∷ m POINT ∷ w ALL ∷ m SEMICOLON
      ∷ w ENTITY ∷ [];
  entity = n (codes "e");
  ports_head = w IS ∷ w PORT ∷ m OPENING ∷ [];
  first_port = inputs;
  other_ports = record { sign = m SEMICOLON; item = output } ∷ [];
  ports_foot = m CLOSING ∷ m SEMICOLON ∷ w END ∷ w ENTITY ∷ [];
  entity_closing = None;
  architecture_head = m SEMICOLON ∷ w ARCHITECTURE ∷ [];
  architecture = n (codes "rtl");
  of_word = w OF;
  of_entity = n (codes "e");
  body_head = w IS ∷ w BEGIN ∷ [];
  processes = body ∷ [];
  foot = w END ∷ w ARCHITECTURE ∷ [];
  architecture_closing = None;
  last = m SEMICOLON ∷ leaf End [] ∷ [];
}

-- lines, each with its end (10)
abbrev pub text_of_lines : List (List ℕ) → List ℕ
text_of_lines lines = flat_map (λ line. line ++ 10 ∷ []) lines

-- an apostrophe (39) stands for a quotation mark (34)
abbrev pub with_quotation_marks : List ℕ → List ℕ
with_quotation_marks text = map (λ b. if b == 39 then 34 else b) text

abbrev pub IsItsDesign : List ℕ → Type 0
IsItsDesign design =
    design
    ≡ text_of_lines (codes "library ieee;"
    ∷ codes "use ieee.std_logic_1164.all;"
    ∷ codes "entity e is"
    ∷ codes "  port (a : in std_ulogic; b : in std_ulogic; y : out std_ulogic);"
    ∷ codes "end entity e;"
    ∷ codes "architecture rtl of e is"
    ∷ codes "begin"
    ∷ codes "  process (a, b) is"
    ∷ codes "  begin"
    ∷ codes "    y <= a and b;"
    ∷ codes "  end process;"
    ∷ codes "end architecture rtl;"
    ∷ [])

abbrev pub IsItsMap : List ℕ → Type 0
IsItsMap text =
    text
    ≡ with_quotation_marks (codes "{'format':1,'rows':[['port','e','a','a','std_ulogic','in'],['port','e','b','b','std_ulogic','in'],['port','e','y','y','std_ulogic','out']]}")
    ++ 10 ∷ []
