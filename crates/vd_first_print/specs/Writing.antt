-- The tokens of a 1993 tree. A form has tokens in front of its parts, between two of them, and behind them; an operand
-- that is no primary stands in brackets, but not a left operand `and` of an `and`.
use Rattle.std.specs.Prelude.{ℕ, Bool, true, false, ◌||◌, List, [], ◌∷◌, ◌++◌, map}
use Rattle.vd_forest.specs.Forest.{Forest, nothing, more, no_place}
use Rattle.vd_first_trees.specs.declared.form.Form.{Form}
use Rattle.vd_first_trees.specs.declared.form.Form.TheVariants as form
use Rattle.vd_first_trees.specs.Forms.{same_form}
use Rattle.vd_first_lex.specs.declared.tokens.Kind.{Kind}
use Rattle.vd_first_lex.specs.declared.tokens.Kind.TheVariants.{Name, Word, Mark}
use Rattle.vd_first_lex.specs.declared.tokens.Token.{Token}
use Rattle.vd_first_lex.specs.declared.tokens.TheConstants.{ALL, AND, ARCHITECTURE, BEGIN, END, ENTITY, IN, IS, LIBRARY, NOT, OF, OUT, PORT, PROCESS, USE, OPENING, CLOSING, COMMA, POINT, COLON, SEMICOLON, ARROW}
use Rattle.vd_first_print.specs.declared.writing.Position.{Position}
use Rattle.vd_first_print.specs.declared.writing.Position.TheVariants.{First, Second, Later}

-- a word or a mark, whose kind says all
abbrev pub fixed_token : Kind → Token
fixed_token kind = record { kind = kind; text = []; place = no_place }

abbrev pub fixed_tokens : List Kind → List Token
fixed_tokens kinds = map fixed_token kinds

abbrev pub name_token : List ℕ → Token
name_token text = record { kind = Name; text = text; place = no_place }

-- an identifier has its own text
abbrev pub own_tokens : Form → List ℕ → List Token
own_tokens form.Identifier text = name_token text ∷ []
own_tokens _ text = []

-- in front of the parts of a form
abbrev pub in_front : Form → List Kind
in_front form.LibraryClause = Word LIBRARY ∷ []
in_front form.UseClause = Word USE ∷ []
in_front form.All = Word ALL ∷ []
in_front form.EntityDeclaration = Word ENTITY ∷ []
in_front form.PortClause = Word PORT ∷ Mark OPENING ∷ []
in_front form.In = Word IN ∷ []
in_front form.Out = Word OUT ∷ []
in_front form.ArchitectureBody = Word ARCHITECTURE ∷ []
in_front form.ProcessStatement = Word PROCESS ∷ Mark OPENING ∷ []
in_front form.Not = Word NOT ∷ []
in_front form.Is = Word IS ∷ []
in_front _ = []

-- between a part and the next one
abbrev pub between : Form → Position → List Kind
between form.LibraryClause i = Mark COMMA ∷ []
between form.UseClause i = Mark COMMA ∷ []
between form.SelectedName i = Mark POINT ∷ []
between form.EntityDeclaration First = Word IS ∷ []
between form.EntityDeclaration Second = Word END ∷ Word ENTITY ∷ []
between form.EntityDeclaration Later = []
between form.PortClause i = Mark SEMICOLON ∷ []
between form.PortDeclaration First = Mark COLON ∷ []
between form.PortDeclaration Second = []
between form.PortDeclaration Later = []
between form.IdentifierList i = Mark COMMA ∷ []
between form.ArchitectureBody First = Word OF ∷ []
between form.ArchitectureBody Second = Word IS ∷ Word BEGIN ∷ []
between form.ArchitectureBody Later = Word END ∷ Word ARCHITECTURE ∷ []
between form.ProcessStatement First = Mark CLOSING ∷ []
between form.ProcessStatement Second = Word BEGIN ∷ []
between form.ProcessStatement Later = []
between form.SensitivityList i = Mark COMMA ∷ []
between form.SignalAssignment i = Mark ARROW ∷ []
between form.And i = Word AND ∷ []
between _ i = []

abbrev pub next_position : Position → Position
next_position First = Second
next_position _ = Later

-- behind the parts of a form
abbrev pub behind : Form → List Kind
behind form.LibraryClause = Mark SEMICOLON ∷ []
behind form.UseClause = Mark SEMICOLON ∷ []
behind form.EntityDeclaration = Mark SEMICOLON ∷ []
behind form.PortClause = Mark CLOSING ∷ Mark SEMICOLON ∷ []
behind form.ArchitectureBody = Mark SEMICOLON ∷ []
behind form.ProcessStatement = Word END ∷ Word PROCESS ∷ Mark SEMICOLON ∷ []
behind form.SignalAssignment = Mark SEMICOLON ∷ []
behind _ = []

-- whether a part of this form, in this position among its parent's parts, has brackets
abbrev pub has_brackets : Form → Position → Form → Bool
has_brackets form.And First f = same_form f form.Not
has_brackets form.And i f = same_form f form.Not || same_form f form.And
has_brackets form.Not i f = same_form f form.Not || same_form f form.And
has_brackets _ i f = false

abbrev pub in_brackets : Bool → List Token → List Token
in_brackets true ts = fixed_token (Mark OPENING) ∷ ts ++ fixed_token (Mark CLOSING) ∷ []
in_brackets false ts = ts

abbrev pub between_if_more : Form → Position → Forest Form → List Token
between_if_more parent i nothing = []
between_if_more parent i (more f t p parts next) = fixed_tokens (between parent i)

-- the tokens of some parts of a node, the first of which has this position
abbrev pub parts_tokens : Form → Position → Forest Form → List Token
parts_tokens parent i nothing = []
parts_tokens parent i (more f t p parts next) =
    in_brackets (has_brackets parent i f) (own_tokens f t ++ (fixed_tokens (in_front f) ++ (parts_tokens f First parts ++ fixed_tokens (behind f))))
    ++ (between_if_more parent i next ++ parts_tokens parent (next_position i) next)

-- the tokens of a file's design units
abbrev pub design_tokens : Forest Form → List Token
design_tokens units = parts_tokens form.StatementPart First units
