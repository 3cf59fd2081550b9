-- A list of names has one end, if no comma follows it, and a port has one end.
use Rattle.std.proofs.Common.{◌≡◌, List, [], ◌∷◌, ◌++◌, sym, ◌∙◌, append_assoc, arith}
use Rattle.std.specs.List.{flat_map, AllByRecursion}
use Rattle.vd_first_lex.specs.declared.tokens.Token.{Token}
use Rattle.vd_first_lex.specs.declared.tokens.TheConstants.{COMMA, COLON, SEMICOLON}
use Rattle.vd_first_grammar.specs.Symbols.{mark, Is}
use Rattle.vd_first_grammar.specs.Derivations.{Further, Names, IsFurtherName, AreNames, further_name_tokens, names_tokens, Port, IsPort, port_tokens, IsFurtherPort, further_port_tokens}
use Rattle.vd_first_unambiguous.proofs.Cuts.{first_same, rest_same, Cuts, CutsBefore, list_cuts}
use Rattle.vd_first_unambiguous.proofs.OneKind.{other_mark}

-- ---- names

further_same : {X : Type 0} (f g : Further X) → f.sign ≡ g.sign → f.item ≡ g.item → f ≡ g
further_same f g sign item = λ i. record { sign = sign i; item = item i }

further_name_cuts : Cuts further_name_tokens IsFurtherName
further_name_cuts f g p q h k same =
    let others = rest_same f.sign g.sign _ _ same in
    (further_same f g (first_same f.sign g.sign _ _ same) (first_same f.item g.item p q others), rest_same f.item g.item p q others)

names_same : (ns ms : Names) → ns.first ≡ ms.first → ns.others ≡ ms.others → ns ≡ ms
names_same ns ms first others = λ i. record { first = first i; others = others i }

pub names_cuts : CutsBefore (Is (mark COMMA)) names_tokens AreNames
names_cuts ns ms p q h k ends ends' same =
    let cut = list_cuts (Is (mark COMMA)) further_name_tokens IsFurtherName further_name_cuts (λ f ts good. good.0) ns.others ms.others p q h.1 k.1 ends ends' (rest_same ns.first ms.first _ _ same) in
    (names_same ns ms (first_same ns.first ms.first _ _ same) cut.0, cut.1)

-- ---- ports

port_same : (x y : Port) → x.names ≡ y.names → x.colon ≡ y.colon → x.mode ≡ y.mode → x.subtype ≡ y.subtype → x ≡ y
port_same x y names colon mode subtype = λ i. record { names = names i; colon = colon i; mode = mode i; subtype = subtype i }

port_split : (x : Port) (p : List Token) → port_tokens x ++ p ≡ names_tokens x.names ++ (x.colon ∷ x.mode ∷ x.subtype ∷ p)
port_split x p = append_assoc (names_tokens x.names) (x.colon ∷ x.mode ∷ x.subtype ∷ []) p

pub port_cuts : Cuts port_tokens IsPort
port_cuts x y p q h k same =
    let cut = names_cuts x.names y.names (x.colon ∷ x.mode ∷ x.subtype ∷ p) (y.colon ∷ y.mode ∷ y.subtype ∷ q) h.0 k.0
    (λ is_comma. other_mark COLON COMMA (omega arith) x.colon h.1 is_comma) (λ is_comma. other_mark COLON COMMA (omega arith) y.colon k.1 is_comma)
    (sym (port_split x p) ∙ same ∙ port_split y q) in
    let after = rest_same x.colon y.colon _ _ cut.1 in
    let last = rest_same x.mode y.mode _ _ after in
    (port_same x y cut.0 (first_same x.colon y.colon _ _ cut.1) (first_same x.mode y.mode _ _ after) (first_same x.subtype y.subtype p q last), rest_same x.subtype y.subtype p q last)

further_port_cuts : Cuts further_port_tokens IsFurtherPort
further_port_cuts f g p q h k same =
    let cut = port_cuts f.item g.item p q h.1 k.1 (rest_same f.sign g.sign _ _ same) in
    (further_same f g (first_same f.sign g.sign _ _ same) cut.0, cut.1)

pub further_ports_cuts : CutsBefore (Is (mark SEMICOLON)) (flat_map further_port_tokens) (AllByRecursion IsFurtherPort)
further_ports_cuts = list_cuts (Is (mark SEMICOLON)) further_port_tokens IsFurtherPort further_port_cuts (λ f ts good. good.0)
