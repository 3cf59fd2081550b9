-- A derivation fits every list of tokens that is its own up to places.
use Rattle.std.proofs.Common.{◌≡◌, List, [], ◌∷◌, ◌++◌, map, Option, Some, None, refl, sym, ap, ◌∙◌}
use Rattle.std.specs.List.{flat_map}
use Rattle.std.proofs.lemmas.List.{map-append}
use Rattle.vd_first_lex.specs.declared.tokens.Token.{Token}
use Rattle.vd_first_grammar.specs.Derivations.{Expression, name, brackets, inverted, conjoined, expression_tokens, Further, Names, names_tokens, Port, port_tokens, Sensitivity, every, listed, sensitivity_tokens, optional_tokens, Process, process_tokens, File, file_tokens}
use Rattle.vd_first_print.specs.ReadingBack.{placeless, all_placeless}
use Rattle.vd_first_written.proofs.Placeless.{placeless_expression, placeless_further, placeless_names, placeless_port, placeless_sensitivity, placeless_option, placeless_process, placeless_file}

-- a derivation with these tokens, which is the given one once its places are dropped: the given one has none
pub record Filled {X : Type 0} (tokens_of : X → List Token) (without : X → X) (x : X) (us : List Token) : Type 0 where
  pub new : X
  pub tokens : tokens_of new ≡ us
  pub same : without new ≡ x

-- ---- lists of tokens without their places, piece by piece

record Split (xs ys us : List Token) : Type 0 where
  front : List Token
  back : List Token
  whole : front ++ back ≡ us
  first : all_placeless front ≡ xs
  second : ys ≡ all_placeless back

split : (xs ys us : List Token) → xs ++ ys ≡ all_placeless us → Split xs ys us
split [] ys us h = record { front = []; back = us; whole = refl; first = refl; second = h }
split (x ∷ xs) ys [] h = cc
split (x ∷ xs) ys (u ∷ us) h =
    let rest : xs ++ ys ≡ all_placeless us = cc in
    let same : placeless u ≡ x = cc in
    let s = split xs ys us rest in
    record { front = u ∷ s.front; back = s.back; whole = ap (λ ts. u ∷ ts) s.whole; first = λ i. same i ∷ s.first i; second = s.second }

record Begun (x : Token) (ys us : List Token) : Type 0 where
  first_token : Token
  back : List Token
  whole : first_token ∷ back ≡ us
  first : placeless first_token ≡ x
  second : ys ≡ all_placeless back

begun : (x : Token) (ys us : List Token) → x ∷ ys ≡ all_placeless us → Begun x ys us
begun x ys [] h = cc
begun x ys (u ∷ us) h =
    let rest : ys ≡ all_placeless us = cc in
    let same : placeless u ≡ x = cc in
    record { first_token = u; back = us; whole = refl; first = same; second = rest }

none_left : (us : List Token) → [] ≡ all_placeless us → us ≡ []
none_left [] h = refl
none_left (u ∷ us) h = cc

-- tokens, and others behind them
glued : {new front after back us : List Token} → new ≡ front → after ≡ back → front ++ back ≡ us → new ++ after ≡ us
glued h k whole = (λ i. h i ++ k i) ∙ whole

begins : {t : Token} {after back us : List Token} → after ≡ back → t ∷ back ≡ us → t ∷ after ≡ us
begins {t = t} k whole = ap (λ ts. t ∷ ts) k ∙ whole

-- and no others
ends : {t : Token} {back us : List Token} → back ≡ [] → t ∷ back ≡ us → t ∷ [] ≡ us
ends k whole = begins (sym k) whole

-- ---- expressions

pub expression_filled : (e : Expression) (us : List Token) → expression_tokens e ≡ all_placeless us → Filled expression_tokens placeless_expression e us
expression_filled (name t) us h =
    let a = begun t [] us h in
    let none = none_left a.back a.second in
    record { new = name a.first_token; tokens = ends none a.whole; same = ap name a.first }
expression_filled (brackets o e c) us h =
    let a = begun o (expression_tokens e ++ c ∷ []) us h in
    let s = split (expression_tokens e) (c ∷ []) a.back a.second in
    let r = expression_filled e s.front (sym s.first) in
    let b = begun c [] s.back s.second in
    let none = none_left b.back b.second in
    record {
      new = brackets a.first_token r.new b.first_token;
      tokens = begins (glued r.tokens (ends none b.whole) s.whole) a.whole;
      same = λ i. brackets (a.first i) (r.same i) (b.first i);
    }
expression_filled (inverted w e) us h =
    let a = begun w (expression_tokens e) us h in
    let r = expression_filled e a.back a.second in
    record {
      new = inverted a.first_token r.new;
      tokens = begins r.tokens a.whole;
      same = λ i. inverted (a.first i) (r.same i);
    }
expression_filled (conjoined e w f) us h =
    let s = split (expression_tokens e) (w ∷ expression_tokens f) us h in
    let r = expression_filled e s.front (sym s.first) in
    let b = begun w (expression_tokens f) s.back s.second in
    let q = expression_filled f b.back b.second in
    record {
      new = conjoined r.new b.first_token q.new;
      tokens = glued r.tokens (begins q.tokens b.whole) s.whole;
      same = λ i. conjoined (r.same i) (b.first i) (q.same i);
    }

pub expression_placeless : (e : Expression) → expression_tokens (placeless_expression e) ≡ all_placeless (expression_tokens e)
expression_placeless (name t) = refl
expression_placeless (brackets o e c) = ap (λ ts. placeless o ∷ ts) ((λ i. expression_placeless e i ++ placeless c ∷ []) ∙ sym (map-append placeless (expression_tokens e) (c ∷ [])))
expression_placeless (inverted w e) = ap (λ ts. placeless w ∷ ts) (expression_placeless e)
expression_placeless (conjoined e w f) =
    (λ i. expression_placeless e i ++ placeless w ∷ expression_placeless f i) ∙ sym (map-append placeless (expression_tokens e) (w ∷ expression_tokens f))

-- ---- parts of a derivation, one behind the other

-- a kind of part: its tokens, the part without its places, and the parts that lists of such tokens have
pub record Part (X : Type 0) : Type 0 where
  pub tokens_of : X → List Token
  pub without : X → X
  pub placeless_tokens : (x : X) → tokens_of (without x) ≡ all_placeless (tokens_of x)
  pub filled : (x : X) (us : List Token) → tokens_of x ≡ all_placeless us → Filled tokens_of without x us

pub token_filled : (t : Token) (us : List Token) → t ∷ [] ≡ all_placeless us → Filled (λ x. x ∷ []) placeless t us
token_filled t us h =
    let a = begun t [] us h in
    let none = none_left a.back a.second in
    record { new = a.first_token; tokens = ends none a.whole; same = a.first }

abbrev pub token : Part Token
token = record { tokens_of = λ t. t ∷ []; without = placeless; placeless_tokens = λ t. refl; filled = token_filled }

pub tokens_filled : (ts us : List Token) → ts ≡ all_placeless us → Filled (λ x. x) all_placeless ts us
tokens_filled ts us h = record { new = us; tokens = refl; same = sym h }

abbrev pub tokens : Part (List Token)
tokens = record { tokens_of = λ ts. ts; without = all_placeless; placeless_tokens = λ ts. refl; filled = tokens_filled }

abbrev pub value : Part Expression
value = record { tokens_of = expression_tokens; without = placeless_expression; placeless_tokens = expression_placeless; filled = expression_filled }

pub optional_filled : (o : Option Token) (us : List Token) → optional_tokens o ≡ all_placeless us → Filled optional_tokens placeless_option o us
optional_filled None us h = record { new = None; tokens = sym (none_left us h); same = refl }
optional_filled (Some t) us h = let r = token_filled t us h in record { new = Some r.new; tokens = r.tokens; same = ap Some r.same }

pub optional_placeless : (o : Option Token) → optional_tokens (placeless_option o) ≡ all_placeless (optional_tokens o)
optional_placeless None = refl
optional_placeless (Some t) = refl

abbrev pub optional : Part (Option Token)
optional = record { tokens_of = optional_tokens; without = placeless_option; placeless_tokens = optional_placeless; filled = optional_filled }

infixr 20 ◌then◌
module _ {X Y : Type 0} (p : Part X) (q : Part Y) where
  pub then_filled : (x : X × Y) (us : List Token) → p.tokens_of x.0 ++ q.tokens_of x.1 ≡ all_placeless us
      → Filled (λ x. p.tokens_of x.0 ++ q.tokens_of x.1) (λ x. (p.without x.0, q.without x.1)) x us
  then_filled x us h =
      let s = split (p.tokens_of x.0) (q.tokens_of x.1) us h in
      let a = p.filled x.0 s.front (sym s.first) in
      let b = q.filled x.1 s.back s.second in
      record { new = (a.new, b.new); tokens = glued a.tokens b.tokens s.whole; same = λ i. (a.same i, b.same i) }

  pub then_placeless : (x : X × Y) → p.tokens_of (p.without x.0) ++ q.tokens_of (q.without x.1) ≡ all_placeless (p.tokens_of x.0 ++ q.tokens_of x.1)
  then_placeless x = (λ i. p.placeless_tokens x.0 i ++ q.placeless_tokens x.1 i) ∙ sym (map-append placeless (p.tokens_of x.0) (q.tokens_of x.1))

  abbrev pub ◌then◌ : Part (X × Y)
  ◌then◌ =
      record {
        tokens_of = λ x. p.tokens_of x.0 ++ q.tokens_of x.1;
        without = λ x. (p.without x.0, q.without x.1);
        placeless_tokens = then_placeless;
        filled = then_filled;
      }

module _ {X : Type 0} (p : Part X) where
  pub list_filled : (xs : List X) (us : List Token) → flat_map p.tokens_of xs ≡ all_placeless us → Filled (flat_map p.tokens_of) (map p.without) xs us
  list_filled [] us h = record { new = []; tokens = sym (none_left us h); same = refl }
  list_filled (x ∷ xs) us h =
      let s = split (p.tokens_of x) (flat_map p.tokens_of xs) us h in
      let r = p.filled x s.front (sym s.first) in
      let q = list_filled xs s.back s.second in
      record { new = r.new ∷ q.new; tokens = glued r.tokens q.tokens s.whole; same = λ i. r.same i ∷ q.same i }

  pub list_placeless : (xs : List X) → flat_map p.tokens_of (map p.without xs) ≡ all_placeless (flat_map p.tokens_of xs)
  list_placeless [] = refl
  list_placeless (x ∷ xs) = (λ i. p.placeless_tokens x i ++ list_placeless xs i) ∙ sym (map-append placeless (p.tokens_of x) (flat_map p.tokens_of xs))

  abbrev pub several : Part (List X)
  several = record { tokens_of = flat_map p.tokens_of; without = map p.without; placeless_tokens = list_placeless; filled = list_filled }

  pub further_filled : (f : Further X) (us : List Token) → f.sign ∷ p.tokens_of f.item ≡ all_placeless us → Filled (λ f. f.sign ∷ p.tokens_of f.item) (placeless_further p.without) f us
  further_filled f us h =
      let r = then_filled token p (f.sign, f.item) us h in
      record { new = record { sign = r.new.0; item = r.new.1 }; tokens = r.tokens; same = λ i. record { sign = (r.same i).0; item = (r.same i).1 } }

  abbrev pub further : Part (Further X)
  further = record { tokens_of = λ f. f.sign ∷ p.tokens_of f.item; without = placeless_further p.without; placeless_tokens = λ f. ap (λ ts. placeless f.sign ∷ ts) (p.placeless_tokens f.item); filled = further_filled }

-- ---- ports

pub names_filled : (ns : Names) (us : List Token) → names_tokens ns ≡ all_placeless us → Filled names_tokens placeless_names ns us
names_filled ns us h =
    let r = (token then several (further token)).filled (ns.first, ns.others) us h in
    record { new = record { first = r.new.0; others = r.new.1 }; tokens = r.tokens; same = λ i. record { first = (r.same i).0; others = (r.same i).1 } }

abbrev pub names : Part Names
names =
    record {
      tokens_of = names_tokens;
      without = placeless_names;
      placeless_tokens = λ ns. (token then several (further token)).placeless_tokens (ns.first, ns.others);
      filled = names_filled;
    }

pub port_filled : (p : Port) (us : List Token) → port_tokens p ≡ all_placeless us → Filled port_tokens placeless_port p us
port_filled p us h =
    let r = (names then token then token then token).filled (p.names, (p.colon, (p.mode, p.subtype))) us h in
    record {
      new = record { names = r.new.0; colon = r.new.1.0; mode = r.new.1.1.0; subtype = r.new.1.1.1 };
      tokens = r.tokens;
      same = λ i. record { names = (r.same i).0; colon = (r.same i).1.0; mode = (r.same i).1.1.0; subtype = (r.same i).1.1.1 };
    }

abbrev pub port : Part Port
port =
    record {
      tokens_of = port_tokens;
      without = placeless_port;
      placeless_tokens = λ p. (names then token then token then token).placeless_tokens (p.names, (p.colon, (p.mode, p.subtype)));
      filled = port_filled;
    }

-- ---- processes

pub sensitivity_filled : (s : Sensitivity) (us : List Token) → sensitivity_tokens s ≡ all_placeless us → Filled sensitivity_tokens placeless_sensitivity s us
sensitivity_filled (every t) us h = let r = token_filled t us h in record { new = every r.new; tokens = r.tokens; same = ap every r.same }
sensitivity_filled (listed ns) us h = let r = names_filled ns us h in record { new = listed r.new; tokens = r.tokens; same = ap listed r.same }

pub sensitivity_placeless : (s : Sensitivity) → sensitivity_tokens (placeless_sensitivity s) ≡ all_placeless (sensitivity_tokens s)
sensitivity_placeless (every t) = refl
sensitivity_placeless (listed ns) = names.placeless_tokens ns

abbrev pub sensitivity : Part Sensitivity
sensitivity = record { tokens_of = sensitivity_tokens; without = placeless_sensitivity; placeless_tokens = sensitivity_placeless; filled = sensitivity_filled }

abbrev pub ProcessParts : Type 0
ProcessParts = List Token × (Sensitivity × (Token × (Option Token × (Token × (Token × (Token × (Expression × List Token)))))))

abbrev pub process_parts : Part ProcessParts
process_parts = tokens then sensitivity then token then optional then token then token then token then value then tokens

abbrev pub parts_of_process : Process → ProcessParts
parts_of_process p = (p.head, (p.sensitivity, (p.closing, (p.is_word, (p.begin_word, (p.target, (p.arrow, (p.value, p.foot))))))))

abbrev pub process_from : ProcessParts → Process
process_from x =
    record {
      head = x.0;
      sensitivity = x.1.0;
      closing = x.1.1.0;
      is_word = x.1.1.1.0;
      begin_word = x.1.1.1.1.0;
      target = x.1.1.1.1.1.0;
      arrow = x.1.1.1.1.1.1.0;
      value = x.1.1.1.1.1.1.1.0;
      foot = x.1.1.1.1.1.1.1.1;
    }

pub process_filled : (p : Process) (us : List Token) → process_tokens p ≡ all_placeless us → Filled process_tokens placeless_process p us
process_filled p us h =
    let r = process_parts.filled (parts_of_process p) us h in
    record { new = process_from r.new; tokens = r.tokens; same = ap process_from r.same }

abbrev pub process : Part Process
process =
    record {
      tokens_of = process_tokens;
      without = placeless_process;
      placeless_tokens = λ p. process_parts.placeless_tokens (parts_of_process p);
      filled = process_filled;
    }

-- ---- the file

abbrev pub FileParts : Type 0
FileParts = List Token × (Token × (List Token × (Port × (List (Further Port) × (List Token × (Option Token × (List Token × (Token × (Token × (Token × (List Token × (List Process × (List Token × (Option Token × (List Token)))))))))))))))

abbrev pub file_parts : Part FileParts
file_parts =
    tokens then token then tokens then port then several (further port) then tokens then optional then tokens then token then token then token then tokens then several process then tokens then optional then tokens

abbrev pub parts_of_file : File → FileParts
parts_of_file f =
    (f.head, (f.entity, (f.ports_head, (f.first_port, (f.other_ports, (f.ports_foot, (f.entity_closing, (f.architecture_head, (f.architecture, (f.of_word, (f.of_entity, (f.body_head, (f.processes, (f.foot, (f.architecture_closing, f.last)))))))))))))))

abbrev pub file_from : FileParts → File
file_from x =
    record {
      head = x.0;
      entity = x.1.0;
      ports_head = x.1.1.0;
      first_port = x.1.1.1.0;
      other_ports = x.1.1.1.1.0;
      ports_foot = x.1.1.1.1.1.0;
      entity_closing = x.1.1.1.1.1.1.0;
      architecture_head = x.1.1.1.1.1.1.1.0;
      architecture = x.1.1.1.1.1.1.1.1.0;
      of_word = x.1.1.1.1.1.1.1.1.1.0;
      of_entity = x.1.1.1.1.1.1.1.1.1.1.0;
      body_head = x.1.1.1.1.1.1.1.1.1.1.1.0;
      processes = x.1.1.1.1.1.1.1.1.1.1.1.1.0;
      foot = x.1.1.1.1.1.1.1.1.1.1.1.1.1.0;
      architecture_closing = x.1.1.1.1.1.1.1.1.1.1.1.1.1.1.0;
      last = x.1.1.1.1.1.1.1.1.1.1.1.1.1.1.1;
    }

pub file_filled : (f : File) (us : List Token) → file_tokens f ≡ all_placeless us → Filled file_tokens placeless_file f us
file_filled f us h =
    let r = file_parts.filled (parts_of_file f) us h in
    record { new = file_from r.new; tokens = r.tokens; same = ap file_from r.same }

abbrev pub file : Part File
file = record { tokens_of = file_tokens; without = placeless_file; placeless_tokens = λ f. file_parts.placeless_tokens (parts_of_file f); filled = file_filled }

-- ---- whatever places the given derivation has

-- a derivation with these tokens, which is the given one up to places
pub record Replaced {X : Type 0} (p : Part X) (x : X) (us : List Token) : Type 0 where
  pub new : X
  pub tokens : p.tokens_of new ≡ us
  pub same : p.without new ≡ p.without x

-- a derivation fits each list of tokens that is its own up to places
pub replaced : {X : Type 0} (p : Part X) (x : X) (us : List Token) → all_placeless (p.tokens_of x) ≡ all_placeless us → Replaced p x us
replaced p x us h =
    let r = p.filled (p.without x) us (p.placeless_tokens x ∙ h) in
    record { new = r.new; tokens = r.tokens; same = r.same }
