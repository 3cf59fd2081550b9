-- What is read of ports is derived so, and its trees are the shapes of the derivations.
use Rattle.std.proofs.Common.{◌≡◌, ℕ, List, [], ◌∷◌, ◌++◌, refl, sym, ap, ◌∙◌, append_assoc}
use Rattle.std.specs.Prelude.{map}
use Rattle.std.specs.List.{flat_map, AllByRecursion}
use Rattle.vd_forest.specs.Forest.{Forest, nothing, turned}
use Rattle.vd_forest.proofs.ForestLemmas.{reversed_reversed}
use Rattle.vd_first_trees.specs.declared.form.Form.{Form}
use Rattle.vd_first_lex.specs.declared.tokens.Token.{Token}
use Rattle.vd_first_lex.specs.declared.tokens.TheConstants.{COMMA, COLON, SEMICOLON}
use Rattle.vd_first_grammar.specs.Symbols.{mark, named}
use Rattle.vd_first_grammar.specs.Derivations.{std_ulogic, Further, Names, names_of, names_tokens, further_name_tokens, IsFurtherName, AreNames, Port, IsPort, port_tokens, IsFurtherPort, further_port_tokens}
use Rattle.vd_first_grammar.specs.Refusals.{place_of_token}
use Rattle.vd_first_grammar.specs.Shapes.{identifier, identifiers, port_shape, further_ports_shape}
use Rattle.vd_first_grammar.specs.Reader.{is, is_mode, is_name_outside, token_at, NamesRead, further_name_at, names_at, Known, PortsRead, port_at, further_port_at, ports_at}
use Rattle.vd_first_grammar.proofs.Steps.{OnGot, got_bind, got_weaker, token_got, repeated_at_kept}
use Rattle.vd_first_grammar.proofs.SoundExpressions.{is_so, is_outside_so, is_mode_so}

-- ---- lists

pub all-push : {X : Type 0} (P : X → Type 0) (xs : List X) (x : X) → AllByRecursion P xs → P x → AllByRecursion P (xs ++ x ∷ [])
all-push P [] x all one = (one, tt)
all-push P (y ∷ xs) x all one = (all.0, all-push P xs x all.1 one)

pub map-push : {X Y : Type 0} (f : X → Y) (xs : List X) (x : X) → map f (xs ++ x ∷ []) ≡ map f xs ++ f x ∷ []
map-push f [] x = refl
map-push f (y ∷ xs) x = ap (λ (zs : List _). f y ∷ zs) (map-push f xs x)

-- one more piece, before what is left
pub flat_map-push : {X A : Type 0} (f : X → List A) (xs : List X) (x : X) (rest : List A) → flat_map f (xs ++ x ∷ []) ++ rest ≡ flat_map f xs ++ (f x ++ rest)
flat_map-push f [] x rest = append_assoc (f x) [] rest
flat_map-push f (y ∷ xs) x rest = append_assoc (f y) (flat_map f (xs ++ x ∷ [])) rest ∙ ap (λ (zs : List _). f y ++ zs) (flat_map-push f xs x rest) ∙ sym (append_assoc (f y) (flat_map f xs) (f x ++ rest))

-- ---- names

pub record ReadsNames (ts : List Token) (x : NamesRead × List Token) : Type 0 where
  pub names : Names
  pub are_names : AreNames names
  pub tokens : names_tokens names ++ x.1 ≡ ts
  pub made : x.0.made ≡ turned (identifiers (names_of names)) nothing

turned_identifiers-push : (ts : List Token) (t : Token) (rest : Forest Form) → turned (identifiers (ts ++ t ∷ [])) rest ≡ identifier t (turned (identifiers ts) rest)
turned_identifiers-push [] t rest = refl
turned_identifiers-push (u ∷ ts) t rest = turned_identifiers-push ts t (identifier u rest)

further_name_sound : (ts : List Token) (s : NamesRead) (rest : List Token) → ReadsNames ts (s, rest) → OnGot (further_name_at s rest) (ReadsNames ts)
unfolding further_name_at
further_name_sound ts s rest held =
    got_bind (token_at (is (mark COMMA)) rest) _ _ _ (token_got (is (mark COMMA)) rest) (λ x comma.
    got_bind (token_at (is_name_outside s.taken) x.1) _ _ _ (token_got (is_name_outside s.taken) x.1) (λ y name.
    let ns = held.names in
    let f : Further Token = record { sign = x.0; item = y.0 } in
    let one : IsFurtherName f = (is_so (mark COMMA) x.0 comma.0, (is_outside_so s.taken y.0 name.0).0) in
    let tokens : further_name_tokens f ++ y.1 ≡ rest = ap (λ (r : List Token). x.0 ∷ r) name.1 ∙ comma.1 in
    record {
      names = record { first = ns.first; others = ns.others ++ f ∷ [] };
      are_names = (held.are_names.0, all-push IsFurtherName ns.others f held.are_names.1 one);
      tokens = ap (λ (r : List Token). ns.first ∷ r) (flat_map-push further_name_tokens ns.others f y.1 ∙ ap (λ (r : List Token). flat_map further_name_tokens ns.others ++ r) tokens) ∙ held.tokens;
      made = ap (identifier y.0) held.made ∙ sym (turned_identifiers-push (names_of ns) y.0 nothing) ∙ ap (λ (us : List Token). turned (identifiers (ns.first ∷ us)) nothing) (sym (map-push (λ (g : Further Token). g.item) ns.others f));
    }))

pub names_sound : (taken : List (List ℕ)) (ts : List Token) → OnGot (names_at taken ts) (ReadsNames ts)
unfolding names_at
names_sound taken ts =
    got_bind (token_at (is_name_outside taken) ts) _ _ _ (token_got (is_name_outside taken) ts) (λ x first.
    repeated_at_kept (is (mark COMMA)) further_name_at (λ s r. ReadsNames ts (s, r)) (further_name_sound ts) _ x.1
    (record { names = record { first = x.0; others = [] }; are_names = ((is_outside_so taken x.0 first.0).0, tt); tokens = first.1; made = refl }))

-- ---- one port

pub record ReadsPort (next : Forest Form) (ts : List Token) (x : PortsRead × List Token) : Type 0 where
  pub port : Port
  pub is_port : IsPort port
  pub tokens : port_tokens port ++ x.1 ≡ ts
  pub made : x.0.made ≡ port_shape port next

pub port_sound : (s : PortsRead) (ts : List Token) → OnGot (port_at s ts) (ReadsPort s.made ts)
unfolding port_at
port_sound s ts =
    got_bind (names_at s.known.taken ts) _ _ _ (names_sound s.known.taken ts) (λ x read.
    got_bind (token_at (is (mark COLON)) x.1) _ _ _ (token_got (is (mark COLON)) x.1) (λ c colon.
    got_bind (token_at is_mode c.1) _ _ _ (token_got is_mode c.1) (λ m mode.
    got_bind (token_at (is (named std_ulogic)) m.1) _ _ _ (token_got (is (named std_ulogic)) m.1) (λ u subtype.
    let ns = read.names in
    let place : place_of_token ts 0 ≡ ns.first.place = ap (λ (ks : List Token). place_of_token ks 0) (sym read.tokens) in
    let names : turned x.0.made nothing ≡ identifiers (names_of ns) = ap (λ (f : Forest Form). turned f nothing) read.made ∙ reversed_reversed (identifiers (names_of ns)) in
    record {
      port = record { names = ns; colon = c.0; mode = m.0; subtype = u.0 };
      is_port = (read.are_names, is_so (mark COLON) c.0 colon.0, is_mode_so m.0 mode.0, is_so (named std_ulogic) u.0 subtype.0);
      tokens = append_assoc (names_tokens ns) (c.0 ∷ m.0 ∷ u.0 ∷ []) u.1 ∙ ap (λ (r : List Token). names_tokens ns ++ r) (ap (λ (r : List Token). c.0 ∷ m.0 ∷ r) subtype.1 ∙ ap (λ (r : List Token). c.0 ∷ r) mode.1 ∙ colon.1) ∙ read.tokens;
      made = rw (place, names) refl;
    }))))

-- ---- ports

pub record ReadsPorts (ts : List Token) (x : PortsRead × List Token) : Type 0 where
  pub first : Port
  pub others : List (Further Port)
  pub is_port : IsPort first
  pub are_ports : AllByRecursion IsFurtherPort others
  pub tokens : port_tokens first ++ (flat_map further_port_tokens others ++ x.1) ≡ ts
  pub made : x.0.made ≡ turned (port_shape first (further_ports_shape others)) nothing

turned_ports-push : (fs : List (Further Port)) (f : Further Port) (rest : Forest Form) → turned (further_ports_shape (fs ++ f ∷ [])) rest ≡ port_shape f.item (turned (further_ports_shape fs) rest)
turned_ports-push [] f rest = refl
turned_ports-push (g ∷ fs) f rest = turned_ports-push fs f (port_shape g.item rest)

further_port_sound : (ts : List Token) (s : PortsRead) (rest : List Token) → ReadsPorts ts (s, rest) → OnGot (further_port_at s rest) (ReadsPorts ts)
unfolding further_port_at
further_port_sound ts s rest held =
    got_bind (token_at (is (mark SEMICOLON)) rest) _ _ _ (token_got (is (mark SEMICOLON)) rest) (λ x sign.
    got_weaker (port_at s x.1) _ _ (λ y read.
    let f : Further Port = record { sign = x.0; item = read.port } in
    let one : IsFurtherPort f = (is_so (mark SEMICOLON) x.0 sign.0, read.is_port) in
    let tokens : further_port_tokens f ++ y.1 ≡ rest = ap (λ (r : List Token). x.0 ∷ r) read.tokens ∙ sign.1 in
    record {
      first = held.first;
      others = held.others ++ f ∷ [];
      is_port = held.is_port;
      are_ports = all-push IsFurtherPort held.others f held.are_ports one;
      tokens = ap (λ (r : List Token). port_tokens held.first ++ r) (flat_map-push further_port_tokens held.others f y.1 ∙ ap (λ (r : List Token). flat_map further_port_tokens held.others ++ r) tokens) ∙ held.tokens;
      made = read.made ∙ ap (port_shape read.port) held.made ∙ sym (turned_ports-push held.others f (port_shape held.first nothing));
    }) (port_sound s x.1))

pub ports_sound : (known : Known) (ts : List Token) → OnGot (ports_at known ts) (ReadsPorts ts)
unfolding ports_at
ports_sound known ts =
    got_bind (port_at (record { made = nothing; known = known }) ts) _ _ _ (port_sound (record { made = nothing; known = known }) ts) (λ x read.
    repeated_at_kept (is (mark SEMICOLON)) further_port_at (λ s r. ReadsPorts ts (s, r)) (further_port_sound ts) x.0 x.1
    (record { first = read.port; others = []; is_port = read.is_port; are_ports = tt; tokens = read.tokens; made = read.made }))
