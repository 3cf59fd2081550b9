-- The conditions on names and modes hold of a file whose names and ports are those of a file of which they hold.
use Rattle.std.proofs.Common.{◌≡◌, ℕ, List, [], ◌∷◌, ◌++◌, sym, ap, subst, ◌∙◌}
use Rattle.std.specs.List.{AllByRecursion}
use Rattle.std.proofs.lemmas.List.{map-append}
use Rattle.vd_first_lex.specs.declared.tokens.Token.{Token}
use Rattle.vd_first_lex.specs.declared.tokens.TheConstants.{IN, OUT}
use Rattle.vd_first_grammar.specs.Derivations.{Port, Process, File, ports_of}
use Rattle.vd_first_grammar.specs.Conditions.{texts_of, port_names, declared, IsPortOf, read_names, taken_names, AreNew, KeepsModes}
use Rattle.vd_first_written.proofs.Lists.{holds, all_texts, all_weaker}

-- each port of the second list stands in the first one, with its mode
abbrev pub AreAmong : List Port → List Port → Type 0
AreAmong ps qs = (mode : ℕ) (text : List ℕ) → IsPortOf mode qs text → IsPortOf mode ps text

-- the second process reads no name that the first one doesn't, and has the same target
pub record ReadsNoMore (p q : Process) : Type 1 where
  pub reads : (Q : List ℕ → Type 0) → AllByRecursion (λ t. Q t.text) (read_names p) → AllByRecursion (λ t. Q t.text) (read_names q)
  pub target : q.target.text ≡ p.target.text

pub keeps_modes : (ps qs : List Port) (p q : Process) → AreAmong ps qs → ReadsNoMore p q → KeepsModes ps p → KeepsModes qs q
keeps_modes ps qs p q among r k =
    record {
      reads = r.reads (λ text. IsPortOf OUT qs text → ⊥) (all_weaker (λ t. IsPortOf OUT ps t.text → ⊥) (λ t. IsPortOf OUT qs t.text → ⊥) (λ t no is. no (among OUT t.text is)) (read_names p) k.reads);
      target = λ is. k.target (subst (IsPortOf IN ps) r.target (among IN q.target.text is));
    }

-- what is asked of texts carries over to tokens that have the same ones
pub same_texts : (Q : List ℕ → Type 0) (ts us : List Token) → texts_of us ≡ texts_of ts → AllByRecursion (λ t. Q t.text) ts → AllByRecursion (λ t. Q t.text) us
same_texts Q ts us same h = holds (all_texts Q ts ∙ ap (AllByRecursion Q) (sym same) ∙ sym (all_texts Q us)) h

declared_texts : (f : File) → texts_of (declared f) ≡ f.entity.text ∷ (texts_of (port_names (ports_of f)) ++ f.architecture.text ∷ [])
declared_texts f = ap (λ ts. f.entity.text ∷ ts) (map-append (λ (t : Token). t.text) (port_names (ports_of f)) (f.architecture ∷ []))

pub new_declared : (f g : File) → g.entity.text ≡ f.entity.text → texts_of (port_names (ports_of g)) ≡ texts_of (port_names (ports_of f)) → g.architecture.text ≡ f.architecture.text
    → AreNew taken_names (texts_of (declared f)) → AreNew taken_names (texts_of (declared g))
new_declared f g entity ports architecture h =
    subst (AreNew taken_names)
    (declared_texts f ∙ (λ i. sym entity i ∷ (sym ports i ++ sym architecture i ∷ [])) ∙ sym (declared_texts g)) h
