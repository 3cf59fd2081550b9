-- Reading on through the tokens of runs of symbols, of names and of ports.
use Rattle.std.proofs.Common.{◌≡◌, ℕ, Bool, true, List, [], ◌∷◌, ◌++◌, refl, sym, ap, ◌∙◌, append_assoc}
use Rattle.std.specs.Prelude.{◌&&◌, not, map}
use Rattle.std.proofs.Common.{inl, inr}
use Rattle.std.proofs.Math.Bool.{and_assoc}
use Rattle.std.proofs.lemmas.List.{append-nil}
use Rattle.std.specs.List.{flat_map, AllByRecursion}
use Rattle.vd_forest.specs.Texts.{with_text}
use Rattle.vd_first_lex.specs.declared.tokens.Token.{Token}
use Rattle.vd_first_grammar.specs.Symbols.{Symbol, named, Spell}
use Rattle.vd_first_grammar.specs.Derivations.{std_ulogic, Further, names_of, further_name_tokens, IsFurtherName, Port, IsMode, IsPort, port_tokens, IsFurtherPort, further_port_tokens}
use Rattle.vd_first_grammar.specs.Conditions.{texts_of, all_at}
use Rattle.vd_first_grammar.specs.Reader.{is_mode, among, with_texts, with_mode}
use Rattle.vd_first_grammar.proofs.Machine.{Item, fixed, fixed_all, port_name, next_port_name, names_end, mode, ports_end, port_items, Memory, remember, Run, before, run}
use Rattle.vd_first_grammar.proofs.RunExpressions.{is_from, run_token, before_before}

all_at-append : (d : ℕ) (xs ys : List Token) → all_at d (xs ++ ys) ≡ all_at d xs ++ all_at d ys
all_at-append d [] ys = refl
all_at-append d (x ∷ xs) ys = ap (λ (zs : List ℕ). d ∷ zs) (all_at-append d xs ys)

-- one part behind another
pub run_then : (d : ℕ) (xs ys : List Token) (a b : Bool) (r : Run) → before (all_at d xs) a (before (all_at d ys) b r) ≡ before (all_at d (xs ++ ys)) (a && b) r
run_then d xs ys a b r = before_before (all_at d xs) (all_at d ys) a b r ∙ ap (λ (ds : List ℕ). before ds (a && b) r) (sym (all_at-append d xs ys))

-- ---- a run of symbols

pub run_fixed : (d : ℕ) (ss : List Symbol) (ts : List Token) (m : Memory) (is' : List Item) (rest : List Token) → Spell ss ts → run m (fixed_all d ss ++ is') (ts ++ rest) ≡ before (all_at d ts) true (run m is' rest)
run_fixed d [] [] m is' rest h = refl
run_fixed d [] (t ∷ ts) m is' rest h = absurd h
run_fixed d (s ∷ ss) [] m is' rest h = absurd h
run_fixed d (s ∷ ss) (t ∷ ts) m is' rest h =
    run_token m m (fixed d s) (fixed_all d ss ++ is') t (ts ++ rest) [] d true (rw (is_from s t h.0) refl) refl refl refl
    ∙ ap (before (d ∷ []) true) (run_fixed d ss ts m is' rest h.1)

-- ---- names

-- each text differs from those before it
abbrev pub all_new : List (List ℕ) → List (List ℕ) → Bool
all_new taken [] = true
all_new taken (t ∷ ts) = not (among taken t) && all_new (with_text taken t) ts

-- more names of a port
abbrev pub after_names : Memory → List (List ℕ) → Memory
after_names m ts = record m { known = record m.known { taken = with_texts m.known.taken ts }; texts = m.texts ++ ts }

pub run_further_names : (fs : List (Further Token)) (m : Memory) (is' : List Item) (rest : List Token) → AllByRecursion IsFurtherName fs
    → run m (names_end ∷ is') (flat_map further_name_tokens fs ++ rest) ≡ before (all_at 0 (flat_map further_name_tokens fs)) (all_new m.known.taken (texts_of (map (λ f. f.item) fs))) (run (after_names m (texts_of (map (λ f. f.item) fs))) (names_end ∷ is') rest)
run_further_names [] m is' rest h = rw append-nil refl
run_further_names (f ∷ fs) m is' rest h =
    let t = f.item in
    let after = remember m next_port_name t in
    let more = flat_map further_name_tokens fs in
    let comma = run_token m m names_end is' f.sign (t ∷ (more ++ rest)) (next_port_name ∷ names_end ∷ []) 0 true (rw h.0.0 refl) refl refl refl in
    let one = run_token m after next_port_name (names_end ∷ is') t (more ++ rest) [] 0 (not (among m.known.taken t.text)) (rw h.0.1 refl) refl refl refl in
    let others = run_further_names fs after is' rest h.1 in
    let regrouped : run (after_names after (texts_of (map (λ f. f.item) fs))) (names_end ∷ is') rest ≡ run (after_names m (t.text ∷ texts_of (map (λ f. f.item) fs))) (names_end ∷ is') rest = rw append_assoc refl in
    comma ∙ ap (before (0 ∷ []) true) (one ∙ ap (before (0 ∷ []) (not (among m.known.taken t.text))) (others ∙ ap (before (all_at 0 more) (all_new (with_text m.known.taken t.text) (texts_of (map (λ f. f.item) fs)))) regrouped))
    ∙ rw and_assoc refl

-- ---- ports

abbrev pub port_texts : Port → List (List ℕ)
port_texts p = texts_of (names_of p.names)

abbrev pub after_port : Memory → Port → Memory
after_port m p = record m {
  known = with_mode (record m.known { taken = with_texts m.known.taken (port_texts p) }) (port_texts p) p.mode;
  texts = [];
}

is_mode_from : (t : Token) → IsMode t → is_mode t ≡ true
is_mode_from t (inl h) = rw h refl
is_mode_from t (inr h) = rw h refl

pub run_port : (p : Port) (m : Memory) (is' : List Item) (rest : List Token) → IsPort p
    → run m (port_name ∷ names_end ∷ mode ∷ fixed 0 (named std_ulogic) ∷ is') (port_tokens p ++ rest) ≡ before (all_at 0 (port_tokens p)) (all_new m.known.taken (port_texts p)) (run (after_port m p) is' rest)
run_port p m is' rest h =
    let t = p.names.first in
    let fs = p.names.others in
    let texts = texts_of (map (λ f. f.item) fs) in
    let more = flat_map further_name_tokens fs in
    let behind = p.colon ∷ p.mode ∷ p.subtype ∷ [] in
    let m1 = remember m port_name t in
    let m2 = after_names m1 texts in
    let one = run_token m m1 port_name (names_end ∷ mode ∷ fixed 0 (named std_ulogic) ∷ is') t (more ++ (behind ++ rest)) [] 0 (not (among m.known.taken t.text)) (rw h.0.0 refl) refl refl refl in
    let others = run_further_names fs m1 (mode ∷ fixed 0 (named std_ulogic) ∷ is') (behind ++ rest) h.0.1 in
    let colon = run_token m2 m2 names_end (mode ∷ fixed 0 (named std_ulogic) ∷ is') p.colon (p.mode ∷ p.subtype ∷ rest) [] 0 true (rw h.1 refl) refl refl refl in
    let mode_token = run_token m2 (after_port m p) mode (fixed 0 (named std_ulogic) ∷ is') p.mode (p.subtype ∷ rest) [] 0 true (rw (is_mode_from p.mode h.2) refl) refl refl refl in
    let subtype = run_token (after_port m p) (after_port m p) (fixed 0 (named std_ulogic)) is' p.subtype rest [] 0 true (rw (is_from (named std_ulogic) p.subtype h.3) refl) refl refl refl in
    let last : run m2 (names_end ∷ mode ∷ fixed 0 (named std_ulogic) ∷ is') (behind ++ rest) ≡ before (all_at 0 behind) true (run (after_port m p) is' rest) =
    colon ∙ ap (before (0 ∷ []) true) (mode_token ∙ ap (before (0 ∷ []) true) subtype) in
    ap (run m (port_name ∷ names_end ∷ mode ∷ fixed 0 (named std_ulogic) ∷ is')) (append_assoc (t ∷ more) behind rest)
    ∙ one ∙ ap (before (0 ∷ []) (not (among m.known.taken t.text))) (others ∙ ap (before (all_at 0 more) (all_new (with_text m.known.taken t.text) texts)) last ∙ run_then 0 more behind (all_new (with_text m.known.taken t.text) texts) true (run (after_port m p) is' rest))
    ∙ simp and_assoc

abbrev pub fair_ports : Memory → List (Further Port) → Bool
fair_ports m [] = true
fair_ports m (f ∷ fs) = all_new m.known.taken (port_texts f.item) && fair_ports (after_port m f.item) fs

abbrev pub after_ports : Memory → List (Further Port) → Memory
after_ports m [] = m
after_ports m (f ∷ fs) = after_ports (after_port m f.item) fs

pub run_further_ports : (fs : List (Further Port)) (m : Memory) (is' : List Item) (rest : List Token) → AllByRecursion IsFurtherPort fs
    → run m (ports_end ∷ is') (flat_map further_port_tokens fs ++ rest) ≡ before (all_at 0 (flat_map further_port_tokens fs)) (fair_ports m fs) (run (after_ports m fs) (ports_end ∷ is') rest)
run_further_ports [] m is' rest h = refl
run_further_ports (f ∷ fs) m is' rest h =
    let more = flat_map further_port_tokens fs in
    let sign = run_token m m ports_end is' f.sign (port_tokens f.item ++ (more ++ rest)) port_items 0 true (rw h.0.0 refl) refl refl refl in
    let one = run_port f.item m (ports_end ∷ is') (more ++ rest) h.0.1 in
    let others = run_further_ports fs (after_port m f.item) is' rest h.1 in
    ap (run m (ports_end ∷ is')) (append_assoc (further_port_tokens f) more rest)
    ∙ sign ∙ ap (before (0 ∷ []) true) (one ∙ ap (before (all_at 0 (port_tokens f.item)) (all_new m.known.taken (port_texts f.item))) others ∙ run_then 0 (port_tokens f.item) more (all_new m.known.taken (port_texts f.item)) (fair_ports (after_port m f.item) fs) (run (after_ports (after_port m f.item) fs) (ports_end ∷ is') rest))
