-- What is tested of names while reading on is what the conditions on a file say.
use Rattle.std.proofs.Common.{◌≡◌, ℕ, zero, suc, ◌<◌, Bool, true, false, List, [], ◌∷◌, ◌++◌, length, Option, Some, None, refl, sym, ap, ◌∙◌, subst, arith, inl, inr}
use Rattle.std.specs.Prelude.{if◌then◌else◌, ◌&&◌, not, map, ◌||◌, ◌⊎◌, ◌↔◌, Contains}
use Rattle.std.specs.Str.{bytes_eq}
use Rattle.std.specs.List.{flat_map, AllByRecursion, list_any}
use Rattle.std.proofs.lemmas.Bool.{and_parts, and_from, or_cases, or_right, not-true, not_from_false, false≢true}
use Rattle.std.proofs.Math.Bool.{and_assoc}
use Rattle.vd_forest.specs.Texts.{with_text}
use Rattle.vd_trees.specs.declared.revision.Revision.{Revision}
use Rattle.vd_first_lex.specs.declared.tokens.Token.{Token}
use Rattle.vd_first_lex.specs.declared.tokens.TheConstants.{IN, OUT}
use Rattle.vd_first_grammar.specs.Symbols.{word, Is}
use Rattle.vd_first_grammar.specs.Derivations.{Expression, name, brackets, inverted, conjoined, Further, names_of, Port, IsMode, IsPort, IsFurtherPort, Process, File, IsFile, ports_of}
use Rattle.vd_first_grammar.specs.Conditions.{texts_of, port_names, declared, IsPortOf, expression_names, sensitivity_names, taken_names, AreNew, Repeats, KeepsModes, MeetsConditions}
use Rattle.vd_first_grammar.specs.Reader.{is, among, with_texts, Known}
use Rattle.vd_first_grammar.proofs.Machine.{Memory, no_memory}
use Rattle.vd_first_grammar.proofs.RunExpressions.{is_from, bytes_eq_same, fair_expression}
use Rattle.vd_first_grammar.proofs.RunPorts.{all_new, port_texts, after_port, fair_ports, after_ports}
use Rattle.vd_first_grammar.proofs.RunFiles.{fair_names, fair_process, fair_processes, fair_closing, entity_memory, ports_memory, fair_file}
use Rattle.vd_first_grammar.proofs.SoundExpressions.{same_bytes, is_so}

-- ---- among some texts

contains_from : (xs : List (List ℕ)) (t : List ℕ) → among xs t ≡ true → Contains xs t
contains_from [] t h = absurd cc
contains_from (x ∷ xs) t h =
    elim (or_cases (bytes_eq t x) (among xs t) h) [
      | inl same ↦ (0, omega arith, sym (same_bytes t x same))
      | inr later ↦ let found = contains_from xs t later in (suc found.0, omega (arith, found.1), found.2)
    ]

contains_at : (xs : List (List ℕ)) (t : List ℕ) (k : ℕ) → k < length xs → Rattle.std.specs.Prelude.slice_index_or xs k t ≡ t → among xs t ≡ true
contains_at [] t k within same = absurd (omega arith)
contains_at (x ∷ xs) t zero within same = rw same (rw (bytes_eq_same t) refl)
contains_at (x ∷ xs) t (suc k) within same = or_right (bytes_eq t x) (among xs t) (contains_at xs t k (omega arith) same)

pub among_from : (xs : List (List ℕ)) (t : List ℕ) → Contains xs t → among xs t ≡ true
among_from xs t found = contains_at xs t found.0 found.1 found.2

pub absent_so : (xs : List (List ℕ)) (t : List ℕ) → among xs t ≡ false → Contains xs t → ⊥
absent_so xs t h found = let there = among_from xs t found in false≢true (sym h ∙ there)

pub absent_from : (xs : List (List ℕ)) (t : List ℕ) → (Contains xs t → ⊥) → among xs t ≡ false
absent_from xs t none = go (among xs t) refl
  where
    go : (b : Bool) → among xs t ≡ b → b ≡ false
    go true found = absurd (none (contains_from xs t found))
    go false found = refl

-- ---- new texts

with_new : (xs : List (List ℕ)) (t : List ℕ) → among xs t ≡ false → with_text xs t ≡ xs ++ t ∷ []
with_new xs t h = rw h refl

pub new_so : (before ts : List (List ℕ)) → all_new before ts ≡ true → AreNew before ts
new_so before [] h = tt
new_so before (t ∷ ts) h =
    let parts = and_parts (not (among before t)) (all_new (with_text before t) ts) h in
    let absent = not-true (among before t) parts.0 in
    (absent_so before t absent, new_so (before ++ t ∷ []) ts (ap (λ (b : List (List ℕ)). all_new b ts) (sym (with_new before t absent)) ∙ parts.1))

pub new_from : (before ts : List (List ℕ)) → AreNew before ts → all_new before ts ≡ true
new_from before [] h = refl
new_from before (t ∷ ts) h =
    let absent = absent_from before t h.0 in
    and_from (not (among before t)) (all_new (with_text before t) ts) (not_from_false (among before t) absent) (ap (λ (b : List (List ℕ)). all_new b ts) (with_new before t absent) ∙ new_from (before ++ t ∷ []) ts h.1)

all_new-append : (before xs ys : List (List ℕ)) → all_new before (xs ++ ys) ≡ all_new before xs && all_new (with_texts before xs) ys
all_new-append before [] ys = refl
all_new-append before (x ∷ xs) ys = ap (λ (b : Bool). not (among before x) && b) (all_new-append (with_text before x) xs ys) ∙ sym (and_assoc (not (among before x)) (all_new (with_text before x) xs) (all_new (with_texts (with_text before x) xs) ys))

with_texts-append : (before xs ys : List (List ℕ)) → with_texts before (xs ++ ys) ≡ with_texts (with_texts before xs) ys
with_texts-append before [] ys = refl
with_texts-append before (x ∷ xs) ys = with_texts-append (with_text before x) xs ys

texts-append : (xs ys : List Token) → texts_of (xs ++ ys) ≡ texts_of xs ++ texts_of ys
texts-append [] ys = refl
texts-append (x ∷ xs) ys = ap (λ (zs : List (List ℕ)). x.text ∷ zs) (texts-append xs ys)

abbrev items_of : List (Further Port) → List Port
items_of fs = map (λ p. p.item) fs

taken_ports : (m : Memory) (fs : List (Further Port)) → (after_ports m fs).known.taken ≡ with_texts m.known.taken (texts_of (port_names (items_of fs)))
taken_ports m [] = refl
taken_ports m (f ∷ fs) =
    taken_ports (after_port m f.item) fs
    ∙ sym (with_texts-append m.known.taken (port_texts f.item) (texts_of (port_names (items_of fs))))
    ∙ ap (with_texts m.known.taken) (sym (texts-append (names_of f.item.names) (port_names (items_of fs))))

fair_ports_new : (m : Memory) (fs : List (Further Port)) → fair_ports m fs ≡ all_new m.known.taken (texts_of (port_names (items_of fs)))
fair_ports_new m [] = refl
fair_ports_new m (f ∷ fs) =
    ap (λ (b : Bool). all_new m.known.taken (port_texts f.item) && b) (fair_ports_new (after_port m f.item) fs)
    ∙ sym (all_new-append m.known.taken (port_texts f.item) (texts_of (port_names (items_of fs))))
    ∙ ap (all_new m.known.taken) (sym (texts-append (names_of f.item.names) (port_names (items_of fs))))

-- ---- ports by their modes

or_false : (b : Bool) → (b || false) ≡ b
or_false true = refl
or_false false = refl

or_assoc : (a b c : Bool) → (a || b) || c ≡ a || (b || c)
or_assoc true b c = refl
or_assoc false b c = refl

among-push : (xs : List (List ℕ)) (t u : List ℕ) → among (xs ++ t ∷ []) u ≡ among xs u || bytes_eq u t
among-push [] t u = or_false (bytes_eq u t)
among-push (x ∷ xs) t u = ap (λ (b : Bool). bytes_eq u x || b) (among-push xs t u) ∙ sym (or_assoc (bytes_eq u x) (among xs u) (bytes_eq u t))

among_with : (xs : List (List ℕ)) (t u : List ℕ) → among (with_text xs t) u ≡ among xs u || bytes_eq u t
among_with xs t u = go (among xs t) (bytes_eq u t) refl refl
  where
    go : (there same : Bool) → among xs t ≡ there → bytes_eq u t ≡ same → among (with_text xs t) u ≡ among xs u || bytes_eq u t
    go false same there-is same-is = ap (λ (ys : List (List ℕ)). among ys u) (with_new xs t there-is) ∙ among-push xs t u
    go true true there-is same-is = let u-is : u ≡ t = same_bytes u t same-is in rw (there-is, u-is, there-is) refl
    go true false there-is same-is = rw (there-is, same-is) (sym (or_false (among xs u)))

among_withs : (xs ts : List (List ℕ)) (u : List ℕ) → among (with_texts xs ts) u ≡ among xs u || among ts u
among_withs xs [] u = sym (or_false (among xs u))
among_withs xs (t ∷ ts) u = among_withs (with_text xs t) ts u ∙ ap (λ (b : Bool). b || among ts u) (among_with xs t u) ∙ or_assoc (among xs u) (bytes_eq u t) (among ts u)

-- whether a port of the mode has the name
abbrev pub out_among : List Port → List ℕ → Bool
out_among [] u = false
out_among (p ∷ ps) u = (is (word OUT) p.mode && among (port_texts p) u) || out_among ps u

abbrev pub in_among : List Port → List ℕ → Bool
in_among [] u = false
in_among (p ∷ ps) u = (not (is (word OUT) p.mode) && among (port_texts p) u) || in_among ps u

outs_port : (m : Memory) (p : Port) (u : List ℕ) → m.known.guarded ≡ true → among (after_port m p).known.outs u ≡ among m.known.outs u || (is (word OUT) p.mode && among (port_texts p) u)
outs_port m p u guarded = rw guarded (go (is (word OUT) p.mode))
  where
    go : (b : Bool) → among (if b && true then with_texts m.known.outs (port_texts p) else m.known.outs) u ≡ among m.known.outs u || (b && among (port_texts p) u)
    go true = among_withs m.known.outs (port_texts p) u
    go false = sym (or_false (among m.known.outs u))

ins_port : (m : Memory) (p : Port) (u : List ℕ) → among (after_port m p).known.ins u ≡ among m.known.ins u || (not (is (word OUT) p.mode) && among (port_texts p) u)
ins_port m p u = go (is (word OUT) p.mode)
  where
    go : (b : Bool) → among (if b then m.known.ins else with_texts m.known.ins (port_texts p)) u ≡ among m.known.ins u || (not b && among (port_texts p) u)
    go false = among_withs m.known.ins (port_texts p) u
    go true = sym (or_false (among m.known.ins u))

outs_ports : (m : Memory) (fs : List (Further Port)) (u : List ℕ) → m.known.guarded ≡ true → among (after_ports m fs).known.outs u ≡ among m.known.outs u || out_among (items_of fs) u
outs_ports m [] u guarded = sym (or_false (among m.known.outs u))
outs_ports m (f ∷ fs) u guarded = outs_ports (after_port m f.item) fs u guarded ∙ ap (λ (b : Bool). b || out_among (items_of fs) u) (outs_port m f.item u guarded) ∙ or_assoc (among m.known.outs u) (is (word OUT) f.item.mode && among (port_texts f.item) u) (out_among (items_of fs) u)

ins_ports : (m : Memory) (fs : List (Further Port)) (u : List ℕ) → among (after_ports m fs).known.ins u ≡ among m.known.ins u || in_among (items_of fs) u
ins_ports m [] u = sym (or_false (among m.known.ins u))
ins_ports m (f ∷ fs) u = ins_ports (after_port m f.item) fs u ∙ ap (λ (b : Bool). b || in_among (items_of fs) u) (ins_port m f.item u) ∙ or_assoc (among m.known.ins u) (not (is (word OUT) f.item.mode) && among (port_texts f.item) u) (in_among (items_of fs) u)

outs_file : (f : File) (u : List ℕ) → among (ports_memory true f).known.outs u ≡ out_among (ports_of f) u
outs_file f u = outs_ports (after_port (entity_memory true f) f.first_port) f.other_ports u refl ∙ ap (λ (b : Bool). b || out_among (items_of f.other_ports) u) (outs_port (entity_memory true f) f.first_port u refl)

ins_file : (f : File) (u : List ℕ) → among (ports_memory true f).known.ins u ≡ in_among (ports_of f) u
ins_file f u = ins_ports (after_port (entity_memory true f) f.first_port) f.other_ports u ∙ ap (λ (b : Bool). b || in_among (items_of f.other_ports) u) (ins_port (entity_memory true f) f.first_port u)

-- the tests and the conditions

out_so : (ps : List Port) (u : List ℕ) → out_among ps u ≡ true → IsPortOf OUT ps u
out_so [] u h = absurd cc
out_so (p ∷ ps) u h =
    elim (or_cases (is (word OUT) p.mode && among (port_texts p) u) (out_among ps u) h) [
      | inl here ↦ let parts = and_parts (is (word OUT) p.mode) (among (port_texts p) u) here in inl (is_so (word OUT) p.mode parts.0, contains_from (port_texts p) u parts.1)
      | inr later ↦ inr (out_so ps u later)
    ]

out_from : (ps : List Port) (u : List ℕ) → IsPortOf OUT ps u → out_among ps u ≡ true
out_from [] u h = absurd h
out_from (p ∷ ps) u (inl here) = rw (is_from (word OUT) p.mode here.0, among_from (port_texts p) u here.1) refl
out_from (p ∷ ps) u (inr later) = or_right (is (word OUT) p.mode && among (port_texts p) u) (out_among ps u) (out_from ps u later)

-- a mode is one of the two
in_mode_so : (t : Token) → IsMode t → not (is (word OUT) t) ≡ true → Is (word IN) t
in_mode_so t (inl h) other = h
in_mode_so t (inr h) other = absurd (false≢true (ap not (sym (is_from (word OUT) t h)) ∙ other))

in_mode_from : (t : Token) → Is (word IN) t → not (is (word OUT) t) ≡ true
in_mode_from t h = rw h refl

in_so : (ps : List Port) → AllByRecursion IsPort ps → (u : List ℕ) → in_among ps u ≡ true → IsPortOf IN ps u
in_so [] are u h = absurd cc
in_so (p ∷ ps) are u h =
    elim (or_cases (not (is (word OUT) p.mode) && among (port_texts p) u) (in_among ps u) h) [
      | inl here ↦ let parts = and_parts (not (is (word OUT) p.mode)) (among (port_texts p) u) here in inl (in_mode_so p.mode are.0.2 parts.0, contains_from (port_texts p) u parts.1)
      | inr later ↦ inr (in_so ps are.1 u later)
    ]

in_from : (ps : List Port) (u : List ℕ) → IsPortOf IN ps u → in_among ps u ≡ true
in_from [] u h = absurd h
in_from (p ∷ ps) u (inl here) = rw (in_mode_from p.mode here.0, among_from (port_texts p) u here.1) refl
in_from (p ∷ ps) u (inr later) = or_right (not (is (word OUT) p.mode) && among (port_texts p) u) (in_among ps u) (in_from ps u later)

-- ---- expressions and processes

abbrev Readable : List (List ℕ) → Token → Type 0
Readable outs t = among outs t.text ≡ false

all-append : {X : Type 0} (P : X → Type 0) (xs ys : List X) → AllByRecursion P xs → AllByRecursion P ys → AllByRecursion P (xs ++ ys)
all-append P [] ys first second = second
all-append P (x ∷ xs) ys first second = (first.0, all-append P xs ys first.1 second)

all_parts : {X : Type 0} (P : X → Type 0) (xs ys : List X) → AllByRecursion P (xs ++ ys) → AllByRecursion P xs × AllByRecursion P ys
all_parts P [] ys both = (tt, both)
all_parts P (x ∷ xs) ys both = let rest = all_parts P xs ys both.1 in ((both.0, rest.0), rest.1)

all_weaker : {X : Type 0} (P Q : X → Type 0) → ((x : X) → P x → Q x) → (xs : List X) → AllByRecursion P xs → AllByRecursion Q xs
all_weaker P Q weaker [] all = tt
all_weaker P Q weaker (x ∷ xs) all = (weaker x all.0, all_weaker P Q weaker xs all.1)

readable_so : (outs : List (List ℕ)) (e : Expression) → fair_expression outs e ≡ true → AllByRecursion (Readable outs) (expression_names e)
readable_so outs (name t) h = (not-true (among outs t.text) h, tt)
readable_so outs (brackets o e c) h = readable_so outs e h
readable_so outs (inverted w e) h = readable_so outs e h
readable_so outs (conjoined e w f) h =
    let parts = and_parts (fair_expression outs e) (fair_expression outs f) h in
    all-append (Readable outs) (expression_names e) (expression_names f) (readable_so outs e parts.0) (readable_so outs f parts.1)

readable_from : (outs : List (List ℕ)) (e : Expression) → AllByRecursion (Readable outs) (expression_names e) → fair_expression outs e ≡ true
readable_from outs (name t) h = not_from_false (among outs t.text) h.0
readable_from outs (brackets o e c) h = readable_from outs e h
readable_from outs (inverted w e) h = readable_from outs e h
readable_from outs (conjoined e w f) h =
    let parts = all_parts (Readable outs) (expression_names e) (expression_names f) h in
    and_from (fair_expression outs e) (fair_expression outs f) (readable_from outs e parts.0) (readable_from outs f parts.1)

names_so : (outs : List (List ℕ)) (ts : List Token) → fair_names outs ts ≡ true → AllByRecursion (Readable outs) ts
names_so outs [] h = tt
names_so outs (t ∷ ts) h = let parts = and_parts (not (among outs t.text)) (fair_names outs ts) h in (not-true (among outs t.text) parts.0, names_so outs ts parts.1)

names_from : (outs : List (List ℕ)) (ts : List Token) → AllByRecursion (Readable outs) ts → fair_names outs ts ≡ true
names_from outs [] h = refl
names_from outs (t ∷ ts) h = and_from (not (among outs t.text)) (fair_names outs ts) (not_from_false (among outs t.text) h.0) (names_from outs ts h.1)

-- no `out` port has the name, and no `in` port
module _ (f : File) (are : AllByRecursion IsPort (ports_of f)) where
  abbrev known : Known
  known = (ports_memory true f).known

  not_out_so : (t : Token) → Readable known.outs t → IsPortOf OUT (ports_of f) t.text → ⊥
  not_out_so t h port = false≢true (sym h ∙ outs_file f t.text ∙ out_from (ports_of f) t.text port)

  not_out_from : (t : Token) → (IsPortOf OUT (ports_of f) t.text → ⊥) → Readable known.outs t
  not_out_from t none = go (among known.outs t.text) refl
    where
      go : (b : Bool) → among known.outs t.text ≡ b → b ≡ false
      go true h = absurd (none (out_so (ports_of f) t.text (sym (outs_file f t.text) ∙ h)))
      go false h = refl

  not_in_so : (u : List ℕ) → among known.ins u ≡ false → IsPortOf IN (ports_of f) u → ⊥
  not_in_so u h port = false≢true (sym h ∙ ins_file f u ∙ in_from (ports_of f) u port)

  not_in_from : (u : List ℕ) → (IsPortOf IN (ports_of f) u → ⊥) → among known.ins u ≡ false
  not_in_from u none = go (among known.ins u) refl
    where
      go : (b : Bool) → among known.ins u ≡ b → b ≡ false
      go true h = absurd (none (in_so (ports_of f) are u (sym (ins_file f u) ∙ h)))
      go false h = refl

  abbrev NotOut : Token → Type 0
  NotOut t = IsPortOf OUT (ports_of f) t.text → ⊥

  process_so : (p : Process) → fair_process known p ≡ true → KeepsModes (ports_of f) p
  process_so p h =
      let listed_names = sensitivity_names p.sensitivity in
      let fair_target = not (among known.ins p.target.text) in
      let h1 = and_parts (fair_names known.outs listed_names) (fair_target && fair_expression known.outs p.value) h in
      let h2 = and_parts fair_target (fair_expression known.outs p.value) h1.1 in
      let readable = all-append (Readable known.outs) listed_names (expression_names p.value) (names_so known.outs listed_names h1.0) (readable_so known.outs p.value h2.1) in
      record {
        reads = all_weaker (Readable known.outs) NotOut not_out_so (listed_names ++ expression_names p.value) readable;
        target = not_in_so p.target.text (not-true _ h2.0);
      }

  process_from : (p : Process) → KeepsModes (ports_of f) p → fair_process known p ≡ true
  process_from p h =
      let listed_names = sensitivity_names p.sensitivity in
      let fair_target = not (among known.ins p.target.text) in
      let readable = all_parts (Readable known.outs) listed_names (expression_names p.value) (all_weaker NotOut (Readable known.outs) not_out_from (listed_names ++ expression_names p.value) h.reads) in
      and_from (fair_names known.outs listed_names) (fair_target && fair_expression known.outs p.value)
      (names_from known.outs listed_names readable.0)
      (and_from fair_target (fair_expression known.outs p.value)
      (not_from_false _ (not_in_from p.target.text h.target))
      (readable_from known.outs p.value readable.1))

  processes_so : (ps : List Process) → fair_processes known ps ≡ true → AllByRecursion (KeepsModes (ports_of f)) ps
  processes_so [] h = tt
  processes_so (p ∷ ps) h = let parts = and_parts (fair_process known p) (fair_processes known ps) h in (process_so p parts.0, processes_so ps parts.1)

  processes_from : (ps : List Process) → AllByRecursion (KeepsModes (ports_of f)) ps → fair_processes known ps ≡ true
  processes_from [] h = refl
  processes_from (p ∷ ps) h = and_from (fair_process known p) (fair_processes known ps) (process_from p h.0) (processes_from ps h.1)

-- ---- the file

-- every name of a port is new, and one more behind them
names_new : (m : Memory) (p : Port) (fs : List (Further Port)) (a : Token)
    → all_new m.known.taken (texts_of (port_names (p ∷ items_of fs) ++ a ∷ [])) ≡ all_new m.known.taken (port_texts p) && (fair_ports (after_port m p) fs && (not (among (after_ports (after_port m p) fs).known.taken a.text) && true))
names_new m p fs a =
    let taken = m.known.taken in
    let texts = texts_of (port_names (items_of fs)) in
    let last = a.text ∷ [] in
    ap (all_new taken) (texts-append (names_of p.names ++ port_names (items_of fs)) (a ∷ []) ∙ ap (λ (ts : List (List ℕ)). ts ++ last) (texts-append (names_of p.names) (port_names (items_of fs))))
    ∙ all_new-append taken (port_texts p ++ texts) last
    ∙ ap (λ (b : Bool). b && all_new (with_texts taken (port_texts p ++ texts)) last) (all_new-append taken (port_texts p) texts)
    ∙ and_assoc (all_new taken (port_texts p)) (all_new (with_texts taken (port_texts p)) texts) (all_new (with_texts taken (port_texts p ++ texts)) last)
    ∙ ap (λ (b : Bool). all_new taken (port_texts p) && (b && all_new (with_texts taken (port_texts p ++ texts)) last)) (sym (fair_ports_new (after_port m p) fs))
    ∙ ap (λ (known : List (List ℕ)). all_new taken (port_texts p) && (fair_ports (after_port m p) fs && all_new known last)) (with_texts-append taken (port_texts p) texts ∙ sym (taken_ports (after_port m p) fs))

entity_of : (m : Memory) (fs : List (Further Port)) → (after_ports m fs).entity ≡ m.entity
entity_of m [] = refl
entity_of m (f ∷ fs) = entity_of (after_port m f.item) fs

-- a closing name repeats that of its unit

closing_so : (text : List ℕ) (o : Option Token) → fair_closing text o ≡ true → Repeats text o
closing_so text None h = tt
closing_so text (Some t) h = same_bytes t.text text h

closing_from : (text : List ℕ) (o : Option Token) → Repeats text o → fair_closing text o ≡ true
closing_from text None h = refl
closing_from text (Some t) h = rw h (bytes_eq_same text)

-- eight facts
module _ (a b c d e f g h : Bool) where
  abbrev all_eight : Bool
  all_eight = a && (b && (c && (d && (e && (f && (g && h))))))

  eight_parts : all_eight ≡ true → (a ≡ true) × (b ≡ true) × (c ≡ true) × (d ≡ true) × (e ≡ true) × (f ≡ true) × (g ≡ true) × (h ≡ true)
  eight_parts all =
      let h1 = and_parts a (b && (c && (d && (e && (f && (g && h)))))) all in
      let h2 = and_parts b (c && (d && (e && (f && (g && h))))) h1.1 in
      let h3 = and_parts c (d && (e && (f && (g && h)))) h2.1 in
      let h4 = and_parts d (e && (f && (g && h))) h3.1 in
      let h5 = and_parts e (f && (g && h)) h4.1 in
      let h6 = and_parts f (g && h) h5.1 in
      let h7 = and_parts g h h6.1 in
      (h1.0, h2.0, h3.0, h4.0, h5.0, h6.0, h7.0, h7.1)

  eight_from : a ≡ true → b ≡ true → c ≡ true → d ≡ true → e ≡ true → f ≡ true → g ≡ true → h ≡ true → all_eight ≡ true
  eight_from ha hb hc hd he hf hg hh = rw (ha, hb, hc, hd, he, hf, hg, hh) refl

module _ (r : Revision) (f : File) (h : IsFile r f) where
  are_ports : AllByRecursion IsPort (ports_of f)
  are_ports = (h.first_port, go f.other_ports h.other_ports)
    where
      go : (fs : List (Further Port)) → AllByRecursion IsFurtherPort fs → AllByRecursion IsPort (items_of fs)
      go [] all = tt
      go (p ∷ fs) all = (all.0.1, go fs all.1)

  -- the tests of a file
  abbrev t1 : Bool
  t1 = not (among (no_memory true).known.taken f.entity.text)

  abbrev t2 : Bool
  t2 = all_new (entity_memory true f).known.taken (port_texts f.first_port)

  abbrev t3 : Bool
  t3 = fair_ports (after_port (entity_memory true f) f.first_port) f.other_ports

  abbrev t4 : Bool
  t4 = fair_closing (ports_memory true f).entity f.entity_closing

  abbrev t5 : Bool
  t5 = not (among (ports_memory true f).known.taken f.architecture.text)

  abbrev t6 : Bool
  t6 = bytes_eq f.of_entity.text (ports_memory true f).entity

  abbrev t7 : Bool
  t7 = fair_processes (ports_memory true f).known f.processes

  abbrev t8 : Bool
  t8 = fair_closing f.architecture.text f.architecture_closing

  declared_new : all_new taken_names (texts_of (declared f)) ≡ t1 && (t2 && (t3 && (t5 && true)))
  declared_new = ap (λ (b : Bool). t1 && b) (names_new (entity_memory true f) f.first_port f.other_ports f.architecture)

  same_entity : (ports_memory true f).entity ≡ f.entity.text
  same_entity = entity_of (after_port (entity_memory true f) f.first_port) f.other_ports

  pub fair_so : fair_file true f ≡ true → MeetsConditions f
  fair_so fair =
      let parts = eight_parts t1 t2 t3 t4 t5 t6 t7 t8 fair in
      let new : all_new taken_names (texts_of (declared f)) ≡ true = declared_new ∙ rw (parts.0, parts.1, parts.2, parts.4) refl in
      record {
        declared = new_so taken_names (texts_of (declared f)) new;
        of_entity = same_bytes f.of_entity.text (ports_memory true f).entity parts.5 ∙ same_entity;
        entity_closing = subst (λ (text : List ℕ). Repeats text f.entity_closing) same_entity (closing_so (ports_memory true f).entity f.entity_closing parts.3);
        modes = processes_so f are_ports f.processes parts.6;
        architecture_closing = closing_so f.architecture.text f.architecture_closing parts.7;
      }

  pub fair_from : MeetsConditions f → fair_file true f ≡ true
  fair_from meets =
      let new = sym declared_new ∙ new_from taken_names (texts_of (declared f)) meets.declared in
      let h1 = and_parts t1 (t2 && (t3 && (t5 && true))) new in
      let h2 = and_parts t2 (t3 && (t5 && true)) h1.1 in
      let h3 = and_parts t3 (t5 && true) h2.1 in
      let h4 = and_parts t5 true h3.1 in
      let again : t6 ≡ true = rw (meets.of_entity, same_entity) (bytes_eq_same f.entity.text) in
      let entity_end : t4 ≡ true = ap (λ (text : List ℕ). fair_closing text f.entity_closing) same_entity ∙ closing_from f.entity.text f.entity_closing meets.entity_closing in
      eight_from t1 t2 t3 t4 t5 t6 t7 t8 h1.0 h2.0 h3.0 entity_end h4.0 again (processes_from f are_ports f.processes meets.modes) (closing_from f.architecture.text f.architecture_closing meets.architecture_closing)
