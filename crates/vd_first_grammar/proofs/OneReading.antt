-- A token list has one answer alone.
use Rattle.std.proofs.Common.{◌≡◌, ℕ, zero, suc, ◌≤◌, ◌<◌, true, List, [], ◌∷◌, ◌++◌, length, take, drop, refl, sym, ap, ◌∙◌, subst, append_assoc, arith, inl, inr}
use Rattle.std.specs.List.{AllByRecursion}
use Rattle.std.proofs.lemmas.Bool.{cases_lt}
use Rattle.std.proofs.lemmas.List.{append-nil, take-append-drop}
use Rattle.vd_bytes.specs.declared.places.Place.{Place}
use Rattle.vd_forest.specs.Forest.{Forest}
use Rattle.vd_first_trees.specs.declared.form.Form.{Form}
use Rattle.vd_trees.specs.declared.revision.Revision.{Revision}
use Rattle.vd_first_lex.specs.declared.tokens.Token.{Token}
use Rattle.vd_first_grammar.specs.Derivations.{File}
use Rattle.vd_first_grammar.specs.Refusals.{GoesOn, IsDeepAt, IsRead, IsRefusedAt, IsTooDeepAt, nesting_limit, place_of_token}
use Rattle.vd_first_grammar.specs.Shapes.{file_shape}
use Rattle.vd_first_grammar.specs.Readings.{Reading, tree, hopeless, too_deep, IsReading}
use Rattle.vd_first_grammar.specs.Reader.{Outcome, got, stuck, deep, expressions_limit, file_at}
use Rattle.vd_first_grammar.proofs.Machine.{Memory, file_items, no_memory, scan, Run, run}
use Rattle.vd_first_grammar.proofs.Steps.{OnGot}
use Rattle.vd_first_grammar.proofs.RunFiles.{run_file}
use Rattle.vd_first_grammar.proofs.AgreementFiles.{rest_of, scan_file}
use Rattle.vd_first_grammar.proofs.Fairness.{fair_from}
use Rattle.vd_first_grammar.proofs.Passing.{Stops, stops, Completes, run_scan}
use Rattle.vd_first_grammar.proofs.Answers.{limits_fit, limit_room, passed_shallow}
use Rattle.vd_first_grammar.proofs.BackFiles.{file_back}

-- ---- fewer tokens

take_fewer : (ts : List Token) (m n : ℕ) → m ≤ n → take m (take n ts) ≡ take m ts
take_fewer ts zero n within = refl
take_fewer [] (suc m) zero within = refl
take_fewer [] (suc m) (suc n) within = refl
take_fewer (t ∷ ts) (suc m) zero within = absurd (omega arith)
take_fewer (t ∷ ts) (suc m) (suc n) within = ap (λ (us : List Token). t ∷ us) (take_fewer ts m n (omega arith))

-- where more tokens go on, fewer do
fewer_go_on : (r : Revision) (ts : List Token) (m n : ℕ) → m ≤ n → GoesOn r (take n ts) → GoesOn r (take m ts)
fewer_go_on r ts m n within more =
    let front : take m ts ++ drop m (take n ts) ≡ take n ts = ap (λ (us : List Token). us ++ drop m (take n ts)) (sym (take_fewer ts m n within)) ∙ take-append-drop m (take n ts) in
    record { rest = drop m (take n ts) ++ more.rest; whole = rw (← append_assoc, front) more.whole }

-- what is read goes on from each place
read_goes_on : (r : Revision) (ts : List Token) (f : File) → IsRead r ts f → (n : ℕ) → GoesOn r (take n ts)
read_goes_on r ts f read n = record { rest = drop n ts; whole = rw take-append-drop (record { file = f; is_file = read.is_file; tokens = read.tokens; conditions = read.conditions }) }

-- ---- what is read is scanned to its end

read_completes : (r : Revision) (ts : List Token) (f : File) → IsRead r ts f → Completes (nesting_limit r) (run (no_memory true) (file_items r) ts)
read_completes r ts f read =
    let same = ap (run (no_memory true) (file_items r)) (sym read.tokens) ∙ run_file r true f read.is_file in
    record {
      left = ap (λ (k : Run). k.left) same;
      fair = ap (λ (k : Run). k.fair) same ∙ fair_from r f read.is_file read.conditions;
      within = subst (AllByRecursion (λ d. d ≤ (nesting_limit r))) (sym (ap (λ (k : Run). k.depths) same)) read.shallow;
    }

read_scan : (r : Revision) (ts : List Token) (f : File) → IsRead r ts f → (m : Memory) × (scan (nesting_limit r) (no_memory true) (file_items r) ts ≡ got (m, []))
read_scan r ts f read = run_scan (nesting_limit r) ts (no_memory true) (file_items r) (read_completes r ts f read)

read_shallow : (r : Revision) (ts : List Token) (f : File) → IsRead r ts f → (j : ℕ) → IsDeepAt r ts j → ⊥
read_shallow r ts f read j deep_at =
    let done = read_scan r ts f read in
    let at = subst (Stops (nesting_limit r) (no_memory true) (file_items r) ts) done.1 (stops (nesting_limit r) ts (no_memory true) (file_items r)) in
    let all : length at.front ≡ length ts = ap length (sym (append-nil at.front) ∙ at.parts) in
    passed_shallow r at.front at.memory at.items [] ts at.passes at.parts j (omega (arith, all, deep_at.within)) deep_at

-- ---- two answers

got_by : (o : Outcome (Forest Form)) (t : Forest Form) → rest_of o ≡ got (tt, []) → OnGot o (λ y. y.0 ≡ t) → (u : Forest Form) → OnGot o (λ y. y.0 ≡ u) → t ≡ u
got_by (got x) t same first u second = sym first ∙ second
got_by (stuck rest) t same first u second = absurd cc
got_by (deep rest) t same first u second = absurd cc

one_tree : (r : Revision) (ts : List Token) (f g : File) → IsRead r ts f → IsRead r ts g → file_shape f ≡ file_shape g
one_tree r ts f g first second =
    let done = read_scan r ts f first in
    let same : rest_of (file_at r true (expressions_limit r) ts) ≡ got (tt, []) = sym (scan_file r true (nesting_limit r) (expressions_limit r) (limits_fit r) (limit_room r) ts) ∙ ap rest_of done.1 in
    let shape = λ (h : File) (read : IsRead r ts h). subst (λ (us : List Token). OnGot (file_at r true (expressions_limit r) us) (λ y. y.0 ≡ file_shape h)) read.tokens (file_back r h true (expressions_limit r) read.is_file) in
    got_by (file_at r true (expressions_limit r) ts) (file_shape f) same (shape f first) (file_shape g) (shape g second)

read_refused : (r : Revision) (ts : List Token) (f : File) (k : ℕ) → IsRead r ts f → IsRefusedAt r ts k → ⊥
read_refused r ts f k read refused = refused.hopeless.none (read_goes_on r ts f read (suc k))

refused_order : (r : Revision) (ts : List Token) (k l : ℕ) → IsRefusedAt r ts k → GoesOn r (take l ts) → k < l → ⊥
refused_order r ts k l refused goes later = refused.hopeless.none (fewer_go_on r ts (suc k) l later goes)

same_refused : (r : Revision) (ts : List Token) (k l : ℕ) → IsRefusedAt r ts k → IsRefusedAt r ts l → k ≡ l
same_refused r ts k l first second =
    elim (cases_lt k l) [
      | inl earlier ↦ absurd (refused_order r ts k l first second.hopeless.before earlier)
      | inr later ↦ elim (cases_lt l k) [
        | inl earlier ↦ absurd (refused_order r ts l k second first.hopeless.before earlier)
        | inr later' ↦ omega arith
      ]
    ]

refused_deep : (r : Revision) (ts : List Token) (k l : ℕ) → IsRefusedAt r ts k → IsTooDeepAt r ts l → ⊥
refused_deep r ts k l refused deeper =
    elim (cases_lt k l) [
      | inl later ↦ refused_order r ts k l refused deeper.before later
      | inr up_to ↦ refused.shallow l up_to deeper.deep
    ]

pub one_reading : (r : Revision) (ts : List Token) (a b : Reading) → IsReading r ts a → IsReading r ts b → a ≡ b
one_reading r ts (tree t) (tree u) first second = ap (λ (f : Forest Form). tree f) (first.2 ∙ one_tree r ts first.0 second.0 first.1 second.1 ∙ sym second.2)
one_reading r ts (tree t) (hopeless q) first second = absurd (read_refused r ts first.0 second.0 first.1 second.1)
one_reading r ts (tree t) too_deep first second = absurd (read_shallow r ts first.0 first.1 second.0 second.1.deep)
one_reading r ts (hopeless p) (tree u) first second = absurd (read_refused r ts second.0 first.0 second.1 first.1)
one_reading r ts (hopeless p) (hopeless q) first second = ap (λ (x : Place). hopeless x) (first.2 ∙ ap (place_of_token ts) (same_refused r ts first.0 second.0 first.1 second.1) ∙ sym second.2)
one_reading r ts (hopeless p) too_deep first second = absurd (refused_deep r ts first.0 second.0 first.1 second.1)
one_reading r ts too_deep (tree u) first second = absurd (read_shallow r ts second.0 second.1 first.0 first.1.deep)
one_reading r ts too_deep (hopeless q) first second = absurd (refused_deep r ts second.0 first.0 second.1 first.1)
one_reading r ts too_deep too_deep first second = refl
