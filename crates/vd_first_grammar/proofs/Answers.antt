-- What reading answers for a token list is what the definitions say.
use Rattle.std.proofs.Common.{◌≡◌, ℕ, zero, suc, ◌+◌, ◌≤◌, ◌<◌, Bool, true, false, cond, List, [], ◌∷◌, ◌++◌, length, take, get_or, Option, Some, None, refl, sym, ap, ◌∙◌, subst, append_assoc, arith, inl, inr}
use Rattle.std.specs.Prelude.{◌&&◌}
use Rattle.std.specs.List.{AllByRecursion}
use Rattle.std.proofs.Math.Seq.{get_or-append_seam, take-append_seam}
use Rattle.std.proofs.lemmas.List.{append-nil, length-append}
use Rattle.std.proofs.lemmas.Bool.{false≢true, and_parts, cases_lt}
use Rattle.vd_forest.specs.Forest.{Forest}
use Rattle.vd_first_trees.specs.declared.form.Form.{Form}
use Rattle.vd_trees.specs.declared.revision.Revision.{Revision}
use Rattle.vd_trees.specs.declared.revision.Revision.TheVariants.{V2019, V1993}
use Rattle.vd_first_lex.specs.declared.tokens.Token.{Token}
use Rattle.vd_first_lex.specs.declared.tokens.TheConstants.{OUT}
use Rattle.vd_first_grammar.specs.Symbols.{word}
use Rattle.vd_first_grammar.specs.Derivations.{File, IsFile, file_tokens}
use Rattle.vd_first_grammar.specs.Conditions.{file_depths}
use Rattle.vd_first_grammar.specs.Refusals.{IsInLanguage, GoesOn, IsDeepAt, IsRefusedAt, IsTooDeepAt, nesting_limit, no_token, place_of_token}
use Rattle.vd_first_grammar.specs.Readings.{tree, hopeless, too_deep, IsReading}
use Rattle.vd_first_grammar.specs.Reader.{is, is_name, with_texts, Outcome, got, stuck, deep, expressions_limit, file_at}
use Rattle.vd_first_lex.specs.Lexings.{EndsOnce}
use Rattle.vd_first_grammar.proofs.Machine.{Item, fixed, entity_name, port_name, next_port_name, names_end, mode, ports_end, unit_end, architecture_name, entity_again, processes_end, listed_name, listed_end, process_begin, target, operand, expression_end, file_items, opened, depth, Memory, no_memory, remember, meets, scan, Run, misfit, before, run}
use Rattle.vd_first_grammar.proofs.Steps.{OnGot}
use Rattle.vd_first_grammar.proofs.RunExpressions.{run_step}
use Rattle.vd_first_grammar.proofs.RunFiles.{fair_file, run_file}
use Rattle.vd_first_grammar.proofs.SoundFiles.{ReadsFile, file_sound}
use Rattle.vd_first_grammar.proofs.AgreementFiles.{rest_of, scan_file}
use Rattle.vd_first_grammar.proofs.Fairness.{fair_so, fair_from}
use Rattle.vd_first_grammar.proofs.Passing.{Passes, Refuses, Exceeds, StopsAt, Stops, stops, depths_of, depths_length, depths_within, run_passes, passes_parts, Completes, run_misfit, run_scan}
use Rattle.vd_first_grammar.proofs.Ending.{file_all_passed, file_nothing_more}
use Rattle.vd_first_grammar.proofs.Finishing.{finish, finish_left, finish_fair}

-- ---- a derivation of what fits

sum_of : List ℕ → ℕ
sum_of [] = 0
sum_of (d ∷ ds) = d + sum_of ds

below_sum : (ds : List ℕ) (limit : ℕ) → sum_of ds ≤ limit → AllByRecursion (λ d. d ≤ limit) ds
unfolding sum_of
below_sum [] limit h = tt
below_sum (d ∷ ds) limit h = (omega arith, below_sum ds limit (omega arith))

abbrev Derived : Revision → List Token → Type 0
Derived r ts = (f : File) × IsFile r f × (file_tokens f ≡ ts)

tokens_left : {A : Type 0} → Outcome A → List Token
tokens_left (got x) = x.1
tokens_left (stuck rest) = rest
tokens_left (deep rest) = rest

derived_by : (r : Revision) (ts : List Token) (o : Outcome (Forest Form)) → OnGot o (ReadsFile r ts) → rest_of o ≡ got (tt, []) → Derived r ts
unfolding tokens_left
derived_by r ts (got x) read same =
    let nothing_left : x.1 ≡ [] = ap tokens_left same in
    (read.file, read.is_file, sym (append-nil (file_tokens read.file)) ∙ ap (λ (us : List Token). file_tokens read.file ++ us) (sym nothing_left) ∙ read.tokens)
derived_by r ts (stuck rest) read same = absurd cc
derived_by r ts (deep rest) read same = absurd cc

module _ (r : Revision) where
  -- tokens that fit, with all conditions, have a derivation
  derived : (g : Bool) (ts : List Token) → (run (no_memory g) (file_items r) ts).left ≡ Some [] → (run (no_memory g) (file_items r) ts).fair ≡ true → Derived r ts
  derived g ts left fair =
      let ds = (run (no_memory g) (file_items r) ts).depths in
      let n = sum_of ds in
      let limit = n + 2 in
      let done : Completes limit (run (no_memory g) (file_items r) ts) = record { left = left; fair = fair; within = below_sum ds limit (omega arith) } in
      let read = run_scan limit ts (no_memory g) (file_items r) done in
      let same : rest_of (file_at r g n ts) ≡ got (tt, []) = sym (scan_file r g limit n (omega arith) (omega arith) ts) ∙ ap rest_of read.1 in
      derived_by r ts (file_at r g n ts) (file_sound r g n ts) same

  in_language : (ts : List Token) → (run (no_memory true) (file_items r) ts).left ≡ Some [] → (run (no_memory true) (file_items r) ts).fair ≡ true → IsInLanguage r ts
  in_language ts left fair =
      let f = derived true ts left fair in
      let holds : fair_file true f.0 ≡ true = sym (ap (λ (k : Run). k.fair) (run_file r true f.0 f.1)) ∙ ap (λ (us : List Token). (run (no_memory true) (file_items r) us).fair) f.2 ∙ fair in
      record { file = f.0; is_file = f.1; tokens = f.2; conditions = fair_so r f.0 f.1 holds }

  -- what passes goes on
  goes_on : (limit : ℕ) (front : List Token) (m : Memory) (is' : List Item) → Passes limit (no_memory true) (file_items r) front m is' → GoesOn r front
  goes_on limit front m is' passes =
      let rest = finish m is' in
      let same = run_passes limit front rest (no_memory true) (file_items r) m is' passes in
      record {
        rest = rest;
        whole = in_language (front ++ rest) (ap (λ (k : Run). k.left) same ∙ finish_left m is') (ap (λ (k : Run). k.fair) same ∙ finish_fair m is');
      }

-- ---- lists

take_one_more : (front rest : List Token) (t : Token) → take (suc (length front)) (front ++ t ∷ rest) ≡ front ++ t ∷ []
take_one_more [] rest t = refl
take_one_more (u ∷ front) rest t = ap (λ (ts : List Token). u ∷ ts) (take_one_more front rest t)

record SplitsAt (ts : List Token) (k : ℕ) : Type 0 where
  pub front : List Token
  pub token : Token
  pub back : List Token
  pub parts : front ++ token ∷ back ≡ ts
  pub at : length front ≡ k

split_at : (ts : List Token) (k : ℕ) → k < length ts → SplitsAt ts k
split_at [] k within = absurd (omega arith)
split_at (t ∷ ts) zero within = record { front = []; token = t; back = ts; parts = refl; at = refl }
split_at (t ∷ ts) (suc k) within =
    let s = split_at ts k (omega arith) in
    record { front = t ∷ s.front; token = s.token; back = s.back; parts = ap (λ (us : List Token). t ∷ us) s.parts; at = ap suc s.at }

-- ---- depths

-- the depth of a token that fits is that of the item that it opens
module _ (r : Revision) (g : Bool) (limit : ℕ) (front : List Token) (m : Memory) (is' : List Item) (passes : Passes limit (no_memory g) (file_items r) front m is') (t : Token) (rest : List Token) (f : File) (is_file : IsFile r f) (tokens : file_tokens f ≡ front ++ t ∷ rest) where
  whole_run : before (depths_of limit (no_memory g) (file_items r) front m is' passes) true (run m is' (t ∷ rest)) ≡ record { left = Some []; depths = file_depths f; fair = fair_file g f }
  whole_run = sym (run_passes limit front (t ∷ rest) (no_memory g) (file_items r) m is' passes) ∙ ap (run (no_memory g) (file_items r)) (sym tokens) ∙ run_file r g f is_file

  left_over : (run m is' (t ∷ rest)).left ≡ Some []
  left_over = ap (λ (k : Run). k.left) whole_run

  fair_over : (run m is' (t ∷ rest)).fair ≡ fair_file g f
  fair_over = ap (λ (k : Run). k.fair) whole_run

  depths_over : depths_of limit (no_memory g) (file_items r) front m is' passes ++ (run m is' (t ∷ rest)).depths ≡ file_depths f
  depths_over = ap (λ (k : Run). k.depths) whole_run

  depth_by : (i : Item) (js : List Item) (body : List Item) → is' ≡ i ∷ js → opened i t ≡ Some body → get_or (file_depths f) (length front) 0 ≡ depth i t
  depth_by i js body items opens =
      let ds = depths_of limit (no_memory g) (file_items r) front m is' passes in
      let one : run m is' (t ∷ rest) ≡ before (depth i t ∷ []) (meets m i t) (run (remember m i t) (body ++ js) rest) = ap (λ (ks : List Item). run m ks (t ∷ rest)) items ∙ run_step m i js t rest body opens in
      let behind = (run (remember m i t) (body ++ js) rest).depths in
      ap (λ (es : List ℕ). get_or es (length front) 0) (sym depths_over ∙ ap (λ (k : Run). ds ++ k.depths) one)
      ∙ ap (λ (k : ℕ). get_or (ds ++ depth i t ∷ behind) k 0) (sym (depths_length limit front (no_memory g) (file_items r) m is' passes))
      ∙ get_or-append_seam ds (depth i t) behind 0

run_nothing : (m : Memory) (t : Token) (rest : List Token) → run m [] (t ∷ rest) ≡ misfit
unfolding run
run_nothing m t rest = refl

-- no item that the token opens is beyond the limit
abbrev Shallow : ℕ → List Item → Token → Type 0
Shallow limit [] t = Unit {0}
Shallow limit (i ∷ is') t = (body : List Item) → opened i t ≡ Some body → depth i t ≤ limit

not_deep_by : (r : Revision) (limit : ℕ) (front : List Token) (m : Memory) (is' : List Item) (passes : Passes limit (no_memory true) (file_items r) front m is') (t : Token) (rest : List Token) (f : File) (is_file : IsFile r f) (tokens : file_tokens f ≡ front ++ t ∷ rest) → Shallow limit is' t → get_or (file_depths f) (length front) 0 ≤ limit
not_deep_by r limit front m [] passes t rest f is_file tokens shallow =
    let none : None ≡ Some [] = sym (ap (λ (k : Run). k.left) (run_nothing m t rest)) ∙ left_over r true limit front m [] passes t rest f is_file tokens in absurd cc
not_deep_by r limit front m (i ∷ is') passes t rest f is_file tokens shallow = go (opened i t) refl
  where
    go : (o : Option (List Item)) → opened i t ≡ o → get_or (file_depths f) (length front) 0 ≤ limit
    go None opens = let none : None ≡ Some [] = sym (ap (λ (k : Run). k.left) (run_misfit m i is' t rest opens)) ∙ left_over r true limit front m (i ∷ is') passes t rest f is_file tokens in absurd cc
    go (Some body) opens = rw (depth_by r true limit front m (i ∷ is') passes t rest f is_file tokens i is' body refl opens) (shallow body opens)

not_deep : (r : Revision) (front : List Token) (m : Memory) (is' : List Item) (t : Token) (behind ts : List Token) → Passes (nesting_limit r) (no_memory true) (file_items r) front m is' → front ++ t ∷ behind ≡ ts → Shallow (nesting_limit r) is' t → IsDeepAt r ts (length front) → ⊥
not_deep r front m is' t behind ts passes parts shallow deep_at =
    let front_is : take (suc (length front)) ts ≡ front ++ t ∷ [] = ap (take (suc (length front))) (sym parts) ∙ take_one_more front behind t in
    let tokens : file_tokens deep_at.file ≡ front ++ t ∷ deep_at.rest = deep_at.tokens ∙ ap (λ (us : List Token). us ++ deep_at.rest) front_is ∙ append_assoc front (t ∷ []) deep_at.rest in
    let within = not_deep_by r (nesting_limit r) front m is' passes t deep_at.rest deep_at.file deep_at.is_file tokens shallow in
    omega (arith, deep_at.deep)

passed_item : (r : Revision) (m : Memory) (ks : List Item) (t : Token) (back : List Token) (n : Memory) (js : List Item) → Passes (nesting_limit r) m ks (t ∷ back) n js → Shallow (nesting_limit r) ks t
passed_item r m [] t back n js p = tt
passed_item r m (i ∷ ks) t back n js p = λ body opens. p.2

-- what passes is not deep
pub passed_shallow : (r : Revision) (front : List Token) (m : Memory) (is' : List Item) (rest ts : List Token) → Passes (nesting_limit r) (no_memory true) (file_items r) front m is' → front ++ rest ≡ ts → (j : ℕ) → j < length front → IsDeepAt r ts j → ⊥
passed_shallow r front m is' rest ts passes parts j before_end deep_at =
    let s = split_at front j before_end in
    let parted = passes_parts (nesting_limit r) s.front (s.token ∷ s.back) (no_memory true) (file_items r) m is' (subst (λ (us : List Token). Passes (nesting_limit r) (no_memory true) (file_items r) us m is') (sym s.parts) passes) in
    let whole_list : s.front ++ s.token ∷ (s.back ++ rest) ≡ ts = sym (append_assoc s.front (s.token ∷ s.back) rest) ∙ ap (λ (us : List Token). us ++ rest) s.parts ∙ parts in
    not_deep r s.front parted.0 parted.1 s.token (s.back ++ rest) ts parted.2 whole_list (passed_item r parted.0 parted.1 s.token s.back m is' parted.3) (subst (IsDeepAt r ts) (sym s.at) deep_at)

-- ---- the first hopeless token

refused_shallow : (r : Revision) (m : Memory) (is' : List Item) (t : Token) (rest : List Token) → Refuses (nesting_limit r) m is' (t ∷ rest) → Shallow (nesting_limit r) is' t
refused_shallow r m [] t rest refuses = tt
refused_shallow r m (i ∷ is') t rest (inl none) = λ body opens. absurd (let wrong : None ≡ Some body = sym none ∙ opens in cc)
refused_shallow r m (i ∷ is') t rest (inr some) = λ body opens. some.2

refused_run : (r : Revision) (m : Memory) (is' : List Item) (t : Token) (rest behind : List Token) → Refuses (nesting_limit r) m is' (t ∷ rest) → (run m is' (t ∷ behind)).left ≡ Some [] → (run m is' (t ∷ behind)).fair ≡ true → ⊥
refused_run r m [] t rest behind refuses left fair = absurd refuses
refused_run r m (i ∷ is') t rest behind (inl none) left fair = let wrong : None ≡ Some [] = sym (ap (λ (k : Run). k.left) (run_misfit m i is' t behind none)) ∙ left in absurd cc
refused_run r m (i ∷ is') t rest behind (inr some) left fair =
    let one = ap (λ (k : Run). k.fair) (run_step m i is' t behind some.0 some.1) in
    let wrong : meets m i t && (run (remember m i t) (some.0 ++ is') behind).fair ≡ true = sym one ∙ fair in
    let holds = and_parts (meets m i t) (run (remember m i t) (some.0 ++ is') behind).fair wrong in
    false≢true (sym some.3 ∙ holds.0)

place_behind : (front : List Token) (t : Token) (rest : List Token) → place_of_token (front ++ t ∷ rest) (length front) ≡ t.place
place_behind front t rest = ap (λ (u : Token). u.place) (get_or-append_seam front t rest no_token)

within_list : (front : List Token) (t : Token) (rest : List Token) → length front < length (front ++ t ∷ rest)
within_list front t rest = omega (arith, length-append front (t ∷ rest))

refused_at : (r : Revision) (front : List Token) (m : Memory) (is' : List Item) (t : Token) (rest : List Token) → Passes (nesting_limit r) (no_memory true) (file_items r) front m is' → Refuses (nesting_limit r) m is' (t ∷ rest) → IsRefusedAt r (front ++ t ∷ rest) (length front)
refused_at r front m is' t rest passes refuses =
    let ts = front ++ t ∷ rest in
    record {
      hopeless = record {
        within = within_list front t rest;
        before = rw (take-append_seam front (t ∷ rest)) (goes_on r (nesting_limit r) front m is' passes);
        none = λ more.
            let lang = more.whole in
            let tokens : file_tokens lang.file ≡ front ++ t ∷ more.rest = lang.tokens ∙ ap (λ (us : List Token). us ++ more.rest) (take_one_more front rest t) ∙ append_assoc front (t ∷ []) more.rest in
            refused_run r m is' t rest more.rest refuses
            (left_over r true (nesting_limit r) front m is' passes t more.rest lang.file lang.is_file tokens)
            (fair_over r true (nesting_limit r) front m is' passes t more.rest lang.file lang.is_file tokens ∙ fair_from r lang.file lang.is_file lang.conditions);
      };
      shallow = λ j up_to deep_at.
          elim (cases_lt j (length front)) [
            | inl earlier ↦ passed_shallow r front m is' (t ∷ rest) ts passes refl j earlier deep_at
            | inr later ↦ not_deep r front m is' t rest ts passes refl (refused_shallow r m is' t rest refuses) (subst (IsDeepAt r ts) (omega arith) deep_at)
          ];
    }

-- ---- the first token beyond the limit. There the grammar alone counts, so no `out` port is guarded

abbrev unguarded : Memory → Memory
unguarded m = record m { known = record { taken = m.known.taken; ins = m.known.ins; outs = []; guarded = false } }

no_outs : (b : Bool) (texts : List (List ℕ)) → cond (b && false) (with_texts [] texts) [] ≡ []
no_outs true texts = refl
no_outs false texts = refl

remember_unguarded : (m : Memory) (i : Item) (t : Token) → remember (unguarded m) i t ≡ unguarded (remember m i t)
remember_unguarded m (fixed d s) t = refl
remember_unguarded m entity_name t = refl
remember_unguarded m port_name t = refl
remember_unguarded m next_port_name t = refl
remember_unguarded m names_end t = refl
remember_unguarded m mode t = rw (no_outs (is (word OUT) t) m.texts) refl
remember_unguarded m ports_end t = refl
remember_unguarded m (unit_end of_entity) t = refl
remember_unguarded m architecture_name t = refl
remember_unguarded m entity_again t = refl
remember_unguarded m (processes_end r) t = refl
remember_unguarded m listed_name t = refl
remember_unguarded m listed_end t = refl
remember_unguarded m process_begin t = refl
remember_unguarded m target t = refl
remember_unguarded m (operand d signed) t = refl
remember_unguarded m (expression_end d n) t = refl

both_true : (b : Bool) → cond b true true ≡ true
both_true true = refl
both_true false = refl

meets_unguarded : (m : Memory) (i : Item) (t : Token) → meets m i t ≡ true → meets (unguarded m) i t ≡ true
meets_unguarded m (fixed d s) t h = h
meets_unguarded m entity_name t h = h
meets_unguarded m port_name t h = h
meets_unguarded m next_port_name t h = h
meets_unguarded m names_end t h = h
meets_unguarded m mode t h = h
meets_unguarded m ports_end t h = h
meets_unguarded m (unit_end true) t h = h
meets_unguarded m (unit_end false) t h = h
meets_unguarded m architecture_name t h = h
meets_unguarded m entity_again t h = h
meets_unguarded m (processes_end r) t h = h
meets_unguarded m listed_name t h = refl
meets_unguarded m listed_end t h = h
meets_unguarded m process_begin t h = h
meets_unguarded m target t h = h
meets_unguarded m (operand d signed) t h = both_true (is_name t)
meets_unguarded m (expression_end d n) t h = h

passes_unguarded : (limit : ℕ) (front : List Token) (m : Memory) (is' : List Item) (n : Memory) (js : List Item) → Passes limit m is' front n js → Passes limit (unguarded m) is' front (unguarded n) js
passes_unguarded limit [] m is' n js p = (ap unguarded p.0, p.1)
passes_unguarded limit (t ∷ ts) m [] n js p = absurd p
passes_unguarded limit (t ∷ ts) m (i ∷ is') n js p =
    (p.0, p.1, p.2, meets_unguarded m i t p.3, rw (remember_unguarded m i t) (passes_unguarded limit ts (remember m i t) (p.0 ++ is') n js p.4))

-- what is beyond the limit asks nothing
deep_meets : (m : Memory) (i : Item) (t : Token) → 2 < depth i t → meets (unguarded m) i t ≡ true
deep_meets m (fixed d s) t h = refl
deep_meets m entity_name t h = absurd (omega arith)
deep_meets m port_name t h = absurd (omega arith)
deep_meets m next_port_name t h = absurd (omega arith)
deep_meets m names_end t h = refl
deep_meets m mode t h = refl
deep_meets m ports_end t h = refl
deep_meets m (unit_end of_entity) t h = absurd (omega arith)
deep_meets m architecture_name t h = absurd (omega arith)
deep_meets m entity_again t h = absurd (omega arith)
deep_meets m (processes_end r) t h = refl
deep_meets m listed_name t h = refl
deep_meets m listed_end t h = refl
deep_meets m process_begin t h = refl
deep_meets m target t h = absurd (omega arith)
deep_meets m (operand d signed) t h = both_true (is_name t)
deep_meets m (expression_end d n) t h = refl

pub limits_fit : (r : Revision) → expressions_limit r + 3 ≡ nesting_limit r + 1
limits_fit V2019 = refl
limits_fit V1993 = refl

pub limit_room : (r : Revision) → 2 ≤ nesting_limit r
limit_room V2019 = omega arith
limit_room V1993 = omega arith

deep_by : (r : Revision) (front : List Token) (m : Memory) (i : Item) (is' : List Item) (t : Token) (rest : List Token) (body : List Item) → Passes (nesting_limit r) (no_memory true) (file_items r) front m (i ∷ is') → opened i t ≡ Some body → (nesting_limit r) < depth i t → IsDeepAt r (front ++ t ∷ rest) (length front)
deep_by r front m i is' t rest body passes opens beyond =
    let free = passes_unguarded (nesting_limit r) front (no_memory true) (file_items r) m (i ∷ is') passes in
    let n = remember (unguarded m) i t in
    let tail = finish n (body ++ is') in
    let one = run_step (unguarded m) i is' t tail body opens in
    let all = run_passes (nesting_limit r) front (t ∷ tail) (no_memory false) (file_items r) (unguarded m) (i ∷ is') free in
    let holds : meets (unguarded m) i t ≡ true = deep_meets m i t (omega (arith, limit_room r)) in
    let left : (run (no_memory false) (file_items r) (front ++ t ∷ tail)).left ≡ Some [] = ap (λ (k : Run). k.left) all ∙ ap (λ (k : Run). k.left) one ∙ finish_left n (body ++ is') in
    let fair : (run (no_memory false) (file_items r) (front ++ t ∷ tail)).fair ≡ true = ap (λ (k : Run). k.fair) all ∙ ap (λ (k : Run). k.fair) one ∙ rw holds (finish_fair n (body ++ is')) in
    let f = derived r false (front ++ t ∷ tail) left fair in
    record {
      within = within_list front t rest;
      file = f.0;
      rest = tail;
      is_file = f.1;
      tokens = f.2 ∙ sym (append_assoc front (t ∷ []) tail) ∙ ap (λ (us : List Token). us ++ tail) (sym (take_one_more front rest t));
      deep = rw (depth_by r false (nesting_limit r) front (unguarded m) (i ∷ is') free t tail f.0 f.1 f.2 i is' body refl opens) beyond;
    }

deep_at : (r : Revision) (front : List Token) (m : Memory) (is' : List Item) (t : Token) (rest : List Token) → Passes (nesting_limit r) (no_memory true) (file_items r) front m is' → Exceeds (nesting_limit r) is' (t ∷ rest) → IsDeepAt r (front ++ t ∷ rest) (length front)
deep_at r front m [] t rest passes exceeds = absurd exceeds
deep_at r front m (i ∷ is') t rest passes exceeds = deep_by r front m i is' t rest exceeds.0 passes exceeds.1 exceeds.2

too_deep_at : (r : Revision) (front : List Token) (m : Memory) (is' : List Item) (t : Token) (rest : List Token) → Passes (nesting_limit r) (no_memory true) (file_items r) front m is' → Exceeds (nesting_limit r) is' (t ∷ rest) → IsTooDeepAt r (front ++ t ∷ rest) (length front)
too_deep_at r front m is' t rest passes exceeds = record {
  deep = deep_at r front m is' t rest passes exceeds;
  before = rw (take-append_seam front (t ∷ rest)) (goes_on r (nesting_limit r) front m is' passes);
  shallow = λ j earlier deeper. passed_shallow r front m is' (t ∷ rest) (front ++ t ∷ rest) passes refl j earlier deeper;
}

-- ---- the answer

run_none : (m : Memory) → run m [] [] ≡ record { left = Some []; depths = []; fair = true }
unfolding run
run_none m = refl

-- nothing is left, and nothing is too deep
read_at : (r : Revision) (ts : List Token) (x : Forest Form × List Token) (front : List Token) (m : Memory) → Passes (nesting_limit r) (no_memory true) (file_items r) front m [] → front ++ [] ≡ ts → x.1 ≡ [] → ReadsFile r ts x → IsReading r ts (tree x.0)
read_at r ts x front m passes parts none read =
    let f = read.file in
    let tokens : file_tokens f ≡ ts = sym (append-nil (file_tokens f)) ∙ ap (λ (us : List Token). file_tokens f ++ us) (sym none) ∙ read.tokens in
    let ds = depths_of (nesting_limit r) (no_memory true) (file_items r) front m [] passes in
    let same : before ds true (run m [] []) ≡ record { left = Some []; depths = file_depths f; fair = fair_file true f } =
    sym (run_passes (nesting_limit r) front [] (no_memory true) (file_items r) m [] passes) ∙ ap (run (no_memory true) (file_items r)) (parts ∙ sym tokens) ∙ run_file r true f read.is_file in
    let fair : fair_file true f ≡ true = sym (ap (λ (k : Run). k.fair) same) ∙ ap (λ (k : Run). k.fair) (run_none m) in
    let depths : ds ≡ file_depths f = sym (append-nil ds) ∙ ap (λ (k : Run). ds ++ k.depths) (sym (run_none m)) ∙ ap (λ (k : Run). k.depths) same in
    (f, record { is_file = read.is_file; tokens = tokens; conditions = fair_so r f read.is_file fair; shallow = subst (AllByRecursion (λ d. d ≤ (nesting_limit r))) depths (depths_within (nesting_limit r) front (no_memory true) (file_items r) m [] passes) }, read.tree)

abbrev pub Answer : Revision → List Token → Outcome (Forest Form) → Type 0
Answer r ts (got x) = IsReading r ts (tree x.0)
Answer r ts (stuck rest) = IsReading r ts (hopeless (place_of_token rest 0))
Answer r ts (deep rest) = IsReading r ts too_deep

stuck_at : (r : Revision) (ts rest : List Token) → EndsOnce ts → StopsAt (nesting_limit r) (no_memory true) (file_items r) ts rest (λ n js. Refuses (nesting_limit r) n js rest) → IsReading r ts (hopeless (place_of_token rest 0))
stuck_at r ts [] ends at =
    let front_is : at.front ≡ ts = sym (append-nil at.front) ∙ at.parts in
    let none : at.items ≡ [] = file_all_passed r (nesting_limit r) ts (no_memory true) at.memory at.items (subst (λ (us : List Token). Passes (nesting_limit r) (no_memory true) (file_items r) us at.memory at.items) front_is at.passes) ends in
    let wrong : Refuses (nesting_limit r) at.memory [] [] = subst (λ (js : List Item). Refuses (nesting_limit r) at.memory js []) none at.here in
    absurd wrong
stuck_at r ts (t ∷ rest) ends at =
    subst (λ (us : List Token). IsReading r us (hopeless t.place)) at.parts
    (length at.front, refused_at r at.front at.memory at.items t rest at.passes at.here, sym (place_behind at.front t rest))

deep_rest : (r : Revision) (ts rest : List Token) → StopsAt (nesting_limit r) (no_memory true) (file_items r) ts rest (λ n js. Exceeds (nesting_limit r) js rest) → IsReading r ts too_deep
deep_rest r ts [] at = absurd (go at.items at.here)
  where
    go : (js : List Item) → Exceeds (nesting_limit r) js [] → ⊥
    go [] h = h
    go (i ∷ js) h = h
deep_rest r ts (t ∷ rest) at = subst (λ (us : List Token). IsReading r us too_deep) at.parts (length at.front, too_deep_at r at.front at.memory at.items t rest at.passes at.here)

got_at : (r : Revision) (ts : List Token) → EndsOnce ts → (x : Forest Form × List Token) (y : Memory × List Token) → ReadsFile r ts x → StopsAt (nesting_limit r) (no_memory true) (file_items r) ts y.1 (λ n js. (n ≡ y.0) × (js ≡ [])) → y.1 ≡ x.1 → IsReading r ts (tree x.0)
got_at r ts ends x y read at same =
    let passes : Passes (nesting_limit r) (no_memory true) (file_items r) at.front at.memory [] = subst (Passes (nesting_limit r) (no_memory true) (file_items r) at.front at.memory) at.here.1 at.passes in
    let none : y.1 ≡ [] = file_nothing_more r (nesting_limit r) at.front y.1 (no_memory true) at.memory passes (subst EndsOnce (sym at.parts) ends) in
    read_at r ts x at.front at.memory passes (ap (λ (us : List Token). at.front ++ us) (sym none) ∙ at.parts) (sym same ∙ none) read

answered_by : (r : Revision) (ts : List Token) → EndsOnce ts → (o : Outcome (Forest Form)) (s : Outcome Memory) → OnGot o (ReadsFile r ts) → Stops (nesting_limit r) (no_memory true) (file_items r) ts s → rest_of s ≡ rest_of o → Answer r ts o
unfolding tokens_left
answered_by r ts ends (got x) (got y) read at same = got_at r ts ends x y read at (ap tokens_left same)
answered_by r ts ends (got x) (stuck rest) read at same = absurd cc
answered_by r ts ends (got x) (deep rest) read at same = absurd cc
answered_by r ts ends (stuck rest) (got y) read at same = absurd cc
answered_by r ts ends (stuck rest) (stuck rest') read at same = subst (λ (us : List Token). IsReading r ts (hopeless (place_of_token us 0))) (ap tokens_left same) (stuck_at r ts rest' ends at)
answered_by r ts ends (stuck rest) (deep rest') read at same = absurd cc
answered_by r ts ends (deep rest) (got y) read at same = absurd cc
answered_by r ts ends (deep rest) (stuck rest') read at same = absurd cc
answered_by r ts ends (deep rest) (deep rest') read at same = deep_rest r ts rest' at

pub answered : (r : Revision) (ts : List Token) → EndsOnce ts → Answer r ts (file_at r true (expressions_limit r) ts)
answered r ts ends =
    answered_by r ts ends (file_at r true (expressions_limit r) ts) (scan (nesting_limit r) (no_memory true) (file_items r) ts)
    (file_sound r true (expressions_limit r) ts) (stops (nesting_limit r) ts (no_memory true) (file_items r)) (scan_file r true (nesting_limit r) (expressions_limit r) (limits_fit r) (limit_room r) ts)
