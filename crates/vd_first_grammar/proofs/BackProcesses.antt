-- The tokens of a process's derivation are read back to its shape, wherever reading gets through.
use Rattle.std.proofs.Common.{◌≡◌, ℕ, Bool, true, false, List, [], ◌∷◌, ◌++◌, Option, Some, None, refl, sym, ap, ◌∙◌, subst, append_assoc}
use Rattle.std.specs.Prelude.{map}
use Rattle.std.specs.List.{flat_map, AllByRecursion}
use Rattle.vd_forest.specs.Forest.{Forest, nothing, turned}
use Rattle.vd_forest.proofs.ForestLemmas.{reversed_reversed}
use Rattle.vd_first_trees.specs.declared.form.Form.{Form}
use Rattle.vd_first_trees.specs.declared.form.Form.TheVariants as form
use Rattle.vd_trees.specs.declared.revision.Revision.{Revision}
use Rattle.vd_trees.specs.declared.revision.Revision.TheVariants.{V2019, V1993}
use Rattle.vd_first_lex.specs.declared.tokens.Token.{Token}
use Rattle.vd_first_lex.specs.declared.tokens.TheConstants.{ALL, AND, BEGIN, COMMA, IS, PROCESS, CLOSING, ARROW}
use Rattle.vd_first_grammar.specs.Symbols.{word, mark, Is, Spell}
use Rattle.vd_first_grammar.specs.Derivations.{expression_tokens, Further, Names, names_of, names_tokens, further_name_tokens, IsFurtherName, AreNames, Sensitivity, every, listed, IsSensitivity, sensitivity_tokens, IsOptional, optional_tokens, Process, IsProcess, process_tokens}
use Rattle.vd_first_grammar.specs.Refusals.{place_of_token}
use Rattle.vd_first_grammar.specs.Shapes.{node, expression_shape, name_nodes, sensitivity_shape, is_shape, assignment_shape, process_shape, processes_shape}
use Rattle.vd_first_grammar.specs.Reader.{is, is_name_outside, Outcome, got, ◌>>=◌, token_at, spelled_at, begins, optional_at, repeated_at, Known, name_before, name_tree, expression_at, process_head, process_foot, further_listed_at, listed_at, every_at, sensitivity_at, sensitivity_form, is_form, FrontRead, front_at, process_tree, process_at}
use Rattle.vd_first_grammar.proofs.Steps.{OnGot, got_bind, repeated_step, Shortens}
use Rattle.vd_first_grammar.proofs.RunFiles.{process_parts}
use Rattle.vd_first_grammar.proofs.SoundProcesses.{head_place, is_place_at}
use Rattle.vd_first_grammar.proofs.Agreement.{further_listed_shorter}
use Rattle.vd_first_grammar.proofs.AgreementFiles.{process_shorter}
use Rattle.vd_first_grammar.proofs.BackExpressions.{Gets, token_gets, gets_bind, spelled_gets, expression_back}

-- one round more, and the end of the rounds
pub round : {A : Type 0} (test : Token → Bool) (part : A → List Token → Outcome A) → Shortens part → (a : A) (ts : List Token) (P : A × List Token → Type 0) → begins test ts ≡ true → OnGot (part a ts >>= λ x. repeated_at test part x.0 x.1) P → OnGot (repeated_at test part a ts) P
round test part shortens a ts P starts next =
    let goes : repeated_at test part a ts ≡ (part a ts >>= λ x. repeated_at test part x.0 x.1) = repeated_step test part shortens a ts ∙ rw starts refl in
    subst (λ (o : Outcome _). OnGot o P) (sym goes) next

pub no_round : {A : Type 0} (test : Token → Bool) (part : A → List Token → Outcome A) → Shortens part → (a : A) (ts : List Token) (P : A × List Token → Type 0) → begins test ts ≡ false → P (a, ts) → OnGot (repeated_at test part a ts) P
no_round test part shortens a ts P stops here =
    let done : repeated_at test part a ts ≡ got (a, ts) = repeated_step test part shortens a ts ∙ rw stops refl in
    subst (λ (o : Outcome _). OnGot o P) (sym done) here

-- a token that may stand there, where it fits and nothing behind it does
pub optional_gets : (r : Revision) (fits test : Token → Bool) (P : Token → Type 0) → ((t : Token) → P t → fits t ≡ true) → (o : Option Token) (rest : List Token) → IsOptional r P o → begins fits rest ≡ false → Gets (optional_at r fits test (optional_tokens o ++ rest)) o rest
unfolding optional_at
optional_gets V2019 fits test P so None rest h stops = (refl, refl)
optional_gets V2019 fits test P so (Some t) rest h stops = absurd h
optional_gets V1993 fits test P so None rest h stops = rw stops (refl, refl)
optional_gets V1993 fits test P so (Some t) rest h stops = rw (so t h) (gets_bind (token_at test (t ∷ rest)) _ t rest _ (token_gets test t rest) (refl, refl))

-- ---- sensitivities

further_listed_back : (fs : List (Further Token)) (outs : List (List ℕ)) (made : Forest Form) (rest : List Token) → AllByRecursion IsFurtherName fs → begins (is (mark COMMA)) rest ≡ false
    → Gets (repeated_at (is (mark COMMA)) (further_listed_at outs) made (flat_map further_name_tokens fs ++ rest)) (turned (name_nodes (map (λ f. f.item) fs)) made) rest
unfolding further_listed_at
further_listed_back [] outs made rest h stops = no_round (is (mark COMMA)) (further_listed_at outs) (further_listed_shorter outs) made rest _ stops (refl, refl)
further_listed_back (f ∷ fs) outs made rest h stops =
    let behind = flat_map further_name_tokens fs ++ rest in
    let ts = f.sign ∷ f.item ∷ behind in
    let one : Gets (further_listed_at outs made ts) (name_before f.item made) behind =
    gets_bind (token_at (is (mark COMMA)) ts) _ f.sign (f.item ∷ behind) _ (token_gets (is (mark COMMA)) f.sign (f.item ∷ behind))
    (gets_bind (token_at (is_name_outside outs) (f.item ∷ behind)) _ f.item behind _ (token_gets (is_name_outside outs) f.item behind) (refl, refl)) in
    round (is (mark COMMA)) (further_listed_at outs) (further_listed_shorter outs) made ts _ (rw h.0.0 refl)
    (gets_bind (further_listed_at outs made ts) (λ x. repeated_at (is (mark COMMA)) (further_listed_at outs) x.0 x.1) (name_before f.item made) behind _ one (further_listed_back fs outs (name_before f.item made) rest h.1 stops))

listed_back : (ns : Names) (outs : List (List ℕ)) (rest : List Token) → AreNames ns → begins (is (mark COMMA)) rest ≡ false → Gets (listed_at outs (names_tokens ns ++ rest)) (turned (name_nodes (names_of ns)) nothing) rest
unfolding listed_at
listed_back ns outs rest h stops =
    let behind = flat_map further_name_tokens ns.others ++ rest in
    gets_bind (token_at (is_name_outside outs) (ns.first ∷ behind)) _ ns.first behind _ (token_gets (is_name_outside outs) ns.first behind)
    (further_listed_back ns.others outs (name_tree ns.first) rest h.1 stops)

-- what is read of a sensitivity
abbrev sensitivity_made : Sensitivity → Forest Form
sensitivity_made (every t) = nothing
sensitivity_made (listed ns) = turned (name_nodes (names_of ns)) nothing

sensitivity_back : (r : Revision) (s : Sensitivity) (outs : List (List ℕ)) (rest : List Token) → IsSensitivity r s → begins (is (mark COMMA)) rest ≡ false → Gets (sensitivity_at r outs (sensitivity_tokens s ++ rest)) (sensitivity_made s) rest
unfolding sensitivity_at every_at
sensitivity_back V2019 (every t) outs rest h stops = gets_bind (token_at (is (word ALL)) (t ∷ rest)) _ t rest _ (token_gets (is (word ALL)) t rest) (refl, refl)
sensitivity_back V2019 (listed ns) outs rest h stops = absurd h
sensitivity_back V1993 (every t) outs rest h stops = absurd h
sensitivity_back V1993 (listed ns) outs rest h stops = listed_back ns outs rest h stops

sensitivity_made_shape : (r : Revision) (s : Sensitivity) (rest : List Token) (next : Forest Form) → IsSensitivity r s → node (sensitivity_form r) (place_of_token (sensitivity_tokens s ++ rest) 0) (turned (sensitivity_made s) nothing) next ≡ sensitivity_shape s next
sensitivity_made_shape V2019 (every t) rest next h = refl
sensitivity_made_shape V2019 (listed ns) rest next h = absurd h
sensitivity_made_shape V1993 (every t) rest next h = absurd h
sensitivity_made_shape V1993 (listed ns) rest next h = ap (λ (f : Forest Form). node form.SensitivityList ns.first.place f next) (reversed_reversed (name_nodes (names_of ns)))

-- ---- processes

record FrontGot (r : Revision) (p : Process) (rest : List Token) (x : FrontRead × List Token) : Type 0 where
  behind : x.1 ≡ rest
  place : x.0.place ≡ place_of_token p.head 0
  shape : (next : Forest Form) → node (sensitivity_form r) x.0.sensitivity (turned x.0.names nothing) (node x.0.word x.0.word_place nothing next) ≡ sensitivity_shape p.sensitivity (is_shape p.is_word p.begin_word.place next)

front_back : (r : Revision) (p : Process) (outs : List (List ℕ)) (rest : List Token) → IsProcess r p
    → OnGot (front_at r outs (p.head ++ (sensitivity_tokens p.sensitivity ++ (p.closing ∷ (optional_tokens p.is_word ++ (p.begin_word ∷ rest)))))) (FrontGot r p rest)
unfolding front_at
front_back r p outs rest h =
    let r3 = optional_tokens p.is_word ++ (p.begin_word ∷ rest) in
    let r2 = p.closing ∷ r3 in
    let r1 = sensitivity_tokens p.sensitivity ++ r2 in
    let comma_stops : begins (is (mark COMMA)) r2 ≡ false = rw h.2 refl in
    let is_stops : begins (is (word IS)) (p.begin_word ∷ rest) ≡ false = rw h.4 refl in
    let is_fits : (t : Token) → Is (word IS) t → is (word IS) t ≡ true = λ t k. rw k refl in
    gets_bind (spelled_at process_head (p.head ++ r1)) _ p.head r1 _ (spelled_gets process_head p.head r1 h.0)
    (gets_bind (sensitivity_at r outs r1) _ (sensitivity_made p.sensitivity) r2 _ (sensitivity_back r p.sensitivity outs r2 h.1 comma_stops)
    (gets_bind (token_at (is (mark CLOSING)) r2) _ p.closing r3 _ (token_gets (is (mark CLOSING)) p.closing r3)
    (gets_bind (optional_at r (is (word IS)) (is (word IS)) r3) _ p.is_word (p.begin_word ∷ rest) _ (optional_gets r (is (word IS)) (is (word IS)) (Is (word IS)) is_fits p.is_word (p.begin_word ∷ rest) h.3 is_stops)
    (gets_bind (token_at (is (word BEGIN)) (p.begin_word ∷ rest)) _ p.begin_word rest _ (token_gets (is (word BEGIN)) p.begin_word rest)
    (record {
      behind = refl;
      place = head_place p.head r1 h.0;
      shape = λ next. sensitivity_made_shape r p.sensitivity r2 (node (is_form p.is_word) (place_of_token r3 0) nothing next) h.1 ∙ ap (sensitivity_shape p.sensitivity) (is_place_at p.is_word p.begin_word rest next);
    })))))

foot_stops : (foot rest : List Token) → Spell process_foot foot → begins (is (word AND)) (foot ++ rest) ≡ false
foot_stops [] rest h = absurd h
foot_stops (t ∷ ts) rest h = rw h.0 refl

process_back : (r : Revision) (p : Process) (known : Known) (limit : ℕ) (made : Forest Form) (rest : List Token) → IsProcess r p → Gets (process_at r known limit made (process_tokens p ++ rest)) (process_shape p made) rest
unfolding process_at
process_back r p known limit made rest h =
    let e = p.value in
    let value = expression_shape e nothing in
    let r4 = p.foot ++ rest in
    let r3 = expression_tokens e ++ r4 in
    let r2 = p.arrow ∷ r3 in
    let r1 = p.target ∷ r2 in
    let ts = p.head ++ (sensitivity_tokens p.sensitivity ++ (p.closing ∷ (optional_tokens p.is_word ++ (p.begin_word ∷ r1)))) in
    subst (λ (us : List Token). Gets (process_at r known limit made us) (process_shape p made) rest) (sym (process_parts p rest))
    (got_bind (front_at r known.outs ts) _ (FrontGot r p r1) _ (front_back r p known.outs r1 h) (λ x front.
    let tree : process_tree r x.0 p.target value made ≡ process_shape p made =
    ap (λ (g : Forest Form). node form.ProcessStatement x.0.place g made) (front.shape (assignment_shape p.target e nothing))
    ∙ ap (λ q. node form.ProcessStatement q (sensitivity_shape p.sensitivity (is_shape p.is_word p.begin_word.place (assignment_shape p.target e nothing))) made) front.place in
    subst (λ (us : List Token). Gets (token_at (is_name_outside known.ins) us >>= λ target. token_at (is (mark ARROW)) target.1 >>= λ arrow. expression_at known.outs limit arrow.1 >>= λ value. spelled_at process_foot value.1 >>= λ foot. got (process_tree r x.0 target.0 value.0 made, foot.1)) (process_shape p made) rest) (sym front.behind)
    (gets_bind (token_at (is_name_outside known.ins) r1) _ p.target r2 _ (token_gets (is_name_outside known.ins) p.target r2)
    (gets_bind (token_at (is (mark ARROW)) r2) _ p.arrow r3 _ (token_gets (is (mark ARROW)) p.arrow r3)
    (gets_bind (expression_at known.outs limit r3) _ value r4 _ (expression_back known.outs limit e r4 h.7 (foot_stops p.foot rest h.8))
    (gets_bind (spelled_at process_foot r4) _ p.foot rest _ (spelled_gets process_foot p.foot rest h.8) (tree, refl)))))))

process_starts : (head behind : List Token) → Spell process_head head → begins (is (word PROCESS)) (head ++ behind) ≡ true
process_starts [] behind h = absurd h
process_starts (t ∷ ts) behind h = rw h.0 refl

pub processes_back : (r : Revision) (ps : List Process) (known : Known) (limit : ℕ) (made : Forest Form) (rest : List Token) → AllByRecursion (IsProcess r) ps → begins (is (word PROCESS)) rest ≡ false
    → Gets (repeated_at (is (word PROCESS)) (process_at r known limit) made (flat_map process_tokens ps ++ rest)) (turned (processes_shape ps) made) rest
processes_back r [] known limit made rest h stops = no_round (is (word PROCESS)) (process_at r known limit) (process_shorter r known limit) made rest _ stops (refl, refl)
processes_back r (p ∷ ps) known limit made rest h stops =
    let behind = flat_map process_tokens ps ++ rest in
    let ts = process_tokens p ++ behind in
    let inner = sensitivity_tokens p.sensitivity ++ (p.closing ∷ (optional_tokens p.is_word ++ (p.begin_word ∷ p.target ∷ p.arrow ∷ (expression_tokens p.value ++ p.foot)))) in
    let starts : begins (is (word PROCESS)) ts ≡ true = ap (begins (is (word PROCESS))) (append_assoc p.head inner behind) ∙ process_starts p.head (inner ++ behind) h.0.0 in
    let rounds : Gets (repeated_at (is (word PROCESS)) (process_at r known limit) made ts) (turned (processes_shape (p ∷ ps)) made) rest =
    round (is (word PROCESS)) (process_at r known limit) (process_shorter r known limit) made ts _ starts
    (gets_bind (process_at r known limit made ts) (λ x. repeated_at (is (word PROCESS)) (process_at r known limit) x.0 x.1) (process_shape p made) behind _ (process_back r p known limit made behind h.0) (processes_back r ps known limit (process_shape p made) rest h.1 stops)) in
    subst (λ (us : List Token). Gets (repeated_at (is (word PROCESS)) (process_at r known limit) made us) (turned (processes_shape (p ∷ ps)) made) rest) (sym (append_assoc (process_tokens p) (flat_map process_tokens ps) rest)) rounds
