-- Nodes from what their parts are.
use Rattle.std.proofs.Common.{◌≡◌, ◌<◌, ◌≤◌, ℕ, zero, suc, ◌+◌, Bool, true, false, ◌&&◌, List, [], ◌∷◌, ◌++◌, length, drop, get_or, map, Option, None, Some, refl, sym, ap, subst, ◌∙◌, arith}
use Rattle.std.specs.Prelude.{Result, Ok, Err, IfOk, slice_get, if◌then◌else◌}
use Rattle.std.proofs.lemmas.List.{drop_more, append-nil, append_assoc}
use Rattle.std.proofs.lemmas.Option.{slice_get-map}
use Rattle.std.specs.Option.{option_map}
use Rattle.vd_values.specs.declared.scalar.Scalar.{Scalar}
use Rattle.vd_composites.specs.Stops.{OrStop}
use Rattle.vd_composites.specs.Composites.{Value}
use Rattle.vd_composites.specs.Subtypes.{Subtype}
use Rattle.vd_resolved.specs.declared.node.Resolved.{Resolved}
use Rattle.vd_environments.specs.Got.{Got, got}
use Rattle.vd_environments.specs.Environments.{Env, Argument, unknown}
use Rattle.vd_meaning.specs.Tables.{Table, followed, is_predefined}
use Rattle.vd_meaning.specs.Names.{number_or}
use Rattle.vd_meaning.specs.Kinds
use Rattle.vd_meaning.specs.Literals.{physical}
use Rattle.vd_meaning.specs.Brackets.{bracketed_value}
use Rattle.vd_meaning.specs.Facets.{Meaning, nth, arguments}
use Rattle.vd_meaning.specs.Operators.{operate, operation, function_of}
use Rattle.vd_meaning.specs.Meanings.{meaning_of}
use Rattle.vd_plain_values.specs.declared.environment.Entry.{Entry}
use Rattle.vd_evaluator.specs.declared.kinds.TakenKind.{TakenKind}
use Rattle.vd_evaluator.specs.declared.kinds.TakenKind.TheVariants as code
use Rattle.vd_evaluator.specs.declared.senses.What.{What}
use Rattle.vd_evaluator.specs.declared.senses.What.TheVariants as what
use Rattle.vd_evaluator.specs.declared.senses.Sense.{Sense}
use Rattle.vd_plain_values.specs.Plain.{Holds}
use Rattle.vd_evaluator.specs.Outlines.{Outline, NotTaken, Expression, are_expressions, is_expression, bracketed_outline, expression_where, operator_outline, has_text, has_text_at, found_text, outline_of}
use Rattle.vd_plain_values.specs.Operands.{AreArguments}
use Rattle.vd_evaluator.specs.Operands.{HaveValues, IsOnly}
use Rattle.vd_evaluator.specs.Senses.{IsWhat, IsExpression, AreSenses, IsNode, sense_outline, what_outline, text_at, text_found}
use Rattle.vd_plain_values.specs.Strings.{string_of}
use Rattle.vd_evaluator.specs.Taken.{taken, kind_behind}

-- ---- texts

pub text_there : (ss : List Sense) (n : ℕ) (s : Sense) → slice_get ss n ≡ Some s → has_text (sense_outline s) ≡ true
    → (has_text_at n (map sense_outline ss) ≡ true) × (s.text.now ≡ text_at n ss)
text_there ss n s here has = (ap found_text (slice_get-map sense_outline ss n ∙ ap (option_map sense_outline) here) ∙ has, ap text_found (sym here))

pub text_missing : (ss : List Sense) (n : ℕ) → slice_get ss n ≡ None → has_text_at n (map sense_outline ss) ≡ false
text_missing ss n here = ap found_text (slice_get-map sense_outline ss n ∙ ap (option_map sense_outline) here)

pub text_untaken : (ss : List Sense) (n : ℕ) (s : Sense) → slice_get ss n ≡ Some s → s.what ≡ what.NotTaken → has_text_at n (map sense_outline ss) ≡ false
text_untaken ss n s here is = ap found_text (slice_get-map sense_outline ss n ∙ ap (option_map sense_outline) here) ∙ ap (λ w. has_text (what_outline w)) is

pub texts_same : (e : Env) (ss : List Sense) (ms : List Meaning) (n : ℕ) → AreSenses e ss ms → has_text_at n (map sense_outline ss) ≡ true → (nth n ms).text ≡ text_at n ss
texts_same e [] [] n are has = refl
texts_same e [] (m ∷ ms) n are has = absurd are
texts_same e (s ∷ ss) [] n are has = absurd are
texts_same e (s ∷ ss) (m ∷ ms) zero are has = are.0.text has
texts_same e (s ∷ ss) (m ∷ ms) (suc n) are has = texts_same e ss ms n are.1 has

-- ---- nodes

module _ (t : Table) (entries : List Entry) (n : Resolved) (text : List ℕ) where
  pub expression_node : (k : Kinds.Kind) (parts : List Sense) (made : Sense) (r : OrStop (Value Scalar)) → made.what ≡ what.Expression r → made.text.now ≡ text
      → outline_of k t n text (map sense_outline parts) ≡ Expression → ((ms : List Meaning) → (meaning_of k t n text ms).text ≡ text)
      → ((e : Env) → Holds entries e → (ms : List Meaning) → AreSenses e parts ms → IsExpression e r (meaning_of k t n text ms))
      → IsNode t entries k n text parts made
  expression_node k parts made r is same taken_so texts values = record {
    outline = ap what_outline is ∙ sym taken_so;
    sense = λ e holds ms are. record {
      text = λ has. texts ms ∙ sym same;
      what = subst (λ w. IsWhat e w (meaning_of k t n text ms)) (sym is) (values e holds ms are);
    };
  }

  pub untaken_node : (k : Kinds.Kind) (parts : List Sense) (made : Sense) → made.what ≡ what.NotTaken
      → outline_of k t n text (map sense_outline parts) ≡ NotTaken → IsNode t entries k n text parts made
  untaken_node k parts made is untaken = record {
    outline = ap what_outline is ∙ sym untaken;
    sense = λ e holds ms are. record {
      text = λ has. let no : false ≡ true = sym (ap (λ w. has_text (what_outline w)) is) ∙ has in cc;
      what = subst (λ w. IsWhat e w (meaning_of k t n text ms)) (sym is) tt;
    };
  }

-- ---- brackets

pub what_is : (e : Env) (w : What) (r : OrStop (Value Scalar)) (m : Meaning) → w ≡ what.Expression r → IsWhat e w m → IsExpression e r m
what_is e w r m is h = subst (λ x. IsWhat e x m) is h

only_value : (e : Env) (r : OrStop (Value Scalar)) (mark : Option ℕ) (m : Meaning) → IsExpression e r m → (known : Got Subtype) → bracketed_value mark (m ∷ []) known e ≡ got r
only_value e r mark m is known = rw is.association (is.value known)

only_values : (t : Table) (e : Env) (s : Sense) (r : OrStop (Value Scalar)) (n : Resolved) (text : List ℕ) (ms : List Meaning) → s.what ≡ what.Expression r → AreSenses e (s ∷ []) ms
    → IsExpression e r (meaning_of Kinds.Brackets t n text ms)
only_values t e s r n text [] is are = absurd are
only_values t e s r n text (m ∷ []) is are = record { value = only_value e r n.mark m (what_is e s.what r m is are.0.what); association = refl; range = refl; choices = refl }
only_values t e s r n text (m ∷ m' ∷ ms) is are = absurd are.1

pub only_node : (t : Table) (entries : List Entry) (n : Resolved) (text : List ℕ) (parts : List Sense) (made : Sense) (r : OrStop (Value Scalar))
    → IsOnly (Some r) parts → made.what ≡ what.Expression r → made.text.now ≡ text → IsNode t entries Kinds.Brackets n text parts made
only_node t entries n text parts made r only is same =
    let s = only.0 in
    expression_node t entries n text Kinds.Brackets parts made r is same
    (ap (λ ss. bracketed_outline (map sense_outline ss)) only.1 ∙ ap (λ w. expression_where (is_expression (what_outline w))) only.2)
    (λ ms. refl)
    (λ e holds ms are. only_values t e s r n text ms only.2 (subst (λ ss. AreSenses e ss ms) only.1 are))

-- ---- physical literals

both_true : (a b : Bool) → a ≡ true → b ≡ true → expression_where (a && b) ≡ Expression
both_true a b x y = ap (λ c. expression_where (c && b)) x ∙ ap expression_where y

pub time_node : (t : Table) (entries : List Entry) (n : Resolved) (text : List ℕ) (parts : List Sense) (made : Sense) (r : OrStop (Value Scalar)) (digits name : List ℕ)
    → (has_text_at 0 (map sense_outline parts) ≡ true) × (digits ≡ text_at 0 parts) → (has_text_at 1 (map sense_outline parts) ≡ true) × (name ≡ text_at 1 parts)
    → got r ≡ physical digits name → made.what ≡ what.Expression r → made.text.now ≡ text → IsNode t entries Kinds.TimeLiteral n text parts made
time_node t entries n text parts made r digits name first second found is same =
    expression_node t entries n text Kinds.TimeLiteral parts made r is same (both_true _ _ first.0 second.0) (λ ms. refl)
    (λ e holds ms are. record {
      value = λ known. ap (λ d. physical d (nth 1 ms).text) (texts_same e parts ms 0 are first.0 ∙ sym first.1)
          ∙ ap (physical digits) (texts_same e parts ms 1 are second.0 ∙ sym second.1) ∙ sym found;
      association = refl;
      range = refl;
      choices = refl;
    })

pub time_untaken : (a b : Bool) → a ≡ false → expression_where (a && b) ≡ NotTaken
time_untaken a b x = ap (λ c. expression_where (c && b)) x

pub time_untaken_behind : (a b : Bool) → b ≡ false → expression_where (a && b) ≡ NotTaken
time_untaken_behind true b x = ap expression_where x
time_untaken_behind false b x = refl

-- ---- operators

arguments_are : (e : Env) (ss : List Sense) (ms : List Meaning) (rs : List (OrStop (Value Scalar))) → AreSenses e ss ms → HaveValues ss rs → AreArguments (arguments ms e) rs
arguments_are e [] [] [] are have = tt
arguments_are e [] [] (r ∷ rs) are have = absurd have
arguments_are e [] (m ∷ ms) rs are have = absurd are
arguments_are e (s ∷ ss) [] rs are have = absurd are
arguments_are e (s ∷ ss) (m ∷ ms) [] are have = absurd have
arguments_are e (s ∷ ss) (m ∷ ms) (r ∷ rs) are have = ((what_is e s.what r m have.0 are.0.what).value unknown, arguments_are e ss ms rs are.1 have.1)

values_are : (ss : List Sense) (rs : List (OrStop (Value Scalar))) → HaveValues ss rs → are_expressions (map sense_outline ss) ≡ true
values_are [] [] have = refl
values_are [] (r ∷ rs) have = absurd have
values_are (s ∷ ss) [] have = absurd have
values_are (s ∷ ss) (r ∷ rs) have = ap (λ w. is_expression (what_outline w) && are_expressions (map sense_outline ss)) have.0 ∙ values_are ss rs have.1

pub operator_node : (t : Table) (entries : List Entry) (n : Resolved) (text : List ℕ) (parts : List Sense) (made : Sense) (rs : List (OrStop (Value Scalar))) (r : OrStop (Value Scalar)) (d : ℕ)
    → d ≡ followed t (number_or n.declaration) → HaveValues parts rs → is_predefined t d ≡ true
    → ((e : Env) → Holds entries e → (as' : List Argument) → AreArguments as' rs → operate (operation t d) (t.declared d).mark e as' ≡ got r)
    → made.what ≡ what.Expression r → made.text.now ≡ text → IsNode t entries Kinds.Operator n text parts made
operator_node t entries n text parts made rs r d named have given found is same =
    expression_node t entries n text Kinds.Operator parts made r is same
    (ap (λ k. operator_outline t k (map sense_outline parts)) (sym named) ∙ both_true _ _ given (values_are parts rs have)) (λ ms. refl)
    (λ e holds ms are. record {
      value = λ known. ap (λ k. function_of t k e (arguments ms e)) (sym named)
          ∙ ap (λ b. (if b then operate (operation t d) (t.declared d).mark e else (e.denotes d).function) (arguments ms e)) given
          ∙ found e holds (arguments ms e) (arguments_are e parts ms rs are have);
      association = refl;
      range = refl;
      choices = refl;
    })

pub operator_written : (t : Table) (n : Resolved) (d : ℕ) (os : List Outline) → d ≡ followed t (number_or n.declaration) → is_predefined t d ≡ false
    → operator_outline t (followed t (number_or n.declaration)) os ≡ NotTaken
operator_written t n d os named written = ap (λ k. operator_outline t k os) (sym named) ∙ ap (λ b. expression_where (b && are_expressions os)) written

pub operator_untaken : (t : Table) (d : ℕ) (os : List Outline) → are_expressions os ≡ false → operator_outline t d os ≡ NotTaken
operator_untaken t d os untaken = time_untaken_behind (is_predefined t d) (are_expressions os) untaken

-- ---- kinds

abbrev pub is_other : TakenKind → Bool
is_other code.Other = true
is_other _ = false

behind : (k : Kinds.Kind) → is_other (taken k) ≡ false → kind_behind (taken k) ≡ k
behind Kinds.Word h = refl
behind Kinds.CharacterLiteral h = refl
behind Kinds.StringLiteral h = refl
behind Kinds.NumberLiteral h = refl
behind Kinds.TimeLiteral h = refl
behind Kinds.WholeName h = refl
behind Kinds.SelectionPiece h = refl
behind Kinds.ArgumentsPiece h = refl
behind Kinds.QualificationPiece h = refl
behind (Kinds.Limits false) h = refl
behind (Kinds.Limits true) h = refl
behind Kinds.Operator h = refl
behind Kinds.Brackets h = refl
behind _ h = cc

other_untaken : (k : Kinds.Kind) (t : Table) (n : Resolved) (text : List ℕ) (os : List Outline) → code.Other ≡ taken k → outline_of k t n text os ≡ NotTaken
other_untaken Kinds.Word t n text os h = cc
other_untaken Kinds.CharacterLiteral t n text os h = cc
other_untaken Kinds.StringLiteral t n text os h = cc
other_untaken Kinds.NumberLiteral t n text os h = cc
other_untaken Kinds.TimeLiteral t n text os h = cc
other_untaken Kinds.WholeName t n text os h = cc
other_untaken Kinds.SelectionPiece t n text os h = cc
other_untaken Kinds.ArgumentsPiece t n text os h = cc
other_untaken Kinds.QualificationPiece t n text os h = cc
other_untaken (Kinds.Limits false) t n text os h = cc
other_untaken (Kinds.Limits true) t n text os h = cc
other_untaken Kinds.Operator t n text os h = cc
other_untaken Kinds.Brackets t n text os h = cc
other_untaken _ t n text os h = refl

module _ (t : Table) (entries : List Entry) (n : Resolved) (text : List ℕ) (parts : List Sense) where
  pub of_kind : {E : Type 0} (k : Kinds.Kind) (c : TakenKind) (answer : Result Sense E) → is_other c ≡ false → c ≡ taken k
      → IfOk answer (λ s. IsNode t entries (kind_behind c) n text parts s) → IfOk answer (λ s. IsNode t entries k n text parts s)
  of_kind k c answer known is made =
      let same : kind_behind c ≡ k = ap kind_behind is ∙ behind k (ap is_other (sym is) ∙ known) in
      subst (λ kind. IfOk answer (λ s. IsNode t entries kind n text parts s)) same made

  pub of_any : {E : Type 0} (k : Kinds.Kind) (c : TakenKind) (answer : Result Sense E) → is_other c ≡ false → c ≡ taken k
      → IfOk answer (λ s. (ps : List Sense) → IsNode t entries (kind_behind c) n text ps s) → IfOk answer (λ s. IsNode t entries k n text parts s)
  of_any {E} k c (Ok s) known is made = of_kind {E = E} k c (Ok s) known is (made parts)
  of_any k c (Err e) known is made = tt

  pub of_other : (k : Kinds.Kind) (made : Sense) → code.Other ≡ taken k → made.what ≡ what.NotTaken → IsNode t entries k n text parts made
  of_other k made is untaken = untaken_node t entries n text k parts made untaken (other_untaken k t n text (map sense_outline parts) is)

-- ---- the values of parts

module _ (parts : List Sense) where
  pub HaveSoFar : ℕ → List (OrStop (Value Scalar)) → Type 0
  HaveSoFar i values = (rest : List (OrStop (Value Scalar))) → HaveValues (drop i parts) rest → HaveValues parts (values ++ rest)

pub one_value : (parts : List Sense) (i : ℕ) (values more : List (OrStop (Value Scalar))) (s : Sense) (r : OrStop (Value Scalar)) → i < length parts → s ≡ get_or parts i s → s.what ≡ what.Expression r
    → more ≡ values ++ r ∷ [] → HaveSoFar parts i values → HaveSoFar parts (i + 1) more
unfolding HaveSoFar
one_value parts i values more s r below here is pushed so_far = λ rest have.
    subst (λ xs. HaveValues parts xs) (sym (append_assoc values (r ∷ []) rest) ∙ ap (λ xs. xs ++ rest) (sym pushed))
    (so_far (r ∷ rest) (subst (λ ss. HaveValues ss (r ∷ rest)) (sym (drop_more parts i s below ∙ ap (λ x. x ∷ drop (i + 1) parts) (sym here))) (is, have)))

pub all_values : (parts : List Sense) (i : ℕ) (values : List (OrStop (Value Scalar))) → length parts ≤ i → HaveSoFar parts i values → HaveValues parts values
unfolding HaveSoFar
all_values parts i values end so_far = subst (λ xs. HaveValues parts xs) (append-nil values) (so_far [] (subst (λ ss. HaveValues ss []) (sym (Rattle.std.proofs.Common.drop_of_length-le parts end)) tt))

pub no_values : (parts : List Sense) (values : List (OrStop (Value Scalar))) → values ≡ [] → HaveSoFar parts 0 values
unfolding HaveSoFar
no_values parts values none = λ rest have. subst (λ xs. HaveValues parts (xs ++ rest)) (sym none) have

expressions_from : (ss : List Sense) (i : ℕ) (s : Sense) → i < length ss → s ≡ get_or ss i s → is_expression (sense_outline s) ≡ false → are_expressions (map sense_outline ss) ≡ false
expressions_from [] i s below here untaken = absurd (omega arith)
expressions_from (x ∷ ss) zero s below here untaken = ap (λ y. is_expression (sense_outline y) && are_expressions (map sense_outline ss)) (sym here) ∙ ap (λ b. b && are_expressions (map sense_outline ss)) untaken
expressions_from (x ∷ ss) (suc i) s below here untaken = time_false (is_expression (sense_outline x)) (are_expressions (map sense_outline ss)) (expressions_from ss i s (omega arith) here untaken)
  where
    time_false : (a b : Bool) → b ≡ false → (a && b) ≡ false
    time_false true b x = x
    time_false false b x = refl

pub not_all_values : (parts : List Sense) (i : ℕ) (s : Sense) → i < length parts → s ≡ get_or parts i s → is_expression (sense_outline s) ≡ false → are_expressions (map sense_outline parts) ≡ false
not_all_values = expressions_from

-- ---- literals in quotation marks

pub quoted_node : (t : Table) (entries : List Entry) (n : Resolved) (text : List ℕ) (parts : List Sense) (made : Sense) (r : OrStop (Value Scalar))
    → ((e : Env) → Holds entries e → string_of n.mark e text ≡ got r) → made.what ≡ what.Expression r → made.text.now ≡ text → IsNode t entries Kinds.StringLiteral n text parts made
quoted_node t entries n text parts made r found is same =
    expression_node t entries n text Kinds.StringLiteral parts made r is same refl (λ ms. refl)
    (λ e holds ms are. record { value = λ known. found e holds; association = refl; range = refl; choices = refl })
