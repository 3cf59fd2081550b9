-- What is counted stays so when more is entered.
use Rattle.std.proofs.Common.{◌≡◌, ◌++◌, ℕ, List, [], ◌∷◌, length, take, Option, Some, None, refl, sym, ap, ◌∙◌, arith, append_assoc, append-nil}
use Rattle.std.proofs.lemmas.List.{length-append, take-append-le}
use Rattle.vd_declarations.specs.declared.classes.Class.{Class}
use Rattle.vd_declarations.specs.declared.classes.Class.TheVariants as class
use Rattle.vd_declarations.specs.declared.declarations.Declaration.{Declaration}
use Rattle.vd_predefined.specs.declared.numbers.TheConstants.{INTEGER}
use Rattle.vd_predefined.specs.declared.operators.Group.{Group}
use Rattle.vd_predefined.specs.declared.operands.Operands.{Operands}
use Rattle.vd_predefined.specs.Entries.{with_entry}
use Rattle.vd_predefined.specs.Lines.{OperatorLine}
use Rattle.vd_predefined.specs.Operators.{with_left, with_pair, with_pair_of, with_operands, operands_of, operator_of, with_group, with_groups, with_operators, with_operators_of, groups_of_arrays}
use Rattle.vd_predefined.specs.Table.{operators_in, groups_of_enumerations, groups_of_others}
use Rattle.vd_regions.specs.Scopes.{Scopes, Clause, with_clause, with_clauses}
use Rattle.vd_regions.specs.declared.entries.Entered.{Entered}
use Rattle.vd_visible.specs.TypeLists.{types_below}
use Rattle.vd_visible.proofs.TypeListLemmas.{types_stay_below}
use Rattle.vd_name_rows.specs.declared.counts.Counts.{Counts}
use Rattle.vd_name_rows.specs.Counts.{AreCounted}
use Rattle.vd_name_rows.specs.Members.{numbers_in}

-- more is entered, behind all others
pub record IsMore (s t : Scopes) : Type 0 where
  pub later : List Entered
  pub same : t.entered ≡ s.entered ++ later

pub counted_stays : (s t : Scopes) (c : Counts) → IsMore s t → AreCounted s c → AreCounted t c
counted_stays s t c more counted =
    let long = length-append s.entered more.later in
    let longer : length t.entered ≡ length (s.entered ++ more.later) = ap (λ es. length es) more.same in
    record {
      within = omega (arith, counted.within, long, longer);
      types_are = counted.types_are
          ∙ sym (types_stay_below s more.later c.counted counted.within)
          ∙ sym (ap (λ es. let u : Scopes = record { entered = es; regions = t.regions } in types_below u c.counted) more.same);
      members_are = λ region. counted.members_are region
          ∙ ap (numbers_in region 0) (sym (take-append-le c.counted s.entered more.later counted.within) ∙ sym (ap (take c.counted) more.same));
    }

nothing_more : (s t : Scopes) → t.entered ≡ s.entered → IsMore s t
nothing_more s t same = record { later = []; same = same ∙ sym (append-nil s.entered) }

one_more : (s : Scopes) (region : ℕ) (d : Declaration) → IsMore s (with_entry s region d)
one_more s region d = record { later = record { region = region; declaration = d } ∷ []; same = refl }

both : (s t u : Scopes) → IsMore s t → IsMore t u → IsMore s u
both s t u a b = record { later = a.later ++ b.later; same = b.same ∙ ap (λ es. es ++ b.later) a.same ∙ append_assoc s.entered a.later b.later }

left_more : (s : Scopes) (region t : ℕ) → IsMore s (with_left s region t)
left_more s region t = record { later = record { region = length s.regions; declaration = _ } ∷ []; same = refl }

pair_more : (s : Scopes) (region t : ℕ) → IsMore s (with_pair s region t)
pair_more s region t = both s (with_left s region t) (with_pair s region t) (left_more s region t) (one_more (with_left s region t) _ _)

pair_of_more : (s : Scopes) (region : ℕ) (t : Option ℕ) → IsMore s (with_pair_of s region t)
pair_of_more s region None = nothing_more s s refl
pair_of_more s region (Some t) = pair_more s region t

operands_more : (s : Scopes) (region own : ℕ) (element : Option ℕ) → IsMore s (with_operands s region own element)
operands_more s region own element =
    let t = with_pair s region own in
    let u = with_pair_of t region element in
    both s u (with_operands s region own element) (both s t u (pair_more s region own) (pair_of_more t region element)) (pair_more u region INTEGER)

group_more : (s : Scopes) (region : ℕ) (c : Class) (o : Operands) (os : List OperatorLine) → IsMore s (with_group s region c o os)
group_more s region c o [] = nothing_more s s refl
group_more s region c o (first ∷ os) =
    let t = with_entry s region (operator_of c o first) in
    both s t (with_group t region c o os) (one_more s region (operator_of c o first)) (group_more t region c o os)

groups_more : (s : Scopes) (region : ℕ) (c : Class) (o : Operands) (groups : List Group) → IsMore s (with_groups s region c o groups)
groups_more s region c o [] = nothing_more s s refl
groups_more s region c o (group ∷ groups) =
    let t = with_group s region c o (operators_in group) in
    both s t (with_groups t region c o groups) (group_more s region c o (operators_in group)) (groups_more t region c o groups)

operators_more : (s : Scopes) (region : ℕ) (c : Class) (own : ℕ) (element : Option ℕ) (groups : List Group)
    → IsMore s (with_operators s region c own element groups)
operators_more s region c own element groups =
    let t = with_operands s region own element in
    both s t (with_operators s region c own element groups) (operands_more s region own element)
    (groups_more t region c (operands_of s region own element) groups)

pub operators_of_more : (s : Scopes) (region own : ℕ) (c : Class) → IsMore s (with_operators_of s region own c)
operators_of_more s region own class.EnumerationType = operators_more s region class.PredefinedOperator own None groups_of_enumerations
operators_of_more s region own (class.ArrayType index element mark) =
    operators_more s region class.PredefinedOperator own (Some element) (groups_of_arrays s element)
operators_of_more s region own class.RecordType = operators_more s region class.PredefinedOperator own None groups_of_others
operators_of_more s region own class.GenericType = operators_more s region class.PredefinedOperator own None groups_of_others
operators_of_more s region own _ = nothing_more s s refl

clauses_same : (region : ℕ) (cs : List Clause) (s : Scopes) → (with_clauses region cs s).entered ≡ s.entered
clauses_same region [] s = refl
clauses_same region (c ∷ cs) s = clauses_same region cs (with_clause s region c)

pub clauses_more : (region : ℕ) (cs : List Clause) (s : Scopes) → IsMore s (with_clauses region cs s)
clauses_more region cs s = nothing_more s (with_clauses region cs s) (clauses_same region cs s)

-- ---- as code has them

pub entry_counted : (s : Scopes) (c : Counts) (region : ℕ) (d : Declaration) → AreCounted s c → AreCounted (with_entry s region d) c
entry_counted s c region d counted = counted_stays s (with_entry s region d) c (one_more s region d) counted

pub operators_counted : (s : Scopes) (c : Counts) (region own : ℕ) (k : Class) → AreCounted s c → AreCounted (with_operators_of s region own k) c
operators_counted s c region own k counted = counted_stays s (with_operators_of s region own k) c (operators_of_more s region own k) counted

pub clauses_counted : (s : Scopes) (c : Counts) (region : ℕ) (cs : List Clause) → AreCounted s c → AreCounted (with_clauses region cs s) c
clauses_counted s c region cs counted = counted_stays s (with_clauses region cs s) c (clauses_more region cs s) counted
