-- Events one by one, and the tables of a text. No name has a dash, so that a caller can name each in `#[tactic(auto, using(..))]`.
use mathlib.Core.Path.{fun_ext}
use Rattle.std.proofs.Common.{◌≡◌, ℕ, ◌+◌, ◌<◌, ◌==◌, Bool, true, false, cond, ◌||◌, List, [], ◌∷◌, length, get_or, drop, Option, Some, None, is_some, refl, sym, ap, ◌∙◌, arith, add-one, drop-cons}
use Rattle.vd_bytes.specs.declared.places.Place.{Place}
use Rattle.vd_bytes.specs.declared.answers.Refused.{Refused}
use Rattle.vd_forest.specs.Forest.{Forest}
use Rattle.vd_walks.specs.Least.{lesser, least_of, refusals}
use Rattle.vd_resolved.specs.declared.node.Resolved.{Resolved}
use Rattle.vd_structure_rules.specs.Functions.{is_among}
use Rattle.vd_structure_rules.proofs.RuleLemmas.{one_more}
use Rattle.vd_call_rules.specs.declared.events.Event.{Event}
use Rattle.vd_call_rules.specs.declared.events.Event.TheVariants.{Called, Ended}
use Rattle.vd_call_rules.specs.declared.functions.Written.{Written}
use Rattle.vd_call_rules.specs.Calls.{and_end, refused_until, early_calls, nothing_ended, end_of, written, package_bodies, events, first_refused}

-- ---- functions by their numbers

pub end_put : (functions : List Written) (left k : ℕ) (w : Written) (found old : Option ℕ) → left < length functions
    → w ≡ get_or functions left w
    → found ≡ cond (k == w.function) (Some w.until) old → old ≡ end_of (drop (left + 1) functions) k
    → found ≡ end_of (drop left functions) k
end_put functions left k w found old inside is put before =
    put ∙ ap (λ o. cond (k == w.function) (Some w.until) o) before ∙ sym (ap (λ ws. end_of ws k) (one_more_function functions left inside ∙ ap (λ x. x ∷ drop (left + 1) functions) (sym is)))
  where
    one_more_function : (ws : List Written) (n : ℕ) → n < length ws → drop n ws ≡ get_or ws n w ∷ drop (n + 1) ws
    one_more_function ws n within = rw (add-one, drop-cons ws n w)

-- ---- events

pub call_step : (ends old slice : List (Option ℕ)) (found refused now : Option Refused) (end : Option ℕ) (function number : ℕ) (place : Place) (event : Event) (es : List Event)
    → number ≡ function → end ≡ get_or ends number None → slice ≡ old → refused ≡ refused_until end (λ k. is_some (get_or slice k None)) place
    → now ≡ lesser found refused → event ≡ Called function place
    → lesser now (least_of (refusals (early_calls (λ k. get_or ends k None) (λ k. is_some (get_or old k None)) es)))
    ≡ lesser found (least_of (refusals (early_calls (λ k. get_or ends k None) (λ k. is_some (get_or old k None)) (event ∷ es))))
call_step ends old slice found refused now end function number place event es is_number is_end is_slice is_refused is_now is_event =
    let ends_of : ℕ → Option ℕ = λ k. get_or ends k None in
    let so_far : ℕ → Bool = λ k. is_some (get_or old k None) in
    let same : refused ≡ refused_until (ends_of function) so_far place =
    is_refused ∙ ap (λ e. refused_until e (λ k. is_some (get_or slice k None)) place) (is_end ∙ ap ends_of is_number)
    ∙ ap (λ t. refused_until (ends_of function) (λ k. is_some (get_or t k None)) place) is_slice in
    ap (λ o. lesser o (least_of (refusals (early_calls ends_of so_far es)))) (is_now ∙ ap (lesser found) same)
    ∙ one_more found (refused_until (ends_of function) so_far place) (early_calls ends_of so_far es)
    ∙ ap (λ e. lesser found (least_of (refusals (early_calls ends_of so_far (e ∷ es))))) (sym is_event)

-- a table after an end
table_after : (old new : List (Option ℕ)) (number : ℕ)
    → ((k : ℕ) → get_or new k None ≡ cond (k == number) (Some number) (get_or old k None))
    → (λ (k : ℕ). is_some (get_or new k None)) ≡ and_end number (λ k. is_some (get_or old k None))
table_after old new number put = fun_ext (λ k. ap is_some (put k) ∙ by_which (k == number) (get_or old k None))
  where
    by_which : (b : Bool) (o : Option ℕ) → is_some (cond b (Some number) o) ≡ (b || is_some o)
    by_which true o = refl
    by_which false o = refl

pub end_step : (ends old new : List (Option ℕ)) (found : Option Refused) (number place : ℕ) (event : Event) (es : List Event)
    → place ≡ number → ((k : ℕ) → get_or new k None ≡ cond (k == place) (Some number) (get_or old k None)) → event ≡ Ended number
    → lesser found (least_of (refusals (early_calls (λ k. get_or ends k None) (λ k. is_some (get_or new k None)) es)))
    ≡ lesser found (least_of (refusals (early_calls (λ k. get_or ends k None) (λ k. is_some (get_or old k None)) (event ∷ es))))
end_step ends old new found number place event es is_place put is_event =
    let ends_of : ℕ → Option ℕ = λ k. get_or ends k None in
    ap (λ t. lesser found (least_of (refusals (early_calls ends_of t es))))
    (table_after old new number (λ k. put k ∙ ap (λ n. cond (k == n) (Some number) (get_or old k None)) is_place))
    ∙ ap (λ e. lesser found (least_of (refusals (early_calls ends_of (λ k. is_some (get_or old k None)) (e ∷ es))))) (sym is_event)

-- ---- tables that agree with the lists of a text

pub same_text : (units : Forest Resolved) (ends : ℕ → Option ℕ) (with_body : ℕ → Bool)
    → ((k : ℕ) → ends k ≡ end_of (written units) k) → ((k : ℕ) → with_body k ≡ is_among (package_bodies units) k)
    → least_of (refusals (early_calls ends nothing_ended (events with_body units))) ≡ first_refused units
same_text units ends with_body ends_are bodies_are =
    ap (λ e. least_of (refusals (early_calls e nothing_ended (events with_body units)))) (fun_ext ends_are)
    ∙ ap (λ b. least_of (refusals (early_calls (end_of (written units)) nothing_ended (events b units)))) (fun_ext bodies_are)

-- an event, and those behind it
pub one_event : (es : List Event) (n : ℕ) (e : Event) → n < length es → e ≡ get_or es n e → e ∷ drop (n + 1) es ≡ drop n es
one_event es n e within is = ap (λ x. x ∷ drop (n + 1) es) is ∙ sym (next es n within)
  where
    next : (ds : List Event) (m : ℕ) → m < length ds → drop m ds ≡ get_or ds m e ∷ drop (m + 1) ds
    next ds m inside = rw (add-one, drop-cons ds m e)
