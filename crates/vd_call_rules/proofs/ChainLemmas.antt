-- Events one by one. No name has a dash, so that a caller can name each in `#[tactic(auto, using(..))]`.
use Rattle.std.proofs.Common.{◌≡◌, ℕ, ◌+◌, ◌<◌, List, ◌∷◌, length, get_or, drop, Option, sym, ap, ◌∙◌, add-one, drop-cons}
use Rattle.vd_bytes.specs.declared.answers.Refused.{Refused}
use Rattle.vd_declarations.specs.declared.declarations.Declaration.{Declaration}
use Rattle.vd_walks.specs.Least.{lesser, least_of, refusals}
use Rattle.vd_structure_rules.proofs.RuleLemmas.{one_more}
use Rattle.vd_call_rules.specs.declared.chain_events.Event.{Event}
use Rattle.vd_call_rules.specs.declared.reaches.Reach.{Reach}
use Rattle.vd_call_rules.specs.Chains.{after, refused_at, long_calls}

pub event_step : (ds : List Declaration) (old new : ℕ → Reach) (found refused now : Option Refused) (e : Event) (es : List Event)
    → refused ≡ refused_at e old → new ≡ after ds e old → now ≡ lesser found refused
    → lesser now (least_of (refusals (long_calls ds new es))) ≡ lesser found (least_of (refusals (long_calls ds old (e ∷ es))))
event_step ds old new found refused now e es is_refused is_new is_now =
    ap (λ o. lesser o (least_of (refusals (long_calls ds new es)))) (is_now ∙ ap (lesser found) is_refused)
    ∙ ap (λ r. lesser (lesser found (refused_at e old)) (least_of (refusals (long_calls ds r es)))) is_new
    ∙ one_more found (refused_at e old) (long_calls ds (after ds e old) es)

-- an event, and those behind it
pub one_event : (es : List Event) (n : ℕ) (e : Event) → n < length es → e ≡ get_or es n e → e ∷ drop (n + 1) es ≡ drop n es
one_event es n e within is = ap (λ x. x ∷ drop (n + 1) es) is ∙ sym (next es n within)
  where
    next : (ds : List Event) (m : ℕ) → m < length ds → drop m ds ≡ get_or ds m e ∷ drop (m + 1) ds
    next ds m inside = rw (add-one, drop-cons ds m e)
