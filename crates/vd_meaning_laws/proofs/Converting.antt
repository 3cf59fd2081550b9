-- A conversion round an expression, where only its value counts.
use Rattle.std.proofs.Common.{◌≡◌, ℕ, Bool, true, false, ◌&&◌, List, [], ◌∷◌, Some, refl, sym, ◌∙◌, subst}
use Rattle.std.specs.Prelude.{Ok, Err, is_some}
use Rattle.std.specs.List.{AllZip}
use Rattle.std.proofs.lemmas.List.{append-nil}
use Rattle.vd_resolved.specs.declared.node.Resolved.{Resolved}
use Rattle.vd_environments.specs.Got.{Got}
use Rattle.vd_environments.specs.Environments.{Signals, both, unknown}
use Rattle.vd_environments.specs.Commands.{Command}
use Rattle.vd_meaning.specs.Tables.{Table, role_of, is_vector}
use Rattle.vd_meaning.specs.Names.{Named, conversion_known, conversion_of, fresh, tied_through, mark_of, standing, first_piece, number_or, unless_stopped, and_read}
use Rattle.vd_meaning.specs.Facets.{Meaning, Waveform, at_once, value_of}
use Rattle.vd_meaning.specs.Brackets.{argument_read, arguments_piece, by_role, is_between_vectors}
use Rattle.vd_meaning.specs.Meanings.{whole_name}
use Rattle.vd_meaning_laws.specs.Agreement.{Link, IsApart, Alike, AlikeCommands}
use Rattle.vd_meaning_laws.specs.Renumbering.{AlikeWaveform, AlikeChoice, AlikeMeaning, AlikeValues}
use Rattle.vd_meaning_laws.specs.Places.{as_value}
use Rattle.vd_meaning_laws.specs.Conversions.{conversion_round, IsConversion, IsPlain, IsBetweenVectors}
use Rattle.vd_meaning_laws.specs.PlaceLaws.{ConversionsKeepValues}
use Rattle.vd_meaning_laws.proofs.Values.{seen_alike}
use Rattle.vd_meaning_laws.proofs.Crossing.{commands_across}

-- ---- what a conversion is

-- the operand converted, which is a value of its own
abbrev of_operand : (mark brackets : Resolved) → ℕ → Meaning → Named
of_operand mark brackets d n = fresh (value_of n) brackets.mark (conversion_known d n.known) (argument_read (mark_of d mark.mark) (n ∷ []))

mark_same : (t : Table) (mark brackets : Resolved) (d : ℕ) → IsConversion t mark brackets d → first_piece t mark ≡ mark_of d mark.mark
mark_same t mark brackets d c = (λ i. standing t (role_of t (c.named i)) (number_or (c.named i)) mark) ∙ (λ i. standing t (c.role i) d mark)

piece_same : (t : Table) (mark brackets : Resolved) (d : ℕ) → IsConversion t mark brackets d → (n : Meaning) → is_between_vectors (Some d) n.mark ≡ true
    → arguments_piece t brackets (n ∷ []) (mark_of d mark.mark) ≡ tied_through (is_vector d && is_some n.name.prefix) n.name (of_operand mark brackets d n)
piece_same t mark brackets d c n b =
    (λ i. by_role (role_of t (c.again i)) t (record brackets { declaration = c.again i }) (n ∷ []) (mark_of d mark.mark))
    ∙ (λ i. by_role (c.role i) t (record brackets { declaration = Some d }) (n ∷ []) (mark_of d mark.mark))
    ∙ (λ i. conversion_of (b i) d brackets.mark (value_of n) n.known (argument_read (mark_of d mark.mark) (n ∷ [])) n.name)

tie_unseen : (b : Bool) (whole : Resolved) (p c : Named) → as_value (whole_name whole [] (tied_through b p c)) ≡ as_value (whole_name whole [] c)
tie_unseen true whole p c = refl
tie_unseen false whole p c = refl

round_same : (t : Table) (mark brackets whole : Resolved) (d : ℕ) → IsConversion t mark brackets d → (n : Meaning) → is_between_vectors (Some d) n.mark ≡ true
    → as_value (conversion_round t mark brackets whole n) ≡ as_value (whole_name whole [] (of_operand mark brackets d n))
round_same t mark brackets whole d c n b =
    (λ i. as_value (whole_name whole [] (arguments_piece t brackets (n ∷ []) (mark_same t mark brackets d c i))))
    ∙ (λ i. as_value (whole_name whole [] (piece_same t mark brackets d c n b i)))
    ∙ tie_unseen (is_vector d && is_some n.name.prefix) whole n.name (of_operand mark brackets d n)

-- ---- what it comes to

all_behind : (g : Got (List Signals)) → and_read (Ok []) (and_read (Ok []) (and_read g (Ok []))) ≡ g
all_behind (Ok xs) = λ i. Ok (append-nil xs i)
all_behind (Err s) = refl

module _ (l : Link) (numbers : IsApart l) (mark brackets whole : Resolved) (d : ℕ) (m n : Meaning) (h : AlikeMeaning l (as_value m) (as_value n)) (plain : IsPlain n) (vectors : IsBetweenVectors l d n) where
  values_same : AlikeValues l m.value (λ _. (of_operand mark brackets d n).value)
  values_same known e k = (λ i. sym (plain.value known) i e) ∙ h.value known e k

  known_kept : Alike l m.known (of_operand mark brackets d n).known
  known_kept e k = (λ i. unless_stopped (n.value unknown e) (both (vectors.bounds e k i) (n.known e))) ∙ plain.known e ∙ h.known e k

  chosen_same : (act act' : Waveform → Command) → ((w x : Waveform) → AlikeWaveform l w x → AlikeCommands l (act w) (act' x))
      → AlikeCommands l (m.chosen act) (act' (at_once (λ _. (of_operand mark brackets d n).value)))
  chosen_same act act' same =
      commands_across l (m.chosen act) (act (at_once m.value)) (n.chosen act') (act' (at_once (λ _. (of_operand mark brackets d n).value)))
      (h.chosen act act' same)
      (subst (λ c. AlikeCommands l (act (at_once m.value)) c) (sym (plain.chosen act')) (same (at_once m.value) (at_once n.value) (record { value = h.value; delay = λ e k. refl })))
      (same (at_once m.value) (at_once (λ _. (of_operand mark brackets d n).value)) (record { value = values_same; delay = λ e k. refl }))

  operand_alike : AlikeMeaning l (as_value m) (as_value (whole_name whole [] (of_operand mark brackets d n)))
  operand_alike =
      seen_alike l numbers m (whole_name whole [] (of_operand mark brackets d n)) (
      record {
        is_present = sym plain.there ∙ h.is_present;
        value = values_same;
        known = known_kept;
        reads = λ e k. all_behind (n.reads e) ∙ h.reads e k;
        association = sym plain.association ∙ h.association;
        choices = subst (λ cs. AllZip (AlikeChoice l) m.choices cs) plain.choices h.choices;
        is_open = sym plain.is_open ∙ h.is_open;
        chosen = chosen_same;
        targets = λ e k. sym (plain.targets e) ∙ h.targets e k;
      }
      )

pub conversions_keep_values : ConversionsKeepValues
conversions_keep_values l numbers t mark brackets whole d c m n h plain vectors =
    subst (λ x. AlikeMeaning l (as_value m) x) (sym (round_same t mark brackets whole d c n vectors.both)) (operand_alike l numbers mark brackets whole d m n h plain vectors)
