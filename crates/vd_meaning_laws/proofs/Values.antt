-- When two parts are seen as the same at a place that only evaluates them.
use Rattle.std.proofs.Common.{◌≡◌, refl}
use Rattle.std.specs.List.{AllZip}
use Rattle.vd_environments.specs.Commands.{Command}
use Rattle.vd_meaning.specs.Facets.{Meaning, Waveform}
use Rattle.vd_meaning_laws.specs.Agreement.{Link, IsApart, Alike, AlikeCommands}
use Rattle.vd_meaning_laws.specs.Renumbering.{AlikeValues, AlikeWaveform, AlikeChoice, AlikeMeaning}
use Rattle.vd_meaning_laws.proofs.Agreeing.{skips_alike}
use Rattle.vd_meaning_laws.proofs.Naming.{no_name_alike}
use Rattle.vd_meaning_laws.specs.Places.{as_value}
use Rattle.vd_meaning_laws.specs.PlaceLaws.{ValuesAlike}

-- the facets that count there
pub record SeenAlike (l : Link) (m n : Meaning) : Type 0 where
  pub is_present : n.is_present ≡ m.is_present
  pub value : AlikeValues l m.value n.value
  pub known : Alike l m.known n.known
  pub reads : Alike l m.reads n.reads
  pub association : n.association ≡ m.association
  pub choices : AllZip (AlikeChoice l) m.choices n.choices
  pub is_open : n.is_open ≡ m.is_open
  pub chosen : (act act' : Waveform → Command) → ((w x : Waveform) → AlikeWaveform l w x → AlikeCommands l (act w) (act' x)) → AlikeCommands l (m.chosen act) (n.chosen act')
  pub targets : Alike l m.targets n.targets

pub seen_alike : (l : Link) → IsApart l → (m n : Meaning) → SeenAlike l m n → AlikeMeaning l (as_value m) (as_value n)
seen_alike l numbers m n h =
    record {
      text = refl;
      declaration = refl;
      mark = refl;
      position = refl;
      is_present = h.is_present;
      value = h.value;
      known = h.known;
      reads = h.reads;
      range = tt;
      name = no_name_alike l numbers;
      piece = λ p q a. no_name_alike l numbers;
      association = h.association;
      choices = h.choices;
      is_open = h.is_open;
      mode = refl;
      covers = λ c v e k. refl;
      chosen = h.chosen;
      indicated = λ e k. refl;
      fields = λ e k. refl;
      texts = refl;
      numbers = refl;
      objects = tt;
      parameters = tt;
      formals = tt;
      elements = tt;
      actuals = λ e k. refl;
      copies = refl;
      command = λ label. skips_alike l numbers;
      otherwise = λ c d a. a;
      cases = λ c s s' a. skips_alike l numbers;
      declarations = tt;
      settling = λ e e' a. a;
      targets = h.targets;
      listening = λ r r' a. tt;
      processes = tt;
    }

pub values_alike : ValuesAlike
values_alike l numbers m n h =
    seen_alike l numbers m n (
    record {
      is_present = h.is_present;
      value = h.value;
      known = h.known;
      reads = h.reads;
      association = h.association;
      choices = h.choices;
      is_open = h.is_open;
      chosen = h.chosen;
      targets = h.targets;
    }
    )
