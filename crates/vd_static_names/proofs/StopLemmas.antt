-- Parts of what stops, and behind steps that stop.
use Rattle.std.proofs.Common.{◌≡◌, ◌&&◌, ◌⊎◌, Bool, Err, None, Ok, Option, Some, false, inl, inr, is_some, refl, true, ℕ}
use Rattle.vd_composites.specs.Composites.{Value}
use Rattle.vd_composites.specs.Parts.{Step, part}
use Rattle.vd_composites.specs.Stops.{◌>>=◌}
use Rattle.vd_environments.specs.Environments.{Env, Signals, read}
use Rattle.vd_environments.specs.Got.{Got, got, is_got, senseless}
use Rattle.vd_meaning.specs.Names.{Named, Stepping, part_of_value, part_prefix, part_signals, part_value, stepped, where_signal}
use Rattle.vd_static_values.specs.Names.{Stops}
use Rattle.vd_values.specs.declared.scalar.Scalar.{Scalar}

pub bind_stops : {A B : Type 0} (g : Got A) (f : A → Got B) → is_got g ≡ false → is_got (g >>= f) ≡ false
bind_stops (Ok x) f stops = absurd (cc)
bind_stops (Err halt) f stops = refl

pub left_true : (a b : Bool) → (a && b) ≡ true → a ≡ true
left_true true b is = refl
left_true false b is = absurd (cc)

pub right_true : (a b : Bool) → (a && b) ≡ true → b ≡ true
right_true true b is = is
right_true false b is = absurd (cc)

part_stops : {L : Type 0} (whole : Got (Value L)) (to : Got Step) → (is_got whole ≡ false) ⊎ (is_got to ≡ false)
    → is_got (whole >>= λ v. to >>= λ t. got (part t v)) ≡ false
part_stops (Err halt) to why = refl
part_stops (Ok v) (Err halt) why = refl
part_stops (Ok v) (Ok t) (inl stops) = absurd (cc)
part_stops (Ok v) (Ok t) (inr stops) = absurd (cc)

module _ (s : Stepping) (m : Option ℕ) (p : Named) (e : Env) where
  value_stops : (prefix : Option (Env → Got Signals)) (signals : Env → Got Signals) (value : Env → Got (Value Scalar))
      → (is_some prefix ≡ true → is_got (signals e) ≡ false) → is_got (value e) ≡ false → is_got (part_value prefix signals value e) ≡ false
  value_stops None signals value one other = other
  value_stops (Some prefix) signals value one other = bind_stops (signals e) (read e.view) (one refl)

  signals_stop : (prefix : Option (Env → Got Signals)) (signals : Env → Got Signals)
      → (is_some prefix ≡ true → is_got (signals e) ≡ false) → is_got (where_signal prefix (λ _. senseless) signals e) ≡ false
  signals_stop None signals one = refl
  signals_stop (Some prefix) signals one = one refl

  whole_value : (is_got (s.to e) ≡ false) ⊎ Stops e p → (is_got (p.value e) ≡ false) ⊎ (is_got (s.to e) ≡ false)
  whole_value (inl to) = inr to
  whole_value (inr stops) = inl stops.value

  whole_signals : (is_got (s.to e) ≡ false) ⊎ Stops e p → is_some p.prefix ≡ true → (is_got (p.signals e) ≡ false) ⊎ (is_got (s.to e) ≡ false)
  whole_signals (inl to) is = inr to
  whole_signals (inr stops) is = inl (stops.signals is)

  -- of a part where the whole stops or the step does
  pub stepped_stops : (is_got (s.to e) ≡ false) ⊎ Stops e p → Stops e (stepped s m p)
  stepped_stops why =
      let signals : is_some p.prefix ≡ true → is_got (part_signals p s e) ≡ false = λ is. part_stops (p.signals e) (s.to e) (whole_signals why is) in
      let value : is_got (part_of_value p s e) ≡ false = part_stops (p.value e) (s.to e) (whole_value why) in
      record {
        value = value_stops p.prefix (part_signals p s) (part_of_value p s) signals value;
        signals = λ is. signals_stop p.prefix (part_signals p s) signals;
      }

  pub value_stops_with : Stops e p → is_got (part_of_value p s e) ≡ false
  value_stops_with stops = part_stops (p.value e) (s.to e) (inl stops.value)

  pub some_prefix : (prefix : Option (Env → Got Signals)) → is_some (part_prefix p s prefix) ≡ is_some prefix
  some_prefix None = refl
  some_prefix (Some prefix) = refl
