-- Nodes that mean the same, of which one facet is given anew.
use Rattle.std.proofs.Common.{◌≡◌, ℕ, Bool, List, Option, map}
use Rattle.std.specs.List.{AllZip}
use Rattle.vd_values.specs.declared.scalar.Scalar.{Scalar}
use Rattle.vd_kernel.specs.declared.assignments.Delay.{Delay}
use Rattle.vd_composites.specs.declared.ranges.Bounds.{Bounds}
use Rattle.vd_composites.specs.Composites.{Value}
use Rattle.vd_composites.specs.Subtypes.{Subtype}
use Rattle.vd_environments.specs.Got.{Got}
use Rattle.vd_environments.specs.Environments.{Signals, Static, GenericActual, Env, Indicated, Field}
use Rattle.vd_environments.specs.Commands.{Command}
use Rattle.vd_environments.specs.Functions.{Parameter}
use Rattle.vd_environments.specs.Processes.{Process}
use Rattle.vd_meaning.specs.Names.{Named}
use Rattle.vd_meaning.specs.Facets.{Meaning, Waveform, Association, Choice, Comparison, Objects, Formal, MapElement}
use Rattle.vd_meaning_laws.specs.Agreement.{Link, Alike, number_in, AlikeCommands}
use Rattle.vd_meaning_laws.specs.Renumbering.{AlikeMeaning, AlikeProcess, AlikeSettling, AlikeName, AlikeOption, AlikeValues, AlikeWaveform, AlikeChoice, AlikeObjects, AlikeParameter, AlikeFormal, AlikeMapElement, pair_in}

module _ (l : Link) where
  pub with_text : {m n : Meaning} → AlikeMeaning l m n → (x y : List ℕ) → (y ≡ x) → AlikeMeaning l (record m { text = x }) (record n { text = y })
  with_text h x y z = record { text = z; declaration = h.declaration; mark = h.mark; position = h.position; is_present = h.is_present; value = h.value; known = h.known; reads = h.reads; range = h.range; name = h.name; piece = h.piece; association = h.association; choices = h.choices; is_open = h.is_open; mode = h.mode; covers = h.covers; chosen = h.chosen; indicated = h.indicated; fields = h.fields; texts = h.texts; numbers = h.numbers; objects = h.objects; parameters = h.parameters; formals = h.formals; elements = h.elements; actuals = h.actuals; copies = h.copies; command = h.command; otherwise = h.otherwise; cases = h.cases; declarations = h.declarations; settling = h.settling; targets = h.targets; listening = h.listening; processes = h.processes }

  pub with_declaration : {m n : Meaning} → AlikeMeaning l m n → (x y : Option ℕ) → (y ≡ number_in l x) → AlikeMeaning l (record m { declaration = x }) (record n { declaration = y })
  with_declaration h x y z = record { text = h.text; declaration = z; mark = h.mark; position = h.position; is_present = h.is_present; value = h.value; known = h.known; reads = h.reads; range = h.range; name = h.name; piece = h.piece; association = h.association; choices = h.choices; is_open = h.is_open; mode = h.mode; covers = h.covers; chosen = h.chosen; indicated = h.indicated; fields = h.fields; texts = h.texts; numbers = h.numbers; objects = h.objects; parameters = h.parameters; formals = h.formals; elements = h.elements; actuals = h.actuals; copies = h.copies; command = h.command; otherwise = h.otherwise; cases = h.cases; declarations = h.declarations; settling = h.settling; targets = h.targets; listening = h.listening; processes = h.processes }

  pub with_value : {m n : Meaning} → AlikeMeaning l m n → (x y : Got Subtype → Env → Got (Value Scalar)) → (AlikeValues l x y) → AlikeMeaning l (record m { value = x }) (record n { value = y })
  with_value h x y z = record { text = h.text; declaration = h.declaration; mark = h.mark; position = h.position; is_present = h.is_present; value = z; known = h.known; reads = h.reads; range = h.range; name = h.name; piece = h.piece; association = h.association; choices = h.choices; is_open = h.is_open; mode = h.mode; covers = h.covers; chosen = h.chosen; indicated = h.indicated; fields = h.fields; texts = h.texts; numbers = h.numbers; objects = h.objects; parameters = h.parameters; formals = h.formals; elements = h.elements; actuals = h.actuals; copies = h.copies; command = h.command; otherwise = h.otherwise; cases = h.cases; declarations = h.declarations; settling = h.settling; targets = h.targets; listening = h.listening; processes = h.processes }

  pub with_known : {m n : Meaning} → AlikeMeaning l m n → (x y : Env → Static) → (Alike l x y) → AlikeMeaning l (record m { known = x }) (record n { known = y })
  with_known h x y z = record { text = h.text; declaration = h.declaration; mark = h.mark; position = h.position; is_present = h.is_present; value = h.value; known = z; reads = h.reads; range = h.range; name = h.name; piece = h.piece; association = h.association; choices = h.choices; is_open = h.is_open; mode = h.mode; covers = h.covers; chosen = h.chosen; indicated = h.indicated; fields = h.fields; texts = h.texts; numbers = h.numbers; objects = h.objects; parameters = h.parameters; formals = h.formals; elements = h.elements; actuals = h.actuals; copies = h.copies; command = h.command; otherwise = h.otherwise; cases = h.cases; declarations = h.declarations; settling = h.settling; targets = h.targets; listening = h.listening; processes = h.processes }

  pub with_reads : {m n : Meaning} → AlikeMeaning l m n → (x y : Env → Got (List Signals)) → (Alike l x y) → AlikeMeaning l (record m { reads = x }) (record n { reads = y })
  with_reads h x y z = record { text = h.text; declaration = h.declaration; mark = h.mark; position = h.position; is_present = h.is_present; value = h.value; known = h.known; reads = z; range = h.range; name = h.name; piece = h.piece; association = h.association; choices = h.choices; is_open = h.is_open; mode = h.mode; covers = h.covers; chosen = h.chosen; indicated = h.indicated; fields = h.fields; texts = h.texts; numbers = h.numbers; objects = h.objects; parameters = h.parameters; formals = h.formals; elements = h.elements; actuals = h.actuals; copies = h.copies; command = h.command; otherwise = h.otherwise; cases = h.cases; declarations = h.declarations; settling = h.settling; targets = h.targets; listening = h.listening; processes = h.processes }

  pub with_range : {m n : Meaning} → AlikeMeaning l m n → (x y : Option (Env → Got Bounds)) → (AlikeOption l x y) → AlikeMeaning l (record m { range = x }) (record n { range = y })
  with_range h x y z = record { text = h.text; declaration = h.declaration; mark = h.mark; position = h.position; is_present = h.is_present; value = h.value; known = h.known; reads = h.reads; range = z; name = h.name; piece = h.piece; association = h.association; choices = h.choices; is_open = h.is_open; mode = h.mode; covers = h.covers; chosen = h.chosen; indicated = h.indicated; fields = h.fields; texts = h.texts; numbers = h.numbers; objects = h.objects; parameters = h.parameters; formals = h.formals; elements = h.elements; actuals = h.actuals; copies = h.copies; command = h.command; otherwise = h.otherwise; cases = h.cases; declarations = h.declarations; settling = h.settling; targets = h.targets; listening = h.listening; processes = h.processes }

  pub with_name : {m n : Meaning} → AlikeMeaning l m n → (x y : Named) → (AlikeName l x y) → AlikeMeaning l (record m { name = x }) (record n { name = y })
  with_name h x y z = record { text = h.text; declaration = h.declaration; mark = h.mark; position = h.position; is_present = h.is_present; value = h.value; known = h.known; reads = h.reads; range = h.range; name = z; piece = h.piece; association = h.association; choices = h.choices; is_open = h.is_open; mode = h.mode; covers = h.covers; chosen = h.chosen; indicated = h.indicated; fields = h.fields; texts = h.texts; numbers = h.numbers; objects = h.objects; parameters = h.parameters; formals = h.formals; elements = h.elements; actuals = h.actuals; copies = h.copies; command = h.command; otherwise = h.otherwise; cases = h.cases; declarations = h.declarations; settling = h.settling; targets = h.targets; listening = h.listening; processes = h.processes }

  pub with_piece : {m n : Meaning} → AlikeMeaning l m n → (x y : Named → Named) → ((p q : Named) → AlikeName l p q → AlikeName l (x p) (y q)) → AlikeMeaning l (record m { piece = x }) (record n { piece = y })
  with_piece h x y z = record { text = h.text; declaration = h.declaration; mark = h.mark; position = h.position; is_present = h.is_present; value = h.value; known = h.known; reads = h.reads; range = h.range; name = h.name; piece = z; association = h.association; choices = h.choices; is_open = h.is_open; mode = h.mode; covers = h.covers; chosen = h.chosen; indicated = h.indicated; fields = h.fields; texts = h.texts; numbers = h.numbers; objects = h.objects; parameters = h.parameters; formals = h.formals; elements = h.elements; actuals = h.actuals; copies = h.copies; command = h.command; otherwise = h.otherwise; cases = h.cases; declarations = h.declarations; settling = h.settling; targets = h.targets; listening = h.listening; processes = h.processes }

  pub with_association : {m n : Meaning} → AlikeMeaning l m n → (x y : Association) → (y ≡ x) → AlikeMeaning l (record m { association = x }) (record n { association = y })
  with_association h x y z = record { text = h.text; declaration = h.declaration; mark = h.mark; position = h.position; is_present = h.is_present; value = h.value; known = h.known; reads = h.reads; range = h.range; name = h.name; piece = h.piece; association = z; choices = h.choices; is_open = h.is_open; mode = h.mode; covers = h.covers; chosen = h.chosen; indicated = h.indicated; fields = h.fields; texts = h.texts; numbers = h.numbers; objects = h.objects; parameters = h.parameters; formals = h.formals; elements = h.elements; actuals = h.actuals; copies = h.copies; command = h.command; otherwise = h.otherwise; cases = h.cases; declarations = h.declarations; settling = h.settling; targets = h.targets; listening = h.listening; processes = h.processes }

  pub with_choices : {m n : Meaning} → AlikeMeaning l m n → (x y : List Choice) → (AllZip (AlikeChoice l) x y) → AlikeMeaning l (record m { choices = x }) (record n { choices = y })
  with_choices h x y z = record { text = h.text; declaration = h.declaration; mark = h.mark; position = h.position; is_present = h.is_present; value = h.value; known = h.known; reads = h.reads; range = h.range; name = h.name; piece = h.piece; association = h.association; choices = z; is_open = h.is_open; mode = h.mode; covers = h.covers; chosen = h.chosen; indicated = h.indicated; fields = h.fields; texts = h.texts; numbers = h.numbers; objects = h.objects; parameters = h.parameters; formals = h.formals; elements = h.elements; actuals = h.actuals; copies = h.copies; command = h.command; otherwise = h.otherwise; cases = h.cases; declarations = h.declarations; settling = h.settling; targets = h.targets; listening = h.listening; processes = h.processes }

  pub with_is_open : {m n : Meaning} → AlikeMeaning l m n → (x y : Bool) → (y ≡ x) → AlikeMeaning l (record m { is_open = x }) (record n { is_open = y })
  with_is_open h x y z = record { text = h.text; declaration = h.declaration; mark = h.mark; position = h.position; is_present = h.is_present; value = h.value; known = h.known; reads = h.reads; range = h.range; name = h.name; piece = h.piece; association = h.association; choices = h.choices; is_open = z; mode = h.mode; covers = h.covers; chosen = h.chosen; indicated = h.indicated; fields = h.fields; texts = h.texts; numbers = h.numbers; objects = h.objects; parameters = h.parameters; formals = h.formals; elements = h.elements; actuals = h.actuals; copies = h.copies; command = h.command; otherwise = h.otherwise; cases = h.cases; declarations = h.declarations; settling = h.settling; targets = h.targets; listening = h.listening; processes = h.processes }

  pub with_mode : {m n : Meaning} → AlikeMeaning l m n → (x y : Delay) → (y ≡ x) → AlikeMeaning l (record m { mode = x }) (record n { mode = y })
  with_mode h x y z = record { text = h.text; declaration = h.declaration; mark = h.mark; position = h.position; is_present = h.is_present; value = h.value; known = h.known; reads = h.reads; range = h.range; name = h.name; piece = h.piece; association = h.association; choices = h.choices; is_open = h.is_open; mode = z; covers = h.covers; chosen = h.chosen; indicated = h.indicated; fields = h.fields; texts = h.texts; numbers = h.numbers; objects = h.objects; parameters = h.parameters; formals = h.formals; elements = h.elements; actuals = h.actuals; copies = h.copies; command = h.command; otherwise = h.otherwise; cases = h.cases; declarations = h.declarations; settling = h.settling; targets = h.targets; listening = h.listening; processes = h.processes }

  pub with_covers : {m n : Meaning} → AlikeMeaning l m n → (x y : Comparison → Value Scalar → Env → Got Bool) → ((c : Comparison) (v : Value Scalar) → Alike l (x c v) (y c v)) → AlikeMeaning l (record m { covers = x }) (record n { covers = y })
  with_covers h x y z = record { text = h.text; declaration = h.declaration; mark = h.mark; position = h.position; is_present = h.is_present; value = h.value; known = h.known; reads = h.reads; range = h.range; name = h.name; piece = h.piece; association = h.association; choices = h.choices; is_open = h.is_open; mode = h.mode; covers = z; chosen = h.chosen; indicated = h.indicated; fields = h.fields; texts = h.texts; numbers = h.numbers; objects = h.objects; parameters = h.parameters; formals = h.formals; elements = h.elements; actuals = h.actuals; copies = h.copies; command = h.command; otherwise = h.otherwise; cases = h.cases; declarations = h.declarations; settling = h.settling; targets = h.targets; listening = h.listening; processes = h.processes }

  pub with_chosen : {m n : Meaning} → AlikeMeaning l m n → (x y : (Waveform → Command) → Command) → ((act act' : Waveform → Command) → ((w x : Waveform) → AlikeWaveform l w x → AlikeCommands l (act w) (act' x)) → AlikeCommands l (x act) (y act')) → AlikeMeaning l (record m { chosen = x }) (record n { chosen = y })
  with_chosen h x y z = record { text = h.text; declaration = h.declaration; mark = h.mark; position = h.position; is_present = h.is_present; value = h.value; known = h.known; reads = h.reads; range = h.range; name = h.name; piece = h.piece; association = h.association; choices = h.choices; is_open = h.is_open; mode = h.mode; covers = h.covers; chosen = z; indicated = h.indicated; fields = h.fields; texts = h.texts; numbers = h.numbers; objects = h.objects; parameters = h.parameters; formals = h.formals; elements = h.elements; actuals = h.actuals; copies = h.copies; command = h.command; otherwise = h.otherwise; cases = h.cases; declarations = h.declarations; settling = h.settling; targets = h.targets; listening = h.listening; processes = h.processes }

  pub with_indicated : {m n : Meaning} → AlikeMeaning l m n → (x y : Env → Got Indicated) → (Alike l x y) → AlikeMeaning l (record m { indicated = x }) (record n { indicated = y })
  with_indicated h x y z = record { text = h.text; declaration = h.declaration; mark = h.mark; position = h.position; is_present = h.is_present; value = h.value; known = h.known; reads = h.reads; range = h.range; name = h.name; piece = h.piece; association = h.association; choices = h.choices; is_open = h.is_open; mode = h.mode; covers = h.covers; chosen = h.chosen; indicated = z; fields = h.fields; texts = h.texts; numbers = h.numbers; objects = h.objects; parameters = h.parameters; formals = h.formals; elements = h.elements; actuals = h.actuals; copies = h.copies; command = h.command; otherwise = h.otherwise; cases = h.cases; declarations = h.declarations; settling = h.settling; targets = h.targets; listening = h.listening; processes = h.processes }

  pub with_fields : {m n : Meaning} → AlikeMeaning l m n → (x y : Env → Got (List Field)) → (Alike l x y) → AlikeMeaning l (record m { fields = x }) (record n { fields = y })
  with_fields h x y z = record { text = h.text; declaration = h.declaration; mark = h.mark; position = h.position; is_present = h.is_present; value = h.value; known = h.known; reads = h.reads; range = h.range; name = h.name; piece = h.piece; association = h.association; choices = h.choices; is_open = h.is_open; mode = h.mode; covers = h.covers; chosen = h.chosen; indicated = h.indicated; fields = z; texts = h.texts; numbers = h.numbers; objects = h.objects; parameters = h.parameters; formals = h.formals; elements = h.elements; actuals = h.actuals; copies = h.copies; command = h.command; otherwise = h.otherwise; cases = h.cases; declarations = h.declarations; settling = h.settling; targets = h.targets; listening = h.listening; processes = h.processes }

  pub with_texts : {m n : Meaning} → AlikeMeaning l m n → (x y : List (List ℕ)) → (y ≡ x) → AlikeMeaning l (record m { texts = x }) (record n { texts = y })
  with_texts h x y z = record { text = h.text; declaration = h.declaration; mark = h.mark; position = h.position; is_present = h.is_present; value = h.value; known = h.known; reads = h.reads; range = h.range; name = h.name; piece = h.piece; association = h.association; choices = h.choices; is_open = h.is_open; mode = h.mode; covers = h.covers; chosen = h.chosen; indicated = h.indicated; fields = h.fields; texts = z; numbers = h.numbers; objects = h.objects; parameters = h.parameters; formals = h.formals; elements = h.elements; actuals = h.actuals; copies = h.copies; command = h.command; otherwise = h.otherwise; cases = h.cases; declarations = h.declarations; settling = h.settling; targets = h.targets; listening = h.listening; processes = h.processes }

  pub with_numbers : {m n : Meaning} → AlikeMeaning l m n → (x y : List ℕ) → (y ≡ map l.number x) → AlikeMeaning l (record m { numbers = x }) (record n { numbers = y })
  with_numbers h x y z = record { text = h.text; declaration = h.declaration; mark = h.mark; position = h.position; is_present = h.is_present; value = h.value; known = h.known; reads = h.reads; range = h.range; name = h.name; piece = h.piece; association = h.association; choices = h.choices; is_open = h.is_open; mode = h.mode; covers = h.covers; chosen = h.chosen; indicated = h.indicated; fields = h.fields; texts = h.texts; numbers = z; objects = h.objects; parameters = h.parameters; formals = h.formals; elements = h.elements; actuals = h.actuals; copies = h.copies; command = h.command; otherwise = h.otherwise; cases = h.cases; declarations = h.declarations; settling = h.settling; targets = h.targets; listening = h.listening; processes = h.processes }

  pub with_objects : {m n : Meaning} → AlikeMeaning l m n → (x y : List Objects) → (AllZip (AlikeObjects l) x y) → AlikeMeaning l (record m { objects = x }) (record n { objects = y })
  with_objects h x y z = record { text = h.text; declaration = h.declaration; mark = h.mark; position = h.position; is_present = h.is_present; value = h.value; known = h.known; reads = h.reads; range = h.range; name = h.name; piece = h.piece; association = h.association; choices = h.choices; is_open = h.is_open; mode = h.mode; covers = h.covers; chosen = h.chosen; indicated = h.indicated; fields = h.fields; texts = h.texts; numbers = h.numbers; objects = z; parameters = h.parameters; formals = h.formals; elements = h.elements; actuals = h.actuals; copies = h.copies; command = h.command; otherwise = h.otherwise; cases = h.cases; declarations = h.declarations; settling = h.settling; targets = h.targets; listening = h.listening; processes = h.processes }

  pub with_parameters : {m n : Meaning} → AlikeMeaning l m n → (x y : List Parameter) → (AllZip (AlikeParameter l) x y) → AlikeMeaning l (record m { parameters = x }) (record n { parameters = y })
  with_parameters h x y z = record { text = h.text; declaration = h.declaration; mark = h.mark; position = h.position; is_present = h.is_present; value = h.value; known = h.known; reads = h.reads; range = h.range; name = h.name; piece = h.piece; association = h.association; choices = h.choices; is_open = h.is_open; mode = h.mode; covers = h.covers; chosen = h.chosen; indicated = h.indicated; fields = h.fields; texts = h.texts; numbers = h.numbers; objects = h.objects; parameters = z; formals = h.formals; elements = h.elements; actuals = h.actuals; copies = h.copies; command = h.command; otherwise = h.otherwise; cases = h.cases; declarations = h.declarations; settling = h.settling; targets = h.targets; listening = h.listening; processes = h.processes }

  pub with_formals : {m n : Meaning} → AlikeMeaning l m n → (x y : List Formal) → (AllZip (AlikeFormal l) x y) → AlikeMeaning l (record m { formals = x }) (record n { formals = y })
  with_formals h x y z = record { text = h.text; declaration = h.declaration; mark = h.mark; position = h.position; is_present = h.is_present; value = h.value; known = h.known; reads = h.reads; range = h.range; name = h.name; piece = h.piece; association = h.association; choices = h.choices; is_open = h.is_open; mode = h.mode; covers = h.covers; chosen = h.chosen; indicated = h.indicated; fields = h.fields; texts = h.texts; numbers = h.numbers; objects = h.objects; parameters = h.parameters; formals = z; elements = h.elements; actuals = h.actuals; copies = h.copies; command = h.command; otherwise = h.otherwise; cases = h.cases; declarations = h.declarations; settling = h.settling; targets = h.targets; listening = h.listening; processes = h.processes }

  pub with_elements : {m n : Meaning} → AlikeMeaning l m n → (x y : List MapElement) → (AllZip (AlikeMapElement l) x y) → AlikeMeaning l (record m { elements = x }) (record n { elements = y })
  with_elements h x y z = record { text = h.text; declaration = h.declaration; mark = h.mark; position = h.position; is_present = h.is_present; value = h.value; known = h.known; reads = h.reads; range = h.range; name = h.name; piece = h.piece; association = h.association; choices = h.choices; is_open = h.is_open; mode = h.mode; covers = h.covers; chosen = h.chosen; indicated = h.indicated; fields = h.fields; texts = h.texts; numbers = h.numbers; objects = h.objects; parameters = h.parameters; formals = h.formals; elements = z; actuals = h.actuals; copies = h.copies; command = h.command; otherwise = h.otherwise; cases = h.cases; declarations = h.declarations; settling = h.settling; targets = h.targets; listening = h.listening; processes = h.processes }

  pub with_actuals : {m n : Meaning} → AlikeMeaning l m n → (x y : Env → List GenericActual) → (Alike l x y) → AlikeMeaning l (record m { actuals = x }) (record n { actuals = y })
  with_actuals h x y z = record { text = h.text; declaration = h.declaration; mark = h.mark; position = h.position; is_present = h.is_present; value = h.value; known = h.known; reads = h.reads; range = h.range; name = h.name; piece = h.piece; association = h.association; choices = h.choices; is_open = h.is_open; mode = h.mode; covers = h.covers; chosen = h.chosen; indicated = h.indicated; fields = h.fields; texts = h.texts; numbers = h.numbers; objects = h.objects; parameters = h.parameters; formals = h.formals; elements = h.elements; actuals = z; copies = h.copies; command = h.command; otherwise = h.otherwise; cases = h.cases; declarations = h.declarations; settling = h.settling; targets = h.targets; listening = h.listening; processes = h.processes }

  pub with_copies : {m n : Meaning} → AlikeMeaning l m n → (x y : List (ℕ × ℕ)) → (y ≡ map (pair_in l) x) → AlikeMeaning l (record m { copies = x }) (record n { copies = y })
  with_copies h x y z = record { text = h.text; declaration = h.declaration; mark = h.mark; position = h.position; is_present = h.is_present; value = h.value; known = h.known; reads = h.reads; range = h.range; name = h.name; piece = h.piece; association = h.association; choices = h.choices; is_open = h.is_open; mode = h.mode; covers = h.covers; chosen = h.chosen; indicated = h.indicated; fields = h.fields; texts = h.texts; numbers = h.numbers; objects = h.objects; parameters = h.parameters; formals = h.formals; elements = h.elements; actuals = h.actuals; copies = z; command = h.command; otherwise = h.otherwise; cases = h.cases; declarations = h.declarations; settling = h.settling; targets = h.targets; listening = h.listening; processes = h.processes }

  pub with_command : {m n : Meaning} → AlikeMeaning l m n → (x y : Option ℕ → Command) → ((label : Option ℕ) → AlikeCommands l (x label) (y (number_in l label))) → AlikeMeaning l (record m { command = x }) (record n { command = y })
  with_command h x y z = record { text = h.text; declaration = h.declaration; mark = h.mark; position = h.position; is_present = h.is_present; value = h.value; known = h.known; reads = h.reads; range = h.range; name = h.name; piece = h.piece; association = h.association; choices = h.choices; is_open = h.is_open; mode = h.mode; covers = h.covers; chosen = h.chosen; indicated = h.indicated; fields = h.fields; texts = h.texts; numbers = h.numbers; objects = h.objects; parameters = h.parameters; formals = h.formals; elements = h.elements; actuals = h.actuals; copies = h.copies; command = z; otherwise = h.otherwise; cases = h.cases; declarations = h.declarations; settling = h.settling; targets = h.targets; listening = h.listening; processes = h.processes }

  pub with_otherwise : {m n : Meaning} → AlikeMeaning l m n → (x y : Command → Command) → ((c d : Command) → AlikeCommands l c d → AlikeCommands l (x c) (y d)) → AlikeMeaning l (record m { otherwise = x }) (record n { otherwise = y })
  with_otherwise h x y z = record { text = h.text; declaration = h.declaration; mark = h.mark; position = h.position; is_present = h.is_present; value = h.value; known = h.known; reads = h.reads; range = h.range; name = h.name; piece = h.piece; association = h.association; choices = h.choices; is_open = h.is_open; mode = h.mode; covers = h.covers; chosen = h.chosen; indicated = h.indicated; fields = h.fields; texts = h.texts; numbers = h.numbers; objects = h.objects; parameters = h.parameters; formals = h.formals; elements = h.elements; actuals = h.actuals; copies = h.copies; command = h.command; otherwise = z; cases = h.cases; declarations = h.declarations; settling = h.settling; targets = h.targets; listening = h.listening; processes = h.processes }

  pub with_cases : {m n : Meaning} → AlikeMeaning l m n → (x y : Comparison → (Env → Got (Value Scalar)) → Command) → ((c : Comparison) (s s' : Env → Got (Value Scalar)) → Alike l s s' → AlikeCommands l (x c s) (y c s')) → AlikeMeaning l (record m { cases = x }) (record n { cases = y })
  with_cases h x y z = record { text = h.text; declaration = h.declaration; mark = h.mark; position = h.position; is_present = h.is_present; value = h.value; known = h.known; reads = h.reads; range = h.range; name = h.name; piece = h.piece; association = h.association; choices = h.choices; is_open = h.is_open; mode = h.mode; covers = h.covers; chosen = h.chosen; indicated = h.indicated; fields = h.fields; texts = h.texts; numbers = h.numbers; objects = h.objects; parameters = h.parameters; formals = h.formals; elements = h.elements; actuals = h.actuals; copies = h.copies; command = h.command; otherwise = h.otherwise; cases = z; declarations = h.declarations; settling = h.settling; targets = h.targets; listening = h.listening; processes = h.processes }

  pub with_declarations : {m n : Meaning} → AlikeMeaning l m n → (x y : List Command) → (AllZip (AlikeCommands l) x y) → AlikeMeaning l (record m { declarations = x }) (record n { declarations = y })
  with_declarations h x y z = record { text = h.text; declaration = h.declaration; mark = h.mark; position = h.position; is_present = h.is_present; value = h.value; known = h.known; reads = h.reads; range = h.range; name = h.name; piece = h.piece; association = h.association; choices = h.choices; is_open = h.is_open; mode = h.mode; covers = h.covers; chosen = h.chosen; indicated = h.indicated; fields = h.fields; texts = h.texts; numbers = h.numbers; objects = h.objects; parameters = h.parameters; formals = h.formals; elements = h.elements; actuals = h.actuals; copies = h.copies; command = h.command; otherwise = h.otherwise; cases = h.cases; declarations = z; settling = h.settling; targets = h.targets; listening = h.listening; processes = h.processes }

  pub with_settling : {m n : Meaning} → AlikeMeaning l m n → (x y : Env → Env) → (AlikeSettling l x y) → AlikeMeaning l (record m { settling = x }) (record n { settling = y })
  with_settling h x y z = record { text = h.text; declaration = h.declaration; mark = h.mark; position = h.position; is_present = h.is_present; value = h.value; known = h.known; reads = h.reads; range = h.range; name = h.name; piece = h.piece; association = h.association; choices = h.choices; is_open = h.is_open; mode = h.mode; covers = h.covers; chosen = h.chosen; indicated = h.indicated; fields = h.fields; texts = h.texts; numbers = h.numbers; objects = h.objects; parameters = h.parameters; formals = h.formals; elements = h.elements; actuals = h.actuals; copies = h.copies; command = h.command; otherwise = h.otherwise; cases = h.cases; declarations = h.declarations; settling = z; targets = h.targets; listening = h.listening; processes = h.processes }

  pub with_targets : {m n : Meaning} → AlikeMeaning l m n → (x y : Env → Got (List Signals)) → (Alike l x y) → AlikeMeaning l (record m { targets = x }) (record n { targets = y })
  with_targets h x y z = record { text = h.text; declaration = h.declaration; mark = h.mark; position = h.position; is_present = h.is_present; value = h.value; known = h.known; reads = h.reads; range = h.range; name = h.name; piece = h.piece; association = h.association; choices = h.choices; is_open = h.is_open; mode = h.mode; covers = h.covers; chosen = h.chosen; indicated = h.indicated; fields = h.fields; texts = h.texts; numbers = h.numbers; objects = h.objects; parameters = h.parameters; formals = h.formals; elements = h.elements; actuals = h.actuals; copies = h.copies; command = h.command; otherwise = h.otherwise; cases = h.cases; declarations = h.declarations; settling = h.settling; targets = z; listening = h.listening; processes = h.processes }

  pub with_listening : {m n : Meaning} → AlikeMeaning l m n → (x y : (Env → Got (List Signals)) → Option (Env → Got (List Signals))) → ((reads reads' : Env → Got (List Signals)) → Alike l reads reads' → AlikeOption l (x reads) (y reads')) → AlikeMeaning l (record m { listening = x }) (record n { listening = y })
  with_listening h x y z = record { text = h.text; declaration = h.declaration; mark = h.mark; position = h.position; is_present = h.is_present; value = h.value; known = h.known; reads = h.reads; range = h.range; name = h.name; piece = h.piece; association = h.association; choices = h.choices; is_open = h.is_open; mode = h.mode; covers = h.covers; chosen = h.chosen; indicated = h.indicated; fields = h.fields; texts = h.texts; numbers = h.numbers; objects = h.objects; parameters = h.parameters; formals = h.formals; elements = h.elements; actuals = h.actuals; copies = h.copies; command = h.command; otherwise = h.otherwise; cases = h.cases; declarations = h.declarations; settling = h.settling; targets = h.targets; listening = z; processes = h.processes }

  pub with_processes : {m n : Meaning} → AlikeMeaning l m n → (x y : List Process) → (AllZip (AlikeProcess l) x y) → AlikeMeaning l (record m { processes = x }) (record n { processes = y })
  with_processes h x y z = record { text = h.text; declaration = h.declaration; mark = h.mark; position = h.position; is_present = h.is_present; value = h.value; known = h.known; reads = h.reads; range = h.range; name = h.name; piece = h.piece; association = h.association; choices = h.choices; is_open = h.is_open; mode = h.mode; covers = h.covers; chosen = h.chosen; indicated = h.indicated; fields = h.fields; texts = h.texts; numbers = h.numbers; objects = h.objects; parameters = h.parameters; formals = h.formals; elements = h.elements; actuals = h.actuals; copies = h.copies; command = h.command; otherwise = h.otherwise; cases = h.cases; declarations = h.declarations; settling = h.settling; targets = h.targets; listening = h.listening; processes = z }
