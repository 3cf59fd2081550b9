-- What a node of a kind comes to, by what is made of it.
use Rattle.std.proofs.Common.{◌≡◌, List, [], false, refl, subst, true, ℕ}
use Rattle.std.specs.Prelude.{Err, IfOk, Ok, Result}
use Rattle.vd_environments.specs.Environments.{Env}
use Rattle.vd_forest.specs.Forest.{Forest}
use Rattle.vd_value_rules.specs.declared.forms.IndicatedForm.{IndicatedForm}
use Rattle.vd_meaning.specs.Facets.{Meaning, no_meaning, of_node}
use Rattle.vd_meaning.specs.Kinds
use Rattle.vd_meaning.specs.Meanings.{meaning_of}
use Rattle.vd_resolved.specs.declared.node.Resolved.{Resolved}
use Rattle.vd_static_values.specs.Entries.{table_of}
use Rattle.vd_static_values.specs.Nodes.{IsNode}
use Rattle.vd_static_values.specs.declared.entries.Ground.{Ground}
use Rattle.vd_static_values.specs.declared.nodes.Node.{Node}
use Rattle.vd_known_indications.specs.Kinds.{IsMadeAs, node_kind}
use Rattle.vd_known_indications.specs.declared.kinds.NodeKind.{NodeKind}
use Rattle.vd_static_parts.specs.Made.{IsMade}

-- what of a meaning is looked at
abbrev seen : Meaning → Meaning
seen m =
    record no_meaning {
      text = m.text;
      declaration = m.declaration;
      mark = m.mark;
      position = m.position;
      is_present = m.is_present;
      value = m.value;
      known = m.known;
      range = m.range;
      name = m.name;
      piece = m.piece;
      association = m.association;
      choices = m.choices;
      is_open = m.is_open;
    }

module _ (subtypes : List (Forest IndicatedForm)) (e : Env) (x : Node) where
  seen_so : (m : Meaning) → IsNode subtypes e x m → IsNode subtypes e x (seen m)
  seen_so m is = record {
    sense = record {
      text = is.sense.text;
      declaration = is.sense.declaration;
      mark = is.sense.mark;
      position = is.sense.position;
      is_present = is.sense.is_present;
      known = is.sense.known;
      value = is.sense.value;
      range = is.sense.range;
      name = is.sense.name;
      association = is.sense.association;
      choices = is.sense.choices;
      is_open = is.sense.is_open;
    };
    piece = is.piece;
  }

  is_so : (m : Meaning) → IsNode subtypes e x (seen m) → IsNode subtypes e x m
  is_so m is = record {
    sense = record {
      text = is.sense.text;
      declaration = is.sense.declaration;
      mark = is.sense.mark;
      position = is.sense.position;
      is_present = is.sense.is_present;
      known = is.sense.known;
      value = is.sense.value;
      range = is.sense.range;
      name = is.sense.name;
      association = is.sense.association;
      choices = is.sense.choices;
      is_open = is.sense.is_open;
    };
    piece = is.piece;
  }

  alike : (m m' : Meaning) → seen m ≡ seen m' → IsNode subtypes e x m → IsNode subtypes e x m'
  alike m m' same is = is_so m' (subst (IsNode subtypes e x) same (seen_so m is))

pub made_as : (k : Kinds.Kind) (g : Ground) (n : Resolved) (text : List ℕ) (parts : List Node) (x : Node) → IsMadeAs (node_kind k) g n text parts x → IsMade k g n text parts x
made_as Kinds.NotThere g n text parts x made = λ e ms ground nodes. made g.subtypes.now e
made_as Kinds.Parts g n text parts x made = λ e ms ground nodes. alike g.subtypes.now e x (of_node n text ms) (meaning_of Kinds.Parts (table_of g) n text ms) refl (made g.subtypes.now e ms)
made_as Kinds.Word g n text parts x made = made
made_as Kinds.CharacterLiteral g n text parts x made = made
made_as Kinds.StringLiteral g n text parts x made = made
made_as Kinds.NumberLiteral g n text parts x made = made
made_as Kinds.TimeLiteral g n text parts x made = made
made_as Kinds.WholeName g n text parts x made = made
made_as Kinds.SelectionPiece g n text parts x made = made
made_as Kinds.ArgumentsPiece g n text parts x made = made
made_as Kinds.AttributePiece g n text parts x made = made
made_as Kinds.RangePiece g n text parts x made = made
made_as Kinds.QualificationPiece g n text parts x made = made
made_as Kinds.Operator g n text parts x made = made
made_as Kinds.Brackets g n text parts x made = made
made_as Kinds.Associated g n text parts x made = made
made_as Kinds.AssociatedOthers g n text parts x made = made
made_as Kinds.ChoiceList g n text parts x made = made
made_as Kinds.AnyChoice g n text parts x made = made
made_as Kinds.OpenActual g n text parts x made = made
made_as (Kinds.Limits false) g n text parts x made = made
made_as (Kinds.Limits true) g n text parts x made = made
made_as Kinds.LimitsOfMark g n text parts x made = made
made_as Kinds.OpenIndex g n text parts x made = made
made_as Kinds.MarkName g n text parts x made = made
made_as Kinds.Indication g n text parts x made = λ e ms ground nodes. alike g.subtypes.now e x (of_node n text ms) (meaning_of Kinds.Indication (table_of g) n text ms) refl (made g.subtypes.now e ms)
made_as Kinds.Constraint g n text parts x made = made
made_as Kinds.Literals g n text parts x made = λ e ms ground nodes. alike g.subtypes.now e x (of_node n text ms) (meaning_of Kinds.Literals (table_of g) n text ms) refl (made g.subtypes.now e ms)
made_as Kinds.ArrayDefinition g n text parts x made = λ e ms ground nodes. alike g.subtypes.now e x (of_node n text ms) (meaning_of Kinds.ArrayDefinition (table_of g) n text ms) refl (made g.subtypes.now e ms)
made_as Kinds.RecordDefinition g n text parts x made = λ e ms ground nodes. alike g.subtypes.now e x (of_node n text ms) (meaning_of Kinds.RecordDefinition (table_of g) n text ms) refl (made g.subtypes.now e ms)
made_as Kinds.RecordParts g n text parts x made = λ e ms ground nodes. alike g.subtypes.now e x (of_node n text ms) (meaning_of Kinds.RecordParts (table_of g) n text ms) refl (made g.subtypes.now e ms)
made_as Kinds.RecordPart g n text parts x made = λ e ms ground nodes. alike g.subtypes.now e x (of_node n text ms) (meaning_of Kinds.RecordPart (table_of g) n text ms) refl (made g.subtypes.now e ms)
made_as Kinds.Identifiers g n text parts x made = λ e ms ground nodes. alike g.subtypes.now e x (of_node n text ms) (meaning_of Kinds.Identifiers (table_of g) n text ms) refl (made g.subtypes.now e ms)
made_as Kinds.NewType g n text parts x made = λ e ms ground nodes. alike g.subtypes.now e x (of_node n [] ms) (meaning_of Kinds.NewType (table_of g) n text ms) refl (made g.subtypes.now e ms)
made_as Kinds.NewSubtype g n text parts x made = λ e ms ground nodes. alike g.subtypes.now e x (of_node n [] ms) (meaning_of Kinds.NewSubtype (table_of g) n text ms) refl (made g.subtypes.now e ms)
made_as Kinds.NewConstants g n text parts x made = λ e ms ground nodes. alike g.subtypes.now e x (of_node n [] ms) (meaning_of Kinds.NewConstants (table_of g) n text ms) refl (made g.subtypes.now e ms)
made_as Kinds.NewVariables g n text parts x made = λ e ms ground nodes. alike g.subtypes.now e x (of_node n [] ms) (meaning_of Kinds.NewVariables (table_of g) n text ms) refl (made g.subtypes.now e ms)
made_as Kinds.NewSignals g n text parts x made = λ e ms ground nodes. alike g.subtypes.now e x (of_node n text ms) (meaning_of Kinds.NewSignals (table_of g) n text ms) refl (made g.subtypes.now e ms)
made_as Kinds.NewPorts g n text parts x made = λ e ms ground nodes. alike g.subtypes.now e x (of_node n text ms) (meaning_of Kinds.NewPorts (table_of g) n text ms) refl (made g.subtypes.now e ms)
made_as Kinds.Interfaces g n text parts x made = λ e ms ground nodes. alike g.subtypes.now e x (of_node n text ms) (meaning_of Kinds.Interfaces (table_of g) n text ms) refl (made g.subtypes.now e ms)
made_as Kinds.Parameters g n text parts x made = λ e ms ground nodes. alike g.subtypes.now e x (of_node n text ms) (meaning_of Kinds.Parameters (table_of g) n text ms) refl (made g.subtypes.now e ms)
made_as Kinds.NewFunction g n text parts x made = λ e ms ground nodes. alike g.subtypes.now e x (of_node n [] ms) (meaning_of Kinds.NewFunction (table_of g) n text ms) refl (made g.subtypes.now e ms)
made_as Kinds.Declarations g n text parts x made = λ e ms ground nodes. alike g.subtypes.now e x (of_node n text ms) (meaning_of Kinds.Declarations (table_of g) n text ms) refl (made g.subtypes.now e ms)
made_as Kinds.NewGenerics g n text parts x made = λ e ms ground nodes. alike g.subtypes.now e x (of_node n text ms) (meaning_of Kinds.NewGenerics (table_of g) n text ms) refl (made g.subtypes.now e ms)
made_as Kinds.NewGenericType g n text parts x made = λ e ms ground nodes. alike g.subtypes.now e x (of_node n text ms) (meaning_of Kinds.NewGenericType (table_of g) n text ms) refl (made g.subtypes.now e ms)
made_as Kinds.NewGenericFunction g n text parts x made = λ e ms ground nodes. alike g.subtypes.now e x (of_node n text ms) (meaning_of Kinds.NewGenericFunction (table_of g) n text ms) refl (made g.subtypes.now e ms)
made_as Kinds.GenericActuals g n text parts x made = λ e ms ground nodes. alike g.subtypes.now e x (of_node n text ms) (meaning_of Kinds.GenericActuals (table_of g) n text ms) refl (made g.subtypes.now e ms)
made_as Kinds.NewInstance g n text parts x made = λ e ms ground nodes. alike g.subtypes.now e x (of_node n [] ms) (meaning_of Kinds.NewInstance (table_of g) n text ms) refl (made g.subtypes.now e ms)
made_as Kinds.NewPackageInstance g n text parts x made = λ e ms ground nodes. alike g.subtypes.now e x (of_node n text ms) (meaning_of Kinds.NewPackageInstance (table_of g) n text ms) refl (made g.subtypes.now e ms)
made_as Kinds.Transported g n text parts x made = λ e ms ground nodes. alike g.subtypes.now e x (of_node n text ms) (meaning_of Kinds.Transported (table_of g) n text ms) refl (made g.subtypes.now e ms)
made_as Kinds.Delayed g n text parts x made = λ e ms ground nodes. alike g.subtypes.now e x (of_node n text ms) (meaning_of Kinds.Delayed (table_of g) n text ms) refl (made g.subtypes.now e ms)
made_as Kinds.NoWaveform g n text parts x made = λ e ms ground nodes. alike g.subtypes.now e x (of_node n text ms) (meaning_of Kinds.NoWaveform (table_of g) n text ms) refl (made g.subtypes.now e ms)
made_as Kinds.Conditional g n text parts x made = λ e ms ground nodes. alike g.subtypes.now e x (of_node n text ms) (meaning_of Kinds.Conditional (table_of g) n text ms) refl (made g.subtypes.now e ms)
made_as Kinds.Guarded g n text parts x made = λ e ms ground nodes. alike g.subtypes.now e x (of_node n text ms) (meaning_of Kinds.Guarded (table_of g) n text ms) refl (made g.subtypes.now e ms)
made_as Kinds.Sequence g n text parts x made = λ e ms ground nodes. alike g.subtypes.now e x (of_node n [] ms) (meaning_of Kinds.Sequence (table_of g) n text ms) refl (made g.subtypes.now e ms)
made_as Kinds.Labelled g n text parts x made = λ e ms ground nodes. alike g.subtypes.now e x (of_node n [] ms) (meaning_of Kinds.Labelled (table_of g) n text ms) refl (made g.subtypes.now e ms)
made_as Kinds.AssignSignal g n text parts x made = λ e ms ground nodes. alike g.subtypes.now e x (of_node n [] ms) (meaning_of Kinds.AssignSignal (table_of g) n text ms) refl (made g.subtypes.now e ms)
made_as Kinds.AssignVariable g n text parts x made = λ e ms ground nodes. alike g.subtypes.now e x (of_node n [] ms) (meaning_of Kinds.AssignVariable (table_of g) n text ms) refl (made g.subtypes.now e ms)
made_as Kinds.SelectSignal g n text parts x made = λ e ms ground nodes. alike g.subtypes.now e x (of_node n [] ms) (meaning_of Kinds.SelectSignal (table_of g) n text ms) refl (made g.subtypes.now e ms)
made_as Kinds.SelectVariable g n text parts x made = λ e ms ground nodes. alike g.subtypes.now e x (of_node n [] ms) (meaning_of Kinds.SelectVariable (table_of g) n text ms) refl (made g.subtypes.now e ms)
made_as Kinds.If g n text parts x made = λ e ms ground nodes. alike g.subtypes.now e x (of_node n [] ms) (meaning_of Kinds.If (table_of g) n text ms) refl (made g.subtypes.now e ms)
made_as Kinds.Branches g n text parts x made = λ e ms ground nodes. alike g.subtypes.now e x (of_node n text ms) (meaning_of Kinds.Branches (table_of g) n text ms) refl (made g.subtypes.now e ms)
made_as Kinds.Branch g n text parts x made = λ e ms ground nodes. alike g.subtypes.now e x (of_node n text ms) (meaning_of Kinds.Branch (table_of g) n text ms) refl (made g.subtypes.now e ms)
made_as Kinds.Case g n text parts x made = λ e ms ground nodes. alike g.subtypes.now e x (of_node n [] ms) (meaning_of Kinds.Case (table_of g) n text ms) refl (made g.subtypes.now e ms)
made_as Kinds.Alternatives g n text parts x made = λ e ms ground nodes. alike g.subtypes.now e x (of_node n text ms) (meaning_of Kinds.Alternatives (table_of g) n text ms) refl (made g.subtypes.now e ms)
made_as Kinds.Alternative g n text parts x made = λ e ms ground nodes. alike g.subtypes.now e x (of_node n text ms) (meaning_of Kinds.Alternative (table_of g) n text ms) refl (made g.subtypes.now e ms)
made_as Kinds.SelectedAlternative g n text parts x made = λ e ms ground nodes. alike g.subtypes.now e x (of_node n text ms) (meaning_of Kinds.SelectedAlternative (table_of g) n text ms) refl (made g.subtypes.now e ms)
made_as Kinds.For g n text parts x made = λ e ms ground nodes. alike g.subtypes.now e x (of_node n text ms) (meaning_of Kinds.For (table_of g) n text ms) refl (made g.subtypes.now e ms)
made_as Kinds.WhileTrue g n text parts x made = λ e ms ground nodes. alike g.subtypes.now e x (of_node n text ms) (meaning_of Kinds.WhileTrue (table_of g) n text ms) refl (made g.subtypes.now e ms)
made_as Kinds.Endless g n text parts x made = λ e ms ground nodes. alike g.subtypes.now e x (of_node n text ms) (meaning_of Kinds.Endless (table_of g) n text ms) refl (made g.subtypes.now e ms)
made_as Kinds.Suspend g n text parts x made = λ e ms ground nodes. alike g.subtypes.now e x (of_node n [] ms) (meaning_of Kinds.Suspend (table_of g) n text ms) refl (made g.subtypes.now e ms)
made_as Kinds.Listed g n text parts x made = λ e ms ground nodes. alike g.subtypes.now e x (of_node n text ms) (meaning_of Kinds.Listed (table_of g) n text ms) refl (made g.subtypes.now e ms)
made_as Kinds.Asserting g n text parts x made = λ e ms ground nodes. alike g.subtypes.now e x (of_node n [] ms) (meaning_of Kinds.Asserting (table_of g) n text ms) refl (made g.subtypes.now e ms)
made_as Kinds.Reporting g n text parts x made = λ e ms ground nodes. alike g.subtypes.now e x (of_node n [] ms) (meaning_of Kinds.Reporting (table_of g) n text ms) refl (made g.subtypes.now e ms)
made_as Kinds.Giving g n text parts x made = λ e ms ground nodes. alike g.subtypes.now e x (of_node n [] ms) (meaning_of Kinds.Giving (table_of g) n text ms) refl (made g.subtypes.now e ms)
made_as (Kinds.Jumping out) g n text parts x made = λ e ms ground nodes. alike g.subtypes.now e x (of_node n [] ms) (meaning_of (Kinds.Jumping out) (table_of g) n text ms) refl (made g.subtypes.now e ms)
made_as Kinds.Everything g n text parts x made = λ e ms ground nodes. alike g.subtypes.now e x (of_node n text ms) (meaning_of Kinds.Everything (table_of g) n text ms) refl (made g.subtypes.now e ms)
made_as Kinds.AssignConcurrently g n text parts x made = λ e ms ground nodes. alike g.subtypes.now e x (of_node n [] ms) (meaning_of Kinds.AssignConcurrently (table_of g) n text ms) refl (made g.subtypes.now e ms)
made_as Kinds.OneProcess g n text parts x made = λ e ms ground nodes. alike g.subtypes.now e x (of_node n text ms) (meaning_of Kinds.OneProcess (table_of g) n text ms) refl (made g.subtypes.now e ms)
made_as Kinds.Concurrent g n text parts x made = λ e ms ground nodes. alike g.subtypes.now e x (of_node n text ms) (meaning_of Kinds.Concurrent (table_of g) n text ms) refl (made g.subtypes.now e ms)

pub each_made : {E : Type 0} (k : Kinds.Kind) (s : NodeKind) (g : Ground) (n : Resolved) (text : List ℕ) (parts : List Node) (r : Result Node E) → s ≡ node_kind k
    → IfOk r (IsMadeAs s g n text parts) → IfOk r (IsMade k g n text parts)
each_made k s g n text parts (Ok x) is made = made_as k g n text parts x (subst (λ t. IsMadeAs t g n text parts x) is made)
each_made k s g n text parts (Err e) is made = tt
