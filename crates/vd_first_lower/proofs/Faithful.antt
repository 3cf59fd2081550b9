-- What a conversion writes says what its source says.
use Rattle.std.proofs.Common.{◌≡◌, ℕ, List, refl, sym, ap, ◌∙◌, subst, Option, Some, None, IsSome, Result, Ok, Err, IfOk}
use Rattle.std.specs.List.{AllByRecursion}
use Rattle.vd_forest.specs.Forest.{SameButPlaces}
use Rattle.vd_trees.specs.declared.revision.Revision.{Revision}
use Rattle.vd_trees.specs.declared.revision.Revision.TheVariants.{V2019, V1993}
use Rattle.vd_trees.specs.declared.rows.Row.{Row}
use Rattle.vd_first_lex.specs.declared.selected.Selected.{Selected}
use Rattle.vd_first_lex.specs.declared.tokens.Token.{Token}
use Rattle.vd_first_lex.specs.Lexis.{IsTokenList}
use Rattle.vd_first_lex.specs.Lexings.{plain_of, lexed, IsPossible}
use Rattle.vd_first_lex.proofs.LexingLaws.{one_lexing}
use Rattle.vd_first_grammar.specs.Derivations.{File}
use Rattle.vd_first_grammar.specs.Shapes.{file_shape}
use Rattle.vd_first_print.specs.Writing.{design_tokens}
use Rattle.vd_first_print.specs.ReadingBack.{placeless_end, ReadsBack}
use Rattle.vd_first_print.proofs.ReadsBack.{layout_reads_back}
use Rattle.vd_first_lex.proofs.KindLemmas.{possible_tokens}
use Rattle.vd_first_written.specs.Written.{written_tree, IsWrittenAs}
use Rattle.vd_first_written.proofs.WrittenGiven.{written_are_given}
use Rattle.vd_first_written.proofs.WrittenIsText.{written_is_93}
use Rattle.vd_first_elaboration.specs.Tops.{Top}
use Rattle.vd_first_elaboration.specs.Interfaces.{interface_of}
use Rattle.vd_first_elaboration.specs.Elaboration.{Elaborated, elaboration}
use Rattle.vd_first_correspondence.specs.WholeMaps.{IsWholeFor, IsWholeMap, HasTops}
use Rattle.vd_first_correspondence.specs.SameRuns.{IsSameRunFor, HaveSameRun}
use Rattle.vd_first_correspondence.specs.Laws.{IsFile19}
use Rattle.vd_first_correspondence.proofs.FileLemmas.{same_elaboration, same_interface, map_whole, interface_kept, files_have_tops}
use Rattle.vd_first_correspondence.specs.SameTraces.{ShowSameFor, TreesShowSame}
use Rattle.vd_first_correspondence.proofs.FileRunLemmas.{writing_keeps_run, writing_keeps_traces}
use Rattle.vd_first_unambiguous.proofs.OneDerivation.{one_file}
use Rattle.vd_first_lower.specs.declared.conversion.Converted.{Converted}
use Rattle.vd_first_accept.specs.declared.acceptance.ConvertEnd.{ConvertEnd}
use Rattle.vd_first_lower.specs.Conversions.{IsConverted, Converts}
use Rattle.vd_first_lower.specs.Headline.{IsText, IsDesign, IsLaidOut, IsFaithful}
use Rattle.vd_first_lower.proofs.LaidOut.{split_last, same_layout}

-- ---- a text has one derivation

same_lexed : (ts us : List Token) → lexed ts ≡ lexed us → ts ≡ us
same_lexed ts us e = cc

one_text : (r : Revision) (s : Selected) (f g : File) → IsText r s f → IsText r s g → f ≡ g
one_text r s f g x y =
    let tokens = same_lexed x.tokens y.tokens (one_lexing r s (lexed x.tokens) (lexed y.tokens) x.is_list y.is_list) in
    one_file r f g x.is_file y.is_file (x.tokens_are ∙ tokens ∙ sym y.tokens_are)

-- where the map is whole for a top of the one design, the other has the top
some_too : (rows : List Row) (a b : Option Elaborated) → IsWholeFor rows a b → IsSome a → IsSome b
some_too rows None None w e = e
some_too rows None (Some n) w e = absurd w
some_too rows (Some m) None w e = absurd w
some_too rows (Some m) (Some n) w e = refl

-- ---- what was written, read again

module _ (s : Selected) (design : List ℕ) (rows : List Row) (units : ℕ) (c : IsConverted s design rows units) where
  abbrev file : File
  file = c.file

  abbrev written : List Token
  written = design_tokens (written_tree file)

  source_text : IsText V2019 s file
  source_text =
      record {
        tokens = c.tokens;
        is_list = c.has_tokens.tokens;
        is_file = c.read.is_file;
        tokens_are = c.read.tokens;
        conditions = c.read.conditions;
        known = c.known;
      }

  possible : AllByRecursion (IsPossible V2019) c.tokens
  possible = possible_tokens V2019 s c.tokens c.has_tokens.tokens

  read_back : ReadsBack V1993 0 design written
  read_back =
      subst (λ d. ReadsBack V1993 0 d written) (sym c.design_is)
      (layout_reads_back V1993 0 written (written_are_given c.tokens file possible c.read.is_file c.read.tokens c.read.conditions c.known))

  written_as : IsWrittenAs file read_back.tokens
  written_as =
      written_is_93 c.tokens file possible c.read.is_file c.read.tokens c.read.conditions c.known read_back.tokens read_back.same

  design_text93 : IsDesign design written_as.file
  design_text93 =
      record {
        tokens = read_back.tokens;
        is_list = read_back.is_list;
        is_file = written_as.is_text.is_file;
        tokens_are = written_as.is_text.tokens;
        conditions = written_as.is_text.conditions;
        known = written_as.is_text.known;
      }

  is_19 : IsFile19 file
  is_19 = record { is_file = c.read.is_file; conditions = c.read.conditions; known = c.known }

  -- the tree of the bytes is the written one, up to places, whatever derivation they have
  tree_of_design : (g : File) → IsDesign design g → SameButPlaces (file_shape g) (written_tree file)
  tree_of_design g d =
      subst (λ h. SameButPlaces (file_shape h) (written_tree file)) (one_text V1993 (plain_of 0 design) written_as.file g design_text93 d) written_as.tree

  tree_of_source : (f : File) → IsText V2019 s f → f ≡ file
  tree_of_source f t = one_text V2019 s f file t source_text

  whole_map : (f g : File) → IsText V2019 s f → IsDesign design g → IsWholeMap rows (file_shape f) (file_shape g)
  whole_map f g t d =
      let tree = tree_of_design g d in
      let source = sym (tree_of_source f t) in
      let whole = map_whole file is_19 in
      record {
        for_each = λ top.
            subst (λ n. IsWholeFor rows (elaboration (file_shape f) top) n) (sym (same_elaboration (file_shape g) (written_tree file) tree top))
            (subst (λ h. IsWholeFor rows (elaboration (file_shape h) top) (elaboration (written_tree file) top)) source
            (subst (λ rs. IsWholeFor rs (elaboration (file_shape file) top) (elaboration (written_tree file) top)) (sym c.rows_are) (whole.for_each top)));
      }

  same_run : (f g : File) → IsText V2019 s f → IsDesign design g → HaveSameRun rows (file_shape f) (file_shape g)
  same_run f g t d =
      let tree = tree_of_design g d in
      let source = sym (tree_of_source f t) in
      let run = writing_keeps_run file is_19 in
      record {
        for_each = λ top.
            subst (λ n. IsSameRunFor rows (elaboration (file_shape f) top) n) (sym (same_elaboration (file_shape g) (written_tree file) tree top))
            (subst (λ h. IsSameRunFor rows (elaboration (file_shape h) top) (elaboration (written_tree file) top)) source
            (subst (λ rs. IsSameRunFor rs (elaboration (file_shape file) top) (elaboration (written_tree file) top)) (sym c.rows_are) (run.for_each top)));
      }

  same_traces : (f g : File) → IsText V2019 s f → IsDesign design g → TreesShowSame (file_shape f) (file_shape g)
  same_traces f g t d =
      let tree = tree_of_design g d in
      let source = sym (tree_of_source f t) in
      let shown = writing_keeps_traces file is_19 in
      record {
        for_each = λ top.
            subst (λ n. ShowSameFor (elaboration (file_shape f) top) n) (sym (same_elaboration (file_shape g) (written_tree file) tree top))
            (subst (λ h. ShowSameFor (elaboration (file_shape h) top) (elaboration (written_tree file) top)) source (shown.for_each top));
      }

  interface : (f g : File) → IsText V2019 s f → IsDesign design g → interface_of (file_shape g) ≡ interface_of (file_shape f)
  interface f g t d =
      same_interface (file_shape g) (written_tree file) (tree_of_design g d)
      ∙ interface_kept file
      ∙ ap (λ h. interface_of (file_shape h)) (sym (tree_of_source f t))

  tops : (f g : File) → IsText V2019 s f → IsDesign design g → HasTops (file_shape f) f.entity.text f.architecture.text × HasTops (file_shape g) f.entity.text f.architecture.text
  tops f g t d =
      let here = files_have_tops f t.conditions in
      let map = whole_map f g t d in
      let last : Top = record { entity = f.entity.text; architecture = None } in
      let named : Top = record { entity = f.entity.text; architecture = Some f.architecture.text } in (
        here,
        record {
          last = some_too rows (elaboration (file_shape f) last) (elaboration (file_shape g) last) (map.for_each last) here.last;
          named = some_too rows (elaboration (file_shape f) named) (elaboration (file_shape g) named) (map.for_each named) here.named;
        },
      )

  laid_out : IsLaidOut design
  laid_out =
      let split = split_last read_back.tokens written placeless_end read_back.same in
      record {
        tokens = split.front;
        end = split.last;
        is_list = subst (IsTokenList V1993 (plain_of 0 design)) split.whole read_back.is_list;
        layout = c.design_is ∙ sym (same_layout split.front written split.same);
      }

  pub faithful : IsFaithful s design rows
  faithful =
      record {
        source = (file, source_text);
        in_93 = (written_as.file, design_text93);
        laid_out = laid_out;
        tops = tops;
        whole_map = whole_map;
        interface = interface;
        same_run = same_run;
        same_traces = same_traces;
      }

-- ---- what a call gave

pub if_ok_map : {A B : Type 0} (P Q : A → Type 0) → ((x : A) → P x → Q x) → (r : Result A B) → IfOk r P → IfOk r Q
if_ok_map P Q h (Ok x) p = h x p
if_ok_map P Q h (Err e) p = tt

-- each conversion is faithful
pub all_faithful : (s : Selected) (r : Result Converted ConvertEnd) → Converts s r → IfOk r (λ c. IsFaithful s c.design c.map.rows)
all_faithful s (Ok c) w = faithful s c.design c.map.rows c.units w
all_faithful s (Err e) w = tt
