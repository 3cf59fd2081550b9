use Rattle.std.proofs.Common.{◌≡◌, [], ◌<◌, map, length, take, get_or, refl, sym, ap, ◌∙◌, arith}
use Rattle.std.specs.Prelude.{slice_index_or}
use Rattle.std.specs.List.{list_any}
use Rattle.std.specs.Str.{bytes_eq}
use Rattle.std.proofs.lemmas.List.{length-map, get_or-map}
use Rattle.std.proofs.Math.Seq.{take-length}
use Rattle.vd_trees.specs.declared.paths.Path.{Path}
use Rattle.vd_first_elaboration.specs.Expressions.{each_once}
use Rattle.vd_first_elaboration.specs.Processes.{number_of}
use Rattle.vd_first_processes.proofs.NameLemmas.{one_name_more, noted, table_tells}
use Rattle.vd_first_processes.proofs.numbers.Numbers.of.Goals as goal

pub loop-i-preserved : goal.loop-i-preserved
loop-i-preserved c =
    let paths = c.args.paths.now in
    let object = λ (p : Path). p.object in
    let all = map object paths in
    let i = c.loop-i.i in
    let x = c.as_slice.result.now in
    let names = c.loop-i.names in
    let within : i < length paths = omega arith in
    let within_all : i < length all = omega (arith, length-map paths object) in
    let is : x ≡ get_or all i [] =
    c.as_slice.ensures ∙ sym (get_or-map object paths i c.index-paths-i.result [] within) in
    let so_far = c.loop-i.invariant.names in
    record {
      names = c.in_ok-note.ensures.names ∙ one_name_more all i x names within_all is so_far;
      firsts = c.in_ok-note.ensures.firsts
          ∙ noted all i x names within_all is so_far c.loop-i.firsts.items c.loop-i.invariant.firsts (list_any (bytes_eq x) names) refl
          ∙ ap (map (number_of all)) (sym c.in_ok-note.ensures.names);
    }

pub returns : goal.returns
returns c =
    let paths = c.args.paths.now in
    let object = λ (p : Path). p.object in
    let all = map object paths in
    let names = c.loop-i.names in
    let long = length-map paths object in
    let n : c.loop-i.i ≡ length all = omega (arith, long) in
    let once = c.loop-i.invariant.names ∙ ap (λ k. each_once [] (take k all)) n ∙ ap (each_once []) (take-length all) in
    λ name. ap (slice_index_or c.loop-i.firsts.items (number_of names name)) (sym long) ∙ table_tells all names c.loop-i.firsts.items once c.loop-i.invariant.firsts name
