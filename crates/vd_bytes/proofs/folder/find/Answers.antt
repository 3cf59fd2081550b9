use Rattle.std.proofs.Common.{◌≡◌, bytes_eq, string_bytes, true, false, sym, ◌∙◌, ap}
use Rattle.vd_bytes.specs.Trays.{has_file}
use Rattle.vd_bytes.specs.Folder.{told_of}
use Rattle.vd_bytes.proofs.Folders.{content_past, name_past, content_found, has_found, name_found}
use Rattle.vd_bytes.proofs.folder.find.Goals as goal

same_name : (c : goal.Then-eq) → bytes_eq (string_bytes c.index-files-i.result.name) c.args.name.now ≡ true
same_name c = sym (c.if-eq.ensures ∙ ap (λ x. bytes_eq x c.args.name.now) c.as_str.ensures.value)

pub returns-then-eq-clause-content : goal.returns-then-eq-clause-content
returns-then-eq-clause-content c =
    sym (content_found c.args.files.now c.loop-i.i c.index-files-i.result c.args.name.now c.loop-i-test.true c.index-files-i.is (same_name c)) ∙ c.loop-i.invariant.content

pub returns-then-eq-clause-name : goal.returns-then-eq-clause-name
returns-then-eq-clause-name c =
    let has : has_file (told_of c.args.files.now) c.args.name.now ≡ true = sym c.loop-i.invariant.found ∙ has_found c.args.files.now c.loop-i.i c.index-files-i.result c.args.name.now c.loop-i-test.true c.index-files-i.is (same_name c) in
    rw has (name_found c.args.files.now c.loop-i.i c.index-files-i.result c.args.name.now c.loop-i-test.true c.index-files-i.is (same_name c))

pub returns-clause-content : goal.returns-clause-content
returns-clause-content c =
    sym (content_past c.args.files.now c.loop-i.i c.args.name.now c.loop-i-test.false) ∙ c.loop-i.invariant.content

pub returns-clause-name : goal.returns-clause-name
returns-clause-name c =
    let past = name_past c.args.files.now c.loop-i.i c.args.name.now c.loop-i-test.false in
    let lacks : has_file (told_of c.args.files.now) c.args.name.now ≡ false = sym c.loop-i.invariant.found ∙ past.0 in
    rw lacks past.1
