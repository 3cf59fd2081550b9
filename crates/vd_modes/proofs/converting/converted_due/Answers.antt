use Rattle.std.proofs.Common.{◌≡◌, ◌<◌, ◌≤◌, ℕ, List, length, ap, ◌∙◌, subst, arith}
use Rattle.std.proofs.lemmas.Result.{IfOk-weaker}
use Rattle.vd_directives.specs.declared.selected.Line.{Line}
use Rattle.vd_first_names.specs.Maps.{map_text_of}
use Rattle.vd_program.specs.Dues.{Due}
use Rattle.vd_trees.specs.declared.rows.Row.{Row}
use Rattle.vd_words.specs.Words.{texts_of}
use Rattle.vd_modes.specs.Dues.{SaysConversion, conversion, console_of}
use Rattle.vd_modes.proofs.converting.converted_due.Goals as goal

-- the due of what is converted, piece by piece
due_put : (names : List (List ℕ)) (warnings : List (List Line)) (design : List ℕ) (rows : List Row) (units : ℕ) (map console : List ℕ) (due : Due)
    → map ≡ map_text_of rows → console ≡ console_of names warnings units (length rows)
    → due ≡ record { status = 0; design = design; map = map; console = console } → due ≡ conversion names warnings design rows units
due_put names warnings design rows units map console due map_is console_is is =
    is ∙ ap (λ (m : List ℕ). record { status = 0; design = design; map = m; console = console }) map_is
    ∙ ap (λ (t : List ℕ). record { status = 0; design = design; map = map_text_of rows; console = t }) console_is

pub returns-then-len-gt-MOST-clause-said : goal.returns-then-len-gt-MOST-clause-said
returns-then-len-gt-MOST-clause-said c =
    let converted = c.args.converted in
    let rows = length c.as_slice-rows.result.now in
    let above : 67108864 < length c.in_ok-console.console.items = omega arith in
    let long = subst (λ (text : List ℕ). 67108864 < length text) c.in_ok-console.ensures above in
    IfOk-weaker c.limit.result _ _
    (λ due is tool contents legal. SaysConversion.is_long converted.units rows converted.warnings legal long is)
    c.limit.ensures

pub returns-clause-said : goal.returns-clause-said
returns-clause-said c =
    let converted = c.args.converted in
    let names = texts_of c.args.names.now in
    let rows = converted.map.rows in
    let console = c.in_ok-console.console.items in
    let console_is : console ≡ console_of names converted.warnings converted.units (length rows) =
    c.in_ok-console.ensures ∙ ap (λ (r : List Row). console_of names converted.warnings converted.units (length r)) c.as_slice-rows.ensures in
    let below : length console ≤ 67108864 = omega arith in
    let short = subst (λ (text : List ℕ). length text ≤ 67108864) console_is below in
    let is = due_put names converted.warnings converted.design rows converted.units c.in_ok-map.map.items console c.all.result c.in_ok-map.ensures console_is c.all.ensures in
    λ tool contents legal. SaysConversion.converts converted.design rows converted.units converted.warnings legal c.requires.in_93 short is
