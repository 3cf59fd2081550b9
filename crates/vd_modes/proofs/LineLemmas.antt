-- Lines behind a text.
use Rattle.std.proofs.Common.{◌≡◌, ◌<◌, ◌+◌, ℕ, suc, List, [], ◌∷◌, ◌++◌, length, take, get_or, codes, decimal, sym, ap, ◌∙◌, arith, append_assoc, append-nil}
use Rattle.std.proofs.lemmas.List.{take_more, length-take}
use Rattle.vd_directives.specs.declared.selected.Line.{Line}
use Rattle.vd_modes.specs.Checks.{file_named, warning_line, warning_lines, warnings_from}

-- a warning behind a text, piece by piece
pub line_put : (text file : List ℕ) (w : Line) (head : List ℕ) → head ≡ file ++ (codes ":" ++ (decimal w.number ++ codes ":1: warning: ")) → (a : List ℕ) → a ≡ text ++ head → (bytes : List ℕ) → bytes ≡ w.bytes
    → (b : List ℕ) → b ≡ a ++ bytes → (c : List ℕ) → c ≡ b ++ 10 ∷ [] → c ≡ text ++ warning_line file w
line_put text file w head is_head a is_a bytes is_bytes b is_b c is_c =
    let whole = file ++ (codes ":" ++ (decimal w.number ++ codes ":1: warning: ")) in
    let rest = w.bytes ++ 10 ∷ [] in
    is_c ∙ ap (λ l. l ++ 10 ∷ []) (is_b ∙ ap (λ l. l ++ bytes) (is_a ∙ ap (λ p. text ++ p) is_head) ∙ ap (λ l. (text ++ whole) ++ l) is_bytes)
    ∙ append_assoc (text ++ whole) w.bytes (10 ∷ []) ∙ append_assoc text whole rest
    ∙ ap (λ l. text ++ l) (append_assoc file (codes ":" ++ (decimal w.number ++ codes ":1: warning: ")) rest ∙ ap (λ l. file ++ (codes ":" ++ l)) (append_assoc (decimal w.number) (codes ":1: warning: ") rest))

-- one more line
lines_push : (file : List ℕ) (ws : List Line) (w : Line) → warning_lines file (ws ++ w ∷ []) ≡ warning_lines file ws ++ warning_line file w
lines_push file [] w = append-nil (warning_line file w)
lines_push file (v ∷ ws) w = ap (λ l. warning_line file v ++ l) (lines_push file ws w) ∙ sym (append_assoc (warning_line file v) (warning_lines file ws) (warning_line file w))

pub lines_more : (text file : List ℕ) (ws : List Line) (i : ℕ) (d : Line) → i < length ws → (so_far : List ℕ) → so_far ≡ text ++ warning_lines file (take i ws)
    → so_far ++ warning_line file (get_or ws i d) ≡ text ++ warning_lines file (take (i + 1) ws)
lines_more text file ws i d inside so_far is =
    ap (λ l. l ++ warning_line file (get_or ws i d)) is ∙ append_assoc text (warning_lines file (take i ws)) (warning_line file (get_or ws i d))
    ∙ ap (λ l. text ++ l) (sym (lines_push file (take i ws) (get_or ws i d)) ∙ ap (warning_lines file) (sym (take_more ws i d inside)))

-- one more file
files_push : (names : List (List ℕ)) (n : ℕ) (wss : List (List Line)) (ws : List Line) → warnings_from names n (wss ++ ws ∷ []) ≡ warnings_from names n wss ++ warning_lines (file_named names (n + length wss)) ws
files_push names n [] ws = let same : n + 0 ≡ n = omega arith in append-nil (warning_lines (file_named names n) ws) ∙ ap (λ k. warning_lines (file_named names k) ws) (sym same)
files_push names n (vs ∷ wss) ws =
    let same : suc n + length wss ≡ n + suc (length wss) = omega arith in
    ap (λ l. warning_lines (file_named names n) vs ++ l) (files_push names (suc n) wss ws ∙ ap (λ k. warnings_from names (suc n) wss ++ warning_lines (file_named names k) ws) same)
    ∙ sym (append_assoc (warning_lines (file_named names n) vs) (warnings_from names (suc n) wss) (warning_lines (file_named names (n + suc (length wss))) ws))

pub files_more : (text : List ℕ) (names : List (List ℕ)) (wss : List (List Line)) (i : ℕ) (d : List Line) → i < length wss → (so_far : List ℕ) → so_far ≡ text ++ warnings_from names 0 (take i wss)
    → so_far ++ warning_lines (file_named names i) (get_or wss i d) ≡ text ++ warnings_from names 0 (take (i + 1) wss)
files_more text names wss i d inside so_far is =
    let ws = get_or wss i d in
    let taken = length-take i wss in let long : 0 + length (take i wss) ≡ i = omega (arith, taken, inside) in
    ap (λ l. l ++ warning_lines (file_named names i) ws) is ∙ append_assoc text (warnings_from names 0 (take i wss)) (warning_lines (file_named names i) ws)
    ∙ ap (λ l. text ++ l)
    (ap (λ k. warnings_from names 0 (take i wss) ++ warning_lines (file_named names k) ws) (sym long) ∙ sym (files_push names 0 (take i wss) ws) ∙ ap (warnings_from names 0) (sym (take_more wss i d inside)))
