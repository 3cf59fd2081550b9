-- A table of texts that a set keeps by reference.
use Rattle.std.proofs.Common.{◌≡◌, ℕ, ◌+◌, ◌<◌, Bool, true, false, cond, ◌||◌, List, [], ◌∷◌, ◌++◌, map, length, drop, get_or, position, refl, sym, ap, ◌∙◌, Bor}
use Rattle.std.specs.List.{list_any, prefix_len}
use Rattle.std.specs.Str.{bytes_eq}
use Rattle.std.proofs.lemmas.List.{length-map, map-append, drop_more, get_or-map}
use Rattle.indexmap.specs.IndexSet.{insert_key, insert_all}
use Rattle.vd_trees.specs.Words.{reserved_words}
use Rattle.vd_trees.specs.declared.revision.Revision.TheVariants.{V2019}

module _ {X Y : Type 0} (f : X → Y) where
  prefix_len-map : (q : Y → Bool) (xs : List X) → prefix_len q (map f xs) ≡ prefix_len (λ x. q (f x)) xs
  prefix_len-map q [] = refl
  prefix_len-map q (x ∷ xs) = ap (λ n. cond (q (f x)) (1 + n) 0) (prefix_len-map q xs)

  pub position-map : (p : Y → Bool) (xs : List X) → position p (map f xs) ≡ position (λ x. p (f x)) xs
  position-map p xs = rw (prefix_len-map _ xs, length-map xs f)

  list_any-map : (p : Y → Bool) (xs : List X) → list_any p (map f xs) ≡ list_any (λ x. p (f x)) xs
  list_any-map p [] = refl
  list_any-map p (x ∷ xs) = ap (λ b. p (f x) || b) (list_any-map p xs)

  map-cond : (b : Bool) (xs : List X) (x : X) → map f (cond b xs (xs ++ x ∷ [])) ≡ cond b (map f xs) (map f xs ++ f x ∷ [])
  map-cond true xs x = refl
  map-cond false xs x = map-append f xs (x ∷ [])

  -- one more value in the set is one more value among the texts
  pub insert_key-map : (eq : Y → Y → Bool) (xs : List X) (x : X)
      → map f (insert_key (λ a b. eq (f a) (f b)) xs x) ≡ insert_key eq (map f xs) (f x)
  insert_key-map eq xs x = rw (list_any-map (eq (f x)) xs) (map-cond (list_any (λ y. eq (f x) (f y)) xs) xs x)

-- the texts of a set after some more are put in
unfoldable pub filled : List (List ℕ) → List (List ℕ) → List (List ℕ)
filled texts more = insert_all bytes_eq texts more

-- the texts of some references
abbrev pub texts : List (Bor (List ℕ)) → List (List ℕ)
texts xs = map (λ (w : Bor (List ℕ)). w.now) xs

-- no word stands twice
pub filled-words : filled [] (reserved_words V2019) ≡ reserved_words V2019
unfolding filled
filled-words = refl

pub filled-none : (ts us : List (List ℕ)) → us ≡ [] → filled ts us ≡ ts
unfolding filled
filled-none ts us e = rw e refl

filled-first : (ts us : List (List ℕ)) (t : List ℕ) → filled ts (t ∷ us) ≡ filled (insert_key bytes_eq ts t) us
unfolding filled
filled-first ts us t = refl

-- one word more
pub filled-more : (ks : List (Bor (List ℕ))) (ws : List (Bor (List ℕ))) (i : ℕ) (d k : Bor (List ℕ)) → i < length ws → k.now ≡ (get_or ws i d).now
    → filled (texts (insert_key (λ a b. bytes_eq a.now b.now) ks k)) (drop (i + 1) (texts ws)) ≡ filled (texts ks) (drop i (texts ws))
filled-more ks ws i d k h e =
    let within : i < length (texts ws) = rw (length-map ws (λ (w : Bor (List ℕ)). w.now)) h in
    let first : drop i (texts ws) ≡ k.now ∷ drop (i + 1) (texts ws) = drop_more (texts ws) i [] within ∙ ap (λ t. t ∷ drop (i + 1) (texts ws)) (get_or-map (λ (w : Bor (List ℕ)). w.now) ws i d [] h ∙ sym e) in
    sym (ap (filled (texts ks)) first ∙ (filled-first (texts ks) (drop (i + 1) (texts ws)) k.now ∙ ap (λ ts. filled ts (drop (i + 1) (texts ws))) (sym (insert_key-map (λ (w : Bor (List ℕ)). w.now) bytes_eq ks k))))
