-- Facts about the words in which contracts speak of a tray, for proofs that join several calls.
use Rattle.std.proofs.Common.{◌≡◌, inl, inr, ℕ, ◌+◌, ◌-◌, ◌^◌, ◌<◌, ◌≤◌, Bool, List, [], ◌++◌, length, take, drop, Option, None, Some, option_map, IfSome, refl, sym, ◌∙◌, ap, subst, arith, append_assoc}
use Rattle.std.proofs.lemmas.List.{append-nil}
use Rattle.std.proofs.Math.Seq.{take-add, take-length}
use Rattle.vd_bytes.specs.declared.channels.Channel.{Channel}
use Rattle.vd_bytes.specs.Trays.{Rose, RoseAt, SameCounts, Appends, AppendsFront, OnlyReads, OnlyWrites}

-- a count that rose in a later call rose in all of them together, where it never fell
pub Rose-later : (a b c : ℕ) → a ≤ b → Rose b c → Rose a c
Rose-later a b c h (inl lt) = inl (omega arith)
Rose-later a b c h (inr top) = inr top

-- a count that rose in an earlier call rose in all of them together, where it never fell
pub Rose-earlier : (a b c : ℕ) → a ≤ b → Rose a b → b ≤ c → Rose a c
Rose-earlier a b c up (inl lt) h = inl (omega arith)
Rose-earlier a b c up (inr top) h = grind arith

-- a count that stands still below its last value didn't rise
pub Rose-still : (n : ℕ) → n < 2 ^ 64 - 1 → Rose n n → ⊥
Rose-still n low (inl lt) = omega arith
Rose-still n low (inr top) = omega arith

-- counts that stay in two calls stay in both together
pub SameCounts-trans : (a b c : List ℕ → ℕ) → SameCounts a b → SameCounts b c → SameCounts a c
SameCounts-trans a b c first second = λ name. second name ∙ first name

-- where the name that is told is this one, its count rose
pub Rose-from_RoseAt : (told : Option (List ℕ)) (name : List ℕ) (old new : List ℕ → ℕ) → IfSome told (λ opened. opened ≡ name) → RoseAt told old new → Rose (old name) (new name)
Rose-from_RoseAt None name old new same rose = rose name
Rose-from_RoseAt (Some opened) name old new same rose = let P : List ℕ → Type 0 = λ n. Rose (old n) (new n) in subst P same rose

-- the same of the name that is told, or of every name
pub RoseAt-later : (told : Option (List ℕ)) (a b c : List ℕ → ℕ) → ((name : List ℕ) → a name ≤ b name) → RoseAt told b c → RoseAt told a c
RoseAt-later None a b c up rose = λ name. Rose-later (a name) (b name) (c name) (up name) (rose name)
RoseAt-later (Some name) a b c up rose = Rose-later (a name) (b name) (c name) (up name) rose

-- what two calls append stands one behind the other
pub Appends-trans : (a b c : Option (List ℕ)) (xs ys : List ℕ) → Appends a b xs → Appends b c ys → Appends a c (xs ++ ys)
Appends-trans None b c xs ys first second = second ∙ ap (option_map (λ out. out ++ ys)) first
Appends-trans (Some out) b c xs ys first second = second ∙ ap (option_map (λ out. out ++ ys)) first ∙ ap Some (append_assoc out xs ys)

-- a channel that stays as it was got nothing
pub Appends-same : (a b : Option (List ℕ)) → b ≡ a → Appends a b []
Appends-same None b same = same
Appends-same (Some out) b same = same ∙ ap Some (sym (append-nil out))

-- a channel that got nothing stays as it was
pub Appends-nothing : (a b : Option (List ℕ)) → Appends a b [] → b ≡ a
Appends-nothing None b same = same
Appends-nothing (Some out) b same = same ∙ ap Some (append-nil out)

-- all the bytes are first bytes too
pub AppendsFront-whole : (a b : Option (List ℕ)) (bytes : List ℕ) → Appends a b bytes → AppendsFront a b bytes
AppendsFront-whole a b bytes whole = (length bytes, rw take-length whole)

-- so are none
pub AppendsFront-none : (a b : Option (List ℕ)) (bytes : List ℕ) → b ≡ a → AppendsFront a b bytes
AppendsFront-none a b bytes same = (0, Appends-same a b same)

-- what a call appends of the bytes behind those that stand there already
pub Appends-more : (a b c : Option (List ℕ)) (bytes : List ℕ) (done k : ℕ) → Appends a b (take done bytes) → Appends b c (take k (drop done bytes)) → Appends a c (take (done + k) bytes)
Appends-more a b c bytes done k first second = rw (take-add done k bytes) (Appends-trans a b c (take done bytes) (take k (drop done bytes)) first second)

module _ {S : Type 0} {files : S → Option (List (List ℕ × List ℕ))} {written : S → Channel → Option (List ℕ)} {is_begun : S → Channel → Bool} {read_faults : S → List ℕ → ℕ} {write_faults : S → ℕ} where
  -- no call
  pub OnlyReads-refl : (a : S) → OnlyReads files written is_begun read_faults write_faults a a
  OnlyReads-refl a = record { same_files = refl; same_channels = λ _. refl; same_begun = λ _. refl; read_counts = λ _. omega arith; write_count = refl }

  -- one call after another
  pub OnlyReads-trans : {a b c : S} → OnlyReads files written is_begun read_faults write_faults a b → OnlyReads files written is_begun read_faults write_faults b c → OnlyReads files written is_begun read_faults write_faults a c
  OnlyReads-trans first second = record {
    same_files = second.same_files ∙ first.same_files;
    same_channels = λ to. second.same_channels to ∙ first.same_channels to;
    same_begun = λ to. second.same_begun to ∙ first.same_begun to;
    read_counts = λ name. omega (arith, first.read_counts name, second.read_counts name);
    write_count = second.write_count ∙ first.write_count;
  }

module _ {S : Type 0} {files : S → Option (List (List ℕ × List ℕ))} {is_open : S → Bool} {open_name rest : S → Option (List ℕ)} {written : S → Channel → Option (List ℕ)} {is_begun : S → Channel → Bool} {read_faults : S → List ℕ → ℕ} {write_faults : S → ℕ} {to : Channel} where
  -- no call
  pub OnlyWrites-refl : (a : S) → OnlyWrites files is_open open_name rest written is_begun read_faults write_faults to a a
  OnlyWrites-refl a = record { same_files = refl; same_open = refl; same_name = refl; same_rest = refl; other_channels = λ _ _. refl; others_begun = λ _ _. refl; stays_begun = λ begun. begun; read_counts = λ _. refl; write_count = omega arith }

  -- one call after another
  pub OnlyWrites-trans : {a b c : S} → OnlyWrites files is_open open_name rest written is_begun read_faults write_faults to a b → OnlyWrites files is_open open_name rest written is_begun read_faults write_faults to b c → OnlyWrites files is_open open_name rest written is_begun read_faults write_faults to a c
  OnlyWrites-trans first second = record {
    same_files = second.same_files ∙ first.same_files;
    same_open = second.same_open ∙ first.same_open;
    same_name = second.same_name ∙ first.same_name;
    same_rest = second.same_rest ∙ first.same_rest;
    other_channels = λ other differs. second.other_channels other differs ∙ first.other_channels other differs;
    others_begun = λ other differs. second.others_begun other differs ∙ first.others_begun other differs;
    stays_begun = λ begun. second.stays_begun (first.stays_begun begun);
    read_counts = λ name. second.read_counts name ∙ first.read_counts name;
    write_count = omega (arith, first.write_count, second.write_count);
  }
