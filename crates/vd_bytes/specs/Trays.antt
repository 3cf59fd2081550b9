-- Files by name, counts of faults, and what a call reads and writes. What a tray doesn't tell is `None`.
use Rattle.std.specs.Prelude.{◌≡◌, ◌≢◌, ◌⊎◌, ℕ, nat_lt, ◌+◌, ◌-◌, ◌^◌, ◌<◌, ◌≤◌, Bool, false, ◌||◌, List, [], ◌∷◌, ◌++◌, length, take, drop, bytes_eq, Option, None, Some, option_map, IsTrue, if◌then◌else◌}
use Rattle.vd_bytes.specs.declared.channels.Channel.{Channel}

-- the bytes of the first file of that name, and none where no file has it
abbrev pub content_of : List (List ℕ × List ℕ) → List ℕ → List ℕ
content_of [] name = []
content_of (file ∷ files) name = if bytes_eq file.0 name then file.1 else content_of files name

-- some file has that name
abbrev pub has_file : List (List ℕ × List ℕ) → List ℕ → Bool
has_file [] name = false
has_file (file ∷ files) name = bytes_eq file.0 name || has_file files name

-- a count is higher than before, or stands at the last value of its type
abbrev pub Rose : ℕ → ℕ → Type 0
Rose old new = (old < new) ⊎ (new ≡ 2 ^ 64 - 1)

-- a count after one more fault; it stays where it stands at the last value of its type
abbrev pub after_fault : ℕ → ℕ
after_fault count = if nat_lt count (2 ^ 64 - 1) then count + 1 else count

-- the count of the name rose, or that of every name where the name isn't told
abbrev pub RoseAt : Option (List ℕ) → (List ℕ → ℕ) → (List ℕ → ℕ) → Type 0
RoseAt None old new = (name : List ℕ) → Rose (old name) (new name)
RoseAt (Some name) old new = Rose (old name) (new name)

-- n bytes came off the front of what was left, into the first places of a buffer; the places behind them stay
pub record TakesFront (n : ℕ) (left old new : List ℕ) : Type 0 where
  pub within : n ≤ length left
  pub buffer : new ≡ take n left ++ drop n old

-- a channel got exactly these bytes more; it tells its bytes as before, or tells none as before
abbrev pub Appends : Option (List ℕ) → Option (List ℕ) → List ℕ → Type 0
Appends old new bytes = new ≡ option_map (λ out. out ++ bytes) old

-- a channel got some first bytes of these more, perhaps none, and nothing else
abbrev pub AppendsFront : Option (List ℕ) → Option (List ℕ) → List ℕ → Type 0
AppendsFront old new bytes = (k : ℕ) × Appends old new (take k bytes)

-- the count of every name stayed
abbrev pub SameCounts : (List ℕ → ℕ) → (List ℕ → ℕ) → Type 0
SameCounts old new = (name : List ℕ) → new name ≡ old name

-- Calls opened and read, and did nothing else: the files, all that is written and what is begun stay, and no count of
-- faults fell. The first five arguments are the tray's meanings of these names.
pub record OnlyReads {S : Type 0} (files : S → Option (List (List ℕ × List ℕ))) (written : S → Channel → Option (List ℕ)) (is_begun : S → Channel → Bool) (read_faults : S → List ℕ → ℕ) (write_faults : S → ℕ) (old new : S) : Type 0 where
  pub same_files : files new ≡ files old
  pub same_channels : (to : Channel) → written new to ≡ written old to
  pub same_begun : (to : Channel) → is_begun new to ≡ is_begun old to
  pub read_counts : (name : List ℕ) → read_faults old name ≤ read_faults new name
  pub write_count : write_faults new ≡ write_faults old

-- Calls wrote on one channel, and did nothing else: the files, what is open, the other channels and the counts of
-- faults in reading stay, and the count of faults in writing didn't fall. Where that channel was begun, it still is.
-- The first eight arguments are the tray's meanings of these names.
pub record OnlyWrites {S : Type 0} (files : S → Option (List (List ℕ × List ℕ))) (is_open : S → Bool) (open_name rest : S → Option (List ℕ)) (written : S → Channel → Option (List ℕ)) (is_begun : S → Channel → Bool) (read_faults : S → List ℕ → ℕ) (write_faults : S → ℕ) (to : Channel) (old new : S) : Type 0 where
  pub same_files : files new ≡ files old
  pub same_open : is_open new ≡ is_open old
  pub same_name : open_name new ≡ open_name old
  pub same_rest : rest new ≡ rest old
  pub other_channels : (other : Channel) → other ≢ to → written new other ≡ written old other
  pub others_begun : (other : Channel) → other ≢ to → is_begun new other ≡ is_begun old other
  pub stays_begun : IsTrue (is_begun old to) → IsTrue (is_begun new to)
  pub read_counts : SameCounts (read_faults old) (read_faults new)
  pub write_count : write_faults old ≤ write_faults new
