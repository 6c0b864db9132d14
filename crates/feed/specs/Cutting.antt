-- How the input is cut into records (01, "What we read": "records of 472 bytes"; "The listing, whole": "A short tail of the input
-- is one record").
-- Assumes nothing.
use Rattle.std.specs.Prelude.{ℕ, ◌+◌, ◌-◌, min, Bool, cond, ◌&&◌, List, ◌≡◌, leb, length, take, drop}
use Rattle.buffers.specs.Laying.{patch, has_room}
use Rattle.record.specs.Layout.{size}

-- the record that begins at place `at`: 472 bytes, or what is left
abbrev pub record_at : List ℕ → ℕ → List ℕ
record_at bytes at = take size (drop at bytes)

-- a whole record begins there
unfoldable pub is_whole : ℕ → ℕ → Bool
is_whole n at = has_room n at size

-- the part handed back: its bytes, and that they are the caller's own. A slice lies in a block of memory, the place's `.0`, from
-- an offset on, its `.1`
pub record CutIs (bytes : List ℕ) (from : ℕ × ℕ) (at : ℕ) (r : List ℕ) (place : ℕ × ℕ) : Type 0 where
  pub content : r ≡ record_at bytes at
  pub block : place.0 ≡ from.0
  pub offset : place.1 ≡ min at (length bytes) + from.1

-- places of the bytes, in order
abbrev pub is_in_order : List ℕ → ℕ → ℕ → Bool
is_in_order bytes from to = leb to (length bytes) && leb from to

-- what stood between them, at the front; and how many bytes that is
pub record RestIs (bytes : List ℕ) (from to : ℕ) (bytes' : List ℕ) (n : ℕ) : Type 0 where
  pub content : bytes' ≡ cond (is_in_order bytes from to) (patch bytes 0 (take (to - from) (drop from bytes))) bytes
  pub number : n ≡ cond (is_in_order bytes from to) (to - from) 0
