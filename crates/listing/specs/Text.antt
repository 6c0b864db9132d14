-- Texts as bytes, and a text put into a buffer.
-- Assumes nothing.
use Rattle.std.specs.Prelude.{ℕ, zero, suc, ◌+◌, cond, List, [], ◌∷◌, ◌≡◌, length}
use Prim.Native.Char.{code}
use Prim.Native.String.{String, len, char_at, slice}
use Rattle.buffers.specs.Laying.{patch, has_room}

-- the codes of the first n characters
abbrev pub codes : ℕ → String → List ℕ
codes zero s = []
codes (suc n) s = code (char_at s 0) ∷ codes n (slice s 1 (len s))

-- a text of ASCII characters, a byte each
abbrev pub ascii : String → List ℕ
ascii s = codes (len s) s

abbrev pub space : ℕ
space = 32

-- a text put from place `at` on, where so many bytes are free there: what the buffer is then, and where the text ends; else the buffer
-- is as it was and the place is where it was to begin
pub record Written (room : ℕ) (text d : List ℕ) (at : ℕ) (d' : List ℕ) (end : ℕ) : Type 0 where
  pub content : d' ≡ cond (has_room (length d) at room) (patch d at text) d
  pub place : end ≡ cond (has_room (length d) at room) (at + length text) at
