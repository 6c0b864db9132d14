-- A part of a format, described once: its size in bytes, the values it can hold, the bytes written for a value, and the value that
-- bytes read as, if any. Its law is `PartLaw`; `Determined` follows from it.
-- Assumes nothing.
use Rattle.std.specs.Prelude.{List, ◌≡◌, ℕ, length, take, drop}
use Rattle.std.proofs.Math.Option.{Option, some}
use Rattle.bits.specs.Twelve.{Bytes}

pub record Part (A : Type 0) : Type 1 where
  pub size : ℕ
  pub Holds : A → Type 0
  pub write : A → List ℕ
  pub read : List ℕ → Option A

-- the value that stands at place `at` of bytes
abbrev pub read_at : {A : Type 0} → Part A → List ℕ → ℕ → Option A
read_at p b at = p.read (take p.size (drop at b))

-- what is written of a value it can hold has the part's size and consists of bytes, and reads back as that value; what bytes of
-- that size read as, if anything, is a value it can hold, and they are what is written of it
pub record PartLaw {A : Type 0} (p : Part A) : Type 0 where
  pub sized : (v : A) → p.Holds v → length (p.write v) ≡ p.size
  pub bytes : (v : A) → p.Holds v → Bytes (p.write v)
  pub back : (v : A) → p.Holds v → p.read (p.write v) ≡ some v
  pub held : (b : List ℕ) (v : A) → length b ≡ p.size → Bytes b → p.read b ≡ some v → p.Holds v
  pub forth : (b : List ℕ) (v : A) → length b ≡ p.size → Bytes b → p.read b ≡ some v → p.write v ≡ b

-- a value is determined by its bytes, and bytes by their value; proved as `determined` in proofs/Laws.antt
pub record Determined {A : Type 0} (p : Part A) : Type 0 where
  pub value : (v w : A) → p.Holds v → p.Holds w → p.write v ≡ p.write w → v ≡ w
  pub bytes :
      (v : A) (b c : List ℕ)
      → length b ≡ p.size
      → length c ≡ p.size
      → Bytes b
      → Bytes c
      → p.read b ≡ some v
      → p.read c ≡ some v
      → b ≡ c
