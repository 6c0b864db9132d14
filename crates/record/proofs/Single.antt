-- One answer: any two outcomes that a promise allows are equal, for each public function.
-- (`bits_of`, `kind_number`, `carries_mag` and `carries_science` promise an equation: `one` of tables is its law.)
-- Assumes nothing.
use mathlib.Core.Path.{◌≡◌}
use mathlib.Core.Bool.{Bool}
use mathlib.Core.List.{List}
use Prim.Native.Nat.{ℕ}
use Rattle.std.specs.Prelude.{Result, ⊤}
use Rattle.prelude.proofs.Single.{one}
use Rattle.record.specs.Frame.{KindIs}
use Rattle.record.specs.Signal.{LevelIs}
use Rattle.record.specs.Rules.{VerdictIs}
use Rattle.record.specs.Contents.{ContentsIs}
use Rattle.record.specs.Parts.{PartIs}
use Rattle.record.specs.declared.frame.Kind.{Kind}
use Rattle.record.specs.declared.signal.Level.{Level}
use Rattle.record.specs.declared.Record.{Record}
use Rattle.record.specs.declared.refusal.Refusal.{Refusal}

pub one_kind : (p : List ℕ) (k l : Kind) → KindIs p k → KindIs p l → k ≡ l
one_kind p k l x y = one x.is y.is

pub one_level : (bits : ℕ) (k l : Level) → LevelIs bits k → LevelIs bits l → k ≡ l
one_level bits k l x y = one x.is y.is

pub one_verdict : (r : List ℕ) (v w : Result ⊤ Refusal) → VerdictIs r v → VerdictIs r w → v ≡ w
one_verdict r v w x y = one x.is y.is

pub one_contents : (r : List ℕ) (c d : Result Record Refusal) → ContentsIs r c → ContentsIs r d → c ≡ d
one_contents r c d x y = one x.is y.is

-- the bytes of a part, and where they lie: of `packet`, `packet_in`, `mag_bytes` and `science_bytes`
pub one_part : (holds : Bool) (at n : ℕ) (b : List ℕ) (from : ℕ × ℕ) (p q : List ℕ) (x y : ℕ × ℕ)
    → PartIs holds at n b from p x → PartIs holds at n b from q y → (p ≡ q) × (x.0 ≡ y.0) × (x.1 ≡ y.1)
one_part holds at n b from p q x y h k = (one h.bytes k.bytes, one h.block k.block, one h.offset k.offset)
