-- One outcome: any two that a promise allows are equal, for each public function.
-- (`is_whole` promises an equation: `one` of tables is its law.)
-- Assumes nothing.
use mathlib.Core.Path.{◌≡◌}
use mathlib.Core.List.{List}
use Prim.Native.Nat.{ℕ}
use Rattle.prelude.proofs.Single.{one}
use Rattle.reader.specs.Buffers.{Buffers}
use Rattle.feed.specs.Cutting.{CutIs, RestIs}
use Rattle.feed.specs.Feeding.{Desk, DeskIs}
use Rattle.feed.specs.declared.feeding.Fed.{Fed}

-- the bytes cut off, and where they lie
pub one_cut : (bytes : List ℕ) (from : ℕ × ℕ) (at : ℕ) (p q : List ℕ) (a b : ℕ × ℕ)
    → CutIs bytes from at p a → CutIs bytes from at q b → (p ≡ q) × (a.0 ≡ b.0) × (a.1 ≡ b.1)
one_cut bytes from at p q a b x y = (one x.content y.content, one x.block y.block, one x.offset y.offset)

pub one_rest : (bytes : List ℕ) (from to : ℕ) (p q : List ℕ) (m n : ℕ)
    → RestIs bytes from to p m → RestIs bytes from to q n → (p ≡ q) × (m ≡ n)
one_rest bytes from to p q m n x y = (one x.content y.content, one x.number y.number)

-- `feed_one` and `feed`, each of which promises what one desk holds
pub one_feed : (d : Desk) (x y : Fed) {b c : Buffers} → DeskIs d x b → DeskIs d y c → (x ≡ y) × (b ≡ c)
one_feed d x y p q = (one p.result q.result, one p.left q.left)
