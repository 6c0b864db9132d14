-- What is laid: its words follow.
-- Assumes nothing.
use mathlib.Core.Path.{◌≡◌}
use mathlib.Core.Bool.{cond}
use mathlib.Core.List.{List}
use Prim.Native.Nat.{ℕ}
use Rattle.std.specs.Prelude.{Result, Ok, Err}
use Rattle.prelude.proofs.Conds.{cases}
use Rattle.cells.specs.Laying.{laid_frame, layable, placed_said, FrameLaid}
use Rattle.cells.specs.declared.laying.NoSuchPlace.{NoSuchPlace}

pub frame_is : (code : ℕ) (sc c : List ℕ) (r : Result Unit NoSuchPlace) (c' : List ℕ) → r ≡ cond (layable code sc c) (Ok tt) (Err (record {}))
    → c' ≡ cond (layable code sc c) (laid_frame code sc c) c → FrameLaid code sc c r c'
unfolding placed_said
frame_is code sc c r c' e f =
    cases (layable code sc c) (λ t. record { is = e; words = rw (e, t); room = f }) (λ t. record { is = e; words = rw (e, t); room = f })
