-- What a report and the work beside it have to do with each other, whatever is reported: the open buffer is copied just when something
-- is closed, and is then cleared; what isn't closed is reported as none.
-- Assumes nothing.
use mathlib.Core.Path.{◌≡◌, refl, sym, ◌∙◌}
use mathlib.Core.Bool.{Bool, true, false, cond, true≢false}
use Rattle.buffers.specs.declared.work.Work.{Work}

pub record Closes {R : Type 0} (closed : R → Bool) (none : R) (w : Work) (r : R) : Type 0 where
  pub copied : w.copies ≡ closed r
  pub cleared : closed r ≡ true → w.clears ≡ true
  pub nothing : closed r ≡ false → r ≡ none

module _ {R : Type 0} (closed : R → Bool) (none : R) (shut : closed none ≡ false) (b c : Bool) where
  pub closes_none : Closes closed none (record { copies = false; clears = b; lays = c }) none
  closes_none = record { copied = sym shut; cleared = λ e. absurd (true≢false (sym e ∙ shut)); nothing = λ e. refl }

  -- r is reported where something is open
  pub closes : (r : R) → closed r ≡ true → (t : Bool) → (t ≡ true → b ≡ true)
      → Closes closed none (record { copies = t; clears = b; lays = c }) (cond t r none)
  closes r is true h = record { copied = sym is; cleared = λ e. h refl; nothing = λ e. absurd (true≢false (sym is ∙ e)) }
  closes r is false h = closes_none
