-- A record by the rules: refused, or admitted with what is then asked before it is accepted.
-- Assumes nothing.
use Rattle.std.specs.Prelude.{ℕ, ◌<◌, true, cond, ◌≡◌, eqb, Result, Ok, Err}
use Rattle.record.specs.Refusals.{numbered}
use Rattle.record.specs.declared.Record.{Record}
use Rattle.record.specs.declared.refusal.Refusal.{Refusal}
use Rattle.state.specs.Closed.{nothing_closed, no_works}
use Rattle.state.specs.Soundness.{sound}
use Rattle.state.specs.Deciding.{Input, fields_of, count_at, number_of}
use Rattle.state.specs.declared.deciding.Admitted.{Admitted}
use Rattle.state.specs.declared.State.{State}
use Rattle.state.specs.declared.deciding.Decided.{Decided}

-- a refusal, by its row of 01's table
abbrev pub refused_with : State → Refusal → Decided
refused_with s e = record { stepped = record { answer = Err e; state = s; closed = nothing_closed }; works = no_works }

-- the fields and the full count of a record that no rule refuses; else the row of the first rule that fails
abbrev pub admitted_as : Input → ℕ → Result Admitted Refusal
admitted_as i n = cond (eqb n 0) (Ok (record { fields = fields_of i; count = count_at i })) (Err (numbered n))

unfoldable pub admitted_of : Input → Result Admitted Refusal
admitted_of i = admitted_as i (number_of i)

-- a record at count d may be accepted: the state passes the list, the count is later, the type is one of six bits
pub record Ready (s : State) (f : Record) (d : ℕ) : Type 0 where
  pub passes : sound s ≡ true
  pub above : s.clock.any ≡ true → s.clock.last < d
  pub kind : f.frame_type < 64
