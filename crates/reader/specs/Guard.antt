-- The old reader's guard (01, "Numbers a refused record gets"), rule 13: "a cell of this type is already held in the accumulation
-- it joins (old guard)". It can't hit (02, request 11): no code runs it, it isn't among the reader's rules, and no answer has its
-- number.
-- Assumes nothing.
use Rattle.std.specs.Prelude.{ℕ, ◌^◌, ◌<◌, ◌↔◌, Bool, true, false, not, ◌&&◌, List, [], ◌∷◌, ◌++◌, ◌≡◌}
use Rattle.prelude.specs.Marks.{bit_set}
use Rattle.prelude.specs.Rules.{Rule, rule, first_broken, holds_in}
use Rattle.prelude.specs.Upto.{somewhere}
use Rattle.record.specs.Frame.{carries_science}
use Rattle.record.specs.Layout.{packet_bytes}
use Rattle.carriage.specs.Carriage.{types, cells, row_of, runs_of, some_has}
use Rattle.accumulation.specs.Accumulation.{joins}
use Rattle.accumulation.specs.declared.Accumulation.{Accumulation}
use Rattle.state.specs.Soundness.{sound}
use Rattle.state.specs.Deciding.{Input, fields_of, count_at, reader_rules, decided_as}
use Rattle.record.specs.Rules.{refused_number}
use Rattle.state.specs.declared.State.{State}
use Rattle.state.specs.declared.deciding.Decided.{Decided}
use Rattle.state.specs.declared.deciding.Stepped.{Stepped}
use Rattle.reader.specs.Buffers.{Buffers, worked}
use Rattle.reader.specs.Steps.{input, StepIs}

-- type t carries cell p: a run of its row in the table has it (000, section 2.3)
abbrev pub carries_cell : ℕ → ℕ → Bool
carries_cell t p = some_has (runs_of (row_of t)) p

-- cell p is held: a type whose mark is set carries it
abbrev pub cell_held : ℕ → ℕ → Bool
cell_held held p = somewhere (λ t. bit_set held t && carries_cell t p) types

-- "a cell of this type is already held"
unfoldable pub already_held : ℕ → ℕ → Bool
already_held held u = somewhere (λ p. carries_cell u p && cell_held held p) cells

-- the type of the record, and whether it joins the open accumulation
abbrev pub input_type : Input → ℕ
input_type i = (fields_of i).frame_type

abbrev pub joins_open : Input → Bool
joins_open i = joins i.state.accumulation (input_type i) (count_at i)

-- 13: it has science, and "a cell of this type is already held in the accumulation it joins"
unfoldable pub guard_holds : Input → Bool
guard_holds i = not (carries_science (fields_of i).kind && (joins_open i && already_held i.state.accumulation.held (input_type i)))

-- the rules with the guard behind them, the number of the first that fails, or 0, and the decision by it
unfoldable pub guarded_rules : List (Rule Input)
guarded_rules = reader_rules ++ (rule 13 guard_holds ∷ [])

abbrev pub guarded_number : Input → ℕ
guarded_number i = first_broken guarded_rules i

abbrev pub guarded_of : Input → Decided
guarded_of i = decided_as i (guarded_number i)

-- a step with the guard, as `StepIs` is one without it
pub record GuardedStepIs (s : State) (b : Buffers) (r : List ℕ) (x : Stepped) (b' : Buffers) : Type 0 where
  pub result : x ≡ (guarded_of (input s b r)).stepped
  pub number : refused_number x.answer ≡ guarded_number (input s b r)
  pub left : b' ≡ worked (guarded_of (input s b r)).works (packet_bytes r) b

-- The laws, proved in proofs/Guard.antt.

-- "the carriage table has each cell once": so a cell of type u is held exactly where the mark of u is set
abbrev pub CellsByMark : Type 0
CellsByMark = (held u : ℕ) → u < types → already_held held u ≡ bit_set held u

-- the guard comes to a test of the type's mark, on every input
abbrev pub ByMark : Type 0
ByMark = (i : Input) → guard_holds i ≡ not (carries_science (fields_of i).kind && (joins_open i && bit_set i.state.accumulation.held (input_type i)))

-- "from a state that passes rule 1 rule 13 can't hit": with any buffers and any record
abbrev pub CantHit : Type 0
CantHit = (s : State) → sound s ≡ true → (b : Buffers) (r : List ℕ) → guard_holds (input s b r) ≡ true

-- from one that breaks the list it can: type 6 held, 5 the last, and type 6 comes at the next count
abbrev pub unsound : Accumulation
unsound = record { first = 100; held = 2 ^ 6; last_type = 5; last_count = 100; others = 0 }

abbrev pub CanHit : Type 0
CanHit =
    (i : Input) → i.state.accumulation ≡ unsound → carries_science (fields_of i).kind ≡ true → input_type i ≡ 6 → count_at i ≡ 101
    → (sound i.state ≡ false) × (guard_holds i ≡ false)

-- the guard is rule 13 of the rules with it
abbrev pub Is13 : Type 0
Is13 = (i : Input) → holds_in guarded_rules 13 i ≡ guard_holds i

-- "No other answer changes": with the guard and without it a step has the same answer, state and buffers, on every input
abbrev pub SameStep : Type 0
SameStep = (s : State) (b : Buffers) (r : List ℕ) (x : Stepped) (b' : Buffers) → GuardedStepIs s b r x b' ↔ StepIs s b r x b'

-- no step answers 13
abbrev pub No13 : Type 0
No13 = (s : State) (b : Buffers) (r : List ℕ) (x : Stepped) (b' : Buffers) → StepIs s b r x b' → refused_number x.answer ≡ 13 → ⊥
