-- What was sent, and what became of it (demand 3).
-- Assumes nothing.
use Rattle.std.specs.Prelude.{◌≡◌, Bool, true, cond, List, [], ◌∷◌, ℕ, ◌+◌, ◌-◌, ◌%◌, ◌<◌, ◌≤◌}
use Rattle.prelude.specs.Every.{Every}
use Rattle.bits.specs.Twelve.{Bytes}
use Rattle.record.specs.Rules.{broken, refused_number}
use Rattle.record.specs.Contents.{record_of}
use Rattle.clock.specs.Clock.{circle, full_counts, own_of, farthest}
use Rattle.carriage.specs.Carriage.{types}
use Rattle.record.specs.Frame.{is_real_time, carries_mag}
use Rattle.reader.specs.Buffers.{Buffers, sized}
use Rattle.gathering.specs.Lists.{Neighbours, those}
use Rattle.stream.specs.Running.{Trace, step, finish}

abbrev pub real_time : List ℕ → Bool
real_time r = is_real_time (record_of r).kind

-- the count that a record has of itself, below 2^24: from here on a kept record has a full count
unfoldable pub sent_count : List ℕ → ℕ
sent_count r = (record_of r).count

-- "records that pass rules 2 to 11: counts rising by one", which the record has modulo 2^24 (02, request 1), "real-time types 0 to 35
-- in order round and round, defined other types anywhere between": the bytes r, sent at count c, the next real-time record having
-- number k and so type k mod 36. Rule 11 lets only defined types pass
pub record SentAt (c k : ℕ) (r : List ℕ) : Type 0 where
  pub bytes : Bytes r
  pub passes : broken r ≡ 0
  pub counted : sent_count r ≡ own_of c
  pub typed : real_time r ≡ true → (record_of r).frame_type ≡ k % types

-- the number of the next real-time record, once r was sent
abbrev pub next_real : ℕ → List ℕ → ℕ
next_real k r = cond (real_time r) (k + 1) k

-- "Remove any, or spoil them so that each is refused": one that is spoiled is removed, with an extra in its place
pub data Fate : Type 0 where
  -- sent, and fed
  kept : List ℕ → Fate
  -- sent, and not fed
  removed : List ℕ → Fate
  -- fed, and never sent
  extra : List ℕ → Fate

-- what was sent, from count c and real-time number k on: the first real-time type is any
unfoldable pub Sends : ℕ → ℕ → List Fate → Type 0
Sends c k [] = Unit {0}
Sends c k (kept r ∷ xs) = SentAt c k r × Sends (c + 1) (next_real k r) xs
Sends c k (removed r ∷ xs) = SentAt c k r × Sends (c + 1) (next_real k r) xs
Sends c k (extra x ∷ xs) = Sends c k xs

-- how many were sent; they go "without wrapping" where from count c on they stay below 2^24
unfoldable pub sent_many : List Fate → ℕ
sent_many [] = 0
sent_many (kept r ∷ xs) = sent_many xs + 1
sent_many (removed r ∷ xs) = sent_many xs + 1
sent_many (extra x ∷ xs) = sent_many xs

abbrev pub Unwrapped : ℕ → List Fate → Type 0
Unwrapped c xs = c + sent_many xs ≤ circle

-- "feed what remains in order"
unfoldable pub fed : List Fate → List (List ℕ)
fed [] = []
fed (kept r ∷ xs) = r ∷ fed xs
fed (removed r ∷ xs) = fed xs
fed (extra x ∷ xs) = x ∷ fed xs

-- what was never sent is refused when it is fed
unfoldable pub ExtraRefused : List Fate → Trace → Type 0
ExtraRefused [] t = Unit {0}
ExtraRefused (kept r ∷ xs) (step c t) = ExtraRefused xs t
ExtraRefused (kept r ∷ xs) (finish e) = ⊥
ExtraRefused (removed r ∷ xs) t = ExtraRefused xs t
ExtraRefused (extra x ∷ xs) (step c t) = (0 < refused_number c.result.answer) × ExtraRefused xs t
ExtraRefused (extra x ∷ xs) (finish e) = ⊥

-- an extra is refused, whatever it meets, where it fails one of rules 2 to 11 (`spoils` in proofs/Spoiling.antt)
unfoldable pub ExtraBroken : List Fate → Type 0
ExtraBroken [] = Unit {0}
ExtraBroken (kept r ∷ xs) = ExtraBroken xs
ExtraBroken (removed r ∷ xs) = ExtraBroken xs
ExtraBroken (extra x ∷ xs) = (0 < broken x) × ExtraBroken xs

-- what was kept is accepted when it is fed, and finish is done
unfoldable pub KeptAccepted : List Fate → Trace → Type 0
KeptAccepted [] (finish e) = refused_number e.result.ending ≡ 0
KeptAccepted [] (step c t) = ⊥
KeptAccepted (kept r ∷ xs) (step c t) = (refused_number c.result.answer ≡ 0) × KeptAccepted xs t
KeptAccepted (kept r ∷ xs) (finish e) = ⊥
KeptAccepted (removed r ∷ xs) t = KeptAccepted xs t
KeptAccepted (extra x ∷ xs) (step c t) = KeptAccepted xs t
KeptAccepted (extra x ∷ xs) (finish e) = ⊥

-- A kept record and its place: its full count, its real-time number (of one that isn't real-time, that of the next real-time one), and how
-- many sent since the first kept one were not kept. But for its turn the full count is the record's own (`own_counts` in
-- proofs/Leading.antt).
pub record Kept : Type 0 where
  pub bytes : List ℕ
  pub count : ℕ
  pub serial : ℕ
  pub lost : ℕ

-- the kept records in order, with full count c and real-time number k next and l lost so far
unfoldable pub kept_of : ℕ → ℕ → ℕ → List Fate → List Kept
kept_of c k l [] = []
kept_of c k l (kept r ∷ xs) = record { bytes = r; count = c; serial = k; lost = l } ∷ kept_of (c + 1) (next_real k r) l xs
kept_of c k l (removed r ∷ xs) = kept_of (c + 1) (next_real k r) (l + 1) xs
kept_of c k l (extra x ∷ xs) = kept_of c k l xs

-- the real-time ones of them, and those with MAG
abbrev pub is_real : Kept → Bool
is_real x = real_time x.bytes

abbrev pub has_mag : Kept → Bool
has_mag x = carries_mag (record_of x.bytes).kind

abbrev pub reals : List Kept → List Kept
reals xs = those is_real xs

abbrev pub magged : List Kept → List Kept
magged xs = those has_mag xs

-- the records left: "the first accepted record has turn 0", so turns are counted from the first kept one, whatever was sent before
unfoldable pub unspoiled : ℕ → ℕ → List Fate → List Kept
unspoiled c k [] = []
unspoiled c k (kept r ∷ xs) = kept_of (own_of c) k 0 (kept r ∷ xs)
unspoiled c k (removed r ∷ xs) = unspoiled (c + 1) (next_real k r) xs
unspoiled c k (extra x ∷ xs) = unspoiled c k xs

-- "the real-time frames left unspoiled", and the records with MAG
abbrev pub real_unspoiled : ℕ → ℕ → List Fate → List Kept
real_unspoiled c k xs = reals (unspoiled c k xs)

abbrev pub mag_unspoiled : ℕ → ℕ → List Fate → List Kept
mag_unspoiled c k xs = magged (unspoiled c k xs)

-- "fewer than 8,388,607 counts in a row go unaccepted" (02, request 1): those between two neighbouring records left
abbrev pub Near : List Kept → Type 0
Near ks = (p f : Kept) → Neighbours p f ks → f.count - (p.count + 1) < farthest

-- "the stream ends within turn 4,095": the last record left does, and so all do, since counts rise
abbrev pub WithinTurns : List Kept → Type 0
WithinTurns ks = Every (λ f. f.count < full_counts) ks

-- a sent stream with its fates, as 02 bounds it, buffers "of the right sizes" with any content, and a trace in which what was never
-- sent is refused
pub record Stream (c k : ℕ) (xs : List Fate) (b : Buffers) (t : Trace) : Type 0 where
  pub sent : Sends c k xs
  pub near : Near (unspoiled c k xs)
  pub within : WithinTurns (unspoiled c k xs)
  pub right : sized b ≡ true
  pub refused : ExtraRefused xs t
