-- Rules 2 to 11, "checked in this order; the first that fails is given" (01, "Numbers a refused record gets").
-- Assumes nothing.
use Rattle.std.specs.Prelude.{ℕ, ◌↔◌, Bool, true, false, not, cond, ◌&&◌, ◌||◌, List, [], ◌∷◌, ◌≡◌, eqb, leb, length, Result, Ok, Err, ⊤}
use Rattle.prelude.specs.Rules.{Rule, rule, first_broken, holds_in, before_hold, all_hold}
use Rattle.record.specs.Layout.{size, sync, version, spacecraft, rate, spare, packet_bytes, frame_code, second_code}
use Rattle.record.specs.Layout.{day, millisecond, status_spare, first_flag, second_flag, third_flag}
use Rattle.record.specs.Frame.{undefined_codes}
use Rattle.record.specs.Refusals.{refusal_number, numbered}
use Rattle.record.specs.declared.refusal.Refusal.{Refusal}

-- Each test is true where the rule holds. 01's row says when it fails.

-- 2: "length isn't 472"
unfoldable pub size_holds : List ℕ → Bool
size_holds r = eqb (length r) size

-- 3: "sync differs" from 1A CF FC 1D
unfoldable pub sync_holds : List ℕ → Bool
sync_holds r = eqb (sync r) 0x1ACFFC1D

-- 4: "version or spacecraft differs" from 01 and 10011011
unfoldable pub spacecraft_holds : List ℕ → Bool
spacecraft_holds r = eqb (version r) 1 && eqb (spacecraft r) 155

-- 5: "rate differs" from 000101
unfoldable pub rate_holds : List ℕ → Bool
rate_holds r = eqb (rate r) 5

-- 6: "byte 9 isn't 0"
unfoldable pub spare_holds : List ℕ → Bool
spare_holds r = eqb (spare r) 0

-- 7: "day outside 1-366"
unfoldable pub day_holds : List ℕ → Bool
day_holds r = leb 1 (day r) && leb (day r) 366

-- 8: "millisecond above 86,399,999"
unfoldable pub millisecond_holds : List ℕ → Bool
millisecond_holds r = leb (millisecond r) 86399999

-- 9: "a spare status bit is set"
unfoldable pub status_spare_holds : List ℕ → Bool
status_spare_holds r = eqb (status_spare r) 0

-- 10: "a flag is 00 or 11"
abbrev pub flag_holds : ℕ → Bool
flag_holds f = eqb f 1 || eqb f 2

unfoldable pub flags_hold : List ℕ → Bool
flags_hold r = flag_holds (first_flag r) && (flag_holds (second_flag r) && flag_holds (third_flag r))

-- 11: "type is 58-61"; of a full burst "also for a second type other than 36 to 57 and 62" (02, request 2)
unfoldable pub type_holds : List ℕ → Bool
type_holds r = not (undefined_codes (frame_code (packet_bytes r)) (second_code (packet_bytes r)))

-- in 01's order
unfoldable pub rules : List (Rule (List ℕ))
rules =
    rule 2 size_holds
    ∷ rule 3 sync_holds
    ∷ rule 4 spacecraft_holds
    ∷ rule 5 rate_holds
    ∷ rule 6 spare_holds
    ∷ rule 7 day_holds
    ∷ rule 8 millisecond_holds
    ∷ rule 9 status_spare_holds
    ∷ rule 10 flags_hold
    ∷ rule 11 type_holds
    ∷ []

-- 01's number of a record that fails one of rules 2 to 11, or 0
unfoldable pub broken : List ℕ → ℕ
broken r = first_broken rules r

-- refused with a number, or not: with 0
unfoldable pub verdict_of : ℕ → Result ⊤ Refusal
verdict_of n = cond (eqb n 0) (Ok tt) (Err (numbered n))

-- 01's number of a refusal; 0 of what isn't refused, whatever else it answers
unfoldable pub refused_number : {A : Type 0} → Result A Refusal → ℕ
refused_number (Ok _) = 0
refused_number (Err e) = refusal_number e

-- the verdict on a record; and its number, which follows, since 01's numbers are what a promise goes by
pub record VerdictIs (r : List ℕ) (v : Result ⊤ Refusal) : Type 0 where
  pub is : v ≡ verdict_of (broken r)
  pub number : refused_number v ≡ broken r

-- refused with n: with the row of the table that has it
abbrev pub RefusedWith : List ℕ → ℕ → Type 0
RefusedWith r n = (verdict_of (broken r) ≡ Err (numbered n)) × (refusal_number (numbered n) ≡ n)

-- refused with n exactly when rule n fails and those before it in the list hold; passes exactly when all hold. Proved for every
-- list of bytes: `exactly` in proofs/Order.antt
pub record Exactly (r : List ℕ) : Type 0 where
  pub refused : (n : ℕ) → RefusedWith r n ↔ ((holds_in rules n r ≡ false) × (before_hold rules n r ≡ true))
  pub passes : (verdict_of (broken r) ≡ Ok tt) ↔ (all_hold rules r ≡ true)
