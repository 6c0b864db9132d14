-- The kind of a frame (000, section 2.1; 01, "The packet"; 02, request 2), and what it carries.
-- Assumes nothing.
use Rattle.std.specs.Prelude.{ℕ, Bool, true, false, cond, not, ◌&&◌, ◌||◌, List, ◌≡◌, eqb, leb, length}
use Rattle.prelude.specs.Marks.{bit_set}
use Rattle.record.specs.Layout.{packet_size, type_in, frame_code, second_code}
use Rattle.record.specs.declared.frame.Kind.{Kind}
use Rattle.record.specs.declared.frame.Kind.TheVariants.{RealTime, HalfBurst, FullBurst, Other, Undefined}

-- the types of burst packets: 36 to 57, and 62 for fill; "58-61 are undefined" (000, section 2.4)
unfoldable pub is_burst : ℕ → Bool
is_burst t = (leb 36 t && leb t 57) || eqb t 62

-- "The MSB is set to distinguish these packets from Half Burst frames" (000, section 2.1.3)
abbrev pub top_set : ℕ → Bool
top_set code = bit_set code 7

-- by the Frame Code and byte 85, which is a type byte in a full burst alone. The top bits of any other type, 63 too, say nothing of
-- the kind
unfoldable pub kind_of_codes : ℕ → ℕ → Kind
kind_of_codes code second =
    cond (leb (type_in code) 35) (RealTime (type_in code))
    (cond (is_burst (type_in code)) (cond (top_set code) (cond (is_burst (type_in second)) FullBurst Undefined) HalfBurst)
    (cond (eqb (type_in code) 63) Other Undefined))

-- the kind of a packet's frame; bytes that are no packet have no frame, and are undefined too
unfoldable pub kind_of : List ℕ → Kind
kind_of p = cond (eqb (length p) packet_size) (kind_of_codes (frame_code p) (second_code p)) Undefined

-- "type is 58-61" (01), or a full burst with "a second type other than 36 to 57 and 62" (02): what rule 11 refuses
unfoldable pub undefined_codes : ℕ → ℕ → Bool
undefined_codes code second =
    (leb 58 (type_in code) && leb (type_in code) 61) || (is_burst (type_in code) && (top_set code && not (is_burst (type_in second))))

-- the codes of each kind, in the papers' numbers
unfoldable pub codes_of : Kind → ℕ → ℕ → Bool
codes_of (RealTime t) code second = eqb (type_in code) t && leb t 35
codes_of HalfBurst code second = is_burst (type_in code) && not (top_set code)
codes_of FullBurst code second = is_burst (type_in code) && (top_set code && is_burst (type_in second))
codes_of Other code second = eqb (type_in code) 63
codes_of Undefined code second = undefined_codes code second

-- one kind for a packet, and its codes are among the kind's
pub record KindIs (p : List ℕ) (k : Kind) : Type 0 where
  pub is : k ≡ kind_of p
  pub typed : length p ≡ packet_size → codes_of k (frame_code p) (second_code p) ≡ true

-- a kind as one number: a real-time frame's type; LPMAG_OTHER, 64; LPMAG_UNDEFINED, 65; LPMAG_HALF_BURST, 66; LPMAG_FULL_BURST, 67
unfoldable pub kind_number : Kind → ℕ
kind_number (RealTime t) = t
kind_number HalfBurst = 66
kind_number FullBurst = 67
kind_number Other = 64
kind_number Undefined = 65

unfoldable pub is_real_time : Kind → Bool
is_real_time (RealTime t) = true
is_real_time HalfBurst = false
is_real_time FullBurst = false
is_real_time Other = false
is_real_time Undefined = false

-- "These frames contain real-time MAG data, plus burst playback data", and "These frames contain no real-time data" (000, sections
-- 2.1.2, 2.1.3). A memory dump has MAG too (2.1.4), which isn't asked for
unfoldable pub carries_mag : Kind → Bool
carries_mag (RealTime t) = true
carries_mag HalfBurst = true
carries_mag FullBurst = false
carries_mag Other = false
carries_mag Undefined = false

-- science of an accumulation
unfoldable pub carries_science : Kind → Bool
carries_science (RealTime t) = true
carries_science HalfBurst = false
carries_science FullBurst = false
carries_science Other = false
carries_science Undefined = false

-- burst packets: one, whose type byte is the Frame Code, or two
unfoldable pub carries_burst : Kind → Bool
carries_burst (RealTime t) = false
carries_burst HalfBurst = true
carries_burst FullBurst = true
carries_burst Other = false
carries_burst Undefined = false

unfoldable pub carries_two : Kind → Bool
carries_two (RealTime t) = false
carries_two HalfBurst = false
carries_two FullBurst = true
carries_two Other = false
carries_two Undefined = false

-- the type bytes of the first and of the second burst packet; 0, which is no burst packet's, where there is none
abbrev pub first_burst : Kind → ℕ → ℕ
first_burst k code = cond (carries_burst k) code 0

abbrev pub second_burst : Kind → ℕ → ℕ
second_burst k second = cond (carries_two k) second 0
