-- What a verdict says of the record: its size, its contents, its packet.
-- Assumes nothing.
use mathlib.Core.Path.{◌≡◌, refl, sym, ap, ◌∙◌}
use mathlib.Core.Bool.{Bool, true, false, cond}
use mathlib.Core.List.{List, []}
use Prim.Native.Nat.{ℕ, ◌+◌, ◌*◌, ◌≤◌}
use native.Mathlib.Omega.{arith}
use lib.Dec.{eqb}
use lib.ListN.{length, take, drop, length-take, length-drop}
use borrow.Author.Tests.{eqb-true, eq-eqb, ne_eqb, le-leb}
use Rattle.bits.specs.Numbers.{word_in}
use Rattle.record.specs.Layout.{size, packet_size, packet_bytes, bytes_at}
use Rattle.prelude.specs.Rules.{first_broken}
use Rattle.std.specs.Prelude.{Result, Ok, Err, ⊤}
use Rattle.record.specs.Refusals.{numbered}
use Rattle.record.specs.Rules.{rules, broken, size_holds, refused_number, VerdictIs}
use Rattle.record.specs.Contents.{record_of, contents_of, ContentsIs}
use Rattle.record.specs.Parts.{PartIs, PacketIs, PacketAtIs}
use Rattle.record.specs.declared.refusal.Refusal.{Refusal}
use Rattle.record.proofs.Order.{passes_zero, refused_is}

not_two : (t : Bool) (n : ℕ) → cond t n 2 ≡ 0 → t ≡ true
not_two true n e = refl
not_two false n e = absurd (omega arith)

module _ (r : List ℕ) where
  -- a record that passes has its size
  pub sized : broken r ≡ 0 → length r ≡ size
  unfolding rules first_broken broken size_holds
  sized e = eqb-true (length r) size (not_two (eqb (length r) size) _ e)

  -- the packet's own size, and a word in it
  pub packet_word : length r ≡ size → (at n : ℕ) → at + n ≤ packet_size → word_in (packet_bytes r) at n ≡ bytes_at (packet_bytes r) at n
  packet_word h at n k =
      let l : length (packet_bytes r) ≡ packet_size = simp (length-take, length-drop) (omega arith) in
      rw (le-leb (8 * at + 8 * n) (8 * length (packet_bytes r)) (omega arith))

  module _ (v : Result ⊤ Refusal) (told : VerdictIs r v) where
    pub passed : v ≡ Ok tt → broken r ≡ 0
    passed e = passes_zero (broken r) (sym told.is ∙ e)

    pub with_fields : v ≡ Ok tt → ContentsIs r (Ok (record_of r))
    unfolding contents_of refused_number
    with_fields e = let z = passed e in record { is = rw (eq-eqb (broken r) 0 z); number = sym z }

    pub with_packet : (from place : ℕ × ℕ) (p : List ℕ) → v ≡ Ok tt → PacketAtIs r from p place → PacketIs r from p place
    with_packet from place p e is =
        let z = passed e in
        let t = eq-eqb (broken r) 0 z in
        let h = eq-eqb (length r) size (sized z) in
        record { bytes = rw t (rw h at is.bytes); block = is.block; offset = rw t (rw h at is.offset) }

    module _ (n : Refusal) (e : v ≡ Err n) where
      fails : eqb (broken r) 0 ≡ false
      fails = ne_eqb (broken r) 0 (λ z. omega (arith, (refused_is (broken r) n (sym told.is ∙ e)).1))

      pub without_fields : ContentsIs r (Err n)
      unfolding contents_of refused_number
      without_fields =
          let k : numbered (broken r) ≡ n = (refused_is (broken r) n (sym told.is ∙ e)).0 in
          record { is = rw fails (cc); number = sym (ap refused_number e) ∙ told.number }

      pub without_packet : (from : ℕ × ℕ) → PacketIs r from [] from
      without_packet from = record { bytes = rw fails; block = refl; offset = rw fails }

-- a part where the test holds, and none where it fails
module _ (holds : Bool) (b : List ℕ) (at n : ℕ) (from : ℕ × ℕ) where
  pub whole_part : holds ≡ true → (m : ℕ) → m ≡ n → PartIs holds at n b from (take m (drop at b)) (from.0, at + from.1)
  whole_part t m e = record { bytes = rw (t, e); block = refl; offset = rw t }

  pub no_part : holds ≡ false → PartIs holds at n b from [] from
  no_part t = record { bytes = rw t; block = refl; offset = rw t }
