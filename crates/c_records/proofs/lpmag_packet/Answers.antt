-- `c_records::lpmag_packet`: the packet of a record that passes has the room's size, so all of it is copied.
-- Assumes nothing.
use Rattle.std.proofs.Common.{◌≡◌, sym, ap, ◌∙◌, length, rules}
use borrow.Author.Tests.{eq-eqb}
use Rattle.record.proofs.Told.{packet_told}
use Rattle.record.specs.Layout.{packet_size, packet_bytes}
use Rattle.c_answers.proofs.Outcomes.{given_in}
use Rattle.c_records.proofs.lpmag_packet.Goals as goal

pub returns : goal.returns
returns c =
    let r = c.args.r.now in
    let h : length c.args.room.now ≡ packet_size = search rules in
    let z = sym c.lpmag_check-n.ensures ∙ c.if-n-ne0.false in
    let t = packet_told r z in
    let e = c.packet.ensures.bytes ∙ t.0 in
    let l = ap length e ∙ t.1 ∙ sym h in
    given_in packet_size (packet_bytes r) r c.args.room.now h (sym z) _ (c.copy.ensures ∙ rw (eq-eqb _ _ l) e)
