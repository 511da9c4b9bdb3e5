use Rattle.gixp_packetline.proofs.FillLemmas.{fills_noted, counts_noted}
use Rattle.gixp_packetline.proofs.packets.Packets.fill.Goals as goal

pub returns-clause-fills : goal.returns-clause-fills
returns-clause-fills g c =
    fills_noted g.R.Read.remaining c.args.self.now c.spend_read.new.self c.note_read.new.self c.receive-received.new.self
    c.receive-received.new.reader c.receive-received.result c.note_read.result c.spend_read.ensures.counted
    (c.spend_read.ensures.may.0 c.if-not-spend_read.false) c.requires.front c.requires.open c.receive-received.ensures c.note_read.ensures

pub returns-clause-counts : goal.returns-clause-counts
returns-clause-counts g c =
    counts_noted c.args.self.now c.spend_read.new.self c.note_read.new.self c.receive-received.new.self
    c.receive-received.new.reader c.receive-received.result c.note_read.result c.spend_read.ensures.counted c.note_read.ensures
