use Rattle.std.proofs.Common.{sym, ap, ◌∙◌, inl, inr, arith, subst, ℕ, List}
use Rattle.gixp_packetline.specs.Pieces.{is_error, server, error_message, Refusal}
use Rattle.gixp_packetline.specs.Reading.{Fails, refusal_of}
use Rattle.gixp_packetline.specs.Packets.{packets_reading}
use Rattle.gixp_packetline.specs.Window.{Shown}
use Rattle.gixp_packetline.specs.declared.packet.Head.TheVariants.{Data}
use Rattle.gixp_packetline.proofs.AdvanceLemmas.{payload_is, front_fits, takes_line, takes_stop, refuses_bad, refuses_error, refuses_frame, faults_memory, fails_settling, plain_error}
use Rattle.gixp_packetline.proofs.FillLemmas.{line_spent}
use Rattle.gixp_packetline.specs.Packets.{reads_and_bytes}
use Rattle.gixp_packetline.proofs.packets.Packets.advance.Goals as goal

pub returns-in-Err-clause-reads : goal.returns-in-Err-clause-reads
returns-in-Err-clause-reads g c =
    fails_settling g.R.Read.remaining c.args.self.now c.fill_header.new.self c.in-Err.e c.in-Err.ensures c.requires

pub returns-in-Ok-Bad-clause-reads : goal.returns-in-Ok-Bad-clause-reads
returns-in-Ok-Bad-clause-reads g c =
    let h = rw c.in-Ok-Bad.field-0-is at c.in-Ok-Bad.ensures in
    inl (refuses_bad g.R.Read.remaining c.args.self.now c.fill_header.new.self c.in-Ok-Bad.e h c.requires)

pub returns-else-is_stop-clause-reads : goal.returns-else-is_stop-clause-reads
returns-else-is_stop-clause-reads g c =
    let h = rw c.in-Ok-Special.field-0-is at c.in-Ok-Special.ensures in
    inl (refuses_frame g.R.Read.remaining c.args.self.now c.fill_header.new.self c.in-Ok-Special.kind h c.requires
    (sym c.if-is_stop.ensures))

pub returns-then-is_stop-clause-reads : goal.returns-then-is_stop-clause-reads
returns-then-is_stop-clause-reads g c =
    let h = rw c.in-Ok-Special.field-0-is at c.in-Ok-Special.ensures in
    rw c.skip.ensures (inr (
      c.in-Ok-Special.kind,
      takes_stop g.R.Read.remaining c.args.self.now c.fill_header.new.self c.in-Ok-Special.kind h c.requires
          (sym c.if-is_stop.ensures),
    ))

pub returns-else-is_server_error-clause-reads : goal.returns-else-is_server_error-clause-reads
returns-else-is_server_error-clause-reads g c =
    let h = rw c.in-Ok-Data.field-0-is at c.in-Ok-Data.ensures in
    let size = c.in-Ok-Data.size in
    let fits = front_fits c.fill_header.new.self.window.pending (Data size) (sym h.front) in
    let text = payload_is c.fill_header.new.self.window.pending c.pending.result.now size (omega (arith, fits.0)) c.pending.ensures.value in
    rw c.take_line.ensures (takes_line g.R.Read.remaining c.args.self.now c.fill_header.new.self size h c.requires
    (ap is_error (sym text) ∙ sym c.if-is_server_error.ensures))

pub returns-then-is_server_error-clause-reads : goal.returns-then-is_server_error-clause-reads
returns-then-is_server_error-clause-reads g c =
    let h = rw c.in-Ok-Data.field-0-is at c.in-Ok-Data.ensures in
    let size = c.in-Ok-Data.size in
    let fits = front_fits c.fill_header.new.self.window.pending (Data size) (sym h.front) in
    let text = payload_is c.fill_header.new.self.window.pending c.pending.result.now size (omega (arith, fits.0)) c.pending.ensures.value in
    let rem = g.R.Read.remaining in
    let old = c.args.self.now in
    let mid = c.fill_header.new.self in
    let F : Refusal → Type 0 = Fails (packets_reading rem old) (packets_reading rem mid) in
    elim c.server_error.ensures [
      | inl e ↦ subst F (sym (e ∙ ap (λ (t : List ℕ). server (error_message t)) text))
          (inl (refuses_error rem old mid size h c.requires (ap is_error (sym text) ∙ sym c.if-is_server_error.ensures)))
      | inr e ↦ subst F (sym (ap refusal_of e)) (inr (inl (faults_memory rem old mid (Data size) h c.requires)))
    ]

pub returns-then-is_server_error-clause-plain : goal.returns-then-is_server_error-clause-plain
returns-then-is_server_error-clause-plain g c =
    let h = rw c.in-Ok-Data.field-0-is at c.in-Ok-Data.ensures in
    let size = c.in-Ok-Data.size in
    let mid = c.fill_header.new.self in
    let fits = front_fits mid.window.pending (Data size) (sym h.front) in
    let text = payload_is mid.window.pending c.pending.result.now size (omega (arith, fits.0)) c.pending.ensures.value in
    let wrong = ap is_error (sym text) ∙ sym c.if-is_server_error.ensures in
    let sent = rw text at c.server_error.ensures in
    λ _. plain_error g.R.Read.remaining c.args.self.now mid size c.server_error.result h c.requires wrong sent

pub returns-else-is_server_error-clause-spends : goal.returns-else-is_server_error-clause-spends
returns-else-is_server_error-clause-spends g c =
    let h = rw c.in-Ok-Data.field-0-is at c.in-Ok-Data.ensures in
    let size = c.in-Ok-Data.size in
    let mid = c.fill_header.new.self in
    let fits = front_fits mid.window.pending (Data size) (sym h.front) in
    line_spent size mid.reads_left
    (reads_and_bytes c.args.self.now) mid.window.pending c.take_line.new.self.pending c.take_line.new.self.lent
    (omega (arith, fits.0)) (omega (arith, fits.1)) (ap (λ (w : Shown). w.lent) c.take_line.ensures)
    (ap (λ (w : Shown). w.pending) c.take_line.ensures) h.reads
