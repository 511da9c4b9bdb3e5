use Rattle.std.proofs.Common.{refl, ap, ◌∙◌, Some, map}
use Rattle.std.proofs.lemmas.List.{reverse-reverse}
use Rattle.gixp_transport.specs.Bodies.{answer_of}
use Rattle.gixp_transport.proofs.BodiesLemmas.{no_bytes}
use Rattle.gixp_transport.proofs.bodies.Bodies.new.Goals as goal

pub returns : goal.returns
returns c =
    let f = c.in_ok-packets.ensures in
    record {
      to_come = f.to_come ∙ ap Some (rw (c.new-2.ensures.position, c.new-2.ensures.inner, c.new.ensures.items) no_bytes);
      refused = f.refused;
      stopped = f.stopped;
      version = f.version;
      peeked = f.peeked;
      failures = f.failures;
      left = f.left;
      sent = rw c.new-4.ensures.items refl;
      written = ap Some c.new-5.ensures.items;
      url = refl;
      accepted = refl;
      identity = refl;
      answers = ap (map answer_of) (rw c.reverse.ensures.items (reverse-reverse c.args.bodies.items));
    }
