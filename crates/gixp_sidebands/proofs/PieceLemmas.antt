-- A special packet is not a line.
use Rattle.std.proofs.Common.{◌≡◌, Bool, true, false, cond, List, ℕ}
use Rattle.gixp_packetline.specs.declared.protocol.MessageKind.{MessageKind}
use Rattle.gixp_packetline.specs.Pieces.{Refusal, Pieces}
use Rattle.gixp_packetline.specs.Lines.{gives, stops, refuses}

pub mark_not_gives : (b : Bool) (kind : MessageKind) (p q : Pieces) (e : Refusal) (text : List ℕ)
    → cond b (stops kind p) (refuses e) ≡ gives text q → ⊥
mark_not_gives true kind p q e text h = cc
mark_not_gives false kind p q e text h = cc
