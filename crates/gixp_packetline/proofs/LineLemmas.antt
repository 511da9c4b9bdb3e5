-- The lines of a stream, by what comes next.
use Rattle.std.proofs.Common.{◌≡◌, ℕ, Bool, true, false, cond, List, [], ◌∷◌, refl}
use Rattle.gixp_packetline.specs.declared.protocol.Protocol.{Protocol}
use Rattle.gixp_packetline.specs.declared.protocol.MessageKind.{MessageKind}
use Rattle.gixp_packetline.specs.Pieces.{Refusal, Piece, line, mark, Pieces, unexpected_frame}
use Rattle.gixp_packetline.specs.Items.{is_stop}
use Rattle.gixp_packetline.specs.Lines.{gives, stops, refuses, next_from, stop, refusal, lines_from, lines_of, no_lines, before}
use Rattle.gixp_packetline.proofs.RunLemmas.{mark_not_gives}

-- the lines begin with the next one
pub gives_line : (v : Protocol) (list : List Piece) (end : Refusal) (text : List ℕ) (q : Pieces) → next_from v list end ≡ gives text q
    → lines_from v list end ≡ before (text ∷ []) (lines_of v q)
gives_line v [] end text q h = cc
gives_line v (line t ∷ ps) end text q h =
    let p : Pieces = record { list = ps; end = end } in
    let e1 : t ≡ text = cc in
    let e2 : p ≡ q = cc in
    rw (← e1, ← e2) refl
gives_line v (mark kind ∷ ps) end text q h =
    absurd (mark_not_gives (is_stop v kind) kind (record { list = ps; end = end }) q unexpected_frame text h)

stop_or : (b : Bool) (kind k : MessageKind) (p q : Pieces) (e : Refusal) → cond b (stops kind p) (refuses e) ≡ stops k q
    → cond b (no_lines (stop kind p)) (no_lines (refusal e)) ≡ no_lines (stop k q)
stop_or true kind k p q e h =
    let e1 : kind ≡ k = cc in
    let e2 : p ≡ q = cc in
    rw (e1, e2) refl
stop_or false kind k p q e h = cc

-- no line comes before a stop that is next
pub stops_here : (v : Protocol) (list : List Piece) (end : Refusal) (kind : MessageKind) (q : Pieces) → next_from v list end ≡ stops kind q
    → lines_from v list end ≡ no_lines (stop kind q)
stops_here v [] end kind q h = cc
stops_here v (line t ∷ ps) end kind q h = cc
stops_here v (mark k ∷ ps) end kind q h = stop_or (is_stop v k) k kind (record { list = ps; end = end }) q unexpected_frame h

refused_or : (b : Bool) (kind : MessageKind) (p : Pieces) (e x : Refusal) → cond b (stops kind p) (refuses e) ≡ refuses x
    → cond b (no_lines (stop kind p)) (no_lines (refusal e)) ≡ no_lines (refusal x)
refused_or true kind p e x h = cc
refused_or false kind p e x h =
    let e1 : e ≡ x = cc in
    rw e1 refl

-- no line comes before an error that is next
pub refuses_here : (v : Protocol) (list : List Piece) (end : Refusal) (x : Refusal) → next_from v list end ≡ refuses x
    → lines_from v list end ≡ no_lines (refusal x)
refuses_here v [] end x h =
    let e1 : end ≡ x = cc in
    rw e1 refl
refuses_here v (line t ∷ ps) end x h = cc
refuses_here v (mark k ∷ ps) end x h = refused_or (is_stop v k) k (record { list = ps; end = end }) unexpected_frame x h
