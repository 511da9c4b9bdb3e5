-- A flush packet that is passed on after that of the advertisement was followed by a response-end packet.
use Rattle.std.proofs.Common.{◌≡◌, List, [], ◌∷◌, ◌++◌, refl, ap, append_assoc}
use Rattle.gixp_packetline.specs.declared.protocol.MessageKind.TheVariants.{Flush, Delimiter, ResponseEnd, Text}
use Rattle.gixp_packetline.specs.Frames.{Frame, payload, special, End}
use Rattle.gixp_response_end.specs.Others.{without_response_ends}
use Rattle.gixp_response_end.specs.Whole.{whole_answers, whole_stream}

-- the packet lines before such a flush packet are these, without response-end packets
abbrev IsClosed : (frames front : List Frame) → Type 0
IsClosed frames front = (before more : List Frame) × (frames ≡ before ++ special Flush ∷ special ResponseEnd ∷ more)
    × (without_response_ends before ≡ front)

answers_closed : (frames front after : List Frame) (end : End) → (whole_answers frames end).list ≡ front ++ special Flush ∷ after
    → IsClosed frames front
answers_closed [] [] after end h = cc
answers_closed [] (f ∷ front) after end h = cc
answers_closed (payload p ∷ frames) [] after end h = cc
answers_closed (payload p ∷ frames) (f ∷ front) after end h =
    let is : payload p ≡ f = cc in
    let r : (whole_answers frames end).list ≡ front ++ special Flush ∷ after = cc in
    let found = answers_closed frames front after end r in
    (payload p ∷ found.0, found.1, ap (λ xs. payload p ∷ xs) found.2, cc (found.3))
answers_closed (special Delimiter ∷ frames) [] after end h = cc
answers_closed (special Delimiter ∷ frames) (f ∷ front) after end h =
    let is : special Delimiter ≡ f = cc in
    let r : (whole_answers frames end).list ≡ front ++ special Flush ∷ after = cc in
    let found = answers_closed frames front after end r in
    (special Delimiter ∷ found.0, found.1, ap (λ xs. special Delimiter ∷ xs) found.2, cc (found.3))
answers_closed (special Flush ∷ special ResponseEnd ∷ frames) [] after end h = ([], frames, refl, refl)
answers_closed (special Flush ∷ special ResponseEnd ∷ frames) (f ∷ front) after end h =
    let is : special Flush ≡ f = cc in
    let r : (whole_answers frames end).list ≡ front ++ special Flush ∷ after = cc in
    let found = answers_closed frames front after end r in
    (special Flush ∷ special ResponseEnd ∷ found.0, found.1, ap (λ xs. special Flush ∷ special ResponseEnd ∷ xs) found.2, cc (found.3))
answers_closed (special Flush ∷ []) [] after end h = cc
answers_closed (special Flush ∷ []) (f ∷ front) after end h = cc
answers_closed (special Flush ∷ payload p ∷ frames) [] after end h = cc
answers_closed (special Flush ∷ payload p ∷ frames) (f ∷ front) after end h = cc
answers_closed (special Flush ∷ special Flush ∷ frames) [] after end h = cc
answers_closed (special Flush ∷ special Flush ∷ frames) (f ∷ front) after end h = cc
answers_closed (special Flush ∷ special Delimiter ∷ frames) [] after end h = cc
answers_closed (special Flush ∷ special Delimiter ∷ frames) (f ∷ front) after end h = cc
answers_closed (special Flush ∷ special Text ∷ frames) [] after end h = cc
answers_closed (special Flush ∷ special Text ∷ frames) (f ∷ front) after end h = cc
answers_closed (special ResponseEnd ∷ frames) [] after end h = cc
answers_closed (special ResponseEnd ∷ frames) (f ∷ front) after end h = cc
answers_closed (special Text ∷ frames) [] after end h = cc
answers_closed (special Text ∷ frames) (f ∷ front) after end h = cc

pub stream_closed : (frames first second after : List Frame) (end : End)
    → (whole_stream frames end).list ≡ first ++ special Flush ∷ (second ++ special Flush ∷ after)
    → IsClosed frames (first ++ special Flush ∷ second)
stream_closed [] [] second after end h = cc
stream_closed [] (f ∷ first) second after end h = cc
stream_closed (payload p ∷ frames) [] second after end h = cc
stream_closed (payload p ∷ frames) (f ∷ first) second after end h =
    let is : payload p ≡ f = cc in
    let r : (whole_stream frames end).list ≡ first ++ special Flush ∷ (second ++ special Flush ∷ after) = cc in
    let found = stream_closed frames first second after end r in
    (payload p ∷ found.0, found.1, ap (λ xs. payload p ∷ xs) found.2, cc (found.3))
stream_closed (special Delimiter ∷ frames) [] second after end h = cc
stream_closed (special Delimiter ∷ frames) (f ∷ first) second after end h =
    let is : special Delimiter ≡ f = cc in
    let r : (whole_stream frames end).list ≡ first ++ special Flush ∷ (second ++ special Flush ∷ after) = cc in
    let found = stream_closed frames first second after end r in
    (special Delimiter ∷ found.0, found.1, ap (λ xs. special Delimiter ∷ xs) found.2, cc (found.3))
stream_closed (special Flush ∷ frames) [] second after end h =
    let r : (whole_answers frames end).list ≡ second ++ special Flush ∷ after = cc in
    let found = answers_closed frames second after end r in
    (special Flush ∷ found.0, found.1, ap (λ xs. special Flush ∷ xs) found.2, ap (λ xs. special Flush ∷ xs) found.3)
stream_closed (special Flush ∷ frames) (f ∷ first) second after end h =
    let is : special Flush ≡ f = cc in
    let r : (whole_answers frames end).list ≡ (first ++ special Flush ∷ second) ++ special Flush ∷ after = cc (append_assoc first (special Flush ∷ second) (special Flush ∷ after)) in
    let found = answers_closed frames (first ++ special Flush ∷ second) after end r in
    (special Flush ∷ found.0, found.1, ap (λ xs. special Flush ∷ xs) found.2, cc (found.3))
stream_closed (special ResponseEnd ∷ frames) [] second after end h = cc
stream_closed (special ResponseEnd ∷ frames) (f ∷ first) second after end h = cc
stream_closed (special Text ∷ frames) [] second after end h = cc
stream_closed (special Text ∷ frames) (f ∷ first) second after end h = cc
