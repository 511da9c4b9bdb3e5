-- What is passed on for whole packet lines, and for the bytes after them.
use Rattle.std.proofs.Common.{◌≡◌, ℕ, ◌+◌, ◌-◌, ◌<◌, ◌≤◌, inl, inr, nat_eq, nat_lt, Bool, true, false, if◌then◌else◌, List, [], ◌∷◌, ◌++◌, length, take, drop, Option, Some, None, refl, ap, sym, subst, ◌∙◌, arith, append_assoc, append-nil, length-drop, length-append, ne_eqb}
use Rattle.std.proofs.lemmas.List.{take-append-drop, take_all, drop_at}
use Rattle.gixp_packetline.specs.declared.packet.PacketError.TheVariants.{HexDecode, DataLengthLimitExceeded, DataIsEmpty, InvalidLineLength}
use Rattle.gixp_packetline.specs.declared.protocol.MessageKind.TheVariants.{Flush, Delimiter, ResponseEnd, Text}
use Rattle.gixp_packetline.specs.Frames.{size_of, Frame, payload, special, End, ended, bad, Frames}
use Rattle.gixp_packetline.specs.Grammar.{Counts, IsFrame, IsEnd, AreFrames}
use Rattle.gixp_packfile_uris.specs.declared.place.LinePlace.{LinePlace}
use Rattle.gixp_packfile_uris.specs.declared.place.LinePlace.TheVariants.{SectionStart, Section, Uris, Over}
use Rattle.gixp_packfile_uris.specs.declared.place.Fate.{Fate}
use Rattle.gixp_packfile_uris.specs.declared.place.Fate.TheVariants.{Pass, Take, Refuse}
use Rattle.gixp_packfile_uris.specs.declared.place.Next.TheVariants.{Hold, Payload, Rest, Refused}
use Rattle.gixp_packfile_uris.specs.declared.place.After.{After}
use Rattle.gixp_packfile_uris.specs.Line.{is_message, text_of, fate}
use Rattle.gixp_packfile_uris.specs.Parts.{Parts, ending, following, parts, parts_of, in_uris, after_delimiter, line_after, digits_after, fate_after, held_after, lines_held, takes_uri}
use Rattle.gixp_packfile_uris.specs.Uris.{without_uris, uri_lines, is_refused}
use Rattle.gixp_packfile_uris.proofs.PartsLemmas.{not_less, payload_front, payload_part, payload_over, held_part, held_whole}

-- what is passed on from the start of a packet line
abbrev lines : LinePlace → List ℕ → Parts
lines place bytes = parts place (Hold 4) [] bytes

abbrev nothing : Parts
nothing = record { passed = []; lines = []; is_refused = true }

-- four digits of a packet line, and the bytes after them
abbrev after : After → List ℕ → List ℕ → Parts
after a digits more = parts a.place a.next (take a.count digits) more

digits_of : (place : LinePlace) (o : Option ℕ) (digits more : List ℕ) → length digits ≡ 4 → size_of digits ≡ o
    → lines place (digits ++ more) ≡ after (digits_after place o) digits more
digits_of place o digits more four size = held_whole place 4 [] digits more (omega arith) (omega arith)
    ∙ ap (λ k. after (digits_after place k) digits more) size

-- digits that are passed on before a packet line
passed_line : (place : LinePlace) (text rest : List ℕ) (count : ℕ) → length text ≤ count
    → parts place (Payload 0) (take count text) rest ≡ following text [] (lines place rest)
passed_line place text rest count h = ap (λ xs. parts place (Payload 0) xs rest) (take_all count text h)
    ∙ payload_front place 0 text rest ∙ ap (following text []) (payload_over place rest)

delimited : (place : LinePlace) (text rest : List ℕ) → Counts text 1
    → lines place (text ++ rest) ≡ (if in_uris place then lines Over rest else following text [] (lines (after_delimiter place) rest))
delimited SectionStart text rest c = digits_of SectionStart (Some 1) text rest c.0 c.1 ∙ passed_line SectionStart text rest 4 (omega (arith, c.0))
delimited Section text rest c = digits_of Section (Some 1) text rest c.0 c.1 ∙ passed_line SectionStart text rest 4 (omega (arith, c.0))
delimited (Uris n) text rest c = digits_of (Uris n) (Some 1) text rest c.0 c.1
delimited Over text rest c = digits_of Over (Some 1) text rest c.0 c.1 ∙ passed_line Over text rest 4 (omega (arith, c.0))

-- the digits of a flush or response-end packet
flushed : (place : LinePlace) (k : ℕ) (text rest : List ℕ) → Counts text k → nat_eq k 1 ≡ false → nat_lt k 3 ≡ true
    → lines place (text ++ rest) ≡ (if in_uris place then nothing else following text [] (lines SectionStart rest))
flushed SectionStart k text rest c one three =
    digits_of SectionStart (Some k) text rest c.0 c.1 ∙ rw (one, three) (passed_line SectionStart text rest 4 (omega (arith, c.0)))
flushed Section k text rest c one three =
    digits_of Section (Some k) text rest c.0 c.1 ∙ rw (one, three) (passed_line SectionStart text rest 4 (omega (arith, c.0)))
flushed (Uris n) k text rest c one three = digits_of (Uris n) (Some k) text rest c.0 c.1 ∙ rw (one, three) refl
flushed Over k text rest c one three =
    digits_of Over (Some k) text rest c.0 c.1 ∙ rw (one, three) (passed_line SectionStart text rest 4 (omega (arith, c.0)))

begun : (place : LinePlace) (k : ℕ) → 4 < k → k ≤ 65520 → digits_after place (Some k) ≡ line_after place k
begun place k some fits =
    let a : nat_eq k 1 ≡ false = ne_eqb k 1 (λ e. absurd (omega (arith, e, some))) in
    let b : nat_lt k 3 ≡ false = not_less k 3 (omega arith) in
    let c : nat_lt k 5 ≡ false = not_less k 5 (omega arith) in
    let d : nat_lt 65520 k ≡ false = not_less 65520 k fits in
    rw (a, b, c, d) refl

-- what happens to a line
abbrev by_fate : LinePlace → Fate → (text p rest : List ℕ) → Parts
by_fate place (Pass next) text p rest = following text [] (lines next rest)
by_fate place (Take next) text p rest = following [] (if in_uris place then text_of p ∷ [] else []) (lines next rest)
by_fate place Refuse text p rest = nothing

decided : (place : LinePlace) (f : Fate) (text p rest : List ℕ)
    → following [] (if takes_uri place f then text_of p ∷ [] else [])
    (parts (fate_after place f (length text)).place (fate_after place f (length text)).next
    (take (fate_after place f (length text)).count text) rest) ≡ by_fate place f text p rest
decided place (Pass next) text p rest = passed_line next text rest (length text) (omega arith)
decided place (Take next) text p rest = refl
decided place Refuse text p rest = refl

payload_in : (digits p : List ℕ) → length digits ≡ 4 → drop 4 (digits ++ p) ≡ p
payload_in digits p four = drop_at digits p 4 four

-- a line that is held until it is whole
held_line : (place : LinePlace) (digits p rest : List ℕ) → length digits ≡ 4 → 0 < length p
    → parts place (Hold (4 + length p)) digits (p ++ rest) ≡ by_fate place (fate place p) (digits ++ p) p rest
held_line place digits p rest four some =
    let k = 4 + length p in
    let t : nat_eq k 4 ≡ false = ne_eqb k 4 (λ e. absurd (omega (arith, e, some))) in
    let e : drop 4 (digits ++ p) ≡ p = payload_in digits p four in
    held_whole place k digits p rest (omega (arith, four)) (omega (arith, four, some))
    ∙ rw (t, e) (decided place (fate place p) (digits ++ p) p rest)

-- any other line
passed_on : (place : LinePlace) (digits p rest : List ℕ)
    → parts place (Payload ((4 + length p) - 4)) digits (p ++ rest) ≡ following (digits ++ p) [] (lines place rest)
passed_on place digits p rest =
    let n : (4 + length p) - 4 ≡ length p = omega arith in
    let z : length p - length p ≡ 0 = omega arith in
    let P : List ℕ → Parts = λ xs. record { passed = xs; lines = (lines place rest).lines; is_refused = (lines place rest).is_refused } in
    ap (λ k. parts place (Payload k) digits (p ++ rest)) n
    ∙ payload_front place (length p) digits (p ++ rest)
    ∙ ap (following digits []) (payload_part place (length p) p rest (omega arith)
    ∙ ap (λ k. following p [] (parts place (Payload k) [] rest)) z ∙ ap (following p []) (payload_over place rest))
    ∙ ap P (sym (append_assoc digits p (lines place rest).passed))

same_fate : (b : Bool) (place : LinePlace) (text p rest : List ℕ)
    → following text [] (lines place rest) ≡ by_fate place (if b then Pass place else Pass place) text p rest
same_fate true place text p rest = refl
same_fate false place text p rest = refl

line_by : (place : LinePlace) (digits p rest : List ℕ) → length digits ≡ 4 → 0 < length p
    → after (line_after place (4 + length p)) digits (p ++ rest) ≡ by_fate place (fate place p) (digits ++ p) p rest
line_by SectionStart digits p rest four some = ap (λ xs. parts SectionStart (Hold (4 + length p)) xs (p ++ rest)) (take_all 4 digits (omega arith))
    ∙ held_line SectionStart digits p rest four some
line_by (Uris n) digits p rest four some = ap (λ xs. parts (Uris n) (Hold (4 + length p)) xs (p ++ rest)) (take_all 4 digits (omega arith))
    ∙ held_line (Uris n) digits p rest four some
line_by Section digits p rest four some =
    ap (λ xs. parts Section (Payload ((4 + length p) - 4)) xs (p ++ rest)) (take_all 4 digits (omega arith))
    ∙ passed_on Section digits p rest ∙ same_fate (is_message p) Section (digits ++ p) p rest
line_by Over digits p rest four some =
    ap (λ xs. parts Over (Payload ((4 + length p) - 4)) xs (p ++ rest)) (take_all 4 digits (omega arith))
    ∙ passed_on Over digits p rest ∙ same_fate (is_message p) Over (digits ++ p) p rest

line_front : (place : LinePlace) (text p rest : List ℕ) → IsFrame text (payload p)
    → lines place (text ++ rest) ≡ by_fate place (fate place p) text p rest
line_front place text p rest h =
    let digits = h.0 in
    ap (λ xs. lines place (xs ++ rest)) h.2
    ∙ ap (lines place) (append_assoc digits p rest)
    ∙ digits_of place (Some (4 + length p)) digits (p ++ rest) h.1.0 h.1.1
    ∙ ap (λ a. after a digits (p ++ rest)) (begun place (4 + length p) (omega (arith, h.3)) (omega (arith, h.4)))
    ∙ line_by place digits p rest h.1.0 h.3
    ∙ ap (λ xs. by_fate place (fate place p) xs p rest) (sym h.2)

-- the bytes after the last whole packet line are passed on unchanged
refused_digits : (place : LinePlace) (o : Option ℕ) (rest digits more : List ℕ) → rest ≡ digits ++ more → length digits ≡ 4 → size_of digits ≡ o
    → digits_after place o ≡ record { place = place; next = Rest; count = 4 } → lines place rest ≡ ending rest
refused_digits place o rest digits more r four size is = ap (lines place) r
    ∙ digits_of place o digits more four size ∙ ap (λ a. after a digits more) is
    ∙ ap (λ xs. ending (xs ++ more)) (take_all 4 digits (omega arith)) ∙ ap ending (sym r)

too_long : (place : LinePlace) (n : ℕ) → 65520 < n → digits_after place (Some n) ≡ record { place = place; next = Rest; count = 4 }
too_long place n big =
    let a : nat_eq n 1 ≡ false = ne_eqb n 1 (λ e. absurd (omega (arith, e, big))) in
    let b : nat_lt n 3 ≡ false = not_less n 3 (omega arith) in
    let c : nat_lt n 5 ≡ false = not_less n 5 (omega arith) in
    let d : nat_lt 65520 n ≡ true = grind (arith, big) in
    rw (a, b, c, d) refl

part_by : (place : LinePlace) (n : ℕ) (digits more : List ℕ) → length digits + length more < n → length digits ≡ 4
    → after (line_after place n) digits more ≡ ending (digits ++ more)
part_by SectionStart n digits more few four = ap (λ xs. parts SectionStart (Hold n) xs more) (take_all 4 digits (omega arith))
    ∙ ap (parts SectionStart (Hold n) digits) (sym (append-nil more)) ∙ held_part SectionStart n digits more [] few
part_by (Uris m) n digits more few four = ap (λ xs. parts (Uris m) (Hold n) xs more) (take_all 4 digits (omega arith))
    ∙ ap (parts (Uris m) (Hold n) digits) (sym (append-nil more)) ∙ held_part (Uris m) n digits more [] few
part_by Section n digits more few four = ap (λ xs. parts Section (Payload (n - 4)) xs more) (take_all 4 digits (omega arith))
    ∙ payload_rest Section (n - 4) digits more (omega (arith, few, four))
  where
    payload_rest : (place : LinePlace) (k : ℕ) (digits more : List ℕ) → length more ≤ k
        → parts place (Payload k) digits more ≡ ending (digits ++ more)
    payload_rest place k digits more h = payload_front place k digits more
        ∙ ap (λ xs. following digits [] (parts place (Payload k) [] xs)) (sym (append-nil more))
        ∙ ap (following digits []) (payload_part place k more [] h) ∙ ap (λ xs. ending (digits ++ xs)) (append-nil more)
part_by Over n digits more few four = ap (λ xs. parts Over (Payload (n - 4)) xs more) (take_all 4 digits (omega arith))
    ∙ payload_rest Over (n - 4) digits more (omega (arith, few, four))
  where
    payload_rest : (place : LinePlace) (k : ℕ) (digits more : List ℕ) → length more ≤ k
        → parts place (Payload k) digits more ≡ ending (digits ++ more)
    payload_rest place k digits more h = payload_front place k digits more
        ∙ ap (λ xs. following digits [] (parts place (Payload k) [] xs)) (sym (append-nil more))
        ∙ ap (following digits []) (payload_part place k more [] h) ∙ ap (λ xs. ending (digits ++ xs)) (append-nil more)

end_same : (place : LinePlace) (rest : List ℕ) (end : End) → IsEnd rest end → lines place rest ≡ ending rest
end_same place rest (bad HexDecode) h = refused_digits place None rest h.0 h.1 h.2 h.3.0 h.3.1 refl
end_same place rest (bad InvalidLineLength) h = refused_digits place (Some 3) rest h.0 h.1 h.2 h.3.0 h.3.1 refl
end_same place rest (bad DataIsEmpty) h = refused_digits place (Some 4) rest h.0 h.1 h.2 h.3.0 h.3.1 refl
end_same place rest (bad DataLengthLimitExceeded) h =
    refused_digits place (Some h.3.0) rest h.0 h.1 h.2 h.3.1.0 h.3.1.1 (too_long place h.3.0 h.3.2)
end_same place rest ended (inl short) = ap (lines place) (sym (append-nil rest)) ∙ held_part place 4 [] rest [] (omega arith)
end_same place rest ended (inr h) =
    let n = h.0 in
    let digits = take 4 rest in
    let more = drop 4 rest in
    let whole : digits ++ more ≡ rest = take-append-drop 4 rest in
    ap (lines place) (sym whole) ∙ digits_of place (Some n) digits more h.1.0 h.1.1
    ∙ ap (λ a. after a digits more) (begun place n h.2 h.3)
    ∙ part_by place n digits more (omega (arith, h.1.0, length-drop 4 rest, h.4, length-append digits more, ap length whole)) h.1.0
    ∙ ap ending whole

-- the bytes are these packet lines, the sink takes these lines, and a line is invalid or none is
abbrev AreThese : Parts → Frames → List (List ℕ) → Bool → Type 0
AreThese p fs taken refused = AreFrames p.passed fs.list fs.end × (p.lines ≡ taken) × (p.is_refused ≡ refused)

none_left : (p : Parts) → p ≡ nothing → AreThese p (record { list = []; end = ended }) [] true
none_left p e = (
  inl (omega (arith, ap (λ (q : Parts). length q.passed) e)),
  ap (λ (q : Parts). q.lines) e,
  ap (λ (q : Parts). q.is_refused) e,
)

-- a packet line that is passed on
one_more : (p q : Parts) (f : Frame) (text : List ℕ) (fs : Frames) (taken : List (List ℕ)) (refused : Bool) → p ≡ following text [] q
    → IsFrame text f → AreThese q fs taken refused → AreThese p (record { list = f ∷ fs.list; end = fs.end }) taken refused
one_more p q f text fs taken refused e is h = (
  (text, q.passed, ap (λ (x : Parts). x.passed) e, is, h.0),
  ap (λ (x : Parts). x.lines) e ∙ h.1,
  ap (λ (x : Parts). x.is_refused) e ∙ h.2,
)

same_these : (p q : Parts) (fs : Frames) (taken : List (List ℕ)) (refused : Bool) → p ≡ q → AreThese q fs taken refused
    → AreThese p fs taken refused
same_these p q fs taken refused e h = subst (λ x. AreThese x fs taken refused) (sym e) h

-- the same for the packet lines after one
abbrev AreBehind : LinePlace → List ℕ → List Frame → End → Type 0
AreBehind next rest frames end = AreThese (lines next rest) (without_uris next frames end) (uri_lines next frames) (is_refused next frames)

by_line : (place : LinePlace) (f : Fate) (bytes text p rest : List ℕ) (frames : List Frame) (end : End) → IsFrame text (payload p)
    → lines place bytes ≡ by_fate place f text p rest
    → ((next : LinePlace) → AreBehind next rest frames end)
    → AreThese (lines place bytes)
    (elim f [
      | Pass next ↦ record { list = payload p ∷ (without_uris next frames end).list; end = (without_uris next frames end).end }
      | Take next ↦ without_uris next frames end
      | Refuse ↦ record { list = []; end = ended }
    ])
    (elim f [
      | Pass next ↦ uri_lines next frames
      | Take next ↦ (if in_uris place then text_of p ∷ [] else []) ++ uri_lines next frames
      | Refuse ↦ []
    ])
    (elim f [ Pass next ↦ is_refused next frames | Take next ↦ is_refused next frames | Refuse ↦ true ])
by_line place (Pass next) bytes text p rest frames end is e ih =
    one_more (lines place bytes) (lines next rest) (payload p) text (without_uris next frames end) (uri_lines next frames)
    (is_refused next frames) e is (ih next)
by_line place (Take next) bytes text p rest frames end is e ih =
    let one = if in_uris place then text_of p ∷ [] else [] in
    same_these (lines place bytes) (following [] one (lines next rest)) (without_uris next frames end) (one ++ uri_lines next frames)
    (is_refused next frames) e ((ih next).0, ap (λ ls. one ++ ls) (ih next).1, (ih next).2)
by_line place Refuse bytes text p rest frames end is e ih = none_left (lines place bytes) e

by_delimiter : (place : LinePlace) (b : Bool) (bytes text rest : List ℕ) (frames : List Frame) (end : End) → IsFrame text (special Delimiter)
    → lines place bytes ≡ (if b then lines Over rest else following text [] (lines (after_delimiter place) rest))
    → ((next : LinePlace) → AreBehind next rest frames end)
    → AreThese (lines place bytes)
    (if b then without_uris Over frames end
    else record {
      list = special Delimiter ∷ (without_uris (after_delimiter place) frames end).list;
      end = (without_uris (after_delimiter place) frames end).end;
    })
    (if b then uri_lines Over frames else uri_lines (after_delimiter place) frames)
    (if b then is_refused Over frames else is_refused (after_delimiter place) frames)
by_delimiter place true bytes text rest frames end is e ih =
    same_these (lines place bytes) (lines Over rest) (without_uris Over frames end) (uri_lines Over frames) (is_refused Over frames) e
    (ih Over)
by_delimiter place false bytes text rest frames end is e ih =
    one_more (lines place bytes) (lines (after_delimiter place) rest) (special Delimiter) text (without_uris (after_delimiter place) frames end)
    (uri_lines (after_delimiter place) frames) (is_refused (after_delimiter place) frames) e is (ih (after_delimiter place))

by_flush : (place : LinePlace) (b : Bool) (f : Frame) (bytes text rest : List ℕ) (frames : List Frame) (end : End) → IsFrame text f
    → lines place bytes ≡ (if b then nothing else following text [] (lines SectionStart rest))
    → AreBehind SectionStart rest frames end
    → AreThese (lines place bytes)
    (if b then record { list = []; end = ended }
    else record { list = f ∷ (without_uris SectionStart frames end).list; end = (without_uris SectionStart frames end).end })
    (if b then [] else uri_lines SectionStart frames) (if b then true else is_refused SectionStart frames)
by_flush place true f bytes text rest frames end is e ih = none_left (lines place bytes) e
by_flush place false f bytes text rest frames end is e ih =
    one_more (lines place bytes) (lines SectionStart rest) f text (without_uris SectionStart frames end) (uri_lines SectionStart frames)
    (is_refused SectionStart frames) e is ih

-- the packet lines that are passed on, the lines of the sink, and the invalid line
pub frames_are : (place : LinePlace) (frames : List Frame) (bytes : List ℕ) (end : End) → AreFrames bytes frames end
    → AreFrames (lines place bytes).passed (without_uris place frames end).list (without_uris place frames end).end
    × ((lines place bytes).lines ≡ uri_lines place frames) × ((lines place bytes).is_refused ≡ is_refused place frames)
frames_are place [] bytes end h =
    let e : lines place bytes ≡ ending bytes = end_same place bytes end h in
    (subst (λ xs. IsEnd xs end) (sym (ap (λ (p : Parts). p.passed) e)) h, ap (λ (p : Parts). p.lines) e, ap (λ (p : Parts). p.is_refused) e)
frames_are place (payload p ∷ frames) bytes end h =
    by_line place (fate place p) bytes h.0 p h.1 frames end h.3 (ap (lines place) h.2 ∙ line_front place h.0 p h.1 h.3)
    (λ next. frames_are next frames h.1 end h.4)
frames_are place (special Delimiter ∷ frames) bytes end h =
    by_delimiter place (in_uris place) bytes h.0 h.1 frames end h.3 (ap (lines place) h.2 ∙ delimited place h.0 h.1 h.3)
    (λ next. frames_are next frames h.1 end h.4)
frames_are place (special Flush ∷ frames) bytes end h =
    by_flush place (in_uris place) (special Flush) bytes h.0 h.1 frames end h.3
    (ap (lines place) h.2 ∙ flushed place 0 h.0 h.1 h.3 refl refl) (frames_are SectionStart frames h.1 end h.4)
frames_are place (special ResponseEnd ∷ frames) bytes end h =
    by_flush place (in_uris place) (special ResponseEnd) bytes h.0 h.1 frames end h.3
    (ap (lines place) h.2 ∙ flushed place 2 h.0 h.1 h.3 refl refl) (frames_are SectionStart frames h.1 end h.4)
frames_are place (special Text ∷ frames) bytes end h = absurd h.3
