-- What the refs of an answer, read one by one, make of it, and what a fresh reader says of the stream it reads.
use Rattle.std.proofs.Common.{◌≡◌, ℕ, Bool, inl, inr, true, false, cond, List, [], ◌∷◌, ◌++◌, Option, Some, None, IfSome, refl, sym, ap, subst, ◌∙◌, append_assoc, append-nil, flat_map, Result, Ok, Err}
use Rattle.std.specs.Prelude.{codes}
use Rattle.std.proofs.lemmas.Bool.{true≢false}
use Rattle.std.proofs.lemmas.Grind.{flat_map-append}
use Rattle.gixp_packetline.specs.Items.{is_stop}
use Rattle.gixp_packetline.specs.Lines.{gives, stops, refuses, next_from, next_of, Lines, lines_from, lines_of, lines_to, stop}
use Rattle.gixp_packetline.specs.Pieces.{Refusal, Piece, line, mark, Pieces, io, decode, server, unexpected_frame, not_utf8, bad_band, interrupted, memory}
use Rattle.gixp_packetline.specs.Reading.{Reading, TakesLine, IsOutside, IsPlain, Rose, lines_ahead, lines_from_stop}
use Rattle.gixp_refs.specs.RefLine.{RefsRefusal, refusal_from, v2_line}
use Rattle.gixp_refs.specs.Ref.{RefValue, ref_value}
use Rattle.gixp_refs.specs.WrittenLine.{written_line, IsWrittenLine}
use Rattle.gixp_refs.specs.declared.handshake.Ref.{Ref}
use Rattle.gixp_refs.specs.ParseError.{AnswersRefs, parse_refusal, is_outside}
use Rattle.gixp_refs.specs.declared.handshake.refs.parse.Error.{Error}
use Rattle.gixp_refs.specs.declared.handshake.refs.parse.Error.TheVariants.{Memory}
use Rattle.gixp_refs.specs.Refs.{with_ref, v2_refs, ReadsRefs, RefsFail, NextRef}
use Rattle.gixp_refs.proofs.RefsLemmas.{refs-start, refs-stop, next-value, next-refused}
use Rattle.gixp_planner.specs.ListedRefs.{Prints, PrintsLine, PrintsNext, after_stop, StopsAfter, PrintsAhead, is_device, RefusesAhead}

-- these values in front of those to come
abbrev in_front : List RefValue → Result (List RefValue) RefsRefusal → Result (List RefValue) RefsRefusal
in_front vs (Ok ws) = Ok (vs ++ ws)
in_front vs (Err e) = Err e

none_in_front : (r : Result (List RefValue) RefsRefusal) → r ≡ in_front [] r
none_in_front (Ok ws) = refl
none_in_front (Err e) = refl

one_in_front : (vs : List RefValue) (v : RefValue) (r : Result (List RefValue) RefsRefusal)
    → in_front vs (with_ref (Ok v) r) ≡ in_front (vs ++ v ∷ []) r
one_in_front vs v (Ok ws) = ap Ok (sym (append_assoc vs (v ∷ []) ws))
one_in_front vs v (Err e) = refl

-- the lines to come end alike
abbrev pub EndsAlike : Reading → Reading → Type 0
EndsAlike old now =
    IfSome old.to_come (λ p. (q : Pieces) × (now.to_come ≡ Some q) × ((lines_ahead old p).ending ≡ (lines_ahead now q).ending))

ends_alike-start : (r : Reading) → EndsAlike r r
ends_alike-start r = at r.to_come
  where
    at : (o : Option Pieces) → IfSome o (λ p. (q : Pieces) × (o ≡ Some q) × ((lines_ahead r p).ending ≡ (lines_ahead r q).ending))
    at None = tt
    at (Some p) = (p, refl, refl)

ends_alike-more : (old mid new : Reading) → EndsAlike old mid → EndsAlike mid new → EndsAlike old new
ends_alike-more old mid new h k = at old.to_come mid.to_come h k
  where
    at : (o m : Option Pieces) → IfSome o (λ p. (q : Pieces) × (m ≡ Some q) × ((lines_ahead old p).ending ≡ (lines_ahead mid q).ending))
        → IfSome m (λ p. (q : Pieces) × (new.to_come ≡ Some q) × ((lines_ahead mid p).ending ≡ (lines_ahead new q).ending))
        → IfSome o (λ p. (q : Pieces) × (new.to_come ≡ Some q) × ((lines_ahead old p).ending ≡ (lines_ahead new q).ending))
    at None m a b = tt
    at (Some p) None a b = absurd (let e = a.1 in cc)
    at (Some p) (Some q) a b =
        let same : a.0 ≡ q = let e = a.1 in cc in
        (b.0, b.1, a.2 ∙ ap (λ x. (lines_ahead mid x).ending) same ∙ b.2)

-- a line that is taken leaves the end of those to come
ending_after_line : (r : Reading) (list : List Piece) (end : Refusal) (text : List ℕ) (q : Pieces)
    → next_from r.version list end ≡ gives text q → (lines_from r.version list end).ending ≡ (lines_of r.version q).ending
ending_after_line r [] end text q h = cc
ending_after_line r (line t ∷ ps) end text q h =
    let p : Pieces = record { list = ps; end = end } in
    let same : p ≡ q = cc in
    ap (λ x. (lines_of r.version x).ending) same
ending_after_line r (mark kind ∷ ps) end text q h = absurd (at (is_stop r.version kind) h)
  where
    at : (b : Bool) → cond b (stops kind (record { list = ps; end = end })) (refuses unexpected_frame) ≡ gives text q → ⊥
    at true k = cc
    at false k = cc

ends_alike-taken : (old new : Reading) → TakesLine old new → EndsAlike old new
ends_alike-taken old new h = at old.to_come h.next
  where
    at : (o : Option Pieces) → IfSome o (λ p. (q : Pieces) × (new.to_come ≡ Some q) × (next_of old.version p ≡ gives new.line q))
        → IfSome o (λ p. (q : Pieces) × (new.to_come ≡ Some q) × ((lines_ahead old p).ending ≡ (lines_ahead new q).ending))
    at None k = tt
    at (Some p) k = (
      k.0,
      k.1,
      ap (λ s. (lines_from_stop s old.version p).ending) h.running ∙ ending_after_line old p.list p.end new.line k.0 k.2
          ∙ sym (ap (λ s. (lines_from_stop s new.version k.0).ending) h.stopped ∙ ap (λ v. (lines_of v k.0).ending) h.version),
    )

-- the refs between two readings are printed, and stand in front of those to come
pub record Printed (old now : Reading) (text : List ℕ) : Type 0 where
  pub values : List RefValue
  pub printed : text ≡ flat_map written_line values
  pub ahead : IfSome old.to_come (λ p. (q : Pieces) × (now.to_come ≡ Some q)
      × (v2_refs (lines_ahead old p) ≡ in_front values (v2_refs (lines_ahead now q))))
  pub ending : EndsAlike old now
  pub failures : now.failures ≡ old.failures

-- at first none
pub printed-start : (r : Reading) → Printed r r []
printed-start r = record { values = []; printed = refl; ahead = at r.to_come; ending = ends_alike-start r; failures = refl }
  where
    at : (o : Option Pieces) → IfSome o (λ p. (q : Pieces) × (o ≡ Some q)
        × (v2_refs (lines_ahead r p) ≡ in_front [] (v2_refs (lines_ahead r q))))
    at None = tt
    at (Some p) = (p, refl, none_in_front (v2_refs (lines_ahead r p)))

-- then one more
pub printed-more : (old mid new : Reading) (text more : List ℕ) (v : RefValue) → Printed old mid text
    → IfSome mid.to_come (λ p. (q : Pieces) × (new.to_come ≡ Some q)
    × (v2_refs (lines_ahead mid p) ≡ with_ref (Ok v) (v2_refs (lines_ahead new q))))
    → more ≡ text ++ written_line v → TakesLine mid new → Printed old new more
printed-more old mid new text more v h k e t = record {
  values = h.values ++ v ∷ [];
  printed = e ∙ ap (λ l. l ++ written_line v) h.printed
      ∙ sym (flat_map-append written_line h.values (v ∷ []) ∙ ap (λ l. flat_map written_line h.values ++ l) (append-nil (written_line v)));
  ahead = at old.to_come mid.to_come h.ahead k;
  ending = ends_alike-more old mid new h.ending (ends_alike-taken mid new t);
  failures = t.failures ∙ h.failures;
}
  where
    at : (o m : Option Pieces) → IfSome o (λ p. (q : Pieces) × (m ≡ Some q)
        × (v2_refs (lines_ahead old p) ≡ in_front h.values (v2_refs (lines_ahead mid q))))
        → IfSome m (λ p. (q : Pieces) × (new.to_come ≡ Some q)
        × (v2_refs (lines_ahead mid p) ≡ with_ref (Ok v) (v2_refs (lines_ahead new q))))
        → IfSome o (λ p. (q : Pieces) × (new.to_come ≡ Some q)
        × (v2_refs (lines_ahead old p) ≡ in_front (h.values ++ v ∷ []) (v2_refs (lines_ahead new q))))
    at None m a b = tt
    at (Some p) None a b = absurd (let e = a.1 in cc)
    at (Some p) (Some q) a b =
        let same : a.0 ≡ q = let e = a.1 in cc in (
          b.0,
          b.1,
          a.2 ∙ ap (λ x. in_front h.values (v2_refs (lines_ahead mid x))) same ∙ ap (in_front h.values) b.2
              ∙ one_in_front h.values v (v2_refs (lines_ahead new b.0)),
        )

-- then one more, as the call for it tells
pub printed-next : (plain : Bool) (old mid new : Reading) (text more : List ℕ) → Printed old mid text
    → PrintsNext plain mid new text more (Ok true)
    → Printed old new more
printed-next plain old mid new text more h k =
    printed-more old mid new text more k.0 h (next-value mid new k.0 k.1 k.2) k.3 k.1

-- what is still to come decides of all
printed_rest : (old mid : Reading) (text : List ℕ) (rest : Result (List RefValue) RefsRefusal) (h : Printed old mid text)
    → IfSome mid.to_come (λ p. v2_refs (lines_ahead mid p) ≡ rest)
    → IfSome old.to_come (λ p. v2_refs (lines_ahead old p) ≡ in_front h.values rest)
printed_rest old mid text rest h k = at old.to_come mid.to_come h.ahead k
  where
    at : (o m : Option Pieces) → IfSome o (λ p. (q : Pieces) × (m ≡ Some q)
        × (v2_refs (lines_ahead old p) ≡ in_front h.values (v2_refs (lines_ahead mid q))))
        → IfSome m (λ p. v2_refs (lines_ahead mid p) ≡ rest) → IfSome o (λ p. v2_refs (lines_ahead old p) ≡ in_front h.values rest)
    at None m a b = tt
    at (Some p) None a b = absurd (let e = a.1 in cc)
    at (Some p) (Some q) a b =
        let same : a.0 ≡ q = let e = a.1 in cc in
        a.2 ∙ ap (λ x. in_front h.values (v2_refs (lines_ahead mid x))) same ∙ ap (in_front h.values) b

-- where the lines to come end at a stop, so did those before
stops_after_refs : (old mid new : Reading) → EndsAlike old mid → mid.failures ≡ old.failures → ReadsRefs mid new [] → StopsAfter old new
stops_after_refs old mid new h f k =
    record { stopped = rw k.stopped refl; rest = at old.to_come mid.to_come h k.lines; failures = k.failures ∙ f }
  where
    at : (o m : Option Pieces) → IfSome o (λ p. (q : Pieces) × (m ≡ Some q) × ((lines_ahead old p).ending ≡ (lines_ahead mid q).ending))
        → IfSome m (λ p. (q : Pieces) × (new.to_come ≡ Some q) × (lines_ahead mid p ≡ lines_to k.texts (stop k.kind q)))
        → IfSome o (λ p. (q : Pieces) × (new.to_come ≡ Some q) × (after_stop (lines_ahead old p).ending ≡ Some q))
    at None m a b = tt
    at (Some p) None a b = absurd (let e = a.1 in cc)
    at (Some p) (Some q) a b =
        let same : a.0 ≡ q = let e = a.1 in cc in
        (b.0, b.1, ap after_stop (a.2 ∙ ap (λ x. (lines_ahead mid x).ending) same ∙ ap (λ (l : Lines). l.ending) b.2))

-- at the stop these are all
printed-all : (old mid new : Reading) (text : List ℕ) → Printed old mid text → ReadsRefs mid new [] → PrintsAhead old new text
printed-all old mid new text h k = record {
  printed = at old.to_come (printed_rest old mid text (Ok []) h k.value);
  following = stops_after_refs old mid new h.ending h.failures k;
}
  where
    at : (o : Option Pieces) → IfSome o (λ p. v2_refs (lines_ahead old p) ≡ Ok (h.values ++ []))
        → IfSome o (λ p. Prints (Some []) (Some text) (v2_refs (lines_ahead old p)))
    at None a = tt
    at (Some p) a = rw (a, append-nil) h.printed

-- at the stop these are all, as the call there tells
pub printed-stop : (plain : Bool) (old mid new : Reading) (text same : List ℕ) → Printed old mid text
    → PrintsNext plain mid new text same (Ok false)
    → PrintsAhead old new same
printed-stop plain old mid new text same h k = rw k.1 (printed-all old mid new text h (refs-stop mid mid new [] (refs-start mid) k.0))

-- a refusal that came from outside is a failed read's or an allocation failure's
outside_is : (r : Refusal) (now new : Reading) → IsOutside now new r → IsPlain new r → is_outside (refusal_from r) ≡ true
outside_is (io kind) now new h p = refl
outside_is memory now new h p = refl
outside_is (decode e) now new (inl h) p = absurd h.fault
outside_is (decode e) now new (inr h) p = absurd (let e = h.refusal in cc)
outside_is (server m) now new (inl h) p = absurd h.fault
outside_is (server m) now new (inr h) p = absurd (let e = h.refusal in cc)
outside_is unexpected_frame now new (inl h) p = absurd h.fault
outside_is unexpected_frame now new (inr h) p = absurd (let e = h.refusal in cc)
outside_is not_utf8 now new (inl h) p = absurd h.fault
outside_is not_utf8 now new (inr h) p = absurd (let e = h.refusal in cc)
outside_is (bad_band b) now new h p = absurd p
outside_is interrupted now new h p = absurd p

-- a read that failed was counted
device_rose : (r : Refusal) (now new : Reading) → IsOutside now new r → is_device (refusal_from r) ≡ true → Rose now.failures new.failures
device_rose (io kind) now new (inl h) d = h.fault.2
device_rose (io kind) now new (inr h) d = h.failures
device_rose memory now new h d = cc
device_rose (decode e) now new h d = cc
device_rose (server m) now new h d = cc
device_rose unexpected_frame now new h d = cc
device_rose not_utf8 now new h d = cc
device_rose (bad_band b) now new h d = cc
device_rose interrupted now new h d = cc

-- a refusal of what is still to come is that of all
printed-refused : (plain : Bool) (old mid new : Reading) (text : List ℕ) (e : Error) → Printed old mid text
    → RefsFail plain mid new e → RefusesAhead plain old new e
printed-refused plain old mid new text e h (inl k) = inl (record {
  why = k.refusal;
  first = printed_rest old mid text (Err k.refusal) h k.first;
  by = inl (k.last.text, k.last.line);
  error = k.error;
})
printed-refused plain old mid new text e h (inr (inl k)) = inl (record {
  why = refusal_from k.refusal;
  first = printed_rest old mid text (Err (refusal_from k.refusal)) h k.first;
  by = inr (k.refusal, k.refused.refused, refl);
  error = λ _. k.error;
})
printed-refused plain old mid new text e h (inr (inr (inl k))) = inr (record {
  outside = λ p. ap is_outside k.error ∙ outside_is k.refusal k.now new k.failed (k.is_plain p);
  counted = λ d. subst (λ n. Rose n new.failures) (k.read.failures ∙ h.failures)
      (device_rose k.refusal k.now new k.failed (ap is_device (sym k.error) ∙ d));
})
printed-refused plain old mid new text e h (inr (inr (inr k))) = inr (record {
  outside = λ p. ap (λ x. is_outside (parse_refusal x)) k.error;
  counted = λ d. let no : is_device (parse_refusal e) ≡ false = ap (λ x. is_device (parse_refusal x)) k.error in
      absurd (true≢false (sym d ∙ no));
})

-- a refusal of the next ref is that of all
pub printed-next_refused : (plain : Bool) (old mid new : Reading) (text : List ℕ) (e : Error) → Printed old mid text
    → NextRef plain mid new (Err e)
    → RefusesAhead plain old new e
printed-next_refused plain old mid new text e h k =
    printed-refused plain old mid new text e h (next-refused plain mid mid new [] e (refs-start mid) k)

-- a line as git writes it is printed as it came
pub written-prints : (taken written before after : List ℕ) → IsWrittenLine taken written → after ≡ before ++ (written ++ codes "\n")
    → PrintsLine taken before after (Ok tt)
written-prints taken written before after h e =
    (h.0, h.1, e ∙ ap (λ t. before ++ t) (sym h.2))

out_of_memory : (o : Result RefValue RefsRefusal) (v : RefValue) → o ≡ Ok v → AnswersRefs ref_value o (Err Memory)
out_of_memory (Ok w) v h = refl
out_of_memory (Err r) v h = cc

-- or memory runs out
pub written-memory : (taken written : List ℕ) → IsWrittenLine taken written → AnswersRefs ref_value (v2_line taken) (Err Memory)
written-memory taken written h = out_of_memory (v2_line taken) h.0 h.1

value_found : (o : Result RefValue RefsRefusal) (found : Ref) → AnswersRefs ref_value o (Ok found) → o ≡ Ok (ref_value found)
value_found (Ok v) found h = ap Ok (sym h)
value_found (Err r) found h = absurd h

-- any other line by its ref
pub found-prints : (taken before after : List ℕ) (found : Ref) → AnswersRefs ref_value (v2_line taken) (Ok found)
    → after ≡ before ++ written_line (ref_value found) → PrintsLine taken before after (Ok tt)
found-prints taken before after found h e = (ref_value found, value_found (v2_line taken) found h, e)

pub found-memory : (taken : List ℕ) (found : Ref) → AnswersRefs ref_value (v2_line taken) (Ok found)
    → AnswersRefs ref_value (v2_line taken) (Err Memory)
found-memory taken found h = out_of_memory (v2_line taken) (ref_value found) (value_found (v2_line taken) found h)
