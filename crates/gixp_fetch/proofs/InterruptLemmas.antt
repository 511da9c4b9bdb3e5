-- Whether reading a response through a sideband asks the interrupt.
use Rattle.std.proofs.Common.{◌≡◌, ◌+◌, ap, sym, subst, ◌∙◌, Bool, true, false, length, None, IfSome, refl, inl, inr, arith}
use Rattle.std.specs.Borrow.{GName}
use Rattle.gixp_packetline.specs.Reading.{Reading, TakesLine}
use Rattle.gixp_sidebands.specs.Bands.{Side, is_begun}
use Rattle.gixp_sidebands.specs.Reporting.{Listener}
use Rattle.gixp_sidebands.specs.Questions.{one_if, TakesTexts, NoFewer, Asked, AskedBelow}
use Rattle.gixp_sidebands.specs.QuestionsAgain.{takes-all}
use Rattle.gixp_fetch.specs.View.{AsksThrough}

module _ {I : Type 0} (polls : I → Bool → I → Type 0) where
  -- the interrupt isn't asked any more
  asked-following : (stops : Bool) (ra rb rc : Reading) (a b : I) → Asked polls stops ra rb a b → NoFewer rb rc
      → IfSome rb.to_come (TakesTexts 0 rb rc) → Asked polls stops ra rc a b
  asked-following stops ra rb rc a b g f h = record {
    after = g.after;
    polled = g.polled;
    failures = let x = g.failures in omega (arith, x, f);
    each =
        let n : (length g.after + one_if stops) + 0 ≡ length g.after + one_if stops = omega arith in
        subst (λ n. IfSome ra.to_come (TakesTexts n ra rc)) n (takes-all (length g.after + one_if stops) 0 ra rb rc g.failures f g.each h);
  }

  below-following : (plain stops : Bool) (ra rb rc : Reading) (a b : I) → AskedBelow polls plain stops ra rb a b → NoFewer rb rc
      → IfSome rb.to_come (TakesTexts 0 rb rc) → AskedBelow polls plain stops ra rc a b
  below-following plain stops ra rb rc a b (inl g) f h = inl (asked-following stops ra rb rc a b g f h)
  below-following plain stops ra rb rc a b (inr g) f h = inr (g.0, g.1, asked-following false ra rb rc a b g.2 f h)

  not_fewer : (end : Side) (out : Reading) → (is_begun end.place ≡ true → TakesLine end.reading out)
      → (is_begun end.place ≡ false → out ≡ end.reading) → NoFewer end.reading out
  not_fewer end out t f = by (is_begun end.place) t f
    where
      by : (b : Bool) → (b ≡ true → TakesLine end.reading out) → (b ≡ false → out ≡ end.reading) → NoFewer end.reading out
      by true t f = let x = (t refl).failures in omega (arith, x)
      by false t f = let x = ap (λ (r : Reading). r.failures) (f refl) in omega (arith, x)

  -- a sideband reader returns the transport and the interrupt
  pub back_asks : {P : Type 0} (plain stops : Bool) (start end : Side) (from out new : Reading) (side_name side_asks : GName)
      (completed : Listener P I) (first : P) (old last given now : I) (name start_name end_name out_name : GName)
      → start ≡ record { place = None; name = side_name; asks = side_asks; reading = from; fault = None }
      → (is_begun end.place ≡ true → TakesLine end.reading out) → (is_begun end.place ≡ false → out ≡ end.reading)
      → IfSome end.reading.to_come (TakesTexts 0 end.reading out) → new ≡ out
      → completed ≡ record { progress = first; interrupt = old } → start_name ≡ name → out_name ≡ end_name → given ≡ last
      → (name ≡ out_name → now ≡ given)
      → AskedBelow polls plain stops start.reading end.reading completed.interrupt last × (end_name ≡ start_name)
      → AskedBelow polls plain stops from new old now
  back_asks {P} plain stops start end from out new side_name side_asks completed first old last given now name start_name end_name out_name
      made t f texts is_out s n o e back g =
      let l : AskedBelow polls plain stops start.reading out completed.interrupt last =
      below-following plain stops start.reading end.reading out completed.interrupt last g.0 (not_fewer end out t f) texts in
      subst (λ x. AskedBelow polls plain stops from new old x) (sym (back (sym n ∙ sym g.1 ∙ sym o) ∙ e))
      (subst (λ x. AskedBelow polls plain stops from x old last) (sym is_out)
      (subst (λ (x : Listener P I). AskedBelow polls plain stops from out x.interrupt last) s
      (subst (λ (x : Side). AskedBelow polls plain stops x.reading out completed.interrupt last) made l)))

  -- as a session sees it
  pub asks_banded : (b plain stops : Bool) (old new : Reading) (x y : I) → b ≡ true → AskedBelow polls plain stops old new x y
      → AsksThrough polls b plain stops old new x y
  asks_banded true plain stops old new x y e h = h
  asks_banded false plain stops old new x y e h = absurd (let z = e in cc)

  pub asks_nobody : (b plain stops : Bool) (old new : Reading) (x y : I) → b ≡ false → y ≡ x → AsksThrough polls b plain stops old new x y
  asks_nobody false plain stops old new x y e h = h
  asks_nobody true plain stops old new x y e h = absurd (let z = e in cc)
