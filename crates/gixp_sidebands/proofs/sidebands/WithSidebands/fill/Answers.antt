use native.Mathlib.Omega.{arith}
use Rattle.std.proofs.Common.{ap, sym, refl, ◌∙◌, rules}
use Rattle.std.proofs.lemmas.Grind.{common_steps}
use Rattle.std.specs.Option.{option_map}
use Rattle.gixp_packetline.specs.Reading.{refusal_of}
use Rattle.gixp_sidebands.proofs.ContentLemmas.{fills_by, refuses_by, none_of}
use Rattle.gixp_sidebands.proofs.sidebands.WithSidebands.fill.Goals as goal

pub returns-in-Ok-clause-fills : goal.returns-in-Ok-clause-fills
returns-in-Ok-clause-fills g c =
    fills_by _ _ c.in-Ok.more (none_of _ (sym c.if-is_open.ensures)) c.in-Ok.ensures.place
    (ap (option_map refusal_of) c.in-Ok.ensures.fault) c.skip_to_content.new.self.front.held c.in-Ok.ensures.first c.in-Ok.ensures.peeks

pub returns-in-Err-clause-fills : goal.returns-in-Err-clause-fills
returns-in-Err-clause-fills g c =
    refuses_by _ _ (refusal_of c.in-Err.e) _ (none_of _ (sym c.if-is_open.ensures)) c.in-Err.ensures.place refl
    (c.from-error.ensures ∙ c.io_kind.ensures) c.in-Err.ensures.peeks

pub returns-then-is_open-clause-fills : goal.returns-then-is_open-clause-fills
returns-then-is_open-clause-fills g c = grind (arith, common_steps)

pub returns-then-is_open-clause-reported : goal.returns-then-is_open-clause-reported
returns-then-is_open-clause-reported g c = search rules
