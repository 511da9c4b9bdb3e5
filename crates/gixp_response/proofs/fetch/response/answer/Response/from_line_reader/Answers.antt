use Rattle.std.proofs.Common.{◌≡◌, refl, inl, inr}
use Rattle.std.specs.Prelude.{◌⊎◌}
use Rattle.gixp_packetline.specs.declared.protocol.Protocol.{Protocol}
use Rattle.gixp_packetline.specs.declared.protocol.Protocol.TheVariants.{V0, V1}
use Rattle.gixp_response.specs.Beginnings.{Expected, v1_answer, expected}
use Rattle.gixp_response.specs.AnswerReading.{answer_of}
use Rattle.gixp_response.proofs.fetch.response.answer.Response.from_line_reader.Goals as goal

-- versions 0 and 1 have the same responses
earlier_is : (v : Protocol) (a : Expected) → (v ≡ V1) ⊎ (v ≡ V0) → answer_of v a ≡ v1_answer v a
earlier_is v a (inl h) = rw h refl
earlier_is v a (inr h) = rw h refl

pub returns-in-V2-clause-answers : goal.returns-in-V2-clause-answers
returns-in-V2-clause-answers g c = rw c.in-V2.is c.read_sections.ensures.answers

pub returns-in-V1 : goal.returns-in-V1
returns-in-V1 g c =
    rw (earlier_is c.args.version (expected c.args.client_expects_pack c.args.wants_to_negotiate) c.in-V1.is) c.read_beginning.ensures
