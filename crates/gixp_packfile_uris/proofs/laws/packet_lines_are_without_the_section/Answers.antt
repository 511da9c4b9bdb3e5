use Rattle.gixp_packfile_uris.specs.declared.place.LinePlace.TheVariants.{SectionStart}
use Rattle.gixp_packfile_uris.proofs.FrameLemmas.{frames_are}
use Rattle.gixp_packfile_uris.proofs.laws.packet_lines_are_without_the_section.Goals as goal

pub returns : goal.returns
returns c = λ bytes frames end h. frames_are SectionStart frames bytes end h
