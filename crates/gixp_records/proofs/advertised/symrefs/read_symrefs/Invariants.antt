use Rattle.std.proofs.Common.{◌≡◌, map}
use Rattle.std.specs.Prelude.{All, IfSome}
use Rattle.std.specs.Option.{option_map}
use Rattle.gixp_capabilities.specs.Capabilities.{capabilities_of_words}
use Rattle.gixp_refs.specs.RefAdvertisement.{symref_table, in_front}
use Rattle.gixp_records.specs.Span.{text_at, IsWithin}
use Rattle.gixp_records.specs.V1RecordLine.{symref_at, IsSymrefWithin}
use Rattle.gixp_records.proofs.SymrefSpanLemmas.{symrefs_left, span_left}
use Rattle.gixp_records.proofs.advertised.symrefs.read_symrefs.Given as goal

abbrev pub invariant-loop-rest : goal.invariant-loop-rest
invariant-loop-rest l = record {
  so_far : symref_table (capabilities_of_words (text_at l.bytes l.fn.capabilities))
      ≡ in_front (map (symref_at l.bytes) l.found.items) (symrefs_left (option_map (text_at l.bytes) l.rest));
  rest : IfSome l.rest (IsWithin l.bytes);
  within : All (IsSymrefWithin l.bytes) l.found.items;
}

abbrev pub decreases-loop-rest : goal.decreases-loop-rest
decreases-loop-rest l = span_left l.rest
