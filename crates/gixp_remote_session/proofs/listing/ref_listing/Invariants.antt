-- The lines and the broken names so far.
use Rattle.std.proofs.Common.{◌≡◌, ◌++◌, take, flat_map, map}
use Rattle.bstr.specs.Owned.{bstring_bytes}
use Rattle.gixp_updates.specs.RefNames.{has_text}
use Rattle.gixp_remote_session.specs.RefLines.{fitting_lines, broken_name, format_line}
use Rattle.gixp_remote_session.proofs.listing.ref_listing.Given as goal

abbrev pub invariant-refs : goal.invariant-refs
invariant-refs l = record {
  text : l.listing.text.items ≡ format_line l.fn.lists_format ++ flat_map (fitting_lines (has_text l.holders)) (take l.found-index l.refs);
  broken : map bstring_bytes l.listing.broken.items ≡ flat_map broken_name (take l.found-index l.refs);
}
