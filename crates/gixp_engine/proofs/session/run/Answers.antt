use Rattle.std.proofs.Common.{refl}
use Rattle.gixp_engine.specs.Alone.{unshaken, unfiltered, unmapped, empty}
use Rattle.gixp_engine.proofs.AloneLemmas.{session-ran, maps-made, maps-by, whole-by, took-refs, ends-whole, refused-by, lossy-by, ends-lossless, untold}
use Rattle.gixp_engine.proofs.session.run.Goals as goal

pub returns-in-Err : goal.returns-in-Err
returns-in-Err g c = unshaken c.in-Err.e c.in-Err.ensures refl

pub returns-in-Err-expect_filters : goal.returns-in-Err-expect_filters
returns-in-Err-expect_filters g c =
    unfiltered c.in-Ok.handshake c.in-Err-expect_filters.e c.in-Ok.ensures c.in-Err-expect_filters.ensures refl

pub returns-in-Err-map_of_whole : goal.returns-in-Err-map_of_whole
returns-in-Err-map_of_whole g c =
    unmapped c.in-Ok.handshake _ c.map_by-made.result c.in-Err-map_of_whole.e c.in-Ok.ensures c.in-Ok-expect_filters.ensures
    (maps-by _ _ _ _ _ _ _ _ c.needs_no_list-unlisted.ensures c.map_by-made.ensures.map)
    (refused-by _ _ _ _ _ _ c.in-Err-map_of_whole.ensures.whole (whole-by _ _ _ _ c.are_whole.ensures c.needs_no_list-unlisted.ensures)
    (lossy-by _ _ _ c.args.losses c.in-Ok.handshake c.is_lossy-lossy.ensures c.needs_no_list-unlisted.ensures)) refl

pub returns-then-is_empty : goal.returns-then-is_empty
returns-then-is_empty g c =
    empty c.in-Ok.handshake _ c.in-Ok-map_of_whole.map c.in-Ok.ensures c.in-Ok-expect_filters.ensures
    (maps-made c.args.input.specs c.in-Ok.handshake _ _ _ _ _ c.in-Ok-map_of_whole.ensures.made.0
    (maps-by _ _ _ _ _ _ _ _ c.needs_no_list-unlisted.ensures c.map_by-made.ensures.map))
    (ends-whole _ _ c.in-Ok-map_of_whole.ensures.made.1 (whole-by _ _ _ _ c.are_whole.ensures c.needs_no_list-unlisted.ensures))
    (ends-lossless _ _ c.in-Ok-map_of_whole.ensures.made.2
    (lossy-by _ _ _ c.args.losses c.in-Ok.handshake c.is_lossy-lossy.ensures c.needs_no_list-unlisted.ensures))
    (c.is_empty.ensures.0 c.if-is_empty.true) refl

pub returns : goal.returns
returns g c =
    session-ran _ _ _ _ _ _ _ _ _ _ c.in-Ok.handshake _ c.in-Ok-map_of_whole.map c.fetch_mapped-fetched.result c.new-boundary.result _ _
    c.in-Ok.ensures c.in-Ok-expect_filters.ensures
    (maps-made c.args.input.specs c.in-Ok.handshake _ _ _ _ _ c.in-Ok-map_of_whole.ensures.made.0
    (maps-by _ _ _ _ _ _ _ _ c.needs_no_list-unlisted.ensures c.map_by-made.ensures.map))
    (ends-whole _ _ c.in-Ok-map_of_whole.ensures.made.1 (whole-by _ _ _ _ c.are_whole.ensures c.needs_no_list-unlisted.ensures))
    (ends-lossless _ _ c.in-Ok-map_of_whole.ensures.made.2
    (lossy-by _ _ _ c.args.losses c.in-Ok.handshake c.is_lossy-lossy.ensures c.needs_no_list-unlisted.ensures))
    (took-refs c.in-Ok.handshake _ _ _ c.in-Ok-map_of_whole.ensures.made.0 c.map_by-made.ensures.handshake)
    (untold _ c.is_empty.ensures c.if-is_empty.false) c.new-boundary.ensures.ids c.new-boundary.ensures.locked
    c.fetch_mapped-fetched.ensures c.end_of.ensures
