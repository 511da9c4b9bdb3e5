use Rattle.std.proofs.Common.{◌++◌, ◌∷◌, [], ◌∙◌, inr, sym, ap, codes, flat_map}
use Rattle.std.proofs.lemmas.Result.{err_from_is_err_and}
use Rattle.gixp_packetline.specs.Frames.{frames_of}
use Rattle.gixp_utils.specs.Pieces.{joined}
use Rattle.gixp_planner.specs.Text.{frame_shown}
use Rattle.gixp_planner.proofs.PrintLemmas.{written_none, then-fails, then-rest}
use Rattle.gixp_planner.proofs.print.write_request.Goals as goal

pub returns-in_default : goal.returns-in_default
returns-in_default g c = (written_none _ _, inr c.memory.ensures)

pub returns-in_err-append_pieces : goal.returns-in_err-append_pieces
returns-in_err-append_pieces g c = let p = err_from_is_err_and c.from_residual.result c.from_residual.ensures.1 in
    rw (p.1, p.2) (
      then-fails _ _ _ _ (flat_map frame_shown (frames_of c.args.request.now).list) _ c.in_err-append_pieces.ensures.text.0
          (ap (λ t. joined (codes "request " ∷ t ∷ codes "\n" ∷ []) ++ flat_map frame_shown (frames_of c.args.request.now).list)
          (sym (c.as_bytes.ensures.value ∙ c.in-Ok.ensures.ok))),
      c.in_err-append_pieces.ensures.text.1,
    )

pub returns : goal.returns
returns g c = then-rest _ _ _ _ _ _ _ _ _ _ c.in_ok-append_pieces.ensures.text c.write_packet_lines.ensures
    (ap (λ t. joined (codes "request " ∷ t ∷ codes "\n" ∷ []) ++ flat_map frame_shown (frames_of c.args.request.now).list)
    (sym (c.as_bytes.ensures.value ∙ c.in-Ok.ensures.ok)))
