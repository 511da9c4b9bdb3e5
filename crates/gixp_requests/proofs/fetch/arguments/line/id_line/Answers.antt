-- The word, and the id after it.
use Rattle.std.proofs.Common.{◌≡◌, ◌≤◌, ◌++◌, List, ℕ, length, take, drop, refl, ap, ◌∙◌, arith, append-nil}
use Rattle.std.proofs.Math.ListN.{drop_of_length-le}
use Rattle.std.proofs.Math.Seq.{take-append_seam, drop-append_seam}
use Rattle.gixp_requests.proofs.fetch.arguments.line.id_line.Goals as goal

-- all bytes after a front are replaced
following_front : (w z h : List ℕ) (a k : ℕ) → length w ≡ a → length z ≤ k → take a (w ++ z) ++ (h ++ drop k (drop a (w ++ z))) ≡ w ++ h
following_front w z h a k e l =
    rw (← e, take-append_seam w z, drop-append_seam w z, drop_of_length-le z l, append-nil) refl

pub returns : goal.returns
returns c =
    let w = c.copy_from_slice.new.self in
    let h = c.copy_from_slice-2.new.self in
    following_front w _ h 5 40 (omega arith) (omega arith) ∙ ap (λ x. x ++ h) c.copy_from_slice.ensures.after
    ∙ ap (λ x. c.args.word.now ++ x) (c.copy_from_slice-2.ensures.after ∙ c.to_hex.ensures)
