-- The parts of the URL, in order.
use Rattle.gixp_url.proofs.password.redacted_url.Goals as goal

pub returns : goal.returns
returns c =
    let front = c.in_ok-url.ensures.items in
    let mark = c.in_ok-extend_from_slice.ensures.items in
    let user = c.in_ok-extend_from_slice-2.ensures.items in
    let end = c.in_ok-extend_from_slice-3.ensures.items in
    let host = c.in_ok-extend_from_slice-4.ensures.items in
    let path = c.in_ok-extend_from_slice-5.ensures.items in
    let whole = c.from.ensures in
    cc
