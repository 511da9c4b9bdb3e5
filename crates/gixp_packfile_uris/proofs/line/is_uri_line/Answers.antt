use Rattle.std.proofs.Common.{◌≡◌, ◌∙◌, nat_lt, true, false, arith, ap, sym, length, take, drop}
use Rattle.std.specs.Prelude.{codes, slice_range}
use Rattle.std.specs.List.{list_all}
use Rattle.std.specs.Str.{bytes_eq}
use Rattle.std.specs.Char.{is_ascii_hexdigit}
use Rattle.std.proofs.lemmas.List.{length-take-le, take_rest}
use Rattle.gixp_packfile_uris.specs.Line.{is_uri_byte}
use Rattle.gixp_packfile_uris.proofs.PartsLemmas.{not_less}
use Rattle.gixp_packfile_uris.proofs.line.is_uri_line.Goals as goal

pub slice_bounds-digits-end : goal.slice_bounds-digits-end
slice_bounds-digits-end c = sym (length-take-le 40 c.args.text.now (omega (arith, c.if-text-lt42.false)))

pub returns-then-eq : goal.returns-then-eq
returns-then-eq c =
    let text = c.args.text.now in
    let t : nat_lt (length text) 42 ≡ false = not_less (length text) 42 c.if-text-lt42.false in
    let a : list_all is_ascii_hexdigit (take 40 text) ≡ true = sym c.are_digits.ensures ∙ c.if-are_digits.true in
    let b : bytes_eq (slice_range text 40 41) (codes " ") ≡ true =
    ap (bytes_eq (take 1 (drop 40 text))) (sym c.as_slice.ensures) ∙ (sym c.eq.ensures ∙ c.if-eq.true) in
    rw (t, a, b) (c.are_uri_bytes.ensures ∙ ap (list_all is_uri_byte) (take_rest text 41))
