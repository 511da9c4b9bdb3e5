-- The update in a line of a server.
use Rattle.std.proofs.Common.{◌≡◌, Bool, true, false, Option, None, refl}
use Rattle.gix_protocol.specs.ShallowUpdateType.{ShallowUpdate}
use Rattle.gixp_remote_session.specs.ShallowLines.{update_if}

-- a text that isn't UTF-8 has no update
pub no_text : (begins utf8 : Bool) (update : Option ShallowUpdate) → utf8 ≡ false → None ≡ update_if begins utf8 update
no_text true utf8 update h = rw h refl
no_text false utf8 update h = refl

-- another has the one that is read
pub begun_update : (begins utf8 : Bool) (found update : Option ShallowUpdate) → begins ≡ true → utf8 ≡ true → found ≡ update
    → found ≡ update_if begins utf8 update
begun_update begins utf8 found update b u e = rw (b, u) e
