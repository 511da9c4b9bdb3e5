-- Whether the server closed an old session.
use Rattle.std.specs.Prelude.{◌&&◌, not, Bool, false, Result, Ok, Err}
use Rattle.gixp_url.specs.Url.{is_web}
use Rattle.gixp_url.specs.declared.address.Scheme.{Scheme}
use Rattle.gixp_remote_session.specs.Errors.{is_hang_up}
use Rattle.gixp_remote_session.specs.declared.pack.state.PackState.{PackState}
use Rattle.gixp_remote_session.specs.declared.pack.state.PackState.TheVariants.{Unbegun}
use Rattle.gixp_remote_session.specs.declared.error.Error.{Error}

-- the fetch failed since the server closed the connection before a pack began; a web server gets
-- each request on its own
abbrev pub server_left : {C : Type 0} → Result C Error → PackState → Scheme → Bool
server_left (Ok fetched) pack scheme = false
server_left (Err e) Unbegun scheme = is_hang_up e && not (is_web scheme)
server_left (Err e) _ scheme = false
