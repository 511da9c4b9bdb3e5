use Rattle.std.proofs.Common.{◌≡◌, ℕ, List, true, Option, Some, Err, refl, sym, subst, ◌∙◌}
use Rattle.std.specs.Option.{option_map}
use Rattle.std.proofs.lemmas.Result.{err_from_is_err_and}
use Rattle.gixp_transport.specs.declared.service.Opening.{Opening}
use Rattle.gixp_packetline.specs.FrameText.{payload_text}
use Rattle.gixp_transport.specs.Greeting.{parameters_of, greeting_text, greeting_fits}
use Rattle.gixp_transport.specs.Handshake.{GreetsBy}
use Rattle.gixp_transport.specs.Connection.{greeting_of, connection_reading}
use Rattle.gixp_transport.specs.Transport.{Wrote}
use Rattle.gixp_transport.proofs.GreetingLemmas.{greets-none, greets-some, greets-refused}
use Rattle.gixp_transport.proofs.connection.Connection.greet.Goals as goal

pub returns-in_default : goal.returns-in_default
returns-in_default g c =
    let ps = parameters_of c.args.extra_parameters.now in
    let old = connection_reading g.R.Read.remaining g.W.Write.contents c.args.self.now in
    let new = connection_reading g.R.Read.remaining g.W.Write.contents c.go_on.new.self in
    let P : Option Opening → Type 0 =
    λ o. GreetsBy (option_map (greeting_of c.args.self.now.version) o) c.args.service ps old new c.go_on.result in
    subst P (sym c.in_default.is) (greets-none c.args.service ps old new c.go_on.result c.go_on.ensures)

pub returns-in_err-write_payload : goal.returns-in_err-write_payload
returns-in_err-write_payload g c =
    let ps = parameters_of c.args.extra_parameters.now in
    let old = connection_reading g.R.Read.remaining g.W.Write.contents c.args.self.now in
    let new = connection_reading g.R.Read.remaining g.W.Write.contents c.write_payload.new.self in
    let advertised = greeting_of c.args.self.now.version c.in-Some.opening in
    let fit : greeting_fits (Some advertised) c.args.service ps ≡ true = sym c.if-not-greeting_fits.ensures in
    let p = err_from_is_err_and c.from_residual-in_err-write_payload.result c.from_residual-in_err-write_payload.ensures.1 in
    let P : Option Opening → Type 0 = λ o. GreetsBy (option_map (greeting_of c.args.self.now.version) o) c.args.service ps old new
    (Err c.in_err-write_payload.field-0.0) in
    rw (p.1, p.2) (subst P (sym c.in-Some.is) (greets-refused advertised c.args.service ps old new
    (payload_text c.deref.result.now) c.in_err-write_payload.field-0.0 refl fit c.in_err-write_payload.ensures))

pub returns : goal.returns
returns g c =
    let ps = parameters_of c.args.extra_parameters.now in
    let old = connection_reading g.R.Read.remaining g.W.Write.contents c.args.self.now in
    let mid = connection_reading g.R.Read.remaining g.W.Write.contents c.write_payload.new.self in
    let new = connection_reading g.R.Read.remaining g.W.Write.contents c.go_on-2.new.self in
    let advertised = greeting_of c.args.self.now.version c.in-Some.opening in
    let text : c.deref.result.now ≡ greeting_text advertised c.args.service ps = c.deref.ensures.value ∙ c.in_ok-payload.ensures in
    let fit : greeting_fits (Some advertised) c.args.service ps ≡ true = sym c.if-not-greeting_fits.ensures in
    let Q : List ℕ → Type 0 = λ t. Wrote old mid (payload_text t) in
    let P : Option Opening → Type 0 =
    λ o. GreetsBy (option_map (greeting_of c.args.self.now.version) o) c.args.service ps old new c.go_on-2.result in
    subst P (sym c.in-Some.is) (greets-some advertised c.args.service ps old mid new c.go_on-2.result fit
    (subst Q text c.in_ok-write_payload.ensures) c.go_on-2.ensures)
