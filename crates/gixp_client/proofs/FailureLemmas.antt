-- What `?` returns has what the error has.
use Rattle.std.proofs.Common.{◌≡◌, Result, Ok, Err, sym, subst}
use Rattle.std.specs.Result.{IfErr, IsErrAnd}

pub failed_by : {T E : Type 0} (F : E → Type 0) (r : Result T E) (x : E) → IsErrAnd r (λ y. y ≡ x) → F x → IfErr r F
failed_by F (Ok t) x e h = absurd e
failed_by F (Err y) x e h = subst F (sym e) h
