-- Bodies read one by one: those so far stand in front of those to come.
use Rattle.std.proofs.Common.{ℕ, List, [], ◌++◌, Option, Vec, Result, subst, append-nil}
use Rattle.std.specs.declared.alloc.Global.{Global}
use Rattle.std.specs.declared.io.ErrorKind.{ErrorKind}
use Rattle.gixp_transport.specs.declared.bodies.Body.{Body}
use Rattle.gixp_planner.specs.Recorded.{AreBodies}

-- the file of this number gives none
pub bodies-last : (Gives : ℕ → Result (Option (Vec ℕ Global)) ErrorKind → Type 0) (k : ℕ) (bodies : List Body)
    (last : Result (Option (Vec ℕ Global)) ErrorKind)
    → ((rest : List Body) (end : Result (Option (Vec ℕ Global)) ErrorKind) → AreBodies Gives k rest end
    → AreBodies Gives 0 (bodies ++ rest) end) → Gives k last → AreBodies Gives 0 bodies last
bodies-last Gives k bodies last so_far given = subst (λ bs. AreBodies Gives 0 bs last) (append-nil bodies) (so_far [] last given)
