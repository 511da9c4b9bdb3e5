-- Stored refs.
use Rattle.std.specs.Prelude.{ℕ}
use Rattle.std.specs.declared.vec.Vec.{Vec}
use Rattle.std.specs.declared.alloc.Global.{Global}
use Rattle.gixp_memory.specs.declared.stored_refs.StoredRef.{StoredRef}
use Rattle.gixp_memory.specs.Repository.{PeeledRef}

-- a stored ref with its name
abbrev pub named_ref : Vec ℕ Global × StoredRef → PeeledRef
named_ref e = record { name = e.0.items; id = e.1.id; peeled = e.1.peeled }
