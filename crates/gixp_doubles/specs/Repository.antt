-- The state that calls of a recording repository leave unchanged.
use Rattle.std.specs.Prelude.{◌≡◌}
use Rattle.gixp_doubles.specs.declared.objects.MemoryObjects.{MemoryObjects}
use Rattle.gixp_doubles.specs.declared.refs.MemoryRefs.{MemoryRefs}

-- the records of calls and the errors to come are unchanged
abbrev pub KeepsCalls : MemoryObjects → MemoryObjects → Type 0
KeepsCalls old new = (new.looked_up ≡ old.looked_up) × (new.corrupt ≡ old.corrupt) × (new.calls ≡ old.calls) × (new.error ≡ old.error)
    × (new.failures ≡ old.failures)

-- the peeled ids and the error to come are unchanged
abbrev pub KeepsTargets : MemoryRefs → MemoryRefs → Type 0
KeepsTargets old new = (new.targets ≡ old.targets) × (new.error ≡ old.error) × (new.failures ≡ old.failures)
