-- A refspec that is written and read again is the same.
use Rattle.std.proofs.Common.{◌≡◌, ap, ◌∙◌, true, Result, Ok, Err}
use Rattle.std.specs.Prelude.{IfOk}
use Rattle.std.specs.declared.alloc.AllocError.{AllocError}
use Rattle.bstr.specs.declared.bstring.BString.{BString}
use Rattle.bstr.specs.Owned.{bstring_bytes}
use Rattle.gixp_refspec.specs.Spec.{Spec, is_spec, spec_of, text_of}
use Rattle.gixp_refspec.proofs.SpecLemmas.{spec_of-text_of}

-- the text that a call wrote means the refspec
pub reads_ok : (r : Result BString AllocError) (s : Spec) → is_spec s ≡ true → IfOk r (λ t. bstring_bytes t ≡ text_of s)
    → IfOk r (λ t. spec_of (bstring_bytes t) ≡ Ok s)
reads_ok (Ok t) s valid h = ap spec_of h ∙ spec_of-text_of s valid
reads_ok (Err e) s valid h = tt
