-- The prefixes that were appended cover the names that the refspec matches.
use Rattle.std.proofs.Common.{ℕ, List, Result, Ok, Err, ap, ◌∙◌}
use Rattle.std.specs.Prelude.{OnOk}
use Rattle.std.specs.declared.alloc.AllocError.{AllocError}
use Rattle.gixp_refspec.specs.Spec.{Spec}
use Rattle.gixp_refspec.specs.Matching.{prefixes_of, Covers, is_covered}
use Rattle.gixp_refspec.specs.Texts.{AddsSome}
use Rattle.gixp_refspec.proofs.PrefixLemmas.{matched_is_covered, covered_after}

-- a call that appended the prefixes of a refspec covers the names that it matches
pub covers_on_ok : (r : Result Unit AllocError) (old new : List (List ℕ)) (s : Spec) → AddsSome r old (prefixes_of s) new
    → OnOk r (Covers new s)
covers_on_ok (Ok t) old new s h = λ name positive matched.
    ap (λ l. is_covered l name) h ∙ covered_after old (prefixes_of s) name (matched_is_covered s name positive matched)
covers_on_ok (Err e) old new s h = tt
