-- Refspecs: as a request reads them, and those that name objects by their ids.
use Rattle.std.proofs.Common.{◌≡◌, ◌∙◌, ℕ, ap, sym, refl, subst, Bool, true, [], List, Option, Some, None, Result}
use Rattle.std.specs.Prelude.{Vec}
use Rattle.std.specs.declared.alloc.Global.{Global}
use Rattle.gixp_refs.specs.declared.handshake.Ref.{Ref}
use Rattle.gixp_refspec.specs.declared.parse.Error.{Error}
use Rattle.gixp_refspec.specs.Spec.{Spec, spec_of}
use Rattle.gixp_refspec.specs.Spelling.{spelled}
use Rattle.gixp_client.specs.IdSpecs.{SeesRefs}

-- the refspec of a text in which `HEAD` replaces `@`
pub reads_spelled : (text bytes lent shown : List ℕ) (r : Result Spec Error) → bytes ≡ spelled text → lent ≡ bytes → shown ≡ lent
    → spec_of shown ≡ r → spec_of (spelled text) ≡ r
reads_spelled text bytes lent shown r b l s e = ap spec_of (sym b) ∙ (ap spec_of (sym l) ∙ (ap spec_of (sym s) ∙ e))

pub sees_made : (by_id : Bool) (here : Option (Vec Ref Global)) (none : Vec Ref Global) → by_id ≡ true → here ≡ None → none.items ≡ []
    → SeesRefs by_id here (Some none)
sees_made by_id here none b e h =
    subst (λ (x : Option (Vec Ref Global)). SeesRefs by_id x (Some none)) (sym e)
    (subst (λ (x : Bool). SeesRefs x None (Some none)) (sym b) (none, h, refl))

-- a session sees the same for equal parts
pub sees_by : (by_id by_id' : Bool) (taken here seen : Option (Vec Ref Global)) → SeesRefs by_id taken seen → by_id ≡ by_id' → taken ≡ here
    → SeesRefs by_id' here seen
sees_by by_id by_id' taken here seen h b e =
    subst (λ (x : Option (Vec Ref Global)). SeesRefs by_id' x seen) e (subst (λ (x : Bool). SeesRefs x taken seen) b h)
