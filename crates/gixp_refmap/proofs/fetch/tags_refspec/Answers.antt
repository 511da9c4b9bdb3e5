use Rattle.std.proofs.Common.{◌≡◌, ℕ, List, Ok, Err, codes, refl, sym, ◌∙◌, ap}
use Rattle.gixp_refspec.specs.declared.parse.Error.{Error}
use Rattle.gixp_refspec.specs.Name.{is_name, is_name_byte, is_component}
use Rattle.gixp_refspec.specs.Spec.{Spec, parts_of, pair_fault, stars, spec_of}
use Rattle.gixp_refmap.specs.Tags.{tags_spec}
use Rattle.gixp_refmap.proofs.fetch.tags_refspec.Goals as goal

-- the text of the refspec is read as its value
parsed : spec_of (codes "refs/tags/*:refs/tags/*") ≡ Ok tags_spec
unfolding parts_of pair_fault stars is_name is_name_byte is_component
parsed = refl

value_is : (text : List ℕ) (s : Spec) → text ≡ codes "refs/tags/*:refs/tags/*" → spec_of text ≡ Ok s → s ≡ tags_spec
value_is text s t e = cc (sym e ∙ ap spec_of t ∙ parsed)

is_read : (text : List ℕ) (e : Error) → text ≡ codes "refs/tags/*:refs/tags/*" → spec_of text ≡ Err e → ⊥
is_read text e t h = cc (sym h ∙ ap spec_of t ∙ parsed)

pub returns-in-Ok : goal.returns-in-Ok
returns-in-Ok c = rw (value_is _ _ c.new.ensures c.in-Ok.ensures) refl

pub returns-in-Err : goal.returns-in-Err
returns-in-Err c = absurd (is_read _ _ c.new.ensures c.in-Err.ensures)
