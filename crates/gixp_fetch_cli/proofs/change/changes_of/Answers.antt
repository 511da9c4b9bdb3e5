use Rattle.std.proofs.Common.{◌≡◌, ◌⊎◌, inl, inr, ◌++◌, map, List, [], ◌∷◌, length, arith}
use Rattle.std.specs.List.{zip}
use Rattle.std.proofs.lemmas.Grind.{common_steps}
use Rattle.gixp_fetch_cli.specs.Changes.{change_of}
use Rattle.gixp_fetch_cli.proofs.change.changes_of.Goals as goal

-- nothing is to come where either list is at its end
at_end : {A B C : Type 0} (f : A × B → C) (out all : List C) (xs : List A) (ys : List B) → (length xs ≡ 0)
    ⊎ (length ys ≡ 0) → out ++ map f (zip xs ys) ≡ all → out ≡ all
at_end f out all [] ys h e = grind (arith, common_steps, e)
at_end f out all (x ∷ xs) [] h e = grind (arith, common_steps, e)
at_end f out all (x ∷ xs) (y ∷ ys) h e = absurd (grind (arith, common_steps, h))

pub returns : goal.returns
returns g c =
    at_end (change_of (g.R.RefStore.refs c.args.refs.now)) c.pairs.changes.items _ c.pairs.mapping-iterator.a.rest.now
    c.pairs.mapping-iterator.b.rest.now (elim c.in-None.ensures.steps [ inl u ↦ inl u.1.0 | inr u ↦ inr u.1.0 ]) c.pairs.invariant
