use Rattle.std.proofs.Common.{sym, subst, eqb-true, Some, None, List, ℕ}
use Rattle.std.proofs.lemmas.Result.{err_from_is_err_and}
use Rattle.gixp_refs.specs.ParseError.{AnswersRefs, attribute_values, object_of}
use Rattle.gixp_refs.specs.Ref.{ref_value}
use Rattle.gixp_refs.specs.RefLine.{value_of}
use Rattle.gixp_refs.proofs.AnswerLemmas.{line-then, named-empty, named-err, named-then, not_empty}
use Rattle.gixp_refs.proofs.handshake.refs.line.parse_v2.Goals as goal

pub returns-then-is_empty : goal.returns-then-is_empty
returns-then-is_empty c =
    let whole = rw c.in-Some.is at c.cut.ensures in
    rw (← c.trim_end-line.ensures) (line-then _ _ c.in-Some.rest.now c.in_ok-object.object _ whole c.in_ok-object.ensures
    (named-empty _ c.in-Some.rest.now _ _ _ _ c.cut-2.ensures (eqb-true _ _ (sym c.if-is_empty.ensures)) c.malformed-then-is_empty.ensures))

pub returns-in_err-had : goal.returns-in_err-had
returns-in_err-had c =
    let whole = rw c.in-Some.is at c.cut.ensures in
    let p = err_from_is_err_and c.from_residual-in_err-had.result c.from_residual-in_err-had.ensures.1 in
    rw (p.1, p.2, ← c.trim_end-line.ensures) (line-then _ _ c.in-Some.rest.now c.in_ok-object.object _ whole c.in_ok-object.ensures
    (named-err _ c.in-Some.rest.now _ _ _ _ c.cut-2.ensures (not_empty _ c.if-is_empty.ensures) c.in_err-had.ensures))

pub returns-in-Some-object : goal.returns-in-Some-object
returns-in-Some-object c =
    let whole = rw c.in-Some.is at c.cut.ensures in
    let first = rw c.in-Some-object.is at c.in_ok-object.ensures in
    let had = attribute_values c.in_ok-had.had in
    let object = Some c.in-Some-object.object in
    let made = subst (λ (n : List ℕ). AnswersRefs ref_value
    (value_of (object_of object) n had) c.make_born.result) c.in_ok-name.ensures c.make_born.ensures in
    rw (← c.trim_end-line.ensures) (line-then _ _ c.in-Some.rest.now (Some c.in-Some-object.object) c.make_born.result whole first
    (named-then _ c.in-Some.rest.now _ (object_of object) _ c.in_ok-had.had c.make_born.result c.cut-2.ensures
    (not_empty _ c.if-is_empty.ensures) c.in_ok-had.ensures made))

pub returns-in-None-object : goal.returns-in-None-object
returns-in-None-object c =
    let whole = rw c.in-Some.is at c.cut.ensures in
    let first = rw c.in-None-object.is at c.in_ok-object.ensures in
    let had = attribute_values c.in_ok-had.had in
    let made = subst (λ (n : List ℕ). AnswersRefs ref_value
    (value_of (object_of None) n had) c.make_unborn.result) c.in_ok-name.ensures c.make_unborn.ensures in
    rw (← c.trim_end-line.ensures) (line-then _ _ c.in-Some.rest.now None c.make_unborn.result whole first
    (named-then _ c.in-Some.rest.now _ (object_of None) _ c.in_ok-had.had c.make_unborn.result c.cut-2.ensures
    (not_empty _ c.if-is_empty.ensures) c.in_ok-had.ensures made))
