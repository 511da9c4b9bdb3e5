use Rattle.std.proofs.Common.{◌<◌, ◌∙◌, get_or, length, set, ap, subst, List}
use Rattle.gixp_refmap.specs.declared.refmap.mapping.Mapping.{Mapping}
use Rattle.gixp_refmap.specs.declared.refmap.mapping.SpecIndex.{SpecIndex}
use Rattle.gixp_refmap.specs.Mapping.{spec_place}
use Rattle.gixp_refmap.specs.Made.{in_its_list}
use Rattle.gixp_refmap.proofs.ListLemmas.{replaced_more}
use Rattle.gixp_refmap.proofs.refmap.make.put_in_lists.Goals as goal

pub mappings-preserved : goal.mappings-preserved
mappings-preserved c =
    let now = c.mappings.mapping-items in
    let i = c.mappings.mapping-index in
    let old = get_or now i c.mapping-item.result in
    let P : List Mapping → Type 0 = λ xs. i < length xs in
    replaced_more (in_its_list c.args.explicit) c.args.mappings.now.items now _ i c.mapping-item.result
    (subst P c.deref_mut-mapping-items.ensures.value c.mappings-test.true) c.mappings.invariant
    (ap (λ (s : SpecIndex). set now i (record old { spec_index = s }))
    (c.place-mapping.ensures ∙ ap (spec_place c.args.explicit) c.number.ensures))
