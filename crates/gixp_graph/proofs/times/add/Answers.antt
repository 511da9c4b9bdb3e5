use Rattle.std.proofs.Common.{rules, arith, ◌≡◌, ◌∙◌, ℤ, sym, subst}
use Rattle.std.specs.Prelude.{OnOk}
use Rattle.std.specs.BTreeMap.{insert_entry}
use Rattle.std.specs.Ordering.{int_cmp}
use Rattle.std.proofs.lemmas.Int.{to_z-of_z}
use mir.Val.{SFits, to_z, of_z}
use mir.Syntax.{w64}
use Rattle.gixp_graph.specs.Times.{AllEnd}
use Rattle.gixp_graph.proofs.TimesLemmas.{put_ends, alone_ok, ends_others, longer_linked, longer_ends, longer_ok}
use Rattle.gixp_graph.proofs.times.add.Goals as goal

pub returns-in_default-clause-ends : goal.returns-in_default-clause-ends
returns-in_default-clause-ends c =
    let t : ℤ = to_z w64 (of_z w64 c.args.entry.time) in
    put_ends c.insert_link.result c.args.links.now.items c.remove.new.self.entries c.insert_link.new.lists.entries t
    (record { number = c.args.entry.number; next = 0 }) c.insert_link.ensures.ok c.insert_link.ensures.err
    (subst (AllEnd c.args.links.now.items) (sym c.in_default.ensures.unchanged) c.requires.ends) (omega arith)

pub returns-in_default-clause-added : goal.returns-in_default-clause-added
returns-in_default-clause-added c =
    let u : ℤ = c.args.entry.time in
    let fits : SFits w64 u = search rules in
    alone_ok c.insert_link.result c.args.links.now.items c.requires.linked c.args.lists.now.entries c.requires.ends u c.args.entry.number
    c.remove.new.self.entries c.insert_link.new.lists.entries c.in_default.ensures.unchanged c.remove.ensures.updates.1
    (subst (λ (z : ℤ). OnOk c.insert_link.result (c.insert_link.new.lists.entries
    ≡ insert_entry int_cmp c.remove.new.self.entries z (record { number = c.args.entry.number; next = 0 }))) (to_z-of_z w64 u fits)
    c.insert_link.ensures.ok)

pub returns-in_err-more-clause-ends : goal.returns-in_err-more-clause-ends
returns-in_err-more-clause-ends c =
    subst (λ ls. AllEnd ls c.remove.new.self.entries) (sym c.in_err-more.ensures.err)
    (ends_others c.args.links.now.items c.requires.linked c.args.lists.now.entries c.requires.ends c.args.entry.time
    c.args.entry.number c.remove.new.self.entries c.in-Some.numbers c.remove.ensures.entries
    (sym c.remove.ensures.value ∙ c.in-Some.is))

pub returns-clause-linked : goal.returns-clause-linked
returns-clause-linked c =
    longer_linked c.insert_link-2.result c.args.links.now.items c.requires.linked c.args.lists.now.entries c.requires.ends
    c.args.entry.time c.args.entry.number c.remove.new.self.entries c.in-Some.numbers c.remove.ensures.entries
    (sym c.remove.ensures.value ∙ c.in-Some.is) c.longer.new.links.items c.in_ok-more.ensures.links

pub returns-clause-ends : goal.returns-clause-ends
returns-clause-ends c =
    let u : ℤ = c.args.entry.time in
    let fits : SFits w64 u = search rules in
    longer_ends c.insert_link-2.result c.args.links.now.items c.requires.linked c.args.lists.now.entries c.requires.ends u
    c.args.entry.number c.remove.new.self.entries c.in-Some.numbers c.remove.ensures.entries
    (sym c.remove.ensures.value ∙ c.in-Some.is) c.longer.new.links.items c.in_ok-more.ensures.links c.in_ok-more.more
    c.in_ok-more.ensures.longer c.insert_link-2.new.lists.entries
    (subst (λ (z : ℤ). OnOk c.insert_link-2.result (c.insert_link-2.new.lists.entries
    ≡ insert_entry int_cmp c.remove.new.self.entries z c.in_ok-more.more)) (to_z-of_z w64 u fits) c.insert_link-2.ensures.ok)
    c.insert_link-2.ensures.err

pub returns-clause-added : goal.returns-clause-added
returns-clause-added c =
    let u : ℤ = c.args.entry.time in
    let fits : SFits w64 u = search rules in
    longer_ok c.insert_link-2.result c.args.links.now.items c.requires.linked c.args.lists.now.entries c.requires.ends u
    c.args.entry.number c.remove.new.self.entries c.in-Some.numbers c.remove.ensures.entries
    (sym c.remove.ensures.value ∙ c.in-Some.is) c.longer.new.links.items c.in_ok-more.ensures.links c.in_ok-more.more
    c.in_ok-more.ensures.longer c.insert_link-2.new.lists.entries c.remove.ensures.updates.1
    (subst (λ (z : ℤ). OnOk c.insert_link-2.result (c.insert_link-2.new.lists.entries
    ≡ insert_entry int_cmp c.remove.new.self.entries z c.in_ok-more.more)) (to_z-of_z w64 u fits) c.insert_link-2.ensures.ok)
