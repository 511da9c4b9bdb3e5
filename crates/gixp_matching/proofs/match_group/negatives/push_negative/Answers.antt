use Rattle.std.proofs.Common.{sym}
use Rattle.gixp_refspec.specs.declared.needle.Needle.TheVariants.{Exact as the_exact}
use Rattle.gixp_refspec.specs.RefSpec.{value_of}
use Rattle.gixp_matching.proofs.NegativeLemmas.{name_more, needle_more, exact_is}
use Rattle.gixp_matching.proofs.match_group.negatives.push_negative.Goals as goal

pub returns-in_ok-push : goal.returns-in_ok-push
returns-in_ok-push c = λ name.
    name_more c.args.names.now.items c.push.new.self.items c.args.others.now.items (record { name = c.in-Exact.name; place = 0 })
    (the_exact c.in-Exact.name) (value_of c.args.spec.now) name
    (sym c.if-not-is_negative.ensures) c.in-Exact.ensures (exact_is name c.in-Exact.name.now) c.in_ok-push.ensures.items

pub returns-in_ok-push-2 : goal.returns-in_ok-push-2
returns-in_ok-push-2 c = λ name.
    needle_more c.args.names.now.items c.args.others.now.items c.push-in_default.new.self.items c.new-needle.result
    (value_of c.args.spec.now) name
    (sym c.if-not-is_negative.ensures) c.new-needle.ensures c.in_ok-push-2.ensures.items
