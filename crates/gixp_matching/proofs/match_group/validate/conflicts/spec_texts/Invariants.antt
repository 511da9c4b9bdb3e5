use Rattle.std.proofs.Common.{◌≡◌, take, map}
use Rattle.gixp_matching.specs.Groups.{lent}
use Rattle.bstr.specs.Owned.{bstring_bytes}
use Rattle.gixp_matching.specs.Found.{text_in}
use Rattle.gixp_matching.proofs.match_group.validate.conflicts.spec_texts.Given as goal

abbrev pub invariant-group : goal.invariant-group
invariant-group g l =
    map bstring_bytes l.found.items
    ≡ map (text_in (map bstring_bytes l.texts)) (take l.mapping-index (lent g.M.AsMapping.mapped l.group))
