-- Which commits a call sees for the first time: common ones, and the parents of an offered one.
use Rattle.std.specs.Prelude.{◌≡◌, ◌⊎◌, ◌||◌, Option, Some, None, true, false, List, Contains}
use Rattle.gixp_hash.specs.declared.object_id.ObjectId.{ObjectId}
use Rattle.gixp_graph.specs.GraphData.{GraphData, parents_in}
use Rattle.gixp_negotiators.specs.Marks.{COMMON, COMMON_REF, SEEN, has_mark}
use Rattle.gixp_negotiators.specs.AddedMarks.{Grows, MarksNoCommon}

-- each newly seen commit is common
unfoldable pub SeesCommon : GraphData → GraphData → Type 0
SeesCommon g h = (id : ObjectId) → has_mark SEEN h.held id ≡ true → (has_mark SEEN g.held id || has_mark COMMON h.held id) ≡ true

-- each newly seen commit is common or one of these
unfoldable pub SeesAmong : List ObjectId → GraphData → GraphData → Type 0
SeesAmong ids g h = (id : ObjectId) → has_mark SEEN h.held id ≡ true → ((has_mark SEEN g.held id || has_mark COMMON h.held id) ≡ true)
    ⊎ Contains ids id

-- a commit is offered. Where the server has it as a ref, each newly seen commit is common. Otherwise each is common
-- or one of its parents, and no commit becomes common
abbrev pub OpensParents : GraphData → ObjectId → GraphData → Type 0
OpensParents g one h = ((has_mark COMMON_REF g.held one ≡ true) × SeesCommon g h)
    ⊎ ((has_mark COMMON_REF g.held one ≡ false) × (MarksNoCommon g h × SeesAmong (parents_in h.held one) g h))

-- each commit newly seen in a call is common, except those that an offer opens
abbrev pub FindsCommon : GraphData → Option ObjectId → GraphData → Type 0
FindsCommon g None h = SeesCommon g h
FindsCommon g (Some one) h = (i : GraphData) × (Grows g i × (SeesCommon g i × OpensParents i one h))
