-- A repository that is filled from the output of git commands.
use Rattle.std.specs.Prelude.{◌+◌, ◌*◌, ◌-◌, ◌&&◌, nat_le, nat_lt, if◌then◌else◌, ℕ, ℤ, pos, List, [], ◌∷◌, length, drop, take, map, codes, Option, Some, None, option_map, option_and_then, refl}
use Rattle.std.specs.Ordering.{nat_cmp, match_ordering}
use Rattle.std.specs.Str.{bytes_eq}
use Rattle.std.specs.Cmp.Lexicographic.{slice_cmp}
use Rattle.std.specs.Io.BufRead.{strip_last}
use Rattle.std.specs.Coded.{Coded, code_by, coded×, coded_ℕ, coded_list}
use Rattle.std.specs.FinMap as finite
use Rattle.bstr.specs.BStr.{bstr_bytes}
use Rattle.bstr.specs.declared.bstr.BStr.{BStr}
use Rattle.gixp_hash.specs.declared.object_id.ObjectId.{ObjectId}
use Rattle.gixp_hash.specs.ObjectId.{id_of, coded_id}
use Rattle.gixp_graph.specs.declared.objects.ObjectKind.{ObjectKind}
use Rattle.gixp_graph.specs.declared.objects.ObjectKind.TheVariants.{Commit as IsCommit, Tree, Blob, Tag}
use Rattle.gixp_graph.specs.declared.objects.CommitData.{CommitData}
use Rattle.gixp_graph.specs.Object.{Objects, Commit, commit_of}
use Rattle.gixp_utils.specs.Lines.{line_words}
use Rattle.gixp_memory.specs.Text.{is_text}

-- a commit that was read, with its id
abbrev pub entry_value : ObjectId × CommitData → ObjectId × Commit
entry_value e = (e.0, commit_of e.1)

-- ---- what may be added

-- the objects with a commit added, which replaces an object with its id (git-rev-list, `--timestamp`, `--parents`)
abbrev pub with_commit : Objects → ObjectId → Commit → Objects
with_commit objects id c = finite.insert objects id (record { kind = Some IsCommit; commit = Some c })

-- the objects with an object added, whose kind may be unknown, unless one with this id exists
abbrev pub with_new : Objects → ObjectId → Option ObjectKind → Objects
with_new objects id kind = if finite.contains_key objects id then objects
    else finite.insert objects id (record { kind = kind; commit = None })

-- the objects with an object of a kind added, unless one with this id exists
abbrev pub with_kind : Objects → ObjectId → ObjectKind → Objects
with_kind objects id kind = with_new objects id (Some kind)

-- the objects with an object of unknown kind added, unless one with this id exists
abbrev pub with_id : Objects → ObjectId → Objects
with_id objects id = with_new objects id None

-- a ref: its full name, its id, and the id of the object that it peels to, which isn't a tag
pub record PeeledRef : Type 0 where
  pub name : List ℕ
  pub id : ObjectId
  pub peeled : ObjectId

abbrev pub coded_refs : Coded (List PeeledRef)
coded_refs = coded_list (code_by (List ℕ × (ObjectId × ObjectId)) (coded× (coded_list coded_ℕ) (coded× coded_id coded_id))
    (λ r. (r.name, (r.id, r.peeled))) (λ p. record { name = p.0; id = p.1.0; peeled = p.1.1 }) (λ _. refl))

-- the refs, sorted by name, with a ref added, which replaces one with its name
abbrev pub with_ref : List PeeledRef → PeeledRef → List PeeledRef
with_ref [] r = r ∷ []
with_ref (x ∷ xs) r = match_ordering (slice_cmp nat_cmp r.name x.name) (r ∷ x ∷ xs) (r ∷ xs) (x ∷ with_ref xs r)

-- the ids of the refs, by name
abbrev pub refs_held : List PeeledRef → finite.FinMap (slice_cmp nat_cmp) ObjectId
refs_held refs = finite.from_entries (map (λ (r : PeeledRef). (r.name, r.id)) refs)

-- the id of the ref with this name
abbrev pub ref_named : List PeeledRef → List ℕ → Option ObjectId
ref_named refs name = finite.get (refs_held refs) name

-- a name and its id
abbrev pub named_id_of : BStr × ObjectId → List ℕ × ObjectId
named_id_of p = (bstr_bytes p.0, p.1)

abbrev pub held_ref : PeeledRef → List ℕ × ObjectId
held_ref r = (r.name, r.id)

-- the ids that the refs peel to, in the order of their names
abbrev pub peeled_ids : List PeeledRef → List ObjectId
peeled_ids refs = map (λ (r : PeeledRef). r.peeled) refs

-- ---- words

abbrev pub named_id : List ℕ → Option ObjectId
named_id word = option_map (λ bytes. record { bytes = bytes }) (id_of word)

-- the ids of all words
abbrev pub named_ids : List (List ℕ) → Option (List ObjectId)
named_ids [] = Some []
named_ids (word ∷ words) = option_and_then (λ id. option_map (λ ids. id ∷ ids) (named_ids words)) (named_id word)

-- the kind with this name (git-cat-file, `-t`)
abbrev pub named_kind : List ℕ → Option ObjectKind
named_kind word =
    if is_text word (codes "commit") then Some IsCommit
    else if is_text word (codes "tree") then Some Tree
    else if is_text word (codes "blob") then Some Blob
    else if is_text word (codes "tag") then Some Tag
    else None

-- a number with a decimal digit appended, where the result is below 2^63
abbrev pub one_digit_more : ℕ → ℕ → Option ℕ
one_digit_more n d = if nat_le 48 d && nat_le d 57 && nat_lt (n * 10 + (d - 48)) 9223372036854775808 then Some (n * 10 + (d - 48)) else None

-- a number with several digits appended
abbrev pub digits_more : ℕ → List ℕ → Option ℕ
digits_more n [] = Some n
digits_more n (d ∷ ds) = option_and_then (λ m. digits_more m ds) (one_digit_more n d)

-- the seconds since the epoch in decimal digits, at least one digit, and below 2^63
abbrev pub seconds : List ℕ → Option ℤ
seconds [] = None
seconds (d ∷ ds) = option_map pos (digits_more 0 (d ∷ ds))

-- ---- lines

-- a line of a time, an id, and the ids of the parents
abbrev pub commit_of_words : List (List ℕ) → Option (ObjectId × Commit)
commit_of_words [] = None
commit_of_words (_ ∷ []) = None
commit_of_words (time ∷ id ∷ parents) =
    option_and_then (λ t. option_and_then (λ i. option_map (λ ps. (i, record { time = t; parents = ps })) (named_ids parents))
    (named_id id)) (seconds time)

-- a line of an id and a kind
abbrev pub kind_of_words : List (List ℕ) → Option (ObjectId × ObjectKind)
kind_of_words (id ∷ kind ∷ []) = option_and_then (λ i. option_map (λ k. (i, k)) (named_kind kind)) (named_id id)
kind_of_words _ = None

-- the objects after a line of `git rev-list --timestamp --parents`
abbrev pub commit_line : Objects → List ℕ → Option Objects
commit_line objects line = option_map (λ (e : ObjectId × Commit). with_commit objects e.0 e.1) (commit_of_words (line_words line))

-- the objects after a line of `git cat-file --batch-check` with the format `%(objectname) %(objecttype)`
abbrev pub kind_line : Objects → List ℕ → Option Objects
kind_line objects line = option_map (λ (e : ObjectId × ObjectKind). with_kind objects e.0 e.1) (kind_of_words (line_words line))

-- the kind of an object in a line of `git cat-file`, or none where the object is missing
abbrev pub answered_kind : List ℕ → Option (Option ObjectKind)
answered_kind word = if is_text word (codes "missing") then Some None else option_map (λ k. Some k) (named_kind word)

-- a line of `git cat-file --batch-check`: an id, and `missing` or the kind, which the size may follow
abbrev pub answer_of_words : List (List ℕ) → Option (ObjectId × Option ObjectKind)
answer_of_words (id ∷ kind ∷ []) = option_and_then (λ i. option_map (λ k. (i, k)) (answered_kind kind)) (named_id id)
answer_of_words (id ∷ kind ∷ size ∷ []) = option_and_then (λ i. option_map (λ k. (i, Some k)) (named_kind kind)) (named_id id)
answer_of_words _ = None

-- the objects with this one added, where it has a kind
abbrev pub with_answer : Objects → ObjectId → Option ObjectKind → Objects
with_answer objects id (Some kind) = with_kind objects id kind
with_answer objects id None = objects

-- what a line, with or without its LF, reports of this id; none where it isn't about this id
abbrev pub answer_to : ObjectId → List ℕ → Option (Option ObjectKind)
answer_to id line =
    option_and_then (λ (a : ObjectId × Option ObjectKind). if bytes_eq a.0.bytes id.bytes then Some a.1 else None)
    (answer_of_words (line_words (strip_last 10 line)))

-- the name before `^{}`, which marks the id that a tag peels to (git-show-ref, `-d`)
abbrev pub peeled_name : List ℕ → Option (List ℕ)
peeled_name name = if is_text (drop (length name - 3) name) (codes "^{}") then Some (take (length name - 3) name) else None

-- the refs with a ref added; or, where the name ended in `^{}`, with the id that the ref before it peels to
abbrev pub ref_by : List PeeledRef → ObjectId → List ℕ → Option (List ℕ) → Option (List PeeledRef)
ref_by refs id name None = Some (with_ref refs (record { name = name; id = id; peeled = id }))
ref_by refs id name (Some base) = option_map (λ held. with_ref refs (record { name = base; id = held; peeled = id })) (ref_named refs base)

-- a line of an id and a name
abbrev pub ref_of_words : List PeeledRef → List (List ℕ) → Option (List PeeledRef)
ref_of_words refs (id ∷ name ∷ []) = option_and_then (λ i. ref_by refs i name (peeled_name name)) (named_id id)
ref_of_words refs _ = None

-- the refs after a line of `git show-ref -d`
abbrev pub ref_line : List PeeledRef → List ℕ → Option (List PeeledRef)
ref_line refs line = ref_of_words refs (line_words line)
