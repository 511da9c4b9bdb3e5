-- The graph after look-ups.
use Rattle.std.proofs.Common.{◌≡◌, ◌⊎◌, inl, inr, ℕ, ℤ, ◌+◌, ◌<◌, Bool, true, false, cond, List, [], ◌∷◌, ◌++◌, length, get_or, take, drop, filter, map, Option, Some, None, refl, sym, ap, ◌∙◌, subst, suc, arith, not, ◌||◌, ◌&&◌, ◌↔◌}
use Rattle.std.specs.List.{list_any}
use Rattle.std.proofs.lemmas.List.{map-append}
use Rattle.std.proofs.lemmas.List.Folds.{list_any-append}
use Rattle.std.specs.Prelude.{option_map, is_some, IsSome, IsTrue, Contains}
use Rattle.std.proofs.lemmas.List.{take_more, take-append-drop}
use Rattle.std.proofs.Math.Seq.{drop-cons}
use Rattle.std.proofs.lemmas.List.Elements.{filter-append}
use Rattle.std.specs.FinMap as finite
use Rattle.gixp_hash.specs.declared.object_id.ObjectId.{ObjectId}
use Rattle.gixp_graph.specs.declared.flags.Flags.{Flags}
use Rattle.gixp_graph.specs.Object.{Objects, Commit, commit_at}
use Rattle.gixp_graph.specs.GraphData.{HeldCommit, GraphData, found_in, shown, as_read, is_marked, OnlyMarks, IsFaithful}
use Rattle.gixp_graph.specs.Complete.{IsComplete}
use Rattle.gixp_graph.specs.Run.{Call, RefusedCall, IsRun}
use Rattle.gixp_graph.specs.Negotiation.{NegotiatorCalls}
use Rattle.gixp_graph.specs.GraphLaws.{faithful_reads, marked_looked_up, held_looked_up}
use Rattle.gixp_refmap.specs.declared.refmap.mapping.Mapping.{Mapping}
use Rattle.gixp_negotiate.specs.NegotiationMapping.{mapping_id}
use Rattle.gixp_negotiate.specs.Rounds.{with_common, keeping, keeping_all}
use Rattle.gixp_graph.specs.Refusals.{Written}
use Rattle.gixp_graph.specs.declared.objects.ObjectError.{ObjectError}
use Rattle.gixp_graph.specs.declared.negotiator.NegotiatorError.{NegotiatorError}
use Rattle.gixp_negotiate.specs.declared.negotiate.Error.{Error}
use Rattle.gixp_negotiate.specs.Refused.{CallsSome}
use Rattle.gixp_negotiate.specs.Stores.{Listings, Lent}
use Rattle.gixp_negotiate.specs.Stopped.{LooksAtSome, Step, StopsLearning, StopsAfterLookups, refs_refused, lent_refused, learning_stopped, Stops, at_mappings, at_refs, at_lent, at_learning}
use Rattle.gixp_negotiate.specs.Marking.{mapping_ids, look, look_each, commit_time, time_at, later, cutoff_from, cutoff_of, is_here, is_known, tips_in, NotifiesNegotiator, Marks}

append-none : (xs : List ObjectId) → xs ++ [] ≡ xs
append-none [] = refl
append-none (x ∷ xs) = ap (λ ys. x ∷ ys) (append-none xs)

pub look_each-append : (xs ys : List ObjectId) (g : GraphData) → look_each (xs ++ ys) g ≡ look_each ys (look_each xs g)
look_each-append [] ys g = refl
look_each-append (x ∷ xs) ys g = look_each-append xs ys (look x g)

pub look_each-objects : (ids : List ObjectId) (g : GraphData) → (look_each ids g).objects ≡ g.objects
look_each-objects [] g = refl
look_each-objects (id ∷ ids) g = look_each-objects ids (look id g)

with_common-append : (o : Option ObjectId) (xs ys : List ObjectId) → with_common o (xs ++ ys) ≡ with_common o xs ++ ys
with_common-append None xs ys = refl
with_common-append (Some id) xs ys = refl

mapping_ids-append : (xs ys : List Mapping) → mapping_ids (xs ++ ys) ≡ mapping_ids xs ++ mapping_ids ys
mapping_ids-append [] ys = refl
mapping_ids-append (x ∷ xs) ys = ap (with_common (mapping_id x)) (mapping_ids-append xs ys)
    ∙ with_common-append (mapping_id x) (mapping_ids xs) (mapping_ids ys)

-- one more mapping
pub mapping_ids_more : (ms : List Mapping) (i : ℕ) (d : Mapping) → i < length ms
    → mapping_ids (take (i + 1) ms) ≡ mapping_ids (take i ms) ++ with_common (mapping_id (get_or ms i d)) []
mapping_ids_more ms i d h = ap mapping_ids (take_more ms i d h) ∙ mapping_ids-append (take i ms) (get_or ms i d ∷ [])

cutoff_from-append : (objects : Objects) (had : Option ℤ) (xs ys : List ObjectId)
    → cutoff_from objects had (xs ++ ys) ≡ cutoff_from objects (cutoff_from objects had xs) ys
cutoff_from-append objects had [] ys = refl
cutoff_from-append objects had (x ∷ xs) ys = cutoff_from-append objects (later had (time_at objects (Some x))) xs ys

-- one more id, or none
pub cutoff_more : (objects : Objects) (ids : List ObjectId) (o : Option ObjectId) → cutoff_of objects (ids ++ with_common o [])
    ≡ later (cutoff_of objects ids) (time_at objects o)
cutoff_more objects ids None = ap (cutoff_of objects) (append-none ids)
cutoff_more objects ids (Some id) = cutoff_from-append objects None ids (id ∷ [])

keeping_all-append : (kept xs ys : List ObjectId) → keeping_all kept (xs ++ ys) ≡ keeping_all (keeping_all kept xs) ys
keeping_all-append kept [] ys = refl
keeping_all-append kept (x ∷ xs) ys = keeping_all-append (keeping kept x) xs ys

-- one more tip
pub tips_more : (objects : Objects) (ids : List ObjectId) (id : ObjectId) → is_some (commit_at objects id) ≡ true
    → keeping (tips_in objects ids) id ≡ tips_in objects (ids ++ id ∷ [])
tips_more objects ids id e =
    sym (ap (keeping_all []) (filter-append (λ x. is_some (commit_at objects x)) ids (id ∷ [])) ∙ (keeping_all-append []
    (filter (λ x. is_some (commit_at objects x)) ids) (filter (λ x. is_some (commit_at objects x)) (id ∷ []))
    ∙ ap (λ b. keeping_all (tips_in objects ids) (cond b (id ∷ []) [])) e))

-- an id that isn't a commit
pub tips_same : (objects : Objects) (ids : List ObjectId) (id : ObjectId) → is_some (commit_at objects id) ≡ false
    → tips_in objects ids ≡ tips_in objects (ids ++ id ∷ [])
tips_same objects ids id e =
    sym (ap (keeping_all []) (filter-append (λ x. is_some (commit_at objects x)) ids (id ∷ [])) ∙ (keeping_all-append []
    (filter (λ x. is_some (commit_at objects x)) ids) (filter (λ x. is_some (commit_at objects x)) (id ∷ []))
    ∙ ap (λ b. keeping_all (tips_in objects ids) (cond b (id ∷ []) [])) e))

-- the time that is shown is the time of the commit
shown_time : (o : Option HeldCommit) → commit_time (option_map as_read o) ≡ option_map (λ (x : ℤ × Flags). x.0) (option_map shown o)
shown_time None = refl
shown_time (Some h) = refl

pub time_found : (g : GraphData) (id : ObjectId) (r : Option (ℤ × Flags)) → IsFaithful g → r ≡ option_map shown (found_in g id)
    → option_map (λ (x : ℤ × Flags). x.0) r ≡ time_at g.objects (Some id)
time_found g id r f e = ap (option_map (λ (x : ℤ × Flags). x.0)) e
    ∙ (sym (shown_time (found_in g id)) ∙ ap commit_time (faithful_reads g f id))

pub time_some : (o : Option Commit) → is_some (commit_time o) ≡ is_some o
time_some None = refl
time_some (Some c) = refl

-- a look-up marks nothing
pub marked_look : (g : GraphData) (id q : ObjectId) → is_marked (look id g).held q ≡ is_marked g.held q
marked_look g id q = marked_looked_up g id q

pub marked_look_each : (ids : List ObjectId) (g : GraphData) (q : ObjectId) → is_marked (look_each ids g).held q ≡ is_marked g.held q
marked_look_each [] g q = refl
marked_look_each (id ∷ ids) g q = marked_look_each ids (look id g) q ∙ marked_look g id q

-- a look-up holds no other commit
contains_here : (x q : ObjectId) (xs : List ObjectId) → q ≡ x → Contains (x ∷ xs) q
contains_here x q xs e = (0, omega arith, sym e)

contains_there : (x q : ObjectId) (xs : List ObjectId) → Contains xs q → Contains (x ∷ xs) q
contains_there x q xs c = let l : c.0 < length xs = c.1 in (suc c.0, omega arith, c.2)

pub held_look_each : (ids : List ObjectId) (g : GraphData) (q : ObjectId) → IsSome (finite.get (look_each ids g).held q)
    → IsSome (finite.get g.held q) ⊎ Contains ids q
held_look_each [] g q f = inl f
held_look_each (id ∷ ids) g q f =
    elim (held_look_each ids (look id g) q f) [ inl a ↦ first (held_looked_up g id q a) | inr b ↦ inr (contains_there id q ids b) ]
  where
    first : IsSome (finite.get g.held q) ⊎ (q ≡ id) → IsSome (finite.get g.held q) ⊎ Contains (id ∷ ids) q
    first (inl a) = inl a
    first (inr e) = inr (contains_here id q ids e)

pub take_one : {X : Type 0} (xs : List X) (i : ℕ) (x : X) → i < length xs → x ≡ get_or xs i x → take (i + 1) xs ≡ take i xs ++ x ∷ []
take_one xs i x h e = take_more xs i x h ∙ ap (λ y. take i xs ++ y ∷ []) (sym e)

pub mapped_one : {X Y : Type 0} (f : X → Y) (front : List X) (x : X) (had new : List Y) (y : Y) → had ≡ map f front → y ≡ f x
    → new ≡ had ++ y ∷ [] → new ≡ map f (front ++ x ∷ [])
mapped_one f front x had new y eh ey en = en
    ∙ (ap (λ l. l ++ y ∷ []) eh ∙ (ap (λ z. map f front ++ z ∷ []) ey ∙ sym (map-append f front (x ∷ []))))

pub known_here : (existing found now : Objects) (m : Mapping) (o : Option ObjectId) (time : Option ℤ) (s b : Bool) → o ≡ mapping_id m
    → now ≡ found → time ≡ time_at now o → s ≡ is_some time → b ≡ is_here existing o s → b ≡ is_known found existing m
known_here existing found now m o time s b eo en et es eb =
    eb ∙ (ap (λ x. is_here existing o x) (es ∙ ap is_some (et ∙ ap (λ x. time_at x o) en))
    ∙ ap (λ x. is_here existing x (is_some (time_at found x))) eo)

pub cutoff_one : (found now : Objects) (front : List Mapping) (m : Mapping) (o : Option ObjectId) (had time r : Option ℤ)
    → had ≡ cutoff_of found (mapping_ids front) → o ≡ mapping_id m → now ≡ found → time ≡ time_at now o → r ≡ later had time
    → r ≡ cutoff_of found (mapping_ids (front ++ m ∷ []))
cutoff_one found now front m o had time r eh eo en et er =
    er ∙ (ap (λ h. later h time) eh ∙ (ap (later (cutoff_of found (mapping_ids front)))
    (et ∙ (ap (λ x. time_at x o) en ∙ ap (time_at found) eo))
    ∙ sym (ap (cutoff_of found) (mapping_ids-append front (m ∷ [])) ∙ cutoff_more found (mapping_ids front) (mapping_id m))))

or_false : (b : Bool) → b ≡ (b || false)
or_false true = refl
or_false false = refl

pub any_one : (t : Mapping → Bool) (front : List Mapping) (m : Mapping) (had b r : Bool) → had ≡ list_any t front → b ≡ t m
    → r ≡ (had || b) → r ≡ list_any t (front ++ m ∷ [])
any_one t front m had b r eh eb er =
    er ∙ (ap (λ x. x || b) eh ∙ (ap (λ x. list_any t front || x) (eb ∙ or_false (t m)) ∙ sym (list_any-append t front (m ∷ []))))

pub both_of : (i j x y : Bool) → i ≡ j → x ≡ y → (not i && x) ≡ (not j && y)
both_of i j x y e f = ap (λ b. not b && x) e ∙ ap (λ b. not j && b) f

pub look_one : (front : List Mapping) (m : Mapping) (o : Option ObjectId) (g0 g g' : GraphData) → g ≡ look_each (mapping_ids front) g0
    → o ≡ mapping_id m → g' ≡ look_each (with_common o []) g → g' ≡ look_each (mapping_ids (front ++ m ∷ [])) g0
look_one front m o g0 g g' eg eo e =
    e ∙ (ap (look_each (with_common o [])) eg
    ∙ (sym (look_each-append (mapping_ids front) (with_common o []) g0)
    ∙ (ap (λ x. look_each (mapping_ids front ++ with_common x []) g0) eo
    ∙ ap (λ l. look_each l g0) (sym (mapping_ids-append front (m ∷ []))))))

pub look_id : (front : List ObjectId) (id : ObjectId) (g0 g g' : GraphData) → g ≡ look_each front g0 → g' ≡ look_each (id ∷ []) g
    → g' ≡ look_each (front ++ id ∷ []) g0
look_id front id g0 g g' eg e = e ∙ (ap (look_each (id ∷ [])) eg ∙ sym (look_each-append front (id ∷ []) g0))

pub looked_objects : (ids : List ObjectId) (g g' g0 : GraphData) → g' ≡ look_each ids g → g.objects ≡ g0.objects → g'.objects ≡ g0.objects
looked_objects ids g g' g0 e f = ap (λ x. x.objects) e ∙ (look_each-objects ids g ∙ f)

pub commit_some : (found now : Objects) (id : ObjectId) (time : Option ℤ) (s : Bool) → now ≡ found → time ≡ time_at now (Some id)
    → is_some time ≡ s → is_some (commit_at found id) ≡ s
commit_some found now id time s en et es = sym (time_some (commit_at found id))
    ∙ (ap is_some (sym (et ∙ ap (λ x. time_at x (Some id)) en)) ∙ es)

-- the marked commits with one more mapping's
pub marked_none : (p : ObjectId → Bool) (front : List Mapping) (m : Mapping) (had : List ObjectId) → had ≡ filter p (mapping_ids front)
    → None ≡ mapping_id m → had ≡ filter p (mapping_ids (front ++ m ∷ []))
marked_none p front m had eh em = eh ∙ ap (filter p) (sym
    (mapping_ids-append front (m ∷ []) ∙ (ap (λ o. mapping_ids front ++ with_common o []) (sym em) ∙ append-none (mapping_ids front))))

pub marked_some : (p : ObjectId → Bool) (front : List Mapping) (m : Mapping) (id : ObjectId) (b : Bool) (had new : List ObjectId)
    → had ≡ filter p (mapping_ids front) → Some id ≡ mapping_id m → b ≡ p id → new ≡ had ++ cond b (id ∷ []) []
    → new ≡ filter p (mapping_ids (front ++ m ∷ []))
marked_some p front m id b had new eh em eb en =
    en ∙ (ap (λ l. l ++ cond b (id ∷ []) []) eh ∙ (ap (λ x. filter p (mapping_ids front) ++ cond x (id ∷ []) []) eb
    ∙ (sym (filter-append p (mapping_ids front) (id ∷ []))
    ∙ ap (filter p) (sym (mapping_ids-append front (m ∷ []) ∙ ap (λ o. mapping_ids front ++ with_common o []) (sym em))))))

-- the commits that a walk marks and holds, by the graph before all look-ups
pub walk_marks : {N : Type 0} (calls : NegotiatorCalls N) (n : N) (g g1 : GraphData) (ids tips : List ObjectId) (cutoff : Option ℤ)
    (m : N) (h : GraphData) → g1 ≡ look_each ids g → cutoff ≡ cutoff_of g.objects ids → NotifiesNegotiator calls n g1 ids tips cutoff m h
    → Marks calls n g ids tips m h
walk_marks calls n g g1 ids tips cutoff m h e ec t =
    let same : (look_each tips g1).objects ≡ g.objects = look_each-objects tips g1 ∙ (ap (λ x. x.objects) e ∙ look_each-objects ids g) in
    let near : g1.objects ≡ g.objects = ap (λ x. x.objects) e ∙ look_each-objects ids g in
    record {
      walked = t.walked;
      objects = t.walks.objects ∙ same;
      marked = λ id.
          subst (λ (b : Bool). IsTrue (is_marked t.walked.held id)
          ↔ (IsTrue b ⊎ IsComplete (commit_at g.objects) tips (cutoff_of g.objects ids) id))
          (marked_look_each tips g1 id ∙ (ap (λ x. is_marked x.held id) e ∙ marked_look_each ids g id))
          (subst (λ (o : Objects). IsTrue (is_marked t.walked.held id)
          ↔ (IsTrue (is_marked (look_each tips g1).held id) ⊎ IsComplete (commit_at o) tips (cutoff_of g.objects ids) id)) same
          (subst (λ (k : Option ℤ). IsTrue (is_marked t.walked.held id) ↔ (IsTrue (is_marked (look_each tips g1).held id)
          ⊎ IsComplete (commit_at (look_each tips g1).objects) tips k id)) ec (t.walks.marked id)));
      held = λ id f. by_walk id (t.walks.held id f);
      only_marks = subst (λ x. OnlyMarks (look_each tips x) t.walked.held) e t.walks.only_marks;
      reported = t.reported;
      reported_graph = t.reported_graph;
      known = t.known;
      added = subst (λ (o : Objects). IsRun calls.adds (tips_in o tips) t.reported t.reported_graph m h) near t.added;
    }
  where
    by_walk : (id : ObjectId) → IsSome (finite.get (look_each tips g1).held id)
        ⊎ IsComplete (commit_at (look_each tips g1).objects) tips cutoff id
        → IsSome (finite.get g.held id) ⊎ (Contains ids id
        ⊎ (Contains tips id ⊎ IsComplete (commit_at g.objects) tips (cutoff_of g.objects ids) id))
    by_walk id (inl a) = elim (held_look_each tips g1 id a) [
      | inl b ↦ by_first id (held_look_each ids g id (subst (λ x. IsSome (finite.get x.held id)) e b))
      | inr c ↦ inr (inr (inl c))
    ]
      where
        by_first : (q : ObjectId) → IsSome (finite.get g.held q) ⊎ Contains ids q → IsSome (finite.get g.held q)
            ⊎ (Contains ids q ⊎ (Contains tips q ⊎ IsComplete (commit_at g.objects) tips (cutoff_of g.objects ids) q))
        by_first q (inl x) = inl x
        by_first q (inr y) = inr (inl y)
    by_walk id (inr k) =
        inr (inr (inr (subst (λ (o : Objects). IsComplete (commit_at o) tips (cutoff_of g.objects ids) id)
        (look_each-objects tips g1 ∙ (ap (λ x. x.objects) e ∙ look_each-objects ids g))
        (subst (λ (c : Option ℤ). IsComplete (commit_at (look_each tips g1).objects) tips c id) ec k))))

-- a first part of all ids was looked up
looks_by : (ids front following : List ObjectId) (g h : GraphData) → ids ≡ front ++ following → h ≡ look_each front g → LooksAtSome ids g h
looks_by ids front following g h split e = record { looked = front; left = following; split = split; graph = e }

pub looks_front : (ms : List Mapping) (i : ℕ) (g h : GraphData) → h ≡ look_each (mapping_ids (take i ms)) g
    → LooksAtSome (mapping_ids ms) g h
looks_front ms i g h e = looks_by (mapping_ids ms) (mapping_ids (take i ms)) (mapping_ids (drop i ms)) g h
    (sym (ap mapping_ids (take-append-drop i ms)) ∙ mapping_ids-append (take i ms) (drop i ms)) e

pub looks_at : (ids : List ObjectId) (i : ℕ) (g h : GraphData) → h ≡ look_each (take i ids) g → LooksAtSome ids g h
looks_at ids i g h e = looks_by ids (take i ids) (drop i ids) g h (sym (take-append-drop i ids)) e

pub looks_none : (ids : List ObjectId) (g h : GraphData) → h ≡ g → LooksAtSome ids g h
looks_none ids g h e = looks_by ids [] ids g h refl e

-- a first part of the calls were made, and the next failed
pub calls_some : {N : Type 0} (call : Call N) (fails : RefusedCall N) (ids : List ObjectId) (i : ℕ) (d : ObjectId) (n : N)
    (g : GraphData) (reported : N) (reported_graph : GraphData) (x : NegotiatorError) (m : N) (h : GraphData)
    → i < length ids → IsRun call (take i ids) n g reported reported_graph → fails reported reported_graph (get_or ids i d) x m h
    → CallsSome call fails ids n g x m h
calls_some call fails ids i d n g reported reported_graph x m h less run refused = record {
  made = take i ids;
  refused = get_or ids i d;
  left = drop (suc i) ids;
  split = sym (take-append-drop i ids) ∙ ap (λ rest. take i ids ++ rest) (drop-cons ids i d less);
  reported = reported;
  reported_graph = reported_graph;
  run = run;
  fails = refused;
}

-- how far a step went after the mappings, by the graph before all look-ups
pub stops_after : {N R A : Type 0} (calls : NegotiatorCalls N) (listings : Listings R) (Negotiates : Type 0) (n : N) (g g1 : GraphData)
    (q q1 : Written ObjectError) (refs : R) (lent : Lent R A) (ids tips : List ObjectId) (cutoff : Option ℤ) (e : Error A)
    (new : Step N R A)
    → g1 ≡ look_each ids g → cutoff ≡ cutoff_of g.objects ids → q1 ≡ q → Negotiates
    → StopsAfterLookups calls listings ids tips cutoff
    (record { negotiator = n; graph = g1; refusals = q1; refs = refs; lent = lent }) e new
    → Stops calls listings Negotiates ids tips (record { negotiator = n; graph = g; refusals = q; refs = refs; lent = lent }) e new
stops_after calls listings P n g g1 q q1 refs lent ids tips cutoff e new eg ec eq p (refs_refused a b c d) = at_refs p a b (c ∙ eg) d
stops_after calls listings P n g g1 q q1 refs lent ids tips cutoff e new eg ec eq p (lent_refused a b c d) = at_lent p a b c (d ∙ eg)
stops_after calls listings P n g g1 q q1 refs lent ids tips cutoff e new eg ec eq p (learning_stopped a b x ex s) = at_learning p a b x ex
    (subst (λ y. StopsLearning calls n y q ids tips (cutoff_of g.objects ids) x new.negotiator new.graph new.refusals) eg
    (subst (λ z. StopsLearning calls n g1 z ids tips (cutoff_of g.objects ids) x new.negotiator new.graph new.refusals) eq
    (subst (λ k. StopsLearning calls n g1 q1 ids tips k x new.negotiator new.graph new.refusals) ec s)))

pub stops_when : {N R A : Type 0} (calls : NegotiatorCalls N) (listings : Listings R) (P Q : Type 0) (ids tips : List ObjectId)
    (old : Step N R A) (e : Error A) (new : Step N R A) → (P → Q) → Stops calls listings P ids tips old e new
    → Stops calls listings Q ids tips old e new
stops_when calls listings P Q ids tips old e new f (at_mappings x a b c d r l) = at_mappings x a b c d r l
stops_when calls listings P Q ids tips old e new f (at_refs p a b c d) = at_refs (f p) a b c d
stops_when calls listings P Q ids tips old e new f (at_lent p a b c d) = at_lent (f p) a b c d
stops_when calls listings P Q ids tips old e new f (at_learning p a b x c d) = at_learning (f p) a b x c d

pub calls_same : {N : Type 0} (call : Call N) (refuses : RefusedCall N) (ids others : List ObjectId) (n : N) (g : GraphData)
    (x : NegotiatorError) (m : N) (h : GraphData) → ids ≡ others → CallsSome call refuses ids n g x m h
    → CallsSome call refuses others n g x m h
calls_same call refuses ids others n g x m h e c = subst (λ i. CallsSome call refuses i n g x m h) e c

pub telling_same : {N : Type 0} (calls : NegotiatorCalls N) (n : N) (g : GraphData) (q : Written ObjectError)
    (ids tips others : List ObjectId) (cutoff : Option ℤ) (x : NegotiatorError) (m : N) (h : GraphData) (p : Written ObjectError)
    → tips ≡ others → StopsLearning calls n g q ids tips cutoff x m h p → StopsLearning calls n g q ids others cutoff x m h p
telling_same calls n g q ids tips others cutoff x m h p e s = subst (λ l. StopsLearning calls n g q ids l cutoff x m h p) e s
