-- Stored objects and refs, by id and by name.
use Rattle.std.proofs.Common.{◌≡◌, ◌∙◌, ℕ, Bool, true, false, cond, List, [], ◌∷◌, map, Option, Some, None, refl, ap, sym, subst, ◌⊎◌, inl, inr, ⊎_elim}
use Rattle.std.specs.Prelude.{option_map, option_and_then, is_some}
use Rattle.std.specs.Ordering.{nat_cmp, eq_by_cmp, match_ordering}
use Rattle.std.specs.declared.cmp.Ordering.{Ordering}
use Rattle.std.specs.declared.cmp.Ordering.TheVariants.{Less, Equal, Greater}
use Rattle.std.specs.Cmp.Lexicographic.{slice_cmp, nat_list_cmp_total}
use Rattle.std.specs.Map.{lookup}
use Rattle.std.specs.BTreeMap.{is_at, insert_entry}
use Rattle.std.specs.Map.{values_of}
use Rattle.std.specs.FinMap as finite
use Rattle.std.specs.FinMap.{find, get-from_entries, get-insert, same_map}
use Rattle.std.proofs.lemmas.Map.Lookups.{exact_bytes}
use Rattle.std.specs.declared.vec.Vec.{Vec}
use Rattle.std.specs.declared.alloc.Global.{Global}
use Rattle.gixp_hash.specs.declared.object_id.ObjectId.{ObjectId}
use Rattle.gixp_hash.specs.ObjectId.{id_cmp}
use Rattle.gixp_graph.specs.declared.objects.ObjectKind.{ObjectKind}
use Rattle.gixp_graph.specs.Object.{Object, Commit, kind_at, commit_at, commit_of}
use Rattle.gixp_graph.specs.GraphLaws.{same_from}
use Rattle.gixp_hash.specs.IdLaws.{ids_total, ids_exact}
use Rattle.gixp_graph.proofs.MarkLemmas.{same_id, true_or_false}
use Rattle.gixp_memory.specs.declared.stored_objects.StoredObject.{StoredObject}
use Rattle.gixp_memory.specs.declared.stored_refs.StoredRef.{StoredRef}
use Rattle.gixp_memory.specs.Memory.{object_of, objects_of, name_cmp}
use Rattle.gixp_memory.specs.RefEntries.{named_ref}
use Rattle.gixp_memory.specs.Repository.{held_ref, PeeledRef, with_ref, ref_named, peeled_ids}

-- the stored object with this id
abbrev pub stored_at : List (ObjectId × StoredObject) → ObjectId → Option StoredObject
stored_at stored id = lookup (is_at (id_cmp id)) stored

-- the object that is found is the stored one
find_map : (es : List (ObjectId × StoredObject)) (q : ObjectId)
    → find id_cmp q (map (λ (e : ObjectId × StoredObject). (e.0, object_of e.1)) es) ≡ option_map object_of (stored_at es q)
find_map [] q = refl
find_map (e ∷ es) q = at (eq_by_cmp id_cmp q e.0) (find_map es q)
  where
    at : (b : Bool) → find id_cmp q (map (λ (e : ObjectId × StoredObject). (e.0, object_of e.1)) es) ≡ option_map object_of (stored_at es q)
        → cond b (Some (object_of e.1)) (find id_cmp q (map (λ (e : ObjectId × StoredObject). (e.0, object_of e.1)) es))
        ≡ option_map object_of (cond b (Some e.1) (stored_at es q))
    at true r = refl
    at false r = r

get_stored : (es : List (ObjectId × StoredObject)) (q : ObjectId) → finite.get (objects_of es) q ≡ option_map object_of (stored_at es q)
get_stored es q = get-from_entries ids_total (map (λ (e : ObjectId × StoredObject). (e.0, object_of e.1)) es) q ∙ find_map es q

key_here : (o : Option StoredObject) → is_some (option_map object_of o) ≡ is_some o
key_here None = refl
key_here (Some s) = refl

-- an object exists where one is stored
pub key_stored : (es : List (ObjectId × StoredObject)) (q : ObjectId) → finite.contains_key (objects_of es) q ≡ is_some (stored_at es q)
key_stored es q = ap is_some (get_stored es q) ∙ key_here (stored_at es q)

-- the kind of a stored object
abbrev pub kind_in : Option StoredObject → Option ObjectKind
kind_in o = option_and_then (λ (s : StoredObject). s.kind) o

kind_here : (o : Option StoredObject) → option_and_then (λ (x : Object). x.kind) (option_map object_of o) ≡ kind_in o
kind_here None = refl
kind_here (Some s) = refl

-- the kind that is found is the stored one
pub kind_stored : (es : List (ObjectId × StoredObject)) (q : ObjectId) → kind_at (objects_of es) q ≡ kind_in (stored_at es q)
kind_stored es q = ap (option_and_then (λ (x : Object). x.kind)) (get_stored es q) ∙ kind_here (stored_at es q)

-- the commit of a stored object
abbrev pub commit_in : Option StoredObject → Option Commit
commit_in o = option_and_then (λ (s : StoredObject). option_map commit_of s.commit) o

commit_here : (o : Option StoredObject) → option_and_then (λ (x : Object). x.commit) (option_map object_of o) ≡ commit_in o
commit_here None = refl
commit_here (Some s) = refl

-- the commit that is found is the stored one
pub commit_stored : (es : List (ObjectId × StoredObject)) (q : ObjectId) → commit_at (objects_of es) q ≡ commit_in (stored_at es q)
commit_stored es q = ap (option_and_then (λ (x : Object). x.commit)) (get_stored es q) ∙ commit_here (stored_at es q)

abbrev pub some_commit : Commit → Option Commit
some_commit c = Some c

-- ---- objects are added

same_sides : (q id : ObjectId) (b : Bool) → eq_by_cmp id_cmp q id ≡ b → is_at (id_cmp id) q ≡ b
same_sides q id true e = subst (λ k. eq_by_cmp id_cmp id k ≡ true) (sym (same_from q id e)) (same_id id)
same_sides q id false e = ⊎_elim
    (λ t. absurd (let two : eq_by_cmp id_cmp q id ≡ true =
    subst (λ k. eq_by_cmp id_cmp q k ≡ true) (sym (same_from id q t)) (same_id q) in let clash : true ≡ false = sym two ∙ e in cc))
    (λ f. f) (true_or_false (eq_by_cmp id_cmp id q))

-- storing an object adds it to the objects
pub objects_put : (es fs : List (ObjectId × StoredObject)) (id : ObjectId) (s : StoredObject)
    → ((q : ObjectId) → stored_at fs q ≡ cond (is_at (id_cmp id) q) (Some s) (stored_at es q))
    → objects_of fs ≡ finite.insert (objects_of es) id (object_of s)
objects_put es fs id s h = same_map ids_total ids_exact _ _ (λ q. get_stored fs q ∙ ap (option_map object_of) (h q)
    ∙ at q (true_or_false (eq_by_cmp id_cmp q id)))
  where
    here : (q : ObjectId) (b : Bool) → is_at (id_cmp id) q ≡ b → eq_by_cmp id_cmp q id ≡ b → option_map object_of
        (cond (is_at (id_cmp id) q) (Some s) (stored_at es q)) ≡ finite.get (finite.insert (objects_of es) id (object_of s)) q
    here q true e f = ap (λ b. option_map object_of (cond b (Some s) (stored_at es q))) e ∙ sym (get-insert ids_total (objects_of es) id
        (object_of s) q ∙ ap (λ b. cond b (Some (object_of s)) (finite.get (objects_of es) q)) f)
    here q false e f = ap (λ b. option_map object_of (cond b (Some s) (stored_at es q))) e ∙ sym (get_stored es q)
        ∙ sym (get-insert ids_total (objects_of es) id (object_of s) q
        ∙ ap (λ b. cond b (Some (object_of s)) (finite.get (objects_of es) q)) f)

    at : (q : ObjectId) → (eq_by_cmp id_cmp q id ≡ true) ⊎ (eq_by_cmp id_cmp q id ≡ false) → option_map object_of
        (cond (is_at (id_cmp id) q) (Some s) (stored_at es q)) ≡ finite.get (finite.insert (objects_of es) id (object_of s)) q
    at q (inl t) = here q true (same_sides q id true t) t
    at q (inr f) = here q false (same_sides q id false f) f

-- ---- refs are added

abbrev StoredName : Type 0
StoredName = Vec ℕ Global × StoredRef

-- storing a ref adds it to the refs
pub refs_put : (es : List StoredName) (name : Vec ℕ Global) (s : StoredRef) → map named_ref (insert_entry name_cmp es name s)
    ≡ with_ref (map named_ref es) (named_ref (name, s))
refs_put [] name s = refl
refs_put (e ∷ es) name s = at (slice_cmp nat_cmp name.items e.0.items) refl (refs_put es name s)
  where
    at : (o : Ordering) → slice_cmp nat_cmp name.items e.0.items ≡ o → map named_ref (insert_entry name_cmp es name s)
        ≡ with_ref (map named_ref es) (named_ref (name, s))
        → map named_ref (match_ordering o ((name, s) ∷ e ∷ es) ((e.0, s) ∷ es) (e ∷ insert_entry name_cmp es name s))
        ≡ match_ordering o (named_ref (name, s) ∷ named_ref e ∷ map named_ref es) (named_ref (name, s) ∷ map named_ref es)
        (named_ref e ∷ with_ref (map named_ref es) (named_ref (name, s)))
    at Less h r = refl
    at Equal h r = ap (λ n. record { name = n; id = s.id; peeled = s.peeled } ∷ map named_ref es) (sym (exact_bytes name.items e.0.items h))
    at Greater h r = ap (λ rs. named_ref e ∷ rs) r

-- the id that is found is the one stored under the name
find_held : (es : List StoredName) (q : List ℕ) → find (slice_cmp nat_cmp) q (map (λ (r : PeeledRef). (r.name, r.id))
    (map named_ref es)) ≡ option_map (λ (s : StoredRef). s.id) (lookup (is_at (λ (k : Vec ℕ Global). slice_cmp nat_cmp q k.items)) es)
find_held [] q = refl
find_held (e ∷ es) q = at (eq_by_cmp (slice_cmp nat_cmp) q e.0.items) (find_held es q)
  where
    at : (b : Bool) → find (slice_cmp nat_cmp) q (map (λ (r : PeeledRef). (r.name, r.id)) (map named_ref es))
        ≡ option_map (λ (s : StoredRef). s.id) (lookup (is_at (λ (k : Vec ℕ Global). slice_cmp nat_cmp q k.items)) es)
        → cond b (Some e.1.id) (find (slice_cmp nat_cmp) q (map (λ (r : PeeledRef). (r.name, r.id)) (map named_ref es))) ≡ option_map
        (λ (s : StoredRef). s.id) (cond b (Some e.1) (lookup (is_at (λ (k : Vec ℕ Global). slice_cmp nat_cmp q k.items)) es))
    at true h = refl
    at false h = h

-- the id of a name is the stored one
pub held_stored : (es : List StoredName) (q : List ℕ) → ref_named (map named_ref es) q ≡ option_map (λ (s : StoredRef). s.id)
    (lookup (is_at (λ (k : Vec ℕ Global). slice_cmp nat_cmp q k.items)) es)
held_stored es q = get-from_entries nat_list_cmp_total (map (λ (r : PeeledRef). (r.name, r.id)) (map named_ref es)) q ∙ find_held es q

abbrev pub id_stored : Option StoredRef → Option ObjectId
id_stored o = option_map (λ (s : StoredRef). s.id) o

-- the ids that the refs peel to
pub peeled_stored : (es : List StoredName) → map (λ (s : StoredRef). s.peeled) (values_of es) ≡ peeled_ids (map named_ref es)
peeled_stored [] = refl
peeled_stored (e ∷ es) = ap (λ ids. e.1.peeled ∷ ids) (peeled_stored es)

-- the names and the ids of the refs
pub held_refs_stored : (es : List StoredName) → map (λ (e : StoredName). (e.0.items, e.1.id)) es ≡ map held_ref (map named_ref es)
held_refs_stored [] = refl
held_refs_stored (e ∷ es) = ap (λ rest. (e.0.items, e.1.id) ∷ rest) (held_refs_stored es)
