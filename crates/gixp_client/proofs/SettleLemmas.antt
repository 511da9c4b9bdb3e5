-- The result of a session's fetch, unless the server reported an error.
use Rattle.std.proofs.Common.{rules, ◌≡◌, ◌⊎◌, ◌∙◌, refl, sym, subst, ap, inl, inr, Bool, true, false, List, [], ◌∷◌, Option, Some, None, Result, Ok, Err}
use Rattle.std.specs.Prelude.{IfOk, ◌&&◌, if◌then◌else◌}
use Rattle.std.specs.Option.{option_map_or}
use Rattle.std.specs.List.{list_all}
use Rattle.gixp_hash.specs.declared.object_id.ObjectId.{ObjectId}
use Rattle.gixp_shallow.specs.declared.update.ShallowUpdate.{ShallowUpdate}
use Rattle.gixp_shallow.specs.declared.update.ShallowUpdate.TheVariants.{Shallow, Unshallow}
use Rattle.gixp_reachable.specs.Ids.{has_id}
use Rattle.gixp_client.specs.Unshallowed.{unknown_unshallow, TakesKnown, is_known, KnowsAll}
use Rattle.gixp_packetline.specs.declared.protocol.Protocol.{Protocol}
use Rattle.gixp_fetch.specs.declared.options.Outcome.{Outcome}
use Rattle.gixp_client.specs.declared.error.Error.{Error}
use Rattle.gixp_client.specs.declared.error.Error.TheVariants.{Memory}
use Rattle.gixp_client.specs.declared.listen.Kept.{Kept}
use Rattle.gixp_client.specs.declared.state.State.{State}
use Rattle.gixp_client.specs.declared.state.State.TheVariants.{Ended}
use Rattle.gixp_client.specs.SessionStates.{is_reported, state_after_outcome, state_after_fetch, IsReport, IsReportIn, IsRefusedFetch}

-- a fetch that succeeded wasn't ended by a reported error
pub received_of : (A B C D : Type 0) (messages : Kept) (received result : Result (Option Outcome) Error) (o : Option Outcome)
    → (A × (result ≡ received) × B) ⊎ (C × IsReportIn messages result × D) → result ≡ Ok o → received ≡ Ok o
received_of A B C D messages received result o (inl h) e = sym h.1 ∙ e
received_of A B C D messages received result o (inr h) e = absurd (subst (IsReportIn messages) e h.1)

-- the error is a report, or an allocation failure in its place
pub report_of : (messages : Kept) (result : Result (Option Outcome) Error) (e : Error) → IsReportIn messages result
    → (result ≡ Err e) ⊎ (e ≡ Memory) → IsReport messages e
report_of messages result e h (inl k) = subst (IsReportIn messages) k h
report_of messages result e h (inr k) = subst (IsReport messages) (sym k) tt

-- how the fetch failed, by the state before the check for reported errors
pub refused_of : (A C : Type 0) (messages : Kept) (is_negotiated : Bool) (version : Protocol) (received result : Result (Option Outcome) Error) (e : Error) (s t : State)
    → (A × (result ≡ received) × (t ≡ s)) ⊎ (C × IsReportIn messages result × (t ≡ Ended)) → (result ≡ Err e) ⊎ (e ≡ Memory)
    → s ≡ state_after_fetch is_negotiated version received → IsRefusedFetch is_negotiated version received e t
refused_of A C messages is_negotiated version received result e s t (inl h) (inl k) position = inl (inl (sym h.1 ∙ k), h.2 ∙ position)
refused_of A C messages is_negotiated version received result e s t (inl h) (inr k) position = inl (inr k, h.2 ∙ position)
refused_of A C messages is_negotiated version received result e s t (inr h) k position = inr (messages, report_of messages result e h.1 k, h.2)

-- the state after a fetch that succeeded
pub stands_of : (A C : Type 0) (messages : Kept) (is_negotiated : Bool) (version : Protocol) (received result : Result (Option Outcome) Error)
    (o : Option Outcome) (s t : State)
    → (A × (result ≡ received) × (t ≡ s)) ⊎ (C × IsReportIn messages result × (t ≡ Ended)) → result ≡ Ok o
    → s ≡ state_after_fetch is_negotiated version received → t ≡ state_after_outcome version o
stands_of A C messages is_negotiated version received result o s t (inl h) e position =
    h.2 ∙ position ∙ ap (state_after_fetch is_negotiated version) (sym h.1 ∙ e)
stands_of A C messages is_negotiated version received result o s t (inr h) e position = absurd (subst (IsReportIn messages) e h.1)

-- an unshallow update, by whether the boundary has its id
taken_known : (has : Bool) (known : Bool) (id : ObjectId) (rest : Option ObjectId) (others : Bool) → has ≡ known
    → option_map_or Some (if has then None else Some id) rest ≡ None → (rest ≡ None → others ≡ true)
    → (known && others) ≡ true
taken_known true known id rest others h e k = subst (λ (x : Bool). (x && others) ≡ true) h (k e)
taken_known false known id rest others h e k = search (rules, e)

-- if updates unshallow no unknown id, all their unshallowed ids are in the boundary
pub all_known : (is_in : ObjectId → Bool) (ids : List ObjectId) → ((id : ObjectId) → is_in id ≡ has_id ids id)
    → (updates : List ShallowUpdate) → unknown_unshallow is_in updates ≡ None → list_all (is_known ids) updates ≡ true
all_known is_in ids same [] e = refl
all_known is_in ids same (Shallow id ∷ updates) e = all_known is_in ids same updates e
all_known is_in ids same (Unshallow id ∷ updates) e =
    taken_known (is_in id) (has_id ids id) id (unknown_unshallow is_in updates) (list_all (is_known ids) updates)
    (same id) e (all_known is_in ids same updates)

known_all : (is_in : ObjectId → Bool) (ids : List ObjectId) → ((id : ObjectId) → is_in id ≡ has_id ids id)
    → (o : Option Outcome) → TakesKnown is_in o → KnowsAll ids o
known_all is_in ids same None h = tt
known_all is_in ids same (Some outcome) h = all_known is_in ids same outcome.last_response.shallow_updates h

-- the last response of a successful fetch unshallows only ids of the boundary
pub known_of : (A B C D : Type 0) (messages : Kept) (received result : Result (Option Outcome) Error) (o : Option Outcome) (is_in : ObjectId → Bool)
    (ids : List ObjectId) → (A × (result ≡ received) × B) ⊎ (C × IsReportIn messages result × D) → result ≡ Ok o
    → ((id : ObjectId) → is_in id ≡ has_id ids id) → IfOk received (TakesKnown is_in) → KnowsAll ids o
known_of A B C D messages received result o is_in ids reported e same h =
    known_all is_in ids same o (subst (λ (r : Result (Option Outcome) Error). IfOk r (TakesKnown is_in))
    (received_of A B C D messages received result o reported e) h)

-- a fetch that succeeded heard no error that ends it
pub unreported_of : (B C D : Type 0) (goes_on : Bool) (kept messages : Kept) (received result : Result (Option Outcome) Error)
    (o : Option Outcome) → ((is_reported goes_on kept.has_error ≡ false) × (result ≡ received) × B) ⊎ (C × IsReportIn kept result × D)
    → result ≡ Ok o → messages ≡ kept → is_reported goes_on messages.has_error ≡ false
unreported_of B C D goes_on kept messages received result o (inl h) e same =
    ap (λ (x : Kept). is_reported goes_on x.has_error) same ∙ h.0
unreported_of B C D goes_on kept messages received result o (inr h) e same = absurd (subst (IsReportIn kept) e h.1)
