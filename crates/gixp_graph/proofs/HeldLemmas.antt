-- Commits as nodes of a map, and as a finite map.
use Rattle.std.proofs.Common.{ℤ, ◌≡◌, ◌∙◌, Option, Some, None, refl, sym, ap}
use Rattle.std.specs.Prelude.{option_map}
use Rattle.std.specs.Option.{option_or}
use Rattle.std.specs.FinMap as finite
use Rattle.gixp_hash.specs.declared.object_id.ObjectId.{ObjectId}
use Rattle.gixp_graph.specs.declared.flags.Flags.{Flags}
use Rattle.gixp_graph.specs.Object.{Commit, commit_at}
use Rattle.gixp_graph.specs.GraphData.{HeldCommit, shown, Commits, GraphData, found_in, looked_up, flagged, with_flags, unmarked, put}
use Rattle.gixp_graph.specs.GraphLaws.{put_same}

-- a held commit is found
pub found_held : (g : GraphData) (id : ObjectId) (h : HeldCommit) → finite.get g.held id ≡ Some h → found_in g id ≡ Some h
found_held g id h is = ap (λ o. option_or o (option_map unmarked (commit_at g.objects id))) is

-- a commit that isn't held is found as the objects have it
pub found_new : (g : GraphData) (id : ObjectId) (o : Option Commit) → finite.get g.held id ≡ None → o ≡ commit_at g.objects id
    → found_in g id ≡ option_map unmarked o
found_new g id o is c = ap (λ o. option_or o (option_map unmarked (commit_at g.objects id))) is ∙ ap (option_map unmarked) (sym c)

-- a look-up of a held commit changes nothing
pub looked_up_held : (g : GraphData) (id : ObjectId) (h : HeldCommit) → finite.get g.held id ≡ Some h → looked_up g id ≡ g.held
looked_up_held g id h is = ap (put g.held id) (found_held g id h is) ∙ put_same g.held id h is

-- marks are added to a held commit
pub flagged_held : (m : Commits) (id : ObjectId) (flags : Flags) (h : HeldCommit) → finite.get m id ≡ Some h
    → flagged m id flags ≡ finite.insert m id (with_flags flags h)
flagged_held m id flags h is = ap (λ o. put m id (option_map (with_flags flags) o)) is

-- marks aren't added to a commit that isn't held
pub flagged_none : (m : Commits) (id : ObjectId) (flags : Flags) → finite.get m id ≡ None → flagged m id flags ≡ m
flagged_none m id flags is = ap (λ o. put m id (option_map (with_flags flags) o)) is

pub known_looked_up : (g : GraphData) (id : ObjectId) (r : ℤ × Flags)
    → ◌≡◌ {A = Option (ℤ × Flags)} (Some r) (option_map shown (finite.get g.held id)) → looked_up g id ≡ g.held
known_looked_up g id r e = at (finite.get g.held id) refl e
  where
    at : (o : Option HeldCommit) → finite.get g.held id ≡ o → ◌≡◌ {A = Option (ℤ × Flags)} (Some r) (option_map shown o)
        → looked_up g id ≡ g.held
    at None is e = cc
    at (Some h) is e = looked_up_held g id h is

-- where nothing is shown, nothing is held
pub none_shown : (o : Option HeldCommit) → ◌≡◌ {A = Option (ℤ × Flags)} None (option_map shown o) → o ≡ None
none_shown None e = refl
none_shown (Some h) e = cc

pub unknown : (m : Commits) (id : ObjectId) → ◌≡◌ {A = Option (ℤ × Flags)} None (option_map shown (finite.get m id))
    → finite.get m id ≡ None
unknown m id e = none_shown (finite.get m id) e
