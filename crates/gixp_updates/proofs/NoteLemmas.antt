-- Refspecs that no ref matches.
use Rattle.std.proofs.Common.{◌≡◌, ℕ, ◌&&◌, List, [], ◌∷◌, Option, Some, None, refl, ap, sym, ◌∙◌}
use Rattle.std.specs.Prelude.{is_some, option_map}
use Rattle.std.specs.List.{list_any}
use Rattle.std.specs.Str.{bytes_eq}
use Rattle.gixp_hash.specs.declared.object_id.ObjectId.{ObjectId}
use Rattle.gixp_hash.specs.ObjectId.{id_of}
use Rattle.gixp_refs.specs.declared.handshake.Ref.{Ref}
use Rattle.gixp_refs.specs.Ref.{unpacked_name, unpacked_target}
use Rattle.gixp_refspec.specs.declared.needle.Needle.{Needle}
use Rattle.gixp_refspec.specs.declared.needle.Needle.TheVariants.{Id as the_id, Pattern as the_pattern, Exact as the_exact, Short as the_short}
use Rattle.gixp_refspec.specs.Spec.{Spec, is_id}
use Rattle.gixp_refspec.specs.Matching.{middle_of, middle_by, between, where_true, candidates, before_star}
use Rattle.gixp_refspec.specs.Needle.{IsNeedle, middle_with}
use Rattle.gixp_updates.specs.Unmatched.{is_match_with, is_match}

-- the needle and the source find the same middle of a name
middle_with-needle : (source name : List ℕ) (needle : Needle) → IsNeedle source needle → middle_with needle name ≡ middle_of source name
unfolding middle_of
middle_with-needle source name the_id h = ap (λ k. middle_by k source name) (sym h)
middle_with-needle source name (the_pattern before after) h =
    ap (λ b. between b after.now name) h.1 ∙ ap (λ a. between (before_star source) a name) h.2 ∙ ap (λ k. middle_by k source name) (sym h.0)
middle_with-needle source name (the_exact text) h = ap (λ t. where_true (bytes_eq name t)) h.1 ∙ ap (λ k. middle_by k source name) (sym h.0)
middle_with-needle source name (the_short text) h =
    ap (λ t. where_true (list_any (λ candidate. bytes_eq name candidate) (candidates t))) h.1 ∙ ap (λ k. middle_by k source name) (sym h.0)

-- the matches of a needle among some refs
pub matched_by : (s : Spec) (needle : Needle) → IsNeedle s.source needle → (refs : List Ref) → list_any (is_match_with needle) refs
    ≡ list_any (is_match s) refs
matched_by s needle h [] = refl
matched_by s needle h (r ∷ refs) =
    let e : is_match_with needle r ≡ is_match s r =
    ap (λ m. is_some (unpacked_target r) && is_some m) (middle_with-needle s.source (unpacked_name r) needle h) in
    let t = matched_by s needle h refs in
    (cc)

some_bytes : (o : Option ObjectId) → is_some o ≡ is_some (option_map (λ (id : ObjectId). id.bytes) o)
some_bytes None = refl
some_bytes (Some id) = refl

pub is_id_by : (text : List ℕ) (o : Option ObjectId) → option_map (λ (id : ObjectId). id.bytes) o ≡ id_of text → is_some o ≡ is_id text
unfolding is_id
is_id_by text o e = some_bytes o ∙ ap is_some e
