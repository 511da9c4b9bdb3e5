-- A needle matches what its source matches.
use Rattle.std.proofs.Common.{◌≡◌, ℕ, List, Option, ap, sym, ◌∙◌}
use Rattle.gixp_refspec.specs.declared.needle.Needle.{Needle}
use Rattle.gixp_refspec.specs.declared.needle.Needle.TheVariants.{Id as the_id, Pattern as the_pattern, Exact as the_exact, Short as the_short}
use Rattle.std.specs.List.{list_any}
use Rattle.std.specs.Str.{bytes_eq}
use Rattle.gixp_refspec.specs.Matching.{middle_of, middle_by, between, where_true, candidates, before_star}
use Rattle.gixp_refspec.specs.Needle.{IsNeedle, middle_with}

-- the needle and the source find the same middle of a name
pub middle_with-needle : (source name : List ℕ) (needle : Needle) → IsNeedle source needle → middle_with needle name ≡ middle_of source name
unfolding middle_of
middle_with-needle source name the_id h = ap (λ k. middle_by k source name) (sym h)
middle_with-needle source name (the_pattern before after) h =
    ap (λ b. between b after.now name) h.1 ∙ ap (λ a. between (before_star source) a name) h.2 ∙ ap (λ k. middle_by k source name) (sym h.0)
middle_with-needle source name (the_exact text) h = ap (λ t. where_true (bytes_eq name t)) h.1 ∙ ap (λ k. middle_by k source name) (sym h.0)
middle_with-needle source name (the_short text) h =
    ap (λ t. where_true (list_any (λ candidate. bytes_eq name candidate) (candidates t))) h.1 ∙ ap (λ k. middle_by k source name) (sym h.0)

pub found_is : (source name : List ℕ) (needle : Needle) (r found : Option (List ℕ)) → IsNeedle source needle → r ≡ middle_with needle name
    → r ≡ found → middle_of source name ≡ found
found_is source name needle r found made was is = sym (middle_with-needle source name needle made) ∙ sym was ∙ is
