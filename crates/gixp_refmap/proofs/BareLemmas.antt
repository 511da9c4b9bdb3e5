-- The first of equal mappings don't depend on the indices of the refs.
use Rattle.std.proofs.Common.{◌≡◌, List, [], ◌∷◌, ◌++◌, map, ap, sym, ◌∙◌, refl}
use Rattle.std.specs.Prelude.{not}
use Rattle.std.proofs.lemmas.List.{map-append, map-id}
use Rattle.gixp_matching.specs.Mappings.{Mapped, is_same, firsts}
use Rattle.gixp_matching.specs.Firsts.{is_fresh, first_flags, flagged}
use Rattle.gixp_matching.specs.Leaving.{without_item}
use Rattle.gixp_matching.proofs.FirstLemmas.{values_from_flags}
use Rattle.gixp_packetline.proofs.ListLemmas.{any_of_map}

-- the flags of the first ones, without the indices
pub flags_of_bare : (earlier ms : List Mapped) → first_flags (map without_item earlier) (map without_item ms) ≡ first_flags earlier ms
flags_of_bare earlier [] = refl
flags_of_bare earlier (m ∷ ms) =
    let more = map without_item earlier ++ without_item m ∷ [] in
    let fresh : is_fresh (map without_item earlier) (without_item m) ≡ is_fresh earlier m =
    ap not (any_of_map (λ e. is_same e (without_item m)) without_item earlier) in
    let rest : first_flags more (map without_item ms) ≡ first_flags (earlier ++ m ∷ []) ms =
    ap (λ es. first_flags es (map without_item ms)) (sym (map-append without_item earlier (m ∷ [])))
    ∙ flags_of_bare (earlier ++ m ∷ []) ms in
    ap (λ b. b ∷ first_flags more (map without_item ms)) fresh ∙ ap (λ bs. is_fresh earlier m ∷ bs) rest

-- the first of equal ones, by their flags
pub firsts_by_flags : (ms : List Mapped) → flagged ms (first_flags [] ms) ≡ firsts ms
firsts_by_flags ms =
    let flags = first_flags [] ms in
    sym (map-id (flagged ms flags))
    ∙ values_from_flags (λ (m : Mapped). m) ms (flagged ms flags) (ap (λ ns. flagged ms (first_flags [] ns)) (sym (map-id ms)))
    ∙ ap firsts (map-id ms)
