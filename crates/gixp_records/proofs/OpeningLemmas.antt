-- The start of an advertisement, up to its first ref line.
use Rattle.std.proofs.Common.{◌≡◌, ℕ, ◌+◌, ◌<◌, ◌==◌, List, length, take, drop, refl, sym, ap, subst, ◌∙◌, arith, Option, Some, None, Result}
use Rattle.std.specs.Io.BufRead.{strip_last}
use Rattle.std.specs.List.{position}
use Rattle.std.proofs.lemmas.List.{length-take-le}
use Rattle.std.proofs.lemmas.List.Quantifiers.{position-Some}
use Rattle.gixp_packetline.specs.declared.protocol.Protocol.TheVariants.{V0}
use Rattle.gixp_packetline.specs.Pieces.{line, Pieces, with_piece}
use Rattle.gixp_packetline.specs.Lines.{next_of}
use Rattle.gixp_capabilities.specs.Cut.{cut, parts_at}
use Rattle.gixp_capabilities.specs.Capabilities.{capabilities_of_words, capabilities_after, capabilities_of_line}
use Rattle.gixp_transport.specs.CapabilityAdvertisement.{Named, one, two, another, unnamed, version_named, by_first, by_version, advertisement}
use Rattle.gixp_records.specs.declared.advertised.opening.NamedVersion.TheVariants.{One, Two, Another, Unnamed}
use Rattle.gixp_records.specs.declared.advertised.opening.Opened.{Opened}
use Rattle.gixp_records.specs.declared.advertised.refused.AdvertisedRefused.{AdvertisedRefused}
use Rattle.gixp_records.specs.Packets.{pieces_at}
use Rattle.gixp_records.specs.RefsOpening.{named_as, IsOpened}

-- the capabilities after the first NUL, and its offset
pub cut_capabilities : (text front following : List ℕ) → cut 0 text ≡ (front, Some following)
    → capabilities_of_line text ≡ Some (capabilities_of_words (strip_last 10 following), length front)
cut_capabilities text front following h = at (position (λ x. x == 0) text) refl h
  where
    at : (o : Option ℕ) → position (λ x. x == 0) text ≡ o → parts_at text o ≡ (front, Some following)
        → capabilities_of_line text ≡ Some (capabilities_of_words (strip_last 10 following), length front)
    at None p e = let k = ap (λ (x : List ℕ × Option (List ℕ)). x.1) e in absurd cc
    at (Some i) p e =
        let k : Some (drop (i + 1) text) ≡ Some following = ap (λ (x : List ℕ × Option (List ℕ)). x.1) e in
        let first : take i text ≡ front = ap (λ (x : List ℕ × Option (List ℕ)). x.0) e in
        let rest : drop (i + 1) text ≡ following = cc in
        let short : i < length text = (position-Some (λ x. x == 0) text i 0 p).0 in
        let size : length front ≡ i = ap length (sym first) ∙ length-take-le i text (omega arith) in
        ap (capabilities_after text) p ∙ ap (λ r. Some (capabilities_of_words (strip_last 10 r), i)) rest
        ∙ ap (λ n. Some (capabilities_of_words (strip_last 10 following), n)) (sym size)

pub names_one : (n : Named) → named_as n ≡ One → n ≡ one
names_one one e = refl
names_one two e = cc
names_one (another text) e = cc
names_one unnamed e = cc

pub names_two : (n : Named) → named_as n ≡ Two → n ≡ two
names_two one e = cc
names_two two e = refl
names_two (another text) e = cc
names_two unnamed e = cc

pub names_another : (n : Named) → named_as n ≡ Another → (text : List ℕ) × (n ≡ another text)
names_another one e = absurd cc
names_another two e = absurd cc
names_another (another text) e = (text, refl)
names_another unnamed e = absurd cc

pub names_none : (n : Named) → named_as n ≡ Unnamed → n ≡ unnamed
names_none one e = cc
names_none two e = cc
names_none (another text) e = cc
names_none unnamed e = refl

-- the start by the version that the first line names
pub opened_by : (bytes : List ℕ) (n m : Named) (all rest : Pieces) (r : Result Opened AdvertisedRefused) → n ≡ m
    → IsOpened bytes (by_version m all rest) r → IsOpened bytes (by_version n all rest) r
opened_by bytes n m all rest r e h = subst (λ k. IsOpened bytes (by_version k all rest) r) (sym e) h

-- the start by the first line
pub opened_first : (bytes text : List ℕ) (rest : Pieces) (r : Result Opened AdvertisedRefused)
    → pieces_at bytes 0 ≡ with_piece (line text) rest → IsOpened bytes (by_version (version_named text) (pieces_at bytes 0) rest) r
    → IsOpened bytes (advertisement (pieces_at bytes 0)) r
opened_first bytes text rest r e h =
    subst (λ n. IsOpened bytes (by_first (pieces_at bytes 0) n) r) (sym (ap (next_of V0) e)) h
