-- The features of a session's fetch.
use Rattle.std.proofs.Common.{rules, ◌≡◌, ◌∙◌, ℕ, ap, sym, refl, Bool, true, false, List, [], ◌∷◌, ◌++◌, Option, Some, None, Ok}
use Rattle.std.specs.Prelude.{map, filter, take, drop, codes, ◌&&◌, ◌||◌, not, if◌then◌else◌, String}
use Rattle.std.specs.List.{list_any}
use Rattle.std.specs.Str.{bytes_eq}
use Rattle.std.specs.declared.alloc.Global.{Global}
use Rattle.gixp_packetline.specs.declared.protocol.Protocol.{Protocol}
use Rattle.gixp_packetline.specs.declared.protocol.Protocol.TheVariants.{V0, V1, V2}
use Rattle.gixp_capabilities.specs.Capabilities.{CapabilityValue, has_named}
use Rattle.gixp_requests.specs.declared.command.Command.TheVariants.{Fetch}
use Rattle.gixp_requests.specs.Arguments.{ArgumentsValue, asks_nothing, can_use, can_use_include_tag}
use Rattle.gixp_requests.specs.Command.{WordEntry, always}
use Rattle.gixp_requests.specs.Feature.{FeatureValue, has_feature}
use Rattle.gixp_requests.specs.Offers.{is_offered, supports, plain_feature, default_names}
use Rattle.gixp_refmap.specs.declared.fetch.Tags.{Tags}
use Rattle.gixp_refmap.specs.declared.fetch.Tags.TheVariants.{All, Included, None as no_tags}
use Rattle.gixp_handshake.specs.declared.handshake.read.Handshake.{Handshake}
use Rattle.gixp_fetch.specs.FetchShallow.{if_can}
use Rattle.gixp_fetch.specs.Prepare.{asks_tags, features_of}
use Rattle.gixp_client.specs.ClientNames.{named_by, own_features, id_features}
use Rattle.gixp_client.specs.FirstArguments.{call_by, first_arguments, tagged_arguments}
use Rattle.gixp_client.specs.SentTags.{includes_tags, sent_tags}
use Rattle.gixp_client.specs.Tables.{asked_table}
use Rattle.gixp_client.specs.declared.name.ClientName.{ClientName}
use Rattle.gixp_client.specs.declared.request.Request.{Request}
use Rattle.gixp_client.specs.declared.tables.UriProtocols.{UriProtocols}
use Rattle.gixp_client.specs.declared.tables.UriProtocols.TheVariants.{Neither, Http, Https, Both}

or_none : (a b : Bool) → a ≡ false → b ≡ false → (a || b) ≡ false
or_none true b e f = search (rules, e)
or_none false b e f = f

or_first : (a b : Bool) → a ≡ true → (a || b) ≡ true
or_first true b e = refl
or_first false b e = search (rules, e)

or_second : (a b : Bool) → b ≡ true → (a || b) ≡ true
or_second true b e = refl
or_second false b e = e

none_left : (a b : Bool) → (a || b) ≡ false → a ≡ false
none_left true b e = search (rules, e)
none_left false b e = refl

none_right : (a b : Bool) → (a || b) ≡ false → b ≡ false
none_right true b e = search (rules, e)
none_right false b e = e

or_assoc : (a b c : Bool) → ((a || b) || c) ≡ (a || (b || c))
or_assoc true b c = refl
or_assoc false b c = refl

-- the features by these names, and others
with_names : (word : List ℕ) (names : List (List ℕ)) (rest : List FeatureValue)
    → has_feature word (map plain_feature names ++ rest) ≡ (list_any (λ n. bytes_eq n word) names || has_feature word rest)
with_names word [] rest = refl
with_names word (name ∷ names) rest =
    ap (λ (x : Bool). bytes_eq name word || x) (with_names word names rest)
    ∙ sym (or_assoc (bytes_eq name word) (list_any (λ n. bytes_eq n word) names) (has_feature word rest))

-- the words of some entries
any_word : (word : List ℕ) (entries : List WordEntry)
    → list_any (λ n. bytes_eq n word) (map (λ (e : WordEntry). e.word) entries) ≡ list_any (λ (e : WordEntry). bytes_eq e.word word) entries
any_word word [] = refl
any_word word (e ∷ entries) = ap (λ (x : Bool). bytes_eq e.word word || x) (any_word word entries)

-- what no element of a list passes, none of a part of it passes
none_kept : {X : Type 0} (p : X → Bool) (x : X) (b : Bool) (rest : List X) → p x ≡ false → list_any p rest ≡ false
    → list_any p (if b then x ∷ rest else rest) ≡ false
none_kept p x true rest e f = or_none (p x) (list_any p rest) e f
none_kept p x false rest e f = f

none_filtered : {X : Type 0} (p q : X → Bool) (xs : List X) → list_any p xs ≡ false → list_any p (filter q xs) ≡ false
none_filtered p q [] e = refl
none_filtered p q (x ∷ xs) e =
    none_kept p x (q x) (filter q xs) (none_left (p x) (list_any p xs) e)
    (none_filtered p q xs (none_right (p x) (list_any p xs) e))

-- ---- wants are ids

-- no table of a session has `ref-in-want`
no_word : (wants_progress wants_thin_pack : Bool) (protocols : UriProtocols)
    → list_any (λ n. bytes_eq n (codes "ref-in-want")) (asked_table wants_progress wants_thin_pack protocols).v2_fetch ≡ false
no_word true true Neither = refl
no_word true false Neither = refl
no_word true true Http = refl
no_word true false Http = refl
no_word true true Https = refl
no_word true false Https = refl
no_word true true Both = refl
no_word true false Both = refl
no_word false true Neither = refl
no_word false false Neither = refl
no_word false true Http = refl
no_word false false Http = refl
no_word false true Https = refl
no_word false false Https = refl
no_word false true Both = refl
no_word false false Both = refl

no_entry : (wants_progress wants_thin_pack : Bool) (protocols : UriProtocols)
    → list_any (λ (e : WordEntry). bytes_eq e.word (codes "ref-in-want")) (asked_table wants_progress wants_thin_pack protocols).v1_fetch ≡ false
no_entry true true Neither = refl
no_entry true false Neither = refl
no_entry true true Http = refl
no_entry true false Http = refl
no_entry true true Https = refl
no_entry true false Https = refl
no_entry true true Both = refl
no_entry true false Both = refl
no_entry false true Neither = refl
no_entry false false Neither = refl
no_entry false true Http = refl
no_entry false false Http = refl
no_entry false true Https = refl
no_entry false false Https = refl
no_entry false true Both = refl
no_entry false false Both = refl

v1_unnamed : (wants_progress wants_thin_pack : Bool) (protocols : UriProtocols) (capabilities : List CapabilityValue)
    → list_any (λ n. bytes_eq n (codes "ref-in-want"))
    (map (λ (e : WordEntry). e.word) (filter (is_offered capabilities) (asked_table wants_progress wants_thin_pack protocols).v1_fetch)) ≡ false
v1_unnamed wants_progress wants_thin_pack protocols capabilities =
    any_word (codes "ref-in-want") (filter (is_offered capabilities) (asked_table wants_progress wants_thin_pack protocols).v1_fetch)
    ∙ none_filtered _ (is_offered capabilities) (asked_table wants_progress wants_thin_pack protocols).v1_fetch (no_entry wants_progress wants_thin_pack protocols)

unnamed : (version : Protocol) (wants_progress wants_thin_pack : Bool) (protocols : UriProtocols) (capabilities : List CapabilityValue)
    → list_any (λ n. bytes_eq n (codes "ref-in-want")) (default_names (asked_table wants_progress wants_thin_pack protocols) Fetch version capabilities)
    ≡ false
unnamed V2 wants_progress wants_thin_pack protocols capabilities =
    none_filtered _ (supports capabilities Fetch) (asked_table wants_progress wants_thin_pack protocols).v2_fetch (no_word wants_progress wants_thin_pack protocols)
unnamed V1 wants_progress wants_thin_pack protocols capabilities = v1_unnamed wants_progress wants_thin_pack protocols capabilities
unnamed V0 wants_progress wants_thin_pack protocols capabilities = v1_unnamed wants_progress wants_thin_pack protocols capabilities

more_unnamed : (has : Bool) (id : Option (String Global))
    → has_feature (codes "ref-in-want") (if has then own_features id else []) ≡ false
more_unnamed true None = refl
more_unnamed true (Some id) = refl
more_unnamed false id = refl

pub no_refs_by_name : (shaken : Handshake) (name : ClientName) (request : Request)
    → can_use (codes "ref-in-want") (first_arguments (call_by shaken name request)) ≡ false
no_refs_by_name shaken name request =
    with_names (codes "ref-in-want")
    (default_names (asked_table request.wants_progress request.wants_thin_pack request.uri_protocols) Fetch shaken.server_protocol_version shaken.capabilities)
    (named_by name ∷ id_features shaken.capabilities name.session_id)
    ∙ or_none _ _ (unnamed shaken.server_protocol_version request.wants_progress request.wants_thin_pack request.uri_protocols shaken.capabilities)
    (more_unnamed (has_named (codes "session-id") shaken.capabilities) name.session_id)

-- ---- tags

-- an entry before others
skipped : (b : Bool) (p : WordEntry → Bool) (e : WordEntry) (rest : List WordEntry) → list_any p rest ≡ true
    → list_any p (if b then e ∷ rest else rest) ≡ true
skipped true p e rest h = or_second (p e) (list_any p rest) h
skipped false p e rest h = h

past : (capabilities : List CapabilityValue) (p : WordEntry → Bool) (e : WordEntry) (entries : List WordEntry)
    → list_any p (filter (is_offered capabilities) entries) ≡ true → list_any p (filter (is_offered capabilities) (e ∷ entries)) ≡ true
past capabilities p e entries h = skipped (is_offered capabilities e) p e (filter (is_offered capabilities) entries) h

-- the entry of an offered feature
offered_first : (has : Bool) (rest : List WordEntry) → has ≡ true
    → list_any (λ (e : WordEntry). bytes_eq e.word (codes "include-tag"))
    (if has && not false then always (codes "include-tag") ∷ rest else rest) ≡ true
offered_first true rest h = refl
offered_first false rest h = search (rules, h)

anywhere : (capabilities : List CapabilityValue) (front back : List WordEntry) → has_named (codes "include-tag") capabilities ≡ true
    → list_any (λ (e : WordEntry). bytes_eq e.word (codes "include-tag"))
    (filter (is_offered capabilities) (front ++ always (codes "include-tag") ∷ back)) ≡ true
anywhere capabilities [] back h =
    offered_first (has_named (codes "include-tag") capabilities) (filter (is_offered capabilities) back) h
anywhere capabilities (e ∷ front) back h =
    past capabilities (λ (x : WordEntry). bytes_eq x.word (codes "include-tag")) e (front ++ always (codes "include-tag") ∷ back)
    (anywhere capabilities front back h)

from_loud : (capabilities : List CapabilityValue) → has_named (codes "include-tag") capabilities ≡ true
    → list_any (λ (e : WordEntry). bytes_eq e.word (codes "include-tag"))
    (filter (is_offered capabilities) (asked_table true true Neither).v1_fetch) ≡ true
from_loud capabilities h = anywhere capabilities (take 9 (asked_table true true Neither).v1_fetch) (drop 10 (asked_table true true Neither).v1_fetch) h

from_loud_whole : (capabilities : List CapabilityValue) → has_named (codes "include-tag") capabilities ≡ true
    → list_any (λ (e : WordEntry). bytes_eq e.word (codes "include-tag"))
    (filter (is_offered capabilities) (asked_table true false Neither).v1_fetch) ≡ true
from_loud_whole capabilities h = anywhere capabilities (take 8 (asked_table true false Neither).v1_fetch) (drop 9 (asked_table true false Neither).v1_fetch) h

from_quiet : (capabilities : List CapabilityValue) → has_named (codes "include-tag") capabilities ≡ true
    → list_any (λ (e : WordEntry). bytes_eq e.word (codes "include-tag"))
    (filter (is_offered capabilities) (asked_table false true Neither).v1_fetch) ≡ true
from_quiet capabilities h = anywhere capabilities (take 9 (asked_table false true Neither).v1_fetch) (drop 10 (asked_table false true Neither).v1_fetch) h

from_quiet_whole : (capabilities : List CapabilityValue) → has_named (codes "include-tag") capabilities ≡ true
    → list_any (λ (e : WordEntry). bytes_eq e.word (codes "include-tag"))
    (filter (is_offered capabilities) (asked_table false false Neither).v1_fetch) ≡ true
from_quiet_whole capabilities h = anywhere capabilities (take 8 (asked_table false false Neither).v1_fetch) (drop 9 (asked_table false false Neither).v1_fetch) h

from_table : (capabilities : List CapabilityValue) (wants_progress wants_thin_pack : Bool) (protocols : UriProtocols)
    → has_named (codes "include-tag") capabilities ≡ true
    → list_any (λ (e : WordEntry). bytes_eq e.word (codes "include-tag"))
    (filter (is_offered capabilities) (asked_table wants_progress wants_thin_pack protocols).v1_fetch) ≡ true
from_table capabilities true true Neither h = from_loud capabilities h
from_table capabilities true true Http h = from_loud capabilities h
from_table capabilities true true Https h = from_loud capabilities h
from_table capabilities true true Both h = from_loud capabilities h
from_table capabilities true false Neither h = from_loud_whole capabilities h
from_table capabilities true false Http h = from_loud_whole capabilities h
from_table capabilities true false Https h = from_loud_whole capabilities h
from_table capabilities true false Both h = from_loud_whole capabilities h
from_table capabilities false true Neither h = from_quiet capabilities h
from_table capabilities false true Http h = from_quiet capabilities h
from_table capabilities false true Https h = from_quiet capabilities h
from_table capabilities false true Both h = from_quiet capabilities h
from_table capabilities false false Neither h = from_quiet_whole capabilities h
from_table capabilities false false Http h = from_quiet_whole capabilities h
from_table capabilities false false Https h = from_quiet_whole capabilities h
from_table capabilities false false Both h = from_quiet_whole capabilities h

-- a feature that the server offers can be used
named_v1 : (capabilities : List CapabilityValue) (wants_progress wants_thin_pack : Bool) (protocols : UriProtocols) (rest : List FeatureValue)
    → has_named (codes "include-tag") capabilities ≡ true
    → has_feature (codes "include-tag") (map plain_feature
    (map (λ (e : WordEntry). e.word) (filter (is_offered capabilities) (asked_table wants_progress wants_thin_pack protocols).v1_fetch)) ++ rest) ≡ true
named_v1 capabilities wants_progress wants_thin_pack protocols rest h =
    let entries = filter (is_offered capabilities) (asked_table wants_progress wants_thin_pack protocols).v1_fetch in
    with_names (codes "include-tag") (map (λ (e : WordEntry). e.word) entries) rest
    ∙ or_first _ (has_feature (codes "include-tag") rest) (any_word (codes "include-tag") entries
    ∙ from_table capabilities wants_progress wants_thin_pack protocols h)

usable : (version : Protocol) (capabilities : List CapabilityValue) (wants_progress wants_thin_pack : Bool) (protocols : UriProtocols)
    (agent : FeatureValue) (more : List FeatureValue) → includes_tags version capabilities ≡ true
    → can_use_include_tag (asks_nothing (asked_table wants_progress wants_thin_pack protocols) version
    (features_of (asked_table wants_progress wants_thin_pack protocols) version capabilities agent more)) ≡ true
usable V2 capabilities wants_progress wants_thin_pack protocols agent more h = refl
usable V1 capabilities wants_progress wants_thin_pack protocols agent more h = named_v1 capabilities wants_progress wants_thin_pack protocols (agent ∷ more) h
usable V0 capabilities wants_progress wants_thin_pack protocols agent more h = named_v1 capabilities wants_progress wants_thin_pack protocols (agent ∷ more) h

-- the test of a feature that can be used succeeds
taken : (can : Bool) (name : List ℕ) (a : ArgumentsValue) → can ≡ true → (b : ArgumentsValue) × (if_can can name a ≡ Ok b)
taken true name a h = (a, refl)
taken false name a h = search (rules, h)

included : (has : Bool) (a : ArgumentsValue) → (has ≡ true → can_use_include_tag a ≡ true)
    → (b : ArgumentsValue) × (asks_tags (if has then Included else no_tags) a ≡ Ok b)
included true a h = taken (can_use_include_tag a) _ _ (h refl)
included false a h = (a, refl)

by_tags : (version : Protocol) (capabilities : List CapabilityValue) (tags : Tags) (a : ArgumentsValue)
    → (includes_tags version capabilities ≡ true → can_use_include_tag a ≡ true)
    → (b : ArgumentsValue) × (asks_tags (sent_tags version capabilities tags) a ≡ Ok b)
by_tags version capabilities Included a h = included (includes_tags version capabilities) a h
by_tags version capabilities All a h = (a, refl)
by_tags version capabilities no_tags a h = (a, refl)

pub tags_never_fail : (shaken : Handshake) (name : ClientName) (request : Request)
    → (asked : ArgumentsValue) × (tagged_arguments (call_by shaken name request) ≡ Ok asked)
tags_never_fail shaken name request =
    by_tags shaken.server_protocol_version shaken.capabilities request.tags (first_arguments (call_by shaken name request))
    (usable shaken.server_protocol_version shaken.capabilities request.wants_progress request.wants_thin_pack request.uri_protocols (named_by name)
    (id_features shaken.capabilities name.session_id))
