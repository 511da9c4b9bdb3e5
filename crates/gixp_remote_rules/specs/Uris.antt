-- Packs that a server names by URIs (git-config, "fetch.uriProtocols"; git-http-fetch,
-- "--packfile"; git's "Packfile URIs").
use Rattle.std.specs.Prelude.{◌≡◌, ℕ, ◌+◌, ◌==◌, ◌||◌, ◌&&◌, nat_eq, nat_lt, Bool, true, false, if◌then◌else◌, List, [], ◌∷◌, ◌++◌, length, take, drop, map, codes, slice_range, Option, Some, None, Result, Ok, Err}
use Rattle.std.specs.List.{list_any, slice_split, starts_with}
use Rattle.std.specs.Str.{bytes_eq}
use Rattle.gixp_hash.specs.Hex.{encode_lower}
use Rattle.gixp_hash.specs.declared.object_id.ObjectId.{ObjectId}
use Rattle.gixp_remote_rules.specs.IndexPack.{id_value, parsed_id}
use Rattle.gixp_remote_rules.specs.declared.uris.DownloadError.{DownloadError}
use Rattle.gixp_remote_rules.specs.declared.uris.DownloadError.TheVariants.{NoLock, NoName, Unfinished}

-- a setting, whose words commas (44) separate, names a protocol
abbrev pub names_protocol : List ℕ → Option (List ℕ) → Bool
names_protocol word None = false
names_protocol word (Some text) = list_any (λ part. bytes_eq part word) (slice_split (λ b. b == 44) text)

-- the setting names the protocol of a URI
abbrev pub allows_uri : (http https : Bool) → List ℕ → Bool
allows_uri http https uri =
    (http && starts_with nat_eq uri (codes "http://")) || (https && starts_with nat_eq uri (codes "https://"))

-- an argument of git index-pack for one of several packs: neither connectivity nor links are
-- checked
abbrev pub part_word : List ℕ → List (List ℕ)
part_word word =
    if bytes_eq word (codes "--check-self-contained-and-connected") then []
    else if starts_with nat_eq word (codes "--strict") then codes "--fsck-objects" ∷ []
    else word ∷ []

-- git http-fetch downloads a pack, and passes these arguments to git index-pack
abbrev pub index_argument : List ℕ → List ℕ
index_argument word = codes "--index-pack-arg=" ++ word

abbrev pub download_argv : List ℕ → List (List ℕ) → List ℕ → List (List ℕ)
download_argv name argv uri =
    codes "http-fetch" ∷ (codes "--packfile=" ++ name) ∷ (map index_argument argv ++ uri ∷ [])

-- the hash after the lock: 40 digits and a line feed
abbrev pub pack_name_in : List ℕ → Option (List ℕ)
pack_name_in rest =
    if nat_lt (length rest) 41 then None
    else if bytes_eq (slice_range rest 40 41) (codes "\n") then parsed_id (take 40 rest) else None

-- the lock is git's own, the hash follows, and the exit status is 0
abbrev pub IsCheckedName : Option (List ℕ) → ℕ → Result ObjectId DownloadError → Type 0
IsCheckedName None status r = r ≡ Err NoName
IsCheckedName (Some name) status (Ok id) = (id_value id ≡ name) × (status ≡ 0)
IsCheckedName (Some name) status (Err e) = (e ≡ Unfinished) × ((status == 0) ≡ false)

abbrev pub IsDownloadBy : Bool → List ℕ → ℕ → Result ObjectId DownloadError → Type 0
IsDownloadBy true rest status r = IsCheckedName (pack_name_in rest) status r
IsDownloadBy false rest status r = r ≡ Err NoLock

abbrev pub IsDownload : List ℕ → ℕ → Result ObjectId DownloadError → Type 0
IsDownload text status r = IsDownloadBy (starts_with nat_eq text (codes "keep\t")) (drop 5 text) status r

-- git printed more than one line
abbrev pub has_second_line : List ℕ → Option ℕ → Bool
has_second_line text None = false
has_second_line text (Some at) = nat_lt (at + 1) (length text)

-- git checks the objects of a pack again
abbrev pub fsck_pack_argv : List ℕ → List ℕ → List (List ℕ)
fsck_pack_argv index pack = codes "index-pack" ∷ codes "--fsck-objects" ∷ codes "-o" ∷ index ∷ pack ∷ []
