-- Records and names written one after another.
use Rattle.std.proofs.Common.{◌≡◌, ℕ, ◌+◌, ◌-◌, ◌≤◌, ◌<◌, suc, List, [], ◌∷◌, ◌++◌, length, take, drop, map, set, get_or, refl, sym, ap, subst, ◌∙◌, append_assoc, append-nil, arith, length-append, add_assoc, add-zero, zero-add}
use Rattle.std.proofs.lemmas.List.{drop_more, set_at, take_at, drop_at, drop-drop, length-take-le, length-drop, length-map, take_more, get_or-map}
use Rattle.std.proofs.lemmas.List.Folds.{length-flat_map-take}
use Rattle.gixp_records.specs.declared.mapping_entry.MappingRecord.{MappingRecord}
use Rattle.gixp_records.specs.declared.mapping_entry.MappingEntry.{MappingEntry}
use Rattle.gixp_records.specs.MappingEntry.{EntryValue, entry_value, local_bytes, local_names, record_at, records_from}

-- the first `count` records are written, and the next name follows theirs
pub record WroteSome (entries : List EntryValue) (count : ℕ) (first : List MappingRecord) (buffer : List ℕ) (new : List MappingRecord)
    (now : List ℕ) (at : ℕ) : Type 0 where
  pub records : new ≡ records_from 0 (take count entries) ++ drop count first
  pub names : now ≡ local_names (take count entries) ++ drop at buffer
  pub place : at ≡ length (local_names (take count entries))

pub names-more : (xs : List EntryValue) (t : EntryValue) → local_names (xs ++ t ∷ []) ≡ local_names xs ++ local_bytes t
names-more [] t = append-nil (local_bytes t)
names-more (x ∷ xs) t = ap (λ l. local_bytes x ++ l) (names-more xs t)
    ∙ sym (append_assoc (local_bytes x) (local_names xs) (local_bytes t))

pub records-more : (at : ℕ) (xs : List EntryValue) (t : EntryValue)
    → records_from at (xs ++ t ∷ []) ≡ records_from at xs ++ record_at (at + length (local_names xs)) t ∷ []
records-more at [] t = ap (λ n. record_at n t ∷ []) (sym (add-zero at))
records-more at (x ∷ xs) t = ap (λ l. record_at at x ∷ l) (records-more (at + length (local_bytes x)) xs t
    ∙ ap (λ n. records_from (at + length (local_bytes x)) xs ++ record_at n t ∷ [])
    (add_assoc at (length (local_bytes x)) (length (local_names xs))
    ∙ ap (λ n. at + n) (sym (length-append (local_bytes x) (local_names xs)))))

pub length-records : (at : ℕ) (xs : List EntryValue) → length (records_from at xs) ≡ length xs
length-records at [] = refl
length-records at (x ∷ xs) = ap suc (length-records (at + length (local_bytes x)) xs)

-- the buffer has room for the next name
pub next-fits : (all : List MappingEntry) (i : ℕ) (d : MappingEntry) (first new : List MappingRecord) (buffer now : List ℕ) (at : ℕ) (name : List ℕ)
    → WroteSome (map entry_value all) i first buffer new now at → i < length all
    → length (local_names (map entry_value all)) ≤ length buffer → name ≡ local_bytes (entry_value (get_or all i d))
    → at + length name ≤ length now
next-fits all i d first new buffer now at name w l h e =
    let entries = map entry_value all in
    let front : length (local_names (take i entries)) + length (local_bytes (get_or entries i (entry_value d))) ≤ length (local_names entries) =
    length-flat_map-take local_bytes entries i (entry_value d) (subst (λ n. i < n) (sym (length-map all entry_value)) l) in
    let same : get_or entries i (entry_value d) ≡ entry_value (get_or all i d) = get_or-map entry_value all i d (entry_value d) l in
    let long : length (local_bytes (get_or entries i (entry_value d))) ≡ length name =
    ap (λ t. length (local_bytes t)) same ∙ ap length (sym e) in
    let whole : length now ≡ length (local_names (take i entries)) + (length buffer - at) = ap length w.names
    ∙ length-append _ (drop at buffer) ∙ ap (λ n. length (local_names (take i entries)) + n) (length-drop at buffer) in
    let place : at ≡ length (local_names (take i entries)) = w.place in
    omega arith

module _ (entries : List EntryValue) (i : ℕ) (t : EntryValue) (first : List MappingRecord) (buffer : List ℕ) (new : List MappingRecord)
    (now : List ℕ) (at : ℕ) (w : WroteSome entries i first buffer new now at) (e : take (i + 1) entries ≡ take i entries ++ t ∷ []) where
  more-records : (y : MappingRecord) (ys : List MappingRecord) → i ≤ length entries → drop i first ≡ y ∷ ys → drop (i + 1) first ≡ ys
      → set new i (record_at at t) ≡ records_from 0 (take (i + 1) entries) ++ drop (i + 1) first
  more-records y ys l d r =
      ap (λ n. set n i (record_at at t)) (w.records ∙ ap (λ r. records_from 0 (take i entries) ++ r) d)
      ∙ set_at (records_from 0 (take i entries)) y ys (record_at at t) i (length-records 0 (take i entries) ∙ length-take-le i entries l)
      ∙ ap (λ p. records_from 0 (take i entries) ++ record_at p t ∷ ys) (w.place ∙ sym (zero-add (length (local_names (take i entries)))))
      ∙ sym (append_assoc (records_from 0 (take i entries)) (record_at (0 + length (local_names (take i entries))) t ∷ []) ys)
      ∙ ap (λ l. l ++ ys) (sym (records-more 0 (take i entries) t) ∙ ap (records_from 0) (sym e))
      ∙ ap (λ l. records_from 0 (take (i + 1) entries) ++ l) (sym r)

  more-names : take at now ++ local_bytes t ++ drop (at + length (local_bytes t)) now
      ≡ local_names (take (i + 1) entries) ++ drop (at + length (local_bytes t)) buffer
  more-names =
      let n = length (local_bytes t) in
      let front : take at now ≡ local_names (take i entries) =
      ap (take at) w.names ∙ take_at (local_names (take i entries)) (drop at buffer) at (sym w.place) in
      let rest : drop at now ≡ drop at buffer =
      ap (drop at) w.names ∙ drop_at (local_names (take i entries)) (drop at buffer) at (sym w.place) in
      let back : drop (at + n) now ≡ drop (at + n) buffer = sym (drop-drop n at now) ∙ ap (drop n) rest ∙ drop-drop n at buffer in
      ap (λ l. l ++ local_bytes t ++ drop (at + n) now) front ∙ ap (λ l. local_names (take i entries) ++ local_bytes t ++ l) back
      ∙ ap (λ l. l ++ drop (at + n) buffer) (sym (names-more (take i entries) t) ∙ ap local_names (sym e))

  more-place : at + length (local_bytes t) ≡ length (local_names (take (i + 1) entries))
  more-place = ap (λ n. n + length (local_bytes t)) w.place ∙ sym (length-append (local_names (take i entries)) (local_bytes t))
      ∙ ap length (sym (names-more (take i entries) t) ∙ ap local_names (sym e))

  -- the next one is written
  wrote-more : (y : MappingRecord) (ys : List MappingRecord) → i ≤ length entries → drop i first ≡ y ∷ ys → drop (i + 1) first ≡ ys
      → WroteSome entries (i + 1) first buffer (set new i (record_at at t)) (take at now ++ local_bytes t
      ++ drop (at + length (local_bytes t)) now) (at + length (local_bytes t))
  wrote-more y ys l d r = record { records = more-records y ys l d r; names = more-names; place = more-place }

-- the next one of these is written
pub wrote-next : (all : List MappingEntry) (i : ℕ) (d : MappingEntry) (first : List MappingRecord) (y : MappingRecord) (buffer : List ℕ)
    (new : List MappingRecord) (now : List ℕ) (at : ℕ) (name : List ℕ) (r : MappingRecord) (after : List ℕ)
    → WroteSome (map entry_value all) i first buffer new now at → i < length all → length all ≤ length first
    → name ≡ local_bytes (entry_value (get_or all i d)) → r ≡ record_at at (entry_value (get_or all i d))
    → after ≡ take at now ++ name ++ drop (at + length name) now
    → WroteSome (map entry_value all) (i + 1) first buffer (set new i r) after (at + length name)
wrote-next all i d first y buffer new now at name r after w l h e f g =
    let entries = map entry_value all in
    let t = entry_value (get_or all i d) in
    let long : i < length entries = subst (λ n. i < n) (sym (length-map all entry_value)) l in
    let step : take (i + 1) entries ≡ take i entries ++ t ∷ [] = take_more entries i (entry_value d) long
    ∙ ap (λ x. take i entries ++ x ∷ []) (get_or-map entry_value all i d (entry_value d) l) in
    let wrote : WroteSome entries (i + 1) first buffer (set new i (record_at at t)) (take at now ++ local_bytes t
    ++ drop (at + length (local_bytes t)) now) (at + length (local_bytes t)) =
    wrote-more entries i t first buffer new now at w step (get_or first i y) (drop (i + 1) first) (omega arith)
    (drop_more first i y (omega arith)) refl in
    let one : WroteSome entries (i + 1) first buffer (set new i r) (take at now ++ local_bytes t
    ++ drop (at + length (local_bytes t)) now) (at + length (local_bytes t)) =
    subst (λ x. WroteSome entries (i + 1) first buffer (set new i x) (take at now ++ local_bytes t
    ++ drop (at + length (local_bytes t)) now) (at + length (local_bytes t))) (sym f) wrote in
    let two : WroteSome entries (i + 1) first buffer (set new i r) (take at now ++ name ++ drop (at + length name) now) (at + length name) =
    subst (λ x. WroteSome entries (i + 1) first buffer (set new i r) (take at now ++ x ++ drop (at + length x) now) (at + length x)) (sym e)
    one in
    subst (λ x. WroteSome entries (i + 1) first buffer (set new i r) x (at + length name)) (sym g) two
