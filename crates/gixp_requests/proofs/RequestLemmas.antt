-- The messages of a request, and its packet lines.
use Rattle.std.proofs.Common.{◌≡◌, ℕ, ◌+◌, ◌<◌, Bool, true, false, cond, List, [], ◌∷◌, ◌++◌, length, map, zero, suc, get_or, Option, Some, None, IfSome, refl, sym, ap, ◌∙◌, append_assoc, length-append, arith}
use Rattle.std.specs.Prelude.{not, nat_lt, filter, position, codes}
use Rattle.std.specs.List.{swap, position_or_len, prefix_len, slice_set, slice_index_or}
use Rattle.std.proofs.lemmas.List.{map-append, map-set, length-map, set-set, set-get_or, get_or-set_same}
use Rattle.std.proofs.lemmas.List.Elements.{filter-append}
use Rattle.std.proofs.Math.ListN.{get_or-map}
use Rattle.gixp_transport.specs.Message.{MessageValue, text, flush, delimiter, argument_values, command_lines, command_values}
use Rattle.gixp_requests.specs.Feature.{FeatureValue, feature_text}
use Rattle.gixp_requests.specs.Request.{has_value, sent_features, done_line, done_lines, done_value, fetch_arguments, exchanged, want_first, flush_after, upload_values}

-- an offset by a test of the results of a function
prefix_len-map : {A B : Type 0} (p : B → Bool) (h : A → B) (xs : List A) → prefix_len p (map h xs) ≡ prefix_len (λ x. p (h x)) xs
prefix_len-map p h [] = refl
prefix_len-map p h (x ∷ xs) = ap (λ n. cond (p (h x)) (1 + n) 0) (prefix_len-map p h xs)

pub position-map : {A B : Type 0} (p : B → Bool) (h : A → B) (xs : List A) → position p (map h xs) ≡ position (λ x. p (h x)) xs
position-map p h xs =
    let same = prefix_len-map (λ y. not (p y)) h xs in
    let n : length (map h xs) ≡ length xs = length-map xs h in
    ap (λ i. cond (nat_lt i (length (map h xs))) (Some i) None) same
    ∙ ap (λ l. cond (nat_lt (position_or_len (λ x. p (h x)) xs) l) (Some (position_or_len (λ x. p (h x)) xs)) None) n

-- two elements are exchanged before or after a function is applied
map-swap : {A B : Type 0} (f : A → B) (xs : List A) (i j : ℕ) → map f (swap xs i j) ≡ swap (map f xs) i j
map-swap f [] i j = refl
map-swap f (d ∷ ys) i j =
    map-set f (slice_set (d ∷ ys) i (slice_index_or (d ∷ ys) j d)) j (slice_index_or (d ∷ ys) i d)
    ∙ ap (λ z. slice_set z j (f (slice_index_or (d ∷ ys) i d)))
    (map-set f (d ∷ ys) i (slice_index_or (d ∷ ys) j d) ∙ ap (λ z. slice_set (map f (d ∷ ys)) i z) (sym (get_or-map f (d ∷ ys) j d)))
    ∙ ap (λ z. slice_set (slice_set (map f (d ∷ ys)) i (slice_index_or (map f (d ∷ ys)) j (f d))) j z) (sym (get_or-map f (d ∷ ys) i d))

-- two elements are exchanged and exchanged back
swap_twice : {A : Type 0} (xs : List A) (i : ℕ) → i < length xs → swap (swap xs 0 i) 0 i ≡ xs
swap_twice [] i l = refl
swap_twice (d ∷ ys) zero l = refl
swap_twice (d ∷ ys) (suc j) l =
    let within : j < length ys = omega arith in
    let y = get_or ys j d in
    rw (get_or-set_same ys j d y within, set-set ys j d y, set-get_or ys j d) refl

pub exchanged_twice : {A : Type 0} (xs : List A) (o : Option ℕ) → IfSome o (λ i. i < length xs) → exchanged (exchanged xs o) o ≡ xs
exchanged_twice xs None l = refl
exchanged_twice xs (Some i) l = swap_twice xs i l

pub map-exchanged : {A B : Type 0} (f : A → B) (xs : List A) (o : Option ℕ) → map f (exchanged xs o) ≡ exchanged (map f xs) o
map-exchanged f xs None = refl
map-exchanged f xs (Some i) = map-swap f xs 0 i

-- the messages of a request of versions 0 and 1, part by part
pub upload_joined : (first lines haves : List (List ℕ)) (between following : List MessageValue) (done : Bool)
    → first ≡ want_first lines → between ≡ flush_after lines → following ≡ done_value done ∷ []
    → map text first ++ (between ++ (map text haves ++ (following ++ []))) ≡ upload_values lines haves done
upload_joined first lines haves between following done e1 e2 e3 = rw (e1, e2, e3) refl

pub sent_features-append : (xs ys : List FeatureValue) → sent_features (xs ++ ys) ≡ sent_features xs ++ sent_features ys
sent_features-append xs ys = ap (map feature_text) (filter-append has_value xs ys)
    ∙ map-append feature_text (filter has_value xs) (filter has_value ys)

pub texts-append : (xs ys : List (List ℕ)) → map text (xs ++ ys) ≡ map text xs ++ map text ys
texts-append xs ys = map-append text xs ys

-- a delimiter packet precedes the arguments, if there are any
pub some_arguments : (arguments : List (List ℕ)) → 0 < length arguments → delimiter ∷ map text arguments ≡ argument_values arguments
some_arguments [] h = absurd (omega arith)
some_arguments (a ∷ more) h = refl

-- a have and `done` are arguments
pub any_argument : (lines haves : List (List ℕ)) (done : Bool) → (done ≡ false → 0 < length haves)
    → 0 < length (fetch_arguments lines haves done)
any_argument lines haves true h = omega (arith, length-append lines (haves ++ done_line ∷ []), length-append haves (done_line ∷ []))
any_argument lines haves false h = omega (arith, length-append lines (haves ++ []), length-append haves [], h refl)

-- six lists, grouped in another way
regroup : {A : Type 0} (f d x y z e : List A) → f ++ d ++ (x ++ (y ++ (z ++ e))) ≡ f ++ (d ++ (x ++ (y ++ z))) ++ e
regroup f d x y z e = simp append_assoc

-- the messages of a fetch, part by part
pub command_joined : (front : List MessageValue) (features lines haves : List (List ℕ)) (done : Bool)
    → (done ≡ false → 0 < length haves)
    → front ≡ map text (command_lines (codes "fetch") features) ++ delimiter ∷ []
    → front ++ (map text lines ++ (map text haves ++ (map text (done_lines done) ++ flush ∷ [])))
    ≡ command_values (codes "fetch") features (fetch_arguments lines haves done)
command_joined front features lines haves done some e =
    let head = map text (command_lines (codes "fetch") features) in
    let parts = texts-append lines (haves ++ done_lines done) ∙ ap (λ t. map text lines ++ t) (texts-append haves (done_lines done)) in
    let arguments = ap (λ t. delimiter ∷ t) (sym parts)
    ∙ some_arguments (fetch_arguments lines haves done) (any_argument lines haves done some) in
    rw e (regroup head (delimiter ∷ []) (map text lines) (map text haves) (map text (done_lines done)) (flush ∷ [])
    ∙ ap (λ t. head ++ t ++ flush ∷ []) arguments)
