-- Questions about objects, and their answers, one after the other.
use Rattle.std.proofs.Common.{◌≡◌, ℕ, Bool, true, false, ◌+◌, ◌-◌, ◌^◌, ◌<◌, zero, suc, min, take, drop, get_or, List, [], ◌∷◌, ◌++◌, length, Option, Some, None, IfSome, is_some, option_and_then, true≢false, refl, sym, ap, ◌∙◌, append_assoc, append-nil, subst, length-append, arith}
use Rattle.std.specs.Prelude.{◌||◌, flat_map, unwrap_or, Result, Ok, Err, IfErr}
use Rattle.std.specs.Result.{IsErrAnd}
use Rattle.std.specs.List.{list_any}
use Rattle.std.specs.BTreeSet.{BTreeSet, contains}
use Rattle.std.specs.Io.KnownBytes.{Appends, Consumes}
use Rattle.std.proofs.KnownBytes.{Appends-nil, Appends-trans, Consumes-nil, Consumes-trans}
use Rattle.std.proofs.lemmas.List.Folds.{list_any-append}
use Rattle.std.proofs.lemmas.Grind.{flat_map-append}
use Rattle.std.proofs.lemmas.Option.{none-some}
use Rattle.gixp_hash.specs.declared.object_id.ObjectId.{ObjectId}
use Rattle.gixp_hash.specs.ObjectId.{id_cmp}
use Rattle.gixp_graph.specs.declared.objects.ObjectKind.{ObjectKind}
use Rattle.gixp_graph.specs.Object.{Objects}
use Rattle.gixp_memory.specs.Repository.{answer_to, with_answer}
use Rattle.gixp_refmap.specs.declared.refmap.mapping.Mapping.{Mapping}
use Rattle.gixp_fetch_common.specs.AnswersIds.{names_id, AddsIds, question, questions, with_answers, AnswersIds, AnswersSome}
use Rattle.gixp_fetch_common.specs.Unanswered.{line_number, IsNoAnswer, AnswersFail, CheckFails}
use Rattle.gixp_fetch_common.specs.declared.batch_check.BatchCheckError.{BatchCheckError}
use Rattle.gixp_fetch_common.specs.declared.batch_check.BatchCheckError.TheVariants.{Ask, Answer, Line, Memory}

-- an error is passed on as it is
pub passed_on : {A E : Type 0} (r : Result A E) (e : E) (Q : E → Type 0) → IsErrAnd r (λ x. x ≡ e) → Q e → IfErr r Q
passed_on (Ok a) e Q h k = tt
passed_on (Err x) e Q h k = subst Q (sym h) k

or_none : (a : Bool) → (a || false) ≡ a
or_none true = refl
or_none false = refl

or_again : (a b c : Bool) → ((a || b) || c) ≡ (a || (b || c))
or_again true b c = refl
or_again false b c = refl

-- ---- the ids of mappings

pub adds_none : (set : BTreeSet ObjectId) → AddsIds [] set set
adds_none set id = sym (or_none (contains id_cmp set id))

pub adds_more : (ms more : List Mapping) (old now new : BTreeSet ObjectId) → AddsIds ms old now → AddsIds more now new
    → AddsIds (ms ++ more) old new
adds_more ms more old now new kept step id =
    step id ∙ ap (λ b. b || list_any (names_id id) more) (kept id)
    ∙ or_again (contains id_cmp old id) (list_any (names_id id) ms) (list_any (names_id id) more)
    ∙ ap (λ b. contains id_cmp old id || b) (sym (list_any-append (names_id id) ms more))

-- two ids of one mapping
pub adds_both : (m : Mapping) (old new : BTreeSet ObjectId) (mid : ObjectId → Bool) (one other : ObjectId → Bool)
    → ((id : ObjectId) → mid id ≡ (contains id_cmp old id || one id)) → ((id : ObjectId) → contains id_cmp new id ≡ (mid id || other id))
    → ((id : ObjectId) → (one id || other id) ≡ names_id id m) → AddsIds (m ∷ []) old new
adds_both m old new mid one other first second named id =
    second id ∙ ap (λ b. b || other id) (first id) ∙ or_again (contains id_cmp old id) (one id) (other id)
    ∙ ap (λ b. contains id_cmp old id || b) (named id ∙ sym (or_none (names_id id m)))

-- ---- answers

told_one : (old new : Objects) (id : ObjectId) (a : Option (Option ObjectKind)) → IfSome a (λ kind. new ≡ with_answer old id kind)
    → is_some a ≡ true → option_and_then (λ kind. with_answers (with_answer old id kind) [] []) a ≡ Some new
told_one old new id None h k = absurd (true≢false (sym k))
told_one old new id (Some kind) h k = ap Some (sym h)

pub answered_one : (id : ObjectId) (line : List ℕ) (old new : Objects) (before after : Option (List ℕ)) → Consumes before after line
    → IfSome (answer_to id line) (λ kind. new ≡ with_answer old id kind) → is_some (answer_to id line) ≡ true
    → AnswersIds (id ∷ []) old new before after
answered_one id line old new before after read h k =
    record {
      lines = line ∷ [];
      read = subst (Consumes before after) (sym (append-nil line)) read;
      reported = told_one old new id
          (answer_to id line) h k;
    }

pub answered_none : (objects : Objects) (answers : Option (List ℕ)) → AnswersIds [] objects objects answers answers
answered_none objects answers = record { lines = []; read = Consumes-nil answers; reported = refl }

and_then_more : {K : Type 0} (f g : K → Option Objects) (mid : Objects) (to : Option Objects) (a : Option K)
    → ((k : K) → f k ≡ Some mid → g k ≡ to) → option_and_then f a ≡ Some mid → option_and_then g a ≡ to
and_then_more f g mid to None step h = absurd (none-some mid h)
and_then_more f g mid to (Some k) step h = step k h

told_more : (ids more : List ObjectId) (lines others : List (List ℕ)) (old mid : Objects) → with_answers old ids lines ≡ Some mid
    → with_answers old (ids ++ more) (lines ++ others) ≡ with_answers mid more others
told_more [] more [] others old mid h = ap (λ o. with_answers o more others) (ap (λ o. unwrap_or o old) h)
told_more [] more (line ∷ lines) others old mid h = absurd (none-some mid h)
told_more (id ∷ ids) more [] others old mid h = absurd (none-some mid h)
told_more (id ∷ ids) more (line ∷ lines) others old mid h =
    and_then_more (λ kind. with_answers (with_answer old id kind) ids lines)
    (λ kind. with_answers (with_answer old id kind) (ids ++ more) (lines ++ others)) mid (with_answers mid more others) (answer_to id line)
    (λ kind. told_more ids more lines others (with_answer old id kind) mid) h

pub answered_more : (ids more : List ObjectId) (old mid new : Objects) (a b c : Option (List ℕ)) → AnswersIds ids old mid a b
    → AnswersIds more mid new b c → AnswersIds (ids ++ more) old new a c
answered_more ids more old mid new a b c first second =
    record {
      lines = first.lines ++ second.lines;
      read = subst (Consumes a c) (sym (flat_map-append (λ (line : List ℕ). line) first.lines second.lines))
          (Consumes-trans a b c _ _ first.read second.read);
      reported = told_more ids more first.lines second.lines old mid first.reported ∙ second.reported;
    }

pub some_answered : (ids done left : List ObjectId) (old now : Objects) (a b : Option (List ℕ)) → AnswersIds done old now a b
    → ids ≡ done ++ left → AnswersSome ids old now
some_answered ids done left old now a b h e = record { done = done; left = left; lines = h.lines; whole = e; reported = h.reported }

pub none_answered : (ids : List ObjectId) (objects : Objects) → AnswersSome ids objects objects
none_answered ids objects = record { done = []; left = ids; lines = []; whole = refl; reported = refl }

-- ---- lines that are no answers

pub number_more : (a b c : ℕ) → line_number (line_number a b) c ≡ line_number a (b + c)
number_more a zero c = let none : c ≡ 0 + c = omega arith in ap (line_number a) none
number_more a (suc b) zero = let none : suc b ≡ suc b + 0 = omega arith in ap (line_number a) none
number_more a (suc b) (suc c) =
    let more : suc b + suc c ≡ suc (b + suc c) = omega arith in
    let same : min (min (a + suc b) (2 ^ 64 - 1) + suc c) (2 ^ 64 - 1) ≡ min (a + suc (b + suc c)) (2 ^ 64 - 1) = omega arith in
    same ∙ ap (line_number a) (sym more)

none_of : {A : Type 0} (o : Option A) → is_some o ≡ false → o ≡ None
none_of None h = refl
none_of (Some x) h = absurd (true≢false h)

-- the first line is no answer
pub first_unanswered : (lines number : ℕ) (id : ObjectId) (line : List ℕ) (old new : Objects) (before after : Option (List ℕ))
    → Consumes before after line → is_some (answer_to id line) ≡ false → new ≡ old → number ≡ line_number lines 1
    → IsNoAnswer lines (id ∷ []) old new before after number
first_unanswered lines number id line old new before after read none e n = record {
  done = [];
  id = id;
  left = [];
  answers = [];
  line = line;
  whole = refl;
  reported = ap Some (sym e);
  read = read;
  none = none_of (answer_to id line) none;
  is_number = n;
}

-- a later line is no answer
pub later_unanswered : (lines lines' number : ℕ) (ids done rest more : List ObjectId) (old mid new : Objects) (a b c : Option (List ℕ))
    → AnswersIds done old mid a b → lines' ≡ line_number lines (length done) → IsNoAnswer lines' rest mid new b c number
    → ids ≡ done ++ (rest ++ more) → IsNoAnswer lines ids old new a c number
later_unanswered lines lines' number ids done rest more old mid new a b c first count next whole = record {
  done = done ++ next.done;
  id = next.id;
  left = next.left ++ more;
  answers = first.lines ++ next.answers;
  line = next.line;
  whole = whole ∙ ap (λ l. done ++ (l ++ more)) next.whole ∙ ap (λ l. done ++ l) (append_assoc next.done (next.id ∷ next.left) more)
      ∙ sym (append_assoc done next.done (next.id ∷ (next.left ++ more)));
  reported = told_more done next.done first.lines next.answers old mid first.reported ∙ next.reported;
  read = subst (Consumes a c) (sym (ap (λ l. l ++ next.line) (flat_map-append (λ (line : List ℕ). line) first.lines next.answers)
      ∙ append_assoc (flat_map (λ (line : List ℕ). line) first.lines) (flat_map (λ (line : List ℕ). line) next.answers) next.line))
      (Consumes-trans a b c _ _ first.read next.read);
  none = next.none;
  is_number = next.is_number ∙ ap (λ n. line_number n (length next.done + 1)) count
      ∙ number_more lines (length done) (length next.done + 1)
      ∙ ap (line_number lines) (at_end (length done) (length next.done) (length (done ++ next.done)) (length-append done next.done));
}
  where
    at_end : (x y z : ℕ) → z ≡ x + y → x + (y + 1) ≡ z + 1
    at_end x y z h = omega (arith, h)

-- the answers so far, and then a call that fails
pub hear_fails_more : (lines lines' : ℕ) (ids done rest more : List ObjectId) (old mid new : Objects) (a b c : Option (List ℕ))
    (e : BatchCheckError)
    → AnswersIds done old mid a b → lines' ≡ line_number lines (length done) → AnswersFail lines' rest mid new b c e
    → ids ≡ done ++ (rest ++ more) → AnswersFail lines ids old new a c e
hear_fails_more lines lines' ids done rest more old mid new a b c (Line number) first count next whole =
    later_unanswered lines lines' number ids done rest more old mid new a b c first count next whole
hear_fails_more lines lines' ids done rest more old mid new a b c (Ask kind) first count next whole = next
hear_fails_more lines lines' ids done rest more old mid new a b c (Answer kind) first count next whole = tt
hear_fails_more lines lines' ids done rest more old mid new a b c Memory first count next whole = tt

taken_count : (k : ℕ) (ids : List ObjectId) → k < length ids → k ≡ length (take k ids)
taken_count zero ids h = refl
taken_count (suc k) [] h = absurd (omega (arith, h))
taken_count (suc k) (id ∷ ids) h = ap suc (taken_count k ids (omega (arith, h)))

split_at_one : (k : ℕ) (ids : List ObjectId) (d : ObjectId) → k < length ids
    → ids ≡ take k ids ++ ((get_or ids k d ∷ []) ++ drop (suc k) ids)
split_at_one zero [] d h = absurd (omega (arith, h))
split_at_one zero (id ∷ ids) d h = refl
split_at_one (suc k) [] d h = absurd (omega (arith, h))
split_at_one (suc k) (id ∷ ids) d h = ap (λ l. id ∷ l) (split_at_one k ids d (omega (arith, h)))

-- the answers to the first ids, and then a call for the next that fails
pub answers_fail_at : (lines lines' k : ℕ) (ids : List ObjectId) (d : ObjectId) (old mid new : Objects) (a b c : Option (List ℕ))
    (e : BatchCheckError)
    → k < length ids → AnswersIds (take k ids) old mid a b → lines' ≡ line_number lines k
    → AnswersFail lines' (get_or ids k d ∷ []) mid new b c e → AnswersFail lines ids old new a c e
answers_fail_at lines lines' k ids d old mid new a b c e h first count next =
    hear_fails_more lines lines' ids (take k ids) (get_or ids k d ∷ []) (drop (suc k) ids) old mid new a b c e first
    (count ∙ ap (line_number lines) (taken_count k ids h)) next (split_at_one k ids d h)

-- ---- questions and their answers

-- some of the ids were asked for and answered, and the rest remains
pub record AskedSoFar (ids left : List ObjectId) (old now : Objects) (asked asked' answers answers' : Option (List ℕ))
    (lines lines' : ℕ) : Type 0 where
  pub done : List ObjectId
  pub whole : ids ≡ done ++ left
  pub asks : Appends asked asked' (questions done)
  pub reported : AnswersIds done old now answers answers'
  pub count : lines' ≡ line_number lines (length done)

pub asked_none : (ids : List ObjectId) (objects : Objects) (asked answers : Option (List ℕ)) (lines : ℕ)
    → AskedSoFar ids ids objects objects asked asked answers answers lines lines
asked_none ids objects asked answers lines =
    record { done = []; whole = refl; asks = Appends-nil asked; reported = answered_none objects answers; count = refl }

pub asked_more : (ids left few later : List ObjectId) (old now new : Objects) (asked asked' asked'' answers answers' answers'' : Option (List ℕ))
    (lines lines' lines'' : ℕ) → AskedSoFar ids left old now asked asked' answers answers' lines lines' → left ≡ few ++ later
    → Appends asked' asked'' (questions few) → AnswersIds few now new answers' answers'' → lines'' ≡ line_number lines' (length few)
    → AskedSoFar ids later old new asked asked'' answers answers'' lines lines''
asked_more ids left few later old now new asked asked' asked'' answers answers' answers'' lines lines' lines'' h e a t n =
    record {
      done = h.done ++ few;
      whole = h.whole ∙ ap (λ l. h.done ++ l) e ∙ sym (append_assoc h.done few later);
      asks = subst (Appends asked asked'') (sym (flat_map-append question h.done few)) (Appends-trans asked asked' asked'' _ _ h.asks a);
      reported = answered_more h.done few old now new answers answers' answers'' h.reported t;
      count = n ∙ ap (λ m. line_number m (length few)) h.count ∙ number_more lines (length h.done) (length few)
          ∙ ap (line_number lines) (sym (length-append h.done few));
    }

pub some_more : (ids left few later : List ObjectId) (old now new : Objects) (asked asked' answers answers' : Option (List ℕ))
    (lines lines' : ℕ)
    → AskedSoFar ids left old now asked asked' answers answers' lines lines' → left ≡ few ++ later → AnswersSome few now new
    → AnswersSome ids old new
some_more ids left few later old now new asked asked' answers answers' lines lines' h e s =
    record {
      done = h.done ++ s.done;
      left = s.left ++ later;
      lines = h.reported.lines ++ s.lines;
      whole = h.whole ∙ ap (λ l. h.done ++ l) (e ∙ ap (λ l. l ++ later) s.whole ∙ append_assoc s.done s.left later)
          ∙ sym (append_assoc h.done s.done (s.left ++ later));
      reported = told_more h.done s.done h.reported.lines s.lines old now h.reported.reported ∙ s.reported;
    }

pub fails_more : (ids left few later : List ObjectId) (old now new : Objects) (asked asked' answers answers' answers'' : Option (List ℕ))
    (lines lines' : ℕ) (e : BatchCheckError) → AskedSoFar ids left old now asked asked' answers answers' lines lines' → left ≡ few ++ later
    → CheckFails lines' few now new answers' answers'' e → CheckFails lines ids old new answers answers'' e
fails_more ids left few later old now new asked asked' answers answers' answers'' lines lines' (Line number) h e f =
    later_unanswered lines lines' number ids h.done few later old now new answers answers' answers'' h.reported h.count f
    (h.whole ∙ ap (λ l. h.done ++ l) e)
fails_more ids left few later old now new asked asked' answers answers' answers'' lines lines' (Ask kind) h e f = tt
fails_more ids left few later old now new asked asked' answers answers' answers'' lines lines' (Answer kind) h e f = tt
fails_more ids left few later old now new asked asked' answers answers' answers'' lines lines' Memory h e f = tt

pub asked_all : (ids left : List ObjectId) (old now : Objects) (asked asked' answers answers' : Option (List ℕ)) (lines lines' : ℕ)
    → AskedSoFar ids left old now asked asked' answers answers' lines lines' → left ≡ []
    → AskedSoFar ids [] old now asked asked' answers answers' lines lines'
asked_all ids left old now asked asked' answers answers' lines lines' h e =
    subst (λ l. AskedSoFar ids l old now asked asked' answers answers' lines lines') e h
