-- The objects of lines that are read one after another.
use Rattle.std.proofs.Common.{◌≡◌, ℕ, List, [], ◌∷◌, ◌++◌, Option, Some, None, ap, refl, sym, ◌∙◌, append_assoc, append-nil}
use Rattle.std.specs.Prelude.{option_map, option_and_then}
use Rattle.std.proofs.lemmas.Option.{none-some, same_Some}
use Rattle.gixp_remote_session.specs.ListedObjects.{listed_line, listed_lines, ErrorIsUnlisted}
use Rattle.gixp_remote_session.specs.declared.repository.ListedObject.{ListedObject}
use Rattle.gixp_remote_session.specs.declared.error.Error.{Error}
use Rattle.gixp_remote_session.specs.declared.error.Error.TheVariants.{Fetch, Url, Io, UnknownCommand, Other, Fatal, AlreadyReported, Word, Status, Variable, Mismatch, Password, Ssh, Memory}

-- these objects, followed by others
abbrev pub listed_in_front : List ListedObject → Option (List ListedObject) → Option (List ListedObject)
listed_in_front xs o = option_map (λ more. xs ++ more) o

-- the objects of all lines are those so far, followed by those of the lines that remain
pub record ListedSoFar (all left : List (List ℕ)) (listed : List ListedObject) : Type 0 where
  pub split : listed_lines all ≡ listed_in_front listed (listed_lines left)

none_in_front : (o : Option (List ListedObject)) → o ≡ listed_in_front [] o
none_in_front (Some listed) = refl
none_in_front None = refl

two_in_front : (xs ys : List ListedObject) (o : Option (List ListedObject)) → listed_in_front xs (listed_in_front ys o) ≡ listed_in_front (xs ++ ys) o
two_in_front xs ys (Some more) = ap Some (sym (append_assoc xs ys more))
two_in_front xs ys None = refl

line_in_front : (xs more : List ListedObject) (first o : Option (List ListedObject)) → listed_in_front xs first ≡ Some more
    → listed_in_front xs (option_and_then (λ f. listed_in_front f o) first) ≡ listed_in_front more o
line_in_front xs more (Some f) o e = two_in_front xs f o ∙ ap (λ l. listed_in_front l o) (same_Some (xs ++ f) more e)
line_in_front xs more None o e = absurd (none-some more e)

pub listed-start : (all : List (List ℕ)) → ListedSoFar all all []
listed-start all = record { split = none_in_front (listed_lines all) }

pub listed-more : (all left rest : List (List ℕ)) (line : List ℕ) (listed more : List ListedObject) → ListedSoFar all left listed
    → left ≡ line ∷ rest → listed_in_front listed (listed_line line) ≡ Some more → ListedSoFar all rest more
listed-more all left rest line listed more h e f = record {
  split = h.split ∙ ap (λ l. listed_in_front listed (listed_lines l)) e ∙ line_in_front listed more (listed_line line) (listed_lines rest) f;
}

pub listed-all : (all left : List (List ℕ)) (listed : List ListedObject) → ListedSoFar all left listed → left ≡ [] → listed_lines all ≡ Some listed
listed-all all left listed h e = h.split ∙ ap (λ l. listed_in_front listed (listed_lines l)) e ∙ ap Some (append-nil listed)

-- a line without an id
listed-none : (all left rest : List (List ℕ)) (line : List ℕ) (listed : List ListedObject) → ListedSoFar all left listed → left ≡ line ∷ rest
    → listed_line line ≡ None → listed_lines all ≡ None
listed-none all left rest line listed h e f =
    h.split ∙ ap (λ l. listed_in_front listed (listed_lines l)) e
    ∙ ap (λ o. listed_in_front listed (option_and_then (λ g. listed_in_front g (listed_lines rest)) o)) f

-- the error of a line is the error of all
pub unlisted-more : (all left rest : List (List ℕ)) (line : List ℕ) (listed : List ListedObject) (e : Error) → ListedSoFar all left listed
    → left ≡ line ∷ rest → ErrorIsUnlisted (listed_line line) e → ErrorIsUnlisted (listed_lines all) e
unlisted-more all left rest line listed (Fetch failure) h a w = w
unlisted-more all left rest line listed (Url error) h a w = w
unlisted-more all left rest line listed (Io kind) h a w = w
unlisted-more all left rest line listed (UnknownCommand text) h a w = w
unlisted-more all left rest line listed (Other why) h a w = (listed-none all left rest line listed h a w.0, w.1)
unlisted-more all left rest line listed (Fatal why) h a w = w
unlisted-more all left rest line listed AlreadyReported h a w = w
unlisted-more all left rest line listed (Word why word) h a w = w
unlisted-more all left rest line listed (Status why status) h a w = w
unlisted-more all left rest line listed (Variable name value) h a w = w
unlisted-more all left rest line listed (Mismatch uri name) h a w = w
unlisted-more all left rest line listed (Password url) h a w = w
unlisted-more all left rest line listed (Ssh error) h a w = w
unlisted-more all left rest line listed Memory h a w = tt
