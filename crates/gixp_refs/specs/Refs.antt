-- The refs of an `ls-refs` response, and what reading them does (gitprotocol-v2, "ls-refs"). A stop is a flush packet
-- or a delimiter packet.
use Rattle.std.specs.Prelude.{◌≡◌, ℕ, ◌⊎◌, ⊤, Bool, true, Option, Some, None, IfSome, List, [], ◌∷◌, ◌++◌, map, Result, Ok, Err}
use Rattle.gixp_packetline.specs.declared.protocol.MessageKind.{MessageKind}
use Rattle.gixp_packetline.specs.declared.protocol.Protocol.TheVariants.{V2}
use Rattle.gixp_packetline.specs.Pieces.{Refusal, Pieces, stream_pieces}
use Rattle.gixp_packetline.specs.Lines.{Ending, stop, refusal, Lines, lines_of, lines_to}
use Rattle.gixp_packetline.specs.Reading.{Reading, TakesLine, AtStop, Fails, IsPlain, lines_ahead}
use Rattle.gixp_refs.specs.declared.handshake.Ref.{Ref}
use Rattle.gixp_refs.specs.declared.handshake.refs.parse.Error.{Error}
use Rattle.gixp_refs.specs.Ref.{RefValue, ref_value}
use Rattle.gixp_refs.specs.RefLine.{RefsRefusal, refusal_from, v2_line}
use Rattle.gixp_packetline.specs.ReadFails.{ReadFails}
use Rattle.gixp_refs.specs.ParseError.{AnswersRefs, parse_refusal, parse_errors}
use Rattle.gixp_packetline.specs.Runs.{SoFar}

-- the ref of a line before the others, or its error before theirs
abbrev pub with_ref : Result RefValue RefsRefusal → Result (List RefValue) RefsRefusal → Result (List RefValue) RefsRefusal
with_ref (Err e) rest = Err e
with_ref (Ok v) (Ok vs) = Ok (v ∷ vs)
with_ref (Ok v) (Err e) = Err e

abbrev pub refs_from : List (List ℕ) → Ending → Result (List RefValue) RefsRefusal
refs_from [] (stop kind rest) = Ok []
refs_from [] (refusal e) = Err (refusal_from e)
refs_from (text ∷ texts) ending = with_ref (v2_line text) (refs_from texts ending)

-- the refs of the lines up to a stop, or the first error
abbrev pub v2_refs : Lines → Result (List RefValue) RefsRefusal
v2_refs l = refs_from l.lines l.ending

-- the refs of a stream of version 2, or its first error
abbrev pub stream_refs : List ℕ → Result (List RefValue) RefsRefusal
stream_refs bytes = v2_refs (lines_of V2 (stream_pieces bytes))

-- each line has this ref
abbrev pub AreRefs : List (List ℕ) → List RefValue → Type 0
AreRefs [] [] = ⊤
AreRefs [] (v ∷ vs) = ⊥
AreRefs (t ∷ ts) [] = ⊥
AreRefs (t ∷ ts) (v ∷ vs) = (v2_line t ≡ Ok v) × AreRefs ts vs

-- all lines up to the next stop were read, each of them a ref; the reader is at that stop
pub record ReadsRefs (old new : Reading) (refs : List Ref) : Type 0 where
  pub kind : MessageKind
  pub texts : List (List ℕ)
  pub lines : IfSome old.to_come (λ p. (q : Pieces) × (new.to_come ≡ Some q) × (lines_ahead old p ≡ lines_to texts (stop kind q)))
  pub values : AreRefs texts (map ref_value refs)
  pub value : IfSome old.to_come (λ p. v2_refs (lines_ahead old p) ≡ Ok (map ref_value refs))
  pub stopped : new.stopped ≡ Some kind
  pub version : new.version ≡ old.version
  pub failures : new.failures ≡ old.failures
  pub held : new.held ≡ old.held

-- the last of these lines is an error, the others are refs
pub record LastRefLineRefused (texts : List (List ℕ)) (refusal : RefsRefusal) : Type 0 where
  pub before : List (List ℕ)
  pub text : List ℕ
  pub split : texts ≡ before ++ text ∷ []
  pub refs : (values : List RefValue) × AreRefs before values
  pub line : v2_line text ≡ Err refusal

-- the first error of the lines to come, or an I/O error, an interrupt or an allocation failure; a plain reader has fewer of these
abbrev pub RefsFail : Bool → Reading → Reading → Error → Type 0
RefsFail plain old new e = ReadFails parse_errors SoFar (λ now p r. v2_refs (lines_ahead now p) ≡ Err r)
    (λ texts r _. LastRefLineRefused texts r) plain old new e

-- these refs were read so far
pub record RefsSoFar (old now : Reading) (values : List RefValue) : Type 0 where
  pub texts : List (List ℕ)
  pub read : SoFar old now texts
  pub refs : AreRefs texts values

-- an error of the reader
pub record ReaderFails (plain : Bool) (old new : Reading) (e : Error) : Type 0 where
  pub refusal : Refusal
  pub failed : Fails old new refusal
  pub is_plain : plain ≡ true → IsPlain new refusal
  pub error : parse_refusal e ≡ refusal_from refusal

-- a call for the next ref: the ref of the line that it takes, or none at a stop
abbrev pub NextRef : Bool → Reading → Reading → Result (Option Ref) Error → Type 0
NextRef plain old new (Ok (Some found)) = TakesLine old new × AnswersRefs ref_value (v2_line new.line) (Ok found)
NextRef plain old new (Ok None) = AtStop old new
NextRef plain old new (Err e) = (TakesLine old new × AnswersRefs ref_value (v2_line new.line) (Err e)) ⊎ ReaderFails plain old new e

-- the result of that call, in terms of all refs to come: the first ref, no ref, or an error
abbrev pub NextOfRefs : Bool → Reading → Reading → Result (Option Ref) Error → Type 0
NextOfRefs plain old new (Ok (Some found)) =
    IfSome old.to_come (λ p. (q : Pieces) × (new.to_come ≡ Some q)
    × (v2_refs (lines_ahead old p) ≡ with_ref (Ok (ref_value found)) (v2_refs (lines_ahead new q))))
NextOfRefs plain old new (Ok None) = ReadsRefs old new []
NextOfRefs plain old new (Err e) = RefsFail plain old new e
