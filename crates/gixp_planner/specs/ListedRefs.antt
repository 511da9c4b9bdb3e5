-- The printed lines of the refs of an `ls-refs` answer.
use Rattle.std.specs.Prelude.{◌≡◌, ℕ, ◌⊎◌, ⊤, Bool, true, false, List, [], ◌++◌, flat_map, Option, Some, None, IfSome, IsSome, Result, Ok, Err, IsOk}
use Rattle.std.specs.Io.KnownBytes.{Appends}
use Rattle.gixp_refs.specs.Ref.{RefValue, ref_value}
use Rattle.gixp_refs.specs.WrittenLine.{written_line}
use Rattle.gixp_refs.specs.RefLine.{RefsRefusal, io_failed, refusal_from, v2_line}
use Rattle.gixp_refs.specs.ParseError.{AnswersRefs, parse_refusal, IsParseRefusal, IsFromOutside}
use Rattle.gixp_packetline.specs.Pieces.{Refusal, Pieces}
use Rattle.gixp_packetline.specs.Lines.{Ending, stop, refusal}
use Rattle.gixp_packetline.specs.Reading.{Reading, TakesLine, AtStop, Rose, lines_ahead}
use Rattle.gixp_refs.specs.Refs.{v2_refs, stream_refs, NextRef}
use Rattle.gixp_refs.specs.declared.handshake.refs.parse.Error.{Error}
use Rattle.gixp_planner.specs.declared.listing.ListError.{ListError}
use Rattle.gixp_planner.specs.declared.listing.ListError.TheVariants.{Parse, Io}

-- the lines of these refs were written
abbrev pub Prints : Option (List ℕ) → Option (List ℕ) → Result (List RefValue) RefsRefusal → Type 0
Prints old new (Ok values) = Appends old new (flat_map written_line values)
Prints old new (Err e) = ⊥

-- the pieces after the flush packet that ends the lines
abbrev pub after_stop : Ending → Option Pieces
after_stop (stop kind rest) = Some rest
after_stop (refusal e) = None

-- the reader is at the flush packet after the lines to come, and the rest is still to come
pub record StopsAfter (old new : Reading) : Type 0 where
  pub stopped : IsSome new.stopped
  pub rest : IfSome old.to_come (λ p. (q : Pieces) × (new.to_come ≡ Some q) × (after_stop (lines_ahead old p).ending ≡ Some q))
  pub failures : new.failures ≡ old.failures

-- the printed line of a ref was appended
abbrev pub PrintsLine : List ℕ → List ℕ → List ℕ → Result Unit Error → Type 0
PrintsLine line before after (Ok done) = (v : RefValue) × (v2_line line ≡ Ok v) × (after ≡ before ++ written_line v)
PrintsLine line before after (Err e) = AnswersRefs ref_value (v2_line line) (Err e)

-- the line of the next ref was appended; at the flush packet there is none
abbrev pub PrintsNext : Bool → Reading → Reading → List ℕ → List ℕ → Result Bool Error → Type 0
PrintsNext plain old new before after (Ok true) =
    (v : RefValue) × TakesLine old new × (v2_line new.line ≡ Ok v) × (after ≡ before ++ written_line v)
PrintsNext plain old new before after (Ok false) = AtStop old new × (after ≡ before)
PrintsNext plain old new before after (Err e) = NextRef plain old new (Err e)

-- this text has the lines of the remaining refs
pub record PrintsAhead (old new : Reading) (text : List ℕ) : Type 0 where
  pub printed : IfSome old.to_come (λ p. Prints (Some []) (Some text) (v2_refs (lines_ahead old p)))
  pub following : StopsAfter old new

-- the first error of the lines to come: a line's, or the reader's, which is sticky
pub record RefusedFirst (old new : Reading) (e : Error) : Type 0 where
  pub why : RefsRefusal
  pub first : IfSome old.to_come (λ p. v2_refs (lines_ahead old p) ≡ Err why)
  pub by : ((text : List ℕ) × (v2_line text ≡ Err why)) ⊎ ((r : Refusal) × (new.refused ≡ Some r) × (why ≡ refusal_from r))
  pub error : IsParseRefusal e why

-- whether it is the error of a failed read
abbrev pub is_device : RefsRefusal → Bool
is_device (io_failed kind) = true
is_device _ = false

-- an I/O error, an interrupt or an allocation failure; a plain reader has no interrupts, and it counts failed reads
pub record CameFromOutside (plain : Bool) (old new : Reading) (e : Error) : Type 0 where
  pub outside : plain ≡ true → IsFromOutside e
  pub counted : is_device (parse_refusal e) ≡ true → Rose old.failures new.failures

abbrev pub RefusesAhead : Bool → Reading → Reading → Error → Type 0
RefusesAhead plain old new e = RefusedFirst old new e ⊎ CameFromOutside plain old new e

-- the lines of the remaining refs were written
pub record ListsAhead (old new : Reading) (before after : Option (List ℕ)) : Type 0 where
  pub written : IfSome old.to_come (λ p. Prints before after (v2_refs (lines_ahead old p)))
  pub following : StopsAfter old new

-- a remaining ref has an error, or a write failed for refs without one
abbrev pub RefusesLines : Bool → Reading → Reading → ListError → Type 0
RefusesLines plain old new (Parse e) = RefusesAhead plain old new e
RefusesLines plain old new (Io kind) = IfSome old.to_come (λ p. IsOk (v2_refs (lines_ahead old p))) × StopsAfter old new

-- it is an error of the answer
abbrev pub IsParse : ListError → Type 0
IsParse (Parse e) = ⊤
IsParse (Io kind) = ⊥

-- the error is the stream's first one, or an I/O error, an interrupt or an allocation failure
abbrev pub RefusesRefs : Option (List ℕ) → Error → Type 0
RefusesRefs known e = IfSome known (λ bytes. (r : RefsRefusal) × (stream_refs bytes ≡ Err r) × IsParseRefusal e r) ⊎ IsFromOutside e

-- the refs have an error, or a write failed for a stream without one
abbrev pub RefusesList : Option (List ℕ) → ListError → Type 0
RefusesList known (Parse e) = RefusesRefs known e
RefusesList known (Io kind) = IfSome known (λ bytes. IsOk (stream_refs bytes))
