-- The errors of failed calls, as far as they are recorded.
use Rattle.std.specs.Prelude.{◌≡◌, ◌⊎◌, ◌++◌, List, [], ◌∷◌, Option, Some, None, refl}
use Rattle.std.specs.Coded.{Coded, code_by, coded_list, coded_option}
use Rattle.std.specs.declared.io.ErrorKind.{ErrorKind}
use Rattle.gixp_graph.specs.declared.objects.ObjectError.{ObjectError}
use Rattle.gixp_graph.specs.declared.objects.ObjectError.TheVariants.{Io, Corrupt, Memory}
use Rattle.gixp_graph.specs.KindCode.{coded_error_kind}

-- a list that calls append to; none where it isn't recorded
abbrev pub Written : Type 0 → Type 0
Written A = Option (List A)

-- with one item more
abbrev pub writing : {A : Type 0} → Written A → A → Written A
writing None x = None
writing (Some xs) x = Some (xs ++ x ∷ [])

-- a call failed with this error; or an allocation failed, and no call did
abbrev pub ErrorIsRefusal : ObjectError → Written ObjectError → Written ObjectError → Type 0
ErrorIsRefusal e old new = ((e ≡ Memory) × (new ≡ old)) ⊎ (new ≡ writing old e)

-- an error as the kind of an I/O error, or which of the others it is
abbrev error_parts : ObjectError → Option (Option ErrorKind)
error_parts (Io kind) = Some (Some kind)
error_parts Corrupt = Some None
error_parts Memory = None

abbrev error_of_parts : Option (Option ErrorKind) → ObjectError
error_of_parts (Some (Some kind)) = Io kind
error_of_parts (Some None) = Corrupt
error_of_parts None = Memory

pub error_of_parts-error_parts : (e : ObjectError) → error_of_parts (error_parts e) ≡ e
error_of_parts-error_parts (Io kind) = refl
error_of_parts-error_parts Corrupt = refl
error_of_parts-error_parts Memory = refl

abbrev pub coded_refusals : Coded (Written ObjectError)
coded_refusals =
    coded_option (coded_list (code_by (Option (Option ErrorKind))
    (coded_option (coded_option coded_error_kind)) error_parts error_of_parts error_of_parts-error_parts))
