-- The replies of git's program for HTTP, one after the other.
use Rattle.std.proofs.Common.{◌≡◌, ℕ, Bool, List, ◌++◌, length, Option, Some, None, IfSome, ap, sym, ◌∙◌, subst, append_assoc}
use Rattle.std.specs.Prelude.{◌==◌, codes, option_map}
use Rattle.std.specs.Io.KnownBytes.{Appends}
use Rattle.gixp_remote_rules.specs.declared.options.Family.{Family}
use Rattle.gixp_remote_session.specs.WebServer.{reply_in, after_options, carries, is_limited, option_sent, family_line, options_sent}

-- the reply after those to the options
pub carried : (q : Bool) (y : Family) (output mid : Option (List ℕ)) (line : List ℕ) (is_empty : Bool)
    → IfSome output (λ bytes. mid ≡ Some (after_options q y bytes)) → IfSome mid (λ bytes. reply_in bytes ≡ Some line)
    → is_empty ≡ (length line == 0) → IfSome output (λ bytes. carries q y bytes ≡ Some is_empty)
carried q y None mid line is_empty r l e = tt
carried q y (Some bytes) mid line is_empty r l e =
    let l' : reply_in (after_options q y bytes) ≡ Some line =
    subst (λ (v : Option (List ℕ)). IfSome v (λ s. reply_in s ≡ Some line)) r l
    in
    ap (λ (v : Option (List ℕ)). option_map (λ (s : List ℕ). length s == 0) v) l' ∙ ap Some (sym e)

pub appends_then : (old mid new : Option (List ℕ)) (xs ys : List ℕ) → Appends old mid xs → Appends mid new ys → Appends old new (xs ++ ys)
appends_then None mid new xs ys p q = tt
appends_then (Some a) None new xs ys p q = absurd p
appends_then (Some a) (Some b) None xs ys p q = absurd q
appends_then (Some a) (Some b) (Some c) xs ys p q = q ∙ ap (λ v. v ++ ys) p ∙ append_assoc a xs ys

-- the second option is the family
pub both_sent : (q : Bool) (y : Family) (old mid new : Option (List ℕ)) (is_set : Bool) (line : List ℕ)
    → Appends old mid (option_sent q (codes "option verbosity 0\n")) → Appends mid new (option_sent is_set line)
    → is_set ≡ is_limited y → line ≡ family_line y → Appends old new (options_sent q y)
both_sent q y old mid new is_set line a b e f =
    appends_then old mid new (option_sent q (codes "option verbosity 0\n")) (option_sent (is_limited y) (family_line y)) a
    (subst (λ (v : Bool). Appends mid new (option_sent v (family_line y))) e
    (subst (λ (v : List ℕ). Appends mid new (option_sent is_set v)) f b))
