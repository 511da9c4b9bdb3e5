-- Both arguments, if the version is sent.
use Rattle.std.proofs.Common.{◌≡◌, ◌∙◌, ℕ, Bool, true, if◌then◌else◌, List, [], ◌∷◌, ◌++◌, ap, map, sym}
use Rattle.std.specs.Prelude.{codes}
use Rattle.bstr.specs.Owned.{bstring_bytes}
use Rattle.gixp_remote_rules.proofs.ssh.add_version.Goals as goal

chosen_argv : (argv : List (List ℕ)) (b : Bool) → b ≡ true → argv ≡ (if b then argv else [])
chosen_argv argv b e = sym (ap (λ v. if v then argv else []) e)

pub returns-in_ok-add_two : goal.returns-in_ok-add_two
returns-in_ok-add_two c =
    c.in_ok-add_two.ensures
    ∙ ap (λ more. map bstring_bytes c.args.argv.now.items ++ more)
    (chosen_argv (codes "-o" ∷ codes "SendEnv=GIT_PROTOCOL" ∷ []) _ (sym c.is_sent.ensures ∙ c.if-is_sent.true))
