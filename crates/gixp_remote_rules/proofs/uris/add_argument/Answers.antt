use Rattle.std.proofs.Common.{◌≡◌, ◌++◌, ◌∷◌, [], map, ap, ◌∙◌, append-nil}
use Rattle.std.specs.Prelude.{codes}
use Rattle.bstr.specs.Owned.{bstring_bytes}
use Rattle.gixp_remote_rules.proofs.uris.add_argument.Goals as goal

pub returns : goal.returns
returns c = c.in_ok-add.ensures ∙ ap (λ w. map bstring_bytes c.args.argv.now.items ++ w ∷ [])
    (c.deref.ensures.value ∙ c.in_ok-argument.ensures ∙ ap (λ w. codes "--index-pack-arg=" ++ w) (append-nil c.args.word.now))
