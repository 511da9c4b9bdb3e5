-- The refspec of the tags that a fetch requests (git-fetch, "--tags").
use Rattle.std.specs.Prelude.{codes, Option, Some, None}
use Rattle.gixp_refspec.specs.declared.spec.Sign.TheVariants.{Plain}
use Rattle.gixp_refspec.specs.Spec.{Spec, spec}
use Rattle.gixp_refmap.specs.declared.fetch.Tags.{Tags}
use Rattle.gixp_refmap.specs.declared.fetch.Tags.TheVariants.{All, Included, None as no_tags}

abbrev pub tags_spec : Spec
tags_spec = spec Plain (codes "refs/tags/*") (Some (codes "refs/tags/*"))

abbrev pub tags_asked : Tags → Option Spec
tags_asked All = Some tags_spec
tags_asked Included = Some tags_spec
tags_asked no_tags = None
