-- The refspecs of the texts so far, and the defaults.
use Rattle.std.proofs.Common.{take}
use Rattle.gixp_fetch_cli.specs.Refspecs.{AreSpecsOf, HasOtherDefaults}
use Rattle.gixp_fetch_cli.proofs.request.request_of.Given as goal

abbrev pub invariant-specs : goal.invariant-specs
invariant-specs l = record {
  specs : AreSpecsOf (take l.text-index l.fetch_args.specs.items) l.request.refspecs.items;
  defaults : HasOtherDefaults l.request;
}
