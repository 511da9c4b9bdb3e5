use Rattle.std.proofs.Common.{◌≡◌, codes, map, take}
use Rattle.gixp_refspec.specs.PartialName.{name_bytes}
use Rattle.gixp_fetch_cli.specs.OptionNames.{values_in}
use Rattle.gixp_fetch_cli.specs.CommandLine.{setting_value}
use Rattle.gixp_fetch_cli.proofs.history.excluded.Given as goal

abbrev pub invariant-loop-setting : goal.invariant-loop-setting
invariant-loop-setting l =
    map name_bytes l.names.items ≡ values_in (map setting_value (take l.setting-index l.line.settings.items)) (codes "--exclude")
