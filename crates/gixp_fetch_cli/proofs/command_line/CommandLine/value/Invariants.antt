use Rattle.std.proofs.Common.{◌≡◌, map, take}
use Rattle.std.specs.Option.{option_map}
use Rattle.gixp_fetch_cli.specs.OptionNames.{value_in}
use Rattle.gixp_fetch_cli.specs.CommandLine.{setting_value}
use Rattle.gixp_fetch_cli.proofs.command_line.CommandLine.value.Given as goal

abbrev pub invariant-loop-setting : goal.invariant-loop-setting
invariant-loop-setting l =
    option_map (λ v. v.now) l.found ≡ value_in (map setting_value (take l.setting-index l.self.settings.items)) l.name
