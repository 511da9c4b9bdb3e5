-- The entry so far, and the entries that remain.
use Rattle.std.proofs.Common.{◌≡◌, map, drop}
use Rattle.std.specs.List.{fold}
use Rattle.std.specs.Option.{option_map}
use Rattle.gixp_remote_rules.specs.Config.{entry_value, counting, last_named, settings_in}
use Rattle.gixp_remote_rules.proofs.config.Settings.last.Given as goal

abbrev pub invariant-entries : goal.invariant-entries
invariant-entries l =
    fold (counting l.name) (option_map (λ s. entry_value s.now) l.found) (map entry_value (drop l.entry-index l.self.entries.items))
    ≡ last_named (settings_in l.self) l.name
