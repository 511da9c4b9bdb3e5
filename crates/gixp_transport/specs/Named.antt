-- The version that a line names, as the code represents it.
use Rattle.std.specs.Prelude.{ℕ, List}
use Rattle.gixp_transport.specs.declared.advertisement.Named.{Named as Found}
use Rattle.gixp_transport.specs.declared.advertisement.Named.TheVariants.{One, Two, Another, Unnamed}
use Rattle.gixp_transport.specs.CapabilityAdvertisement.{Named, one, two, another, unnamed, trimmed}

abbrev pub named_value : List ℕ → Found → Named
named_value line One = one
named_value line Two = two
named_value line Another = another (trimmed line)
named_value line Unnamed = unnamed
