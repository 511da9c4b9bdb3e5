-- A pack in a file: written to a lock file first, or directly where the path is no file.
use Rattle.std.specs.Prelude.{◌≡◌, ◌⊎◌, true, false}
use Rattle.gixp_fetch_common.specs.declared.pack_place.PackFile.{PackFile}

module _ {F : Type 0} where
  -- the lock file is made; where the path is no file, nothing changes
  abbrev pub BeginsFile : PackFile F → PackFile F → Type 0
  BeginsFile old new = (new ≡ record old { is_locked = true }) ⊎ (new ≡ old)

  -- there is no lock file any longer
  abbrev pub IsOver : PackFile F → PackFile F → Type 0
  IsOver old new = new ≡ record old { is_locked = false }
