use Rattle.std.proofs.Common.{◌≡◌, ◌==◌, ℕ, List, [], ◌∷◌, length, Bool, true, false, refl, arith}
use Rattle.std.specs.List.{list_any, position_or_len}
use Rattle.std.proofs.lemmas.Grind.{common_steps}
use Rattle.gixp_fetch_cli.proofs.command_line.joined_setting.Goals as goal

-- where no first place is found, none is there
lacks : (word : List ℕ) → position_or_len (λ b. b == 61) word ≡ length word → list_any (λ b. b == 61) word ≡ false
lacks [] h = refl
lacks (x ∷ xs) h = go (x == 61) refl (lacks xs)
  where
    go : (t : Bool) → (x == 61) ≡ t → (position_or_len (λ b. b == 61) xs ≡ length xs → list_any (λ b. b == 61) xs ≡ false)
        → list_any (λ b. b == 61) (x ∷ xs) ≡ false
    go true e more = absurd (grind (arith, common_steps, e, h))
    go false e more = rw e (more (grind (arith, common_steps, e, h)))

pub returns-in-None : goal.returns-in-None
returns-in-None c = rw (lacks c.args.word.now (c.in-None.ensures.byte (omega arith) (λ w o h. h))) refl
