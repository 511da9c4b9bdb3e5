-- The parts of the path, in order.
use Rattle.std.proofs.Common.{◌≡◌, ℕ, List, ◌++◌, ap, ◌∙◌, append_assoc}
use Rattle.std.specs.Prelude.{codes}
use Rattle.gixp_hash.specs.Hex.{encode_lower}
use Rattle.gixp_remote_rules.proofs.index_pack.pack_file.Goals as goal

-- four texts, one after the other
appended : (o p h e a b d : List ℕ) → a ≡ o ++ p → b ≡ a ++ h → d ≡ b ++ e → d ≡ o ++ (p ++ (h ++ e))
appended o p h e a b d x y z =
    z ∙ (ap (λ l. l ++ e) (y ∙ ap (λ l. l ++ h) x) ∙ (append_assoc (o ++ p) h e ∙ append_assoc o p (h ++ e)))

pub returns : goal.returns
returns c =
    appended c.args.objects.now (codes "/pack/pack-") (encode_lower c.args.pack.now.bytes) c.args.end.now
    c.extend_from_slice.new.self.items c.extend_from_slice-2.new.self.items c.extend_from_slice-3.new.self.items
    (c.in_ok-extend_from_slice.ensures.items ∙ ap (λ l. l ++ codes "/pack/pack-") c.in_ok-path.ensures.items)
    (c.in_ok-extend_from_slice-2.ensures.items ∙ ap (λ l. c.extend_from_slice.new.self.items ++ l) c.to_hex.ensures)
    c.in_ok-extend_from_slice-3.ensures.items
