-- `wait` meets its contract: the bytes stand behind the others, and the rest stays.
use mathlib.Core.List.{List}
use mathlib.Core.Path.{refl, ap, ◌∙◌}
use Prim.Native.Nat.{ℕ, ◌+◌}
use lib.ListN.{length}
use Rattle.mac_registers.specs.Stored.{stored_by}
use Rattle.mac_tagging.proofs.Bytes.{waits-are}
use Rattle.mac_tagging.proofs.updates.wait.Goals as goal

pub returns : goal.returns
returns g c =
    let s = c.args.s in
    let m : List ℕ = c.args.bytes.now in
    record {
      same = refl;
      stored =
          λ held h. ap (λ (x : List ℕ). record { generator = held s.g; key = s.key; tag = s.tag; rem = x; cnt = s.cnt + length m; width = s.width })
          c.behind-rem.ensures
          ∙ waits-are (stored_by held s) h m c.requires.0;
    }
