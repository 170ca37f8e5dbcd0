-- `byte_of`: the library's bytes are the standard's four.
use lib.ListN.{get_or}
use mathlib.Core.Path.{◌≡◌, ◌∙◌, ap, refl}
use native.Mathlib.Omega.{arith}
use Prim.Native.Nat.{ℕ, zero, suc, ◌<◌}
use Rattle.standard.specs.Bits.{byte_of, bytes_of}
use Rattle.words.proofs.Bytes.{be-bytes}
use Rattle.words.proofs.byte_of.Goals as goal

at : (w j : ℕ) → j < 4 → get_or (bytes_of w) j 0 ≡ byte_of w j
at w zero h = refl
at w (suc zero) h = refl
at w (suc (suc zero)) h = refl
at w (suc (suc (suc zero))) h = refl
at w (suc (suc (suc (suc j)))) h = absurd (omega (arith, h))

pub returns : goal.returns
returns c =
    let a = c.args in
    ap (λ bytes. get_or bytes a.j 0) (c.to_be_bytes.ensures ∙ be-bytes a.w) ∙ at a.w a.j c.requires
