-- `reach_of`: L bits are floor(L/8) whole bytes and L mod 8 bits, and reach into ceil(L/8) bytes and ceil(L/32) words; crate mode by the bytes lent.
use mathlib.Core.Bool.{Bool}
use mathlib.Core.Path.{◌≡◌, ap, sym, ◌∙◌}
use native.Mathlib.Omega.{arith}
use Prim.Native.Nat.{◌+◌, ◌*◌, ◌/◌, ◌%◌}
use Rattle.standard.specs.Confidentiality.{words_to_mask_clean, words_to_mask_crate}
use Rattle.std.specs.Prelude.{if◌then◌else◌}
use Rattle.mask.specs.Inner.{mode_end}
use Rattle.mask.proofs.Outcomes.{crate-end}
use Rattle.mask.proofs.reach_of.Goals as goal

pub returns-then-clean : goal.returns-then-clean
returns-then-clean c =
    let a = c.args in
    let all : a.bits / 8 * 8 + a.bits % 8 ≡ a.bits = omega arith in
    let words : a.bits / 32 + (a.bits % 32 + 31) / 32 ≡ words_to_mask_clean a.bits = omega arith in
    record {
      end = all ∙ ap (λ (b : Bool). mode_end b a.bits) (sym c.if-clean.true);
      words = words ∙ ap (λ (b : Bool). if b then words_to_mask_clean a.bits else words_to_mask_crate a.n) (sym c.if-clean.true);
      enough = λ fits. record { kept = omega arith; inside = omega arith; reached = λ short. omega arith; masking = omega arith; drawn = omega arith };
    }

pub returns : goal.returns
returns c =
    let a = c.args in
    record {
      end = crate-end a.bits ∙ ap (λ (b : Bool). mode_end b a.bits) (sym c.if-clean.false);
      words = ap (λ (b : Bool). if b then words_to_mask_clean a.bits else words_to_mask_crate a.n) (sym c.if-clean.false);
      enough = λ fits. record { kept = omega arith; inside = omega arith; reached = λ short. omega arith; masking = omega arith; drawn = omega arith };
    }
