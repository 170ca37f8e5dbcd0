-- `step` is the outcome of one link: each return by the tests that led there.
use borrow.Author.Tests.{eq-eqb, ne_eqb}
use mathlib.Core.Bool.{true, false}
use mathlib.Core.Path.{◌≡◌, ◌∙◌, ap, ap₂, subst, sym}
use native.Mathlib.Omega.{arith}
use Prim.Native.Nat.{ℕ, ◌+◌, ◌-◌, ◌*◌, ◌/◌, ◌%◌, ◌^◌, ◌<◌}
use Rattle.guard.proofs.Stepping.{above-fits, above-is, again-is, inside-fits, inside_is, one_shifted}
use Rattle.guard.specs.Inner.{standing_bits}
use Rattle.guard.specs.Outcome.{link_of}
use Rattle.standard.specs.Guard.{is_set}
use Rattle.standard.specs.Refusals.{accepted}
use Rattle.guard.proofs.step.Goals as goal

-- the bit that the code tests
is-set : (x y k : ℕ) → x ≡ y → x / 2 ^ k % 2 ≡ 1 → is_set y k ≡ true
unfolding is_set
is-set x y k e h = eq-eqb (y / 2 ^ k % 2) 1 (ap (λ (z : ℕ). z / 2 ^ k % 2) (sym e) ∙ h)

not_set : (x y k : ℕ) → x ≡ y → (x / 2 ^ k % 2 ≡ 1 → ⊥) → is_set y k ≡ false
unfolding is_set
not_set x y k e h = ne_eqb (y / 2 ^ k % 2) 1 (λ q. h (ap (λ (z : ℕ). z / 2 ^ k % 2) e ∙ q))

pub overflow_add-result : goal.overflow_add-result
overflow_add-result c =
    let a = c.args in
    let e = c.raised-moved.ensures ∙ ap (λ (b : ℕ). b * 2 ^ (a.count - a.l.highest) % 2 ^ 64) c.standing-bits.ensures in
    record { fits = subst (λ (x : ℕ). x + 1 < 2 ^ 64) (sym e) (above-fits (link_of a.l) a.count (omega arith)) }

pub returns-then-highest-count : goal.returns-then-highest-count
returns-then-highest-count c =
    let a = c.args in
    ap (λ (x : ℕ). record { number = accepted; link = record { highest = a.count; accepted = x + 1 } })
    (c.raised-moved.ensures ∙ ap (λ (b : ℕ). b * 2 ^ (a.count - a.l.highest) % 2 ^ 64) c.standing-bits.ensures)
    ∙ above-is (link_of a.l) a.count (omega arith)

pub returns-then-bits-back-eq1 : goal.returns-then-bits-back-eq1
returns-then-bits-back-eq1 c =
    let a = c.args in
    let s = c.standing-bits in
    again-is (link_of a.l) a.count (omega arith) (omega arith) (is-set s.result (standing_bits (link_of a.l)) (a.l.highest - a.count) s.ensures c.if-bits-back-eq1.true)

pub overflow_add-result-2 : goal.overflow_add-result-2
overflow_add-result-2 c =
    let a = c.args in
    let s = c.standing-bits in
    let back = a.l.highest - a.count in
    record {
      fits = subst (λ (x : ℕ). x < 2 ^ 64) (sym (ap₂ (λ (x y : ℕ). x + y) s.ensures (one_shifted back (omega arith))))
          (inside-fits (link_of a.l) a.count (omega arith) (omega arith) (not_set s.result (standing_bits (link_of a.l)) back s.ensures c.if-bits-back-eq1.false));
    }

pub returns : goal.returns
returns c =
    let a = c.args in
    let s = c.standing-bits in
    let back = a.l.highest - a.count in
    ap₂ (λ (x y : ℕ). record { number = accepted; link = record { highest = a.l.highest; accepted = x + y } }) s.ensures (one_shifted back (omega arith))
    ∙ inside_is (link_of a.l) a.count (omega arith) (omega arith) (not_set s.result (standing_bits (link_of a.l)) back s.ensures c.if-bits-back-eq1.false)
