-- `value`: one digit more is ten times the value so far and the digit, and no later one brings a value back below 2^32.
use Rattle.std.proofs.Common.{arith, sym, ◌∙◌, ap}
use Rattle.std.proofs.Common.{ℕ, ◌≡◌, ◌≤◌, ◌<◌, ◌+◌, ◌-◌, ◌*◌, drop, length}
use lib.ListN.{drop_of_length-le, get_or}
use Rattle.std.proofs.lemmas.Bool.{le-leb, lt-leb}
use Rattle.frame_files.specs.Decimal.{value_after, value_of}
use Rattle.frame_files.proofs.Digits.{digit-here, value_grows, value_on}
use Rattle.frame_files.proofs.decimal.value.Goals as goal

pub overflow_sub-c : goal.overflow_sub-c
overflow_sub-c c = (digit-here c.args.digits.now c.loop-c.c-index (omega arith) c.loop-c.invariant.1).0

pub returns-then-v-gt4294967295 : goal.returns-then-v-gt4294967295
returns-then-v-gt4294967295 c =
    let l = c.loop-c in
    let digits = c.args.digits.now in
    let on = l.invariant.2 ∙ value_on digits l.c-index (omega arith) l.v in
    let grown = value_grows (l.v * 10 + (get_or digits l.c-index 0 - 48)) (drop (l.c-index + 1) digits) in
    let above : 4294967295 < value_of digits = omega (arith, on, grown, c.from.ensures) in
    rw (lt-leb (value_of digits) 4294967295 above)

pub loop-c-preserved : goal.loop-c-preserved
loop-c-preserved c =
    let l = c.loop-c in
    let digits = c.args.digits.now in (
      omega arith,
      (digit-here digits l.c-index (omega arith) l.invariant.1).2,
      l.invariant.2
          ∙ value_on digits l.c-index (omega arith) l.v
          ∙ ap (λ (k : ℕ). value_after (l.v * 10 + k) (drop (l.c-index + 1) digits)) (sym c.from.ensures),
    )

pub returns : goal.returns
unfolding value_after
returns c =
    let l = c.loop-c in
    let digits = c.args.digits.now in
    let end : length digits ≤ l.c-index = omega arith in
    let whole : value_of digits ≡ l.v = l.invariant.2 ∙ ap (value_after l.v) (drop_of_length-le digits end) in
    rw (whole, le-leb l.v 4294967295 l.invariant.0)
