-- `value`: the digits from the place of c on, behind the value so far, have the value of all; which no digit makes less.
use Rattle.std.proofs.Common.{true, ◌≡◌, ◌≤◌, drop}
use Rattle.frame_files.specs.Decimal.{all_digits, value_after, value_of}
use Rattle.frame_files.proofs.decimal.value.Given as goal

abbrev pub invariant-loop-c : goal.invariant-loop-c
invariant-loop-c l =
    (l.v ≤ 4294967295)
    × (all_digits (drop l.c-index l.digits) ≡ true)
    × (value_of l.digits ≡ value_after l.v (drop l.c-index l.digits))
