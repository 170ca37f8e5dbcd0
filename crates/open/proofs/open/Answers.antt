-- `open` stays inside the frame: one that is accepted has at least 17 bytes.
use Rattle.std.proofs.Common.{arith, rules, ap, refl, sym, ◌∙◌, ◌≡◌, ◌≤◌, ℕ, List, length}
use Rattle.frame.specs.Outcome.{Readout, read_outcome}
use Rattle.frame_files.proofs.Ends.{accepted-long}
use Rattle.open.proofs.open.Goals as goal

long : (CK IK frame : List ℕ) {o : Readout} → o ≡ read_outcome CK IK frame → o.number ≡ 0 → 17 ≤ length frame
long CK IK frame told zero = accepted-long CK IK frame (sym (ap (λ (x : Readout). x.number) told) ∙ zero)

pub overflow_sub-end : goal.overflow_sub-end
overflow_sub-end c = omega (arith, long _ _ _ c.in_ok-fields.ensures refl, c.read.auto.frame)

pub slice_bounds-write_all-count : goal.slice_bounds-write_all-count
slice_bounds-write_all-count c = omega (arith, long _ _ _ c.in_ok-fields.ensures refl, c.read.auto.frame)

pub slice_bounds-write_all-start : goal.slice_bounds-write_all-start
slice_bounds-write_all-start c = let h = long _ _ _ c.in_ok-fields.ensures refl in search (rules, h)
