-- Where a frame ends is in its first bytes, whatever follows; and a frame that a reader accepts ends there: by its test of the length field.
use mathlib.Core.List.{List, ◌++◌}
use mathlib.Core.Path.{◌≡◌, ap, refl, sym, ◌∙◌}
use Prim.Native.Nat.{ℕ, ◌-◌, ◌<◌, ◌≤◌}
use native.Mathlib.Omega.{arith}
use borrow.Author.Tests.{eqb-true, leb-true}
use lib.Dec.{leb}
use lib.ListN.{get_or-append, drop, length, take, take-append-drop}
use lib.Seq.{length-take-le}
use Rattle.standard.specs.Frame.{two_at}
use Rattle.standard.specs.Refusals.{accepted}
use Rattle.standard.proofs.Table.{and_left}
use Rattle.standard.proofs.Tested.{AllPass, accepted-passed}
use Rattle.frame.specs.Outcome.{Readout, read_outcome, read_tests}
use Rattle.frame.proofs.Passed.{read-numbered}
use Rattle.frame_files.specs.Stream.{frame_end}

pub same_end : (frame more : List ℕ) → 3 ≤ length frame → frame_end (frame ++ more) ≡ frame_end frame
same_end frame more h =
    let one : 1 < length frame = omega arith in
    let two : 2 < length frame = omega arith in
    rw (get_or-append frame more 0 1 one, get_or-append frame more 0 2 two)

-- bytes put behind byte 17 do not move it
pub same-end-behind : (frame rest : List ℕ) → 17 ≤ length frame → frame_end (take 17 frame ++ rest) ≡ frame_end frame
same-end-behind frame rest h =
    let head : 3 ≤ length (take 17 frame) = omega (arith, length-take-le 17 frame h) in
    same_end (take 17 frame) rest head ∙ sym (same_end (take 17 frame) (drop 17 frame) head) ∙ ap frame_end (take-append-drop 17 frame)

module _ (CK IK frame : List ℕ) (e : (read_outcome CK IK frame).number ≡ accepted) where
  all-passed : AllPass (read_tests CK IK frame)
  unfolding read_outcome
  all-passed = accepted-passed (λ (r : Readout). r.number) _ (λ k. refl) _ (read_tests CK IK frame) (read-numbered CK IK frame) e

  pub accepted-long : 17 ≤ length frame
  accepted-long = leb-true 17 (length frame) (and_left (leb 17 (length frame)) _ all-passed.1.1.0)

  -- an accepted frame ends where the next one of a stream begins
  pub accepted-ends : (more : List ℕ) → frame_end (frame ++ more) ≡ length frame
  accepted-ends more =
      let field = eqb-true (two_at frame 1) (length frame - 3) all-passed.1.1.1.0 in
      let here : frame_end frame ≡ length frame = omega (arith, accepted-long, field) in
      same_end frame more (omega (arith, accepted-long)) ∙ here
