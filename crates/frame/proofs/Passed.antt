-- What is known past the tests of a writer and of a reader: by the tests.
use mathlib.Core.Bool.{true}
use mathlib.Core.List.{List}
use mathlib.Core.Path.{◌≡◌}
use Prim.Native.Nat.{ℕ, ◌-◌, ◌^◌, ◌<◌, ◌≤◌}
use native.Mathlib.Omega.{arith}
use borrow.Author.Tests.{eqb-true, leb-true}
use lib.Dec.{leb, lit<}
use lib.ListN.{drop, length, length-drop}
use lib.Seq.{length-take-le}
use Rattle.standard.specs.Frame.{Fields, body_fits, body_in, fields_in}
use Rattle.standard.specs.Refusals.{accepted, field_test, tested}
use Rattle.standard.proofs.Table.{and_left}
use Rattle.standard.proofs.Tested.{Numbered}
use Rattle.frame.specs.Inner.{Sealable, Taken}
use Rattle.frame.specs.Outcome.{read_tests, write_tests}
use Rattle.frame.proofs.Body.{fits-bytes}
use Rattle.frame.proofs.Order.{all-passed}

pub length-body : (frame : List ℕ) → 17 ≤ length frame → length (body_in frame) ≡ length frame - 17
length-body frame h = length-take-le (length frame - 17) (drop 13 frame) (omega (arith, length-drop 13 frame))

pub sealable : (key : List ℕ) (f : Fields) (body : List ℕ) → length key ≡ 16 → (field_test f.bearer f.direction).passes ≡ true → body_fits f.L body ≡ true
    → f.L < 2 ^ 32 → Sealable key f body
sealable key f body k p b low = record { key-bytes = k; fields = p; fits = omega (arith, fits-bytes f.L body b); low = low }

module _ (CK IK : List ℕ) (f : Fields) (frame : List ℕ) where
  pub write-numbered : Numbered (write_tests CK IK f frame)
  write-numbered = (lit< tt, (lit< tt, (lit< tt, (lit< tt, (lit< tt, (lit< tt, (lit< tt, tt)))))))

  pub past-write : (n : ℕ) → n ≡ tested (write_tests CK IK f frame) (λ k. k) accepted → n ≡ accepted → f.L < 2 ^ 32 → Taken CK IK f frame
  past-write n e ok low =
      let all = all-passed (write_tests CK IK f frame) write-numbered n e ok in
      let long = leb-true 17 (length frame) all.1.1.0 in
      record {
        ck = eqb-true (length CK) 16 all.0;
        ik = eqb-true (length IK) 16 all.1.0;
        fields = all.1.1.1.1.0;
        long = long;
        short = leb-true (length frame) 65538 all.1.1.1.0;
        fits = omega (arith, fits-bytes f.L (body_in frame) all.1.1.1.1.1.0, length-body frame long);
        low = low;
      }

module _ (CK IK frame : List ℕ) where
  pub read-numbered : Numbered (read_tests CK IK frame)
  read-numbered = (lit< tt, (lit< tt, (lit< tt, (lit< tt, (lit< tt, (lit< tt, (lit< tt, (lit< tt, tt))))))))

  module _ (n : ℕ) (e : n ≡ tested (read_tests CK IK frame) (λ k. k) accepted) (ok : n ≡ accepted) where
    pub past-read : 17 ≤ length frame
    past-read =
        let all = all-passed (read_tests CK IK frame) read-numbered n e ok in
        leb-true 17 (length frame) (and_left (leb 17 (length frame)) _ all.1.1.0)

    pub openable : (fields_in frame).L < 2 ^ 32 → Sealable CK (fields_in frame) (body_in frame)
    openable low =
        let all = all-passed (read_tests CK IK frame) read-numbered n e ok in
        sealable CK (fields_in frame) (body_in frame) (eqb-true (length CK) 16 all.0) all.1.1.1.1.0 all.1.1.1.1.1.0 low
