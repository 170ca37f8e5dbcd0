-- A key of 32 bytes and an IV of 23 behind it, spelled out byte by byte, so that a byte at a numeral computes; from the laws of `listed`.
use lib.ListN.{drop, get_or, length, length-drop, take, take-append-drop}
use lib.Seq.{length-take-le}
use mathlib.Core.List.{List, ◌++◌}
use mathlib.Core.Path.{◌≡◌, ◌∙◌, ap, refl, sym}
use native.Mathlib.Omega.{arith}
use Prim.Native.Nat.{ℕ, ◌-◌}
use Rattle.standard.proofs.Listed.{is-listed}
use Rattle.standard.specs.Notation.{listed}

abbrev pub spelled : List ℕ → List ℕ → List ℕ
spelled k iv = listed (λ i. get_or k i 0) 0 32 ++ listed (λ i. get_or iv i 0) 0 23

pub apart : (x : List ℕ) → length x ≡ 55 → x ≡ spelled (take 32 x) (drop 32 x)
apart x l = sym (take-append-drop 32 x) ∙ λ i. all (take 32 x) 32 (length-take-le 32 x (omega arith)) i ++ all (drop 32 x) 23 (length-drop 32 x ∙ ap (λ (n : ℕ). n - 32) l) i
  where
    all : (s : List ℕ) (n : ℕ) → length s ≡ n → s ≡ listed (λ i. get_or s i 0) 0 n
    all s n e = is-listed (λ i. get_or s i 0) s n e (λ k h. refl)
