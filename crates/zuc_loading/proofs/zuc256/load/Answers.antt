-- `load` is the ZUC-256 load: key and IV, copied into one array, are its two parts.
use borrow.Rule.Slice.PartMut.{put_mid}
use lib.ListN.{drop, length, length-append, take}
use lib.Seq.{drop_at, take_at}
use mathlib.Core.List.{List, ◌++◌}
use mathlib.Core.Path.{◌≡◌, ◌∙◌, ap, ap₂, refl}
use native.Mathlib.Omega.{arith}
use Prim.Native.Nat.{ℕ, ◌≤◌}
use Rattle.standard.proofs.Made.{laid}
use Rattle.standard.specs.Loading.{load₂₅₆}
use Rattle.zuc_loading.proofs.zuc256.load.Goals as goal

ends : (k rest : List ℕ) → length k ≡ 32 → length rest ≡ 23 → 55 ≤ length (k ++ rest)
ends k rest l m = omega (arith, length-append k rest)

-- the two copies, in the array that they were made in
copied : (d k rest v key iv : List ℕ) → k ≡ key → v ≡ iv → length key ≡ 32 → length rest ≡ 23
    → load₂₅₆ d (take 32 (put_mid 32 23 (k ++ rest) v)) (drop 32 (put_mid 32 23 (k ++ rest) v)) ≡ load₂₅₆ d key iv
copied d k rest v key iv e f l m =
    ap (λ (x : List ℕ). load₂₅₆ d (take 32 x) (drop 32 x)) (laid 32 23 k v rest (ap length e ∙ l) m ∙ ap₂ (λ (x y : List ℕ). x ++ y) e f)
    ∙ ap₂ (load₂₅₆ d) (take_at key iv 32 l) (drop_at key iv 32 l)

pub slice_bounds-x-end-2 : goal.slice_bounds-x-end-2
slice_bounds-x-end-2 c =
    ends c.copy_from_slice.new.self _ (ap length c.copy_from_slice.ensures.after ∙ c.requires.key_fits) refl

pub returns : goal.returns
returns c =
    let copied-iv = c in
    let copied-key = copied-iv in
    let start = copied-key in
    c.load_from.ensures
    ∙ copied start.args.d copied-key.copy_from_slice.new.self _ copied-iv.copy_from_slice-2.new.self _ _ copied-key.copy_from_slice.ensures.after copied-iv.copy_from_slice-2.ensures.after start.requires.key_fits refl
