-- `load_from` is the paper's list of cells: the bytes at the table's places are those that the list names, computed.
use lib.Bits.{or_zero_r}
use lib.ListN.{drop, get_or, take}
use mathlib.Core.List.{List, [], ◌∷◌, ◌++◌}
use mathlib.Core.Path.{◌≡◌, ◌∙◌, refl}
use Prim.Native.Nat.{ℕ, ◌%◌, ◌+◌, ◌/◌, ◌^◌}
use Rattle.zuc_loading.proofs.Behind.{apart, spelled}
use Rattle.zuc_loading.proofs.Rows.{inside}
use Rattle.zuc_loading.specs.InnerRows.{Places, besides, joined, place}
use Rattle.standard.specs.Loading.{IV₂₅₆, cells₂₅₆, load₂₅₆}
use Rattle.standard.specs.Notation.{◌‖₇◌, ◌‖₈◌, ◌∣◌, listed}
use borrow.Author.Rules.{rules}
use Rattle.zuc_loading.proofs.zuc256.load_from.Goals as goal

-- the middles: constants p that stand alone, and constants d with bits beside them
abbrev middles : (ℕ → ℕ) → (ℕ → ℕ) → (ℕ → ℕ) → (ℕ → ℕ) → List ℕ
middles K p d IV =
    listed p 0 5 ++ (listed (λ i. d i ∣ IV (12 + i)) 5 8 ++ (p 13 ∷ (d 14 ∣ K 31 / 2 ^ 4) ∷ (d 15 ∣ K 31 % 2 ^ 4) ∷ []))

-- the cells of these middles
abbrev around : List Places → List ℕ → List ℕ → List ℕ
around places m x = listed (λ i. get_or x (place places i).0 0 ‖₇ get_or m i 0 ‖₈ get_or x (place places i).1 0 ‖₈ get_or x (place places i).2 0) 0 16

-- a constant with nothing beside it stays as it is
joined_is : (places : List Places) (d b x k iv : List ℕ) → x ≡ spelled k iv → b ≡ besides k iv
    → joined places d b x ≡ around places (middles (λ i. get_or k i 0) (λ i. get_or d i 0) (λ i. get_or d i 0) (IV₂₅₆ iv)) (spelled k iv)
unfolding joined listed
joined_is places d b x k iv e f =
    (λ i. joined places d (f i) (e i))
    ∙ (λ i. around places (middles (λ n. get_or k n 0) (λ n. or_zero_r (get_or d n 0) i) (λ n. get_or d n 0) (IV₂₅₆ iv)) (spelled k iv))

pub join-requires : goal.join-requires
join-requires c = inside _ refl

pub returns : goal.returns
unfolding load₂₅₆ cells₂₅₆ IV₂₅₆ listed
returns c =
    let a = c.args in
    let cells : c.join.result ≡ cells₂₅₆ (λ i. get_or (take 32 a.x) i 0) (λ i. get_or a.d i 0) (IV₂₅₆ (drop 32 a.x)) =
    c.join.ensures ∙ joined_is _ a.d c.beside.result a.x (take 32 a.x) (drop 32 a.x) (apart a.x (search rules)) c.beside.ensures in
    λ i. record { cells = cells i; R₁ = 0; R₂ = 0 }
