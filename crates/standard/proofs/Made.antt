-- An array that `from_fn` makes by a closure that no call changes: it lists what the closure gives at each place. And one that is copied in parts.
use borrow.Rule.Slice.PartMut.{put_mid}
use denote.Param.Members.{Mut, Called}
use lib.ListN.{drop, drop_of_length-le, get_or, length}
use lib.Seq.{drop_at, take_at}
use mathlib.Core.List.{List, ◌++◌, append-nil}
use mathlib.Core.Logic.{⊎_elim}
use mathlib.Core.Path.{◌≡◌, ◌∙◌, ap, ap₂, refl, subst, sym}
use native.Mathlib.Nat.{eq-zero-or-pos}
use native.Mathlib.Omega.{arith}
use Prim.Native.Nat.{ℕ, zero, suc, ◌+◌, ◌-◌, ◌<◌, ◌≤◌}
use Rattle.std.specs.Array.{IsFromFnResult, IsFromFnResultFrom}
use Rattle.standard.proofs.Listed.{is-listed}
use Rattle.standard.specs.Notation.{listed}

-- what the closure gives, by its place, from place i on
from : {F : Type 0} {g : Mut F (ℕ × Unit {0}) ℕ} {f : F} {v : ℕ → ℕ} {n : ℕ}
    → ((i y : ℕ) (q : F) → i < n → Called g f (i, tt) y q → (y ≡ v i) × (q ≡ f))
    → (ys : List ℕ) (m i : ℕ) (p : F) → p ≡ f → i + m ≡ n → IsFromFnResultFrom g p ys i m → (k : ℕ) → i ≤ k → k < n → get_or ys k 0 ≡ v k
from each ys zero i p e l t k lo hi = absurd (omega arith)
from {g = g} {v = v} each ys (suc m) i p e l t k lo hi =
    let one = each i t.1 t.0 (omega arith) (subst (λ s. Called g s (i, tt) t.1 t.0) e t.3) in
    ⊎_elim
    (λ (z : k - i ≡ 0). let here : k ≡ i = omega arith in ap (λ j. get_or ys j 0) here ∙ t.2.1 0 ∙ one.0 ∙ ap v (sym here))
    (λ (z : 0 < k - i). from each ys m (i + 1) t.0 one.1 (omega arith) t.4 k (omega arith) hi)
    (eq-zero-or-pos (k - i))

-- v is what the closure says of a place, and w what that is
pub made_as : {F : Type 0} {g : Mut F (ℕ × Unit {0}) ℕ} {f : F} {v w : ℕ → ℕ} {n : ℕ} {ys : List ℕ}
    → ((i y : ℕ) (q : F) → i < n → Called g f (i, tt) y q → (y ≡ v i) × (q ≡ f)) → IsFromFnResult g f ys n → ((i : ℕ) → i < n → v i ≡ w i) → ys ≡ listed w 0 n
made_as {f = f} {w = w} {n = n} {ys = ys} each is same =
    is-listed w ys n is.long (λ k l. from each ys n 0 f refl (omega arith) is.each k (omega arith) l ∙ same k l)

pub made : {F : Type 0} {g : Mut F (ℕ × Unit {0}) ℕ} {f : F} {v : ℕ → ℕ} {n : ℕ} {ys : List ℕ}
    → ((i y : ℕ) (q : F) → i < n → Called g f (i, tt) y q → (y ≡ v i) × (q ≡ f)) → IsFromFnResult g f ys n → ys ≡ listed v 0 n
made each is = made_as each is (λ i l. refl)

-- an array of n and m entries, into whose parts two lists are copied, one after the other
pub laid : (n m : ℕ) (a b rest : List ℕ) → length a ≡ n → length rest ≡ m → put_mid n m (a ++ rest) b ≡ a ++ b
laid n m a b rest l r =
    ap₂ (λ (p q : List ℕ). p ++ (b ++ drop m q)) (take_at a rest n l) (drop_at a rest n l)
    ∙ ap (λ (q : List ℕ). a ++ q) (ap (λ (q : List ℕ). b ++ q) (drop_of_length-le rest {i = m} (omega (arith, r))) ∙ append-nil b)
