-- Laws of `each_from` and of a list that a loop changes in place from the front; by elements, and by cutting the list.
use mathlib.Core.Path.{◌≡◌, refl, sym, ap, ap₂, ◌∙◌}
use mathlib.Core.Logic.{◌⊎◌, inl, inr, ⊎_elim}
use mathlib.Core.List.{List, [], ◌∷◌, ◌++◌, append_assoc, append-nil}
use Prim.Native.Nat.{ℕ, zero, suc, ◌+◌, ◌-◌, ◌<◌, ◌≤◌}
use native.Mathlib.Nat.{add-zero, zero-add, add-suc, suc-add, eq-zero-or-pos}
use native.Mathlib.Numerals.{add-one}
use native.Mathlib.Omega.{arith}
use lib.ListN.{length, get_or, take, drop, set, length-append, length-drop, drop_of_length-le, take-append-drop, length-set}
use lib.Seq.{length-take-le, drop-cons, take_all, take_at, drop_at, drop-drop, ext_get_or, set_split, get_or-set_same, get_or-set_other}
use Rattle.standard.specs.Notation.{each_from}

pub length-each : (f : ℕ → ℕ → ℕ) (j : ℕ) (l : List ℕ) → length (each_from f j l) ≡ length l
unfolding each_from
length-each f j [] = refl
length-each f j (x ∷ l) = ap suc (length-each f (suc j) l)

pub get_or-each : (f : ℕ → ℕ → ℕ) (j : ℕ) (l : List ℕ) (i : ℕ) → i < length l → get_or (each_from f j l) i 0 ≡ f (j + i) (get_or l i 0)
unfolding each_from
get_or-each f j [] i h = absurd (omega arith)
get_or-each f j (x ∷ l) zero h = ap (λ (n : ℕ). f n x) (sym (add-zero j))
get_or-each f j (x ∷ l) (suc i) h =
    get_or-each f (suc j) l i (omega arith) ∙ ap (λ (n : ℕ). f n (get_or l i 0)) (suc-add j i ∙ sym (add-suc j i))

-- a list is f of another at each place if each of its elements is
pub is-each : (f : ℕ → ℕ → ℕ) (j : ℕ) (l m : List ℕ) → length m ≡ length l
    → ((i : ℕ) → i < length l → get_or m i 0 ≡ f (j + i) (get_or l i 0)) → m ≡ each_from f j l
is-each f j l m n e =
    ext_get_or 0 m (each_from f j l) (n ∙ sym (length-each f j l)) (λ i h. e i (omega arith) ∙ sym (get_or-each f j l i (omega arith)))

-- the same at each place and element
pub each-ext : (f g : ℕ → ℕ → ℕ) (j k : ℕ) (l : List ℕ)
    → ((i : ℕ) → i < length l → f (j + i) (get_or l i 0) ≡ g (k + i) (get_or l i 0)) → each_from f j l ≡ each_from g k l
each-ext f g j k l e = is-each g k l (each_from f j l) (length-each f j l) (λ i h. get_or-each f j l i h ∙ e i h)

pub each_append : (f : ℕ → ℕ → ℕ) (j : ℕ) (l m : List ℕ)
    → each_from f j (l ++ m) ≡ each_from f j l ++ each_from f (j + length l) m
unfolding each_from
each_append f j [] m = ap (λ (k : ℕ). each_from f k m) (sym (add-zero j))
each_append f j (x ∷ l) m =
    ap (λ (r : List ℕ). f j x ∷ r)
    (each_append f (suc j) l m
    ∙ ap (λ (k : ℕ). each_from f (suc j) l ++ each_from f k m) (suc-add j (length l) ∙ sym (add-suc j (length l))))

-- one after the other
pub each-each : (f g : ℕ → ℕ → ℕ) (j : ℕ) (l : List ℕ) → each_from f j (each_from g j l) ≡ each_from (λ i x. f i (g i x)) j l
unfolding each_from
each-each f g j [] = refl
each-each f g j (x ∷ l) = ap (λ (r : List ℕ). f j (g j x) ∷ r) (each-each f g (suc j) l)

-- a place is before another, that one, or after it
pub place : (j q : ℕ) → (j < q) ⊎ ((j ≡ q) ⊎ (q < j))
place j q =
    ⊎_elim (λ e. inr (⊎_elim (λ d. inl (omega arith)) (λ d. inr (omega arith)) (eq-zero-or-pos (j - q)))) (λ p. inl (omega arith))
    (eq-zero-or-pos (q - j))

-- g at each place but q, and f there, is f where the two agree elsewhere
pub each_set : (f g : ℕ → ℕ → ℕ) (l : List ℕ) (q v : ℕ) → q < length l → v ≡ f q (get_or l q 0)
    → ((i : ℕ) → (i ≡ q → ⊥) → g i (get_or l i 0) ≡ f i (get_or l i 0)) → set (each_from g 0 l) q v ≡ each_from f 0 l
each_set f g l q v h at off =
    is-each f 0 l (set (each_from g 0 l) q v) (length-set (each_from g 0 l) q v ∙ length-each g 0 l)
    (λ i k. ⊎_elim (λ b. other i k (λ e. omega arith)) (λ w. ⊎_elim (λ e. same i e) (λ b. other i k (λ e. omega arith)) w) (place i q)
    ∙ ap (λ (n : ℕ). f n (get_or l i 0)) (sym (zero-add i)))
  where
    other : (i : ℕ) → i < length l → (i ≡ q → ⊥) → get_or (set (each_from g 0 l) q v) i 0 ≡ f i (get_or l i 0)
    other i k n =
        get_or-set_other (each_from g 0 l) q i v 0 n
        ∙ get_or-each g 0 l i k
        ∙ ap (λ (m : ℕ). g m (get_or l i 0)) (zero-add i)
        ∙ off i n

    same : (i : ℕ) → i ≡ q → get_or (set (each_from g 0 l) q v) i 0 ≡ f i (get_or l i 0)
    same i e = rw e (get_or-set_same (each_from g 0 l) q v 0 (omega (arith, length-each g 0 l)) ∙ at)

-- what a loop over a list has still to do at n: f at place n and at all after it
unfoldable pub done_from : (ℕ → ℕ → ℕ) → ℕ → List ℕ → List ℕ
done_from f n l = take n l ++ each_from f n (drop n l)

pub from-start : (f : ℕ → ℕ → ℕ) (l : List ℕ) → done_from f 0 l ≡ each_from f 0 l
unfolding done_from
from-start f l = refl

pub from_end : (f : ℕ → ℕ → ℕ) (n : ℕ) (l : List ℕ) → length l ≤ n → done_from f n l ≡ l
unfolding done_from each_from
from_end f n l h = rw (take_all n l h, drop_of_length-le l h) (append-nil l)

-- where f leaves the first n places as they are
pub from-same : (f : ℕ → ℕ → ℕ) (n : ℕ) (l : List ℕ) → n ≤ length l → ((i x : ℕ) → i < n → f i x ≡ x)
    → done_from f n l ≡ each_from f 0 l
unfolding done_from
from-same f n l h e =
    ap₂ (λ (x : List ℕ) (k : ℕ). x ++ each_from f k (drop n l))
    (is-each f 0 (take n l) (take n l) refl (λ i k. sym (e (0 + i) (get_or (take n l) i 0) (omega (arith, length-take-le n l h)))))
    (sym (zero-add (length (take n l)) ∙ length-take-le n l h))
    ∙ sym (each_append f 0 (take n l) (drop n l))
    ∙ ap (each_from f 0) (take-append-drop n l)

-- a part of k elements that is lent at n comes back with f done
pub from-lent : (f : ℕ → ℕ → ℕ) (n k : ℕ) (l ys : List ℕ) → n + k ≤ length l → ys ≡ each_from f n (take k (drop n l))
    → done_from f (n + k) (take n l ++ (ys ++ drop k (drop n l))) ≡ done_from f n l
unfolding done_from
from-lent f n k l ys h e =
    ap (λ (x : List ℕ). take (n + k) x ++ each_from f (n + k) (drop (n + k) x)) (sym (append_assoc (take n l) ys rest))
    ∙ ap₂ (λ (x y : List ℕ). x ++ each_from f (n + k) y) (take_at (take n l ++ ys) rest (n + k) long) (drop_at (take n l ++ ys) rest (n + k) long)
    ∙ append_assoc (take n l) ys (each_from f (n + k) rest)
    ∙ ap (λ (x : List ℕ). take n l ++ x)
    (ap₂ (λ (x : List ℕ) (m : ℕ). x ++ each_from f (n + m) rest) e (sym part)
    ∙ sym (each_append f n (take k (drop n l)) rest)
    ∙ ap (each_from f n) (take-append-drop k (drop n l)))
  where
    rest : List ℕ
    rest = drop k (drop n l)

    part : length (take k (drop n l)) ≡ k
    part = length-take-le k (drop n l) (omega (arith, length-drop n l))

    long : length (take n l ++ ys) ≡ n + k
    long =
        length-append (take n l) ys
        ∙ ap₂ (λ (x y : ℕ). x + y) (length-take-le n l (omega arith)) (ap length e ∙ length-each f n (take k (drop n l)) ∙ part)

-- one store
pub from-store : (f : ℕ → ℕ → ℕ) (n : ℕ) (l : List ℕ) {v : ℕ} → n < length l → v ≡ f n (get_or l n 0)
    → done_from f (n + 1) (set l n v) ≡ done_from f n l
unfolding each_from
from-store f n l {v} h e =
    ap (done_from f (n + 1))
    (set_split l n v h ∙ ap (λ (x : List ℕ). take n l ++ v ∷ x) (ap (λ (k : ℕ). drop k l) (sym (add-one n)) ∙ sym (drop-drop 1 n l)))
    ∙ from-lent f n 1 l (v ∷ []) (omega arith) (rw (drop-cons l n 0 h) (ap (λ (x : ℕ). x ∷ []) e))
