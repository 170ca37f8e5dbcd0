-- A well-formed struct holds exactly the packing of what is read from it; packings of good states read back and are well formed;
-- starts, bytes and updates keep states good.
use mathlib.Core.Path.{◌≡◌, refl, sym, ap, ap₂, ◌∙◌, subst}
use mathlib.Core.Bool.{Bool, true, false, ◌&&◌, ◌||◌}
use mathlib.Core.List.{List, [], ◌∷◌, ◌++◌}
use mathlib.Core.Logic.{◌⊎◌, inl, inr, ⊎_elim}
use Prim.Native.Nat.{ℕ, zero, suc, ◌+◌, ◌-◌, ◌*◌, ◌/◌, ◌%◌, ◌^◌, ◌<◌, ◌≤◌}
use native.Mathlib.Omega.{arith}
use native.Mathlib.Nat.{div-eq_of_lt, eq-zero-or-pos}
use lib.Arith.{digits_lt}
use lib.Dec.{eqb, ltb}
use lib.ListN.{drop, length, length-append, length-drop, replicate, take, take-append-drop}
use lib.Seq.{drop_at, length-take-le, take_at}
use lib.Bits.{xor_lt}
use lib.Pow.{split}
use borrow.Author.Tests.{eq-eqb, eqb-true, lt-ltb, ltb-true}
use Rattle.std.specs.List.{list_all}
use Rattle.standard.specs.Bits.{M, bit_of, z}
use Rattle.standard.specs.Generator.{word_at}
use Rattle.standard.specs.States.{Held, Stored, all_zero, formed, held_formed, unused}
use Rattle.standard.specs.Notation.{◌⟨◌⟩}
use Rattle.standard.specs.Integrity.{T, is_width}
use Rattle.standard.proofs.Held.{Ready, held_formed-ready, ready-held_formed, ready_moved}
use Rattle.standard.proofs.Sum.{sum_lt}
use Rattle.standard.proofs.Window.{bit_of-lt, window-lt}
use Rattle.mac_registers.specs.Tagging.{Tagging, absorbed, begun-EIA3, begun-ZUC256, fed, updated}
use Rattle.mac_registers.specs.Stored.{key_of, key_words, packed, tag_of, tag_words, tagging_of}
use Rattle.mac_registers.specs.Inner.{Good, Holds, Width}
use Rattle.mac_registers.proofs.Message.{z-lt}
use Rattle.mac_registers.proofs.Cutting.{absorbed-fills, absorbed-waits}
use Rattle.mac_registers.proofs.Widths.{tag-words-16, words-16, words-8}

and_l : (a b : Bool) → a && b ≡ true → a ≡ true
and_l true b e = refl
and_l false b e = e

and_r : (a b : Bool) → a && b ≡ true → b ≡ true
and_r true b e = e
and_r false b e = let bad : false ≡ true = e in (cc)

pub and_both : {a b : Bool} → a ≡ true → b ≡ true → a && b ≡ true
and_both e f = rw (e, f) refl

-- what the types of the struct's fields say
pub record Typed (s : Stored) : Type 0 where
  pub cells : length s.generator.meaning.cells ≡ 16
  pub keys : length s.key ≡ 4
  pub tags : length s.tag ≡ 2
  pub rems : length s.rem ≡ 16
  pub key-small : (i : ℕ) → s.key ⟨ i ⟩ < 2 ^ 64
  pub tag_small : (i : ℕ) → s.tag ⟨ i ⟩ < 2 ^ 64

pub width-most : {w : ℕ} → Width w → w ≤ 16
width-most h = ⊎_elim (λ e. omega arith) (λ o. ⊎_elim (λ e. omega arith) (λ e. omega arith) o) h

pub width-whole : {w : ℕ} → Width w → (w * 8 % 32 ≡ 0) × (0 < w * 8)
width-whole h = ⊎_elim (λ e. (rw e refl, omega arith)) (λ o. ⊎_elim (λ e. (rw e refl, omega arith)) (λ e. (rw e refl, omega arith)) o) h

or_cases : (a b : Bool) → a || b ≡ true → (a ≡ true) ⊎ (b ≡ true)
or_cases true b e = inl refl
or_cases false b e = inr e

pub width_is : (w : ℕ) → is_width w ≡ true → Width w
width_is w t =
    ⊎_elim
    (λ u. ⊎_elim (λ f. inl (eqb-true w 4 f)) (λ f. inr (inl (eqb-true w 8 f))) (or_cases (eqb w 4) (eqb w 8) u))
    (λ f. inr (inr (eqb-true w 16 f)))
    (or_cases (eqb w 4 || eqb w 8) (eqb w 16) t)

pub is-width : {w : ℕ} → Width w → is_width w ≡ true
is-width h = ⊎_elim (λ e. rw e refl) (λ o. ⊎_elim (λ e. rw e refl) (λ e. rw e refl) o) h

-- zeros: the library's name for the test of each, and the definition's
pub all_zero-is : (l : List ℕ) → list_all (λ x. eqb x 0) l ≡ all_zero l
unfolding all_zero
all_zero-is [] = refl
all_zero-is (x ∷ l) = ap (λ (b : Bool). eqb x 0 && b) (all_zero-is l)

zeros-first : (x : ℕ) (l : List ℕ) → all_zero (x ∷ l) ≡ true → x ≡ 0
unfolding all_zero
zeros-first x l e = eqb-true x 0 (and_l (eqb x 0) (all_zero l) e)

zeros-rest : (x : ℕ) (l : List ℕ) → all_zero (x ∷ l) ≡ true → all_zero l ≡ true
unfolding all_zero
zeros-rest x l e = and_r (eqb x 0) (all_zero l) e

zeros-are : (l : List ℕ) → all_zero l ≡ true → l ≡ replicate (length l) 0
zeros-are [] e = refl
zeros-are (x ∷ l) e = ap₂ (λ (y : ℕ) (r : List ℕ). y ∷ r) (zeros-first x l e) (zeros-are l (zeros-rest x l e))

are-zeros : (n : ℕ) → all_zero (replicate n 0) ≡ true
unfolding all_zero
are-zeros zero = refl
are-zeros (suc n) = are-zeros n

four-words : (k : List ℕ) → length k ≡ 4 → k ≡ k ⟨ 0 ⟩ ∷ k ⟨ 1 ⟩ ∷ k ⟨ 2 ⟩ ∷ k ⟨ 3 ⟩ ∷ []
four-words (a ∷ b ∷ c ∷ d ∷ []) e = refl
four-words [] e = absurd (omega arith)
four-words (a ∷ []) e = absurd (omega arith)
four-words (a ∷ b ∷ []) e = absurd (omega arith)
four-words (a ∷ b ∷ c ∷ []) e = absurd (omega arith)
four-words (a ∷ b ∷ c ∷ d ∷ x ∷ k) e = absurd (omega arith)

two-words : (t : List ℕ) → length t ≡ 2 → t ≡ t ⟨ 0 ⟩ ∷ t ⟨ 1 ⟩ ∷ []
two-words (a ∷ b ∷ []) e = refl
two-words [] e = absurd (omega arith)
two-words (a ∷ []) e = absurd (omega arith)
two-words (a ∷ b ∷ x ∷ t) e = absurd (omega arith)

-- the unused parts of each width
record Unused4 (k t : List ℕ) : Type 0 where
  k1 : k ⟨ 1 ⟩ ≡ 0
  k2 : k ⟨ 2 ⟩ ≡ 0
  k3 : k ⟨ 3 ⟩ ≡ 0
  t0 : t ⟨ 0 ⟩ / 2 ^ 32 ≡ 0
  t1 : t ⟨ 1 ⟩ ≡ 0

unused-4 : (k t : List ℕ) → all_zero (unused 4 k t) ≡ true → Unused4 k t
unfolding unused
unused-4 k t e =
    record {
      k1 = zeros-first (k ⟨ 1 ⟩) (k ⟨ 2 ⟩ ∷ k ⟨ 3 ⟩ ∷ t ⟨ 0 ⟩ / 2 ^ 32 ∷ t ⟨ 1 ⟩ ∷ []) e;
      k2 = zeros-first (k ⟨ 2 ⟩) (k ⟨ 3 ⟩ ∷ t ⟨ 0 ⟩ / 2 ^ 32 ∷ t ⟨ 1 ⟩ ∷ []) r1;
      k3 = zeros-first (k ⟨ 3 ⟩) (t ⟨ 0 ⟩ / 2 ^ 32 ∷ t ⟨ 1 ⟩ ∷ []) r2;
      t0 = zeros-first (t ⟨ 0 ⟩ / 2 ^ 32) (t ⟨ 1 ⟩ ∷ []) r3;
      t1 = zeros-first (t ⟨ 1 ⟩) [] (zeros-rest (t ⟨ 0 ⟩ / 2 ^ 32) (t ⟨ 1 ⟩ ∷ []) r3);
    }
  where
    r1 : all_zero (k ⟨ 2 ⟩ ∷ k ⟨ 3 ⟩ ∷ t ⟨ 0 ⟩ / 2 ^ 32 ∷ t ⟨ 1 ⟩ ∷ []) ≡ true
    r1 = zeros-rest (k ⟨ 1 ⟩) (k ⟨ 2 ⟩ ∷ k ⟨ 3 ⟩ ∷ t ⟨ 0 ⟩ / 2 ^ 32 ∷ t ⟨ 1 ⟩ ∷ []) e

    r2 : all_zero (k ⟨ 3 ⟩ ∷ t ⟨ 0 ⟩ / 2 ^ 32 ∷ t ⟨ 1 ⟩ ∷ []) ≡ true
    r2 = zeros-rest (k ⟨ 2 ⟩) (k ⟨ 3 ⟩ ∷ t ⟨ 0 ⟩ / 2 ^ 32 ∷ t ⟨ 1 ⟩ ∷ []) r1

    r3 : all_zero (t ⟨ 0 ⟩ / 2 ^ 32 ∷ t ⟨ 1 ⟩ ∷ []) ≡ true
    r3 = zeros-rest (k ⟨ 3 ⟩) (t ⟨ 0 ⟩ / 2 ^ 32 ∷ t ⟨ 1 ⟩ ∷ []) r2

record Unused8 (k t : List ℕ) : Type 0 where
  k2 : k ⟨ 2 ⟩ ≡ 0
  k3 : k ⟨ 3 ⟩ ≡ 0
  t1 : t ⟨ 1 ⟩ ≡ 0

unused-8 : (k t : List ℕ) → all_zero (unused 8 k t) ≡ true → Unused8 k t
unfolding unused
unused-8 k t e =
    record {
      k2 = zeros-first (k ⟨ 2 ⟩) (k ⟨ 3 ⟩ ∷ t ⟨ 1 ⟩ ∷ []) e;
      k3 = zeros-first (k ⟨ 3 ⟩) (t ⟨ 1 ⟩ ∷ []) r;
      t1 = zeros-first (t ⟨ 1 ⟩) [] (zeros-rest (k ⟨ 3 ⟩) (t ⟨ 1 ⟩ ∷ []) r);
    }
  where
    r : all_zero (k ⟨ 3 ⟩ ∷ t ⟨ 1 ⟩ ∷ []) ≡ true
    r = zeros-rest (k ⟨ 2 ⟩) (k ⟨ 3 ⟩ ∷ t ⟨ 1 ⟩ ∷ []) e

-- the words of a width, its unused parts zero, are those of the numbers in them
module _ (w : ℕ) (k t : List ℕ) (keys : length k ≡ 4) (tags : length t ≡ 2) (k-small : (i : ℕ) → k ⟨ i ⟩ < 2 ^ 64)
    (t-small : (i : ℕ) → t ⟨ i ⟩ < 2 ^ 64) where
  abbrev Words : Type 0
  Words = (key_words w (key_of w k) ≡ k) × (tag_words w (tag_of w t) ≡ t) × (tag_of w t < 2 ^ (w * 8))

  words-4 : w ≡ 4 → all_zero (unused w k t) ≡ true → Words
  unfolding key_words key_of tag_words tag_of
  words-4 e h =
      rw e
      (sym (four-words k keys ∙ rw (u.k1, u.k2, u.k3) refl), sym (two-words t tags ∙ rw u.t1 refl), omega (arith, u.t0))
    where
      u : Unused4 k t
      u = unused-4 k t (rw e at h)

  words-of-8 : w ≡ 8 → all_zero (unused w k t) ≡ true → Words
  unfolding key_of tag_words tag_of
  words-of-8 e h =
      rw e
      (words-8 (k ⟨ 0 ⟩) (k ⟨ 1 ⟩) (k-small 1) ∙ sym (four-words k keys ∙ rw (u.k2, u.k3) refl), sym (two-words t tags ∙ rw u.t1 refl), t-small 0)
    where
      u : Unused8 k t
      u = unused-8 k t (rw e at h)

  words-of-16 : w ≡ 16 → Words
  unfolding key_of tag_of
  words-of-16 e =
      rw e (
        words-16 (k ⟨ 0 ⟩) (k ⟨ 1 ⟩) (k ⟨ 2 ⟩) (k ⟨ 3 ⟩) (k-small 1) (k-small 2) (k-small 3) ∙ sym (four-words k keys),
        tag-words-16 (t ⟨ 0 ⟩) (t ⟨ 1 ⟩) (t-small 1) ∙ sym (two-words t tags),
        digits_lt (t-small 0) (t-small 1),
      )

  words_of : Width w → all_zero (unused w k t) ≡ true → Words
  words_of h u = ⊎_elim (λ e. words-4 e u) (λ o. ⊎_elim (λ e. words-of-8 e u) words-of-16 o) h

-- what `formed` says
module _ (s : Stored) (typed : Typed s) (ok : formed s ≡ true) where
  pub record Facts : Type 0 where
    pub sound : Ready s.generator
    pub width : Width s.width
    pub short : s.cnt < s.width
    pub rest : drop s.cnt s.rem ≡ replicate (16 - s.cnt) 0
    pub unused-zero : all_zero (unused s.width s.key s.tag) ≡ true

  facts : Facts
  unfolding formed
  facts =
      record {
        sound = held_formed-ready s.generator typed.cells (and_l a b (and_l (a && b) c (and_l (a && b && c) d (and_l (a && b && c && d) e ok))));
        width = width_is s.width (and_r a b (and_l (a && b) c (and_l (a && b && c) d (and_l (a && b && c && d) e ok))));
        unused-zero = and_r (a && b) c (and_l (a && b && c) d (and_l (a && b && c && d) e ok));
        short = ltb-true s.cnt s.width (and_r (a && b && c) d (and_l (a && b && c && d) e ok));
        rest =
            zeros-are (drop s.cnt s.rem) (and_r (a && b && c && d) e ok)
            ∙ ap (λ (n : ℕ). replicate n 0) (length-drop s.cnt s.rem ∙ ap (λ (n : ℕ). n - s.cnt) typed.rems);
      }
    where
      a : Bool
      a = held_formed s.generator

      b : Bool
      b = is_width s.width

      c : Bool
      c = all_zero (unused s.width s.key s.tag)

      d : Bool
      d = ltb s.cnt s.width

      e : Bool
      e = all_zero (drop s.cnt s.rem)

  waiting-length : length (take s.cnt s.rem) ≡ s.cnt
  waiting-length = length-take-le s.cnt s.rem (omega (arith, facts.short, width-most facts.width, typed.rems))

  held : Words s.width s.key s.tag typed.keys typed.tags typed.key-small typed.tag_small
  held = words_of s.width s.key s.tag typed.keys typed.tags typed.key-small typed.tag_small facts.width facts.unused-zero

  -- a well-formed struct is the packing of what it holds, which is good
  packs-back : packed s.width (tagging_of s) ≡ s
  unfolding packed tagging_of
  packs-back =
      λ i. record {
        generator = s.generator;
        key = held.0 i;
        tag = held.1 i;
        rem =
            (ap (λ (n : ℕ). take s.cnt s.rem ++ replicate (16 - n) 0) waiting-length
            ∙ ap (λ (l : List ℕ). take s.cnt s.rem ++ l) (sym facts.rest)
            ∙ take-append-drop s.cnt s.rem) i;
        cnt = waiting-length i;
        width = s.width;
      }

  is-good : Good s.width (tagging_of s)
  unfolding tagging_of
  is-good =
      record {
        a-width = facts.width;
        sound = facts.sound;
        tag-lt = held.2;
        short = omega (arith, waiting-length, facts.short);
      }

  pub formed-held : Holds s
  formed-held = record { good = is-good; packs = packs-back }

-- a packing reads back
pub key_back : {w : ℕ} → Width w → (k : ℕ) → key_of w (key_words w k) ≡ k
unfolding key_of key_words
key_back h k =
    ⊎_elim (λ e. rw e refl)
    (λ o. ⊎_elim (λ e. rw e (split k 64))
    (λ e. rw e (ap₂ (λ (x y : ℕ). x * 2 ^ 128 + y) (split (k / 2 ^ 128) 64) (split (k % 2 ^ 128) 64) ∙ split k 128)) o) h

pub tag_back : {w : ℕ} → Width w → (t : ℕ) → tag_of w (tag_words w t) ≡ t
unfolding tag_of tag_words
tag_back h t = ⊎_elim (λ e. rw e refl) (λ o. ⊎_elim (λ e. rw e refl) (λ e. rw e (split t 64)) o) h

pub read_back : {w : ℕ} → Width w → (st : Tagging) → tagging_of (packed w st) ≡ st
unfolding tagging_of packed
read_back v st =
    λ i. record {
      generator = st.generator;
      key = key_back v st.key i;
      tag = tag_back v st.tag i;
      waiting = take_at st.waiting (replicate (16 - length st.waiting) 0) (length st.waiting) refl i;
    }

module _ {w : ℕ} {st : Tagging} (g : Good w st) where
  pub reads : tagging_of (packed w st) ≡ st
  reads = read_back g.a-width st

  unused-packed : all_zero (unused w (key_words w st.key) (tag_words w st.tag)) ≡ true
  unfolding unused key_words tag_words all_zero
  unused-packed =
      ⊎_elim (λ e. rw e (rw (eq-eqb (st.tag / 2 ^ 32) 0 (small e)) refl)) (λ o. ⊎_elim (λ e. rw e refl) (λ e. rw e refl) o) g.a-width
    where
      small : w ≡ 4 → st.tag / 2 ^ 32 ≡ 0
      small e = div-eq_of_lt (subst (λ (n : ℕ). st.tag < 2 ^ (n * 8)) e g.tag-lt)

  -- and is well formed
  pub well-formed : formed (packed w st) ≡ true
  unfolding formed packed
  well-formed =
      and_both
      (and_both (and_both (and_both (ready-held_formed g.sound) (is-width g.a-width)) unused-packed) (lt-ltb (length st.waiting) w g.short))
      (ap all_zero (drop_at st.waiting (replicate (16 - length st.waiting) 0) (length st.waiting) refl) ∙ are-zeros (16 - length st.waiting))

  pub holds : Holds (packed w st)
  unfolding packed
  holds = record { good = subst (Good w) (sym reads) g; packs = ap (packed w) reads }

-- what is said of a struct's own reading, said of the state that it packs
pub at_packed : {A : Type 0} (F : ℕ → Tagging → A) {w : ℕ} {st : Tagging} {s : Stored} → s ≡ packed w st → Good w st → F s.width (tagging_of s) ≡ F w st
unfolding packed
at_packed F {w} {st} e g = ap (λ (x : Stored). F x.width (tagging_of x)) e ∙ ap (F w) (reads g)

pub held-as : {w : ℕ} {st : Tagging} {s : Stored} → s ≡ packed w st → Good w st → Holds s
held-as e g = subst Holds (sym e) (holds g)

-- starts, bytes and updates keep states good
pub good-EIA3 : (h : Held) → Ready h → Good 4 (begun-EIA3 h)
unfolding begun-EIA3
good-EIA3 h r = record { a-width = inl refl; sound = ready_moved 2 h r; tag-lt = omega arith; short = omega arith }

pub good-ZUC256 : {w : ℕ} → Width w → (h : Held) → Ready h → Good w (begun-ZUC256 (w * 8) h)
unfolding begun-ZUC256
good-ZUC256 {w} v h r =
    record {
      a-width = v;
      sound = ready_moved (3 * (w * 8 / 32)) h r;
      tag-lt = window-lt (z (word_at h.meaning)) (z-lt (word_at h.meaning)) 0 (w * 8);
      short = omega (arith, (width-whole v).1);
    }

pub good-fed : {w : ℕ} {st : Tagging} → Good w st → (block : List ℕ) → Good w (fed (w * 8) st block)
unfolding fed
good-fed {w} {st} g block =
    record {
      a-width = g.a-width;
      sound = ready_moved (w * 8 / 32) st.generator g.sound;
      tag-lt =
          xor_lt (w * 8) st.tag (T (w * 8) (bit_of (w * 8 + w * 8) st.key) 0 (M block) (w * 8)) g.tag-lt
          (sum_lt (w * 8) (bit_of (w * 8 + w * 8) st.key) (bit_of-lt (w * 8 + w * 8) st.key) 0 (M block) (w * 8));
      short = omega (arith, (width-whole g.a-width).1);
    }

pub good-absorbed : {w : ℕ} {st : Tagging} → Good w st → (b : ℕ) → Good w (absorbed (w * 8) st b)
good-absorbed {w} {st} g b =
    ⊎_elim
    (λ e. rw (absorbed-fills (w * 8) st b (omega arith)) (good-fed g (st.waiting ++ (b ∷ []))))
    (λ p. rw (absorbed-waits (w * 8) st b (omega arith))
    (record { a-width = g.a-width; sound = g.sound; tag-lt = g.tag-lt; short = omega (arith, length-append st.waiting (b ∷ [])) }))
    (eq-zero-or-pos (w * 8 - suc (length st.waiting) * 8))

pub good-updated : {w : ℕ} (m : List ℕ) {st : Tagging} → Good w st → Good w (updated (w * 8) st m)
unfolding updated
good-updated [] g = g
good-updated (b ∷ m) g = good-updated m (good-absorbed g b)
