-- A frame whose parts were laid one after the other, body, tag and head, is the standard's: by what each part leaves of the frame.
use mathlib.Core.List.{List, [], ◌++◌, append-nil}
use mathlib.Core.Path.{◌≡◌, sym, ap, ap₂, ◌∙◌}
use Prim.Native.Nat.{ℕ, ◌+◌, ◌-◌, ◌≤◌}
use native.Mathlib.Omega.{arith}
use borrow.Rule.Slice.PartMut.{mid_len, Post-is, post_of, put_mid, same_len_mid}
use lib.ListN.{drop, length, take, drop_of_length-le}
use lib.Seq.{drop-append-le, drop-append_seam, length-take-le, take-append-add, take-append_seam}
use Rattle.standard.specs.Bits.{bytes_of}
use Rattle.standard.specs.Confidentiality.{kept_by_clean}
use Rattle.standard.specs.Frame.{Fields, body_in, frame_of, head_of, masked_body, tag_over}
use Rattle.standard.proofs.Masking.{length-masked}
use Rattle.frame.proofs.Body.{lent-body}
use Rattle.frame.proofs.Passed.{length-body}

module _ (frame : List ℕ) (long : 17 ≤ length frame) where
  abbrev n : ℕ
  n = length frame

  module _ (m : List ℕ) (as_long : length m ≡ n - 4 - 13) where
    abbrev masked : List ℕ
    masked = put_mid 13 (n - 4 - 13) frame m

    before : length (take 13 frame) ≡ 13
    before = length-take-le 13 frame (omega (arith, long))

    masked-length : length masked ≡ n
    masked-length = same_len_mid 13 (n - 4 - 13) frame m (as_long ∙ sym (mid_len 13 (n - 4) frame (omega arith)))

    -- up to the tag: the head as it was, and the masked body
    up-to-tag : take (n - 4) masked ≡ take 13 frame ++ m
    up-to-tag =
        let end : n - 4 ≡ length (take 13 frame) + length m = omega (arith, long, before, as_long) in
        ap (λ (k : ℕ). take k masked) end
        ∙ take-append-add (take 13 frame) (m ++ post_of 13 (n - 4 - 13) frame) (length m)
        ∙ ap (λ (x : List ℕ). take 13 frame ++ x) (take-append_seam m (post_of 13 (n - 4 - 13) frame))

    past_head : (x : List ℕ) → drop 13 (take 13 frame ++ x) ≡ x
    past_head x = ap (λ (k : ℕ). drop k (take 13 frame ++ x)) (sym before) ∙ drop-append_seam (take 13 frame) x

    pub lent-masked : take (n - 4 - 13) (drop 13 masked) ≡ m
    lent-masked =
        ap₂ (λ (k : ℕ) (x : List ℕ). take k x) (sym as_long) (past_head (m ++ post_of 13 (n - 4 - 13) frame)) ∙ take-append_seam m (post_of 13 (n - 4 - 13) frame)

    pub laid : (h t : List ℕ) → h ++ post_of 0 13 (put_mid (n - 4) (n - (n - 4)) masked t) ≡ h ++ (m ++ t)
    laid h t =
        ap (λ (x : List ℕ). h ++ x)
        (ap (λ (x : List ℕ). drop 13 (take (n - 4) masked ++ (t ++ x))) none
        ∙ ap (λ (x : List ℕ). drop 13 (take (n - 4) masked ++ x)) (append-nil t)
        ∙ drop-append-le 13 (take (n - 4) masked) t (omega (arith, long, masked-length, length-take-le (n - 4) masked (omega (arith, masked-length))))
        ∙ ap (λ (x : List ℕ). x ++ t) (ap (drop 13) up-to-tag ∙ past_head m))
      where
        none : post_of (n - 4) (n - (n - 4)) masked ≡ []
        none =
            let end : length masked ≤ n = omega (arith, masked-length) in
            Post-is (n - 4) n masked (omega arith) ∙ drop_of_length-le masked end

  module _ (CK IK : List ℕ) (f : Fields) where
    lent_length : length (masked_body CK f (take (n - 4 - 13) (drop 13 frame))) ≡ n - 4 - 13
    unfolding masked_body
    lent_length = length-masked (kept_by_clean f.L) _ (take (n - 4 - 13) (drop 13 frame)) ∙ mid_len 13 (n - 4) frame (omega arith)

    pub sealed-is : (h m t : List ℕ) → h ≡ head_of f (n - 17) → m ≡ masked_body CK f (take (n - 4 - 13) (drop 13 frame))
        → t ≡ bytes_of (tag_over IK f (take (n - 4 - 13) (drop 13 (put_mid 13 (n - 4 - 13) frame m))))
        → h ++ post_of 0 13 (put_mid (n - 4) (n - (n - 4)) (put_mid 13 (n - 4 - 13) frame m) t) ≡ frame_of CK IK f (body_in frame)
    unfolding frame_of
    sealed-is h m t eh em et =
        let as_long = ap length em ∙ lent_length in
        let masks = em ∙ ap (masked_body CK f) (lent-body frame) in
        laid m as_long h t
        ∙ ap₂ (λ (x y : List ℕ). x ++ y) (eh ∙ ap (head_of f) (sym (length-body frame long)))
        (ap₂ (λ (x y : List ℕ). x ++ y) masks (et ∙ ap (λ (x : List ℕ). bytes_of (tag_over IK f x)) (lent-masked m as_long ∙ masks)))
