-- A frame by its parts: 13 bytes, a body, and four bytes. Where each stands, and that a frame of bytes with the right version and length field is
-- the standard's head of its fields, its body and its tag's bytes. By the laws of lists, and by entries.
use mathlib.Core.List.{List, [], ◌∷◌, ◌++◌}
use mathlib.Core.Path.{◌≡◌, refl, sym, ap, ap₂, ◌∙◌}
use Prim.Native.Nat.{ℕ, ◌+◌, ◌-◌, ◌<◌, ◌≤◌, ◌^◌}
use native.Mathlib.Nat.{add-zero}
use native.Mathlib.Omega.{arith}
use lib.Bits.{xor_lt}
use lib.ListN.{drop, length, length-append, length-drop, take, take-append-drop}
use lib.Seq.{drop_at, get_or-append-add, get_or-drop, get_or-take, length-take-le, take_at}
use Rattle.standard.specs.Bits.{byte_of, bytes_of, z}
use Rattle.standard.specs.Frame.{Fields, body_in, fields_in, four_at, frame_of, head_of, masked_body, tag_in, tag_over, two_at}
use Rattle.standard.specs.Integrity.{tag-EIA3}
use Rattle.standard.specs.Notation.{◌⟨◌⟩, ◌‖₈◌, listed}
use Rattle.standard.proofs.Listed.{is-listed}
use Rattle.standard.proofs.Sum.{sum_lt}
use Rattle.standard.proofs.Window.{bit_at_lt, window-lt}
use Rattle.zuc_loading.proofs.Loaded.{Bytes}
use Rattle.frame_laws.proofs.Fits.{masked-length}
use Rattle.frame_laws.proofs.Joined.{bytes-of-four, bytes-of-two, four-joined, two-joined}

-- ANY FRAME: what stands before the body, and after it
abbrev pub head_in : List ℕ → List ℕ
head_in frame = take 13 frame

abbrev pub tail_in : List ℕ → List ℕ
tail_in frame = drop (length frame - 17) (drop 13 frame)

module _ (head body tail : List ℕ) (before : length head ≡ 13) (after : length tail ≡ 4) where
  abbrev whole : List ℕ
  whole = head ++ (body ++ tail)

  pub whole_length : length whole ≡ length body + 17
  whole_length = omega (arith, length-append head (body ++ tail), length-append body tail)

  pub body-there : body_in whole ≡ body
  body-there =
      ap (take (length whole - 17)) (drop_at head (body ++ tail) 13 before) ∙ take_at body tail (length whole - 17) (omega (arith, whole_length))

  tail_at : (k i : ℕ) → k ≡ length whole - 4 + i → whole ⟨ k ⟩ ≡ tail ⟨ i ⟩
  tail_at k i e =
      let place : k ≡ length head + (length body + i) = omega (arith, whole_length) in
      ap (λ (n : ℕ). whole ⟨ n ⟩) place ∙ get_or-append-add head (body ++ tail) (length body + i) 0 ∙ get_or-append-add body tail i 0

  tag-there : tag_in whole ≡ four_at tail 0
  tag-there =
      let at = length whole - 4 in
      let a = tail_at at 0 (omega arith) in
      let b = tail_at (at + 1) 1 refl in
      let c = tail_at (at + 2) 2 refl in
      let d = tail_at (at + 3) 3 refl in
      λ i. a i ‖₈ b i ‖₈ c i ‖₈ d i

module _ (frame : List ℕ) (least : 17 ≤ length frame) where
  pub head-length : length (head_in frame) ≡ 13
  head-length = length-take-le 13 frame (omega arith)

  pub tail-length : length (tail_in frame) ≡ 4
  tail-length = omega (arith, length-drop (length frame - 17) (drop 13 frame), length-drop 13 frame)

  pub body-length : length (body_in frame) ≡ length frame - 17
  body-length = length-take-le (length frame - 17) (drop 13 frame) (omega (arith, length-drop 13 frame))

  parts : head_in frame ++ (body_in frame ++ tail_in frame) ≡ frame
  parts = ap (λ (l : List ℕ). head_in frame ++ l) (take-append-drop (length frame - 17) (drop 13 frame)) ∙ take-append-drop 13 frame

-- A FRAME OF BYTES is built of its fields, its body and its tag
module _ (frame : List ℕ) (least : 17 ≤ length frame) (small : Bytes frame) where
  four_bytes : (i : ℕ) → frame ⟨ i ⟩ ∷ frame ⟨ i + 1 ⟩ ∷ frame ⟨ i + 2 ⟩ ∷ frame ⟨ i + 3 ⟩ ∷ [] ≡ bytes_of (four_at frame i)
  four_bytes i = bytes-of-four (frame ⟨ i ⟩) (frame ⟨ i + 1 ⟩) (frame ⟨ i + 2 ⟩) (frame ⟨ i + 3 ⟩) (small i) (small (i + 1)) (small (i + 2)) (small (i + 3))

  head-is : frame ⟨ 0 ⟩ ≡ 1 → two_at frame 1 ≡ length frame - 3 → head_in frame ≡ head_of (fields_in frame) (length frame - 17)
  unfolding head_of listed
  head-is version field =
      let two = bytes-of-two (frame ⟨ 1 ⟩) (frame ⟨ 2 ⟩) (small 1) (small 2) in
      let n : two_at frame 1 ≡ length frame - 17 + 14 = omega arith in
      let high : frame ⟨ 1 ⟩ ≡ byte_of (length frame - 17 + 14) 2 = two.0 ∙ ap (λ (x : ℕ). byte_of x 2) n in
      let low : frame ⟨ 2 ⟩ ≡ byte_of (length frame - 17 + 14) 3 = two.1 ∙ ap (λ (x : ℕ). byte_of x 3) n in
      let count = four_bytes 3 in
      let bits = four_bytes 9 in
      is-listed (λ i. frame ⟨ i ⟩) (head_in frame) 13 (head-length frame least) (λ k h. get_or-take 13 frame k 0 h)
      ∙ (λ i. version i ∷ high i ∷ low i ∷ [] ++ count i ++ (frame ⟨ 7 ⟩ ∷ frame ⟨ 8 ⟩ ∷ []) ++ bits i)

  tail-is : tail_in frame ≡ bytes_of (tag_in frame)
  unfolding listed
  tail-is =
      is-listed (λ i. frame ⟨ length frame - 4 + i ⟩) (tail_in frame) 4 (tail-length frame least)
      (λ k h. get_or-drop (length frame - 17) (drop 13 frame) k 0 ∙ get_or-drop 13 frame (length frame - 17 + k) 0 ∙ ap (λ (n : ℕ). frame ⟨ n ⟩) (omega arith))
      ∙ (λ i. frame ⟨ add-zero (length frame - 4) i ⟩ ∷ frame ⟨ length frame - 4 + 1 ⟩ ∷ frame ⟨ length frame - 4 + 2 ⟩ ∷ frame ⟨ length frame - 4 + 3 ⟩ ∷ [])
      ∙ four_bytes (length frame - 4)

  pub frame_is : frame ⟨ 0 ⟩ ≡ 1 → two_at frame 1 ≡ length frame - 3
      → frame ≡ head_of (fields_in frame) (length frame - 17) ++ (body_in frame ++ bytes_of (tag_in frame))
  frame_is version field =
      sym (parts frame least) ∙ ap₂ (λ (h t : List ℕ). h ++ (body_in frame ++ t)) (head-is version field) tail-is

-- THE STANDARD'S FRAME: its length, and what stands in it
tag-lt : (IK : List ℕ) (f : Fields) (masked : List ℕ) → tag_over IK f masked < 2 ^ 32
unfolding tag_over tag-EIA3 z
tag-lt IK f masked =
    xor_lt 32 _ _ (xor_lt 32 _ _ (sum_lt 32 _ (bit_at_lt 32 _) 0 _ f.L) (window-lt _ (bit_at_lt 32 _) f.L 32)) (window-lt _ (bit_at_lt 32 _) _ 32)

module _ (CK IK : List ℕ) (f : Fields) (body : List ℕ) where
  abbrev head : List ℕ
  head = head_of f (length body)

  abbrev tag : ℕ
  tag = tag_over IK f (masked_body CK f body)

  head_of-length : length head ≡ 13
  unfolding head_of
  head_of-length = refl

  pub frame_of-length : length (frame_of CK IK f body) ≡ length body + 17
  unfolding frame_of
  frame_of-length = whole_length head (masked_body CK f body) (bytes_of tag) head_of-length refl ∙ ap (λ (n : ℕ). n + 17) (masked-length CK f body)

  pub frame_of-body : body_in (frame_of CK IK f body) ≡ masked_body CK f body
  unfolding frame_of
  frame_of-body = body-there head (masked_body CK f body) (bytes_of tag) head_of-length refl

  pub frame_of-tag : tag_in (frame_of CK IK f body) ≡ tag
  unfolding frame_of
  frame_of-tag = tag-there head (masked_body CK f body) (bytes_of tag) head_of-length refl ∙ four-joined tag (tag-lt IK f (masked_body CK f body))

  pub frame_of-version : frame_of CK IK f body ⟨ 0 ⟩ ≡ 1
  unfolding frame_of head_of
  frame_of-version = refl

  pub frame_of-two : length body ≤ 65521 → two_at (frame_of CK IK f body) 1 ≡ length body + 14
  unfolding frame_of head_of
  frame_of-two most = two-joined (length body + 14) (omega arith)

  pub frame_of-fields : f.COUNT < 2 ^ 32 → f.L < 2 ^ 32 → fields_in (frame_of CK IK f body) ≡ f
  unfolding frame_of head_of
  frame_of-fields c l =
      let count = four-joined f.COUNT c in
      let bits = four-joined f.L l in
      λ i. record { COUNT = count i; bearer = f.bearer; direction = f.direction; L = bits i }
