-- Laws for double masking (request 2026-10), over what accepted clean masks tell: any number of hops, in any order, is one clean mask by the
-- exclusive or of all keystreams, and pairs cancel. Each by the law of two masks (`mask-both`), and by when a mask is accepted.
use mathlib.Core.List.{List, [], ◌∷◌}
use mathlib.Core.Logic.{◌↔◌}
use mathlib.Core.Path.{◌≡◌, refl, sym, ap, ◌∙◌, subst}
use Prim.Native.Nat.{ℕ, ◌*◌, ◌≤◌}
use lib.Bits.{xor_comm, xor_zero_r}
use lib.ListN.{length}
use Rattle.standard.specs.Bits.{byte_of}
use Rattle.standard.specs.Confidentiality.{cleared_past, keep_high, kept_by_clean, kept_by_crate, mask_clean, mask_crate, masked, masked_buffer}
use Rattle.standard.specs.Generator.{word_at}
use Rattle.standard.specs.Notation.{◌⊕◌, ceil, each_from}
use Rattle.standard.specs.Refusals.{accepted}
use Rattle.standard.specs.States.{Counted, Held}
use Rattle.standard.proofs.Masking.{length-masked, twice-clean}
use Rattle.standard.proofs.Twice.{mask-both, mask-zero}
use Rattle.standard.proofs.Xor.{xor_assoc, xor-left-comm, xor-twice}
use Rattle.mask.specs.Outcome.{Outcome, clean_outcome}
use Rattle.mask_laws.specs.Hops.{Hops, Paired, Reordered, Serve, hop, keep, no_more, none, pair, same, streams, swap, then}
use Rattle.mask_laws.proofs.Accepted.{told_is}
use Rattle.mask_laws.proofs.Blocks.{clean-exactly}

abbrev words : Counted Held → ℕ → ℕ
words g = word_at g.held.meaning

-- what an accepted call leaves
left : (g : Counted Held) (L : ℕ) (buffer : List ℕ) (o : Outcome) → o ≡ clean_outcome g L buffer → o.number ≡ accepted
    → o.buffer ≡ mask_clean (words g) L buffer
left g L buffer o told ok = ap (λ (x : Outcome). x.buffer) (told_is g (ceil L 32) L buffer (mask_clean (words g) L buffer) o told ok)

-- TWO CALLS on one buffer at one bit length, the second on what the first left
module _ (g k : Counted Held) (L : ℕ) (buffer : List ℕ) (one two : Outcome)
    (first : one ≡ clean_outcome g L buffer) (ok : one.number ≡ accepted)
    (second : two ≡ clean_outcome k L one.buffer) (ok' : two.number ≡ accepted) where
  -- both together are one clean mask with the exclusive or of the two keystreams
  pub two-states : two.buffer ≡ mask_clean (λ n. words g n ⊕ words k n) L buffer
  two-states =
      left k L one.buffer two second ok' ∙ ap (mask_clean (words k) L) (left g L buffer one first ok) ∙ mask-both (kept_by_clean L) (words g) buffer (words k)

-- in either order they give the same buffer
module _ (g k : Counted Held) (L : ℕ) (buffer : List ℕ) (one two one' two' : Outcome)
    (first : one ≡ clean_outcome g L buffer) (ok : one.number ≡ accepted)
    (second : two ≡ clean_outcome k L one.buffer) (ok' : two.number ≡ accepted)
    (other : one' ≡ clean_outcome k L buffer) (fine : one'.number ≡ accepted)
    (last : two' ≡ clean_outcome g L one'.buffer) (fine' : two'.number ≡ accepted) where
  pub either_order : two.buffer ≡ two'.buffer
  either_order =
      two-states g k L buffer one two first ok second ok'
      ∙ ap (λ (v : ℕ → ℕ). mask_clean v L buffer) (λ i n. xor_comm (words g n) (words k n) i)
      ∙ sym (two-states k g L buffer one' two' other fine last fine')

-- from one state twice: the buffer with every bit past the length cleared, and both times the state is moved alike
module _ (g : Counted Held) (L : ℕ) (buffer : List ℕ) (one two : Outcome)
    (first : one ≡ clean_outcome g L buffer) (ok : one.number ≡ accepted)
    (second : two ≡ clean_outcome g L one.buffer) (ok' : two.number ≡ accepted) where
  pub same-state-twice : (two.buffer ≡ cleared_past L buffer) × (two.state ≡ one.state)
  same-state-twice = (
    left g L one.buffer two second ok' ∙ ap (mask_clean (words g) L) (left g L buffer one first ok) ∙ twice-clean (words g) L buffer,
    ap (λ (x : Outcome). x.state) (told_is g (ceil L 32) L one.buffer (mask_clean (words g) L one.buffer) two second ok')
        ∙ sym (ap (λ (x : Outcome). x.state) (told_is g (ceil L 32) L buffer (mask_clean (words g) L buffer) one first ok)),
  )

-- ANY NUMBER OF HOPS: one clean mask by the exclusive or of all keystreams
hops-from : {L : ℕ} {rest : List (Counted Held)} {buffer after : List ℕ} (w : ℕ → ℕ) (plain : List ℕ) → buffer ≡ mask_clean w L plain → Hops L rest buffer after
    → after ≡ mask_clean (λ n. w n ⊕ streams rest n) L plain
unfolding streams
hops-from {L} w plain e none = e ∙ ap (λ (v : ℕ → ℕ). mask_clean v L plain) (λ i n. sym (xor_zero_r (w n)) i)
hops-from {L} w plain e (hop {g = g} {rest = rest} {buffer = buffer} o told ok more) =
    hops-from (λ n. w n ⊕ words g n) plain
    (left g L buffer o told ok ∙ ap (mask_clean (words g) L) e ∙ mask-both (kept_by_clean L) w plain (words g)) more
    ∙ ap (λ (v : ℕ → ℕ). mask_clean v L plain) (λ i n. xor_assoc (w n) (words g n) (streams rest n) i)

pub hops-are : {L : ℕ} {g : Counted Held} {rest : List (Counted Held)} {buffer after : List ℕ} → Hops L (g ∷ rest) buffer after
    → after ≡ mask_clean (streams (g ∷ rest)) L buffer
unfolding streams
hops-are {L} {g} {buffer = buffer} (hop o told ok more) = hops-from (words g) buffer (left g L buffer o told ok) more

-- in any order
streams-reordered : {a b : List (Counted Held)} → Reordered a b → (n : ℕ) → streams a n ≡ streams b n
unfolding streams
streams-reordered same n = refl
streams-reordered (swap {g} {h} {a}) n = xor-left-comm (words g n) (words h n) (streams a n)
streams-reordered (keep {g} r) n = ap (λ (x : ℕ). words g n ⊕ x) (streams-reordered r n)
streams-reordered (then r s) n = streams-reordered r n ∙ streams-reordered s n

pub hops-any-order : {L : ℕ} {g h : Counted Held} {rest rest' : List (Counted Held)} {buffer after after' : List ℕ} → Reordered (g ∷ rest) (h ∷ rest')
    → Hops L (g ∷ rest) buffer after → Hops L (h ∷ rest') buffer after' → after ≡ after'
hops-any-order {L} {buffer = buffer} r a b =
    hops-are a ∙ ap (λ (v : ℕ → ℕ). mask_clean v L buffer) (λ i n. streams-reordered r n i) ∙ sym (hops-are b)

-- two hops from one state, and others: as if the two were not
pub pair-cancels : {L : ℕ} {g h : Counted Held} {rest : List (Counted Held)} {buffer after after' : List ℕ} → Hops L (g ∷ g ∷ h ∷ rest) buffer after
    → Hops L (h ∷ rest) buffer after' → after ≡ after'
unfolding streams
pair-cancels {L} {g} {h} {rest} {buffer} a b =
    hops-are a ∙ ap (λ (v : ℕ → ℕ). mask_clean v L buffer) (λ i n. xor-twice (words g n) (streams (h ∷ rest) n) i) ∙ sym (hops-are b)

-- where all come in pairs, in any order, the block is as it was, with every bit past the length cleared
streams-paired : {a : List (Counted Held)} → Paired a → (n : ℕ) → streams a n ≡ 0
unfolding streams
streams-paired no_more n = refl
streams-paired (pair {g} {rest} p) n = xor-twice (words g n) (streams rest n) ∙ streams-paired p n

pub pairs-cancel : {L : ℕ} {g : Counted Held} {rest paired : List (Counted Held)} {buffer after : List ℕ} → Reordered (g ∷ rest) paired → Paired paired
    → Hops L (g ∷ rest) buffer after → after ≡ cleared_past L buffer
pairs-cancel {L} {g} {rest} {buffer = buffer} r p a =
    hops-are a ∙ mask-zero (kept_by_clean L) (streams (g ∷ rest)) buffer (λ n. streams-reordered r n ∙ streams-paired p n)

-- WHEN THEY ARE ACCEPTED: at a bit length that fits, exactly if every state is well formed and has words enough
module _ (L : ℕ) where
  serve : {hops : List (Counted Held)} {buffer after : List ℕ} → Hops L hops buffer after → Serve L hops
  serve none = tt
  serve (hop {g = g} {buffer = buffer} o told ok more) =
      let p = (clean-exactly g L buffer).0 (ap (λ (x : Outcome). x.number) (sym told) ∙ ok) in ((p.0, p.2), serve more)

  hops : (states : List (Counted Held)) (buffer : List ℕ) → L ≤ length buffer * 8 → Serve L states → (after : List ℕ) × Hops L states buffer after
  hops [] buffer fits all = (buffer, none)
  hops (g ∷ rest) buffer fits all =
      let o : Outcome = clean_outcome g L buffer in
      let ok : o.number ≡ accepted = (clean-exactly g L buffer).1 (all.0.0, fits, all.0.1) in
      let long : length buffer ≡ length o.buffer = sym (ap length (left g L buffer o refl ok) ∙ length-masked (kept_by_clean L) (words g) buffer) in
      let then = hops rest o.buffer (subst (λ (n : ℕ). L ≤ n * 8) long fits) all.1 in
      (then.0, hop o refl ok then.1)

  pub hops-accepted : (states : List (Counted Held)) (buffer : List ℕ) → L ≤ length buffer * 8 → ((after : List ℕ) × Hops L states buffer after) ↔ Serve L states
  hops-accepted states buffer fits = ((λ h. serve h.1), hops states buffer fits)

-- Crate mode has the law of two states (`mask-both` is over what a mode keeps), but not the first one: at two hops the stray byte comes back
-- plain, where clean mode has a zero
pub stray-at-two-hops : (mask_crate (λ n. 0x11223344) 8 (mask_crate (λ n. 0x11223344) 8 (0x5A ∷ 0xC3 ∷ [])) ≡ 0x5A ∷ 0xC3 ∷ [])
    × (cleared_past 8 (0x5A ∷ 0xC3 ∷ []) ≡ 0x5A ∷ 0 ∷ [])
unfolding masked_buffer each_from masked keep_high kept_by_crate kept_by_clean byte_of
stray-at-two-hops = (refl, refl)
