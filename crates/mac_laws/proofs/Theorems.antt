-- Document 01, "Tags", and demand 3, as theorems about the calls, however a message was cut into updates: the standard's tag of the
-- joined message; two tags differ by the keystream windows where the messages differ; three xor to the tag of the messages' xor.
use mathlib.Core.List.{List}
use mathlib.Core.Logic.{inl}
use mathlib.Core.Path.{◌≡◌, refl, sym, ap, ap₂, ◌∙◌}
use Prim.Native.Nat.{ℕ, ◌+◌, ◌*◌, ◌<◌, ◌≤◌}
use lib.Bits.{bit_xor}
use lib.ListN.{length}
use Rattle.standard.specs.Notation.{◌⊕◌, joined}
use Rattle.standard.specs.Bits.{M, differs, z}
use Rattle.standard.specs.Generator.{State, keystream, started, word_at}
use Rattle.standard.specs.Integrity.{IV-EIA3, T, tag-EIA3, tag-ZUC256}
use Rattle.standard.specs.Loading.{load₁₂₈, load₂₅₆, row_of}
use Rattle.standard.proofs.Linear.{EIA3-three, EIA3-two, M-xor₃, ZUC256-three, ZUC256-two, xor_bytes}
use Rattle.mac_registers.specs.Stored.{packed, tag_of, tag_words, tagging_of}
use Rattle.mac_registers.specs.Inner.{Width}
use Rattle.standard.specs.States.{Counted, Stored, formed, formed-128, from_zero, limit, tag_formed}
use Rattle.mac_registers.specs.Tagging.{begun-EIA3, begun-ZUC256, closed-EIA3, closed-ZUC256, updated}
use Rattle.mac_registers.proofs.Packed.{tag_back, width-whole}
use Rattle.mac_tagging.proofs.Rule.{rule-EIA3, rule-ZUC256}
use Rattle.mac.specs.Calls.{Closing, Outcome, begun_tag-128, begun_tag-256, close_words-128, close_words-256, closing, finish_outcome-128, finish_outcome-256, no_words, start_outcome-128, start_outcome-256, start_outcome-EIA3}
use Rattle.mac.specs.Runs.{Tagged-128, Tagged-256}
use Rattle.standard.proofs.Generator.{stream-is}
use Rattle.mac_laws.proofs.Runs.{at-state, closing-accepted, start-128, start-256, start-EIA3, updates-are}

-- ZUC-128 and EIA3, from any start whose accepted state is begun over what was loaded
module _ (loaded : State) (start : Outcome) (begun : start.number ≡ 0 → start.state ≡ (begun_tag-128 loaded).state) where
  pub tag-128 : {message : List ℕ} {L tag : ℕ} → Tagged-128 start message L tag → tag ≡ tag-EIA3 (keystream loaded) message L
  unfolding finish_outcome-128
  tag-128 {message} {L} r =
      r.tag_is
      ∙ ap (λ (x : Closing ℕ). x.tag) r.closes
      ∙ ends.2
      ∙ at-state (λ w st. closed-EIA3 st r.tail r.l) (inl refl) (updated 32 (begun-EIA3 (from_zero (started loaded))) (joined r.parts)) after
      ∙ rule-EIA3 (from_zero (started loaded)) (joined r.parts) r.tail r.l ends.0
      ∙ ap₂ (tag-EIA3 (word_at (started loaded))) (sym r.message-is) (sym r.L-is)
      ∙ ap (λ (w : ℕ → ℕ). tag-EIA3 w message L) (sym (stream-is loaded))
    where
      tag : ℕ
      tag = closed-EIA3 (tagging_of r.last.held) r.tail r.l

      words : ℕ
      words = close_words-128 r.last.held r.l

      ends : (r.l ≤ length r.tail * 8) × (r.last.count + words ≤ limit) × ((closing 0 (tag_formed formed-128 r.last) r.last words r.tail r.l tag).tag ≡ tag)
      ends = closing-accepted 0 (tag_formed formed-128 r.last) r.last words r.tail r.l tag (ap (λ (x : Closing ℕ). x.number) (sym r.closes) ∙ r.accepted)

      after : r.last.held ≡ packed 4 (updated 32 (begun-EIA3 (from_zero (started loaded))) (joined r.parts))
      after = updates-are (inl refl) r.updates (begun-EIA3 (from_zero (started loaded))) (ap (λ (x : Counted Stored). x.held) (begun r.started))

  -- two messages of one length
  pub two-128 : {m n : List ℕ} {L t u : ℕ} → Tagged-128 start m L t → Tagged-128 start n L u
      → t ⊕ u ≡ T 32 (z (keystream loaded)) 0 (differs m n) L
  two-128 {m} {n} {L} r q = ap₂ bit_xor (tag-128 r) (tag-128 q) ∙ EIA3-two (keystream loaded) L m n

  -- three messages of one length, and a fourth that is bit for bit their xor
  pub three-128 : {a b c x : List ℕ} {L t u v w : ℕ} → Tagged-128 start a L t → Tagged-128 start b L u → Tagged-128 start c L v → Tagged-128 start x L w
      → ((i : ℕ) → i < L → M x i ≡ M a i ⊕ M b i ⊕ M c i) → t ⊕ u ⊕ v ≡ w
  three-128 {a} {b} {c} {x} {L} r q s p e =
      ap₂ bit_xor (ap₂ bit_xor (tag-128 r) (tag-128 q)) (tag-128 s) ∙ EIA3-three (keystream loaded) L a b c x e ∙ sym (tag-128 p)

-- ZUC-256 at a width, likewise
module _ (loaded : State) (w : ℕ) (v : Width w) (start : Outcome)
    (begun : start.number ≡ 0 → start.state ≡ (begun_tag-256 w loaded).state) where
  pub tag-256 : {message : List ℕ} {L tag : ℕ} → Tagged-256 w start message L tag → tag ≡ tag-ZUC256 (w * 8) (keystream loaded) message L
  unfolding finish_outcome-256
  tag-256 {message} {L} r =
      r.tag_is
      ∙ ap (tag_of w)
      (ap (λ (x : Closing (List ℕ)). x.tag) r.closes
      ∙ ends.2
      ∙ at-state (λ x st. tag_words x (closed-ZUC256 (x * 8) st r.tail r.l)) v (updated (w * 8) (begun-ZUC256 (w * 8) (from_zero (started loaded))) (joined r.parts)) after)
      ∙ tag_back v (closed-ZUC256 (w * 8) (updated (w * 8) (begun-ZUC256 (w * 8) (from_zero (started loaded))) (joined r.parts)) r.tail r.l)
      ∙ rule-ZUC256 (w * 8) (width-whole v).0 (width-whole v).1 (from_zero (started loaded)) (joined r.parts) r.tail r.l ends.0
      ∙ ap₂ (tag-ZUC256 (w * 8) (word_at (started loaded))) (sym r.message-is) (sym r.L-is)
      ∙ ap (λ (x : ℕ → ℕ). tag-ZUC256 (w * 8) x message L) (sym (stream-is loaded))
    where
      tag : List ℕ
      tag = tag_words r.last.held.width (closed-ZUC256 (r.last.held.width * 8) (tagging_of r.last.held) r.tail r.l)

      words : ℕ
      words = close_words-256 r.last.held r.l

      ends : (r.l ≤ length r.tail * 8) × (r.last.count + words ≤ limit) × ((closing no_words (tag_formed formed r.last) r.last words r.tail r.l tag).tag ≡ tag)
      ends = closing-accepted no_words (tag_formed formed r.last) r.last words r.tail r.l tag (ap (λ (x : Closing (List ℕ)). x.number) (sym r.closes) ∙ r.accepted)

      after : r.last.held ≡ packed w (updated (w * 8) (begun-ZUC256 (w * 8) (from_zero (started loaded))) (joined r.parts))
      after = updates-are v r.updates (begun-ZUC256 (w * 8) (from_zero (started loaded))) (ap (λ (x : Counted Stored). x.held) (begun r.started))

  pub two_256 : {m n : List ℕ} {L t u : ℕ} → Tagged-256 w start m L t → Tagged-256 w start n L u
      → t ⊕ u ≡ T (w * 8) (z (keystream loaded)) (w * 8) (differs m n) L
  two_256 {m} {n} {L} r q = ap₂ bit_xor (tag-256 r) (tag-256 q) ∙ ZUC256-two (w * 8) (keystream loaded) L m n

  pub three-256 : {a b c x : List ℕ} {L t u s y : ℕ} → Tagged-256 w start a L t → Tagged-256 w start b L u → Tagged-256 w start c L s → Tagged-256 w start x L y
      → ((i : ℕ) → i < L → M x i ≡ M a i ⊕ M b i ⊕ M c i) → t ⊕ u ⊕ s ≡ y
  three-256 {a} {b} {c} {x} {L} r q s p e =
      ap₂ bit_xor (ap₂ bit_xor (tag-256 r) (tag-256 q)) (tag-256 s) ∙ ZUC256-three (w * 8) (keystream loaded) L a b c x e ∙ sym (tag-256 p)

-- THE RULE and demand 3 for ZUC-128: key and IV
module _ (key iv : List ℕ) (start : Outcome) (told : start ≡ start_outcome-128 key iv) where
  pub rule-zuc128 : {message : List ℕ} {L tag : ℕ} → Tagged-128 start message L tag → tag ≡ tag-EIA3 (keystream (load₁₂₈ key iv)) message L
  rule-zuc128 = tag-128 (load₁₂₈ key iv) start (start-128 key iv start told)

  pub differ-zuc128 : {m n : List ℕ} {L t u : ℕ} → Tagged-128 start m L t → Tagged-128 start n L u
      → t ⊕ u ≡ T 32 (z (keystream (load₁₂₈ key iv))) 0 (differs m n) L
  differ-zuc128 = two-128 (load₁₂₈ key iv) start (start-128 key iv start told)

  pub xor-zuc128 : {a b c x : List ℕ} {L t u v w : ℕ} → Tagged-128 start a L t → Tagged-128 start b L u → Tagged-128 start c L v → Tagged-128 start x L w
      → ((i : ℕ) → i < L → M x i ≡ M a i ⊕ M b i ⊕ M c i) → t ⊕ u ⊕ v ≡ w
  xor-zuc128 = three-128 (load₁₂₈ key iv) start (start-128 key iv start told)

-- for EIA3: COUNT, bearer, direction and key
module _ (count bearer direction : ℕ) (key : List ℕ) (start : Outcome) (told : start ≡ start_outcome-EIA3 count bearer direction key) where
  abbrev loaded-EIA3 : State
  loaded-EIA3 = load₁₂₈ key (IV-EIA3 count bearer direction)

  pub rule-eia3 : {message : List ℕ} {L tag : ℕ} → Tagged-128 start message L tag → tag ≡ tag-EIA3 (keystream loaded-EIA3) message L
  rule-eia3 = tag-128 loaded-EIA3 start (start-EIA3 count bearer direction key start told)

  pub differ-eia3 : {m n : List ℕ} {L t u : ℕ} → Tagged-128 start m L t → Tagged-128 start n L u
      → t ⊕ u ≡ T 32 (z (keystream loaded-EIA3)) 0 (differs m n) L
  differ-eia3 = two-128 loaded-EIA3 start (start-EIA3 count bearer direction key start told)

  pub xor-eia3 : {a b c x : List ℕ} {L t u v w : ℕ} → Tagged-128 start a L t → Tagged-128 start b L u → Tagged-128 start c L v → Tagged-128 start x L w
      → ((i : ℕ) → i < L → M x i ≡ M a i ⊕ M b i ⊕ M c i) → t ⊕ u ⊕ v ≡ w
  xor-eia3 = three-128 loaded-EIA3 start (start-EIA3 count bearer direction key start told)

-- for ZUC-256 at every width: width, key and IV
module _ (w : ℕ) (key iv : List ℕ) (start : Outcome) (told : start ≡ start_outcome-256 w key iv) where
  abbrev loaded-256 : State
  loaded-256 = load₂₅₆ (row_of w) key iv

  pub rule-zuc256 : {message : List ℕ} {L tag : ℕ} → Tagged-256 w start message L tag → tag ≡ tag-ZUC256 (w * 8) (keystream loaded-256) message L
  rule-zuc256 r = tag-256 loaded-256 w (start-256 w key iv start told r.started).0 start (λ e. (start-256 w key iv start told e).1) r

  pub differ-zuc256 : {m n : List ℕ} {L t u : ℕ} → Tagged-256 w start m L t → Tagged-256 w start n L u
      → t ⊕ u ≡ T (w * 8) (z (keystream loaded-256)) (w * 8) (differs m n) L
  differ-zuc256 r q = two_256 loaded-256 w (start-256 w key iv start told r.started).0 start (λ e. (start-256 w key iv start told e).1) r q

  pub xor-zuc256 : {a b c x : List ℕ} {L t u s y : ℕ} → Tagged-256 w start a L t → Tagged-256 w start b L u → Tagged-256 w start c L s → Tagged-256 w start x L y
      → ((i : ℕ) → i < L → M x i ≡ M a i ⊕ M b i ⊕ M c i) → t ⊕ u ⊕ s ≡ y
  xor-zuc256 r q s p e = three-256 loaded-256 w (start-256 w key iv start told r.started).0 start (λ z. (start-256 w key iv start told z).1) r q s p e

-- the xor of messages that the last law of each asks for
pub xor-message : (a b c : List ℕ) (i : ℕ) → M (xor_bytes (xor_bytes a b) c) i ≡ M a i ⊕ M b i ⊕ M c i
xor-message = M-xor₃
