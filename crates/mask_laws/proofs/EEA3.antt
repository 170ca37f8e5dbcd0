-- EEA3 over calls: an accepted start and then an accepted mask, in either mode, give OBS[i] = IBS[i] ⊕ z[i] for i < L, with z of the
-- keystream of the loaded key and IV, in clean mode by ⌈L/32⌉ words; and when both are accepted. By the laws of the definitions and the
-- tests that were passed.
use mathlib.Core.List.{List}
use mathlib.Core.Path.{◌≡◌, sym, ap, ◌∙◌}
use Prim.Native.Nat.{ℕ, ◌*◌, ◌<◌, ◌≤◌}
use native.Mathlib.Nat.{zero-add}
use native.Mathlib.Omega.{arith}
use lib.ListN.{length}
use Rattle.standard.specs.Bits.{M, z}
use Rattle.standard.specs.Confidentiality.{IV-EEA3, OBS, mask_clean, mask_crate, words_to_mask_clean, words_to_mask_crate}
use Rattle.standard.specs.Generator.{State, keystream, started, word_at}
use Rattle.standard.specs.Loading.{load₁₂₈}
use Rattle.standard.specs.Notation.{ceil}
use Rattle.standard.specs.Refusals.{accepted}
use Rattle.standard.specs.States.{Counted, Held, drawn_on, from_start, from_zero, limit, moved}
use Rattle.standard.proofs.Generator.{stream-is}
use Rattle.standard.proofs.Masking.{obs-clean, obs-crate}
use Rattle.standard.proofs.Promise.{Says}
use Rattle.zuc.specs.Reading.{counted_of}
use Rattle.zuc_loading.proofs.Loaded.{Bytes}
use Rattle.keystream.specs.Starts.{StartOutcome, start-EEA3}
use Rattle.keystream.proofs.Words.{at-rest-eea3}
use Rattle.mask.specs.Outcome.{Outcome, clean_outcome, crate_outcome, drawn, mask_tested, told}
use Rattle.mask.proofs.Once.{eea3-formed}
use Rattle.mask.proofs.mask_clean.Reads as mask-clean
use Rattle.mask.proofs.mask_crate.Reads as mask-crate
use Rattle.mask_laws.proofs.Accepted.{mask-exactly, mask_is, told_is, told-passes}

-- the promises of both modes are the equations that the theorems ask for
pub called-mask-crate : Says mask-crate.Post (λ κs a r s. told r s.0.now s.1.0.now ≡ crate_outcome (counted_of a.0.now) a.1.1.0 a.1.0.now)
called-mask-crate κs a r s p = p

pub called-mask-clean : Says mask-clean.Post (λ κs a r s. told r s.0.now s.1.0.now ≡ clean_outcome (counted_of a.0.now) a.1.1.0 a.1.0.now)
called-mask-clean κs a r s p = p

module _ (count bearer direction : ℕ) (key : List ℕ) where
  abbrev loaded : State
  loaded = load₁₂₈ key (IV-EEA3 count bearer direction)

  module _ (start : StartOutcome) (begun : start ≡ start-EEA3 count bearer direction key) (live : start.number ≡ accepted) (L : ℕ) (buffer : List ℕ) (o : Outcome) where
    at_rest : start.state ≡ from_start (from_zero (started loaded))
    at_rest = at-rest-eea3 start live count bearer direction key begun

    words_are : word_at start.state.held.meaning ≡ keystream loaded
    words_are = ap (λ (g : Counted Held). word_at g.held.meaning) at_rest ∙ sym (stream-is loaded)

    -- THE LINE: OBS[i] = IBS[i] ⊕ z[i], in a mode whose mask has it
    line : (mode : (ℕ → ℕ) → ℕ → List ℕ → List ℕ)
        → ((w : ℕ → ℕ) (i : ℕ) → L ≤ length buffer * 8 → i < L → M (mode w L buffer) i ≡ OBS (M buffer) (z w) i)
        → (words : ℕ) → o ≡ mask_tested start.state words L buffer (mode (word_at start.state.held.meaning) L buffer) → o.number ≡ accepted
        → (i : ℕ) → i < L → M o.buffer i ≡ OBS (M buffer) (z (keystream loaded)) i
    line mode obs words e ok i h =
        let w = word_at start.state.held.meaning in
        ap (λ (x : Outcome). M x.buffer i) (told_is start.state words L buffer (mode w L buffer) o e ok)
        ∙ obs w i (told-passes start.state words L buffer (mode w L buffer) o e ok).1 h
        ∙ ap (λ (v : ℕ → ℕ). OBS (M buffer) (z v) i) words_are

    pub eea3-crate : o ≡ crate_outcome start.state L buffer → o.number ≡ accepted → (i : ℕ) → i < L → M o.buffer i ≡ OBS (M buffer) (z (keystream loaded)) i
    eea3-crate = line mask_crate (λ w. obs-crate w L buffer) (words_to_mask_crate (length buffer))

    pub eea3-clean : o ≡ clean_outcome start.state L buffer → o.number ≡ accepted → (i : ℕ) → i < L → M o.buffer i ≡ OBS (M buffer) (z (keystream loaded)) i
    eea3-clean = line mask_clean (λ w. obs-clean w L buffer) (words_to_mask_clean L)

    -- EEA3's word count: the clean mask draws ⌈L/32⌉ words, and leaves a state that has drawn so many
    pub eea3-words : o ≡ clean_outcome start.state L buffer → o.number ≡ accepted
        → (o.count ≡ ceil L 32) × (o.state ≡ record { held = moved (ceil L 32) (from_zero (started loaded)); count = ceil L 32 })
    eea3-words e ok =
        let is = told_is start.state (ceil L 32) L buffer (mask_clean (word_at start.state.held.meaning) L buffer) o e ok in (
          ap (λ (x : Outcome). x.count) is,
          ap (λ (x : Outcome). x.state) is
              ∙ ap (drawn_on (ceil L 32)) at_rest
              ∙ (λ i. record { held = moved (ceil L 32) (from_zero (started loaded)); count = zero-add (ceil L 32) i }),
        )

  -- a key of 16 bytes starts (`eea3-starts` of mask/proofs/Once.antt), and then every mask whose bit length fits and whose words are within the
  -- limit is accepted, in either mode
  pub eea3-masks : Bytes key → (words L : ℕ) (buffer masked : List ℕ) → L ≤ length buffer * 8 → words ≤ limit
      → mask_tested (from_start (from_zero (started loaded))) words L buffer masked ≡ drawn words (from_start (from_zero (started loaded))) masked
  eea3-masks hk words L buffer masked h w =
      let g : Counted Held = from_start (from_zero (started loaded)) in
      mask_is g words L buffer masked ((mask-exactly g words L buffer masked).1 (eea3-formed count bearer direction key hk, h, omega arith))
