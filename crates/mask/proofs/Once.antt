-- EEA3 in one call: a key of 16 bytes starts a well-formed state, and a mask from it, with its state left out, is the call's outcome. By the
-- tests of both, and the words of a state at rest.
use mathlib.Core.Bool.{Bool, true}
use mathlib.Core.List.{List, [], ◌∷◌}
use mathlib.Core.Path.{◌≡◌, refl, sym, ap, ◌∙◌}
use Prim.Native.Nat.{ℕ}
use native.Mathlib.Omega.{arith}
use borrow.Author.Tests.{eq-eqb, ne_eqb}
use lib.Dec.{lit<}
use lib.ListN.{length}
use Rattle.standard.specs.Confidentiality.{IV-EEA3, bytes_iv-EEA3}
use Rattle.standard.specs.Generator.{State, keystream, started, word_at}
use Rattle.standard.specs.Loading.{load₁₂₈}
use Rattle.standard.specs.Refusals.{Test, accepted, bad_bits, bad_field, bad_key, bits_test, limit_test, spent, tested}
use Rattle.standard.specs.States.{Counted, Held, from_start, from_zero, generator_formed}
use Rattle.standard.proofs.Fields.{InField, Strict, as-given-EEA3, in_field}
use Rattle.standard.proofs.Generator.{sound-started, stream-is}
use Rattle.standard.proofs.Held.{ready-generator_formed}
use Rattle.standard.proofs.Tested.{tested-map}
use Rattle.zuc_loading.proofs.Loaded.{Bytes, IV-EEA3-bytes, cells-128}
use Rattle.keystream.specs.Starts.{start-EEA3}
use Rattle.mask.specs.Modes.{mask_outcome, mode_mask, mode_words, plain-EEA3, strict-EEA3}
use Rattle.mask.specs.Once.{Once, drawn_once, plain_tested, refused_once, strict_tested, without_state}
use Rattle.mask.specs.Outcome.{drawn, mask_tested, refused}

module _ (count bearer direction : ℕ) (key : List ℕ) where
  abbrev pub loaded : State
  loaded = load₁₂₈ key (IV-EEA3 count bearer direction)

  abbrev pub fresh : Counted Held
  fresh = from_start (from_zero (started loaded))

  pub eea3-starts : length key ≡ 16 → start-EEA3 count bearer direction key ≡ record { number = accepted; state = fresh }
  unfolding start-EEA3 tested
  eea3-starts e = rw (eq-eqb (length key) 16 e) refl

  pub eea3-formed : Bytes key → generator_formed fresh ≡ true
  eea3-formed hk =
      ready-generator_formed (record { cells = sound-started loaded (cells-128 key (IV-EEA3 count bearer direction) hk (IV-EEA3-bytes count bearer direction)); start = lit< tt }) (omega arith)

  -- a mask from it passes the test of its state
  module _ (hk : Bytes key) (words L : ℕ) (buffer masked : List ℕ) where
    abbrev rest : List Test
    rest = bits_test L buffer ∷ limit_test 0 words ∷ []

    formed-passes : mask_tested fresh words L buffer masked ≡ tested rest (refused fresh buffer) (drawn words fresh masked)
    unfolding mask_tested tested
    formed-passes = rw (eea3-formed hk) refl

    key-passes : length key ≡ 16 → plain_tested key words L buffer masked ≡ tested rest (refused_once buffer) (drawn_once words masked)
    unfolding plain_tested tested
    key-passes e = rw (eq-eqb (length key) 16 e) refl

    once-tested : length key ≡ 16 → without_state (mask_tested fresh words L buffer masked) ≡ plain_tested key words L buffer masked
    once-tested e =
        ap without_state formed-passes ∙ tested-map without_state rest (refused fresh buffer) (drawn words fresh masked) ∙ sym (key-passes e)

  -- in either mode
  module _ (L : ℕ) (buffer : List ℕ) (clean : Bool) where
    pub once-key : (length key ≡ 16 → ⊥) → refused_once buffer bad_key ≡ plain-EEA3 clean count bearer direction key L buffer
    unfolding plain_tested tested
    once-key other = rw (ne_eqb (length key) 16 other) refl

    pub once_is : Bytes key → length key ≡ 16
        → without_state (mask_outcome clean fresh L buffer) ≡ plain-EEA3 clean count bearer direction key L buffer
    once_is hk e =
        once-tested hk (mode_words clean L buffer) L buffer (mode_mask clean (word_at (started loaded)) L buffer) e
        ∙ ap (λ (w : ℕ → ℕ). plain_tested key (mode_words clean L buffer) L buffer (mode_mask clean w L buffer)) (sym (stream-is loaded))

    -- the strict form, and that on numbers that pass 8 it is the plain one
    abbrev pub form : Strict Once
    form =
        record {
          key = key;
          bearer = bearer;
          direction = direction;
          rest = bits_test L buffer ∷ limit_test 0 (mode_words clean L buffer) ∷ [];
          refused = refused_once buffer;
          answer = drawn_once (mode_words clean L buffer) (mode_mask clean (keystream (load₁₂₈ key (bytes_iv-EEA3 count bearer direction))) L buffer);
          number = λ (o : Once). o.number;
          told = λ n. refl;
          ok = refl;
          numbered = (lit< tt, (lit< tt, tt));
          others = (λ (e : bad_bits ≡ bad_field). omega arith, (λ (e : spent ≡ bad_field). omega arith, tt));
        }

    pub strict-mask : InField bearer direction → strict-EEA3 clean count bearer direction key L buffer ≡ plain-EEA3 clean count bearer direction key L buffer
    unfolding strict_tested plain_tested
    strict-mask h =
        in_field form h
        ∙ ap (λ (iv : List ℕ). plain_tested key (mode_words clean L buffer) L buffer (mode_mask clean (keystream (load₁₂₈ key iv)) L buffer))
        (sym (as-given-EEA3 bearer direction count h))
