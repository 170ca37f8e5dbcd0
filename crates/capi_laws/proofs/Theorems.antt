-- The rule and demand 3 for the exported functions, however a message was cut, and for their one-shots: mac's theorems, by Runs.antt.
use mathlib.Core.List.{List, ◌++◌}
use mathlib.Core.Logic.{◌↔◌}
use mathlib.Core.Path.{◌≡◌, refl, sym, ap, ◌∙◌, subst}
use Prim.Native.Nat.{ℕ, ◌*◌, ◌<◌}
use lib.Dec.{lit<}
use Rattle.capi_arrays.proofs.Fitting.{small-EIA3, small-ZUC256}
use Rattle.capi_laws.proofs.Runs.{Holds, accepts-alike, inside, outside}
use Rattle.capi.specs.Runs.{ArrayAccepts-128, ArrayAccepts-256, ArrayTagged-128, ArrayTagged-256, TwoComputed-128, TwoComputed-EIA3, first_word}
use Rattle.capi.specs.Tags.{TagArray, tag_array, two_once}
use Rattle.mac.proofs.Accepted.{row-of}
use Rattle.mac_laws.proofs.Cuttings.{iv-bytes}
use Rattle.mac_laws.proofs.Once.{differ-once-eia3, differ-once-zuc128, rule-once-eia3, rule-once-zuc128, same-once-zuc128, same-once-zuc256, xor-once-eia3, xor-once-zuc128}
use Rattle.mac.proofs.Outcomes.{begun-EIA3-is}
use Rattle.mac_laws.proofs.Runs.{start-128, start-256}
use Rattle.mac_laws.proofs.Theorems.{differ-zuc128, differ-zuc256, rule-zuc128, rule-zuc256, xor-zuc128, xor-zuc256}
use Rattle.mac.specs.Calls.{Once, Outcome, start_outcome-128, start_outcome-256, start_outcome-EIA3}
use Rattle.mac.specs.Runs.{Accepts-128, Accepts-256, Computed, Computed-256, Tagged-128, Tagged-256}
use Rattle.mac_registers.proofs.Packed.{good-EIA3, good-ZUC256}
use Rattle.mac_registers.specs.Tagging.{begun-EIA3, begun-ZUC256}
use Rattle.standard.proofs.Generator.{sound-started}
use Rattle.standard.specs.Bits.{M, differs, z}
use Rattle.standard.specs.Generator.{State, keystream, started}
use Rattle.standard.specs.Integrity.{IV-EIA3, T, tag-EIA3, tag-ZUC256}
use Rattle.standard.specs.Loading.{load₁₂₈, load₂₅₆, row_of}
use Rattle.standard.specs.Notation.{◌⊕◌, joined}
use Rattle.standard.specs.States.{Counted, Stored, from_zero}
use Rattle.zuc_loading.proofs.Loaded.{Bytes, cells-128, cells-256}

-- a one-shot's tag of two words is the inner one-shot's
inside-once : {once : List ℕ → ℕ → Once ℕ} {m : List ℕ} {l t : ℕ} → Computed (λ x n. two_once (once x n)) first_word m l t → Computed once (λ x. x) m l t
inside-once {once} {m} {l} r =
    record {
      told = once m l;
      is = refl;
      accepted = ap (λ (o : Once (List ℕ)). o.number) (sym r.is) ∙ r.accepted;
      tag_is = r.tag_is ∙ ap (λ (o : Once (List ℕ)). first_word o.tag) r.is;
    }

-- ZUC-128: key and IV
module _ (key iv : List ℕ) (hk : Bytes key) (hv : Bytes iv) where
  abbrev begun-128 : Outcome
  begun-128 = start_outcome-128 key iv

  pub held-128 : begun-128.number ≡ 0 → Holds 4 begun-128.state
  held-128 e =
      let loaded : State = load₁₂₈ key iv in
      record {
        st = begun-EIA3 (from_zero (started loaded));
        good = good-EIA3 (from_zero (started loaded)) (record { cells = sound-started loaded (cells-128 key iv hk hv); start = lit< tt });
        small = small-EIA3 loaded;
        packs = ap (λ (c : Counted Stored). c.held) (start-128 key iv begun-128 refl e);
      }

  -- what the inner calls accept, the C calls accept, cut alike, and give the same tag
  pub accepted-c-zuc128 : {m : List ℕ} {L t : ℕ} → Bytes m → (r : Tagged-128 begun-128 m L t)
      → (a : ArrayTagged-128 (tag_array begun-128) m L t) × ((a.parts ≡ r.parts) × (a.tail ≡ r.tail) × (a.l ≡ r.l))
  accepted-c-zuc128 = outside (λ s tail l. refl) (λ s tail l. refl) begun-128 held-128

  -- a cutting is accepted by the C calls exactly if the inner calls accept it
  pub accepts-c-zuc128 : (parts : List (List ℕ)) (tail : List ℕ) (l : ℕ) → Bytes (joined parts ++ tail)
      → ArrayAccepts-128 (tag_array begun-128) parts tail l ↔ Accepts-128 begun-128 parts tail l
  accepts-c-zuc128 = accepts-alike (λ s tail l. refl) (λ s tail l. refl) begun-128 held-128

  module _ (start : TagArray) (told : start ≡ tag_array begun-128) where
    inside-128 : {m : List ℕ} {L t : ℕ} → ArrayTagged-128 start m L t → Tagged-128 begun-128 m L t
    inside-128 r = (inside (λ s tail l. refl) (λ s tail l. refl) begun-128 held-128 start told r).0

    pub rule-c-zuc128 : {m : List ℕ} {L t : ℕ} → ArrayTagged-128 start m L t → t ≡ tag-EIA3 (keystream (load₁₂₈ key iv)) m L
    rule-c-zuc128 r = rule-zuc128 key iv begun-128 refl (inside-128 r)

    pub differ-c-zuc128 : {m n : List ℕ} {L t u : ℕ} → ArrayTagged-128 start m L t → ArrayTagged-128 start n L u
        → t ⊕ u ≡ T 32 (z (keystream (load₁₂₈ key iv))) 0 (differs m n) L
    differ-c-zuc128 r q = differ-zuc128 key iv begun-128 refl (inside-128 r) (inside-128 q)

    pub xor-c-zuc128 : {a b c x : List ℕ} {L t u v w : ℕ} → ArrayTagged-128 start a L t → ArrayTagged-128 start b L u → ArrayTagged-128 start c L v
        → ArrayTagged-128 start x L w → ((i : ℕ) → i < L → M x i ≡ M a i ⊕ M b i ⊕ M c i) → t ⊕ u ⊕ v ≡ w
    xor-c-zuc128 r q s p = xor-zuc128 key iv begun-128 refl (inside-128 r) (inside-128 q) (inside-128 s) (inside-128 p)

    -- the one-shot gives the tag of the calls
    pub same-c-zuc128 : {m : List ℕ} {l t u : ℕ} → TwoComputed-128 key iv m l t → ArrayTagged-128 start m l u → t ≡ u
    same-c-zuc128 {l = l} r q = same-once-zuc128 key iv l begun-128 refl (inside-once r) (inside-128 q)

module _ (key iv : List ℕ) (l : ℕ) where
  pub rule-c-once-zuc128 : {m : List ℕ} {t : ℕ} → TwoComputed-128 key iv m l t → t ≡ tag-EIA3 (keystream (load₁₂₈ key iv)) m l
  rule-c-once-zuc128 r = rule-once-zuc128 key iv l (inside-once r)

  pub differ-c-once-zuc128 : {m n : List ℕ} {t u : ℕ} → TwoComputed-128 key iv m l t → TwoComputed-128 key iv n l u
      → t ⊕ u ≡ T 32 (z (keystream (load₁₂₈ key iv))) 0 (differs m n) l
  differ-c-once-zuc128 r q = differ-once-zuc128 key iv l (inside-once r) (inside-once q)

  pub xor-c-once-zuc128 : {a b c x : List ℕ} {t u v w : ℕ} → TwoComputed-128 key iv a l t → TwoComputed-128 key iv b l u → TwoComputed-128 key iv c l v
      → TwoComputed-128 key iv x l w → ((i : ℕ) → i < l → M x i ≡ M a i ⊕ M b i ⊕ M c i) → t ⊕ u ⊕ v ≡ w
  xor-c-once-zuc128 r q s p = xor-once-zuc128 key iv l (inside-once r) (inside-once q) (inside-once s) (inside-once p)

-- EIA3: ZUC-128 with EIA3's IV, which is of bytes
module _ (count bearer direction : ℕ) (key : List ℕ) (hk : Bytes key) where
  abbrev iv-EIA3 : List ℕ
  iv-EIA3 = IV-EIA3 count bearer direction

  abbrev words-EIA3 : ℕ → ℕ
  words-EIA3 = keystream (load₁₂₈ key iv-EIA3)

  pub accepted-c-eia3 : {m : List ℕ} {L t : ℕ} → Bytes m → (r : Tagged-128 (start_outcome-EIA3 count bearer direction key) m L t)
      → (a : ArrayTagged-128 (tag_array (start_outcome-EIA3 count bearer direction key)) m L t)
      × ((a.parts ≡ r.parts) × (a.tail ≡ r.tail) × (a.l ≡ r.l))
  accepted-c-eia3 {m} {L} {t} b =
      subst
      (λ (o : Outcome). (r : Tagged-128 o m L t) → (a : ArrayTagged-128 (tag_array o) m L t) × ((a.parts ≡ r.parts) × (a.tail ≡ r.tail) × (a.l ≡ r.l)))
      (begun-EIA3-is count bearer direction key)
      (accepted-c-zuc128 key iv-EIA3 hk (iv-bytes count bearer direction) b)

  module _ (start : TagArray) (told : start ≡ tag_array (start_outcome-EIA3 count bearer direction key)) where
    told-128 : start ≡ tag_array (start_outcome-128 key iv-EIA3)
    told-128 = told ∙ ap tag_array (sym (begun-EIA3-is count bearer direction key))

    pub rule-c-eia3 : {m : List ℕ} {L t : ℕ} → ArrayTagged-128 start m L t → t ≡ tag-EIA3 words-EIA3 m L
    rule-c-eia3 = rule-c-zuc128 key iv-EIA3 hk (iv-bytes count bearer direction) start told-128

    pub differ-c-eia3 : {m n : List ℕ} {L t u : ℕ} → ArrayTagged-128 start m L t → ArrayTagged-128 start n L u → t ⊕ u ≡ T 32 (z words-EIA3) 0 (differs m n) L
    differ-c-eia3 = differ-c-zuc128 key iv-EIA3 hk (iv-bytes count bearer direction) start told-128

    pub xor-c-eia3 : {a b c x : List ℕ} {L t u v w : ℕ} → ArrayTagged-128 start a L t → ArrayTagged-128 start b L u → ArrayTagged-128 start c L v
        → ArrayTagged-128 start x L w → ((i : ℕ) → i < L → M x i ≡ M a i ⊕ M b i ⊕ M c i) → t ⊕ u ⊕ v ≡ w
    xor-c-eia3 = xor-c-zuc128 key iv-EIA3 hk (iv-bytes count bearer direction) start told-128

    pub same-c-eia3 : {m : List ℕ} {l t u : ℕ} → TwoComputed-EIA3 count bearer direction key m l t → ArrayTagged-128 start m l u → t ≡ u
    same-c-eia3 {l = l} r q = rule-once-eia3 count bearer direction key l (inside-once r) ∙ sym (rule-c-eia3 q)

module _ (count bearer direction : ℕ) (key : List ℕ) (l : ℕ) where
  abbrev Once-EIA3 : List ℕ → ℕ → Type 0
  Once-EIA3 m = TwoComputed-EIA3 count bearer direction key m l

  pub rule-c-once-eia3 : {m : List ℕ} {t : ℕ} → Once-EIA3 m t → t ≡ tag-EIA3 (keystream (load₁₂₈ key (IV-EIA3 count bearer direction))) m l
  rule-c-once-eia3 r = rule-once-eia3 count bearer direction key l (inside-once r)

  pub differ-c-once-eia3 : {m n : List ℕ} {t u : ℕ} → Once-EIA3 m t → Once-EIA3 n u
      → t ⊕ u ≡ T 32 (z (keystream (load₁₂₈ key (IV-EIA3 count bearer direction)))) 0 (differs m n) l
  differ-c-once-eia3 r q = differ-once-eia3 count bearer direction key l (inside-once r) (inside-once q)

  pub xor-c-once-eia3 : {a b c x : List ℕ} {t u v w : ℕ} → Once-EIA3 a t → Once-EIA3 b u → Once-EIA3 c v → Once-EIA3 x w
      → ((i : ℕ) → i < l → M x i ≡ M a i ⊕ M b i ⊕ M c i) → t ⊕ u ⊕ v ≡ w
  xor-c-once-eia3 r q s p = xor-once-eia3 count bearer direction key l (inside-once r) (inside-once q) (inside-once s) (inside-once p)

-- ZUC-256 at every width: width, key and IV
module _ (w : ℕ) (key iv : List ℕ) (hk : Bytes key) (hv : Bytes iv) where
  abbrev begun-256 : Outcome
  begun-256 = start_outcome-256 w key iv

  abbrev loaded-256 : State
  loaded-256 = load₂₅₆ (row_of w) key iv

  pub held-256 : begun-256.number ≡ 0 → Holds w begun-256.state
  held-256 e =
      let is = start-256 w key iv begun-256 refl e in
      record {
        st = begun-ZUC256 (w * 8) (from_zero (started loaded-256));
        good =
            good-ZUC256 is.0 (from_zero (started loaded-256))
            (record { cells = sound-started loaded-256 (cells-256 (row_of w) key iv (row-of w) hk hv); start = lit< tt });
        small = small-ZUC256 (w * 8) loaded-256;
        packs = ap (λ (c : Counted Stored). c.held) is.1;
      }

  pub accepted-c-zuc256 : {m : List ℕ} {L t : ℕ} → Bytes m → (r : Tagged-256 w begun-256 m L t)
      → (a : ArrayTagged-256 w (tag_array begun-256) m L t) × ((a.parts ≡ r.parts) × (a.tail ≡ r.tail) × (a.l ≡ r.l))
  accepted-c-zuc256 = outside (λ s tail l. refl) (λ s tail l. refl) begun-256 held-256

  pub accepts-c-zuc256 : (parts : List (List ℕ)) (tail : List ℕ) (l : ℕ) → Bytes (joined parts ++ tail)
      → ArrayAccepts-256 w (tag_array begun-256) parts tail l ↔ Accepts-256 w begun-256 parts tail l
  accepts-c-zuc256 = accepts-alike (λ s tail l. refl) (λ s tail l. refl) begun-256 held-256

  module _ (start : TagArray) (told : start ≡ tag_array begun-256) where
    inside-256 : {m : List ℕ} {L t : ℕ} → ArrayTagged-256 w start m L t → Tagged-256 w begun-256 m L t
    inside-256 r = (inside (λ s tail l. refl) (λ s tail l. refl) begun-256 held-256 start told r).0

    pub rule-c-zuc256 : {m : List ℕ} {L t : ℕ} → ArrayTagged-256 w start m L t → t ≡ tag-ZUC256 (w * 8) (keystream loaded-256) m L
    rule-c-zuc256 r = rule-zuc256 w key iv begun-256 refl (inside-256 r)

    pub differ-c-zuc256 : {m n : List ℕ} {L t u : ℕ} → ArrayTagged-256 w start m L t → ArrayTagged-256 w start n L u
        → t ⊕ u ≡ T (w * 8) (z (keystream loaded-256)) (w * 8) (differs m n) L
    differ-c-zuc256 r q = differ-zuc256 w key iv begun-256 refl (inside-256 r) (inside-256 q)

    pub xor-c-zuc256 : {a b c x : List ℕ} {L t u s y : ℕ} → ArrayTagged-256 w start a L t → ArrayTagged-256 w start b L u → ArrayTagged-256 w start c L s
        → ArrayTagged-256 w start x L y → ((i : ℕ) → i < L → M x i ≡ M a i ⊕ M b i ⊕ M c i) → t ⊕ u ⊕ s ≡ y
    xor-c-zuc256 r q s p = xor-zuc256 w key iv begun-256 refl (inside-256 r) (inside-256 q) (inside-256 s) (inside-256 p)

    -- zuc256_tag promises what mac's one-shot does: its rule and demand 3 are mac's rule-once-zuc256, differ-once-zuc256, xor-once-zuc256
    pub same-c-zuc256 : {m : List ℕ} {l t u : ℕ} → Computed-256 w key iv m l t → ArrayTagged-256 w start m l u → t ≡ u
    same-c-zuc256 {l = l} r q = same-once-zuc256 w key iv l begun-256 refl r (inside-256 q)
