-- The rule and demand 3 for the one-shots, and that a one-shot and a run of calls give one tag; by the tests that an accepted one passed.
use mathlib.Core.List.{List, [], ◌∷◌}
use mathlib.Core.Path.{◌≡◌, refl, sym, ap, ap₂, ◌∙◌}
use Prim.Native.Nat.{ℕ, ◌*◌, ◌<◌}
use lib.Bits.{bit_xor}
use lib.Dec.{lit<}
use Rattle.standard.specs.Bits.{M, differs, z}
use Rattle.standard.specs.Generator.{keystream}
use Rattle.standard.specs.Integrity.{IV-EIA3, T, drawn_by_tag-EIA3, drawn_by_tag-ZUC256, tag-EIA3, tag-ZUC256}
use Rattle.standard.specs.Loading.{load₁₂₈, load₂₅₆, row_of}
use Rattle.standard.specs.Notation.{◌⊕◌}
use Rattle.standard.specs.Refusals.{Test, bits_test, iv_test, key_test, limit_test, tested, width_test}
use Rattle.standard.proofs.Linear.{EIA3-three, EIA3-two, ZUC256-three, ZUC256-two}
use Rattle.standard.proofs.Tested.{AllPass, Numbered, accepted-passed, passed}
use Rattle.mac_registers.proofs.Packed.{tag_back, width_is}
use Rattle.mac_registers.specs.Stored.{tag_words}
use Rattle.mac.specs.Calls.{Once, Outcome, no_words, once_outcome-128, once_outcome-256, refused_once, start_outcome-128, start_outcome-256, start_outcome-EIA3}
use Rattle.mac.specs.Runs.{Computed, Computed-128, Computed-256, Computed-EIA3, Tagged-128, Tagged-256}
use Rattle.mac.proofs.Outcomes.{once-EIA3-is}
use Rattle.mac_laws.proofs.Theorems.{rule-eia3, rule-zuc128, rule-zuc256}

-- an accepted one-shot passed its tests, and its tag is its answer's
module _ {Tag : Type 0} {once : List ℕ → ℕ → Once Tag} {number_in : Tag → ℕ} {m : List ℕ} {l tag : ℕ} (r : Computed once number_in m l tag) (tests : List Test)
    (low : Numbered tests) (none : Tag) (answer : Once Tag) (by : once m l ≡ tested tests (refused_once none) answer) where
  once-passed : AllPass tests
  once-passed =
      accepted-passed (λ (o : Once Tag). o.number) (refused_once none) (λ n. refl) answer tests low
      (ap (λ (o : Once Tag). o.number) (sym (r.is ∙ by)) ∙ r.accepted)

  once-tag : tag ≡ number_in answer.tag
  once-tag = r.tag_is ∙ ap (λ (o : Once Tag). number_in o.tag) (r.is ∙ by ∙ passed tests (refused_once none) answer once-passed)

module _ (key iv : List ℕ) (l : ℕ) where
  pub rule-once-zuc128 : {m : List ℕ} {t : ℕ} → Computed-128 key iv m l t → t ≡ tag-EIA3 (keystream (load₁₂₈ key iv)) m l
  unfolding once_outcome-128
  rule-once-zuc128 {m} r =
      once-tag r (key_test 16 key ∷ iv_test 16 iv ∷ bits_test l m ∷ limit_test 0 (drawn_by_tag-EIA3 l) ∷ []) (lit< tt, (lit< tt, (lit< tt, (lit< tt, tt)))) 0
      (record { number = 0; tag = tag-EIA3 (keystream (load₁₂₈ key iv)) m l }) refl

  pub differ-once-zuc128 : {m n : List ℕ} {t u : ℕ} → Computed-128 key iv m l t → Computed-128 key iv n l u
      → t ⊕ u ≡ T 32 (z (keystream (load₁₂₈ key iv))) 0 (differs m n) l
  differ-once-zuc128 {m} {n} r q = ap₂ bit_xor (rule-once-zuc128 r) (rule-once-zuc128 q) ∙ EIA3-two (keystream (load₁₂₈ key iv)) l m n

  pub xor-once-zuc128 : {a b c x : List ℕ} {t u v w : ℕ} → Computed-128 key iv a l t → Computed-128 key iv b l u → Computed-128 key iv c l v → Computed-128 key iv x l w
      → ((i : ℕ) → i < l → M x i ≡ M a i ⊕ M b i ⊕ M c i) → t ⊕ u ⊕ v ≡ w
  xor-once-zuc128 {a} {b} {c} {x} r q s p e =
      ap₂ bit_xor (ap₂ bit_xor (rule-once-zuc128 r) (rule-once-zuc128 q)) (rule-once-zuc128 s)
      ∙ EIA3-three (keystream (load₁₂₈ key iv)) l a b c x e
      ∙ sym (rule-once-zuc128 p)

  -- calls of the same key and IV, however the message was cut
  pub same-once-zuc128 : (start : Outcome) → start ≡ start_outcome-128 key iv → {m : List ℕ} {t u : ℕ} → Computed-128 key iv m l t → Tagged-128 start m l u → t ≡ u
  same-once-zuc128 start told r q = rule-once-zuc128 r ∙ sym (rule-zuc128 key iv start told q)

-- EIA3 is ZUC-128 with EIA3's IV
module _ (count bearer direction : ℕ) (key : List ℕ) (l : ℕ) where
  abbrev iv-EIA3 : List ℕ
  iv-EIA3 = IV-EIA3 count bearer direction

  once-128-of : {m : List ℕ} {t : ℕ} → Computed-EIA3 count bearer direction key m l t → Computed-128 key iv-EIA3 m l t
  once-128-of {m} r = record { told = r.told; is = r.is ∙ sym (once-EIA3-is count bearer direction key m l); accepted = r.accepted; tag_is = r.tag_is }

  pub rule-once-eia3 : {m : List ℕ} {t : ℕ} → Computed-EIA3 count bearer direction key m l t → t ≡ tag-EIA3 (keystream (load₁₂₈ key iv-EIA3)) m l
  rule-once-eia3 r = rule-once-zuc128 key iv-EIA3 l (once-128-of r)

  pub differ-once-eia3 : {m n : List ℕ} {t u : ℕ} → Computed-EIA3 count bearer direction key m l t → Computed-EIA3 count bearer direction key n l u
      → t ⊕ u ≡ T 32 (z (keystream (load₁₂₈ key iv-EIA3))) 0 (differs m n) l
  differ-once-eia3 r q = differ-once-zuc128 key iv-EIA3 l (once-128-of r) (once-128-of q)

  pub xor-once-eia3 : {a b c x : List ℕ} {t u v w : ℕ} → Computed-EIA3 count bearer direction key a l t → Computed-EIA3 count bearer direction key b l u
      → Computed-EIA3 count bearer direction key c l v → Computed-EIA3 count bearer direction key x l w
      → ((i : ℕ) → i < l → M x i ≡ M a i ⊕ M b i ⊕ M c i) → t ⊕ u ⊕ v ≡ w
  xor-once-eia3 r q s p = xor-once-zuc128 key iv-EIA3 l (once-128-of r) (once-128-of q) (once-128-of s) (once-128-of p)

  pub same-once-eia3 : (start : Outcome) → start ≡ start_outcome-EIA3 count bearer direction key → {m : List ℕ} {t u : ℕ}
      → Computed-EIA3 count bearer direction key m l t → Tagged-128 start m l u → t ≡ u
  same-once-eia3 start told r q = rule-once-eia3 r ∙ sym (rule-eia3 count bearer direction key start told q)

-- ZUC-256 at every width
module _ (w : ℕ) (key iv : List ℕ) (l : ℕ) where
  abbrev words-256 : ℕ → ℕ
  words-256 = keystream (load₂₅₆ (row_of w) key iv)

  pub rule-once-zuc256 : {m : List ℕ} {t : ℕ} → Computed-256 w key iv m l t → t ≡ tag-ZUC256 (w * 8) words-256 m l
  unfolding once_outcome-256
  rule-once-zuc256 {m} r =
      let tests : List Test = width_test w ∷ key_test 32 key ∷ iv_test 23 iv ∷ bits_test l m ∷ limit_test 0 (drawn_by_tag-ZUC256 (w * 8) l) ∷ [] in
      let low : Numbered tests = (lit< tt, (lit< tt, (lit< tt, (lit< tt, (lit< tt, tt))))) in
      let tag : ℕ = tag-ZUC256 (w * 8) words-256 m l in
      let answer : Once (List ℕ) = record { number = 0; tag = tag_words w tag } in
      once-tag r tests low no_words answer refl ∙ tag_back (width_is w (once-passed r tests low no_words answer refl).0) tag

  pub differ-once-zuc256 : {m n : List ℕ} {t u : ℕ} → Computed-256 w key iv m l t → Computed-256 w key iv n l u
      → t ⊕ u ≡ T (w * 8) (z words-256) (w * 8) (differs m n) l
  differ-once-zuc256 {m} {n} r q = ap₂ bit_xor (rule-once-zuc256 r) (rule-once-zuc256 q) ∙ ZUC256-two (w * 8) words-256 l m n

  pub xor-once-zuc256 : {a b c x : List ℕ} {t u s y : ℕ} → Computed-256 w key iv a l t → Computed-256 w key iv b l u → Computed-256 w key iv c l s
      → Computed-256 w key iv x l y → ((i : ℕ) → i < l → M x i ≡ M a i ⊕ M b i ⊕ M c i) → t ⊕ u ⊕ s ≡ y
  xor-once-zuc256 {a} {b} {c} {x} r q s p e =
      ap₂ bit_xor (ap₂ bit_xor (rule-once-zuc256 r) (rule-once-zuc256 q)) (rule-once-zuc256 s) ∙ ZUC256-three (w * 8) words-256 l a b c x e ∙ sym (rule-once-zuc256 p)

  pub same-once-zuc256 : (start : Outcome) → start ≡ start_outcome-256 w key iv → {m : List ℕ} {t u : ℕ} → Computed-256 w key iv m l t → Tagged-256 w start m l u
      → t ≡ u
  same-once-zuc256 start told r q = rule-once-zuc256 r ∙ sym (rule-zuc256 w key iv start told q)
