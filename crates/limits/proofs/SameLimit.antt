-- A one-shot and a run of calls over the same message are accepted for the same messages and refused by 16 for the same, however it was cut;
-- by the words of a run adding up to a one-shot's.
use mathlib.Core.Bool.{Bool}
use mathlib.Core.List.{List, [], ◌∷◌, ◌++◌}
use mathlib.Core.Logic.{◌↔◌, ⊎_elim}
use mathlib.Core.Path.{◌≡◌, refl, sym, ap, ◌∙◌, subst}
use Prim.Native.Nat.{ℕ, ◌+◌, ◌*◌, ◌<◌, ◌≤◌}
use native.Mathlib.Nat.{zero-add}
use native.Mathlib.Omega.{arith}
use lib.ListN.{length, length-append}
use borrow.Author.Tests.{eq-eqb, le-leb, lt-leb}
use Rattle.standard.specs.Generator.{State, started}
use Rattle.standard.specs.Integrity.{IV-EIA3, drawn_after-ZUC256, drawn_by_tag-EIA3, drawn_by_tag-ZUC256, words_to_close-EIA3, words_to_close-ZUC256, words_to_update}
use Rattle.standard.specs.Loading.{load₁₂₈, load₂₅₆, row_of}
use Rattle.standard.specs.Notation.{joined}
use Rattle.standard.specs.Refusals.{accepted, spent, tested}
use Rattle.standard.specs.States.{Counted, Stored, formed, formed-128, from_zero, limit, tag_formed}
use Rattle.standard.proofs.Cells.{Cells}
use Rattle.zuc_loading.proofs.Loaded.{Bytes, cells-128, cells-256}
use Rattle.mac_registers.specs.Inner.{Good, Width}
use Rattle.mac_registers.specs.Stored.{packed}
use Rattle.mac_registers.specs.Tagging.{Tagging, begun-EIA3, begun-ZUC256, updated}
use Rattle.mac_registers.proofs.Packed.{good-EIA3, good-ZUC256, good-updated, is-width}
use Rattle.mac_counts.proofs.Drawn.{drew-updated}
use Rattle.mac_counts.proofs.InTurn.{all-EIA3, all-ZUC256}
use Rattle.mac.specs.Calls.{Closing, Once, Outcome, begun_tag-128, finish_outcome-128, finish_outcome-256, once_outcome-128, once_outcome-256, once_outcome-EIA3, start_outcome-128, start_outcome-256, start_outcome-EIA3, update_outcome, update_words}
use Rattle.mac.specs.Runs.{Accepts-128, Accepts-256}
use Rattle.mac.proofs.Accepted.{row-of}
use Rattle.mac_laws.proofs.Cuttings.{Kind, begins-zuc128, begins-zuc256, every-cutting-zuc128, every-cutting-zuc256, good_start, iv-bytes, kind-128, kind-256, update-ok}
use Rattle.mac.proofs.Outcomes.{begun-EIA3-is, once-EIA3-is}
use Rattle.mac_laws.proofs.Runs.{update-accepted}
use Rattle.limits.specs.Spent.{Spends, at-closing, at-update, later}
use Rattle.limits.proofs.TwoUpdates.{formed-here, next-count, next-held, split, update-spent, words-here}

-- a number that is 0 within the limit and 16 beyond it
told : (number words : ℕ) → (words ≤ limit → number ≡ accepted) → (limit < words → number ≡ spent)
    → ((number ≡ accepted) ↔ (words ≤ limit)) × ((number ≡ spent) ↔ (limit < words))
told number words within beyond = (
  (λ e. ⊎_elim (λ h. h) (λ h. absurd (let d = beyond h in omega (arith, e, d))) (split words), within),
  (λ e. ⊎_elim (λ h. absurd (let d = within h in omega (arith, e, d))) (λ h. h) (split words), beyond),
)

module _ {Tag : Type 0} {test : Stored → Bool} {finish_outcome : Counted Stored → List ℕ → ℕ → Closing Tag}
    {words : Stored → ℕ → ℕ} {close : ℕ → ℕ → ℕ} {w : ℕ} (k : Kind test finish_outcome words close w) (tail : List ℕ) (l : ℕ) (fits : l ≤ length tail * 8) where
  -- the words of all parts are the first's, and those of the rest after it
  after-part : (st : Tagging) → Good w st → (part : List ℕ) (parts : List (List ℕ))
      → words_to_update (w * 8) (length st.waiting) (length part) + close (length (updated (w * 8) st part).waiting) (length (joined parts) * 8 + l)
      ≡ close (length st.waiting) (length (joined (part ∷ parts)) * 8 + l)
  unfolding joined
  after-part st g part parts =
      let c : ℕ = length st.waiting in
      ap (λ (n : ℕ). words_to_update (w * 8) c (length part) + close n (length (joined parts) * 8 + l)) (drew-updated (omega (arith, g.short)) part st g.short).1
      ∙ k.in-turn c (length part) (length (joined parts) * 8 + l)
      ∙ ap (close c) (omega (arith, length-append part (joined parts)))

  -- the words of a closing at once
  at_once : (st : Tagging) (s : Counted Stored) → s.held ≡ packed w st → words s.held l ≡ close (length st.waiting) (0 * 8 + l)
  at_once st s e = ap (λ (x : Stored). words x l) e ∙ k.close-is st l ∙ ap (close (length st.waiting)) (sym (zero-add l))

  -- beyond the limit a run is spent
  run-spends : (parts : List (List ℕ)) (st : Tagging) → Good w st → (s : Counted Stored) → s.held ≡ packed w st → s.count ≤ limit
      → limit < s.count + close (length st.waiting) (length (joined parts) * 8 + l) → Spends test finish_outcome s parts tail l
  unfolding joined
  run-spends [] st g s e low h = at-closing (k.spends s tail l (formed-here k s st g e low) fits (subst (λ (n : ℕ). limit < s.count + n) (sym (at_once st s e)) h))
  run-spends (part ∷ parts) st g s e low h =
      let ok = formed-here k s st g e low in
      ⊎_elim
      (λ left. let fine = update-ok (tag_formed test s) s part ok left in
      let count = next-count k s st g e part fine in
      later fine
      (run-spends parts (updated (w * 8) st part) (good-updated part g) (update_outcome (tag_formed test s) s part).state (next-held k s st g e part fine)
      (omega (arith, left, count, words-here k s st g e part)) (omega (arith, h, after-part st g part parts, count))))
      (λ over. at-update (update-spent (tag_formed test s) s part ok over))
      (split (s.count + update_words s.held part))

  -- and only there
  spent-beyond : (parts : List (List ℕ)) (st : Tagging) → Good w st → (s : Counted Stored) → s.held ≡ packed w st → s.count ≤ limit
      → Spends test finish_outcome s parts tail l → limit < s.count + close (length st.waiting) (length (joined parts) * 8 + l)
  unfolding joined
  spent-beyond [] st g s e low (at-closing n) =
      ⊎_elim
      (λ left. absurd (let z = k.closes s tail l (formed-here k s st g e low) fits left in omega (arith, n, z)))
      (λ over. subst (λ (x : ℕ). limit < s.count + x) (at_once st s e) over)
      (split (s.count + words s.held l))
  spent-beyond (part ∷ parts) st g s e low (at-update n) =
      ⊎_elim
      (λ left. absurd (let z = update-ok (tag_formed test s) s part (formed-here k s st g e low) left in omega (arith, n, z)))
      (λ over. omega (arith, over, words-here k s st g e part, after-part st g part parts))
      (split (s.count + update_words s.held part))
  spent-beyond (part ∷ parts) st g s e low (later fine rest) =
      let count = next-count k s st g e part fine in
      let left = (update-accepted (tag_formed test s) s part fine).1 in
      let beyond = spent-beyond parts (updated (w * 8) st part) (good-updated part g) (update_outcome (tag_formed test s) s part).state (next-held k s st g e part fine)
      (omega (arith, left, count, words-here k s st g e part)) rest in
      omega (arith, beyond, count, after-part st g part parts)

  pub spends-exactly : (parts : List (List ℕ)) (st : Tagging) → Good w st → (s : Counted Stored) → s.held ≡ packed w st → s.count ≤ limit
      → Spends test finish_outcome s parts tail l ↔ (limit < s.count + close (length st.waiting) (length (joined parts) * 8 + l))
  spends-exactly parts st g s e low = (spent-beyond parts st g s e low, run-spends parts st g s e low)

-- a one-shot whose key, IV and bits fit
module _ (key iv m : List ℕ) (L : ℕ) (bits : L ≤ length m * 8) where
  once-128 : length key ≡ 16 → length iv ≡ 16
      → (((once_outcome-128 key iv m L).number ≡ accepted) ↔ (drawn_by_tag-EIA3 L ≤ limit)) × (((once_outcome-128 key iv m L).number ≡ spent) ↔ (limit < drawn_by_tag-EIA3 L))
  unfolding once_outcome-128 tested
  once-128 a b =
      told (once_outcome-128 key iv m L).number (drawn_by_tag-EIA3 L)
      (λ h. rw (eq-eqb (length key) 16 a, eq-eqb (length iv) 16 b, le-leb L (length m * 8) bits, le-leb (0 + drawn_by_tag-EIA3 L) limit (omega (arith, h))) refl)
      (λ h. rw (eq-eqb (length key) 16 a, eq-eqb (length iv) 16 b, le-leb L (length m * 8) bits, lt-leb (0 + drawn_by_tag-EIA3 L) limit (omega (arith, h))) refl)

  once-256 : {w : ℕ} → Width w → length key ≡ 32 → length iv ≡ 23
      → (((once_outcome-256 w key iv m L).number ≡ accepted) ↔ (drawn_by_tag-ZUC256 (w * 8) L ≤ limit)) × (((once_outcome-256 w key iv m L).number ≡ spent) ↔ (limit < drawn_by_tag-ZUC256 (w * 8) L))
  unfolding once_outcome-256 tested
  once-256 {w} v a b =
      let D : ℕ = drawn_by_tag-ZUC256 (w * 8) L in
      told (once_outcome-256 w key iv m L).number D
      (λ h. rw (is-width v, eq-eqb (length key) 32 a, eq-eqb (length iv) 23 b, le-leb L (length m * 8) bits, le-leb (0 + D) limit (omega (arith, h))) refl)
      (λ h. rw (is-width v, eq-eqb (length key) 32 a, eq-eqb (length iv) 23 b, le-leb L (length m * 8) bits, lt-leb (0 + D) limit (omega (arith, h))) refl)

-- a start is within the limit, and EIA3's IV has its length
begun-low : {w : ℕ} → Width w → drawn_after-ZUC256 (w * 8) 0 ≤ limit
begun-low v = ⊎_elim (λ e. rw e (omega arith)) (λ o. ⊎_elim (λ e. rw e (omega arith)) (λ e. rw e (omega arith)) o) v

iv-length : (count bearer direction : ℕ) → length (IV-EIA3 count bearer direction) ≡ 16
unfolding IV-EIA3
iv-length count bearer direction = refl

-- that a one-shot's number is 0 exactly where a run is accepted, and 16 exactly where a run is spent
abbrev Same : ℕ → Type 0 → Type 0 → Type 0
Same number Accepted Spent = ((number ≡ accepted) ↔ Accepted) × ((number ≡ spent) ↔ Spent)

same : {Accepted Spent : Type 0} {fits : Type 0} (number words : ℕ) → fits → ((number ≡ accepted) ↔ (words ≤ limit)) × ((number ≡ spent) ↔ (limit < words))
    → Accepted ↔ (fits × (words ≤ limit)) → Spent ↔ (limit < words) → Same number Accepted Spent
same number words h once a p = (
  (λ e. a.1 (h, once.0.0 e), λ x. once.0.1 (a.0 x).1),
  (λ e. p.1 (once.1.0 e), λ x. once.1.1 (p.0 x)),
)

module _ (parts : List (List ℕ)) (tail : List ℕ) (l : ℕ) (fits : l ≤ length tail * 8) where
  abbrev message : List ℕ
  message = joined parts ++ tail

  abbrev L : ℕ
  L = length (joined parts) * 8 + l

  bits_fit : L ≤ length message * 8
  bits_fit = omega (arith, fits, length-append (joined parts) tail)

  spends-128 : (loaded : State) → Cells loaded.cells → (start : Outcome) → start ≡ begun_tag-128 loaded
      → Spends formed-128 finish_outcome-128 start.state parts tail l ↔ (limit < drawn_by_tag-EIA3 L)
  unfolding begun-EIA3
  spends-128 loaded c start begun =
      let σ = from_zero (started loaded) in
      subst (λ (n : ℕ). Spends formed-128 finish_outcome-128 start.state parts tail l ↔ (limit < n))
      (ap (λ (o : Outcome). o.state.count + words_to_close-EIA3 0 L) begun ∙ all-EIA3 L)
      (spends-exactly kind-128 tail l fits parts (begun-EIA3 σ) (good-EIA3 σ (good_start loaded c)) start.state (ap (λ (o : Outcome). o.state.held) begun)
      (subst (λ (o : Outcome). o.state.count ≤ limit) (sym begun) (omega arith)))

  pub same-limit-zuc128 : (key iv : List ℕ) → length key ≡ 16 → length iv ≡ 16 → Bytes key → Bytes iv
      → Same (once_outcome-128 key iv message L).number (Accepts-128 (start_outcome-128 key iv) parts tail l)
      (Spends formed-128 finish_outcome-128 (start_outcome-128 key iv).state parts tail l)
  same-limit-zuc128 key iv a b hk hv =
      same (once_outcome-128 key iv message L).number (drawn_by_tag-EIA3 L) fits (once-128 key iv message L bits_fit a b)
      (every-cutting-zuc128 key iv a b hk hv parts tail l)
      (spends-128 (load₁₂₈ key iv) (cells-128 key iv hk hv) (start_outcome-128 key iv) (begins-zuc128 key iv a b))

  pub same-limit-eia3 : (count bearer direction : ℕ) (key : List ℕ) → length key ≡ 16 → Bytes key
      → Same (once_outcome-EIA3 count bearer direction key message L).number (Accepts-128 (start_outcome-EIA3 count bearer direction key) parts tail l)
      (Spends formed-128 finish_outcome-128 (start_outcome-EIA3 count bearer direction key).state parts tail l)
  same-limit-eia3 count bearer direction key a hk =
      let iv : List ℕ = IV-EIA3 count bearer direction in
      let sixteen : length iv ≡ 16 = iv-length count bearer direction in
      subst (λ (start : Outcome). Same (once_outcome-EIA3 count bearer direction key message L).number (Accepts-128 start parts tail l) (Spends formed-128 finish_outcome-128 start.state parts tail l))
      (begun-EIA3-is count bearer direction key)
      (subst (λ (o : Once ℕ). Same o.number (Accepts-128 (start_outcome-128 key iv) parts tail l) (Spends formed-128 finish_outcome-128 (start_outcome-128 key iv).state parts tail l))
      (once-EIA3-is count bearer direction key message L)
      (same-limit-zuc128 key iv a sixteen hk (iv-bytes count bearer direction)))

  pub same-limit-zuc256 : {w : ℕ} → Width w → (key iv : List ℕ) → length key ≡ 32 → length iv ≡ 23 → Bytes key → Bytes iv
      → Same (once_outcome-256 w key iv message L).number (Accepts-256 w (start_outcome-256 w key iv) parts tail l)
      (Spends formed finish_outcome-256 (start_outcome-256 w key iv).state parts tail l)
  unfolding begun-ZUC256
  same-limit-zuc256 {w} v key iv a b hk hv =
      let loaded : State = load₂₅₆ (row_of w) key iv in
      let σ = from_zero (started loaded) in
      let begun = begins-zuc256 v key iv a b in
      same (once_outcome-256 w key iv message L).number (drawn_by_tag-ZUC256 (w * 8) L) fits (once-256 key iv message L bits_fit v a b)
      (every-cutting-zuc256 v key iv a b hk hv parts tail l)
      (subst (λ (n : ℕ). Spends formed finish_outcome-256 (start_outcome-256 w key iv).state parts tail l ↔ (limit < n))
      (ap (λ (o : Outcome). o.state.count + words_to_close-ZUC256 (w * 8) 0 L) begun ∙ all-ZUC256 (w * 8) L)
      (spends-exactly (kind-256 v) tail l fits parts (begun-ZUC256 (w * 8) σ) (good-ZUC256 v σ (good_start loaded (cells-256 (row_of w) key iv (row-of w) hk hv)))
      (start_outcome-256 w key iv).state (ap (λ (o : Outcome). o.state.held) begun) (subst (λ (o : Outcome). o.state.count ≤ limit) (sym begun) (begun-low v))))
